-- A file's bytes: where its call refuses them there are no details, and where it does not the tables hold the rules' screen, so that the details are the rules'. Assumes nothing.
use Rattle.std.proofs.Common.{◌≡◌, refl, sym, ap, ◌∙◌, Bool, true, false, cond, List, [], ◌∷◌, ◌++◌, append-nil, ℕ, ◌+◌, ◌-◌, ◌*◌, ◌≤◌, ◌<◌, arith, eqb, length, get_or, take, drop, length-append, length-drop, eq-eqb, ne_eqb, Ok, Err}
use borrow.Rule.Slice.PartMut.{put_mid}
use Rattle.sizes.specs.declared.edition.Edition.{Edition}
use Rattle.rules.specs.Recording.{File, in-edition}
use Rattle.rules.specs.Answers.{Answer, Done}
use Rattle.rules.specs.Boxes.{Box, rows_of}
use Rattle.rules.specs.Rows.{Row, fresh-row}
use Rattle.rules.specs.Plans.{Frame, buckets-across}
use Rattle.rules.specs.Minima.{minima-room}
use Rattle.rules.specs.Setups.{Setup}
use Rattle.rules.specs.Steps.{Screen, reset}
use Rattle.rules.specs.Lines.{rowlist-screen, rowlist-place, digits}
use Rattle.rules.specs.Lines as rules
use Rattle.rect.specs.Rects.{box_of}
use Rattle.screen.specs.declared.Screen as declared
use Rattle.screen.specs.Screens.{frame-of}
use Rattle.screen.specs.Depths.{Depths}
use Rattle.screen.specs.Tables.{Tables, ScreenLent}
use Rattle.file.specs.Words.{words-in}
use Rattle.text.proofs.Bytes.{by-file}
use Rattle.text.proofs.Lengths.{plus, digits-few}
use Rattle.text.specs.Details.{detail-lines, rowdump-words}
use Rattle.text.specs.Bytes.{details-text}
use Rattle.text.specs.Pieces.{piece-list}
use Rattle.sizes.specs.declared.answers.Refusal.{Refusal}
use Rattle.sizes.specs.declared.answers.Refusal.TheVariants as refusal
use Rattle.sizes.specs.Refusals.{number_of}
use Rattle.sizes.proofs.Refusals.{not_done}
use Rattle.text.specs.declared.recording.Size.{Size}
use Rattle.text.specs.Files.{Text as FileText, nothing, FileOut, file-out, shows-as, refusing, Usual, Exact, size_of, good-bytes, file-size, recording-text, bytes-text}
use Rattle.text.proofs.FileTexts.{sized-shown, refused-shown}
use Rattle.refine_steps.specs.Lent.{lent_of, Holds}
use Rattle.refine_text.proofs.Files.{usual-frame, Left, Leaves, words-print, words-leave, file-few}
use Rattle.theorem_text.proofs.Small.{words_small}
use Rattle.theorem_text.proofs.Played.{Ended, play-ended}
use Rattle.text_files.proofs.Laws.{rowlist-shown}
use Rattle.text_files.specs.Programs.{rowlist-text, first}
use Rattle.text_dump.specs.Rowdump.{recording-line, rowdump-lines, file-lines-text, Printed}
use Rattle.text_dump.specs.Dumped.{list-room, details-room, lines-room, PartWritten, details-dumped, heads, given}
use Rattle.text_dump.proofs.Parts.{mid-all, put_all}
use Rattle.text_dump.proofs.First.{Says, first-dropped, first-long, first_two}
use Rattle.text_dump.proofs.Details.{details-are}

-- the tables after a file's call hold the rules' screen: its details are the rules'
module _ (d : Bool) (s : Screen Row) (z : Size) (u : Tables) (h : Exact z u) (x : declared.Screen) (o : FileOut) (l : Left s z o) (ex : x ≡ o.showed.text.screen) (eu : u ≡ o.tables)
    (ended : Ended s) where
  abbrev v : Box
  v = l.viewport

  abbrev held : Holds s l.words
  held = l.refines.holds

  abbrev m : ScreenLent
  m = lent_of s held.begun held.depth held.painting

  screen-there : x ≡ m.screen
  screen-there = ex ∙ l.screen ∙ ap (λ (q : ScreenLent). q.screen) held.same

  tables-there : u ≡ m.tables
  tables-there = eu ∙ l.tables ∙ ap (λ (q : ScreenLent). q.tables) held.same

  frame-there : frame-of m.screen ≡ s.state.frame
  unfolding lent_of
  frame-there = refl

  rows-there : rows_of (box_of x.viewport) ≡ length s.rows
  rows-there = ap (λ (y : declared.Screen). rows_of (frame-of y).viewport) screen-there ∙ ap (λ (f : Frame). rows_of f.viewport) frame-there ∙ sym l.kept.sound.count

  -- the words of painting have the lengths that the screen asks for
  depth-there : m.tables.depth ≡ held.depth
  unfolding lent_of
  depth-there = refl

  painting-there : m.tables.painting ≡ held.painting
  unfolding lent_of
  painting-there = refl

  depth-long : length held.depth.words ≡ rows_of s.state.frame.viewport * buckets-across s.state.frame
  depth-long =
      sym (ap (λ (t : Tables). length t.depth.words) tables-there ∙ ap (λ (q : Depths). length q.words) depth-there)
      ∙ h.depth
      ∙ ap (λ (y : Size). y.rows * y.buckets) l.size
      ∙ sym (ap (λ (f : Frame). rows_of f.viewport * buckets-across f) l.kept.frame)

  minima-long : length held.depth.minima ≡ rows_of s.state.frame.viewport * minima-room (buckets-across s.state.frame)
  minima-long =
      sym (ap (λ (t : Tables). length t.depth.minima) tables-there ∙ ap (λ (q : Depths). length q.minima) depth-there)
      ∙ h.minima
      ∙ ap (λ (y : Size). y.rows * minima-room y.buckets) l.size
      ∙ sym (ap (λ (f : Frame). rows_of f.viewport * minima-room (buckets-across f)) l.kept.frame)

  painting-long : length held.painting ≡ rows_of s.state.frame.viewport * 2
  painting-long =
      sym (ap (λ (t : Tables). length t.painting) tables-there ∙ ap (λ (q : List ℕ). length q) painting-there)
      ∙ h.painting
      ∙ ap (λ (y : Size). y.rows * 2) l.size
      ∙ sym (ap (λ (f : Frame). rows_of f.viewport * 2) l.kept.frame)

  -- What `screen_text` writes of them is the text of the rules' details.
  pub screen-says : (list : List ℕ) → piece-list ≤ length list → (bs : List ℕ) → details-room ≤ length bs
      → Says (details-text d (detail-lines s)) bs (details-dumped d x (rows_of (box_of x.viewport)) (heads u) (given u list) bs)
  screen-says list long bs room =
      let t = tables-there in
      rw (rows-there, screen-there, tables-there)
      (details-are d (usual-frame v l.width) s l.kept refl refl l.few ended held.begun held.depth held.painting
      (sym (ap (λ (q : Tables). length q.paint-attrs) t) ∙ h.paint-attrs)
      (sym (ap (λ (q : Tables). length q.layer-attrs) t) ∙ h.layer-attrs)
      (sym (ap (λ (q : Tables). length q.opacities) t) ∙ h.opacities)
      (sym (ap (λ (q : Tables). length q.filter-paints) t) ∙ h.filter-paints)
      depth-long minima-long painting-long list long bs room)

done-lines : (a : Answer (Screen Row)) → a.number ≡ 0 → cond (eqb a.number Done) (detail-lines a.value) [] ≡ detail-lines a.value
done-lines a z = rw (eq-eqb a.number 0 z)

dumped-lines : (q : Setup) (f : File) → (rowlist-screen q f).number ≡ 0 → rowdump-words q f ≡ detail-lines (rowlist-screen q f).value
unfolding rowdump-words
dumped-lines q f z = done-lines (rowlist-screen q f) z

module _ (ed : Edition) (q : Setup) (usual : Usual q) (fs : List ℕ) where
  -- the file
  abbrev words : File
  words = in-edition ed (words-in fs)

  by-lines : rowdump-lines ed q fs ≡ cond (good-bytes (length fs)) (rowdump-words q words) []
  unfolding rowdump-lines
  by-lines = by-file [] (λ ws. rowdump-words q (in-edition ed ws)) fs

  -- a file without a size has no details
  pub sizeless : {r : Refusal} → Err r ≡ file-size ed fs q → (bs : List ℕ) → 264256 ≤ length bs → rowdump-lines ed q fs ≡ []
  unfolding file-size rowdump-words
  sizeless {r} h bs room = rw by-lines (go (good-bytes (length fs)) h)
    where
      go : (b : Bool) → Err r ≡ cond b (size_of words q) (Err refusal.BadForm) → cond b (rowdump-words q words) [] ≡ []
      go true i =
          let p = (words-print q usual words bs room).number in
          let e : number_of r ≡ (rowlist-screen q words).number = unfold refusing in (rw (← i) at p) in
          rw (ne_eqb (rowlist-screen q words).number 0 (λ z. not_done r (e ∙ z)))
      go false i = refl

  -- .. another has the words' details, and their size
  pub record Accepted (z : Size) : Type 0 where
    pub lines : rowdump-lines ed q fs ≡ rowdump-words q words
    pub size : Ok z ≡ size_of words q

  pub sized_file : {z : Size} → Ok z ≡ file-size ed fs q → Accepted z
  unfolding file-size
  sized_file {z} h = go (good-bytes (length fs)) by-lines h
    where
      go : (b : Bool) → rowdump-lines ed q fs ≡ cond b (rowdump-words q words) [] → Ok z ≡ cond b (size_of words q) (Err refusal.BadForm) → Accepted z
      go true e i = record { lines = e; size = i }
      go false e i = cc

-- The whole text of a file: where it has no size, where its recording is refused, and where the details stand after its lines.
module _ (v : Bool) (ed : Edition) (q : Setup) (usual : Usual q) (fs : List ℕ) (bs : List ℕ) (room : lines-room ≤ length bs) where
  enough : list-room ≤ length bs
  enough = omega arith

  module _ {x : FileText} {cs : List ℕ} (e : shows-as x cs ≡ bytes-text ed fs q bs) where
    lines : (x.bytes ≡ length (rowlist-text ed q fs)) × (cs ≡ first (rowlist-text ed q fs) bs)
    lines = rowlist-shown ed q usual fs bs enough e

    lines-few : x.bytes ≤ list-room
    lines-few = rw lines.0 (file-few ed q usual fs bs enough)

    lines_long : x.bytes ≤ length cs
    lines_long = rw (lines.1, first-long (rowlist-text ed q fs) bs (omega (arith, lines.0, lines-few))) (omega (arith, lines-few))

    no-details : rowdump-lines ed q fs ≡ [] → Printed (file-lines-text v ed q fs) bs x.bytes cs
    no-details d =
        let whole : file-lines-text v ed q fs ≡ rowlist-text ed q fs = rw (d, append-nil (rowlist-text ed q fs)) in
        record { count = rw whole lines.0; bytes = rw whole lines.1; few = omega (arith, lines-few) }

  pub unsized-whole : {r : Refusal} {s : declared.Screen} {x : FileText} {cs : List ℕ} → Err r ≡ file-size ed fs q → s ≡ nothing → shows-as x cs ≡ refusing (number_of r) s bs
      → Printed (file-lines-text v ed q fs) bs x.bytes cs
  unsized-whole h i g = no-details (refused-shown ed fs q bs h i g) (sizeless ed q usual fs h bs enough)

  -- in tables t of its screen's size
  module _ {z : Size} (sized : Ok z ≡ file-size ed fs q) {t : Tables} (exact : Exact z t) {ws : List ℕ} (words : ws ≡ words-in fs)
      {x : FileText} {cs : List ℕ} {u : Tables} (e : file-out (shows-as x cs) u ≡ recording-text (in-edition ed ws) q t bs) where
    abbrev answer-of : Answer (Screen Row)
    answer-of = rowlist-screen q (in-edition ed (words-in fs))

    abbrev accepted : Accepted ed q usual fs z
    accepted = sized_file ed q usual fs sized

    there : file-out (shows-as x cs) u ≡ recording-text (in-edition ed (words-in fs)) q t bs
    there = rw words at e

    leaves : Leaves answer-of z bs (recording-text (in-edition ed (words-in fs)) q t bs)
    leaves = words-leave q usual (in-edition ed (words-in fs)) bs enough accepted.size t exact

    shown : shows-as x cs ≡ bytes-text ed fs q bs
    shown = sized-shown ed fs q bs sized exact there

    number_is : x.number ≡ answer-of.number
    number_is = ap (λ (o : FileOut). o.showed.text.number) there ∙ leaves.prints.number

    pub call-long : x.bytes ≤ length cs
    call-long = lines_long shown

    pub refused-whole : (x.number ≡ 0 → ⊥) → Printed (file-lines-text v ed q fs) bs x.bytes cs
    refused-whole n = no-details shown (accepted.lines ∙ (unfold rowdump-words in rw (ne_eqb answer-of.number 0 (λ y. n (number_is ∙ y)))))

    pub accepted-whole : ((i : ℕ) → get_or fs i 0 < 256) → Exact z u → x.number ≡ 0 → (list : List ℕ) → piece-list ≡ length list → {j m : ℕ} {ds : List ℕ}
        → PartWritten j ds (details-dumped v x.screen (rows_of (box_of x.screen.viewport)) (heads u) (given u list) (take (m - x.bytes) (drop x.bytes cs)))
        → j ≤ length (take (m - x.bytes) (drop x.bytes cs)) → m ≡ length cs → Printed (file-lines-text v ed q fs) bs (x.bytes + j) (put_mid x.bytes (m - x.bytes) cs ds)
    accepted-whole byte hu y list long {j} {m} {ds} g f k =
        let done : answer-of.number ≡ 0 = sym number_is ∙ y in
        let rest = drop x.bytes cs in
        let rs = rowlist-text ed q fs in
        let few = lines-few shown in
        let (count-is, bytes-are) = lines shown in
        let same_rest : rest ≡ drop (length rs) (first rs bs) = rw (count-is, bytes-are) in
        let roomy-rest : details-room ≤ length rest = rw (same_rest, first-dropped rs bs, length-drop) (omega (arith, few, count-is)) in
        let i : PartWritten j ds (details-dumped v x.screen (rows_of (box_of x.screen.viewport)) (heads u) (given u list) rest) = rw (k, mid-all x.bytes cs) at g in
        let ended : Ended answer-of.value = play-ended (rowlist-place q (in-edition ed (words-in fs))) (reset fresh-row rules.nothing) (in-edition ed (words-in fs)) (words_small fs byte) done in
        let says = screen-says v answer-of.value z u hu x.screen (recording-text (in-edition ed (words-in fs)) q t bs) (leaves.left done) (ap (λ (o : FileOut). o.showed.text.screen) there) (ap (λ (o : FileOut). o.tables) there) ended list (omega arith) rest roomy-rest in
        let own : rowdump-lines ed q fs ≡ detail-lines answer-of.value = accepted.lines ∙ dumped-lines q (in-edition ed (words-in fs)) done in
        let count : j ≡ length (details-text v (rowdump-lines ed q fs)) = i.count ∙ says.count ∙ rw own in
        let bytes : ds ≡ first (details-text v (rowdump-lines ed q fs)) rest = i.bytes ∙ says.bytes ∙ rw own in
        let rest-few : j ≤ length rest = rw (k, mid-all x.bytes cs) at f in
        let cs-long : length cs ≡ length bs = ap (λ (o : List ℕ). length o) bytes-are ∙ first-long rs bs (omega (arith, few, count-is)) in
        record {
          count = rw (count-is, count) (sym (length-append rs (details-text v (rowdump-lines ed q fs))));
          bytes = rw (k, put_all x.bytes cs ds, bytes, count-is, bytes-are) (first_two rs bs (details-text v (rowdump-lines ed q fs)));
          few = omega (arith, rest-few, length-drop x.bytes cs, cs-long, few);
        }

-- the first line, then the file's
pub line-few : (i : ℕ) → length (recording-line i) ≤ 31
unfolding recording-line
line-few i = let e = plus {a = 20} {b = 1} (digits 20 i) (10 ∷ []) (digits-few 20 i) (omega arith) in omega (arith, e)

pub whole-text : (i : ℕ) (ts bs : List ℕ) {k : ℕ} {cs : List ℕ} → k ≡ length (recording-line i) → cs ≡ first (recording-line i) bs → {j m : ℕ} {ds : List ℕ}
    → j ≡ length ts → ds ≡ first ts (take (m - k) (drop k cs)) → m ≡ length cs
    → (k + j ≡ length (recording-line i ++ ts)) × (put_mid k (m - k) cs ds ≡ first (recording-line i ++ ts) bs)
whole-text i ts bs {k} {cs} h e {j} {m} {ds} n g y =
    let b : ds ≡ first ts (drop k cs) = rw (y, mid-all k cs) at g in (
      rw (h, n) (sym (length-append (recording-line i) ts)),
      rw (y, put_all k cs ds, b, h, e) (first_two (recording-line i) bs ts),
    )
