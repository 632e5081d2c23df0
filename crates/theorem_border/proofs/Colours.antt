-- What a row comes to at the border is what it comes to at the words; what is read of a row is the rules' row. Assumes nothing.
use Rattle.std.proofs.Common.{ℕ, ◌/◌, zero-add, suc, ◌+◌, ◌<◌, arith, ◌≡◌, refl, sym, ap, ◌∙◌, true, ◌&&◌, cond, None, Some, List, [], ◌∷◌, map, eqb, get_or, length, ne_eqb, eqb-true}
use borrow.Author.Tests.{eqb-false}
use Rattle.rules.specs.Answers.{Answer, Done}
use Rattle.rules.specs.Boxes.{rows_of}
use Rattle.rules.specs.Commands.{Command, paint-fill, layer-fill, push-buf, pop-buf, DepthFill}
use Rattle.rules.specs.Rows.{Row, fresh-row}
use Rattle.rules.specs.Plans.{Frame, bucket, Step}
use Rattle.rules.specs.Steps.{Screen}
use Rattle.rules.specs.Painting.{received, no-fill, paint-id, layer-id}
use Rattle.rules.specs.Calls.{Canvas, begin-call}
use Rattle.screen.specs.Tables.{ScreenLent}
use Rattle.paint.specs.Judging.{wide}
use Rattle.paint.specs.Stepping.{part}
use Rattle.host.specs.State.{screen-at}
use Rattle.walk.specs.Steps.{rows_words}
use Rattle.rules_picture.specs.Turns.{Gave, said-finished}
use Rattle.rules_picture.specs.Colours.{Colours, drawn, nested}
use Rattle.rules_picture.specs.StoredColours.{newest-over, newest-id, stored-drawn}
use Rattle.rules_picture.proofs.Cases.{by}
use Rattle.rules_picture.proofs.CompactedFollows.{kept-on}
use Rattle.rules_picture.proofs.Recorded.{begin-done}
use Rattle.rules_picture.proofs.SamePicture.{closed-canvas}
use Rattle.rules_picture.proofs.StoredColours.{stored-alike, kept-stored}
use Rattle.host.specs.Reading.{cmd-parts, cmd_call, depth_call}
use Rattle.theorem_picture.specs.Turns as turns
use Rattle.theorem_picture.specs.Reached as reached
use Rattle.theorem_picture.specs.Rows as rows
use Rattle.theorem_picture.specs.Reached.{Reached, by-paint}
use Rattle.theorem_picture.specs.Picture as picture
use Rattle.theorem_picture.specs.Standing.{canvas-words}
use Rattle.theorem_picture.specs.Stored.{stored-row}
use Rattle.theorem_picture.specs.Colours.{nesting-at, words-drawn}
use Rattle.theorem_picture.proofs.Reached as proved
use Rattle.theorem_picture.proofs.Answers.{begin-answer}
use Rattle.theorem_picture.proofs.Rows.{called-stands}
use Rattle.theorem_picture.proofs.WordAt.{word-at}
use Rattle.theorem_picture.proofs.SamePicture as words
use Rattle.theorem_picture.proofs.SamePicture.{nesting-words, gentle-words, paint-id-words, layer-id-words}
use Rattle.theorem_border.specs.Hosted.{Host, Turn, Call, one-step, begin-at, paint-out, paint-at}
use Rattle.theorem_border.specs.Border.{gave-words, painted, log, finished}
use Rattle.theorem_border.specs.Held.{host-of, Holds}
use Rattle.theorem_border.specs.Reading.{HostStands}
use Rattle.theorem_border.specs.Colours.{nesting-read, steps-drawn, Gentle-host, cmd-said, depth-said, read-from, commands-read, fills-read, paint-id-read, layer-id-read, SamePicture, SameStored, WordRead}
use Rattle.theorem_border.proofs.Words.{hosted, begin-on, paint-done, paint-kept}
use Rattle.theorem_border.proofs.Holds.{holds}
use Rattle.theorem_border.proofs.Reading.{lengths-read, cmds-read, depths-read, progress-read}
use Rattle.theorem_border.proofs.Border.{gave-done, first_said, finished-too, or-either, finished-calls, called-words, width_read}

-- the nesting that is read is the painting word
nesting-same : (f : Frame) (xs : List Step) (l : ScreenLent) → Reached f xs l → (r : ℕ) → r < rows_of f.viewport → nesting-read r (host-of l) ≡ nesting-at l r
nesting-same f xs l z r h =
    let s = proved.reached z in
    let k = s.canvas in
    let there : r < length k.screen.rows = (kept-on f xs k.screen s.built r h).1 in
    let p = progress-read f xs (host-of l) (record { words = l; stands = s; same = refl }) r there (0 ∷ 0 ∷ []) in
    let row : r < length k.painters = rw s.whole.count there in
    ap (λ (a : Answer (List ℕ)). get_or a.value 1 0) p ∙ sym (ap (λ (m : ScreenLent). nesting-at m r) s.same ∙ nesting-words k r row)

module _ {B : Type 0} (c : Colours B) (f : Frame) (xs : List Step) (row tile : ℕ) (there : row < rows_of f.viewport) where
  -- picture's steps that draw what a host's steps draw
  record Steps (ts : List Turn) (l : ScreenLent) : Type 0 where
    calls : List turns.Turn
    words : painted (map one-step ts) (host-of l) ≡ host-of (turns.turned calls l)
    said : said-finished row (log (map one-step ts) (host-of l)) ≡ said-finished row (turns.log calls l)
    same : (bs : List B) → steps-drawn c row tile ts (host-of l) bs ≡ words-drawn c row tile calls l bs

  module _ (t : Turn) (ts : List Turn) (l : ScreenLent) (z : Reached f xs l) where
    abbrev after : ScreenLent
    after = reached.paint-at t.row t.list l

    done_step : (paint-out (one-step t) (host-of l)).number ≡ Done → Steps ts after → Steps (t ∷ ts) l
    unfolding painted log turns.turned turns.log steps-drawn words-drawn
    done_step e s =
        let w : paint-at (one-step t) (host-of l) ≡ host-of after = paint-done (one-step t) l e in
        let g = gave-done (one-step t) l e in
        let o = gave-words t.row (paint-out (one-step t) (host-of l)) in
        let k = turns.gave-out t.row (reached.paint-out t.row t.list l) in
        let n = nesting-same f xs l z row there in
        let m = nesting-same f xs after (by-paint t.row t.list z) row there in
        record {
          calls = record { row = t.row; list = t.list } ∷ s.calls;
          words = ap (painted (map one-step ts)) w ∙ s.words;
          said = ap (λ (x : Host). said-finished row (o ∷ log (map one-step ts) x)) w ∙ first_said o k _ _ row g s.said;
          same = λ bs.
              ap
              (λ (x : Host). steps-drawn c row tile ts x
              (cond (eqb t.row row && eqb o.number Done) (nested c (nesting-read row (host-of l)) (nesting-read row x) (drawn c (received tile o.pieces) bs)) bs)) w
              ∙ ap
              (λ (x : Gave). steps-drawn c row tile ts (host-of after)
              (cond (eqb t.row row && eqb x.number Done) (nested c (nesting-read row (host-of l)) (nesting-read row (host-of after)) (drawn c (received tile x.pieces) bs)) bs)) g
              ∙ ap
              (λ (i : ℕ). steps-drawn c row tile ts (host-of after)
              (cond (eqb t.row row && eqb k.number Done) (nested c i (nesting-read row (host-of after)) (drawn c (received tile k.pieces) bs)) bs)) n
              ∙ ap
              (λ (i : ℕ). steps-drawn c row tile ts (host-of after)
              (cond (eqb t.row row && eqb k.number Done) (nested c (nesting-at l row) i (drawn c (received tile k.pieces) bs)) bs)) m
              ∙ s.same _;
        }

    refused_step : ((paint-out (one-step t) (host-of l)).number ≡ Done → ⊥) → Steps ts l → Steps (t ∷ ts) l
    unfolding painted log said-finished steps-drawn
    refused_step n s =
        let w = paint-kept (one-step t) (host-of l) n in
        let q = ne_eqb _ _ n in
        record {
          calls = s.calls;
          words = ap (painted (map one-step ts)) w ∙ s.words;
          said = rw (w, q) (by (eqb t.row row) (λ y. rw y s.said) (λ y. rw y s.said));
          same = λ bs. rw (w, q) (by (eqb t.row row) (λ y. rw y (s.same bs)) (λ y. rw y (s.same bs)));
        }

  steps : (ts : List Turn) (l : ScreenLent) → Reached f xs l → Steps ts l
  steps [] l z =
      record {
        calls = [];
        words = unfold painted turns.turned in refl;
        said = unfold log turns.log in refl;
        same = λ bs. unfold steps-drawn words-drawn in refl;
      }
  steps (t ∷ ts) l z =
      by (eqb (paint-out (one-step t) (host-of l)).number Done)
      (λ y. done_step t ts l z (eqb-true _ _ y) (steps ts (reached.paint-at t.row t.list l) (by-paint t.row t.list z)))
      (λ n. refused_step t ts l z (eqb-false _ _ n) (steps ts l z))

pub same-picture : {B : Type 0} → SamePicture B
same-picture c f xs h z e ts r t there on fin op g =
    let y = holds z in
    let l = y.words in
    let q : begin-at h ≡ hosted (reached.begin-at l) = ap begin-at y.same ∙ begin-on l in
    let d : (reached.begin-at l).number ≡ Done = sym (ap (λ (a : Answer Host). a.number) q) ∙ e in
    let v : (begin-at h).value ≡ host-of (reached.begin-at l).value = ap (λ (a : Answer Host). a.value) q in
    let m = (reached.begin-at l).value in
    let s = steps c f xs r t there ts m (reached.by-begin y.reached) in
    let k : finished r (map one-step ts) (host-of m) ≡ true = sym (ap (finished r (map one-step ts)) v) ∙ fin in
    let n : picture.finished r s.calls m ≡ true =
    or-either (said-finished r (turns.log s.calls m)) _ _ (rw (s.said, s.words) at k) (finished-too (turns.turned s.calls m) r) in
    ap (λ (x : Host). steps-drawn c r t ts x (c.blank ∷ [])) v
    ∙ s.same (c.blank ∷ [])
    ∙ words.same-picture c f xs l y.reached d s.calls r t there on n op (rw y.same at g)

-- what is read is what was stored
cmd-back : (d : Command) → cmd-said (cmd-parts d) ≡ d
cmd-back (paint-fill s None i) = refl
cmd-back (paint-fill s (Some a) i) = refl
cmd-back (layer-fill s None i) = refl
cmd-back (layer-fill s (Some a) i) = refl
cmd-back (push-buf None) = refl
cmd-back (push-buf (Some s)) = refl
cmd-back pop-buf = refl

module _ {A : Type 0} (g : ℕ → A) (none : A) where
  read-list : (xs : List A) (i : ℕ) → ((j : ℕ) → j < length xs → g (i + j) ≡ get_or xs j none) → read-from g i (length xs) ≡ xs
  unfolding read-from
  read-list [] i e = refl
  read-list (x ∷ xs) i e =
      let p : g i ≡ x = ap g (let z : i ≡ i + 0 = omega arith in z) ∙ e 0 (omega arith) in
      let q = read-list xs (suc i) (λ j h. let z : suc i + j ≡ i + suc j = omega arith in ap g z ∙ e (suc j) (omega arith)) in
      ap (λ (y : A). y ∷ read-from g (suc i) (length xs)) p ∙ ap (λ (ys : List A). x ∷ ys) q

module _ (f : Frame) (xs : List Step) (h : Host) (s : HostStands f xs h) (r : ℕ) (there : r < length s.stands.canvas.screen.rows) where
  abbrev k : Canvas
  k = s.stands.canvas

  abbrev cmd-at : ℕ → Command
  cmd-at i = cmd-said (cmd_call r (rows_words h.tables) i h.state (0 ∷ 0 ∷ 0 ∷ 0 ∷ 0 ∷ [])).value

  abbrev depth-at : ℕ → DepthFill
  depth-at i = depth-said (depth_call r (rows_words h.tables) i h.state (0 ∷ 0 ∷ 0 ∷ [])).value

  commands-back : commands-read r h ≡ (stored-row k r).commands
  commands-back =
      let n = lengths-read f xs h s r there (0 ∷ 0 ∷ []) in
      ap (λ (a : Answer (List ℕ)). read-from cmd-at 0 (get_or a.value 0 0)) n
      ∙ read-list cmd-at pop-buf (stored-row k r).commands 0
      (λ j y.
      ap cmd-at (zero-add j) ∙ ap (λ (a : Answer (List ℕ)). cmd-said a.value) (cmds-read f xs h s r there (0 ∷ 0 ∷ 0 ∷ 0 ∷ 0 ∷ []) j y)
      ∙ cmd-back (get_or (stored-row k r).commands j pop-buf))

  fills-back : fills-read r h ≡ (stored-row k r).fills
  fills-back =
      let n = lengths-read f xs h s r there (0 ∷ 0 ∷ []) in
      ap (λ (a : Answer (List ℕ)). read-from depth-at 0 (get_or a.value 1 0)) n
      ∙ read-list depth-at no-fill (stored-row k r).fills 0
      (λ j y. ap depth-at (zero-add j) ∙ ap (λ (a : Answer (List ℕ)). depth-said a.value) (depths-read f xs h s r there (0 ∷ 0 ∷ 0 ∷ []) j y))

  held : h ≡ host-of (canvas-words k)
  held = s.same ∙ ap host-of s.stands.same

  paint-ids : (i : ℕ) → paint-id-read h i ≡ paint-id k.screen.state.attrs i
  paint-ids i = ap (λ (x : Host). paint-id-read x i) held ∙ paint-id-words k i

  layer-ids : (i : ℕ) → layer-id-read h i ≡ layer-id k.screen.state.attrs i
  layer-ids i = ap (λ (x : Host). layer-id-read x i) held ∙ layer-id-words k i

-- after painting is begun, and any calls, stands a canvas with the screen that stood before
painted-stands : {f : Frame} {xs : List Step} {h : Host} (y : Holds f xs h) → (begin-at h).number ≡ Done → (cs : List Call)
    → (s : HostStands f xs (painted cs (begin-at h).value)) × (s.stands.canvas.screen ≡ (proved.reached y.reached).canvas.screen)
painted-stands {h = h} y e cs =
    let l = y.words in
    let q : begin-at h ≡ hosted (reached.begin-at l) = ap begin-at y.same ∙ begin-on l in
    let d : (reached.begin-at l).number ≡ Done = sym (ap (λ (a : Answer Host). a.number) q) ∙ e in
    let w = called-words cs l in
    let t = called-stands (proved.reached y.reached) d w.calls in (
      record {
        words = rows.called w.calls (reached.begin-at l).value;
        stands = t.0;
        same = ap (λ (u : Host). painted cs (begin-at u).value) y.same ∙ w.words;
      },
      t.1,
    )

-- painting alters no layer attribute
painted-gentle : {B : Type 0} (c : Colours B) (cs : List Call) (h : Host) → Gentle-host c h → Gentle-host c (painted cs h)
unfolding painted
painted-gentle c [] h g = g
painted-gentle c (d ∷ cs) h g = painted-gentle c cs (paint-at d h) g

begin-gentle : {B : Type 0} (c : Colours B) (h : Host) → Gentle-host c h → Gentle-host c (begin-at h).value
unfolding begin-at
begin-gentle c h g = g

pub same-stored-read : {B : Type 0} → SameStored B
same-stored-read c f xs h z e cs r t there on op g =
    let y = holds z in
    let l = y.words in
    let st = proved.reached y.reached in
    let q : begin-at h ≡ hosted (reached.begin-at l) = ap begin-at y.same ∙ begin-on l in
    let d : (begin-call st.canvas).number ≡ Done = sym (ap (λ (a : Answer ScreenLent). a.number) (begin-answer st)) ∙ sym (ap (λ (a : Answer Host). a.number) q) ∙ e in
    let x = painted cs (begin-at h).value in
    let (s, one) = painted-stands y e cs in
    let k = s.stands.canvas in
    let d2 : (begin-call k).number ≡ Done = begin-done k (ap (λ (u : Screen Row). u.state.layers) one ∙ closed-canvas st.canvas d) in
    let row : r < length k.screen.rows = (kept-on f xs k.screen s.stands.built r there).1 in
    let g2 = painted-gentle c cs (begin-at h).value (begin-gentle c h g) in
    ap (λ (fs : List DepthFill). stored-drawn c (paint-id-read x) (layer-id-read x) t (bucket f) fs (commands-read r x) (c.blank ∷ [])) (fills-back f xs x s r row)
    ∙ ap (λ (ds : List Command). stored-drawn c (paint-id-read x) (layer-id-read x) t (bucket f) (stored-row k r).fills ds (c.blank ∷ [])) (commands-back f xs x s r row)
    ∙ stored-alike c t (paint-ids f xs x s r row) (layer-ids f xs x s r row) (bucket f) (stored-row k r).fills (stored-row k r).commands (c.blank ∷ [])
    ∙ kept-stored c f xs k s.stands.built d2 r t there on op (gentle-words c r t k (rw (held f xs x s r row) at g2))

newest-alike-read : (p q : ℕ → ℕ) → ((i : ℕ) → p i ≡ q i) → (ds : List DepthFill) → newest-id p ds ≡ newest-id q ds
newest-alike-read p q e [] = refl
newest-alike-read p q e (d ∷ ds) = e d.attribute

pub word-read : WordRead
word-read f xs h z e cs r t there on fin =
    let y = holds z in
    let l = y.words in
    let st = proved.reached y.reached in
    let a = st.canvas.screen.state.attrs in
    let q : begin-at h ≡ hosted (reached.begin-at l) = ap begin-at y.same ∙ begin-on l in
    let d : (reached.begin-at l).number ≡ Done = sym (ap (λ (x : Answer Host). x.number) q) ∙ e in
    let fc = finished-calls r cs l (rw y.same at fin) in
    let x = painted cs (begin-at h).value in
    let m = rows.called fc.calls (reached.begin-at l).value in
    let w : x ≡ host-of m = ap (λ (u : Host). painted cs (begin-at u).value) y.same ∙ fc.words in
    let (s, one) = painted-stands y e cs in
    let k = s.stands.canvas in
    let row : r < length k.screen.rows = (kept-on f xs k.screen s.stands.built r there).1 in
    let b = t / bucket f in
    let at-words : get_or (part (wide (screen-at (host-of m).state)) r m.tables.depth.words) b 0 ≡ newest-id (paint-id a) (newest-over b (stored-row st.canvas r).fills) =
    rw (width_read m.screen.width) (word-at f xs l st d fc.calls r t there on fc.finished) in
    let fills : fills-read r x ≡ (stored-row st.canvas r).fills = fills-back f xs x s r row ∙ ap (λ (u : Screen Row). (get_or u.rows r fresh-row).fills) one in
    let ids : (i : ℕ) → paint-id-read x i ≡ paint-id a i = λ i. paint-ids f xs x s r row i ∙ ap (λ (u : Screen Row). paint-id u.state.attrs i) one in
    ap (λ (u : Host). get_or (part (wide (screen-at u.state)) r u.tables.depth.words) b 0) w
    ∙ at-words
    ∙ sym (ap (λ (fs : List DepthFill). newest-id (paint-id-read x) (newest-over b fs)) fills ∙ newest-alike-read (paint-id-read x) (paint-id a) ids (newest-over b (stored-row st.canvas r).fills))
