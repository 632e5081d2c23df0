-- Editing one line of the screen, at the lent words: the words of a row are a function of the rules' row, and the pieces those of its painting. Assumes nothing.
use Rattle.std.proofs.Common.{◌≡◌, refl, sym, ap, ◌∙◌, subst, Bool, true, false, cond, List, [], map, ℕ, ◌+◌, ◌/◌, ◌<◌, eqb, length}
use Rattle.rules.specs.Answers.{Answer, Done}
use Rattle.rules.specs.Boxes.{Box, rows_of}
use Rattle.rules.specs.Rows.{Row, fresh-row, row-ops}
use Rattle.rules.specs.Plain.{plain}
use Rattle.rules.specs.Plans.{Frame, bucket, buckets-across, Step}
use Rattle.rules.specs.Steps.{Screen, reset, call}
use Rattle.rules.specs.Setups.{Setup, frame}
use Rattle.rules.specs.Recording.{Recording, File}
use Rattle.rules.specs.Walk.{walk-all}
use Rattle.rules.specs.Logged.{Logged, logged-call, walk-logged}
use Rattle.rules.specs.Calls.{Canvas, begin-call}
use Rattle.screen.specs.Depths.{Depths, blank}
use Rattle.screen.specs.Judging.{judged_reset}
use Rattle.screen.specs.Tables.{zeros, lengths, ScreenLent, reset_to}
use Rattle.walk.specs.Steps.{call_at}
use Rattle.walk.specs.Recorded.{recorded}
use Rattle.rules.proofs.laws.Answers.{settle-number}
use Rattle.refine_steps.specs.Sound.{Sound}
use Rattle.refine_steps.specs.Lent.{lent_of, answer-of}
use Rattle.refine_steps.proofs.Kept.{call-sound}
use Rattle.refine_steps.proofs.Refined.{stepped}
use Rattle.refine_steps.proofs.Reset.{fresh-sound, fresh-words}
use Rattle.rules.proofs.Follows.{Follow, walk-follows}
use Rattle.refine_paint.proofs.Kept.{own-words}
use Rattle.refine_paint.proofs.Whole.{begin-whole}
use Rattle.rules_picture.specs.Built.{Built}
use Rattle.rules_picture.specs.Turns as rule
use Rattle.rules_picture.specs.Turns.{Gave, from, has-finished, painted}
use Rattle.rules_picture.specs.Recorded.{said}
use Rattle.rules_picture.specs.Edited.{Edited, SameRow}
use Rattle.rules_picture.proofs.Walked.{all-walks}
use Rattle.rules_picture.proofs.Picture.{built-on}
use Rattle.rules_picture.proofs.Turns.{begun-there}
use Rattle.rules_picture.proofs.Edited.{row-unchanged, line-listed}
use Rattle.rules_picture.proofs.EditedFiles.{edited-histories, line-painted}
use Rattle.theorem_picture.specs.Reached.{ReachedAlone, begin-at}
use Rattle.theorem_picture.specs.Standing.{canvas-words, StandsAlone}
use Rattle.theorem_picture.specs.Turns.{turn-of, log}
use Rattle.theorem_picture.specs.Picture.{finished}
use Rattle.theorem_picture.specs.Rows.{Call, call-log, row-finished}
use Rattle.theorem_picture.specs.Edited.{SameLine, frame-in, EditedPair, LineWords, LinePieces, LineListed}
use Rattle.theorem_picture.proofs.Answers.{begin-answer}
use Rattle.theorem_picture.proofs.Turns.{log-words}
use Rattle.theorem_picture.proofs.Picture.{finished-rules}
use Rattle.theorem_picture.proofs.Reached.{reached}
use Rattle.theorem_picture.proofs.Recorded.{Taken, taken-reached, taken-begins, recorded-taken}
use Rattle.theorem_picture.proofs.Rows.{calls-turns}

-- two screens that have row i in common, and all of their states
same-line : (u v : Screen Row) (i : ℕ) → SameRow i u v → u.state.frame ≡ v.state.frame → u.state.layers ≡ v.state.layers → i < length u.rows → i < length v.rows
    → (de : Depths) (pa : List ℕ) (ed : Depths) (ap' : List ℕ) → SameLine u.state.frame i (lent_of u false de pa) (lent_of v false ed ap')
unfolding lent_of
same-line u v i same frames layers here there de pa ed ap' =
    record {
      row = own-words u i here ∙ rw (frames, same.row) (sym (own-words v i there));
      screen = rw (frames, same.next, same.attrs, layers);
      layers = rw layers;
      opacities = rw (same.attrs, layers);
      paint-attrs = rw same.attrs;
      layer-attrs = rw same.attrs;
      filter-paints = rw same.attrs;
    }

-- words that are those of a logged screen, on which painting has not begun
record Left (s : Logged Row) (l : ScreenLent) : Type 0 where
  depth : Depths
  painting : List ℕ
  sound : Sound s.screen
  same : l ≡ lent_of s.screen false depth painting

step-left : (x : Step) → Follow Left (logged-call Row row-ops x) (call_at x)
unfolding logged-call
step-left x s l h =
    let e : call_at x l ≡ answer-of (call Row row-ops x s.screen) false h.depth h.painting = ap (call_at x) h.same ∙ stepped x s.screen h.sound false h.depth h.painting in
    record {
      number = ap (λ (a : Answer ScreenLent). a.number) e;
      value = λ z. record {
        depth = h.depth;
        painting = h.painting;
        sound = call-sound x s.screen h.sound;
        same = ap (λ (a : Answer ScreenLent). a.value) e ∙ never-begun (eqb (call Row row-ops x s.screen).number Done) (call Row row-ops x s.screen).value h.depth h.painting;
      };
    }
  where
    never-begun : (b : Bool) (s : Screen Row) (de : Depths) (pa : List ℕ) → lent_of s (cond b false false) de pa ≡ lent_of s false de pa
    never-begun true s de pa = refl
    never-begun false s de pa = refl

-- the walk of a recording, from the reset of a frame
module _ (f : Frame) (r : Recording) where
  abbrev logged : Answer (Logged Row)
  logged = walk-logged Row row-ops fresh-row f r

  logged-built : logged.number ≡ Done → Built logged.value.log (reset fresh-row f) logged.value.screen × (logged.value.screen.state.layers ≡ [])
  unfolding walk-logged
  logged-built d =
      let k = (all-walks r).at (record { screen = reset fresh-row f; log = [] }) (unfold reset in refl) in
      let b : Built logged.value.log (reset fresh-row f) logged.value.screen = unfold walk-logged in rw k.log (k.built d) in
      (b, k.layers d)

  logged-left : (l : ScreenLent) → (reset_to f l).number ≡ Done → logged.number ≡ Done → Left logged.value (walk-all ScreenLent call_at r (reset_to f l).value).value
  unfolding walk-logged reset_to
  logged-left l e d =
      let z = sym (settle-number (judged_reset f (lengths l.tables)) l _) ∙ e in
      (walk-follows Left (logged-call Row row-ops) call_at step-left r (record { screen = reset fresh-row f; log = [] }) (reset_to f l).value
      (record {
        depth = blank (rows_of f.viewport) (buckets-across f) l.tables.depth;
        painting = zeros 0 l.tables.painting;
        sound = fresh-sound f l z;
        same = ap (λ (a : Answer ScreenLent). a.value) (fresh-words f l z);
      })).value d

-- a row that has finished at reached words has given what the rules' painting of the canvas gives, by some turns
record Gives (i : ℕ) (k : Canvas) (cs : List Call) (l : ScreenLent) : Type 0 where
  begins : (begin-call k).number ≡ Done
  turns : List rule.Turn
  finished : has-finished (painted turns k).canvas i ≡ true
  gave : from i (call-log cs (begin-at l).value) ≡ from i (painted turns k).log

gives : {f : Frame} {xs : List Step} {l : ScreenLent} (s : StandsAlone f xs l) → (begin-at l).number ≡ Done → (i : ℕ) → i < rows_of f.viewport
    → (cs : List Call) → row-finished i cs (begin-at l).value ≡ true → Gives i s.canvas cs l
gives {f = f} {xs = xs} {l = l} s e i there cs fin =
    let k = s.canvas in
    let z = calls-turns cs (begin-at l).value in
    let y : finished i z.turns (begin-at l).value ≡ true = rw (z.said i, z.words) fin in
    let q = begin-answer s in
    let d : (begin-call k).number ≡ Done = sym (ap (λ (a : Answer ScreenLent). a.number) q) ∙ e in
    let v : (begin-at l).value ≡ canvas-words (begin-call k).value = ap (λ (a : Answer ScreenLent). a.value) q in
    let w = begin-whole k s.whole in
    let row = begun-there k i d (built-on f xs k.screen s.built i there).1 in
    record {
      begins = d;
      turns = map turn-of z.turns;
      finished = finished-rules z.turns (begin-call k).value w i row (sym (ap (finished i z.turns) v) ∙ y);
      gave = sym (z.pieces i) ∙ ap (λ (m : ScreenLent). from i (log z.turns m)) v ∙ ap (from i) (log-words z.turns (begin-call k).value w);
    }

-- two reached screens whose histories are edits of one another outside row i
reached-pieces : {f : Frame} {xs ys : List Step} {l m : ScreenLent} → ReachedAlone f xs l → ReachedAlone f ys m → (begin-at l).number ≡ Done → (begin-at m).number ≡ Done
    → (i : ℕ) → i < rows_of f.viewport → Edited (i + f.viewport.y0 / 4) [] xs ys
    → (cs ds : List Call) → row-finished i cs (begin-at l).value ≡ true → row-finished i ds (begin-at m).value ≡ true
    → from i (call-log cs (begin-at l).value) ≡ from i (call-log ds (begin-at m).value)
reached-pieces {f = f} {xs = xs} {ys = ys} r p e h i there edits cs ds fin end =
    let s = reached r in
    let t = reached p in
    let a = gives s e i there cs fin in
    let b = gives t h i there ds end in
    let (u, here) = built-on f xs s.canvas.screen s.built i there in
    let (v, here') = built-on f ys t.canvas.screen t.built i there in
    a.gave
    ∙ line-painted s.canvas t.canvas i (row-unchanged f i there xs ys edits s.canvas.screen t.canvas.screen s.built t.built) (u ∙ sym v) a.begins b.begins here here' a.turns b.turns a.finished b.finished
    ∙ sym b.gave

module _ (ws vs : File) (q : Setup) (i : ℕ) (l m : ScreenLent) (e : EditedPair ws vs q i l m) where
  abbrev f : Frame
  f = frame-in q e.one

  abbrev g : Frame
  g = frame-in q e.other

  fit : f ≡ g
  fit = ap (λ (v : Box). frame q v) e.edited.viewport

  abbrev one : Taken ws e.one q l (recorded ws q l).value
  one = recorded-taken ws q l e.one e.one_done

  abbrev other : Taken vs e.other q m (recorded vs q m).value
  other = recorded-taken vs q m e.other e.other_done

  abbrev own : Logged Row
  own = (logged f (said e.one)).value

  abbrev new : Logged Row
  new = (logged g (said e.other)).value

  edits : Edited (i + f.viewport.y0 / 4) [] own.log new.log
  edits = edited-histories (i + f.viewport.y0 / 4) (said e.one) (said e.other) f g fit e.edited one.walks other.walks

  -- built by the other's steps, from the one's frame
  from-one : {u : Screen Row} → Built new.log (reset fresh-row g) u → Built new.log (reset fresh-row f) u
  from-one {u = u} b = subst (λ (h : Frame). Built new.log (reset fresh-row h) u) (sym fit) b

  line_words : SameLine f i (recorded ws q l).value (recorded vs q m).value
  line_words =
      let (b, closed) = logged-built f (said e.one) one.walks in
      let (c, shut) = logged-built g (said e.other) other.walks in
      let h = logged-left f (said e.one) l one.resets one.walks in
      let k = logged-left g (said e.other) m other.resets other.walks in
      let (u, here) = built-on f own.log own.screen b i e.there in
      let (v, there) = built-on f new.log new.screen (from-one c) i e.there in
      let s = same-line own.screen new.screen i (row-unchanged f i e.there own.log new.log edits own.screen new.screen b (from-one c)) (u ∙ sym v) (closed ∙ sym shut) here there h.depth h.painting k.depth k.painting in
      rw (one.same, other.same, h.same, k.same) (rw u at s)

  listed : (t : ℕ) → plain (bucket f) f.viewport i t own.log ≡ plain (bucket f) f.viewport i t new.log
  listed t =
      line-listed f i e.there own.log new.log edits own.screen new.screen (logged-built f (said e.one) one.walks).0
      (from-one (logged-built g (said e.other) other.walks).0) t

  one-pieces : (cs ds : List Call)
      → row-finished i cs (begin-at (recorded ws q l).value).value ≡ true → row-finished i ds (begin-at (recorded vs q m).value).value ≡ true
      → from i (call-log cs (begin-at (recorded ws q l).value).value) ≡ from i (call-log ds (begin-at (recorded vs q m).value).value)
  one-pieces cs ds fin end =
      let r = taken-reached vs e.other q m other in
      let p : ReachedAlone f new.log (recorded vs q m).value = subst (λ (h : Frame). ReachedAlone h new.log (recorded vs q m).value) (sym fit) r in
      reached-pieces (taken-reached ws e.one q l one) p (taken-begins ws e.one q l one) (taken-begins vs e.other q m other) i e.there edits cs ds fin end

pub line-words : LineWords
line-words = line_words

pub line-pieces : LinePieces
line-pieces = one-pieces

pub lines-listed : LineListed
lines-listed = listed
