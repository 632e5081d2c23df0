-- A host can paint every row to its end by `coarse_paint_step`, so `border-picture` speaks of every hosted screen. A step that says finished is
-- done, so that its result words say so too. Assumes nothing.
use Rattle.std.proofs.Common.{ℕ, ◌/◌, ◌≡◌, refl, sym, ap, ◌∙◌, Bool, true, false, ◌&&◌, ◌||◌, cond, List, [], ◌∷◌, map, Option, None, Some, eqb, ltb, length}
use Rattle.sizes.specs.Sizes.{piece-size}
use Rattle.sizes.specs.Widths.{bucket-tiles}
use Rattle.rules.specs.Answers.{Answer, Done, NoRoom}
use Rattle.rules.specs.Painting as rules
use Rattle.rules.proofs.All.{never}
use Rattle.screen.specs.declared.Screen.{Screen}
use Rattle.screen.specs.Depths.{Depths}
use Rattle.screen.specs.Tables.{ScreenLent}
use Rattle.paint.specs.Painting as paint
use Rattle.paint.specs.Stepping.{Attributes, own, number, row_step, stepped}
use Rattle.rules_picture.specs.Turns.{Gave, said-finished}
use Rattle.host.specs.State.{screen-words}
use Rattle.theorem_picture.specs.Turns as turns
use Rattle.theorem_picture.specs.Reached as reached
use Rattle.theorem_picture.proofs.Finishes.{finishes}
use Rattle.theorem_border.specs.Hosted.{Host, host, with-painting, Call, one-step, begin-at, paint-out, paint-at}
use Rattle.theorem_border.specs.Border.{gave-words, painted, log, finished-at, finished, Finishes}
use Rattle.theorem_border.specs.Held.{host-of}
use Rattle.theorem_border.proofs.Words.{hosted, begin-on, paint-lent}
use Rattle.theorem_border.proofs.Holds.{holds}
use Rattle.theorem_border.proofs.Border.{left-read}

-- what says finished is done
row_done : (o : Option rules.Painted) (ms : List ℕ) (d : Depths) (p l : List ℕ) → (paint.settled o ms d p l).answer.finished ≡ true
    → (paint.settled o ms d p l).answer.number ≡ Done
unfolding paint.settled
row_done None ms d p l e = never (sym e)
row_done (Some o) ms d p l e = go (ltb (length l / piece-size) (length o.pieces)) e
  where
    go : (b : Bool) → (cond b (paint.out (paint.refused NoRoom) d p l) (paint.left o ms l)).answer.finished ≡ true
        → (cond b (paint.out (paint.refused NoRoom) d p l) (paint.left o ms l)).answer.number ≡ Done
    go true z = never (sym z)
    go false z = refl

stepped-done : (s : Screen) (r : ℕ) (a : Attributes) (w : paint.RowLent) → (stepped s r a w).answer.finished ≡ true → (stepped s r a w).answer.number ≡ Done
unfolding stepped row_step paint.painted-row
stepped-done s r a w e = go (eqb (number s r a w) Done) e
  where
    go : (b : Bool) → (cond b (row_step s r a w) (paint.out (paint.refused (number s r a w)) w.depth w.painting w.list)).answer.finished ≡ true
        → (cond b (row_step s r a w) (paint.out (paint.refused (number s r a w)) w.depth w.painting w.list)).answer.number ≡ Done
    go true z = row_done (paint.next-step (bucket-tiles s.width) (paint.attrs-at a.paints s.paint_attrs a.layers s.layer_attrs) (own s r w)) _ _ _ _ z
    go false z = never (sym z)

-- a turn of picture's as a call
abbrev lend : turns.Turn → Call
lend t = one-step (record { row = t.row; list = t.list; result = 0 ∷ 0 ∷ [] })

module _ (t : turns.Turn) (l : ScreenLent) where
  abbrev o : paint.StepOut
  o = reached.paint-out t.row t.list l

  turn-words : paint-at (lend t) (host-of l) ≡ host-of (reached.paint-at t.row t.list l)
  turn-words =
      ap (λ (a : Answer (Depths × List ℕ × List ℕ × List ℕ)). host (screen-words l.screen) (with-painting l.tables a.value.0 a.value.1))
      (paint-lent (record { row = t.row; list = t.list; result = 0 ∷ 0 ∷ [] }) l refl)

  turn-said : o.answer.finished ≡ true → (gave-words t.row (paint-out (lend t) (host-of l))).finished ≡ true
  turn-said e =
      let d : o.answer.number ≡ Done = unfold reached.paint-out in stepped-done _ _ _ _ e in
      let q = paint-lent (record { row = t.row; list = t.list; result = 0 ∷ 0 ∷ [] }) l refl in
      ap (λ (g : Gave). g.finished) (ap (gave-words t.row) q ∙ left-read t.row (0 ∷ 0 ∷ []) o d) ∙ e

all_words : (ts : List turns.Turn) (l : ScreenLent) → painted (map lend ts) (host-of l) ≡ host-of (turns.turned ts l)
unfolding painted turns.turned
all_words [] l = refl
all_words (t ∷ ts) l = ap (painted (map lend ts)) (turn-words t l) ∙ all_words ts (reached.paint-at t.row t.list l)

or-both : (i a b c d : Bool) → ((i && a) || c) ≡ true → (a ≡ true → b ≡ true) → (c ≡ true → d ≡ true) → ((i && b) || d) ≡ true
or-both false a b c d e f g = g e
or-both true true b c d e f g = rw (f refl)
or-both true false true c d e f g = refl
or-both true false false c d e f g = g e

all_said : (r : ℕ) (ts : List turns.Turn) (l : ScreenLent) → said-finished r (turns.log ts l) ≡ true → said-finished r (log (map lend ts) (host-of l)) ≡ true
unfolding log turns.log said-finished
all_said r [] l e = e
all_said r (t ∷ ts) l e =
    or-both (eqb t.row r) _ _ _ _ e (turn-said t l)
    (λ z. ap (λ (x : Host). said-finished r (log (map lend ts) x)) (turn-words t l) ∙ all_said r ts (reached.paint-at t.row t.list l) z)

-- a schedule after which every row has finished
pub border-finishes : Finishes
border-finishes f xs h z e =
    let y = holds z in
    let l = y.words in
    let q : begin-at h ≡ hosted (reached.begin-at l) = ap begin-at y.same ∙ begin-on l in
    let d : (reached.begin-at l).number ≡ Done = sym (ap (λ (a : Answer Host). a.number) q) ∙ e in
    let m = (reached.begin-at l).value in
    let v : (begin-at h).value ≡ host-of m = ap (λ (a : Answer Host). a.value) q in
    let p = finishes f xs l y.reached d in (
      map lend p.0,
      λ r there.
          let w : finished-at (painted (map lend p.0) (host-of m)) r ≡ finished-at (host-of (turns.turned p.0 m)) r = ap (λ (x : Host). finished-at x r) (all_words p.0 m) in
          ap (finished r (map lend p.0)) v
          ∙ or-both true (said-finished r (turns.log p.0 m)) _ (turns.finished-at (turns.turned p.0 m) r) _ (p.1 r there) (all_said r p.0 m)
          (λ k. w ∙ turn-said (record { row = r; list = [] }) (turns.turned p.0 m) k),
    )
