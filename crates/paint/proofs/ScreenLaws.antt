-- What callers may use of a painting step: it leaves the other rows as they were, and where nothing is forged it is the rules' step. Assumes nothing.
use Rattle.std.proofs.Common.{◌≡◌, refl, sym, ap, ◌∙◌, Bool, true, false, ◌&&◌, cond, Some, List, ℕ, zero, suc, ◌<◌, ◌*◌, arith, length, drop, eqb, eq-eqb, eqb-true}
use Rattle.sizes.specs.Sizes.{paint-attr-table, layer-attr-table}
use Rattle.sizes.specs.Widths.{bucket-tiles}
use Rattle.rules.specs.Attributes.{Attrs}
use Rattle.rules.specs.Rows.{Row}
use Rattle.rules.specs.Painting.{paint-step}
use Rattle.row.proofs.RowsLaws.{part-0, part-suc, less, tail-0, head-suc, tail-suc, part-long}
use Rattle.rules.specs.Minima.{minima-room}
use Rattle.screen.specs.declared.Screen.{Screen}
use Rattle.rules.proofs.All.{and_left, and_right}
use Rattle.paint.specs.Painting.{attrs-at, RowLent, StepOut, out, painter-at, refused, settled, painted-row}
use Rattle.paint.specs.Summaries.{summary-at, Sound}
use Rattle.paint.specs.Standing.{Stands, PainterReady, Holds, step-minima}
use Rattle.paint.proofs.CommandLaws.{by-rules, same-lengths}
use Rattle.paint.specs.Judging.{count, wide}
use Rattle.paint.specs.Stepping.{part, with_part, depth-part, Attributes, own, in_place, number, row_step, stepped}
use Rattle.paint.proofs.Judged.{step-there}

-- a part that is put in its place leaves every other row's as it was
pub part-other : (k n r q : ℕ) (xs ys : List ℕ) → r < n → q < n → (q ≡ r → ⊥) → length xs ≡ n * k → length ys ≡ k
    → part k q (with_part k r xs ys) ≡ part k q xs
part-other k zero r q xs ys h g d l m = absurd (omega arith)
part-other k (suc n) zero zero xs ys h g d l m = absurd (d refl)
part-other k (suc n) zero (suc q) xs ys h g d l m =
    sym (part-suc k q _) ∙ rw (tail-0 k 0 xs ys n l m) (part-suc k q xs)
part-other k (suc n) (suc r) zero xs ys h g d l m = part-0 k 0 _ ∙ head-suc k r xs ys n l m ∙ sym (part-0 k 0 xs)
part-other k (suc n) (suc r) (suc q) xs ys h g d l m =
    sym (part-suc k q _)
    ∙ rw (tail-suc k r xs ys n l m) (part-other k n r q (drop k xs) ys (omega arith) (omega arith) (λ e. d (ap suc e)) (less n k xs l) m)
    ∙ part-suc k q xs

-- A step of row r, refused or done, leaves the depth words, the minima and the painting words of every other row as they were.
module _ (s : Screen) (r : ℕ) (a : Attributes) (l : RowLent) where
  lengths : number s r a l ≡ 0 → (r < count s) × (length l.depth.words ≡ count s * wide s) × (length l.depth.minima ≡ count s * minima-room (wide s)) × (length l.painting ≡ count s * 2)
  lengths h =
      let re = eqb (length l.render) (count s * (4 * s.c)) in
      let fi = eqb (length l.fills) (count s * (2 * s.d)) in
      let de = eqb (length l.depth.words) (count s * wide s) in
      let mi = eqb (length l.depth.minima) (count s * minima-room (wide s)) in
      let ro = eqb (length l.state) (count s * 54) in
      let pa = eqb (length l.painting) (count s * 2) in
      let ps = eqb (length a.paints) paint-attr-table in
      let ls = eqb (length a.layers) layer-attr-table in
      let t = step-there s r (re && fi && (de && mi)) (ro && pa && ps && ls) h in
      let dm : (de && mi) ≡ true = and_right (re && fi) (de && mi) t.passed.arenas in
      let k : (ro && pa && ps) ≡ true = and_left (ro && pa && ps) ls t.passed.tables in (
        t.there,
        eqb-true _ _ (and_left de mi dm),
        eqb-true _ _ (and_right de mi dm),
        eqb-true _ _ (and_right ro pa (and_left (ro && pa) ps k)),
      )

  module _ (q : ℕ) (g : q < count s) (d : q ≡ r → ⊥) where
    abbrev Alone : StepOut → Type 0
    Alone o = (depth-part (wide s) q o.depth ≡ depth-part (wide s) q l.depth) × (part 2 q o.painting ≡ part 2 q l.painting)

    done-alone : number s r a l ≡ 0 → Alone (row_step s r a l)
    unfolding row_step
    done-alone h =
        let n = lengths h in
        let b = attrs-at a.paints s.paint_attrs a.layers s.layer_attrs in
        let m = minima-room (wide s) in
        let words = part-long (count s) r (wide s) l.depth.words n.0 n.1 in
        let minima = part-long (count s) r m l.depth.minima n.0 n.2 in
        let o = same-lengths (bucket-tiles s.width) b (own s r l) (rw words minima) (part-long (count s) r 2 l.painting n.0 n.3) in
        let p = painted-row (bucket-tiles s.width) b (own s r l) in (
          rw (
            part-other (wide s) (count s) r q l.depth.words p.depth.words n.0 g d n.1 (o.0 ∙ words),
            part-other m (count s) r q l.depth.minima p.depth.minima n.0 g d n.2 (o.1 ∙ minima),
          ),
          part-other 2 (count s) r q l.painting p.painting n.0 g d n.3 o.2,
        )

    pub step-alone : Alone (stepped s r a l)
    unfolding stepped
    step-alone = go (eqb (number s r a l) 0) refl
      where
        go : (t : Bool) → eqb (number s r a l) 0 ≡ t
            → Alone (cond t (row_step s r a l) (out (refused (number s r a l)) l.depth l.painting l.list))
        go true e = done-alone (eqb-true _ _ e)
        go false e = (refl, refl)

-- Nothing of row r is forged, and its summary is sound for its depth words: a step is the rules' step of the row.
module _ (s : Screen) (r : ℕ) (t : Attributes) (l : RowLent) (k : number s r t l ≡ 0) (a : Attrs)
    (h : Holds a t.paints s.paint_attrs t.layers s.layer_attrs) (w : Row)
    (g : Stands a (length (own s r l).depth.words) w (own s r l).state (own s r l).render (own s r l).fills)
    (q : PainterReady a w (painter-at (own s r l).depth.words (own s r l).painting)) (o : Sound (bucket-tiles s.width) (summary-at (own s r l).state) (own s r l).depth.words) where
  pub step-by-rules : stepped s r t l
      ≡ in_place s r l
      (settled (Some (paint-step (bucket-tiles s.width) a w (painter-at (own s r l).depth.words (own s r l).painting)))
      (step-minima a w (painter-at (own s r l).depth.words (own s r l).painting) (own s r l).depth.minima) (own s r l).depth (own s r l).painting l.list)
  unfolding stepped row_step
  step-by-rules =
      rw (eq-eqb _ _ k)
      (ap (in_place s r l)
      (by-rules s.width a t.paints s.paint_attrs t.layers s.layer_attrs h w (own s r l).state (own s r l).render (own s r l).fills (own s r l).depth.words (own s r l).depth.minima (own s r l).painting l.list g q o))
