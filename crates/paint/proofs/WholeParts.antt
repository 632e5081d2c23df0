-- A row's steps in their place on the screen. Assumes nothing.
use Rattle.std.proofs.Common.{◌≡◌, refl, sym, ap, ◌∙◌, Bool, true, false, cond, List, ◌++◌, Option, None, Some, ℕ, zero, suc, ◌+◌, ◌-◌, ◌*◌, ◌/◌, zero-add, arith, length, take, drop, length-drop}
use Rattle.std.proofs.Common.{length-take-le, take_at, drop_at, ltb, eq-eqb, ne_eqb}
use borrow.Rule.Slice.PartMut.{put_mid, put_same, take_put}
use Rattle.sizes.specs.Sizes.{piece-size}
use Rattle.sizes.specs.Widths.{bucket-tiles}
use Rattle.rules.specs.Attributes.{Attrs}
use Rattle.rules.specs.Painting as rules
use Rattle.row.proofs.RowsLaws.{put-length}
use Rattle.screen.specs.declared.Screen.{Screen}
use Rattle.sizes.specs.declared.answers.Refusal.{Refusal}
use Rattle.sizes.specs.Refusals.{number_of}
use Rattle.sizes.proofs.Refusals.{not_done}
use Rattle.paint.specs.Answers.{Painted}
use Rattle.rules.specs.Minima.{minima-room}
use Rattle.screen.specs.Depths.{Depths}
use Rattle.paint.specs.Painting.{attrs-at, RowLent, words_lent, StepOut, out, listed, refused, left, settled, painted-row}
use Rattle.paint.proofs.CommandLaws.{same-lengths}
use Rattle.paint.specs.Judging.{wide}
use Rattle.paint.specs.Stepping.{part, with_part, depth-part, with-depth-part, put-depth, Within, Attributes, own-parts, own, in_place, number, row_step, stepped}
use Rattle.paint.proofs.ScreenParts.{part-is, put_is, ready}
use Rattle.paint.specs.Running.{goes_on, ended, one_more, run, most, standing, own-step, row-run, row-run-on, call_step, row-painted}
use Rattle.paint.proofs.WholeRuns.{stops, more}

-- steps over the row's own words, which are put back in their places
module _ (v f k n : ℕ) (a : Attrs) (b c d r : ℕ) (l : RowLent) (o : Painted) (q : Depths) (p t : List ℕ) where
  pub run-back : out o q p t ≡ put-depth b r l.depth (run (own-step v a (part 54 r l.state) (part (4 * c) r l.render) (part (2 * d) r l.fills)) f k
      (out (listed n) (depth-part b r l.depth) (take (r * 2 + 2 - r * 2) (drop (r * 2) l.painting)) l.list))
      → out o q (put_mid (r * 2) (r * 2 + 2 - r * 2) l.painting p) t
      ≡ row-run-on v f k n a b c d r l
  unfolding row-run-on
  run-back h =
      let w = own-parts b c d r l in
      let i : out o q p t ≡ put-depth b r l.depth (run (own-step v a w.state w.render w.fills) f k (out (listed n) w.depth w.painting w.list)) = rw (part-is 2 r l.painting) at h in
      rw (put_is 2 r l.painting p)
      (ap (λ (x : StepOut). out x.answer x.depth (with_part 2 r l.painting x.painting) x.list) i)

-- a part in its place: it stands there, and another takes its place
module _ (k r : ℕ) (xs ys : List ℕ) (h : Within k r xs) (e : length ys ≡ k) where
  from-there : drop (r * k) (with_part k r xs ys) ≡ ys ++ drop k (drop (r * k) xs)
  from-there = drop_at (take (r * k) xs) _ (r * k) (length-take-le (r * k) xs (omega (arith, h.ends)))

  pub part-there : part k r (with_part k r xs ys) ≡ ys
  part-there = rw from-there (take_at ys _ k e)

  pub part-again : (zs : List ℕ) → with_part k r (with_part k r xs ys) zs ≡ with_part k r xs zs
  part-again zs =
      rw (take_put (r * k) k xs ys (omega (arith, h.ends)), from-there, drop_at ys (drop k (drop (r * k) xs)) k e)

  pub put-long : length (with_part k r xs ys) ≡ length xs
  put-long = put-length (r * k) k xs ys h.ends e

pub part-of-length : (k r : ℕ) (xs : List ℕ) → Within k r xs → length (part k r xs) ≡ k
part-of-length k r xs h = length-take-le k (drop (r * k) xs) (rw length-drop (omega (arith, h.ends)))

-- the steps of row r of a screen
abbrev screen-run : ℕ → Screen → ℕ → Attributes → RowLent → StepOut
screen-run f s r a l =
    row-run (bucket-tiles s.width) f (attrs-at a.paints s.paint_attrs a.layers s.layer_attrs) (wide s) s.c s.d r l

-- A call whose screen and lengths are judged 0: its steps are those of the row's own words.
module _ (s : Screen) (r : ℕ) (a : Attributes) (l : RowLent) (z : number s r a l ≡ 0) where
  abbrev b : Attrs
  b = attrs-at a.paints s.paint_attrs a.layers s.layer_attrs

  abbrev mine : Depths → List ℕ → List ℕ → StepOut
  mine = own-step (bucket-tiles s.width) b (own s r l).state (own s r l).render (own s r l).fills

  abbrev called : Depths → List ℕ → List ℕ → StepOut
  called = call_step s r a l.state l.render l.fills

  -- the row's own depth words, minima and painting words have their lengths
  abbrev Long : StepOut → Type 0
  Long g = (length g.depth.words ≡ wide s) × (length g.depth.minima ≡ minima-room (wide s)) × (length g.painting ≡ 2)

  module _ (d : Depths) (p t : List ℕ) (x : length d.words ≡ wide s) (m : length d.minima ≡ minima-room (wide s)) (y : length p ≡ 2) where
    abbrev then : RowLent
    then = words_lent l.state l.render l.fills (with-depth-part (wide s) r l.depth d) (with_part 2 r l.painting p) t

    still : number s r a then ≡ 0
    still =
        let g = ready s r a l z in
        rw (put-long (wide s) r l.depth.words d.words g.depth x, put-long (minima-room (wide s)) r l.depth.minima d.minima g.minima m, put-long 2 r l.painting p g.painting y) z

    call-mine : called (with-depth-part (wide s) r l.depth d) (with_part 2 r l.painting p) t ≡ in_place s r l (mine d p t)
    unfolding stepped row_step
    call-mine =
        let g = ready s r a l z in
        let o = painted-row (bucket-tiles s.width) b (words_lent (own s r l).state (own s r l).render (own s r l).fills d p t) in
        rw (
          eq-eqb _ _ still,
          part-there (wide s) r l.depth.words d.words g.depth x,
          part-there (minima-room (wide s)) r l.depth.minima d.minima g.minima m,
          part-there 2 r l.painting p g.painting y,
          part-again (wide s) r l.depth.words d.words g.depth x o.depth.words,
          part-again (minima-room (wide s)) r l.depth.minima d.minima g.minima m o.depth.minima,
          part-again 2 r l.painting p g.painting y o.painting,
        )

  one-mine : (g : StepOut) → Long g → one_more called (in_place s r l g) ≡ in_place s r l (one_more mine g)
  unfolding one_more
  one-mine g h = rw (call-mine g.depth g.painting (drop (piece-size * g.answer.pieces) g.list) h.0 h.1 h.2)

  one-long : (g : StepOut) → Long g → Long (one_more mine g)
  unfolding one_more
  one-long g h =
      let o = same-lengths (bucket-tiles s.width) b (words_lent (own s r l).state (own s r l).render (own s r l).fills g.depth g.painting (drop (piece-size * g.answer.pieces) g.list)) (rw h.0 h.1) h.2 in
      (o.0 ∙ h.0, o.1 ∙ h.1, o.2)

  run-mine : (f k : ℕ) (g : StepOut) → Long g → run called f k (in_place s r l g) ≡ in_place s r l (run mine f k g)
  unfolding run
  run-mine zero k g h = refl
  run-mine (suc f) k g h = rw (one-mine g h, run-mine f (k + 1) (one_more mine g) (one-long g h)) (go (goes_on (one_more mine g).answer))
    where
      go : (t : Bool)
          → cond t (in_place s r l (run mine f (k + 1) (one_more mine g))) (ended k (in_place s r l (one_more mine g)))
          ≡ in_place s r l (cond t (run mine f (k + 1) (one_more mine g)) (ended k (one_more mine g)))
      go true = refl
      go false = refl

  pub calls-are-run : row-painted s r a l ≡ screen-run most s r a l
  unfolding row-painted row-run-on
  calls-are-run =
      let g = ready s r a l z in
      let e = run-mine most 0 (standing (own s r l).depth (own s r l).painting l.list) (part-of-length (wide s) r l.depth.words g.depth, part-of-length (minima-room (wide s)) r l.depth.minima g.minima, part-of-length 2 r l.painting g.painting) in
      (rw (put_same (r * wide s) (wide s) l.depth.words, put_same (r * minima-room (wide s)) (minima-room (wide s)) l.depth.minima, put_same (r * 2) 2 l.painting) at e)

-- the call, refused or done
module _ (s : Screen) (r : ℕ) (a : Attributes) (l : RowLent) where
  module _ (k : Refusal) (e : number_of k ≡ number s r a l) where
    first-refused : one_more (call_step s r a l.state l.render l.fills) (standing l.depth l.painting l.list) ≡ out (refused (number_of k)) l.depth l.painting l.list
    unfolding one_more stepped
    first-refused = rw (← e, ne_eqb (number_of k) 0 (not_done k))

    pub row_refused : out (refused (number_of k)) l.depth l.painting l.list ≡ row-painted s r a l
    unfolding row-painted
    row_refused =
        let step = call_step s r a l.state l.render l.fills in
        let start = standing l.depth l.painting l.list in
        let i : goes_on (one_more step start).answer ≡ false = rw (first-refused, ne_eqb (number_of k) 0 (not_done k)) in
        sym (stops step most 0 start (omega arith) i ∙ rw first-refused)

  pub row_done : (o : StepOut) → 0 ≡ number s r a l → o ≡ screen-run most s r a l → o ≡ row-painted s r a l
  row_done o h p = p ∙ sym (calls-are-run s r a l (sym h))

-- a run of one step at most is the step
abbrev again : StepOut → StepOut
again o = out (record { number = o.answer.number; finished = o.answer.finished; pieces = o.answer.pieces }) o.depth o.painting o.list

settled-again : (x : Option rules.Painted) (ms : List ℕ) (d : Depths) (p l : List ℕ) → again (settled x ms d p l) ≡ settled x ms d p l
unfolding settled
settled-again None ms d p l = refl
settled-again (Some o) ms d p l = go (ltb (length l / piece-size) (length o.pieces))
  where
    go : (b : Bool) → again (cond b (out (refused 14) d p l) (left o ms l)) ≡ cond b (out (refused 14) d p l) (left o ms l)
    go true = refl
    go false = refl

row-again : (v : ℕ) (a : Attrs) (w : RowLent) → again (painted-row v a w) ≡ painted-row v a w
unfolding painted-row
row-again v a w = settled-again _ _ _ _ _

first_one : (step : Depths → List ℕ → List ℕ → StepOut) (d : Depths) (p l : List ℕ) → one_more step (standing d p l) ≡ again (step d p l)
unfolding one_more
first_one step d p l = rw zero-add

one-run : (step : Depths → List ℕ → List ℕ → StepOut) (d : Depths) (p l : List ℕ) → run step 1 0 (standing d p l) ≡ again (step d p l)
unfolding run
one-run step d p l = go (goes_on (one_more step (standing d p l)).answer) refl
  where
    go : (b : Bool) → goes_on (one_more step (standing d p l)).answer ≡ b → run step 1 0 (standing d p l) ≡ again (step d p l)
    go true e = more step 1 0 (standing d p l) (omega arith) e ∙ first_one step d p l
    go false e = stops step 1 0 (standing d p l) (omega arith) e ∙ rw (first_one step d p l)

pub step-is-run : (s : Screen) (r : ℕ) (a : Attributes) (l : RowLent) → screen-run 1 s r a l ≡ row_step s r a l
unfolding row-run-on row_step
step-is-run s r a l =
    let b = attrs-at a.paints s.paint_attrs a.layers s.layer_attrs in
    let w = own s r l in
    ap (in_place s r l) (one-run (own-step (bucket-tiles s.width) b w.state w.render w.fills) w.depth w.painting w.list ∙ row-again (bucket-tiles s.width) b w)
