-- Source-over and the forgetful log keep both laws; what hides has no alpha index.
use Rattle.std.proofs.Common.{ℕ, ◌*◌, ◌/◌, zero-mul, zero-add, arith, ◌≡◌, refl, sym, ◌∙◌, ap, Bool, true, false, ◌&&◌, Option, None, Some, List, [], ◌∷◌}
use Rattle.rules.specs.Lists.{such, is_none}
use Rattle.rules.specs.Boxes.{Box}
use Rattle.rules.specs.Segments.{Segment, Cut}
use Rattle.rules.specs.Inputs.{Filter}
use Rattle.rules.specs.Plans.{Step, a-fill, a-push, a-pop, a-filter, filter-box, draws-nothing}
use Rattle.rules.specs.Spans.{covers, moved}
use Rattle.rules.specs.Plain.{Told, OpenLayer, Story, untold, box-now, tell, tell-pop, tell-filter, tell-step, tell-steps, whole-bucket}
use Rattle.rules.proofs.All.{All, nil, all_append, all-if, all_map, all_both, all-mapped, and_left, and_right, never}
use Rattle.rules_picture.specs.Pixels.{Pixel, clear, under, over, scaled, masked, Mark, PixelsHide, PixelsGentle, LogHides, LogGentle}
use Rattle.rules_picture.proofs.Cases.{by}

-- what hides is a solid segment
abbrev Solid : Told → Type 0
Solid u = u.hides ≡ true → u.entry.alpha ≡ None

module _ (w : ℕ) (v : Box) (row tile : ℕ) where
  unmoved : (a : Option ℕ) (n : ℕ) → is_none a ≡ true → moved a n ≡ None
  unmoved None n e = refl
  unmoved (Some x) n e = never (sym e)

  tell-solid : (l : Bool) (i q n id : ℕ) (e : Bool) (ks : List Cut) → All Solid (tell w v row tile l i q n id e ks)
  tell-solid l i q n id e ks =
      all-mapped {Q = Solid} _
      (λ (k : Cut) (y : (e && is_none k.stretch.alpha && whole-bucket w v row tile k.stretch.tiles) ≡ true). unmoved k.stretch.alpha _ (and_right e _ (and_left _ _ y)))
      (such (λ (k : Cut). covers k.stretch.tiles tile) ks)

  pop-solid : (ds : List OpenLayer) (ss : List Segment) (o : Story) → All Solid o.told → All Solid (tell-pop w v row tile ds ss o).told
  pop-solid [] ss o a = a
  pop-solid (d ∷ ds) ss o a = all_append a (all-if d.touched (tell-solid true _ _ _ _ false _) nil)

  filter-solid : (f : Filter) (q : ℕ) (o : Story) → All Solid o.told → All Solid (tell-filter w v row tile f q o).told
  filter-solid f q o a = by (draws-nothing f (filter-box v (box-now v o.open-layers) f))
      (λ y. rw y a)
      (λ n. rw n (all_append a (tell-solid false _ _ _ _ false _)))

  step-solid : (x : Step) (o : Story) → All Solid o.told → All Solid (tell-step w v row tile x o).told
  unfolding tell-step
  step-solid (a-fill ps ss d) o a = all_append a (tell-solid false _ _ _ _ _ _)
  step-solid (a-push p) o a = a
  step-solid (a-pop ss) o a = pop-solid o.open-layers ss o a
  step-solid (a-filter n f q) o a = filter-solid f q o a

  steps-solid : (xs : List Step) (o : Story) → All Solid o.told → All Solid (tell-steps w v row tile xs o).told
  unfolding tell-steps
  steps-solid [] o a = a
  steps-solid (x ∷ xs) o a = steps-solid xs (tell-step w v row tile x o) (step-solid x o a)

gone : (x : ℕ) → under 255 x ≡ 0
gone x = omega arith

stays : (x : ℕ) → under 0 x ≡ x
stays x = omega arith

full-hides : (p b d : Pixel) → p.alpha ≡ 255 → over p b ≡ over p d
full-hides p b d e = rw (e, gone b.red, gone b.green, gone b.blue, gone b.alpha, gone d.red, gone d.green, gone d.blue, gone d.alpha)

nothing-scaled : (k : ℕ) → scaled k clear ≡ clear
nothing-scaled k = let z : 0 * k / 255 ≡ 0 = rw (zero-mul k) in rw z

clear-over : (b : Pixel) → over clear b ≡ b
clear-over b = rw (stays b.red, stays b.green, stays b.blue, stays b.alpha, zero-add b.red, zero-add b.green, zero-add b.blue, zero-add b.alpha)

module _ (paint : ℕ → Pixel) (opacity coverage : ℕ → ℕ) where
  nothing-masked : (a : Option ℕ) → masked paint opacity coverage a clear ≡ clear
  nothing-masked None = refl
  nothing-masked (Some a) = nothing-scaled (coverage a)

pub pixels-hide : PixelsHide
pixels-hide paint opacity coverage w v r t xs full =
    all_map
    (λ (u : Told) (h : (u.hides ≡ true → (paint u.entry.attribute).alpha ≡ 255) × Solid u) (y : u.hides ≡ true) (b d : Pixel).
    rw (h.1 y) (full-hides (paint u.entry.attribute) b d (h.0 y)))
    (all_both full (steps-solid w v r t xs untold nil))

pub pixels-gentle : PixelsGentle
pixels-gentle paint opacity coverage t i there mild a b =
    ap (λ (p : Pixel). over (masked paint opacity coverage a p) b) (nothing-scaled (opacity i)) ∙ ap (λ (p : Pixel). over p b) (nothing-masked paint opacity coverage a) ∙ clear-over b

pub log-hides : LogHides
log-hides solid w v r t xs full =
    all_map
    (λ (u : Told) (h : (u.hides ≡ true → solid u.entry.attribute ≡ true) × Solid u) (y : u.hides ≡ true) (b d : List Mark). rw (h.1 y, h.0 y))
    (all_both full (steps-solid w v r t xs untold nil))

pub log-gentle : LogGentle
log-gentle solid t i there mild a b = refl
