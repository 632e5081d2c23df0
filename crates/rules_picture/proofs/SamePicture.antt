-- What a painted row comes to is what plain draw order comes to.
use Rattle.std.proofs.Common.{ℕ, ◌+◌, ◌-◌, ◌/◌, ◌<◌, arith, ◌≡◌, refl, sym, ◌∙◌, ap, Bool, true, List, [], ◌∷◌, ◌++◌, map, append_assoc, append-nil, length, get_or, replicate}
use lib.ListN.{get_or-replicate}
use Rattle.rules.specs.Lists.{is-empty}
use Rattle.rules.specs.Answers.{Done, Open}
use Rattle.rules.specs.Boxes.{Box, width, rows_of}
use Rattle.rules.specs.Segments.{Segment}
use Rattle.rules.specs.Inputs.{Filter}
use Rattle.rules.specs.Attributes.{Attrs}
use Rattle.rules.specs.Rows.{Row, row-ops, fresh-row}
use Rattle.rules.specs.Plans.{Frame, bucket, buckets-across, Step, a-fill, a-push, a-pop, a-filter, filter-box, draws-nothing}
use Rattle.rules.specs.Steps.{Screen, reset, done, call}
use Rattle.rules.specs.Plain.{Told, OpenLayer, Story, untold, box-now, tell-pop, tell-filter, tell-step, tell-steps}
use Rattle.rules.specs.Painting.{begin}
use Rattle.rules.specs.Calls.{Canvas, begin-call}
use Rattle.rules.proofs.All.{All, never, all_any, all_first, all_rest}
use Rattle.rules.proofs.laws.Widths.{bucket-some}
use Rattle.rules_picture.specs.Compacted.{Kept-up, no_step, then, tidied, Compacted-touched}
use Rattle.rules_picture.specs.Turns.{Turn, painted, has-finished}
use Rattle.rules_picture.specs.Colours.{Colours, drawn, plain-drawn, turns-drawn, Opaque, if-touched, SameTouched}
use Rattle.rules_picture.specs.StoredColours.{commands-drawn}
use Rattle.rules_picture.proofs.Cases.{by}
use Rattle.rules_picture.proofs.Buckets.{touched-end}
use Rattle.rules_picture.proofs.Follows.{layer-in, Leads, Follows}
use Rattle.rules_picture.proofs.Stepped.{call-done, call-frame, step_follows}
use Rattle.rules_picture.proofs.Picture.{reset-follows}
use Rattle.rules_picture.proofs.Shown.{newest-hide, hider}
use Rattle.rules_picture.proofs.Changes.{buffers-only}
use Rattle.rules_picture.proofs.Comes.{steps-drawn, row-comes}
use Rattle.rules_picture.proofs.TurnsCome.{finished-comes}
use Rattle.rules_picture.proofs.Stacked.{Stacked, come}
use Rattle.rules_picture.proofs.CompactedColours.{compact-stacks}
use Rattle.rules_picture.proofs.CompactedFollows.{screen-ranged, row-compacted, compact-follows, built-kept, kept-frame, kept-leads, follows-kept}
use Rattle.rules_picture.proofs.Ranged.{AllRanged, reset-ranged, step-ranged}
use Rattle.rules_picture.proofs.StackedSteps.{Fair, step-stacks}

-- what is told is only added to
record More (o p : Story) : Type 0 where
  more : List Told
  is : p.told ≡ o.told ++ more

module _ (w : ℕ) (v : Box) (row t : ℕ) where
  pop-more : (ds : List OpenLayer) (ss : List Segment) (o : Story) → More o (tell-pop w v row t ds ss o)
  pop-more [] ss o = record { more = []; is = sym (append-nil o.told) }
  pop-more (d ∷ ds) ss o = record { more = _; is = refl }

  filter-more : (x : Filter) (q : ℕ) (o : Story) → More o (tell-filter w v row t x q o)
  filter-more x q o = by (draws-nothing x (filter-box v (box-now v o.open-layers) x))
      (λ y. rw y (record { more = []; is = sym (append-nil o.told) }))
      (λ n. rw n (record { more = _; is = refl }))

  step-more : (x : Step) (o : Story) → More o (tell-step w v row t x o)
  unfolding tell-step
  step-more (a-fill ps ss d) o = record { more = _; is = refl }
  step-more (a-push p) o = record { more = []; is = sym (append-nil o.told) }
  step-more (a-pop ss) o = pop-more o.open-layers ss o
  step-more (a-filter n f q) o = filter-more f q o

  steps-more : (xs : List Step) (o : Story) → More o (tell-steps w v row t xs o)
  unfolding tell-steps
  steps-more [] o = record { more = []; is = sym (append-nil o.told) }
  steps-more (x ∷ xs) o =
      let a = step-more x o in
      let b = steps-more xs (tell-step w v row t x o) in
      record { more = a.more ++ b.more; is = b.is ∙ ap (λ (ts : List Told). ts ++ b.more) a.is ∙ append_assoc o.told a.more b.more }

module _ {B : Type 0} (c : Colours B) (closes : OpenLayer → Bool) (w t : ℕ) (v : Box) (row : ℕ) where
  -- every layer that a history opens is fair
  pub data Fairly (attrs : Attrs) : List Step → Story → Type 0 where
    no_more : {o : Story} → Fairly attrs [] o
    fair-then : {x : Step} {xs : List Step} {o : Story} → All (Fair c closes w attrs t v row) o.open-layers → Fairly attrs xs (tell-step w v row t x o) → Fairly attrs (x ∷ xs) o

  kept-stacks : 0 < w → {xs : List Step} {s u : Screen Row} → Kept-up xs s u → t / w < buckets-across s.state.frame → AllRanged s
      → (o : Story) (bs : List B) → Follows w u.state.attrs t v row o s
      → Stacked c w u.state.attrs t v row o.open-layers (get_or s.rows row fresh-row) bs
      → Fairly u.state.attrs xs o → Opaque c (tell-steps w v row t xs o).told
      → Stacked c w u.state.attrs t v row (tell-steps w v row t xs o).open-layers (get_or u.rows row fresh-row) (plain-drawn c closes w v row t xs o bs)
  unfolding tell-steps plain-drawn done
  kept-stacks pos no_step on a o bs f k fair op = k
  kept-stacks pos {u = u} (then {x = x} {xs = xs} {s = s} e b) on a o bs f k (fair-then h fair) op =
      let (j, q) = call-done x s e in
      let l : Leads w u.state.attrs t v row (call Row row-ops x s).value.state.attrs = kept-leads w t v row b in
      let ld = rw (ap (λ (k : Screen Row). k.state.attrs) q) at l in
      let g = step_follows w u.state.attrs t v row pos x o s f j ld in
      let m = step-more w v row t x o in
      let n = steps-more w v row t xs (tell-step w v row t x o) in
      let op1 : Opaque c m.more = all_rest o.told m.more (rw m.is at (all_first (tell-step w v row t x o).told n.more (rw n.is at op))) in
      let y = step-stacks c closes w u.state.attrs t v row pos x o s bs f k h j ld m.more m.is op1 in
      kept-stacks pos b (rw (call-frame row-ops x s) on) (step-ranged x s e a) (tell-step w v row t x o) _ (rw q g) (rw q y) fair op
  kept-stacks pos {u = u} (tidied {s = s} i z b) on a o bs f k fair op =
      let c2 = u.state.attrs in
      let n = buckets-across s.state.frame in
      let l = kept-leads w t v row b in
      let g = compact-follows w c2 t n v row pos on i o s refl z l a f in
      let y =
      row-compacted w c2 t n v row pos on (λ (r : Row). Stacked c w c2 t v row o.open-layers r bs) i s f.wide refl l a f.there k
      (compact-stacks c w c2 t n pos on v row (get_or s.rows row fresh-row) k)
      in
      kept-stacks pos b on (screen-ranged i s a) o bs g y fair op

-- where painting can begin no layer is open
pub closed-canvas : (k : Canvas) → (begin-call k).number ≡ Done → k.screen.state.layers ≡ []
unfolding begin-call
closed-canvas k e = by (is-empty k.screen.state.layers)
    (λ y. empty k.screen.state.layers y)
    (λ n. let z : ◌≡◌ {A = ℕ} Open Done = rw n at e in absurd (omega arith))
  where
    empty : {A : Type 0} (ls : List A) → is-empty ls ≡ true → ls ≡ []
    empty [] y = refl
    empty (l ∷ ls) y = never (sym y)

-- Take a screen built from its reset by done steps xs, with rows compacted between them, and painting begun on it.
module _ {B : Type 0} (c : Colours B) (closes : OpenLayer → Bool) (f : Frame) (xs : List Step) (k : Canvas) (b : Kept-up xs (reset fresh-row f) k.screen) (e : (begin-call k).number ≡ Done) where
  reset-stacks : (r t : ℕ) → r < rows_of f.viewport → Stacked c (bucket f) k.screen.state.attrs t f.viewport r [] (get_or (reset fresh-row f).rows r fresh-row) (c.blank ∷ [])
  unfolding reset buffers-only commands-drawn newest-hide hider drawn
  reset-stacks r t h =
      let q : get_or (replicate (rows_of f.viewport) fresh-row) r fresh-row ≡ fresh-row = get_or-replicate (rows_of f.viewport) r fresh-row fresh-row h in
      rw q (record { idle = λ x. refl; same = refl; long = refl })

  map-none : {A C : Type 0} (g : A → C) (ls : List A) → map g ls ≡ [] → ls ≡ []
  map-none g [] y = refl
  map-none g (l ∷ ls) y = never (sym (ap is-empty y))

  -- what is stored for the row comes to what plain draw order comes to
  pub plain-comes : (r t : ℕ) → r < rows_of f.viewport → t / bucket f < buckets-across f
      → Opaque c (tell-steps (bucket f) f.viewport r t xs untold).told
      → Fairly c closes (bucket f) t f.viewport r k.screen.state.attrs xs untold
      → plain-drawn c closes (bucket f) f.viewport r t xs untold (c.blank ∷ []) ≡ come c (bucket f) k.screen.state.attrs t f.viewport r (get_or k.screen.rows r fresh-row)
  unfolding reset
  plain-comes r t h near op fair =
      let row = get_or k.screen.rows r fresh-row in
      let w = bucket f in
      let a = k.screen.state.attrs in
      let o = tell-steps w f.viewport r t xs untold in
      let fw : Follows w a t f.viewport r o k.screen = follows-kept f xs k.screen b r t h near in
      let st = kept-stacks c closes w t f.viewport r (bucket-some f.width) b near (reset-ranged f) untold (c.blank ∷ []) (reset-follows a t r f h) (reset-stacks r t h) fair op in
      let none : o.open-layers ≡ [] = map-none layer-in o.open-layers (sym fw.opened ∙ closed-canvas k e) in
      let low : length o.open-layers - length row.levels ≡ 0 = rw none (omega arith) in
      st.same ∙ rw low

  pub same-buffers : (ts : List Turn) (r t : ℕ) → r < rows_of f.viewport → t < width f.viewport / 4 → has-finished (painted ts k).canvas r ≡ true
      → Opaque c (tell-steps (bucket f) f.viewport r t xs untold).told
      → Fairly c closes (bucket f) t f.viewport r k.screen.state.attrs xs untold
      → turns-drawn c r t ts (begin-call k).value (c.blank ∷ []) ≡ plain-drawn c closes (bucket f) f.viewport r t xs untold (c.blank ∷ [])
  unfolding reset
  same-buffers ts r t h on fin op fair =
      let v = kept-frame b in
      let row = get_or k.screen.rows r fresh-row in
      let w = bucket f in
      let a = k.screen.state.attrs in
      let inb : t / w < buckets-across f = touched-end w (bucket-some f.width) t (width f.viewport / 4) on in
      let g = follows-kept f xs k.screen b r t h inb in
      let n = length row.fills + length row.commands in
      finished-comes c t ts k r e g.there fin (c.blank ∷ [])
      ∙ ap (λ (g : Frame). steps-drawn c (bucket g) a t n row (begin (buckets-across g)) (c.blank ∷ [])) v
      ∙ row-comes c w a t (bucket-some f.width) row (buckets-across f) inb g.grown.holds.numbered c.blank
      ∙ sym (plain-comes r t h inb op fair)

-- Layers that close in the rows that they touch are fair.
module _ {B : Type 0} (c : Colours B) (w t : ℕ) (v : Box) (row : ℕ) (attrs : Attrs) where
  touched-fair : (xs : List Step) (o : Story) → Fairly c if-touched w t v row attrs xs o
  touched-fair [] o = no_more
  touched-fair (x ∷ xs) o =
      fair-then (all_any (λ (l : OpenLayer). record { touched-closes = λ y. y; leaves = λ n y. never (sym y ∙ n) }) o.open-layers) (touched-fair xs (tell-step w v row t x o))

pub kept-touched : {B : Type 0} → Compacted-touched B
kept-touched c f xs k b e ts r t h on fin op =
    same-buffers c if-touched f xs k b e ts r t h on fin op (touched-fair c (bucket f) t f.viewport r k.screen.state.attrs xs untold)

pub same-touched : {B : Type 0} → SameTouched B
same-touched c f xs k b = kept-touched c f xs k (built-kept b)
