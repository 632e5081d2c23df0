-- What the calls promise, as the tile's steps: a draw, and the properties of a layer.
use Rattle.std.proofs.Common.{ℕ, ◌+◌, ◌-◌, ◌*◌, ◌<◌, arith, ◌≡◌, refl, sym, ap, ◌∙◌, Bool, true, List, [], ◌∷◌, length, eqb, eq-eqb, ne_eqb}
use Rattle.rules.specs.Lists.{is-empty}
use Rattle.rules.specs.Answers.{Answer}
use Rattle.rules.specs.Boxes.{Box}
use Rattle.rules.specs.Segments.{Segment}
use Rattle.rules.specs.Inputs.{Draw, draw-paint, Props, needs-buffer, Filter, all-good}
use Rattle.rules.specs.Recording.{Recording, LayerRec, good-records, good-layer-rec}
use Rattle.rules.specs.Plans.{Layer, Step, a-fill, a-push, a-pop, a-filter, eligible}
use Rattle.rules.specs.Walk.{props-of}
use Rattle.rect.specs.Rects.{box_of}
use Rattle.segments.specs.Segs.{segs, segs-of}
use Rattle.cmd.specs.Blends.{blend_of}
use Rattle.screen.specs.declared.layers.LayerProps.{LayerProps}
use Rattle.screen.specs.Layers.{clip-of}
use Rattle.fill.specs.Fills.{paints-of}
use Rattle.walk.specs.Reading.{clip_read, props_in, buffered}
use Rattle.walk.proofs.Opacity.{buffered-by-bits}
use Rattle.tile.specs.declared.steps.Spot.{Spot}
use Rattle.tile.specs.declared.steps.Within.{Within}
use Rattle.tile.specs.Telling.{Telling, tell-at, tell-fill, tell-push, tell-pop, tell-filter}
use Rattle.tile.specs.Places.{Holds, Says, ClipReady, layer-in}
use Rattle.tile.proofs.Said.{said-by}
use Rattle.tile.proofs.Records.{Drawable, range-is, clip-back, clip-good, clip-ready}

-- the steps at a spot
abbrev pub told : Spot → Step → Telling → Answer Telling
told s = tell-at s.width (box_of s.viewport) s.row s.tile

none_open : (ls : List Layer) (n : ℕ) → length ls ≡ n → is-empty ls ≡ eqb n 0
none_open [] n e = sym (eq-eqb n 0 (sym e))
none_open (x ∷ ls) n e = sym (ne_eqb n 0 (λ z. omega arith))

-- a draw: its segments and its paint are those of the words that are lent, and the open layers are counted
module _ (s : Spot) (r : Recording) {d : Draw} (k : Drawable r d) (ps ss : List ℕ) (e : paints-of ps ≡ r.paints) (q : segs-of ss ≡ r.segments) (m : length ss ≡ 5 * length r.segments) where
  pub draw-told : (w : Within) (x : Telling) → Holds (box_of s.viewport) w x.opened → {n : ℕ} {t : Telling}
      → Says (tell-fill s.width (box_of s.viewport) s.row s.tile (segs ss d.start (d.end - d.start))
      (eligible (eqb w.«open» 0) (draw-paint (paints-of ps) d) d) d.panel x) n t
      → Says (told s (a-fill r.paints r.segments d) x) n t
  unfolding tell-at
  draw-told w x o f = said-by (sym (rw (range-is r ss q m _ _ k.order k.ends, e, none_open x.opened w.«open» o.count))) f

-- the other steps; a pop is lent the recording's segments
module _ (s : Spot) {n : ℕ} {t : Telling} where
  pub filter-told : (k : ℕ) (f : Filter) {p q : ℕ} → q ≡ p → (x : Telling)
      → Says (tell-filter s.width (box_of s.viewport) s.row s.tile f p x) n t → Says (told s (a-filter k f q) x) n t
  unfolding tell-at
  filter-told k f z x e = rw z e

  pub push-told : (p : Props) (x : Telling) → Says (tell-push s.width (box_of s.viewport) s.row s.tile p x) n t → Says (told s (a-push p) x) n t
  unfolding tell-at
  push-told p x e = e

  pub pop-told : (ts : List Segment) (ss : List ℕ) → segs-of ss ≡ ts → (x : Telling) → Says (tell-pop s.width (box_of s.viewport) s.row s.tile x.opened (segs-of ss) x) n t
      → Says (told s (a-pop ts) x) n t
  unfolding tell-at
  pop-told ts us q x e = said-by (ap (λ (ss : List Segment). tell-pop s.width (box_of s.viewport) s.row s.tile x.opened ss x) (sym q)) e

-- the layers that are open inside of a pushed one
pub holds-inside : (v : Box) (p : Props) (h w : Within) (ls : List Layer) → w.«open» ≡ h.«open» + 1 → Holds v h ls → Holds v w (layer-in p w ∷ ls)
holds-inside v p h w ls e o = let n = o.count in record { clip = refl; count = omega (arith, e, n) }

-- the code's properties of a layer
module _ {q : LayerProps} (y : LayerRec) (e : q ≡ props_in (props-of y)) where
  pub blend-told : (props-of y).blend ≡ blend_of q.blend
  blend-told = rw e

  pub clip-told : (props-of y).clip ≡ clip-of q.clip
  clip-told = rw e (sym (clip-back (clip_read y)))

  pub panel-told : (props-of y).panel ≡ q.panel
  panel-told = rw e

  pub buffer-told : (b : Bool) → b ≡ buffered q → y.opacity < 4294967296 → needs-buffer (props-of y) ≡ b
  buffer-told b k h = sym (k ∙ rw e (buffered-by-bits (props-of y) h))

  pub good-told : (r : Recording) → good-layer-rec r y ≡ true → all-good (clip-of q.clip) ≡ true
  good-told r g = rw e (clip-good r y g)

  pub ready-told : (r : Recording) → good-records r ≡ true → (ss : List ℕ) → segs-of ss ≡ r.segments → length ss ≡ 5 * length r.segments → good-layer-rec r y ≡ true
      → ClipReady q.clip ss
  ready-told r g ss j w k = rw e (clip-ready r ss j w g y k)
