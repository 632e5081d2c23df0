-- What the contracts of this crate say in one word, by the code's own values.
use Rattle.std.specs.Prelude.{ℕ, ◌-◌, ◌≡◌, List, ◌∷◌, Option, Result}
use Rattle.sizes.specs.declared.answers.Refusal.{Refusal}
use Rattle.sizes.specs.Refusals.{answer_number}
use Rattle.rules.specs.Answers.{Answer, answer}
use Rattle.rules.specs.Segments.{Segment}
use Rattle.rules.specs.Inputs.{Props, Filter}
use Rattle.rules.specs.Plans.{Layer}
use Rattle.rect.specs.declared.Rect.{Rect}
use Rattle.rect.specs.Rects.{box_of}
use Rattle.cmd.specs.Blends.{blend_of}
use Rattle.segments.specs.Segs.{segs, segs-of}
use Rattle.inputs.specs.declared.Clip.{Clip}
use Rattle.screen.specs.declared.layers.LayerProps.{LayerProps}
use Rattle.screen.specs.Layers.{clip-of}
use Rattle.tile.specs.declared.steps.Spot.{Spot}
use Rattle.tile.specs.declared.steps.Within.{Within}
use Rattle.tile.specs.declared.steps.Tale.{Tale}
use Rattle.tile.specs.declared.steps.Stroke.{Stroke}
use Rattle.tile.specs.Telling as tell
use Rattle.tile.specs.Telling.{Telling, no-look}
use Rattle.tile.specs.Places.{Holds, Says, telling, opened_by, left_by}

-- what segments are to the tile: before the cut, one more, and some, cut to a clip box
abbrev pub cover_at : Spot → tell.Look → Segment → tell.Look
cover_at s k g = tell.cover s.width (box_of s.viewport) s.row s.tile k g

abbrev pub see_at : Spot → Rect → tell.Look → Segment → tell.Look
see_at s c k g = tell.see s.width (box_of s.viewport) s.row s.tile (box_of c) k g

abbrev pub look_in : Spot → Rect → List Segment → tell.Look
look_in s c gs = tell.look s.width (box_of s.viewport) s.row s.tile (box_of c) no-look gs

-- .. what closes a layer, by its clip, its own box and its parent's
abbrev pub closing_in : Spot → Option Clip → Rect → Rect → List ℕ → tell.Look
closing_in s c own parent ws =
    tell.closing-look s.width (box_of s.viewport) s.row s.tile (clip-of c) (box_of own) (box_of parent) (segs-of ws)

-- what a step says of the tile
abbrev pub fill_told : Spot → List ℕ → Stroke → Telling → Answer Telling
fill_told s ws k t = tell.tell-fill s.width (box_of s.viewport) s.row s.tile (segs ws k.start (k.«end» - k.start)) k.eligible k.panel t

abbrev pub push_told : Spot → Props → Telling → Answer Telling
push_told s p t = tell.tell-push s.width (box_of s.viewport) s.row s.tile p t

abbrev pub pop_told : Spot → List Layer → List ℕ → Telling → Answer Telling
pop_told s ls ws t = tell.tell-pop s.width (box_of s.viewport) s.row s.tile ls (segs-of ws) t

abbrev pub filter_told : Spot → Filter → ℕ → Telling → Answer Telling
filter_told s f q t = tell.tell-filter s.width (box_of s.viewport) s.row s.tile f q t

-- whatever layers are open, f says the number n, and makes of the first counts and lines the second
abbrev pub SaysOf : Spot → Within → (Telling → Answer Telling) → ℕ → Tale → List ℕ → Tale → List ℕ → Type 0
SaysOf s h f n t ws u vs = (ls : List Layer) → Holds (box_of s.viewport) h ls → Says (f (telling t ls ws)) n (telling u ls vs)

-- .. and refused, it leaves the first
abbrev pub Tells : Spot → Within → (Telling → Answer Telling) → ℕ → Tale → List ℕ → Tale → List ℕ → Type 0
Tells s h f n t ws u vs = (ls : List Layer) → Holds (box_of s.viewport) h ls → answer n (telling u ls vs) ≡ f (telling t ls ws)

-- a push of a layer with these properties says so; the lines stay
abbrev pub TellsPush : Spot → Within → LayerProps → Result Within Refusal → Tale → Tale → Type 0
TellsPush s h q r t u = (p : Props) (ls : List Layer) (ws : List ℕ) → p.blend ≡ blend_of q.blend → p.clip ≡ clip-of q.clip → Holds (box_of s.viewport) h ls
    → answer (answer_number r) (telling u (opened_by r p ls) ws) ≡ push_told s p (telling t ls ws)

-- .. a pop of a layer with these properties, which holds within the layers `outer`
abbrev pub TellsPop : Spot → Within → Within → LayerProps → List ℕ → Result Unit Refusal → Tale → List ℕ → Tale → List ℕ → Type 0
TellsPop s h outer q ss r t ws u vs = (l : Layer) (ls : List Layer) → l.props.clip ≡ clip-of q.clip → l.props.panel ≡ q.panel → l.bounds ≡ box_of h.clip
    → Holds (box_of s.viewport) outer ls → answer (answer_number r) (telling u (left_by r l ls) vs) ≡ pop_told s (l ∷ ls) ss (telling t (l ∷ ls) ws)

-- .. a filter fill of a picture into a box, of a panel
abbrev pub TellsFilter : Spot → Within → Rect → Option ℕ → ℕ → ℕ → Tale → List ℕ → Tale → List ℕ → Type 0
TellsFilter s h dest x q n t ws u vs = (f : Filter) (ls : List Layer) → f.dest ≡ box_of dest → f.pixmap ≡ x → Holds (box_of s.viewport) h ls
    → answer n (telling u ls vs) ≡ filter_told s f q (telling t ls ws)
