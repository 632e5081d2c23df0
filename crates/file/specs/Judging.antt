-- The rules' tests of a file's records, by the counts of its sections.
use Rattle.std.specs.Prelude.{ℕ, ◌+◌, Bool, true, ◌&&◌, not, cond, List, [], ◌∷◌, get_or, leb, eqb}
use Rattle.rules.specs.Lists.{slice}
use Rattle.rules.specs.Answers.{first_of, BadRecord, BadOrder}
use Rattle.rules.specs.Boxes.{Box, box}
use Rattle.rules.specs.Blends.{good-blend}
use Rattle.rules.specs.Segments.{Segment, ordered}
use Rattle.rules.specs.Spans.{good-range}
use Rattle.rules.specs.Inputs.{Draw, draw-segments, good-filter, good-handle, good-panel}
use Rattle.inputs.specs.Inputs.{clip_fields}
use Rattle.rules.specs.Recording.{Recording, LayerRec, Node, zero-clip, zero-filter, good-records, good-order}

unfoldable pub box_from : List ℕ → ℕ → Box
box_from ws p = box (get_or ws p 0) (get_or ws (p + 1) 0) (get_or ws (p + 2) 0) (get_or ws (p + 3) 0)

unfoldable pub clip_part : ℕ → LayerRec → Bool
clip_part segments l = cond (eqb l.flag 1) (clip_fields segments l.clip) (zero-clip l.clip)

unfoldable pub filter_part : LayerRec → Bool
filter_part l = cond (eqb l.kind 1) (good-filter l.filter) (zero-filter l.filter)

unfoldable pub layer_fields : ℕ → ℕ → LayerRec → Bool
layer_fields nodes segments l =
    leb l.kind 1
    && good-range l.start l.end nodes
    && good-blend l.blend
    && good-handle l.mask
    && leb l.flag 1
    && clip_part segments l
    && filter_part l
    && good-panel l.panel

unfoldable pub node_fields : ℕ → ℕ → Node → Bool
node_fields draws layers n = good-range n.start n.end draws && leb n.layer layers

-- the ranges that the order is asked of
unfoldable pub draw_range : ℕ → Draw → Bool
draw_range segments d = good-range d.start d.end segments

unfoldable pub clip_range : ℕ → LayerRec → Bool
clip_range segments l = cond (eqb l.flag 1) (good-range l.clip.start l.clip.end segments) true

unfoldable pub draw_ordered : List Segment → Draw → Bool
draw_ordered ss d = ordered (draw-segments ss d)

unfoldable pub clip_ordered : List Segment → LayerRec → Bool
clip_ordered ss l = cond (eqb l.flag 1) (ordered (slice l.clip.start l.clip.end ss)) true

-- answer 4, then 5
abbrev pub judged : Recording → ℕ
judged r = first_of ((not (good-records r), BadRecord) ∷ (not (good-order r), BadOrder) ∷ [])
