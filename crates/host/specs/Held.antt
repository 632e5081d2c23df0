-- What a host holds and hands over by reference, as the words that the calls are defined on.
use Rattle.std.specs.Prelude.{ℕ, List, [], ◌∷◌}
use Rattle.rect.specs.declared.Rect.{Rect}
use Rattle.host.specs.declared.state.StateWords.{StateWords}
use Rattle.host.specs.declared.state.Corners.{Corners}
use Rattle.inputs.specs.declared.Draw.{Draw}
use Rattle.host.specs.declared.build.DrawWords.{DrawWords}
use Rattle.host.specs.Building.{draw, props, clip, picture, filter-in}
use Rattle.host.specs.State.{rect}
use Rattle.layers.specs.Filter.{FilterGiven, given}
use Rattle.screen.specs.declared.layers.LayerProps.{LayerProps}
use Rattle.host.specs.declared.layer.PropsWords.{PropsWords}
use Rattle.host.specs.declared.layer.FilterWords.{FilterWords}
use Rattle.host.specs.declared.reasons.ReasonWords.{ReasonWords}
use Rattle.host.specs.declared.results.PaintedWords.{PaintedWords}
use Rattle.host.specs.declared.results.PartWords.{PartWords}
use Rattle.host.specs.declared.results.SplitWords.{SplitWords}

-- the screen's 17 words, in their order
abbrev pub words_in : StateWords → List ℕ
words_in s =
    s.viewport.x0
    ∷ s.viewport.y0
    ∷ s.viewport.x1
    ∷ s.viewport.y1
    ∷ s.clip.x0
    ∷ s.clip.y0
    ∷ s.clip.x1
    ∷ s.clip.y1
    ∷ s.c
    ∷ s.d
    ∷ s.next_draw_id
    ∷ s.paint_attrs
    ∷ s.layer_attrs
    ∷ s.filter_paints
    ∷ s.layers
    ∷ s.painting
    ∷ s.width
    ∷ []

-- a box
abbrev pub rect_of : Corners → Rect
rect_of c = rect c.x0 c.y0 c.x1 c.y1

-- a painting call's result: whether finished, how many pieces
abbrev pub painted_in : PaintedWords → List ℕ
painted_in p = p.finished ∷ p.pieces ∷ []

-- a number that a call writes
abbrev pub one : ℕ → List ℕ
one n = n ∷ []

-- what is drawn
abbrev pub draw_in : DrawWords → Draw
draw_in d = draw d.thread d.start d.end d.paint d.mix d.compose d.mask d.panel

-- what a push is given
abbrev pub props_of : PropsWords → LayerProps
props_of p =
    props p.mix p.compose p.opacity p.mask p.flag (clip p.bounds.x0 p.bounds.y0 p.bounds.x1 p.bounds.y1 p.start p.end p.thread) p.panel

-- what a filter fill is given
abbrev pub filter_of : FilterWords → FilterGiven
filter_of f =
    given (filter-in (rect_of f.dest) f.source_x f.source_y (picture f.has_pixmap f.pixmap)) f.paint_count f.panel

-- a reason: its case, its number, and the two panels
abbrev pub reason_in : ReasonWords → List ℕ
reason_in r = r.kind ∷ r.number ∷ r.panel ∷ r.hider_panel ∷ []

-- a part of a split span, and all three
abbrev pub part : ℕ → ℕ → ℕ → PartWords
part kind first end = record { kind = kind; first = first; «end» = end }

abbrev pub part_in : PartWords → List ℕ → List ℕ
part_in p ws = p.kind ∷ p.first ∷ p.end ∷ ws

abbrev pub parts_in : SplitWords → List ℕ
parts_in s = part_in s.left (part_in s.middle (part_in s.right []))
