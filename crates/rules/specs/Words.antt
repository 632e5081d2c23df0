-- Words from records, the other way than a file is read.
use Rattle.std.specs.Prelude.{ℕ, suc, ◌≡◌, List, [], ◌∷◌, ◌++◌, length, Option, None, Some}
use Rattle.sizes.specs.declared.edition.Edition.{Edition}
use Rattle.sizes.specs.declared.edition.Edition.TheVariants.{One, Two}
use Rattle.rules.specs.Lists.{join}
use Rattle.rules.specs.Boxes.{Box}
use Rattle.rules.specs.Segments.{Segment}
use Rattle.rules.specs.Inputs.{Paint, Draw}
use Rattle.rules.specs.Recording.{Recording, LayerRec, Node, head, pixmap-of}

abbrev pub box-words : Box → List ℕ
box-words b = b.x0 ∷ b.y0 ∷ b.x1 ∷ b.y1 ∷ []

abbrev pub paint-words : Paint → List ℕ
paint-words p = p.opaque ∷ p.handle ∷ 0 ∷ 0 ∷ []

abbrev pub segment-words : Segment → List ℕ
segment-words s = s.kind ∷ s.row ∷ s.first ∷ s.end ∷ s.alpha ∷ []

-- a panel's word at the end of a record; edition one has none
abbrev pub panel-word : Edition → ℕ → List ℕ
panel-word One p = []
panel-word Two p = p ∷ []

abbrev pub draw-words : Edition → Draw → List ℕ
draw-words e d = d.thread ∷ d.start ∷ d.end ∷ d.paint ∷ d.blend.mix ∷ d.blend.compose ∷ d.mask ∷ panel-word e d.panel

-- a picture's handle + 1, or 0 for none
abbrev pub pixmap-word : Option ℕ → ℕ
pixmap-word None = 0
pixmap-word (Some h) = suc h

-- a filter layer's picture and its word are the same both ways
abbrev pub PixmapsReadBack : Type 0
PixmapsReadBack = (p : Option ℕ) → pixmap-of (pixmap-word p) ≡ p

abbrev pub PixmapsWrittenBack : Type 0
PixmapsWrittenBack = (n : ℕ) → pixmap-word (pixmap-of n) ≡ n

abbrev pub layer-words : Edition → LayerRec → List ℕ
layer-words e l =
    (l.kind ∷ l.start ∷ l.end ∷ l.blend.mix ∷ l.blend.compose ∷ l.opacity ∷ l.mask ∷ l.flag ∷ [])
    ++ (box-words l.clip.bounds
    ++ ((l.clip.start ∷ l.clip.end ∷ l.clip.thread ∷ pixmap-word l.filter.pixmap ∷ [])
    ++ (box-words l.filter.dest ++ (l.filter.source-x ∷ l.filter.source-y ∷ panel-word e l.panel))))

abbrev pub node-words : Node → List ℕ
node-words n = n.start ∷ n.end ∷ n.layer ∷ []

-- a section: its count, then its records
abbrev pub section : {A : Type 0} → (A → List ℕ) → List A → List ℕ
section f xs = length xs ∷ join f xs

-- the file of an edition that says a recording; a paint's shifts are written as 0
unfoldable pub file : Edition → Recording → List ℕ
file e r =
    head e
    ++ (section box-words (r.viewport ∷ [])
    ++ (section paint-words r.paints
    ++ (section segment-words r.segments
    ++ (section (draw-words e) r.draws
    ++ (section (layer-words e) r.layers ++ (section node-words r.nodes ++ (1 ∷ r.start ∷ r.end ∷ [])))))))
