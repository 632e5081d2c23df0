-- Pieces as words.
use Rattle.std.specs.Prelude.{ℕ, Bool, true, false, List, [], ◌∷◌, ◌++◌, length, drop}
use Rattle.std.specs.Prelude.{Option, None, Some}
use Rattle.rules.specs.Lists.{join}
use Rattle.rules.specs.Painting.{Piece}
use Rattle.cmd.specs.declared.piece.PieceWords.{PieceWords}

-- 1 paint solid, 2 paint alpha, 3 layer solid, 4 layer alpha
abbrev pub tag-of : Bool → Option ℕ → ℕ
tag-of false None = 1
tag-of false (Some a) = 2
tag-of true None = 3
tag-of true (Some a) = 4

abbrev pub index_of : Option ℕ → ℕ
index_of None = 0
index_of (Some a) = a

-- a piece's words: tag, attribute, first tile, end tile, alpha index or 0, nesting, panel
abbrev pub piece-words : Piece → List ℕ
piece-words p =
    tag-of p.layer p.alpha ∷ p.attribute ∷ p.tiles.first ∷ p.tiles.end ∷ index_of p.alpha ∷ p.nesting ∷ p.panel ∷ []

abbrev pub words_of : PieceWords → List ℕ
words_of p = p.tag ∷ p.attrs_idx ∷ p.first ∷ p.end ∷ p.alpha ∷ p.nesting ∷ p.panel ∷ []

-- the pieces at a list's start; what stands after them stays
abbrev pub laid : List Piece → List ℕ → List ℕ
laid ps l = join piece-words ps ++ drop (length (join piece-words ps)) l
