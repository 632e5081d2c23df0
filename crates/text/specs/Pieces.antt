-- The lines of a row's pieces.
use Rattle.std.specs.Prelude.{ℕ, ◌+◌, ◌*◌, ◌||◌, cond, List, [], ◌∷◌, get_or, drop, leb, eqb}
use Rattle.std.specs.Prelude.{Option, None, Some}
use Rattle.sizes.specs.Sizes.{most-runs, piece-size, program-buckets, program-room}
use Rattle.text.specs.Details.{Detail, painted, p, l}
use Rattle.text.specs.Places.{joined}

-- The most pieces of a row of the programs' screens: one for each bucket of all its depth fills together, and as many as there can be runs for
-- each command; and the words of a list that holds them.
abbrev pub most-pieces : ℕ
most-pieces = program-buckets + most-runs * program-room

abbrev pub piece-list : ℕ
piece-list = piece-size * most-pieces

-- Seven words: tag, attribute, first tile, end tile, alpha index, nesting, panel; a paint's tag is 1 or 2, and 2 and 4 have alpha.
abbrev pub word : List ℕ → ℕ → ℕ
word ws i = get_or ws i 0

abbrev pub alpha-of : ℕ → ℕ → Option ℕ
alpha-of tag a = cond (eqb tag 2 || eqb tag 4) (Some a) None

-- p for a paint, l for a layer
abbrev pub letter-of : ℕ → ℕ
letter-of tag = cond (leb tag 2) 112 108

-- a piece's line, off its words
abbrev pub piece_of : List ℕ → Detail
piece_of ws =
    let x = alpha-of (word ws 0) (word ws 4) in
    cond (leb (word ws 0) 2) (p (word ws 1) (word ws 2) (word ws 3) x (word ws 5) (word ws 6))
    (l (word ws 1) (word ws 2) (word ws 3) x (word ws 5) (word ws 6))

-- .. at place k of a list
unfoldable pub piece-at : List ℕ → ℕ → Detail
piece-at ws k = piece_of (drop (piece-size * k) ws)

-- the first n pieces of a list
abbrev pub pieces-at : List ℕ → ℕ → List Detail
pieces-at ws n = joined (λ (k : ℕ). piece-at ws k ∷ []) n

-- row r with its first n pieces
unfoldable pub row-lines : ℕ → List ℕ → ℕ → List Detail
row-lines r ws n = painted r n ∷ pieces-at ws n
