-- A screen's lent words as a list of rows, and back. A whole arena is a `Words` too.
use Rattle.std.specs.Prelude.{ℕ, zero, suc, ◌+◌, ◌*◌, ◌/◌, ◌≤◌, ◌<◌, ◌≡◌, List, [], ◌∷◌, ◌++◌, length, take, drop, get_or}
use borrow.Rule.Slice.PartMut.{put_mid}
use Rattle.sizes.specs.Sizes.{most-room, most-rows, last-id, row-size}
use Rattle.row.specs.Words.{Words, words, Room}
use Rattle.row.specs.declared.rows.Place.{Place}

-- a row past the last
abbrev pub nowhere : Words
nowhere = words [] [] []

-- how many words a row has in each of the three
pub record Sizes : Type 0 where
  pub state : ℕ
  pub render : ℕ
  pub fills : ℕ

-- room for c commands and d depth fills
abbrev pub sizes : ℕ → ℕ → Sizes
sizes c d = record { state = row-size; render = 4 * c; fills = 2 * d }

abbrev pub head_of : Sizes → Words → Words
head_of k w = words (take k.state w.state) (take k.render w.render) (take k.fills w.fills)

abbrev pub tail_of : Sizes → Words → Words
tail_of k w = words (drop k.state w.state) (drop k.render w.render) (drop k.fills w.fills)

-- the first n rows of a whole
unfoldable pub cut : Sizes → ℕ → Words → List Words
cut k zero w = []
cut k (suc n) w = head_of k w ∷ cut k n (tail_of k w)

-- rows one after the other: a whole
unfoldable pub lay : List Words → Words
lay [] = nowhere
lay (u ∷ us) = words (u.state ++ (lay us).state) (u.render ++ (lay us).render) (u.fills ++ (lay us).fills)

-- row r of the whole, and the whole with row r replaced
abbrev pub row_at : Sizes → ℕ → Words → Words
row_at k r w = words (take k.state (drop (r * k.state) w.state)) (take k.render (drop (r * k.render) w.render)) (take k.fills (drop (r * k.fills) w.fills))

abbrev pub with_row : Sizes → ℕ → Words → Words → Words
with_row k r w u = words (put_mid (r * k.state) k.state w.state u.state) (put_mid (r * k.render) k.render w.render u.render) (put_mid (r * k.fills) k.fills w.fills u.fills)

-- as many words as n rows have
pub record Long (k : Sizes) (n : ℕ) (w : Words) : Type 0 where
  pub state : length w.state ≡ n * k.state
  pub render : length w.render ≡ n * k.render
  pub fills : length w.fills ≡ n * k.fills

-- as many words as one row has
pub record Sized (k : Sizes) (u : Words) : Type 0 where
  pub state : length u.state ≡ k.state
  pub render : length u.render ≡ k.render
  pub fills : length u.fills ≡ k.fills

-- how many rows have their records in these words
abbrev pub count-rows : List ℕ → ℕ
count-rows s = length s / row-size

-- the words of n rows, with room for i commands and j depth fills in each
pub record Arenas (i j n : ℕ) (w : Words) : Type 0 where
  pub rows : n ≤ most-rows
  pub c : i ≤ most-room
  pub d : j ≤ most-room
  pub long : Long (sizes i j) n w

-- where row r stands
pub record Stands (c d r : ℕ) (p : Place) : Type 0 where
  pub x0 : p.x0 ≡ r * row-size
  pub x1 : p.x1 ≡ p.x0 + row-size
  pub y0 : p.y0 ≡ r * (4 * c)
  pub y1 : p.y1 ≡ p.y0 + 4 * c
  pub z0 : p.z0 ≡ r * (2 * d)
  pub z1 : p.z1 ≡ p.z0 + 2 * d
  pub low : (p.x1 ≤ 27648) × (p.y1 ≤ 2097152) × (p.z1 ≤ last-id)

-- row r of n is there; what f makes of it has room, and P holds of it
pub record Ready (c d n r : ℕ) (P : Words → Type 0) (f : Words → Words) (w : Words) : Type 0 where
  pub arenas : Arenas c d n w
  pub within : r < n
  pub asked : P (get_or (cut (sizes c d) n w) r nowhere)
  pub room : Room (get_or (cut (sizes c d) n w) r nowhere) (f (get_or (cut (sizes c d) n w) r nowhere))
