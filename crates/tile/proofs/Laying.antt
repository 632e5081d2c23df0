-- Entries laid in a list, one more at a time. Assumes nothing.
use Rattle.std.proofs.Common.{◌≡◌, refl, sym, ap, ◌∙◌, List, [], ◌∷◌, ◌++◌, map, append_assoc, ℕ, ◌+◌, ◌*◌, ◌≤◌, arith, length, drop, length-append, length-drop, take_at, drop_at, drop-drop}
use Rattle.std.proofs.lemmas.List.{map-append}
use lib.ListN.{length-map}
use Rattle.sizes.specs.Sizes.{piece-size}
use Rattle.rules.specs.Lists.{join}
use Rattle.rules.specs.Painting.{Piece}
use Rattle.cmd.specs.Attrs.{words-at}
use Rattle.cmd.specs.Pieces.{piece-words, laid}
use Rattle.tile.specs.Telling.{Line}
use Rattle.tile.specs.Listed.{entry_of, piece-of, entries-laid}

join-append : (ps qs : List Piece) → join piece-words (ps ++ qs) ≡ join piece-words ps ++ join piece-words qs
join-append [] qs = refl
join-append (p ∷ ps) qs = rw (join-append ps qs, append_assoc)

length-pieces : (ps : List Piece) → length (join piece-words ps) ≡ piece-size * length ps
length-pieces [] = refl
length-pieces (p ∷ ps) = let h = length-pieces ps in omega arith

module _ (ps : List Piece) (l : List ℕ) where
  abbrev words : List ℕ
  words = join piece-words ps

  module _ (fits : piece-size * length ps ≤ length l) where
    -- a list is as long as before
    pub length-laid : length (laid ps l) ≡ length l
    length-laid = omega (arith, length-append words (drop (length words) l), length-drop (length words) l, length-pieces ps)

  abbrev place : ℕ
  place = piece-size * length ps

  behind : drop (place + piece-size) (laid ps l) ≡ drop (length words + piece-size) l
  behind =
      sym (drop-drop piece-size place (laid ps l))
      ∙ ap (drop piece-size) (drop_at words (drop (length words) l) place (length-pieces ps))
      ∙ drop-drop piece-size (length words) l

  -- the next piece, stored after them
  next-laid : (p : Piece) → words-at (laid ps l) place (piece-words p) ≡ laid (ps ++ p ∷ []) l
  next-laid p =
      rw (join-append ps (p ∷ []), length-append words (piece-words p), take_at words (drop (length words) l) place (length-pieces ps), behind)
      refl

module _ (t : ℕ) (ls : List Line) (list : List ℕ) where
  abbrev pieces : List Line → List Piece
  pieces ms = map (piece-of t) (map entry_of ms)

  long : length (pieces ls) ≡ length ls
  long = rw (length-map, length-map)

  pub list-long : piece-size * length ls ≤ length list → length (entries-laid t (map entry_of ls) list) ≡ length list
  list-long h = length-laid (pieces ls) list (rw long h)

  -- the next line's entry, stored after them
  pub next-entry : (l : Line)
      → words-at (entries-laid t (map entry_of ls) list) (piece-size * length ls) (piece-words (piece-of t (entry_of l)))
      ≡ entries-laid t (map entry_of (ls ++ l ∷ [])) list
  next-entry l =
      rw (map-append entry_of ls (l ∷ []), map-append (piece-of t) (map entry_of ls) (entry_of l ∷ []), ← long)
      (next-laid (pieces ls) list (piece-of t (entry_of l)))
