-- What is read of an input whose bytes are known, and the files of a stream.
use Rattle.std.specs.Prelude.{◌≡◌, ℕ, zero, suc, ◌+◌, ◌-◌, ◌^◌, ◌≤◌, if◌then◌else◌, List, [], ◌∷◌, ◌++◌, length, take, drop, slice_index, Option, Some, None, IfSome, ⊤, nat_lt, nat_le}
use Rattle.std.specs.Io.KnownBytes.{Appends}
use Rattle.rules.specs.Lines.{word_of}

-- the next n known bytes, or as many as are left, were taken: they are ts
abbrev pub Takes : ℕ → Option (List ℕ) → Option (List ℕ) → List ℕ → Type 0
Takes n None new ts = ⊤
Takes n (Some bs) new ts = (ts ≡ take n bs) × (new ≡ Some (drop n bs))

-- they were passed over
abbrev pub Skips : ℕ → Option (List ℕ) → Option (List ℕ) → Type 0
Skips n None new = ⊤
Skips n (Some bs) new = new ≡ Some (drop n bs)

-- the little-endian word at a place of a head, 0 if there are not four bytes
abbrev pub word_at : List ℕ → ℕ → ℕ
word_at bs i =
    if nat_le (i + 4) (length bs) then word_of (slice_index bs i) (slice_index bs (i + 1)) (slice_index bs (i + 2)) (slice_index bs (i + 3)) else 0

-- a file of a stream, after its head
pub record Item : Type 0 where
  pub head : List ℕ
  pub file : List ℕ

-- the file at the front of a stream, after a head of k bytes. The head's first word is the file's length in bytes; one that passes the stream's end takes what is left
abbrev pub first_item : ℕ → List ℕ → Item
first_item k bs = record { head = take k bs; file = take (word_at (take k bs) 0) (drop k bs) }

-- what stands after it
abbrev pub after_item : ℕ → List ℕ → List ℕ
after_item k bs = drop (word_at (take k bs) 0) (drop k bs)

-- the first n files of a stream; an incomplete head at the end is none
unfoldable pub items : ℕ → ℕ → List ℕ → List Item
items k zero bs = []
items k (suc n) bs = if nat_lt (length bs) k then [] else first_item k bs ∷ items k n (after_item k bs)

-- what is printed of files, from number i on, given what is printed of each
abbrev pub printed_from : (ℕ → Item → List ℕ) → ℕ → List Item → List ℕ
printed_from one i [] = []
printed_from one i (x ∷ xs) = one i x ++ printed_from one (suc i) xs

-- .. of a stream of which no run reaches the end of what is counted
abbrev pub stream_printed : (ℕ → Item → List ℕ) → ℕ → List ℕ → List ℕ
stream_printed one k stream = printed_from one 0 (items k (2 ^ 64 - 1) stream)

-- a file without what stands after its first n bytes
abbrev pub short : ℕ → Item → Item
short n x = record { head = x.head; file = take n x.file }

-- what is printed of the file at the front of a stream, as file i; of less than a head, nothing
abbrev pub front_printed : (ℕ → Item → List ℕ) → ℕ → ℕ → List ℕ → List ℕ
front_printed one k i bs = if nat_lt (length bs) k then [] else one i (first_item k bs)

-- a whole head stood at the front of the stream bs: its file was answered as file i, and rest stands after it
abbrev pub Answered : (ℕ → Item → List ℕ) → ℕ → ℕ → List ℕ → Option (List ℕ) → Option (List ℕ) → Option (List ℕ) → Type 0
Answered one k i bs rest old new = (k ≤ length bs) × (rest ≡ Some (after_item k bs)) × Appends old new (one i (first_item k bs))

-- what was appended is what is printed of a known stream's first files, however many, each whole
abbrev pub PrintsFirst : (ℕ → Item → List ℕ) → ℕ → Option (List ℕ) → Option (List ℕ) → Option (List ℕ) → Type 0
PrintsFirst one k known old new =
    IfSome known (λ stream. (xs ys : List Item) × (items k (2 ^ 64 - 1) stream ≡ xs ++ ys) × Appends old new (printed_from one 0 xs))
