-- The summary above a row's depth words: the smallest id of the whole row, of each half, of each quarter, down to one bucket. A group of 2 ^ k buckets has its
-- own minimum first, then the words of its left half, then those of its right half.
use Rattle.std.specs.Prelude.{ℕ, zero, suc, ◌+◌, ◌-◌, ◌/◌, min, Bool, false, ◌&&◌, ◌||◌, cond, List, [], ◌∷◌, ◌++◌, length, get_or, take, drop, leb, ltb, eqb}
use Rattle.rules.specs.Answers.{Answer, answer, Done, BadRun}
use Rattle.rules.specs.Spans.{Span, span, bad-range}
use Rattle.rules.specs.Depth.{visible-runs, write-runs, written, write_answer}

-- what a place past the row's last bucket counts as
abbrev pub past-end : ℕ
past-end = 4294967295

-- the buckets of a group: 2 ^ k
unfoldable pub size : ℕ → ℕ
size zero = 1
size (suc k) = size k + size k

-- a group's own minimum: its first word
abbrev pub top : List ℕ → ℕ
top ws = get_or ws 0 past-end

-- a group's words, made afresh of its buckets
unfoldable pub minima : ℕ → List ℕ → List ℕ
minima zero bs = top bs ∷ []
minima (suc k) bs =
    let l = minima k (take (size k) bs) in
    let r = minima k (drop (size k) bs) in
    min (top l) (top r) ∷ l ++ r

-- how often a row of n buckets is halved: the smallest k, from j on and in at most m steps, whose groups have room for n
abbrev pub halvings-from : ℕ → ℕ → ℕ → ℕ
halvings-from zero j n = j
halvings-from (suc m) j n = cond (leb n (size j)) j (halvings-from m (suc j) n)

unfoldable pub halvings : ℕ → ℕ
halvings n = halvings-from n 0 n

-- a row's summary, made afresh; a row without buckets has none
unfoldable pub summary : List ℕ → List ℕ
summary [] = []
summary (b ∷ bs) = minima (halvings (suc (length bs))) (b ∷ bs)

-- how many words a group of 2 ^ k buckets has: half of those below the top of the next larger group
unfoldable pub half : ℕ → ℕ
half k = size (suc k) - 1

-- how many words the summary of a row of so many buckets has
unfoldable pub minima-room : ℕ → ℕ
minima-room zero = 0
minima-room (suc n) = half (halvings (suc n))

-- the words of the halves of a group of 2 ^ (k + 1) buckets
abbrev pub left-half : ℕ → List ℕ → List ℕ
left-half k ws = take (half k) (drop 1 ws)

abbrev pub right-half : ℕ → List ℕ → List ℕ
right-half k ws = drop (half k) (drop 1 ws)

-- Is every bucket of a group from place a up to place b hidden from the id? Of no bucket yes; in a group whose minimum is greater yes; if the range has the whole
-- group, and its minimum is not greater, no; else both halves are asked.
unfoldable pub hidden-in : ℕ → List ℕ → ℕ → ℕ → ℕ → Bool
hidden-in zero ws a b id = leb b a || ltb id (top ws)
hidden-in (suc k) ws a b id =
    leb b a
    || ltb id (top ws)
    || (ltb 0 a || ltb b (size (suc k)))
    && hidden-in k (left-half k ws) a (min b (size k)) id
    && hidden-in k (right-half k ws) (a - size k) (b - size k) id

-- A group's words after a write from place a up to place b, bs being its buckets as they are now: only the groups that have one of these buckets are worked out
-- again.
unfoldable pub mended : ℕ → List ℕ → List ℕ → ℕ → ℕ → List ℕ
mended zero ws bs a b = cond (leb b a) ws (top bs ∷ [])
mended (suc k) ws bs a b =
    let l = mended k (left-half k ws) (take (size k) bs) a (min b (size k)) in
    let r = mended k (right-half k ws) (drop (size k) bs) (a - size k) (b - size k) in
    cond (leb b a) ws (min (top l) (top r) ∷ l ++ r)

-- .. after a write of several runs of buckets
unfoldable pub mended-runs : ℕ → List ℕ → List ℕ → List Span → List ℕ
mended-runs k ws bs [] = ws
mended-runs k ws bs (r ∷ rs) = mended-runs k (mended k ws bs r.first r.end) bs rs

-- a row's minima after the writing form, ws and bs being its minima and its buckets before it
unfoldable pub minima-after : List ℕ → List ℕ → ℕ → Span → ℕ → List ℕ
minima-after ws bs id r n =
    cond (eqb (write_answer bs id r n).number Done)
    (mended-runs (halvings (length bs)) ws (written bs id r) (write-runs bs r))
    ws

-- the question about a row of n buckets, by its minima: 12 for a range that starts after its end or passes the buckets
unfoldable pub hidden_answer : List ℕ → ℕ → Span → ℕ → Answer Bool
hidden_answer ws n r id =
    cond (bad-range n r) (answer BadRun false) (answer Done (hidden-in (halvings n) ws r.first r.end id))

-- the buckets of a row of n that a span of tiles meets, at w tiles a bucket
abbrev pub met-in-row : ℕ → ℕ → Span → Span
met-in-row w n s = span (s.first / w) (min ((s.end + (w - 1)) / w) n)

-- the visible runs of a span of tiles, where the summary is asked first
unfoldable pub asked-runs : ℕ → List ℕ → List ℕ → ℕ → Span → List Span
asked-runs w ws bs id s =
    let m = met-in-row w (length bs) s in
    cond (hidden-in (halvings (length bs)) ws m.first m.end id) [] (visible-runs w bs id s)
