-- The summary above a row's depth words tells the truth: what it says where it agrees with them, and that a write keeps it so.
use Rattle.std.specs.Prelude.{ℕ, ◌≤◌, ◌≡◌, List, length, ltb}
use Rattle.rules.specs.Lists.{every, slice}
use Rattle.rules.specs.Spans.{Span}
use Rattle.rules.specs.Depth.{visible-runs, write-after}
use Rattle.rules.specs.Minima.{summary, minima-room, halvings, hidden-in, minima-after, asked-runs}

-- P being the smallest power of two that is at least the row's buckets, a summary has 2 P - 1 words, and none for a row without buckets.
abbrev pub Summary-long : Type 0
Summary-long = (bs : List ℕ) → length (summary bs) ≡ minima-room (length bs)

-- From a summary that agrees with its row the question says yes exactly if every bucket of the range holds a greater id.
abbrev pub Hidden-exact : Type 0
Hidden-exact =
    (bs : List ℕ) (a b id : ℕ) → b ≤ length bs
    → hidden-in (halvings (length bs)) (summary bs) a b id ≡ every (λ (w : ℕ). ltb id w) (slice a b bs)

-- From one that agreed before, what a write leaves is the summary made afresh of the words after it.
abbrev pub Mended-afresh : Type 0
Mended-afresh =
    (bs : List ℕ) (id : ℕ) (r : Span) (n : ℕ)
    → minima-after (summary bs) bs id r n ≡ summary (write-after bs id r n)

-- From one that agrees, painting that asks first gives the runs that it gives without asking, at w tiles a bucket.
abbrev pub Pieces-same : Type 0
Pieces-same =
    (w : ℕ) (bs : List ℕ) (id : ℕ) (s : Span)
    → asked-runs w (summary bs) bs id s ≡ visible-runs w bs id s
