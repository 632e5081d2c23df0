-- The summary above the depth words at known points: rows of 0, 1, 2, 3, 5, 63 and 64 buckets, every range of a row, ids at both ends, and forged words.
use Rattle.std.specs.Prelude.{ℕ, suc, ◌-◌, ◌≡◌, Bool, true, false, ◌&&◌, not, cond, List, [], ◌∷◌, ◌++◌, map, length, replicate, ltb, eqb}
use Rattle.rules.specs.Lists.{every, slice, count-from}
use Rattle.rules.specs.Answers.{Answer, Done, BadRun}
use Rattle.rules.specs.Spans.{span}
use Rattle.rules.specs.Depth.{visible-runs, write-after}
use Rattle.rules.specs.Minima.{summary, minima-room, mended, minima-after, hidden_answer, asked-runs}
use Rattle.rules.specs.Calls.{hidden-call}
use Rattle.rules.specs.cases.Refusals.{nine}

-- a question, and what it has to answer
pub record Asked : Type 0 where
  pub got : Answer Bool
  pub number : ℕ
  pub hidden : Bool

abbrev pub answered : Asked → Bool
answered a = eqb a.got.number a.number && cond a.hidden a.got.value (not a.got.value)

-- of a row with these minima and so many buckets, from place a to place b, for an id: yes, no, or 12
abbrev pub yes : List ℕ → ℕ → ℕ → ℕ → ℕ → Asked
yes ws n a b id = record { got = hidden_answer ws n (span a b) id; number = Done; hidden = true }

abbrev pub no : List ℕ → ℕ → ℕ → ℕ → ℕ → Asked
no ws n a b id = record { got = hidden_answer ws n (span a b) id; number = Done; hidden = false }

abbrev pub neither : List ℕ → ℕ → ℕ → ℕ → ℕ → Asked
neither ws n a b id = record { got = hidden_answer ws n (span a b) id; number = BadRun; hidden = false }

-- five buckets, of which the third is unset
abbrev pub five : List ℕ
five = 7 ∷ 9 ∷ 0 ∷ 8 ∷ 6 ∷ []

-- 63 and 64 buckets, of which the last holds 3
abbrev pub up-to-63 : List ℕ
up-to-63 = replicate 62 5 ++ 3 ∷ []

abbrev pub up-to-64 : List ℕ
up-to-64 = 5 ∷ up-to-63

-- seven words that are no summary of four buckets, in which a write finds one unset bucket or two
abbrev pub forged : List ℕ
forged = 1 ∷ 2 ∷ 3 ∷ 4 ∷ 5 ∷ 6 ∷ 7 ∷ []

abbrev pub four : List ℕ
four = 5 ∷ 0 ∷ 8 ∷ 0 ∷ []

abbrev pub asked : List Asked
asked =
    -- an empty range is hidden wherever it stands, from every id
    no (summary five) 5 2 3 0
    ∷ yes (summary five) 5 0 0 4294967295
    ∷ yes (summary five) 5 1 1 4294967295
    ∷ yes (summary five) 5 2 2 4294967295
    ∷ yes (summary five) 5 3 3 4294967295
    ∷ yes (summary five) 5 4 4 4294967295
    ∷ yes (summary five) 5 5 5 4294967295
    ∷ yes [] 0 0 0 4294967295
    -- 12 for a range that starts after its end or passes the buckets
    ∷ neither (summary five) 5 3 2 0
    ∷ neither (summary five) 5 6 6 0
    ∷ neither (summary five) 5 4 6 0
    ∷ neither (summary five) 5 6 5 0
    ∷ neither [] 0 0 1 0
    ∷ neither [] 0 1 0 0
    -- an id is hidden by a greater one, not by itself
    ∷ yes (summary five) 5 0 2 6
    ∷ no (summary five) 5 0 2 7
    ∷ yes (summary five) 5 1 2 8
    ∷ no (summary five) 5 1 2 9
    ∷ yes (summary five) 5 3 5 5
    ∷ no (summary five) 5 3 5 6
    ∷ no (summary five) 5 0 5 0
    ∷ no (summary five) 5 0 5 4294967295
    ∷ yes (summary (1 ∷ [])) 1 0 1 0
    ∷ no (summary (1 ∷ [])) 1 0 1 1
    ∷ yes (summary (4294967295 ∷ [])) 1 0 1 4294967294
    ∷ no (summary (4294967295 ∷ [])) 1 0 1 4294967295
    ∷ yes (summary (2 ∷ 3 ∷ [])) 2 0 2 1
    ∷ no (summary (2 ∷ 3 ∷ [])) 2 0 2 2
    ∷ yes (summary (2 ∷ 3 ∷ [])) 2 1 2 2
    -- what stands past the row's end hides nothing and shows nothing
    ∷ yes (summary (4 ∷ 4 ∷ 9 ∷ [])) 3 2 3 8
    ∷ no (summary (4 ∷ 4 ∷ 9 ∷ [])) 3 2 3 9
    ∷ yes (summary (4 ∷ 4 ∷ 9 ∷ [])) 3 0 3 3
    ∷ yes (summary up-to-63) 63 0 62 4
    ∷ no (summary up-to-63) 63 0 63 3
    ∷ yes (summary up-to-63) 63 0 63 2
    ∷ yes (summary up-to-64) 64 0 63 4
    ∷ no (summary up-to-64) 64 31 64 4
    ∷ no (summary up-to-64) 64 63 64 3
    ∷ neither (summary up-to-64) 64 63 65 3
    -- words that are no summary are read as they stand: a group's minimum alone, or those of the groups in it
    ∷ yes forged 4 0 4 0
    ∷ no forged 4 0 4 1
    ∷ yes forged 4 1 2 3
    ∷ no forged 4 0 2 2
    ∷ yes forged 4 2 4 4
    ∷ []

-- every range of a row, from an id: as bucket by bucket
abbrev pub each-range : List ℕ → ℕ → Bool
each-range bs id =
    every (λ (a : ℕ).
    every (λ (b : ℕ).
    let h = (hidden_answer (summary bs) (length bs) (span a b) id).value in
    cond (every (λ (w : ℕ). ltb id w) (slice a b bs)) h (not h))
    (count-from a (suc (length bs) - a)))
    (count-from 0 (suc (length bs)))

-- by the ids about which the row's words differ
abbrev pub each-question : List ℕ → Bool
each-question bs = every (each-range bs) (0 ∷ 5 ∷ 6 ∷ 7 ∷ 8 ∷ 9 ∷ 4294967294 ∷ 4294967295 ∷ [])

pub record SummariesHold : Type 0 where
  pub rooms : map minima-room (0 ∷ 1 ∷ 2 ∷ 3 ∷ 4 ∷ 5 ∷ 8 ∷ 9 ∷ 63 ∷ 64 ∷ []) ≡ 0 ∷ 1 ∷ 3 ∷ 7 ∷ 7 ∷ 15 ∷ 15 ∷ 31 ∷ 127 ∷ 127 ∷ []
  pub lengths : map (λ (bs : List ℕ). length (summary bs)) ([] ∷ (7 ∷ []) ∷ five ∷ up-to-63 ∷ up-to-64 ∷ []) ≡ 0 ∷ 1 ∷ 15 ∷ 127 ∷ 127 ∷ []
  pub none : summary [] ≡ []
  pub one : summary (7 ∷ []) ≡ 7 ∷ []
  pub two : summary (7 ∷ 4 ∷ []) ≡ 4 ∷ 7 ∷ 4 ∷ []
  pub three : summary (4 ∷ 9 ∷ 6 ∷ []) ≡ 4 ∷ 4 ∷ 4 ∷ 9 ∷ 6 ∷ 6 ∷ 4294967295 ∷ []
  pub five-made : summary five ≡ 0 ∷ 0 ∷ 7 ∷ 7 ∷ 9 ∷ 0 ∷ 0 ∷ 8 ∷ 6 ∷ 6 ∷ 6 ∷ 4294967295 ∷ 4294967295 ∷ 4294967295 ∷ 4294967295 ∷ []
  pub questions : every answered asked ≡ true
  pub ranges : every each-question ([] ∷ (7 ∷ []) ∷ (7 ∷ 9 ∷ []) ∷ (9 ∷ 0 ∷ 8 ∷ []) ∷ five ∷ []) ≡ true
  -- a write of the bucket 1 makes afresh the three groups that have it, each from its halves as they stand; a write of two runs those of both
  pub bucket : mended 2 forged (5 ∷ 9 ∷ 8 ∷ 0 ∷ []) 1 2 ≡ 3 ∷ 3 ∷ 3 ∷ 9 ∷ 5 ∷ 6 ∷ 7 ∷ []
  pub once : minima-after forged four 9 (span 0 3) 1 ≡ 3 ∷ 3 ∷ 3 ∷ 9 ∷ 5 ∷ 6 ∷ 7 ∷ []
  pub both : minima-after forged four 9 (span 0 4) 2 ≡ 3 ∷ 3 ∷ 3 ∷ 9 ∷ 6 ∷ 6 ∷ 9 ∷ []
  -- a write that is refused, or finds no unset bucket, changes none; nor does one of an empty range
  pub short : minima-after forged four 9 (span 0 4) 1 ≡ forged
  pub no-id : minima-after forged four 0 (span 0 4) 2 ≡ forged
  pub past : minima-after forged four 9 (span 0 5) 2 ≡ forged
  pub found-none : minima-after forged four 9 (span 2 3) 2 ≡ forged
  pub of-none : minima-after forged four 9 (span 1 1) 2 ≡ forged
  -- from a summary, the summary of the words afterwards
  pub afresh : minima-after (summary five) five 4294967295 (span 0 5) 1 ≡ summary (write-after five 4294967295 (span 0 5) 1)
  pub largest : minima-after (summary (0 ∷ [])) (0 ∷ []) 4294967295 (span 0 1) 1 ≡ 4294967295 ∷ []
  -- painting that asks first: the bucket 2 of 32 tiles alone shows the id 6, and no tile past the row's end is asked about
  pub shown : asked-runs 32 (summary five) five 5 (span 0 8192) ≡ visible-runs 32 five 5 (span 0 8192)
  pub hidden : asked-runs 32 (summary five) five 5 (span 96 8192) ≡ []
  -- rows of a screen of one row and two buckets: 12 for another row
  pub rows : map (λ (i : ℕ). (hidden-call i (span 0 1) 8 nine).number) (0 ∷ 1 ∷ []) ≡ Done ∷ BadRun ∷ []
  pub row : hidden-call 0 (span 0 1) 8 nine ≡ record { number = Done; value = true }
  pub next : hidden-call 0 (span 0 2) 8 nine ≡ record { number = Done; value = false }
  pub past-row : (hidden-call 0 (span 0 3) 8 nine).number ≡ BadRun
