-- What a call over runs leaves in the words that are lent to it.
use Rattle.std.specs.Prelude.{Result, Ok, Err, ℕ, ◌+◌, ◌-◌, ◌/◌, min, cond, List, [], ◌∷◌, ◌++◌, map, length, drop, ltb, eqb}
use Rattle.sizes.specs.declared.answers.Refusal.{Refusal}
use Rattle.sizes.specs.Refusals.{number_of}
use Rattle.rules.specs.Answers.{Answer, answer, Done, BadArena}
use Rattle.rules.specs.Spans.{Span, span, common}
use Rattle.rules.specs.Depth.{is-visible, runs-in, tiles-of, write_answer, write-after}
use Rattle.rules.specs.Minima.{minima-room, minima-after}

-- an answer, how many runs are listed, and the list's words
pub record RunsOut : Type 0 where
  pub number : ℕ
  pub count : ℕ
  pub list : List ℕ

abbrev pub out : Result ℕ Refusal → List ℕ → RunsOut
out (Ok n) l = record { number = Done; count = n; list = l }
out (Err r) l = record { number = number_of r; count = 0; list = l }

abbrev pub done : ℕ → List ℕ → RunsOut
done n l = record { number = Done; count = n; list = l }

-- two numbers a run
unfoldable pub numbers : List Span → List ℕ
numbers [] = []
numbers (r ∷ rs) = r.first ∷ r.end ∷ numbers rs

-- the numbers at the list's start; what stands after them stays
abbrev pub over : List ℕ → List ℕ → List ℕ
over ns l = ns ++ drop (length ns) l

-- what an answer leaves; a refusal's value is no run, so that it leaves the list
unfoldable pub listing : Answer (List Span) → List ℕ → RunsOut
listing a l = record { number = a.number; count = length a.value; list = over (numbers a.value) l }

-- the runs of the buckets from lo to hi, w tiles a bucket, cut to a span
abbrev pub cut-runs : Span → ℕ → ℕ → List ℕ → ℕ → ℕ → Answer (List Span)
cut-runs s w id bs lo hi = answer Done (map (λ (r : Span). common s (tiles-of w r)) (runs-in (is-visible id) bs (span lo hi)))

-- the unset runs of the buckets from lo to hi, as buckets
abbrev pub open-runs : List ℕ → ℕ → ℕ → Answer (List Span)
open-runs bs lo hi = answer Done (runs-in (is-visible 0) bs (span lo hi))

-- where the search over a span's buckets ends, n buckets being there; at 0, so that it finds none, if the span is empty
abbrev pub met-end : ℕ → Span → ℕ → ℕ
met-end w s n = cond (ltb s.first s.end) (min ((s.end + (w - 1)) / w) n) 0

-- .. and a row's depth words and minima
pub record OutWrite : Type 0 where
  pub listed : RunsOut
  pub depth : List ℕ
  pub minima : List ℕ

abbrev pub out-write : Result ℕ Refusal → List ℕ → List ℕ → List ℕ → OutWrite
out-write r l bs ws = record { listed = out r l; depth = bs; minima = ws }

-- what the writing form leaves: 1 for minima of another length
abbrev pub writing : List ℕ → List ℕ → ℕ → Span → List ℕ → OutWrite
writing bs ws id r l =
    cond (eqb (length ws) (minima-room (length bs)))
    (record { listed = listing (write_answer bs id r (length l / 2)) l; depth = write-after bs id r (length l / 2); minima = minima-after ws bs id r (length l / 2) })
    (record { listed = listing (answer BadArena []) l; depth = bs; minima = ws })
