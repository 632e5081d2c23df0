-- Painting, the runs, what is hidden, `can_skip` and the split on a host's words. Results go into lent words of a fixed length; another length is refused,
-- and a refusal leaves them as they were.
use Rattle.std.specs.Prelude.{ℕ, true, cond, List, length, eqb}
use Rattle.std.specs.Prelude.{Result, Ok, Err}
use Rattle.sizes.specs.declared.answers.Refusal.{Refusal}
use Rattle.sizes.specs.Refusals.{number_of}
use Rattle.sizes.specs.declared.width.Width.{Width}
use Rattle.sizes.specs.Widths.{bucket-tiles, width_of}
use Rattle.rules.specs.Answers.{Answer, answer, BadRecord}
use Rattle.rules.specs.Spans.{Span}
use Rattle.rules.specs.Split.{split_answer}
use Rattle.depth.specs.Listing.{RunsOut}
use Rattle.paint.specs.Painting as paint
use Rattle.paint.specs.Beginning.{Canvas, canvas, beginning}
use Rattle.paint.specs.Stepping.{Attributes, stepped}
use Rattle.screen.specs.Depths.{Depths}
use Rattle.paint.specs.DirectRuns.{Wrote, unset-of, visible-of, write-of, hidden-of-row, skip-of-row}
use Rattle.paint.specs.Running.{row-painted}
use Rattle.paint.specs.OwnRow.{own-row-painted}
use Rattle.host.specs.State.{screen-words, on}
use Rattle.host.specs.Results.{step-result, count_left, skip-left, split-left}

-- the split has no screen: n result words ws, or 4 where another number of them is lent
abbrev pub with-room : {T : Type 0} → ℕ → List ℕ → T → Answer T → Answer T
with-room n ws t a = cond (eqb (length ws) n) a (answer BadRecord t)

-- the depth words with their minima, and the painting table
abbrev pub begin-left : Answer Canvas → Answer (List ℕ × Depths × List ℕ)
begin-left a = answer a.number (screen-words a.value.screen, a.value.depth, a.value.painting)

unfoldable pub begin_call : List ℕ → Depths → List ℕ → Answer (List ℕ × Depths × List ℕ)
begin_call st d p = on true st (st, d, p) (λ s. begin-left (beginning (canvas s d p)))

-- a step's result, with the depth words and their minima, the painting table and the list
abbrev pub step_left : List ℕ → paint.StepOut → Answer (Depths × List ℕ × List ℕ × List ℕ)
step_left res o = answer o.answer.number (o.depth, o.painting, o.list, (step-result res o.answer).value)

unfoldable pub step_call : ℕ → Attributes → List ℕ → paint.RowLent → List ℕ → Answer (Depths × List ℕ × List ℕ × List ℕ)
step_call r a st l res =
    on (eqb (length res) 2) st (l.depth, l.painting, l.list, res)
    (λ s. step_left res (stepped s r a l))

-- a row's next steps in one call
unfoldable pub row_call : ℕ → Attributes → List ℕ → paint.RowLent → List ℕ → Answer (Depths × List ℕ × List ℕ × List ℕ)
row_call r a st l res =
    on (eqb (length res) 2) st (l.depth, l.painting, l.list, res)
    (λ s. step_left res (row-painted s r a l))

-- .. of a row whose own words are all that is lent
unfoldable pub own_row_call : Attributes → List ℕ → paint.RowLent → List ℕ → Answer (Depths × List ℕ × List ℕ × List ℕ)
own_row_call a st l res =
    on (eqb (length res) 2) st (l.depth, l.painting, l.list, res)
    (λ s. step_left res (own-row-painted s a l))

-- how many runs are listed, and the list
abbrev pub runs-left : List ℕ → RunsOut → Answer (List ℕ × List ℕ)
runs-left n o = answer o.number (o.list, (count_left n o).value)

unfoldable pub unset_call : ℕ → Span → List ℕ → List ℕ → List ℕ → List ℕ → Answer (List ℕ × List ℕ)
unset_call r t st d l n = on (eqb (length n) 1) st (l, n) (λ s. runs-left n (unset-of s r d t l))

unfoldable pub visible_call : ℕ → Span → ℕ → List ℕ → List ℕ → List ℕ → List ℕ → Answer (List ℕ × List ℕ)
visible_call r t id st d l n = on (eqb (length n) 1) st (l, n) (λ s. runs-left n (visible-of s r d t id l))

-- .. and the depth words with their minima
abbrev pub write-left : List ℕ → Wrote → Answer (List ℕ × Depths × List ℕ × List ℕ)
write-left n o =
    answer o.listed.number
    (screen-words o.screen, o.depth, o.listed.list, (count_left n o.listed).value)

unfoldable pub write_call : ℕ → Span → ℕ → List ℕ → Depths → List ℕ → List ℕ → Answer (List ℕ × Depths × List ℕ × List ℕ)
write_call r t id st d l n =
    on (eqb (length n) 1) st (st, d, l, n) (λ s. write-left n (write-of s r d id t l))

unfoldable pub hidden_call : ℕ → Span → ℕ → List ℕ → List ℕ → List ℕ → Answer (List ℕ)
hidden_call r t id st ms old = on (eqb (length old) 1) st old (λ s. skip-left old (hidden-of-row s r ms t id))

unfoldable pub skip_call : ℕ → Span → ℕ → List ℕ → List ℕ → List ℕ → Answer (List ℕ)
skip_call r t id st rows old = on (eqb (length old) 1) st old (λ s. skip-left old (skip-of-row s r rows t id))

-- at a width; 2 where that is none
abbrev pub split_at : Result Width Refusal → Span → List ℕ → Answer (List ℕ)
split_at (Err r) s parts = answer (number_of r) parts
split_at (Ok w) s parts = with-room 9 parts parts (split-left parts (split_answer (bucket-tiles w) s))

-- at so many pixels a bucket
unfoldable pub split_call : ℕ → Span → List ℕ → Answer (List ℕ)
split_call pixels = split_at (width_of pixels)
