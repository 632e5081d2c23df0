-- The visible runs of a row on a host's words, in a list of spans.
use Rattle.std.specs.Prelude.{ℕ, List, [], ◌∷◌, length, eqb}
use Rattle.sizes.specs.Widths.{bucket-tiles}
use Rattle.rules.specs.Answers.{Answer, answer}
use Rattle.rules.specs.Spans.{Span}
use Rattle.rules.specs.Depth.{visible_answer}
use Rattle.span.specs.declared.TileSpan.{TileSpan}
use Rattle.depth.specs.Listing as words
use Rattle.depth.specs.SpanLists as spans
use Rattle.depth.specs.SpanLists.{own_words}
use Rattle.screen.specs.declared.Screen.{Screen}
use Rattle.paint.specs.Judging.{wide, runs_number}
use Rattle.paint.specs.Stepping.{part}
use Rattle.paint.specs.DirectRuns.{or-runs}
use Rattle.host.specs.State.{on}
use Rattle.host.specs.Results.{result, count_left}

-- the row's runs that n runs' room lists, or the number of the refusal: `visible-of` lists these in words
abbrev pub runs_of : Screen → ℕ → List ℕ → Span → ℕ → ℕ → Answer (List Span)
runs_of s r d t id n = or-runs (runs_number s r (length d)) (visible_answer (bucket-tiles s.width) (part (wide s) r d) id t n)

-- the list of spans, and how many of them are runs
abbrev pub spans-left : List ℕ → spans.SpansOut → Answer (List TileSpan × List ℕ)
spans-left n o = answer o.number (o.spans, result o.number (o.count ∷ []) n)

unfoldable pub spans_call : ℕ → Span → ℕ → List ℕ → List ℕ → List TileSpan → List ℕ → Answer (List TileSpan × List ℕ)
spans_call r t id st d l n =
    on (eqb (length n) 1) st (l, n) (λ s. spans-left n (spans.listing (runs_of s r d t id (length l)) l))

-- how many there are, and their tile numbers
abbrev pub found_left : List ℕ → words.RunsOut → Answer (ℕ × List ℕ × List ℕ)
found_left n o = answer o.number (o.count, o.list, (count_left n o).value)

unfoldable pub found_call : ℕ → Span → ℕ → List ℕ → List ℕ → ℕ → List ℕ → Answer (ℕ × List ℕ × List ℕ)
found_call r t id st d room n =
    on (eqb (length n) 1) st (0, own_words, n) (λ s. found_left n (words.listing (runs_of s r d t id room) own_words))
