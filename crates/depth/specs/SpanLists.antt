-- What a call over runs gives where the list is one of spans.
use Rattle.std.specs.Prelude.{Result, Ok, Err, ℕ, List, ◌++◌, map, length, drop, replicate}
use Rattle.sizes.specs.Sizes.{bucket-end, most-runs}
use Rattle.sizes.specs.declared.answers.Refusal.{Refusal}
use Rattle.sizes.specs.Refusals.{number_of}
use Rattle.rules.specs.Answers.{Answer, Done}
use Rattle.rules.specs.Spans.{Span}
use Rattle.span.specs.declared.TileSpan.{TileSpan}
use Rattle.depth.specs.Listing as words
use Rattle.depth.specs.declared.forms.listed.Found.{Found}
use Rattle.depth.specs.declared.forms.spans.Visible.{Visible}
use Rattle.depth.specs.Spans.{no_span, as-span}

-- an answer, how many runs are listed, and the list of spans
pub record SpansOut : Type 0 where
  pub number : ℕ
  pub count : ℕ
  pub spans : List TileSpan

-- what a call gives: as over tile numbers, with spans for the list
abbrev pub out : Result ℕ Refusal → List TileSpan → SpansOut
out (Ok n) l = record { number = Done; count = n; spans = l }
out (Err r) l = record { number = number_of r; count = 0; spans = l }

-- by value: a refusal gives no spans
abbrev pub no_spans : List TileSpan
no_spans = replicate most-runs no_span

abbrev pub visible_out : Result Visible Refusal → SpansOut
visible_out (Ok v) = out (Ok v.count) v.spans
visible_out (Err r) = out (Err r) no_spans

-- the words that a call has of its own, and what it finds in them
abbrev pub own_words : List ℕ
own_words = replicate bucket-end 0

abbrev pub found_out : Result Found Refusal → words.RunsOut
found_out (Ok f) = words.out (Ok f.count) f.words
found_out (Err r) = words.out (Err r) own_words

-- what an answer leaves: its runs at the list's start; what stands after them stays
unfoldable pub listing : Answer (List Span) → List TileSpan → SpansOut
listing a l = record { number = a.number; count = length a.value; spans = map as-span a.value ++ drop (length a.value) l }
