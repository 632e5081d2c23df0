-- The code's depth fills and their words as the rules'.
use Rattle.std.specs.Prelude.{List, [], ◌∷◌, get_or, ℕ, ◌+◌, ◌*◌}
use Rattle.std.specs.Prelude.{Option}
use Rattle.rules.specs.Commands as rule
use Rattle.cmd.specs.Reading.{depth_fill_of}
use Rattle.span.specs.Spans.{buckets}
use Rattle.cmd.specs.declared.depth_fill.DepthFill.{DepthFill}
use Rattle.cmd.specs.declared.depth_fill.DepthWords.{DepthWords}

abbrev pub depth-fill : DepthFill → rule.DepthFill
depth-fill f = record { buckets = buckets f.buckets; attribute = f.attrs_idx }

abbrev pub depth-words-of : DepthWords → List ℕ
depth-words-of w = w.span.0 ∷ w.attrs_idx ∷ []

-- the words at place k of a row's depth fills
abbrev pub depth_words_at : List ℕ → ℕ → DepthWords
depth_words_at ws k = record { span = record { 0 = get_or ws (2 * k) 0 }; attrs_idx = get_or ws (2 * k + 1) 0 }

-- what two words stand for, in a row of n buckets
abbrev pub read-depth-words : ℕ → DepthWords → Option rule.DepthFill
read-depth-words n w = depth_fill_of n w.span.0 w.attrs_idx
