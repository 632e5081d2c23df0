-- The minima above the depth words, and what `coarse_is_hidden` tells of them, by the words that a host lends.
use Rattle.std.specs.Prelude.{ℕ, ◌<◌, ◌≡◌, List, [], ◌∷◌, ltb}
use Rattle.rules.specs.Lists.{every, slice}
use Rattle.rules.specs.Answers.{answer, Done}
use Rattle.rules.specs.Spans.{Span}
use Rattle.rules.specs.Minima.{minima-room, summary}
use Rattle.rules.specs.Plans.{Frame, Step}
use Rattle.paint.specs.Judging.{count, wide}
use Rattle.paint.specs.Stepping.{part}
use Rattle.host.specs.State.{bit, screen-at}
use Rattle.host.specs.Painting.{hidden_call}
use Rattle.theorem_border.specs.Hosted.{Host, Hosted}

-- row r's depth words
abbrev pub words-of-row : ℕ → Host → List ℕ
words-of-row r h = part (wide (screen-at h.state)) r h.tables.depth.words

-- each row's minima are the summary of its depth words
abbrev pub Summed : Host → Type 0
Summed h =
    (r : ℕ) → r < count (screen-at h.state)
    → part (minima-room (wide (screen-at h.state))) r h.tables.depth.minima ≡ summary (words-of-row r h)

-- Whatever calls a host has made, the minima are that.
abbrev pub HostedSummed : Type 0
HostedSummed = (f : Frame) (xs : List Step) (h : Host) → Hosted f xs h → Summed h

-- So `coarse_is_hidden` of a range t of row r's buckets and an id, where it answers 0, gives the word 1 exactly if every bucket of the range holds an id greater
-- than that one, and else 0.
abbrev pub HiddenExact : Host → Type 0
HiddenExact h =
    (r : ℕ) (t : Span) (id : ℕ) (old : List ℕ)
    → (hidden_call r t id h.state h.tables.depth.minima old).number ≡ Done
    → hidden_call r t id h.state h.tables.depth.minima old
    ≡ answer Done (bit (every (λ (w : ℕ). ltb id w) (slice t.first t.end (words-of-row r h))) ∷ [])

abbrev pub HostedHidden : Type 0
HostedHidden = (f : Frame) (xs : List Step) (h : Host) → Hosted f xs h → HiddenExact h
