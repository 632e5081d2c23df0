-- The runs of a fill by the row's summary, way by way. Assumes nothing.
use Rattle.std.proofs.Common.{◌≡◌, ap, ◌∙◌, Bool, true, false, List, [], ◌∷◌, ℕ, ◌≤◌, ◌<◌, ◌/◌, arith, length, set, le-leb, le-ltb, lt-ltb, Result, Ok, Err}
use Rattle.rules.specs.Spans.{Span}
use Rattle.rules.specs.Depth.{Summary, can_skip, can_skip_answer, listed, visible_answer}
use Rattle.sizes.specs.declared.answers.Refusal.{Refusal}
use Rattle.sizes.specs.declared.answers.Refusal.TheVariants.{NoRoom}
use Rattle.std.specs.Result.{result_unwrap_or}
use Rattle.depth.proofs.Once.{skip-once}
use Rattle.depth.specs.Answers.{skip_of}
use Rattle.depth.specs.Listing.{RunsOut, out, done, numbers, listing}
use Rattle.paint.specs.Summaries.{whole_run, is_clear, shown_runs}

-- what the call says, it says of the definition
pub skip_said : (u : Summary) (s : Span) (id : ℕ) (x : Result Bool Refusal) → s.first ≤ s.end → s.end ≤ 8192 → skip_of x ≡ can_skip_answer u s id
    → result_unwrap_or x false ≡ can_skip u s id
unfolding can_skip_answer
skip_said u s id x h g e =
    ap (λ (r : Result Bool Refusal). result_unwrap_or r false) (skip-once x (Ok (can_skip u s id)) (e ∙ rw (le-leb _ _ h, le-leb _ _ g)))

module _ (s : Span) where
  pub whole_none : (l : List ℕ) → s.end ≤ s.first → done 0 l ≡ listing (listed false (length l / 2) (whole_run s)) l
  unfolding listing numbers
  whole_none l h = rw (le-ltb _ _ h, le-ltb (length l / 2) 0 (omega arith))

  module _ (h : s.first < s.end) where
    pub whole_short : (l : List ℕ) → length l < 2 → out (Err NoRoom) l ≡ listing (listed false (length l / 2) (whole_run s)) l
    unfolding listing numbers
    whole_short l g = rw (lt-ltb _ _ h, lt-ltb (length l / 2) 1 (omega arith))

    pub whole_one : (l : List ℕ) → 2 ≤ length l → done 1 (set (set l 0 s.first) 1 s.end) ≡ listing (listed false (length l / 2) (whole_run s)) l
    unfolding listing numbers
    whole_one [] g = absurd (omega arith)
    whole_one (a ∷ []) g = absurd (omega arith)
    whole_one (a ∷ b ∷ l) g = rw (lt-ltb _ _ h, le-ltb (length (a ∷ b ∷ l) / 2) 1 (omega arith))

module _ (v : ℕ) (u : Summary) (bs : List ℕ) (id : ℕ) (s : Span) (l : List ℕ) (x : RunsOut) where
  pub shown_whole : is_clear v u (length bs) id s ≡ true → x ≡ listing (listed false (length l / 2) (whole_run s)) l
      → x ≡ listing (listed false (length l / 2) (shown_runs v u bs id s)) l
  unfolding shown_runs
  shown_whole h e = rw h e

  pub shown_searched : s.first ≤ s.end → s.end ≤ 8192 → is_clear v u (length bs) id s ≡ false
      → x ≡ listing (visible_answer v bs id s (length l / 2)) l
      → x ≡ listing (listed false (length l / 2) (shown_runs v u bs id s)) l
  unfolding shown_runs visible_answer
  shown_searched h g c e = rw c (e ∙ rw (le-leb _ _ h, le-leb _ _ g))
