-- A filter layer's steps, one after the other.
use Rattle.std.proofs.Common.{ℕ, ◌≡◌, sym, ◌∙◌, true, false, length}
use Rattle.rules.specs.Answers.{Answer, answer}
use Rattle.rules.specs.Inputs.{needs-buffer}
use Rattle.rules.specs.Recording.{Recording, LayerRec}
use Rattle.rules.specs.Plans.{a-push, a-pop, a-filter}
use Rattle.rules.specs.Walk.{◌then◌, when, props-of, walk-filter}
use Rattle.screen.specs.Tables.{ScreenLent}
use Rattle.walk.specs.Steps.{call_at}
use Rattle.walk.proofs.Runs.{stopped, onward, then-none, none_then}

module _ (r : Recording) (y : LayerRec) where
  abbrev pushing : ScreenLent → Answer ScreenLent
  pushing = call_at (a-push (props-of y))

  abbrev drawing : ScreenLent → Answer ScreenLent
  drawing = call_at (a-filter (length r.paints) y.filter y.panel)

  abbrev popping : ScreenLent → Answer ScreenLent
  popping = call_at (a-pop r.segments)

  pub plain : needs-buffer (props-of y) ≡ false → (s : ScreenLent) (a : Answer ScreenLent) → a ≡ drawing s → a ≡ walk-filter ScreenLent call_at r y s
  unfolding walk-filter
  plain q s a e = rw q (e ∙ sym (then-none (when false pushing then drawing) popping s ∙ none_then pushing drawing s))

  module _ (q : needs-buffer (props-of y) ≡ true) (s : ScreenLent) (n : ℕ) (v : ScreenLent) (e : answer n v ≡ pushing s) where
    pushed : answer n v ≡ when true pushing s
    unfolding when
    pushed = e

    pub not-pushed : (n ≡ 0 → ⊥) → answer n v ≡ walk-filter ScreenLent call_at r y s
    unfolding walk-filter
    not-pushed z =
        rw q (stopped (when true pushing then drawing) (when true popping) s n v (stopped (when true pushing) drawing s n v pushed z) z)

    module _ (d : n ≡ 0) (m : ℕ) (u : ScreenLent) (f : answer m u ≡ drawing v) where
      drawn : answer m u ≡ (when true pushing then drawing) s
      drawn = f ∙ sym (onward (when true pushing) drawing s n v pushed d)

      pub not-drawn : (m ≡ 0 → ⊥) → answer m u ≡ walk-filter ScreenLent call_at r y s
      unfolding walk-filter
      not-drawn z = rw q (stopped (when true pushing then drawing) (when true popping) s m u drawn z)

      pub closed : m ≡ 0 → (a : Answer ScreenLent) → a ≡ popping u → a ≡ walk-filter ScreenLent call_at r y s
      unfolding walk-filter when
      closed z a g = rw q (g ∙ sym (onward (when true pushing then drawing) (when true popping) s m u drawn z))
