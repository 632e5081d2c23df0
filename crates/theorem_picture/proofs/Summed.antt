-- At all reached words each row's minima are the summary of its depth words, so that `is_hidden` tells of the words. Assumes nothing.
use Rattle.std.proofs.Common.{ℕ, ◌<◌, ◌≤◌, ◌≡◌, ◌∙◌, refl, sym, ap, subst, Bool, true, false, cond, List, length, arith, leb, ltb, leb-true, leb-false}
use borrow.Author.Tests.{not-false}
use Rattle.rules.specs.Lists.{every, slice}
use Rattle.rules.specs.Answers.{Answer, answer, Done, BadRun}
use Rattle.rules.specs.Spans.{Span, good-range, bad-range}
use Rattle.rules.specs.Minima.{minima-room, summary, halvings, hidden-in, hidden_answer}
use Rattle.rules.specs.Plans.{buckets-across}
use Rattle.rules.specs.Painting.{begin}
use Rattle.rules.specs.Calls.{Canvas, of_row, painter-of, hidden-call}
use Rattle.rules.proofs.All.{and_right}
use Rattle.refine_steps.specs.Lent.{lent_of}
use Rattle.paint.specs.Judging.{wide}
use Rattle.paint.specs.Stepping.{part}
use Rattle.rules_picture.proofs.Minima.{hidden-exact}
use Rattle.refine_paint.specs.Canvases.{buckets-in, minima-in, WholeCanvas}
use Rattle.refine_paint.proofs.Begin.{all-summaries}
use Rattle.refine_paint.proofs.Step.{part_join}
use Rattle.refine_paint.proofs.Runs.{hidden-by}
use Rattle.theorem_picture.specs.Standing.{canvas-words}
use Rattle.theorem_picture.specs.Summed.{Summed, ReachedSummed, HiddenExact, ReachedHidden}
use Rattle.theorem_picture.proofs.Reached.{reached}

module _ (k : Canvas) (w : WholeCanvas k) where
  abbrev n : ℕ
  n = buckets-across k.screen.state.frame

  canvas-summed : Summed (canvas-words k)
  unfolding lent_of
  canvas-summed r h =
      let there : r < length k.painters = rw (w.count, w.sound.count) h in
      part_join minima-in (minima-room n) (all-summaries k w) r (begin 0) there
      ∙ ap summary (sym (part_join buckets-in n w.wide r (begin 0) there))

  module _ (r id : ℕ) (t : Span) where
    abbrev bs : List ℕ
    bs = (painter-of k r).buckets

    abbrev words : List ℕ
    words = part (wide (canvas-words k).screen) r (canvas-words k).tables.depth.words

    own-words : leb (length k.screen.rows) r ≡ false → words ≡ bs
    unfolding lent_of
    own-words e = part_join buckets-in n w.wide r (begin 0) (rw w.count (leb-false _ _ e))

    abbrev says : List ℕ → Bool
    says ws = every (λ (x : ℕ). ltb id x) (slice t.first t.end ws)

    abbrev told : Bool → Bool → Answer Bool
    told missing bad =
        of_row missing false (cond bad (answer BadRun false) (answer Done (hidden-in (halvings (length bs)) (summary bs) t.first t.end id)))

    exact : (m b : Bool) → leb (length k.screen.rows) r ≡ m → bad-range (length bs) t ≡ b → (told m b).number ≡ Done → (told m b).value ≡ says words
    exact true b e f d = absurd (omega arith)
    exact false true e f d = absurd (omega arith)
    exact false false e f d =
        let g = not-false (good-range t.first t.end (length bs)) f in
        let l : t.end ≤ length bs = leb-true t.end (length bs) (and_right (leb t.first t.end) (leb t.end (length bs)) g) in
        hidden-exact bs t.first t.end id l ∙ ap says (sym (own-words e))

    told-exact : (hidden-call r t id k).number ≡ Done → (hidden-call r t id k).value ≡ says words
    unfolding hidden-call hidden_answer
    told-exact = exact (leb (length k.screen.rows) r) (bad-range (length bs) t) refl refl

  canvas-hidden : HiddenExact (canvas-words k)
  unfolding lent_of
  canvas-hidden r id t = rw (hidden-by k w r t id) (told-exact r id t)

pub reached-summed : ReachedSummed
reached-summed f xs l h = let s = reached h in subst Summed (sym s.same) (canvas-summed s.canvas s.whole)

pub reached-hidden : ReachedHidden
reached-hidden f xs l h = let s = reached h in subst HiddenExact (sym s.same) (canvas-hidden s.canvas s.whole)
