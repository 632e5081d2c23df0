-- Every call at the words of a whole canvas is the rules' call; building calls are steps, and what is refused alters no word. Assumes nothing.
use Rattle.std.proofs.Common.{◌≡◌, sym, ap, ◌∙◌, subst, ne_eqb}
use Rattle.rules.specs.Answers.{Answer, Done}
use Rattle.rules.specs.Plans.{Step, a-push}
use Rattle.rules.specs.Rows.{Row, row-ops}
use Rattle.rules.specs.Steps.{call}
use Rattle.rules.specs.Calls.{Canvas, step_call}
use Rattle.rules.proofs.laws.Answers.{settle-kept}
use Rattle.screen.specs.Tables.{ScreenLent}
use Rattle.walk.specs.Steps.{call_at}
use Rattle.refine_steps.specs.Lent.{lent_of}
use Rattle.refine_paint.specs.Canvases.{WholeCanvas}
use Rattle.refine_paint.proofs.Runs.{unset-by, visible-by, hidden-by, skip_by}
use Rattle.refine_compact.proofs.Lent.{compact-lent}
use Rattle.theorem_picture.specs.Calls.{fill-said, pop-said, filter-said}
use Rattle.theorem_picture.specs.Standing.{canvas-words}
use Rattle.theorem_picture.specs.Answered.{Answers, CanvasAnswered, StandsAnswered}
use Rattle.theorem_picture.specs.Said.{CallsSaid, RefusedKept}
use Rattle.theorem_picture.proofs.Calls.{fill-whole, fill-steps, push-steps, pop-whole, pop-steps, filter_steps, fill-kept, push_kept, pop_kept, filter-kept}
use Rattle.theorem_picture.proofs.Props.{push-says}
use Rattle.theorem_picture.proofs.Words.{step_words, begin-words, paint-gives, write-gives}

module _ (k : Canvas) (w : WholeCanvas k) where
  refused_step : (x : Step) → ((call_at x (canvas-words k)).number ≡ Done → ⊥) → (call_at x (canvas-words k)).value ≡ canvas-words k
  unfolding step_call
  refused_step x n =
      let a = step_words k w x in
      let d : ((step_call x k).number ≡ Done → ⊥) = λ e. n (ap (λ (b : Answer ScreenLent). b.number) a ∙ e) in
      ap (λ (b : Answer ScreenLent). b.value) a ∙ ap canvas-words (settle-kept (call Row row-ops x k.screen).number k _ (ne_eqb _ Done d))

  canvas-answers : Answers k (canvas-words k)
  unfolding lent_of
  canvas-answers =
      record {
        steps = step_words k w;
        kept = refused_step;
        fills = λ ps ss d p s. fill-whole ps ss d (canvas-words k) p s ∙ step_words k w (fill-said ps ss d);
        pushes = λ p q e. push-steps p q e (canvas-words k) ∙ step_words k w (a-push q);
        pops = λ ss s. pop-whole ss (canvas-words k) s ∙ step_words k w (pop-said ss);
        filters = λ g. filter_steps g (canvas-words k) ∙ step_words k w (filter-said g);
        begins = begin-words k w;
        paints = λ i list. paint-gives k w i list;
        unset = λ i t list. unset-by k w i t list;
        visible = λ i id t list. visible-by k w i id t list;
        writes = λ i id t list. write-gives k w i id t list;
        compacts = λ i. compact-lent k w i;
        hides = λ i t id. hidden-by k w i t id;
        skips = λ i t id. skip_by k w i t id;
      }

pub canvas-answered : CanvasAnswered
canvas-answered k w = canvas-answers k w

pub stands-answered : StandsAnswered
stands-answered f xs l s = subst (λ (m : ScreenLent). Answers s.canvas m) (sym s.same) (canvas-answers s.canvas s.whole)

pub calls-said : CallsSaid
calls-said l =
    record {
      fills = λ ps ss d e. fill-steps ps ss d l e;
      fills-whole = λ ps ss d p s. fill-whole ps ss d l p s;
      pushes = λ p q e. push-steps p q e l;
      properties = λ p f e. push-says p l e f;
      pops = λ ss e. pop-steps ss l e;
      pops-whole = λ ss s. pop-whole ss l s;
      filters = λ g. filter_steps g l;
    }

pub refused-kept : RefusedKept
refused-kept l =
    record {
      fills = λ ps ss d n. fill-kept l ps ss d (ne_eqb _ Done n);
      pushes = λ p n. push_kept l p (ne_eqb _ Done n);
      pops = λ ss n. pop_kept l ss (ne_eqb _ Done n);
      filters = λ g n. filter-kept l g (ne_eqb _ Done n);
    }
