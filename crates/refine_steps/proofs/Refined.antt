-- The refinement: a done reset leaves the words of the rules' screen, and each step there has the rules' answer and leaves the words of theirs. Assumes
-- nothing.
use Rattle.std.proofs.Common.{◌≡◌, ap, ◌∙◌, Bool, false, cond, List, ℕ, eqb}
use Rattle.rules.specs.Answers.{Answer, answer, Done}
use Rattle.rules.specs.Rows.{Row, fresh-row, row-ops}
use Rattle.rules.specs.Plans.{Frame, buckets-across, Step, a-fill, a-push, a-pop, a-filter}
use Rattle.rules.specs.Steps as rule
use Rattle.rules.specs.Steps.{reset, call}
use Rattle.rules.specs.Boxes.{rows_of}
use Rattle.screen.specs.Depths.{Depths, blank}
use Rattle.screen.specs.Judging.{judged_reset}
use Rattle.screen.specs.Tables.{zeros, lengths, ScreenLent, reset_to}
use Rattle.walk.specs.Steps.{call_at}
use Rattle.refine_steps.specs.Sound.{Sound}
use Rattle.refine_steps.specs.Lent.{lent_of, answer-of, Holds}
use Rattle.refine_steps.proofs.Kept.{call-sound}
use Rattle.refine_steps.proofs.Steps.{fill-stepped, filter-stepped, push-stepped}
use Rattle.refine_steps.proofs.Pop.{pop-stepped}
use Rattle.refine_steps.proofs.Reset.{fresh-sound, fresh-words}

-- Every step, refused or done: at the words of a sound screen it has the rules' number, and leaves the words of the rules' screen.
pub stepped : (x : Step) (s : rule.Screen Row) → Sound s → (b : Bool) (de : Depths) (pa : List ℕ) → call_at x (lent_of s b de pa) ≡ answer-of (call Row row-ops x s) b de pa
stepped (a-fill ps ss d) s h b de pa = fill-stepped s h b de pa ps ss d
stepped (a-push p) s h b de pa = push-stepped s h b de pa p
stepped (a-pop ss) s h b de pa = pop-stepped s h b de pa ss
stepped (a-filter count f q) s h b de pa = filter-stepped s h b de pa count f q

-- a sound screen, and words that hold it
pub record Refines (s : rule.Screen Row) (l : ScreenLent) : Type 0 where
  pub sound : Sound s
  pub holds : Holds s l

-- what a call on words does, beside the rules' answer
pub record Agrees (a : Answer (rule.Screen Row)) (w : Answer ScreenLent) : Type 0 where
  pub number : w.number ≡ a.number
  pub value : Refines a.value w.value

-- a done reset
pub reset-refines : (f : Frame) (l : ScreenLent) → judged_reset f (lengths l.tables) ≡ 0 → Agrees (answer 0 (reset fresh-row f)) (reset_to f l)
reset-refines f l z =
    let e = fresh-words f l z in
    record {
      number = ap (λ (w : Answer ScreenLent). w.number) e;
      value = record {
        sound = fresh-sound f l z;
        holds = record { begun = false; depth = blank (rows_of f.viewport) (buckets-across f) l.tables.depth; painting = zeros 0 l.tables.painting; same = ap (λ (w : Answer ScreenLent). w.value) e };
      };
    }

-- every step, refused or done
pub step-refines : (x : Step) (s : rule.Screen Row) (l : ScreenLent) → Refines s l → Agrees (call Row row-ops x s) (call_at x l)
step-refines x s l r =
    let h = r.holds in
    let e : call_at x l ≡ answer-of (call Row row-ops x s) h.begun h.depth h.painting = ap (call_at x) h.same ∙ stepped x s r.sound h.begun h.depth h.painting in
    record {
      number = ap (λ (w : Answer ScreenLent). w.number) e;
      value = record {
        sound = call-sound x s r.sound;
        holds = record { begun = cond (eqb (call Row row-ops x s).number Done) false h.begun; depth = h.depth; painting = h.painting; same = ap (λ (w : Answer ScreenLent). w.value) e };
      };
    }
