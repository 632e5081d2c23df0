-- Tables of the lengths that `coarse_sizes` gives are those that a reset asks for.
use Rattle.std.proofs.Common.{◌≡◌, refl, ap, Bool, true, false, ◌&&◌, not, List, [], ◌∷◌, ℕ, ◌*◌, ◌≤◌, length, get_or, arith, eqb, eq-eqb}
use Rattle.sizes.specs.declared.answers.Refusal.{Refusal}
use Rattle.sizes.specs.declared.answers.Refusal.TheVariants.{BadViewport}
use Rattle.sizes.specs.Refusals.{number_of}
use Rattle.rules.specs.Answers as rule
use Rattle.rules.specs.Answers.{answer, first_of, BadArena}
use Rattle.rules.specs.Boxes.{good_viewport}
use Rattle.rules.specs.Minima.{minima-room}
use Rattle.rules.specs.Plans.{Frame}
use Rattle.rules.specs.Setups.{Setup, frame}
use Rattle.rules.specs.Walk.{good-room}
use Rattle.rect.specs.declared.Rect.{Rect}
use Rattle.rect.specs.Rects.{box_of}
use Rattle.screen.specs.declared.lent.Lengths.{Lengths}
use Rattle.screen.specs.declared.Screen.{Screen}
use Rattle.screen.specs.Judging.{judged_reset}
use Rattle.screen.proofs.ScreenLaws.{few_rows, few-buckets}
use Rattle.screen.proofs.Blanks.{few-all}
use Rattle.host.specs.declared.state.SetupWords.{SetupWords}
use Rattle.host.specs.Asked.{asked_setup}
use Rattle.host.specs.Sizes.{length-words, size-words, size_number, sizes-of, size_call}
use Rattle.paint.specs.Judging.{count, wide}
use Rattle.paint.proofs.Kept.{Refused, unsettled}
use Rattle.host.proofs.Refused.{asked-kept}

-- a screen whose viewport is good has few minima
pub few-minima-of : (s : Screen) → good_viewport (box_of s.viewport) ≡ true → count s * minima-room (wide s) ≤ 131072
few-minima-of s h = few-all (count s) (wide s) (few_rows (box_of s.viewport) h) (few-buckets (box_of s.viewport) h s.width)

pub sized : (f : Frame) (l : Lengths) → size_number f 11 ≡ 0 → length-words l ≡ size-words f → judged_reset f l ≡ 0
unfolding judged_reset
sized k l q e = by (good_viewport k.viewport) (good-room k.c) (good-room k.d) refl refl refl q
  where
    field : (i : ℕ) → get_or (length-words l) i 0 ≡ get_or (size-words k) i 0
    field i = ap (λ (ws : List ℕ). get_or ws i 0) e

    same : (i : ℕ) → eqb (get_or (length-words l) i 0) (get_or (size-words k) i 0) ≡ true
    same i = eq-eqb _ _ (field i)

    by : (x y z : Bool) → good_viewport k.viewport ≡ x → good-room k.c ≡ y → good-room k.d ≡ z
        → first_of ((not x, rule.BadViewport) ∷ (not (y && z), BadArena) ∷ []) ≡ 0 → judged_reset k l ≡ 0
    by true true true f g h q =
        rw (f, g, h, same 0, same 1, same 2, same 3, same 4, same 5, same 6, same 7, same 8, same 9, same 10)
    by true true false f g h q = absurd (omega arith)
    by true false z f g h q = absurd (omega arith)
    by false y z f g h q = absurd (omega arith)

-- refused, the result words are as they were
pub size-refused : (v : Rect) (w : SetupWords) (old : List ℕ) → Refused (size_call v w old) → (size_call v w old).value ≡ old
unfolding size_call
size-refused v w old =
    asked-kept (asked_setup w) _ old (λ (q : Setup). sizes-of (frame q (box_of v)) old)
    (λ q. let f = frame q (box_of v) in unsettled (size_number f (length old)) old (size-words f))

-- a frame whose viewport is not good
pub no-view : (f : Frame) (ss : List ℕ) (r : Refusal) → (good_viewport f.viewport ≡ false) × (r ≡ BadViewport) → answer (number_of r) ss ≡ sizes-of f ss
no-view f ss r h = rw (h.1, h.0)
