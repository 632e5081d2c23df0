-- The ways through the judges at the border.
use Rattle.std.proofs.Common.{◌≡◌, refl, sym, ap, ◌∙◌, arith, false, List, Option, None, Some, ℕ}
use Rattle.sizes.specs.declared.answers.Refusal.{Refusal}
use Rattle.sizes.specs.declared.answers.Refusal.TheVariants.{BadViewport}
use Rattle.sizes.specs.Refusals.{number_of}
use Rattle.rules.specs.Answers.{BadForm}
use Rattle.rules.specs.Boxes.{Box, good_viewport}
use Rattle.rules.specs.Plans.{Frame}
use Rattle.rules.specs.Setups.{Setup, frame}
use Rattle.rules.specs.Recording.{Recording, recording, File, parsed}
use Rattle.rules.specs.Walk.{Arenas}
use Rattle.rect.specs.declared.Rect.{Rect}
use Rattle.rect.specs.Rects.{box_of}
use Rattle.file.specs.Held.{recording_of}
use Rattle.host.specs.Border.{arenas_number, in-sections, file_number, unasked, unasked_number}

pub bad-view : (f : Frame) (a : Arenas) (r : Refusal) → (good_viewport f.viewport ≡ false) × (r ≡ BadViewport) → number_of r ≡ arenas_number f a
unfolding arenas_number
bad-view f a r h = rw (h.1, h.0)

-- a file
pub no-file : (ws : File) (q : Setup) (a : Arenas) → parsed ws ≡ None → BadForm ≡ file_number ws q a
unfolding file_number
no-file ws q a e = rw e

by-sections : (o : Option (List (List (List ℕ)))) (r : Recording) → recording_of o ≡ Some r → (q : Setup) (a : Arenas) → in-sections o q a ≡ arenas_number (frame q r.viewport) a
by-sections (Some ss) r g q a =
    let h : recording ss ≡ r = cc in
    rw h
by-sections None r g q a = let z : ◌≡◌ {A = ℕ} 0 1 = cc in absurd (omega arith)

pub a-file : (ws : File) (r : Recording) → recording_of (parsed ws) ≡ Some r → (v : Rect) → box_of v ≡ r.viewport → (q : Setup) (a : Arenas) (n : ℕ)
    → n ≡ arenas_number (frame q (box_of v)) a → n ≡ file_number ws q a
unfolding file_number
a-file ws r g v b q a n e = e ∙ ap (λ (x : Box). arenas_number (frame q x) a) b ∙ sym (by-sections (parsed ws) r g q a)

-- .. whose words' setup is refused
pub unasked-form : (r : Refusal) (ws : File) → parsed ws ≡ None → BadForm ≡ unasked_number ws r
unfolding unasked_number
unasked-form r ws e = rw e

by-form : (o : Option (List (List (List ℕ)))) (s : Recording) → recording_of o ≡ Some s → (r : Refusal) → number_of r ≡ unasked o r
by-form (Some ss) s g r = refl
by-form None s g r = let z : ◌≡◌ {A = ℕ} 0 1 = cc in absurd (omega arith)

pub unasked-file : (r : Refusal) (ws : File) (s : Recording) → recording_of (parsed ws) ≡ Some s → number_of r ≡ unasked_number ws r
unfolding unasked_number
unasked-file r ws s g = by-form (parsed ws) s g r
