-- A list with no room is refused exactly where there is a run to be listed.
use Rattle.std.proofs.Common.{◌≡◌, refl, ◌∙◌, ap, Bool, true, false, ◌&&◌, not, cond, ℕ, ◌≤◌, List, [], ◌∷◌, length, leb, ltb, le-leb, lt-ltb, arith, Ok, Err}
use Rattle.std.specs.Prelude.{Result, is_ok}
use Rattle.sizes.specs.Sizes.{tile-end}
use Rattle.sizes.specs.declared.answers.Refusal.{Refusal}
use Rattle.sizes.proofs.Refusals.{not_done}
use Rattle.rules.specs.Lists.{is-empty}
use Rattle.rules.specs.Answers.{first_of, Done, BadRun, NoRoom}
use Rattle.rules.specs.Spans.{Span}
use Rattle.rules.specs.Depth.{visible-runs, visible_answer}
use Rattle.rules.proofs.laws.Answers.{settle-number}
use Rattle.depth.specs.Listing.{RunsOut, out, listing}

-- the number of a call whose list has no room
no-room : (w : ℕ) (bs : List ℕ) (id : ℕ) (s : Span) → s.first ≤ s.end → s.end ≤ tile-end
    → (visible_answer w bs id s 0).number ≡ cond (is-empty (visible-runs w bs id s)) Done NoRoom
unfolding visible_answer
no-room w bs id s h k =
    let n : first_of ((not (leb s.first s.end && leb s.end tile-end), BadRun) ∷ (ltb 0 (length (visible-runs w bs id s)), NoRoom) ∷ [])
    ≡ cond (is-empty (visible-runs w bs id s)) Done NoRoom =
    rw (le-leb s.first s.end h, le-leb s.end tile-end k) (count (visible-runs w bs id s)) in
    settle-number _ [] (visible-runs w bs id s) ∙ n
  where
    count : (rs : List Span) → cond (ltb 0 (length rs)) NoRoom Done ≡ cond (is-empty rs) Done NoRoom
    count [] = refl
    count (r ∷ rs) = rw (lt-ltb 0 (length (r ∷ rs)) (omega arith))

pub ok-hidden : (r : Result ℕ Refusal) (l : List ℕ) (w : ℕ) (bs : List ℕ) (id : ℕ) (s : Span) → s.first ≤ s.end → s.end ≤ tile-end
    → out r l ≡ listing (visible_answer w bs id s 0) [] → is_ok r ≡ is-empty (visible-runs w bs id s)
unfolding listing
ok-hidden r l w bs id s h k e = go r (is-empty (visible-runs w bs id s)) (ap (λ (o : RunsOut). o.number) e ∙ no-room w bs id s h k)
  where
    go : (x : Result ℕ Refusal) (b : Bool) → (out x l).number ≡ cond b Done NoRoom → is_ok x ≡ b
    go (Ok n) true q = refl
    go (Ok n) false q = let z : ◌≡◌ {A = ℕ} 0 14 = q in absurd (omega arith)
    go (Err x) true q = absurd (not_done x q)
    go (Err x) false q = refl
