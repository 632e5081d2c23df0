-- What snapping makes of a box (`specs/Snapping`). Assumes nothing.
use Rattle.std.proofs.Common.{◌≡◌, refl, Bool, true, false, ℕ, ◌%◌, ◌≤◌, arith}
use Rattle.rules.specs.Setups.{lowered, raised, snapped}
use Rattle.rules.specs.Snapping.{SnappedSmallest, ModesSame, ExactSnapped, FarRefused}
use Rattle.rules.proofs.laws.Viewports.{view}

lowered-tiled : (n : ℕ) → lowered n % 4 ≡ 0
lowered-tiled n = omega arith

raised-tiled : (n : ℕ) → raised n % 4 ≡ 0
raised-tiled n = omega arith

lowered-below : (n : ℕ) → lowered n ≤ n
lowered-below n = omega arith

raised-above : (n : ℕ) → n ≤ raised n
raised-above n = omega arith

below-lowered : (t n : ℕ) → t % 4 ≡ 0 → t ≤ n → t ≤ lowered n
below-lowered t n e h = omega (arith, e, h)

above-raised : (t n : ℕ) → t % 4 ≡ 0 → n ≤ t → raised n ≤ t
above-raised t n e h = omega (arith, e, h)

ordered-sides : (a b : ℕ) → a ≤ b → lowered a ≤ raised b
ordered-sides a b h = omega (arith, h)

pub snapped-smallest : SnappedSmallest
snapped-smallest b o =
    record {
      ordered = record { across = ordered-sides b.x0 b.x1 o.across; down = ordered-sides b.y0 b.y1 o.down };
      tiled =
          record {
            left = lowered-tiled b.x0;
            top = lowered-tiled b.y0;
            right = raised-tiled b.x1;
            bottom = raised-tiled b.y1;
          };
      contains =
          record {
            left = lowered-below b.x0;
            top = lowered-below b.y0;
            right = raised-above b.x1;
            bottom = raised-above b.y1;
          };
      least = λ t e h.
          record {
            left = below-lowered t.x0 b.x0 e.left h.left;
            top = below-lowered t.y0 b.y0 e.top h.top;
            right = above-raised t.x1 b.x1 e.right h.right;
            bottom = above-raised t.y1 b.y1 e.bottom h.bottom;
          };
    }

lowered-same : (n : ℕ) → n % 4 ≡ 0 → lowered n ≡ n
lowered-same n e = omega (arith, e)

raised-same : (n : ℕ) → n % 4 ≡ 0 → raised n ≡ n
raised-same n e = omega (arith, e)

pub modes-same : ModesSame
modes-same b e = rw (lowered-same b.x0 e.left, lowered-same b.y0 e.top, raised-same b.x1 e.right, raised-same b.y1 e.bottom)

pub exact-snapped : ExactSnapped
exact-snapped b g = let v = view b g in modes-same b (record { left = v.x0-by-4; top = v.y0-by-4; right = v.x1-by-4; bottom = v.y1-by-4 })

is_false : (t : Bool) → (t ≡ true → ⊥) → t ≡ false
is_false true h = absurd (h refl)
is_false false h = refl

pub far-refused : FarRefused
far-refused b =
    record {
      right = λ h. is_false _ (λ g. omega (arith, (view (snapped b) g).right, h));
      down = λ h. is_false _ (λ g. omega (arith, (view (snapped b) g).bottom, h));
    }
