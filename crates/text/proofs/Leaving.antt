-- What the calls leave. Assumes nothing.
use Rattle.std.proofs.Common.{◌≡◌, ap, ◌∙◌, List, [], ◌++◌, ℕ, ◌^◌, ◌≤◌, ◌<◌, length, drop, lt-ltb, le-ltb, eq-eqb, ne_eqb}
use Rattle.row.specs.Words.{Words}
use Rattle.screen.specs.declared.Screen.{Screen}
use Rattle.text.specs.declared.Out.{Out}
use Rattle.text.specs.Texts.{Text, text, shown, Writes}
use Rattle.text.proofs.Laws.{first_filled, first_measured}
use Rattle.text.specs.Listed.{text-out, listing, begun-with, screen-lines, text_of, list-number, written, listed}

-- an item on no bytes, and at the start of bytes
module _ (ws : List ℕ) {a b : Out} (w : Writes ws a b) (h : length ws < 2 ^ 64) where
  pub length-measured : shown a ≡ text [] 0 → b.at ≡ length ws
  length-measured e = let f : shown b ≡ text [] (length ws) = w.text ∙ rw e (first_measured ws h) in ap (λ (t : Text). t.at) f

  pub written-first : (bs : List ℕ) → shown a ≡ text bs 0 → length ws ≤ length bs → shown b ≡ text (ws ++ drop (length ws) bs) (length ws)
  written-first bs e l = w.text ∙ rw e (first_filled ws bs l h)

pub written-done : (ws bs : List ℕ) → length ws ≤ length bs → begun-with ws bs ≡ written ws bs
unfolding written
written-done ws bs l = rw (le-ltb (length bs) (length ws) l)

pub written-full : (ws bs : List ℕ) → length bs < length ws → text-out (listing 14 0) bs ≡ written ws bs
unfolding written
written-full ws bs h = rw (lt-ltb (length bs) (length ws) h)

-- a screen that is listed, and one that is refused
module _ (s : Screen) (w : Words) (bs : List ℕ) where
  pub listed-done : list-number s w ≡ 0 → written (text_of (screen-lines s w)) bs ≡ listed s w bs
  unfolding listed
  listed-done e = rw (eq-eqb (list-number s w) 0 e)

  pub listed-refused : (n : ℕ) → n ≡ list-number s w → (n ≡ 0 → ⊥) → text-out (listing n 0) bs ≡ listed s w bs
  unfolding listed
  listed-refused n e h = rw (← e, ne_eqb n 0 h)
