-- A pop's screen and tables afterwards, and its refusal. Assumes nothing.
use Rattle.std.proofs.Common.{◌≡◌, refl, ap, Bool, true, false, cond, List, None, Some, ℕ, ◌-◌, get_or, length-append, drop_at, ne_eqb}
use lib.Ieee.{Float, nan}
use Rattle.rules.specs.Inputs.{Clip}
use Rattle.rules.specs.Plans.{clip-box, clip-thread}
use Rattle.row.specs.Words.{Words}
use Rattle.row.specs.Arena.{nowhere}
use Rattle.rect.specs.declared.Rect.{Rect}
use Rattle.rect.specs.Rects.{box_of}
use Rattle.cmd.specs.Attrs.{layer-words}
use Rattle.screen.specs.declared.Screen as code
use Rattle.screen.specs.Screens.{state-of, closed, screen-after}
use Rattle.screen.proofs.ScreenLaws.{paint-count, layer-attr-count, filter-count}
use Rattle.pop.specs.Pop.{PopLent, PopOut, pop_lent, out, after, layers-in, number, pop-plan, new-words, popped, Judged, words-after, attr-of, tables_after}
use Rattle.layers.proofs.Passing.{PassedOn}
use Rattle.pop.proofs.Numbers.{plan-is, layers-length}
use Rattle.pop.proofs.Doing.{seen}

thread-is : (b : Bool) (c : Clip) → clip-thread (cond b None (Some c)) ≡ cond b 0 c.thread
thread-is true c = refl
thread-is false c = refl

module _ (s : code.Screen) (l : PopLent) (ws : List ℕ) (j : Judged s l.layers ws l.words) where
  o : PassedOn s l.words
  o = seen j

  next-is : (state-of s).next ≡ s.next_draw_id
  unfolding state-of
  next-is = refl

  -- the new attribute's words
  pub new_is : (x : Float) → new-words s l ws ≡ layer-words (attr-of s l.layers x)
  new_is x =
      rw (plan-is s l ws j.some o, drop_at (state-of s).attrs.layers _ s.layer_attrs (layer-attr-count s), thread-is, next-is)

  -- the screen
  pub screen-is : (q : Rect) → box_of q ≡ clip-box (box_of s.viewport) (layers-in l.layers (s.layers - 1))
      → closed s q ≡ screen-after s (pop-plan s l ws)
  unfolding screen-after
  screen-is q p =
      rw (plan-is s l ws j.some o, ← p, next-is, paint-count s, filter-count s, length-append, layer-attr-count s, layers-length l.layers (s.layers - 1))

  pub pop-out : {r : code.Screen} {w : Words} {t : List ℕ} {x : List Float} {a : List ℕ} → r ≡ screen-after s (pop-plan s l ws) → w ≡ words-after s l.layers ws l.words
      → pop_lent nowhere t x a ≡ tables_after s (pop_lent nowhere l.layers l.opacities l.attrs) → out 0 r (pop_lent w t x a) ≡ after s l ws
  pop-out {r} {w} {t} {x} {a} h i k =
      let y = tables_after s (pop_lent nowhere l.layers l.opacities l.attrs) in
      let p : t ≡ y.layers = ap (λ (z : PopLent). z.layers) k in
      let q : x ≡ y.opacities = ap (λ (z : PopLent). z.opacities) k in
      let u : a ≡ y.attrs = ap (λ (z : PopLent). z.attrs) k in
      rw (new_is (get_or l.opacities (s.layers - 1) nan), h, i, p, q, u)

pub refused-out : (s : code.Screen) (l : PopLent) (ws : List ℕ) {k : ℕ} → k ≡ number s l ws → (k ≡ 0 → ⊥) → out k s l ≡ popped s l ws
unfolding popped
refused-out s l ws {k} e h = rw (← e, ne_eqb k 0 h)

pub done-out : (s : code.Screen) (l : PopLent) (ws : List ℕ) → number s l ws ≡ 0 → {o : PopOut} → o ≡ after s l ws → o ≡ popped s l ws
unfolding popped
done-out s l ws e h = rw (e, h)
