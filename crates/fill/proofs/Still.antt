-- After a done fill the screen and the lengths pass again.
use Rattle.std.proofs.Common.{◌≡◌, refl, sym, ap, ◌∙◌, Bool, true, false, cond, List, ℕ, ◌≤◌, arith, eqb, length, eq-eqb, ne_eqb, eqb-true, le-leb}
use Rattle.std.proofs.lemmas.Bool.Decides.{nat_tests}
use Rattle.rules.specs.Attributes.{Attrs, attrs-full}
use Rattle.rules.specs.Answers.{Answer, answer, settle}
use Rattle.screen.specs.declared.Screen.{Screen}
use Rattle.screen.specs.Screens.{screen-after, good_screen, counted}
use Rattle.screen.specs.Judging.{judged}
use Rattle.screen.proofs.ScreenLaws.{bounds, good-clip-of, same-layers}
use Rattle.inputs.specs.declared.Draw.{Draw}
use Rattle.fill.specs.Fills.{FillLent, fill-plan, first_number, first-of-lent, fill_number, fill_done, filled}
use Rattle.fill.proofs.Planned.{plan-layers, plan-next}
use Rattle.fill.proofs.Numbers.{passing}
use Rattle.fill.proofs.Done.{Zero, zero-says}

-- what a done fill gives
module _ (n : ℕ) (l m : FillLent) where
  done-is : (v : FillLent) → answer 0 v ≡ settle n l m → (n ≡ 0) × (v ≡ m)
  done-is v e = go (eqb n 0) refl e
    where
      go : (t : Bool) → eqb n 0 ≡ t → answer 0 v ≡ cond t (answer 0 m) (answer n l) → (n ≡ 0) × (v ≡ m)
      go true h k = (eqb-true n 0 h, ap (λ (a : Answer FillLent). a.value) k)
      go false h k =
          let z : ◌≡◌ {A = ℕ} 0 n = ap (λ (a : Answer FillLent). a.number) k in
          let q : ◌≡◌ {A = Bool} true false = sym (eq-eqb n 0 (sym z)) ∙ h in
          let y : ◌≡◌ {A = ℕ} 0 1 = ap (λ (b : Bool). cond b 0 1) q in
          absurd (omega arith)

-- tables that are not too full
few-attrs : (a : Attrs) → attrs-full a ≡ false → (length a.paints ≤ 1024) × (length a.layers ≤ 1024) × (length a.filters ≤ 256)
few-attrs a h = (grind (arith, nat_tests), grind (arith, nat_tests), grind (arith, nat_tests))

-- a good screen with other counts in their bounds
good-counted : (s : Screen) → good_screen s ≡ true → (n a b c : ℕ) → 1 ≤ n → n ≤ 1048577 → a ≤ 1024 → b ≤ 1024 → c ≤ 256 → good_screen (counted s n a b c) ≡ true
unfolding good_screen
good-counted s g n a b c h1 h2 h3 h4 h5 =
    let k = bounds s g in
    rw (le-leb 1 n h1, le-leb n 1048577 h2, le-leb a 1024 h3, le-leb b 1024 h4, le-leb c 256 h5, le-leb s.layers 16 k.deep) (good-clip-of s g)

module _ (l : FillLent) (ps ss : List ℕ) (d : Draw) where
  -- what a refused fill gives
  pub refused-is : {n : ℕ} → n ≡ fill_number l ps ss d → (n ≡ 0 → ⊥) → answer n l ≡ filled l ps ss d
  refused-is {n} e k = rw (← e, ne_eqb n 0 k) refl

  good-still : Zero l ps ss d → good_screen (screen-after l.screen (fill-plan l.screen ps ss d)) ≡ true
  good-still z =
      let f = (passing l ps ss d z.first).screen in
      let b = bounds l.screen f in
      let p = fill-plan l.screen ps ss d in
      let k = few-attrs p.attrs z.attrs in
      rw (same-layers l.screen f p (plan-layers l.screen ps ss d))
      (good-counted l.screen f p.next (length p.attrs.paints) (length p.attrs.layers) (length p.attrs.filters)
      (omega (arith, plan-next l.screen ps ss d, b.some_id)) (omega (arith, plan-next l.screen ps ss d, z.ids)) k.0 k.1 k.2)

  same_judged : (t : Screen) (a b c : ℕ) → t.viewport ≡ l.screen.viewport → t.c ≡ l.screen.c → t.d ≡ l.screen.d → good_screen t ≡ good_screen l.screen
      → judged t a b c ≡ judged l.screen a b c
  unfolding judged
  same_judged t a b c v x y g = rw (g, v, x, y) refl

  pub still : (v : FillLent) → first-of-lent l ps ss ≡ 0 → answer 0 v ≡ filled l ps ss d
      → length v.words.state ≡ length l.words.state → length v.words.render ≡ length l.words.render → length v.words.fills ≡ length l.words.fills
      → length v.paint-attrs ≡ length l.paint-attrs → first-of-lent v ps ss ≡ 0
  unfolding first_number fill_done screen-after
  still v f e a b c t =
      let q = done-is (fill_number l ps ss d) l (fill_done l ps ss d) v e in
      let z = zero-says l ps ss d q.0 in
      let s : v.screen ≡ screen-after l.screen (fill-plan l.screen ps ss d) = ap (λ (w : FillLent). w.screen) q.1 in
      let g : good_screen v.screen ≡ good_screen l.screen = rw s (good-still z) ∙ sym (passing l ps ss d f).screen in
      rw (a, b, c, t, same_judged v.screen (length l.words.state) (length l.words.render) (length l.words.fills) (rw s refl) (rw s refl) (rw s refl) g) f
