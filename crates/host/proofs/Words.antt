-- A screen as words and back.
use Rattle.std.proofs.Common.{◌≡◌, refl, Bool, true, false, ◌&&◌, cond, List, Option, None, Some, ℕ, zero, suc, ◌≤◌, arith, length, get_or, leb, eqb, eqb-true, leb-true}
use Rattle.sizes.specs.Sizes.{state-size}
use Rattle.sizes.specs.declared.width.Width.{Width}
use Rattle.sizes.specs.declared.width.Width.TheVariants.{W64, W128, W256}
use Rattle.rules.proofs.All.{both}
use Rattle.rules.specs.Answers.{Answer, answer}
use Rattle.screen.specs.declared.Screen.{Screen}
use Rattle.host.specs.State.{bit, width_word, width-at, screen-words, screen-at, good-words, screen_of, before_4, refused_at, at_held}
use Rattle.host.proofs.Lists.{by_length}

bit-back : (n : ℕ) → n ≤ 1 → bit (eqb n 1) ≡ n
bit-back zero h = refl
bit-back (suc zero) h = refl
bit-back (suc (suc n)) h = absurd (omega arith)

width_back : (n : ℕ) → n ≤ 2 → width_word (width-at n) ≡ n
width_back zero h = refl
width_back (suc zero) h = refl
width_back (suc (suc zero)) h = refl
width_back (suc (suc (suc n))) h = absurd (omega arith)

-- words whose last two are good are those of the screen that is read from them
spelled : (st : List ℕ) → length st ≡ state-size → get_or st 15 0 ≤ 1 → get_or st 16 0 ≤ 2 → screen-words (screen-at st) ≡ st
spelled =
    by_length state-size (λ (st : List ℕ). get_or st 15 0 ≤ 1 → get_or st 16 0 ≤ 2 → screen-words (screen-at st) ≡ st)
    (λ a b c d e f g h i j k l m n o p q u v. rw (bit-back p u, width_back q v))

module _ (good : Bool) (st : List ℕ) (s : Screen) where
  -- what is known of words that stand for the screen s
  abbrev Known : Type 0
  Known = (length st ≡ state-size) × (screen-words s ≡ st)

  known : (b : Bool) → good && good-words st ≡ b → Some s ≡ cond b (Some (screen-at st)) None → Known
  known true q e =
      let h : s ≡ screen-at st = cc in
      let first = eqb (length st) state-size in
      let flag = leb (get_or st 15 0) 1 in
      let k = both (first && flag) (leb (get_or st 16 0) 2) (both good (good-words st) q).1 in
      let g = both first flag k.0 in
      let long = eqb-true (length st) state-size g.0 in
      (long, rw h (spelled st long (leb-true (get_or st 15 0) 1 g.1) (leb-true (get_or st 16 0) 2 k.1)))
  known false q e = let z : ◌≡◌ {A = ℕ} 0 1 = cc in absurd (omega arith)

  pub long : Some s ≡ screen_of good st → length st ≡ state-size
  unfolding screen_of
  long e = (known (good && good-words st) refl e).0

  -- words that stand for a screen are its words
  pub written_back : Some s ≡ screen_of good st → screen-words s ≡ st
  unfolding screen_of
  written_back e = (known (good && good-words st) refl e).1

-- the words of a screen stand for it
pub read_back : (s : Screen) → screen_of true (screen-words s) ≡ Some s
unfolding screen_of
read_back s = by s.painting s.width refl refl
  where
    by : (b : Bool) (w : Width) → s.painting ≡ b → s.width ≡ w → screen_of true (screen-words s) ≡ Some s
    by true W64 e f = rw (e, f)
    by true W128 e f = rw (e, f)
    by true W256 e f = rw (e, f)
    by false W64 e f = rw (e, f)
    by false W128 e f = rw (e, f)
    by false W256 e f = rw (e, f)

-- A refusal at the border: g has the call's own 1, 2 and 3.
pub refused-on : {T : Type 0} (h : Option Screen) (st : List ℕ) (t : T) (f : Screen → Answer T) (g : Screen → ℕ) (r : ℕ) → None ≡ h → r ≡ refused_at st g
    → ((s : Screen) → before_4 (g s) ≡ before_4 (f s).number) → answer r t ≡ at_held h st t f
unfolding refused_at
refused-on h st t f g r e q k = rw (← e, q, k (screen-at st))
