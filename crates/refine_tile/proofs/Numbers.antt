-- The accounts of any steps: attributes of each kind are numbered in order, and the story's entries are what the accounts tell.
use Rattle.std.proofs.Common.{ℕ, ◌+◌, ◌<◌, arith, ◌≡◌, refl, sym, ◌∙◌, ap, Bool, true, false, ◌&&◌, cond, List, [], ◌∷◌, ◌++◌, append-nil, append_assoc, length, eqb, eqb-true, ne_eqb}
use mathlib.Core.Bool.{beq}
use Rattle.rules.specs.Lists.{is-empty, join}
use Rattle.rules.specs.Boxes.{Box}
use Rattle.rules.specs.Segments.{Segment, cuts}
use Rattle.rules.specs.Inputs.{draw-segments, draw-paint, Filter}
use Rattle.rules.specs.Plans.{Step, a-fill, a-push, a-pop, a-filter, eligible, filter-box, draws-nothing}
use Rattle.rules.specs.Plain.{Told, OpenLayer, Story, untold, box-now, here, tell, tell-pop, tell-filter, tell-step, tell-steps}
use Rattle.rules.proofs.All.{All, nil, cons, never}
use Rattle.rules_picture.proofs.Cases.{by}
use Rattle.rules_reason.specs.Reasons.{Asked, Account, account-pop, account-filter, account-step, accounts}

abbrev pub told-by : Account → List Told
told-by k = k.told

-- all that accounts tell
abbrev pub told-all : List Account → List Told
told-all ks = join told-by ks

pub told-append : (ks js : List Account) → told-all (ks ++ js) ≡ told-all ks ++ told-all js
told-append [] js = refl
told-append (k ∷ ks) js = rw (told-append ks js) (sym (append_assoc k.told (told-all ks) (told-all js)))

-- from p paint and l layer attributes on, up to p' and l'
pub data Numbered : ℕ → ℕ → List Account → ℕ → ℕ → Type 0 where
  all-numbered : {p l : ℕ} → Numbered p l [] p l
  a-paint : {p l p' l' : ℕ} {k : Account} {ks : List Account} → k.layer ≡ false → k.attribute ≡ p → Numbered (p + 1) l ks p' l' → Numbered p l (k ∷ ks) p' l'
  a-layer : {p l p' l' : ℕ} {k : Account} {ks : List Account} → k.layer ≡ true → k.attribute ≡ l → Numbered p (l + 1) ks p' l' → Numbered p l (k ∷ ks) p' l'

numbered-append : {p l p' l' p'' l'' : ℕ} {ks js : List Account} → Numbered p l ks p' l' → Numbered p' l' js p'' l'' → Numbered p l (ks ++ js) p'' l''
numbered-append all-numbered m = m
numbered-append (a-paint e i n) m = a-paint e i (numbered-append n m)
numbered-append (a-layer e i n) m = a-layer e i (numbered-append n m)

-- what is asked about is an attribute of this account
abbrev pub asks : Asked → Account → Bool
asks a k = beq k.layer a.layer && eqb k.attribute a.attribute

-- how many there are of the asked kind
abbrev pub of-kind : Asked → ℕ → ℕ → ℕ
of-kind a p l = cond a.layer l p

module _ (w : ℕ) (v : Box) (row tile : ℕ) where
  -- a step's account, and what it tells
  record Adds (o u : Story) (ks : List Account) : Type 0 where
    numbered : Numbered o.paints o.layers ks u.paints u.layers
    told : u.told ≡ o.told ++ told-all ks

  -- k: the account of a draw's attribute
  fill-adds : (own : List Segment) (q : ℕ) (e : Bool) (ls : List OpenLayer) (o : Story) (k : Account) → k.layer ≡ false → k.attribute ≡ o.paints
      → let ts = tell w v row tile false o.paints q (length o.open-layers) o.next e (here w v row tile o.open-layers own) in
      k.told ≡ ts
      → Adds o
      (record { next = o.next + 1; paints = cond (is-empty own) o.paints (o.paints + 1); layers = o.layers; open-layers = ls; told = o.told ++ ts })
      (cond (is-empty own) [] (k ∷ []))
  unfolding cuts
  fill-adds [] q e ls o k l i t = record { numbered = all-numbered; told = refl }
  fill-adds (s ∷ ss) q e ls o k l i t = record { numbered = a-paint l i all-numbered; told = rw (append-nil, t) }

  pop-adds : (ls : List OpenLayer) (ss : List Segment) (o : Story) → Adds o (tell-pop w v row tile ls ss o) (account-pop w v row tile ls ss o)
  pop-adds [] ss o = record { numbered = all-numbered; told = sym (append-nil o.told) }
  pop-adds (l ∷ ls) ss o = record { numbered = a-layer refl refl all-numbered; told = rw append-nil }

  filter-adds : (f : Filter) (q : ℕ) (o : Story) → Adds o (tell-filter w v row tile f q o) (account-filter w v row tile f q o)
  filter-adds f q o = by (draws-nothing f (filter-box v (box-now v o.open-layers) f))
      (λ y. rw y (record { numbered = all-numbered; told = sym (append-nil o.told) }))
      (λ n. rw n (record { numbered = a-paint refl refl all-numbered; told = rw append-nil }))

  step-adds : (x : Step) (o : Story) → Adds o (tell-step w v row tile x o) (account-step w v row tile x o)
  unfolding tell-step account-step
  step-adds (a-fill ps ss d) o = fill-adds (draw-segments ss d) d.panel (eligible (is-empty o.open-layers) (draw-paint ps d) d) _ o _ refl refl refl
  step-adds (a-push p) o = record { numbered = all-numbered; told = sym (append-nil o.told) }
  step-adds (a-pop ss) o = pop-adds o.open-layers ss o
  step-adds (a-filter n f q) o = filter-adds f q o

  steps-add : (xs : List Step) (o : Story) → Adds o (tell-steps w v row tile xs o) (accounts w v row tile xs o)
  unfolding tell-steps accounts
  steps-add [] o = record { numbered = all-numbered; told = sym (append-nil o.told) }
  steps-add (x ∷ xs) o =
      let a = step-adds x o in
      let b = steps-add xs (tell-step w v row tile x o) in
      record {
        numbered = numbered-append a.numbered b.numbered;
        told = b.told ∙ ap (λ (ts : List Told). ts ++ told-all (accounts w v row tile xs (tell-step w v row tile x o))) a.told
            ∙ append_assoc o.told (told-all (account-step w v row tile x o)) (told-all (accounts w v row tile xs (tell-step w v row tile x o)))
            ∙ ap (λ (ts : List Told). o.told ++ ts) (sym (told-append (account-step w v row tile x o) (accounts w v row tile xs (tell-step w v row tile x o))));
      }

  -- of all steps
  pub accounts-numbered : (xs : List Step) → let u = tell-steps w v row tile xs untold in Numbered 0 0 (accounts w v row tile xs untold) u.paints u.layers
  accounts-numbered xs = (steps-add xs untold).numbered

  pub accounts-told : (xs : List Step) → (tell-steps w v row tile xs untold).told ≡ told-all (accounts w v row tile xs untold)
  accounts-told xs = (steps-add xs untold).told

-- By the asked kind b: an attribute i below the count is no new one, stays below, and a new one is below afterwards
new-paint : (b : Bool) (i p l : ℕ) → i < cond b l p → (beq false b && eqb p i) ≡ false
new-paint true i p l h = refl
new-paint false i p l h = ne_eqb p i (λ e. omega arith)

new-layer : (b : Bool) (i p l : ℕ) → i < cond b l p → (beq true b && eqb l i) ≡ false
new-layer true i p l h = ne_eqb l i (λ e. omega arith)
new-layer false i p l h = refl

pub more-paints : (b : Bool) (i p l : ℕ) → i < cond b l p → i < cond b l (p + 1)
more-paints true i p l h = h
more-paints false i p l h = omega arith

pub more-layers : (b : Bool) (i p l : ℕ) → i < cond b l p → i < cond b (l + 1) p
more-layers true i p l h = omega arith
more-layers false i p l h = h

pub is-paint : (b : Bool) (i p l : ℕ) → (beq false b && eqb p i) ≡ true → i < cond b l (p + 1)
is-paint true i p l y = never (sym y)
is-paint false i p l y = let e = eqb-true p i y in omega arith

pub is-layer : (b : Bool) (i p l : ℕ) → (beq true b && eqb l i) ≡ true → i < cond b (l + 1) p
is-layer true i p l y = let e = eqb-true l i y in omega arith
is-layer false i p l y = never (sym y)

module _ (a : Asked) where
  -- an attribute below the counts isn't numbered again
  numbered-later : {p l p' l' : ℕ} {ks : List Account} → Numbered p l ks p' l' → a.attribute < of-kind a p l → All (λ (k : Account). asks a k ≡ false) ks
  numbered-later all-numbered h = nil
  numbered-later {p} {l} (a-paint {k = k} e i n) h =
      cons {x = k} (rw (e, i) (new-paint a.layer a.attribute p l h)) (numbered-later n (more-paints a.layer a.attribute p l h))
  numbered-later {p} {l} (a-layer {k = k} e i n) h =
      cons {x = k} (rw (e, i) (new-layer a.layer a.attribute p l h)) (numbered-later n (more-layers a.layer a.attribute p l h))

  -- of two accounts only one can be asked about
  pub data Once : List Account → Type 0 where
    none_left : Once []
    once : {k : Account} {ks : List Account} → (asks a k ≡ true → All (λ (j : Account). asks a j ≡ false) ks) → Once ks → Once (k ∷ ks)

  pub numbered-once : {p l p' l' : ℕ} {ks : List Account} → Numbered p l ks p' l' → Once ks
  numbered-once all-numbered = none_left
  numbered-once {p} {l} (a-paint {k = k} e i n) =
      once {k = k} (λ y. let z : (beq false a.layer && eqb p a.attribute) ≡ true = rw (e, i) at y in numbered-later n (is-paint a.layer a.attribute p l z)) (numbered-once n)
  numbered-once {p} {l} (a-layer {k = k} e i n) =
      once {k = k} (λ y. let z : (beq true a.layer && eqb l a.attribute) ≡ true = rw (e, i) at y in numbered-later n (is-layer a.layer a.attribute p l z)) (numbered-once n)
