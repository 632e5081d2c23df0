-- Where an attribute's account and its entries stand: at most one account is the asked attribute's, and it tells at most one entry.
use Rattle.std.proofs.Common.{ℕ, suc, ◌+◌, ◌≤◌, ◌<◌, add-zero, arith, ◌≡◌, refl, sym, ◌∙◌, ap, subst, Bool, true, false, ◌&&◌, ◌||◌, cond, Option, None, Some, List, [], ◌∷◌, ◌++◌, map, leb, eqb, eqb-true, eq-eqb, leb-true, leb-false}
use mathlib.Core.Bool.{beq}
use borrow.Author.Tests.{eqb-false}
use Rattle.rules.specs.Lists.{keep}
use Rattle.rules.specs.Painting.{Entry}
use Rattle.rules.specs.Plain.{Told, shown}
use Rattle.rules.proofs.All.{All, nil, cons, all_append, all-over, never, and_left, and_right, and_both, none_of}
use Rattle.rules_picture.proofs.Cases.{by}
use Rattle.rules_picture.proofs.Shown.{hides-of}
use Rattle.rules_reason.specs.Reasons.{Asked, Account, account-of, place_of, newest-hider}
use Rattle.tile.specs.Telling.{Line}
use Rattle.tile.specs.Listed.{entry_of}
use Rattle.refine_tile.specs.Retold.{tells, Say, said, says}
use Rattle.refine_tile.proofs.Numbers.{told-all, Numbered, all-numbered, a-paint, a-layer, more-paints, more-layers, is-paint, is-layer, asks, of-kind, Once, none_left, once}
use Rattle.refine_tile.proofs.Shows.{hiding, names, Unnamed}
use Rattle.theorem_reason.specs.Reasons.{Place, first, later, EntryOf, Unlisted, Newest, newest, older}

beq-true : (x y : Bool) → beq x y ≡ true → x ≡ y
beq-true true true e = refl
beq-true true false e = never (sym e)
beq-true false true e = never (sym e)
beq-true false false e = refl

beq-yes : (x y : Bool) → x ≡ y → beq x y ≡ true
beq-yes true true e = refl
beq-yes true false e = never e
beq-yes false true e = never (sym e)
beq-yes false false e = refl

-- the two tests, as facts
pub kind-is : (x y : Bool) (i j : ℕ) → (beq x y && eqb i j) ≡ true → (x ≡ y) × (i ≡ j)
kind-is x y i j e = (beq-true x y (and_left _ _ e), eqb-true i j (and_right (beq x y) _ e))

pub kind-yes : (x y : Bool) (i j : ℕ) → x ≡ y → i ≡ j → (beq x y && eqb i j) ≡ true
kind-yes x y i j p q = and_both _ _ (beq-yes x y p) (eq-eqb i j q)

place-append : {A : Type 0} {n : ℕ} {x : A} {xs : List A} (ys : List A) → Place n xs x → (m : ℕ) × Place m (ys ++ xs) x
place-append {n = n} [] p = (n, p)
place-append (y ∷ ys) p = let (m, q) = place-append ys p in (suc m, later q)

pub place-all : {A : Type 0} {P : A → Type 0} {n : ℕ} {x : A} {xs : List A} → All P xs → Place n xs x → P x
place-all nil x = elim x [ ]
place-all (cons p a) first = p
place-all (cons p a) (later q) = place-all a q

-- entries of told entries
abbrev pub entry_in : Told → Entry
entry_in t = t.entry

pub place-entry : {n : ℕ} {t : Told} {ts : List Told} → Place n ts t → Place n (map entry_in ts) t.entry
place-entry first = first
place-entry (later p) = later (place-entry p)

pub record From (n : ℕ) (ts : List Told) (e : Entry) : Type 0 where
  pub told : Told
  pub at : Place n ts told
  pub is : told.entry ≡ e

pub place-told : {n : ℕ} {e : Entry} (ts : List Told) → Place n (map entry_in ts) e → From n ts e
place-told [] x = elim x [ ]
place-told (t ∷ ts) first = record { told = t; at = first; is = refl }
place-told (t ∷ ts) (later p) = let r = place-told ts p in record { told = r.told; at = later r.at; is = r.is }

-- what is shown are the last of what was told
pub shown-told : {n : ℕ} {t : Told} (ts : List Told) → Place n (shown ts) t → (m : ℕ) × Place m ts t
unfolding shown
shown-told {n} [] p = (n, p)
shown-told {n} {t} (u ∷ ts) p = by (hiding ts)
    (λ y. let q : Place n (shown ts) t = rw y at p in let (m, r) = shown-told ts q in (suc m, later r))
    (λ z. let q : Place n (u ∷ ts) t = rw z at p in (n, q))

-- the newest that hides, where all that hide are draws'
abbrev pub Drawn : Told → Type 0
Drawn t = t.hides ≡ true → t.entry.layer ≡ false

pub newest-is : (ts : List Told) → All Drawn ts → hiding ts ≡ true → Newest ts (newest-hider ts).attribute (newest-hider ts).panel
unfolding newest-hider
newest-is [] d e = never (sym e)
newest-is (t ∷ ts) (cons d ds) e = by (hiding ts)
    (λ y. rw y (older (newest-is ts ds y)))
    (λ n.
    let h : t.hides ≡ true = so t.hides (hiding ts) n e in
    rw n (newest h (d h) (none_of hides-of ts n)))
  where
    so : (a b : Bool) → b ≡ false → (a || b) ≡ true → a ≡ true
    so true b n y = refl
    so false b n y = never (sym y ∙ n)

pub newest-hides : {ts : List Told} {h b : ℕ} → Newest ts h b → hiding ts ≡ true
newest-hides (newest e d a) = rw e
newest-hides (older {t = t} n) = rw (newest-hides n) (or-true t.hides)
  where
    or-true : (b : Bool) → (b || true) ≡ true
    or-true true = refl
    or-true false = refl

none-hides : {ts : List Told} → All (λ (u : Told). u.hides ≡ false) ts → hiding ts ≡ false
none-hides nil = refl
none-hides (cons e a) = rw (e, none-hides a)

pub newest-only : {ts : List Told} {h b : ℕ} → Newest ts h b → newest-hider ts ≡ record { attribute = h; panel = b }
unfolding newest-hider
newest-only (newest e d a) = rw (none-hides a)
newest-only (older n) = rw (newest-hides n) (newest-only n)

-- a number that isn't the next one of its kind stays at or above the count
no-paint : (b : Bool) (i p l : ℕ) → cond b l p ≤ i → (beq false b && eqb p i) ≡ false → cond b l (p + 1) ≤ i
no-paint true i p l h e = h
no-paint false i p l h e = by (leb (p + 1) i) (λ y. leb-true (p + 1) i y) (λ z. let k = leb-false (p + 1) i z in absurd (eqb-false p i e (omega arith)))

no-layer : (b : Bool) (i p l : ℕ) → cond b l p ≤ i → (beq true b && eqb l i) ≡ false → cond b (l + 1) p ≤ i
no-layer true i p l h e = by (leb (l + 1) i) (λ y. leb-true (l + 1) i y) (λ z. let k = leb-false (l + 1) i z in absurd (eqb-false l i e (omega arith)))
no-layer false i p l h e = h

module _ (a : Asked) where
  pub named : (t : Told) → names a t ≡ true → EntryOf a t.entry
  named t e = let (p, q) = kind-is t.entry.layer a.layer t.entry.attribute a.attribute e in record { layer = p; attribute = q }

  pub naming : (t : Told) → EntryOf a t.entry → names a t ≡ true
  naming t e = kind-yes t.entry.layer a.layer t.entry.attribute a.attribute e.layer e.attribute

  pub unlisted : {ts : List Told} → Unnamed a ts → Unlisted a (map entry_in ts)
  unlisted u = all-over entry_in (λ t n e. never (sym (naming t e) ∙ n)) u

  -- a place that was found, or none
  pub record Found (n m : ℕ) (ts : List Told) : Type 0 where
    pub place : ℕ
    pub is : m ≡ n + place
    pub told : Told
    pub at : Place place ts told
    pub of : names a told ≡ true

  pub place_found : (n m : ℕ) (ts : List Told) → place_of a n ts ≡ Some m → Found n m ts
  unfolding place_of
  place_found n m [] e = let z : ◌≡◌ {A = ℕ} 0 1 = cc in absurd (omega arith)
  place_found n m (t ∷ ts) e = by (names a t)
      (λ y.
      let q : ◌≡◌ {A = Option ℕ} (Some n) (Some m) = rw y at e in
      let z : n ≡ m = cc in
      record { place = 0; is = omega arith; told = t; at = first; of = y })
      (λ z.
      let r = place_found (suc n) m ts (rw z at e) in
      let i = r.is in
      record { place = suc r.place; is = omega arith; told = r.told; at = later r.at; of = r.of })

  pub place-missing : (n : ℕ) (ts : List Told) → place_of a n ts ≡ None → Unnamed a ts
  unfolding place_of
  place-missing n [] e = nil
  place-missing n (t ∷ ts) e = by (names a t)
      (λ y. let q : ◌≡◌ {A = Option ℕ} (Some n) None = rw y at e in let z : ◌≡◌ {A = ℕ} 0 1 = cc in absurd (omega arith))
      (λ z. cons z (place-missing (suc n) ts (rw z at e)))

  -- at most one entry is named
  pub data Lone : List Told → Type 0 where
    all-lone : Lone []
    lone : {t : Told} {ts : List Told} → (names a t ≡ true → Unnamed a ts) → Lone ts → Lone (t ∷ ts)

  pub lone-shown : {ts : List Told} → Lone ts → Lone (shown ts)
  unfolding shown
  lone-shown all-lone = all-lone
  lone-shown (lone {ts = ts} f l) = by (hiding ts) (λ y. rw y (lone-shown l)) (λ n. rw n (lone f l))

  pub place-lone : (n : ℕ) {p : ℕ} {t : Told} {ts : List Told} → Lone ts → Place p ts t → names a t ≡ true → place_of a n ts ≡ Some (n + p)
  unfolding place_of
  place-lone n all-lone x e = elim x [ ]
  place-lone n (lone f l) first e = rw (e, add-zero n)
  place-lone n (lone {t = u} f l) (later {n = p} q) e =
      let m : suc n + p ≡ n + suc p = omega arith in
      by (names a u)
      (λ y. never (sym e ∙ place-all (f y) q))
      (λ z. rw z (place-lone (suc n) l q e ∙ ap (λ (i : ℕ). Some i) m))

  -- an account tells its own entry, of its panel, or nothing
  pub record Fair (k : Account) : Type 0 where
    pub entry : Told
    pub told : k.told ≡ keep (tells k) entry []
    pub of : names a entry ≡ asks a k
    pub panel : entry.entry.panel ≡ k.panel

  pub fair : {ks : List Account} {ls : List Line} → Say ks ls → All Fair ks
  fair said = nil
  fair (says {k = k} {l = l} s r) =
      cons {x = k} (record { entry = record { entry = entry_of l; id = s.id; hides = s.hides }; told = s.told; of = rw (s.layer, s.attribute); panel = s.panel }) (fair r)

  -- what one account tells
  told-one : (k : Account) (f : Fair k) → tells k ≡ true → k.told ≡ f.entry ∷ []
  told-one k f y = f.told ∙ ap (λ (b : Bool). keep b f.entry []) y

  told_none : (k : Account) (f : Fair k) → tells k ≡ false → k.told ≡ []
  told_none k f n = f.told ∙ ap (λ (b : Bool). keep b f.entry []) n

  told-unnamed : (k : Account) → Fair k → asks a k ≡ false → Unnamed a k.told
  told-unnamed k f e = by (tells k)
      (λ y. subst (λ (ts : List Told). Unnamed a ts) (sym (told-one k f y)) (cons (f.of ∙ e) nil))
      (λ n. subst (λ (ts : List Told). Unnamed a ts) (sym (told_none k f n)) nil)

  all-unnamed : {ks : List Account} → All Fair ks → All (λ (k : Account). asks a k ≡ false) ks → Unnamed a (told-all ks)
  all-unnamed nil n = nil
  all-unnamed (cons {x = k} f fs) (cons e n) = all_append (told-unnamed k f e) (all-unnamed fs n)

  pub told_lone : {ks : List Account} → All Fair ks → Once a ks → Lone (told-all ks)
  told_lone nil none_left = all-lone
  told_lone (cons {x = k} {xs = ks} f fs) (once g o) = by (tells k)
      (λ y. subst (λ (ts : List Told). Lone (ts ++ told-all ks)) (sym (told-one k f y)) (lone (λ e. all-unnamed fs (g (sym f.of ∙ e))) (told_lone fs o)))
      (λ n. subst (λ (ts : List Told). Lone (ts ++ told-all ks)) (sym (told_none k f n)) (told_lone fs o))

  -- the account of the asked attribute
  pub record Standing (k : Account) (ks : List Account) : Type 0 where
    pub place : ℕ
    pub at : Place place ks k
    pub of : asks a k ≡ true

  pub account-found : (ks : List Account) (k : Account) → account-of a ks ≡ Some k → Standing k ks
  unfolding account-of
  account-found [] k e = let z : ◌≡◌ {A = ℕ} 0 1 = cc in absurd (omega arith)
  account-found (j ∷ ks) k e = by (asks a j)
      (λ y.
      let q : ◌≡◌ {A = Option Account} (Some j) (Some k) = rw y at e in
      let z : j ≡ k = cc in
      subst (λ (i : Account). Standing i (j ∷ ks)) z (record { place = 0; at = first; of = y }))
      (λ n. let r = account-found ks k (rw n at e) in record { place = suc r.place; at = later r.at; of = r.of })

  account-missing : (ks : List Account) → account-of a ks ≡ None → All (λ (k : Account). asks a k ≡ false) ks
  unfolding account-of
  account-missing [] e = nil
  account-missing (j ∷ ks) e = by (asks a j)
      (λ y. let q : ◌≡◌ {A = Option Account} (Some j) None = rw y at e in let z : ◌≡◌ {A = ℕ} 0 1 = cc in absurd (omega arith))
      (λ n. cons n (account-missing ks (rw n at e)))

  pub account-lone : {ks : List Account} {n : ℕ} {k : Account} → Once a ks → Place n ks k → asks a k ≡ true → account-of a ks ≡ Some k
  unfolding account-of
  account-lone none_left x e = elim x [ ]
  account-lone (once g o) first e = rw e
  account-lone (once {k = j} g o) (later p) e = by (asks a j)
      (λ y. never (sym e ∙ place-all (g y) p))
      (λ n. rw n (account-lone o p e))

  -- with no account nothing is told of it, nor by one that tells nothing; by one that tells, an entry
  pub none_told : {ks : List Account} → All Fair ks → account-of a ks ≡ None → Unnamed a (told-all ks)
  none_told {ks} fs e = all-unnamed fs (account-missing ks e)

  pub untold-by : {ks : List Account} (k : Account) → All Fair ks → Once a ks → account-of a ks ≡ Some k → tells k ≡ false → Unnamed a (told-all ks)
  unfolding account-of
  untold-by k nil none_left e n = nil
  untold-by k (cons {x = j} {xs = ks} f fs) (once g o) e n = by (asks a j)
      (λ y.
      let q : ◌≡◌ {A = Option Account} (Some j) (Some k) = rw y at e in
      let z : j ≡ k = cc in
      let m : tells j ≡ false = ap (λ (i : Account). tells i) z ∙ n in
      subst (λ (ts : List Told). Unnamed a (ts ++ told-all ks)) (sym (told_none j f m)) (all-unnamed fs (g y)))
      (λ z. all_append (told-unnamed j f z) (untold-by k fs o (rw z at e) n))

  -- the entries of the asked attribute have its account's panel
  abbrev pub Paneled : ℕ → Told → Type 0
  Paneled q t = names a t ≡ true → t.entry.panel ≡ q

  none-paneled : (q : ℕ) {ts : List Told} → Unnamed a ts → All (Paneled q) ts
  none-paneled q nil = nil
  none-paneled q (cons n u) = cons (λ y. never (sym y ∙ n)) (none-paneled q u)

  own-panel : (k : Account) (f : Fair k) → All (Paneled k.panel) k.told
  own-panel k f = by (tells k)
      (λ y. subst (λ (ts : List Told). All (Paneled k.panel) ts) (sym (told-one k f y)) (cons (λ z. f.panel) nil))
      (λ n. subst (λ (ts : List Told). All (Paneled k.panel) ts) (sym (told_none k f n)) nil)

  pub told-panels : {ks : List Account} (k : Account) → All Fair ks → Once a ks → account-of a ks ≡ Some k → All (Paneled k.panel) (told-all ks)
  unfolding account-of
  told-panels k nil none_left e = nil
  told-panels k (cons {x = j} {xs = ks} f fs) (once g o) e = by (asks a j)
      (λ y.
      let q : ◌≡◌ {A = Option Account} (Some j) (Some k) = rw y at e in
      let z : j ≡ k = cc in
      all_append (subst (λ (i : Account). All (Paneled i.panel) j.told) z (own-panel j f)) (none-paneled k.panel (all-unnamed fs (g y))))
      (λ z. all_append (none-paneled k.panel (told-unnamed j f z)) (told-panels k fs o (rw z at e)))

  pub record Stood (ts : List Told) : Type 0 where
    pub place : ℕ
    pub told : Told
    pub at : Place place ts told
    pub of : names a told ≡ true

  pub told-by-it : {ks : List Account} (k : Account) → All Fair ks → account-of a ks ≡ Some k → tells k ≡ true → Stood (told-all ks)
  unfolding account-of
  told-by-it k nil e y = let z : ◌≡◌ {A = ℕ} 0 1 = cc in absurd (omega arith)
  told-by-it k (cons {x = j} {xs = ks} f fs) e y = by (asks a j)
      (λ x.
      let q : ◌≡◌ {A = Option Account} (Some j) (Some k) = rw x at e in
      let z : j ≡ k = cc in
      let m : tells j ≡ true = ap (λ (i : Account). tells i) z ∙ y in
      subst (λ (ts : List Told). Stood (ts ++ told-all ks)) (sym (told-one j f m)) (record { place = 0; told = f.entry; at = first; of = f.of ∙ x }))
      (λ z.
      let r = told-by-it k fs (rw z at e) y in
      let (m, p) = place-append j.told r.at in
      record { place = m; told = r.told; at = p; of = r.of })

  -- the attribute is below the count exactly if there is an account
  below_more : {p l p' l' : ℕ} {ks : List Account} → Numbered p l ks p' l' → a.attribute < of-kind a p l → a.attribute < of-kind a p' l'
  below_more all-numbered h = h
  below_more {p} {l} (a-paint e i n) h = below_more n (more-paints a.layer a.attribute p l h)
  below_more {p} {l} (a-layer e i n) h = below_more n (more-layers a.layer a.attribute p l h)

  pub numbered_below : {p l p' l' : ℕ} {ks : List Account} {n : ℕ} {k : Account} → Numbered p l ks p' l' → Place n ks k → asks a k ≡ true → a.attribute < of-kind a p' l'
  numbered_below all-numbered x y = elim x [ ]
  numbered_below {p} {l} (a-paint e i m) first y =
      let z : (beq false a.layer && eqb p a.attribute) ≡ true = rw (e, i) at y in below_more m (is-paint a.layer a.attribute p l z)
  numbered_below {p} {l} (a-layer e i m) first y =
      let z : (beq true a.layer && eqb l a.attribute) ≡ true = rw (e, i) at y in below_more m (is-layer a.layer a.attribute p l z)
  numbered_below (a-paint e i m) (later q) y = numbered_below m q y
  numbered_below (a-layer e i m) (later q) y = numbered_below m q y

  above_more : {p l p' l' : ℕ} {ks : List Account} → Numbered p l ks p' l' → of-kind a p l ≤ a.attribute → All (λ (k : Account). asks a k ≡ false) ks → of-kind a p' l' ≤ a.attribute
  above_more all-numbered h n = h
  above_more {p} {l} (a-paint e i m) h (cons x n) =
      let z : (beq false a.layer && eqb p a.attribute) ≡ false = rw (e, i) at x in above_more m (no-paint a.layer a.attribute p l h z) n
  above_more {p} {l} (a-layer e i m) h (cons x n) =
      let z : (beq true a.layer && eqb l a.attribute) ≡ false = rw (e, i) at x in above_more m (no-layer a.layer a.attribute p l h z) n

  pub numbered-above : {p l : ℕ} {ks : List Account} → Numbered 0 0 ks p l → account-of a ks ≡ None → of-kind a p l ≤ a.attribute
  numbered-above {ks = ks} n e = above_more n (start a.layer a.attribute) (account-missing ks e)
    where
      start : (b : Bool) (i : ℕ) → cond b 0 0 ≤ i
      start true i = omega arith
      start false i = omega arith
