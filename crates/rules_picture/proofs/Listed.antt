-- The puts of a step on one row, as acts; and a list of cuts drawn there.
use Rattle.std.proofs.Common.{ℕ, zero, suc, ◌≤◌, ◌<◌, le_refl, arith, ◌≡◌, refl, sym, ap, Bool, true, false, cond, List, [], ◌∷◌, ◌++◌, map, length, eqb, eq-eqb, ne_eqb, eqb-true}
use borrow.Author.Tests.{eqb-false}
use Rattle.rules.specs.Lists.{such, keep, some_of, is-empty, count-from}
use Rattle.rules.specs.Boxes.{Box}
use Rattle.rules.specs.Segments.{Cut}
use Rattle.rules.specs.Attributes.{Attrs}
use Rattle.rules.specs.Rows.{Row, row-ops}
use Rattle.rules.specs.Plans.{Act, on, draw-act, draw-puts}
use Rattle.rules.specs.Steps.{do-act}
use Rattle.rules.specs.Plain.{tell}
use Rattle.rules_picture.proofs.Cases.{by}
use Rattle.rules_picture.proofs.Shown.{hides-of}
use Rattle.rules_picture.proofs.Held.{stays}
use Rattle.rules_picture.proofs.Rows.{PaintHas}
use Rattle.rules_picture.proofs.Acts.{acts-at, do-acts}
use Rattle.rules_picture.proofs.Acted.{Sound, Adds, adds_none, adds-both}
use Rattle.rules_picture.proofs.Drawn.{cut-told, told-cons, cut-adds}

abbrev pub cut-act : Bool → ℕ → ℕ → Cut → Act
cut-act e i id k = draw-act e i id k.stretch.tiles k.stretch.alpha

abbrev pub in_row : ℕ → Cut → Bool
in_row row k = eqb k.row row

-- a draw's acts on a row are those of the cuts there
pub draw-acts : (e : Bool) (i id row : ℕ) (ks : List Cut) → acts-at row (draw-puts e i id ks) ≡ map (cut-act e i id) (such (in_row row) ks)
unfolding draw-puts
draw-acts e i id row [] = refl
draw-acts e i id row (k ∷ ks) = rw (draw-acts e i id row ks) (by (eqb k.row row) (λ y. rw y) (λ n. rw n))

-- rows from x on, each once
pub data Rows : ℕ → List ℕ → Type 0 where
  no_rows : {x : ℕ} → Rows x []
  row-then : {x j : ℕ} {js : List ℕ} → x ≤ j → Rows (suc j) js → Rows x (j ∷ js)

pub rows-counted : (x n : ℕ) → Rows x (count-from x n)
rows-counted x zero = no_rows
rows-counted x (suc n) = row-then (le_refl x) (rows-counted (suc x) n)

-- an act put on each of them is put on a row once, or not at all
rows-past : {x : ℕ} {js : List ℕ} (a : Act) (row : ℕ) → row < x → Rows x js → acts-at row (map (on a) js) ≡ []
rows-past a row h no_rows = refl
rows-past a row h (row-then {j = j} k r) = rw (ne_eqb j row (λ e. omega arith)) (rows-past a row (omega arith) r)

pub acts-once : {x : ℕ} {js : List ℕ} (a : Act) (row : ℕ) → Rows x js → acts-at row (map (on a) js) ≡ keep (some_of (eqb row) js) a []
acts-once a row no_rows = refl
acts-once a row (row-then {j = j} {js = js} k r) = by (eqb j row)
    (λ y.
    let e = eqb-true j row y in
    rw (y, eq-eqb row j (sym e)) (ap (λ (bs : List Act). a ∷ bs) (rows-past a row (omega arith) r)))
    (λ n. let d = eqb-false j row n in rw (n, ne_eqb row j (λ q. d (sym q))) (acts-once a row r))

pub such-append : {A : Type 0} (p : A → Bool) (xs ys : List A) → such p (xs ++ ys) ≡ such p xs ++ such p ys
such-append p [] ys = refl
such-append p (x ∷ xs) ys = rw (such-append p xs ys) (by (p x) (λ y. rw y) (λ n. rw n))

module _ (w : ℕ) (attrs : Attrs) (t : ℕ) (v : Box) (row : ℕ) where
  -- the cuts of one draw on the row, with n layers open, add what plain draw order tells of them
  pub draws-add : 0 < w → (e : Bool) (i q id n : ℕ) → PaintHas attrs i id q → 0 < id → (e ≡ true → n ≡ 0) → (ks : List Cut) (r : Row) → Sound r → length r.levels ≤ n
      → Adds w attrs t
      (such stays (tell w v row t false i q n id e ks))
      (such hides-of (tell w v row t false i q n id e ks))
      (cond (is-empty ks) (length r.levels) n)
      r (do-acts Row row-ops w n (map (cut-act e i id) ks) r)
  unfolding do-acts
  draws-add pos e i q id n has num z [] r s h = adds_none w attrs t r s
  draws-add pos e i q id n has num z (k ∷ ks) r s h =
      let a = cut-adds w attrs t v row pos e i q id n has num z k.row k.stretch.tiles k.stretch.alpha r s h in
      let m : length (do-act Row row-ops w n (cut-act e i id k) r).levels ≡ n = a.levels in
      let b = draws-add pos e i q id n has num z ks (do-act Row row-ops w n (cut-act e i id k) r) a.sound (omega arith) in
      let c = adds-both w attrs t a b in
      let one = cut-told w attrs t v row false i q n id e k in
      let more = tell w v row t false i q n id e ks in
      let u : cond (is-empty ks) (length (do-act Row row-ops w n (cut-act e i id k) r).levels) n ≡ n = rw m (same (is-empty ks) n) in
      rw (told-cons w attrs t v row false i q n id e k ks, such-append stays one more, such-append hides-of one more) (rw u at c)
    where
      same : (b : Bool) (n : ℕ) → cond b n n ≡ n
      same true n = refl
      same false n = refl
