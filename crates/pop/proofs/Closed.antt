-- What closing LayerFills and PopBufs do to each row, and when they pass its room. Assumes nothing.
use Rattle.std.proofs.Common.{◌≡◌, refl, sym, ap, ◌∙◌, Bool, true, false, ◌||◌, cond, List, [], ◌∷◌, ◌++◌, map, Option, ℕ, zero, suc, ◌+◌, ◌≤◌, ◌<◌, arith, ltb, eqb, length, eq-eqb, ne_eqb, eqb-true, le-ltb}
use borrow.Author.Tests.{eqb-false}
use Rattle.rules.specs.Lists.{some_of, keep, change, count-from}
use Rattle.rules.specs.Spans.{Span}
use Rattle.rules.specs.Commands.{Command, layer-fill}
use Rattle.rules.specs.Plans.{Act, close, pop, Put, on}
use Rattle.rules.specs.Steps.{do-act, do-puts, row-passes, passes}
use Rattle.rules.proofs.All.{All, nil, cons, all_map, never}
use Rattle.rules.proofs.laws.Changes.{change-length, change-same, change-else}
use Rattle.row.specs.Words.{Words, word, put_command, ended, end_buf, word-ops, Ends}
use Rattle.row.proofs.WordsLaws.{cmd-renders, cmd-depths, cmd-levels, cmd-ends, cmd-grown, ended-renders, ended-depths, ended-level, end-grown}
use Rattle.row.specs.Arena.{nowhere}
use Rattle.row.specs.Acts.{acted}
use Rattle.pop.specs.Closing.{row_of, touched-in, done-puts}
use Rattle.pop.proofs.Touched.{below, some-other}

-- every row has its record's words
abbrev pub Records : List Words → Type 0
Records rs = (x : ℕ) → x < length rs → length (row_of rs x).state ≡ 54

-- how many puts are on row x
unfoldable pub count-on : ℕ → List Put → ℕ
count-on x [] = 0
count-on x (p ∷ ps) = cond (eqb p.row x) 1 0 + count-on x ps

-- a row after k LayerFills, and after k PopBufs
pub record Closed (k : ℕ) (w w' : Words) : Type 0 where
  pub renders : word 0 w' ≡ word 0 w + k
  pub depths : word 1 w' ≡ word 1 w
  pub levels : word 5 w' ≡ word 5 w
  pub ends : Ends w → Ends w'
  pub state : length w'.state ≡ length w.state

pub record Popped (k : ℕ) (w w' : Words) : Type 0 where
  pub renders : word 0 w' ≡ word 0 w + k
  pub depths : word 1 w' ≡ word 1 w
  pub levels : word 5 w' + k ≡ word 5 w
  pub state : length w'.state ≡ length w.state

closed_none : (w : Words) → Closed 0 w w
closed_none w = record { renders = omega arith; depths = refl; levels = refl; ends = λ e. e; state = refl }

closed-one : (w : Words) → length w.state ≡ 54 → (c : Command) → Closed 1 w (put_command c w)
closed-one w l c =
    record { renders = cmd-renders w l c; depths = cmd-depths w l c; levels = cmd-levels w l c; ends = cmd-ends w l c; state = (cmd-grown w l c).state }

closed-more : (j k : ℕ) {u v w : Words} → Closed j u v → Closed k v w → Closed (j + k) u w
closed-more j k p q =
    record {
      renders = omega (arith, p.renders, q.renders);
      depths = q.depths ∙ p.depths;
      levels = q.levels ∙ p.levels;
      ends = λ e. q.ends (p.ends e);
      state = q.state ∙ p.state;
    }

popped-none : (w : Words) → Popped 0 w w
popped-none w = record { renders = omega arith; depths = refl; levels = omega arith; state = refl }

ends_at : (w : Words) → 1 ≤ word 5 w → end_buf w ≡ ended w
unfolding end_buf
ends_at w h = rw (ne_eqb (word 5 w) 0 (λ (z : word 5 w ≡ 0). omega arith))

popped-one : (w : Words) → length w.state ≡ 54 → 1 ≤ word 5 w → Popped 1 w (end_buf w)
popped-one w l h =
    let e = ends_at w h in
    record {
      renders = ap (word 0) e ∙ ended-renders w l;
      depths = ap (word 1) e ∙ ended-depths w l;
      levels = omega (arith, ap (word 5) e, ended-level w l);
      state = (end-grown w l).state;
    }

popped-more : (j k : ℕ) {u v w : Words} → Popped j u v → Popped k v w → Popped (j + k) u w
popped-more j k p q =
    record {
      renders = omega (arith, p.renders, q.renders);
      depths = q.depths ∙ p.depths;
      levels = omega (arith, p.levels, q.levels);
      state = q.state ∙ p.state;
    }

-- one row changed
module _ (r x : ℕ) (rs : List Words) (h : r < length rs) (l : Records rs) where
  one-close : (c : Command) → Closed (cond (eqb r x) 1 0) (row_of rs x) (row_of (change (put_command c) r rs) x)
  one-close c = go (eqb r x) refl
    where
      go : (t : Bool) → eqb r x ≡ t → Closed (cond t 1 0) (row_of rs x) (row_of (change (put_command c) r rs) x)
      go true e =
          let i : r ≡ x = eqb-true r x e in
          rw (← i) (rw (change-same (put_command c) r rs nowhere h) (closed-one (row_of rs r) (l r h) c))
      go false e = rw (change-else (put_command c) r x rs nowhere (eqb-false r x e)) (closed_none (row_of rs x))

  one-pop : cond (eqb r x) 1 0 ≤ word 5 (row_of rs x) → Popped (cond (eqb r x) 1 0) (row_of rs x) (row_of (change end_buf r rs) x)
  one-pop = go (eqb r x) refl
    where
      go : (t : Bool) → eqb r x ≡ t → cond t 1 0 ≤ word 5 (row_of rs x) → Popped (cond t 1 0) (row_of rs x) (row_of (change end_buf r rs) x)
      go true e g =
          let i : r ≡ x = eqb-true r x e in
          let k : 1 ≤ word 5 (row_of rs r) = rw i g in
          rw (← i) (rw (change-same end_buf r rs nowhere h) (popped-one (row_of rs r) (l r h) k))
      go false e g = rw (change-else end_buf r x rs nowhere (eqb-false r x e)) (popped-none (row_of rs x))

-- a closing LayerFill on one of l rows
pub data Closing : Act → Type 0 where
  closing : {s : Span} {a : Option ℕ} {i : ℕ} → Closing (close s a i)

pub record Close (l : ℕ) (p : Put) : Type 0 where
  pub row : p.row < l
  pub act : Closing p.act

module _ (v m : ℕ) where
  act-close : {t : Act} → Closing t → (r x : ℕ) (rs : List Words) → r < length rs → Records rs
      → Closed (cond (eqb r x) 1 0) (row_of rs x) (row_of (change (acted v m t) r rs) x)
  unfolding do-act
  act-close (closing {s} {a} {i}) r x rs h l = one-close r x rs h l (layer-fill s a i)

  pub close-records : {t : Act} → Closing t → (r : ℕ) (rs : List Words) → r < length rs → Records rs → Records (change (acted v m t) r rs)
  close-records {t} k r rs h l x g =
      (act-close k r x rs h l).state ∙ l x (rw (change-length (acted v m t) r rs) at g)

  pub closes-row : (ps : List Put) (rs : List Words) → All (Close (length rs)) ps → Records rs → (x : ℕ) → Closed (count-on x ps) (row_of rs x) (row_of (done-puts v m ps rs) x)
  unfolding do-puts count-on
  closes-row [] rs nil l x = closed_none (row_of rs x)
  closes-row (p ∷ ps) rs (cons q qs) l x =
      closed-more (cond (eqb p.row x) 1 0) (count-on x ps) (act-close q.act p.row x rs q.row l)
      (closes-row ps (change (acted v m p.act) p.row rs) (rw (change-length (acted v m p.act) p.row rs) qs) (close-records q.act p.row rs q.row l) x)

  pub closes-records : (ps : List Put) (rs : List Words) → All (Close (length rs)) ps → Records rs → Records (done-puts v m ps rs)
  unfolding do-puts
  closes-records [] rs nil l = l
  closes-records (p ∷ ps) rs (cons q qs) l =
      closes-records ps (change (acted v m p.act) p.row rs) (rw (change-length (acted v m p.act) p.row rs) qs) (close-records q.act p.row rs q.row l)

  -- one row popped; levels of other rows stay
  pop-records : (r : ℕ) (rs : List Words) → r < length rs → Records rs → Records (change (acted v m pop) r rs)
  unfolding do-act
  pop-records r rs h l x g = go (eqb r x) refl
    where
      k : x < length rs
      k = rw (change-length end_buf r rs) at g

      go : (t : Bool) → eqb r x ≡ t → length (row_of (change end_buf r rs) x).state ≡ 54
      go true e = let i : r ≡ x = eqb-true r x e in rw (← i) (rw (change-same end_buf r rs nowhere h) ((end-grown (row_of rs r) (l r h)).state ∙ l r h))
      go false e = rw (change-else end_buf r x rs nowhere (eqb-false r x e)) (l x k)

  act-pop : (r x : ℕ) (rs : List Words) → r < length rs → Records rs → cond (eqb r x) 1 0 ≤ word 5 (row_of rs x)
      → Popped (cond (eqb r x) 1 0) (row_of rs x) (row_of (change (acted v m pop) r rs) x)
  unfolding do-act
  act-pop r x rs h l g = one-pop r x rs h l g

  pub pops-row : (is : List ℕ) (rs : List Words) → All (λ (r : ℕ). r < length rs) is → Records rs → (x : ℕ) → count-on x (map (on pop) is) ≤ word 5 (row_of rs x)
      → Popped (count-on x (map (on pop) is)) (row_of rs x) (row_of (done-puts v m (map (on pop) is) rs) x)
  unfolding do-puts count-on
  pops-row [] rs nil l x g = popped-none (row_of rs x)
  pops-row (r ∷ is) rs (cons q qs) l x g =
      let p : Popped (cond (eqb r x) 1 0) (row_of rs x) (row_of (change (acted v m pop) r rs) x) = act-pop r x rs q l (omega (arith, g)) in
      popped-more (cond (eqb r x) 1 0) (count-on x (map (on pop) is)) p
      (pops-row is (change (acted v m pop) r rs) (rw (change-length (acted v m pop) r rs) qs) (pop-records r rs q l) x (omega (arith, g, p.levels)))

-- a row among touched rows is put on once
module _ (t : Act) (n : ℕ) (rs : List Words) where
  put_other : (x i : ℕ) (k : Bool) (l : List ℕ) → (x ≡ i → ⊥) → count-on x (map (on t) (keep k i l)) ≡ count-on x (map (on t) l)
  unfolding count-on
  put_other x i true l h = rw (ne_eqb i x (λ (e : i ≡ x). h (sym e))) (omega arith)
  put_other x i false l h = refl

  put-here : (x i : ℕ) (k : Bool) (l : List ℕ) → x ≡ i → some_of (eqb x) l ≡ false → count-on x (map (on t) l) ≡ 0
      → count-on x (map (on t) (keep k i l)) ≡ cond (some_of (eqb x) (keep k i l)) 1 0
  unfolding count-on
  put-here x i true l e s z = rw (eq-eqb x i e, eq-eqb i x (sym e), z)
  put-here x i false l e s z = rw (s, z)

  count-below : (k a x : ℕ) → x < a → count-on x (map (on t) (touched-in n rs (count-from a k))) ≡ 0
  unfolding touched-in count-on
  count-below zero a x h = refl
  count-below (suc k) a x h =
      put_other x a (eqb (word 5 (row_of rs a)) n) (touched-in n rs (count-from (suc a) k)) (λ (e : x ≡ a). omega arith) ∙ count-below k (suc a) x (omega arith)

  pub count-touched : (k a x : ℕ) → count-on x (map (on t) (touched-in n rs (count-from a k))) ≡ cond (some_of (eqb x) (touched-in n rs (count-from a k))) 1 0
  unfolding touched-in count-on
  count-touched zero a x = refl
  count-touched (suc k) a x = go (eqb x a) refl (count-touched k (suc a) x)
    where
      go : (b : Bool) → eqb x a ≡ b
          → count-on x (map (on t) (touched-in n rs (count-from (suc a) k))) ≡ cond (some_of (eqb x) (touched-in n rs (count-from (suc a) k))) 1 0
          → count-on x (map (on t) (keep (eqb (word 5 (row_of rs a)) n) a (touched-in n rs (count-from (suc a) k))))
          ≡ cond (some_of (eqb x) (keep (eqb (word 5 (row_of rs a)) n) a (touched-in n rs (count-from (suc a) k)))) 1 0
      go true e f =
          let i : x ≡ a = eqb-true x a e in
          put-here x a (eqb (word 5 (row_of rs a)) n) (touched-in n rs (count-from (suc a) k)) i (below n rs k (suc a) x (omega arith)) (count-below k (suc a) x (omega arith))
      go false e f =
          let i : x ≡ a → ⊥ = eqb-false x a e in
          put_other x a (eqb (word 5 (row_of rs a)) n) (touched-in n rs (count-from (suc a) k)) i ∙ f
          ∙ ap (λ (b : Bool). cond b 1 0) (sym (some-other n rs x a (eqb (word 5 (row_of rs a)) n) (touched-in n rs (count-from (suc a) k)) i))

or-true : (b : Bool) → (b || true) ≡ true
or-true true = refl
or-true false = refl

-- every element is found
pub members : (xs : List ℕ) → All (λ (x : ℕ). some_of (eqb x) xs ≡ true) xs
members [] = nil
members (x ∷ xs) =
    let h : some_of (eqb x) (x ∷ xs) ≡ true = rw (eq-eqb x x refl) in
    cons h (all_map (λ (y : ℕ) (e : some_of (eqb y) xs ≡ true). found y e) (members xs))
  where
    found : (y : ℕ) → some_of (eqb y) xs ≡ true → some_of (eqb y) (x ∷ xs) ≡ true
    found y e = rw e (or-true (eqb y x))

-- a test of some element
some-append : {A : Type 0} (p : A → Bool) (xs ys : List A) → some_of p (xs ++ ys) ≡ (some_of p xs || some_of p ys)
some-append p [] ys = refl
some-append p (x ∷ xs) ys = ap (λ (b : Bool). p x || b) (some-append p xs ys) ∙ assoc (p x) (some_of p xs) (some_of p ys)
  where
    assoc : (a b c : Bool) → (a || (b || c)) ≡ ((a || b) || c)
    assoc true b c = refl
    assoc false b c = refl

pub some-equal : {A : Type 0} (p q : A → Bool) {xs : List A} → All (λ (x : A). p x ≡ q x) xs → some_of p xs ≡ some_of q xs
some-equal p q nil = refl
some-equal p q (cons {x} {xs} e es) = rw (e, some-equal p q es)

module _ (g : ℕ → Bool) where
  some-on : (t : Act) (xs : List ℕ) → some_of (λ (p : Put). g p.row) (map (on t) xs) ≡ some_of g xs
  some-on t [] = refl
  some-on t (x ∷ xs) = ap (λ (b : Bool). g x || b) (some-on t xs)

  pub found_some : (x : ℕ) (xs : List ℕ) → some_of (eqb x) xs ≡ true → g x ≡ true → some_of g xs ≡ true
  found_some x [] h e = never (sym h)
  found_some x (y ∷ ys) h e = go (eqb x y) refl h (λ i. found_some x ys i e)
    where
      go : (b : Bool) → eqb x y ≡ b → (b || some_of (eqb x) ys) ≡ true → (some_of (eqb x) ys ≡ true → some_of g ys ≡ true) → (g y || some_of g ys) ≡ true
      go true i k f = let z : x ≡ y = eqb-true x y i in rw (← z) (rw e)
      go false i k f = rw (f k) (or-true (g y))

  absorbed : (xs : List ℕ) {ps : List Put} → All (λ (p : Put). some_of (eqb p.row) xs ≡ true) ps → (some_of (λ (p : Put). g p.row) ps || some_of g xs) ≡ some_of g xs
  absorbed xs nil = refl
  absorbed xs (cons {x = p} {xs = ps} h hs) = go (g p.row) refl (absorbed xs hs)
    where
      go : (b : Bool) → g p.row ≡ b → (some_of (λ (p : Put). g p.row) ps || some_of g xs) ≡ some_of g xs → ((b || some_of (λ (p : Put). g p.row) ps) || some_of g xs) ≡ some_of g xs
      go true e f = sym (found_some p.row xs h e)
      go false e f = f

-- a count that passes c on a row
module _ (count : Words → ℕ) (z : count nowhere ≡ 0) (c : ℕ) where
  row-passes-is : (i : ℕ) (rs : List Words) → row-passes Words word-ops count c i rs ≡ ltb c (count (row_of rs i))
  row-passes-is i [] = rw z (sym (le-ltb c 0 (omega arith)))
  row-passes-is zero (r ∷ rs) = refl
  row-passes-is (suc i) (r ∷ rs) = row-passes-is i rs

  passes-is : (ps : List Put) (rs : List Words) → passes Words word-ops count c ps rs ≡ some_of (λ (p : Put). ltb c (count (row_of rs p.row))) ps
  unfolding passes
  passes-is [] rs = refl
  passes-is (p ∷ ps) rs = rw (row-passes-is p.row rs, passes-is ps rs)

  -- puts in touched rows, and one more in each
  pub passes-touched : (t : Act) (xs : List ℕ) (rs : List Words) (ps : List Put) → All (λ (p : Put). some_of (eqb p.row) xs ≡ true) ps
      → passes Words word-ops count c (ps ++ map (on t) xs) rs ≡ some_of (λ (x : ℕ). ltb c (count (row_of rs x))) xs
  passes-touched t xs rs ps a =
      passes-is (ps ++ map (on t) xs) rs
      ∙ some-append (λ (p : Put). ltb c (count (row_of rs p.row))) ps (map (on t) xs)
      ∙ ap (λ (b : Bool). some_of (λ (p : Put). ltb c (count (row_of rs p.row))) ps || b) (some-on (λ (x : ℕ). ltb c (count (row_of rs x))) t xs)
      ∙ absorbed (λ (x : ℕ). ltb c (count (row_of rs x))) xs a
