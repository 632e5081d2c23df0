-- A list of recordings gone through one by one, and its table filled.
use Rattle.std.proofs.Common.{◌≡◌, refl, sym, ◌∙◌, ap, ℕ, suc, ◌+◌, ◌*◌, ◌≤◌, ◌<◌, arith, Bool, true, false, ◌&&◌, List, [], ◌∷◌, ◌++◌, append_assoc, append-nil, length, length-append, get_or, take, drop, drop-cons, take_all, leb, ltb, leb-true, lt-ltb, le-ltb, ltb-false, le-leb, le_refl, ne_eqb}
use Rattle.std.proofs.lemmas.List.{take-append-le}
use Rattle.std.proofs.lemmas.Slice.{drop-append-drop}
use lib.ListN.{length-drop}
use borrow.Author.Tests.{lt-leb}
use Rattle.rules.specs.Answers.{answer, Done}
use Rattle.rules.specs.Lists.{slice, join}
use Rattle.rules.specs.Recording.{in-edition}
use Rattle.rules.specs.Setups.{Setup}
use Rattle.sizes.specs.declared.edition.Edition.{Edition}
use Rattle.sizes.specs.declared.answers.Refusal.{Refusal}
use Rattle.sizes.specs.Refusals.{number_of}
use Rattle.sizes.proofs.Refusals.{not_done}
use Rattle.rules.proofs.All.{and_left, and_right}
use Rattle.rules_figures.specs.Figures.{Figures, nothing, plus, total, numbers, table}
use Rattle.cmd.specs.Attrs.{words-at}
use Rattle.screen.specs.declared.lent.Lent.{Lent}
use Rattle.screen.specs.Lent.{SameLent}
use Rattle.screen.specs.Tables.{ScreenLent}
use Rattle.tally.specs.Recordings.{recorded-figures, recorded-left}
use Rattle.tally.specs.Listed.{Listed, good-ends, files-from, files-in, figures-number, Counted, counted-from, Desk, desk, filled, figured}
use Rattle.tally.proofs.OneScreen.{plus-plus, plus-nothing, nothing-plus}

-- The ends from place k on.
module _ (n : ℕ) (es : List ℕ) where
  pub ends-next : (k at : ℕ) → k < length es
      → good-ends at n (drop k es) ≡ (leb at (get_or es k 0) && leb (get_or es k 0) n && good-ends (get_or es k 0) n (drop (suc k) es))
  unfolding good-ends
  ends-next k at h = rw (drop-cons es k 0 h) refl

  pub end-falls : (k at : ℕ) → k < length es → get_or es k 0 < at → good-ends at n (drop k es) ≡ false
  end-falls k at h l = ends-next k at h ∙ rw (lt-leb at (get_or es k 0) l) refl

  pub end-passes : (k at : ℕ) → k < length es → at ≤ get_or es k 0 → n < get_or es k 0 → good-ends at n (drop k es) ≡ false
  end-passes k at h a l = ends-next k at h ∙ rw (le-leb at (get_or es k 0) a, lt-leb (get_or es k 0) n l) refl

  pub end-good : (k at : ℕ) → k < length es → at ≤ get_or es k 0 → get_or es k 0 ≤ n
      → good-ends at n (drop k es) ≡ good-ends (get_or es k 0) n (drop (k + 1) es)
  end-good k at h a l =
      let y : k + 1 ≡ suc k = omega arith in
      ends-next k at h ∙ rw (le-leb at (get_or es k 0) a, le-leb (get_or es k 0) n l, y) refl

  pub ends-done : (k at : ℕ) → length es ≤ k → good-ends at n (drop k es) ≡ true
  unfolding good-ends
  ends-done k at h = rw (gone k h) refl
    where
      gone : (k : ℕ) → length es ≤ k → drop k es ≡ []
      gone k h = none (drop k es) (let d = length-drop k es in omega arith)
        where
          none : (xs : List ℕ) → length xs ≡ 0 → xs ≡ []
          none [] e = refl
          none (x ∷ xs) e = absurd (omega arith)

  -- good ends say where each lies
  pub end-in : (k at : ℕ) → k < length es → good-ends at n (drop k es) ≡ true
      → (at ≤ get_or es k 0) × (get_or es k 0 ≤ n) × (good-ends (get_or es k 0) n (drop (k + 1) es) ≡ true)
  end-in k at h g =
      let e = get_or es k 0 in
      let y : k + 1 ≡ suc k = omega arith in
      let t = sym (ends-next k at h) ∙ g in
      let p = and_left (leb at e && leb e n) (good-ends e n (drop (suc k) es)) t in (
        leb-true at e (and_left (leb at e) (leb e n) p),
        leb-true e n (and_right (leb at e) (leb e n) p),
        rw y (and_right (leb at e && leb e n) (good-ends e n (drop (suc k) es)) t),
      )

-- The number.
module _ (l : Listed) (m : ℕ) where
  pub too-many : 65536 < length l.ends → 4 ≡ figures-number l m
  unfolding figures-number
  too-many h = rw (lt-ltb 65536 (length l.ends) h) refl

  pub bad-ends : length l.ends ≤ 65536 → good-ends 0 (length l.words) l.ends ≡ false → 4 ≡ figures-number l m
  unfolding figures-number
  bad-ends h e = rw (le-ltb 65536 (length l.ends) h, e) refl

  pub no-room : length l.ends ≤ 65536 → good-ends 0 (length l.words) l.ends ≡ true → m < 6 * (length l.ends + 1) → 14 ≡ figures-number l m
  unfolding figures-number
  no-room h e r = rw (le-ltb 65536 (length l.ends) h, e, lt-ltb m (6 * (length l.ends + 1)) r) refl

  pub passes : length l.ends ≤ 65536 → good-ends 0 (length l.words) l.ends ≡ true → 6 * (length l.ends + 1) ≤ m → 0 ≡ figures-number l m
  unfolding figures-number
  passes h e r = rw (le-ltb 65536 (length l.ends) h, e, le-ltb m (6 * (length l.ends + 1)) r) refl

  -- .. and back
  pub record Passed : Type 0 where
    pub few : length l.ends ≤ 65536
    pub good : good-ends 0 (length l.words) l.ends ≡ true
    pub room : 6 * (length l.ends + 1) ≤ m

  pub passed : 0 ≡ figures-number l m → Passed
  unfolding figures-number
  passed h = go (ltb 65536 (length l.ends)) refl (good-ends 0 (length l.words) l.ends) refl (ltb m (6 * (length l.ends + 1))) refl
    where
      some : {A : Type 0} → ◌≡◌ {A = ℕ} 0 4 → A
      some e = absurd (omega arith)

      room-some : {A : Type 0} → ◌≡◌ {A = ℕ} 0 14 → A
      room-some e = absurd (omega arith)

      go : (a : Bool) → ltb 65536 (length l.ends) ≡ a → (b : Bool) → good-ends 0 (length l.words) l.ends ≡ b → (c : Bool) → ltb m (6 * (length l.ends + 1)) ≡ c → Passed
      go true x b y c z = some (rw x at h)
      go false x false y c z = some (rw (x, y) at h)
      go false x true y true z = room-some (rw (x, y, z) at h)
      go false x true y false z = record { few = ltb-false 65536 (length l.ends) x; good = y; room = ltb-false m (6 * (length l.ends + 1)) z }

-- Lines one after the other, and their totals.
numbers-long : (gs : List Figures) → length (join numbers gs) ≡ 6 * length gs
numbers-long [] = refl
numbers-long (g ∷ gs) = length-append (numbers g) (join numbers gs) ∙ (let h = numbers-long gs in omega arith)

join-more : (gs : List Figures) (g : Figures) → join numbers (gs ++ (g ∷ [])) ≡ join numbers gs ++ numbers g
join-more [] g = append-nil (numbers g)
join-more (f ∷ gs) g = ap (λ (ns : List ℕ). numbers f ++ ns) (join-more gs g) ∙ sym (append_assoc (numbers f) (join numbers gs) (numbers g))

pub total-more : (gs : List Figures) (g : Figures) → total (gs ++ (g ∷ [])) ≡ plus (total gs) g
unfolding total
total-more [] g = plus-nothing g ∙ sym (nothing-plus g)
total-more (f ∷ gs) g = ap (plus f) (total-more gs g) ∙ sym (plus-plus f (total gs) g)

-- six numbers put behind others
pub put-behind : (ns ms t : List ℕ) (at : ℕ) → length ns ≡ at → length ms ≡ 6 → at + 6 ≤ length t
    → words-at (ns ++ drop at t) at ms ≡ (ns ++ ms) ++ drop (at + 6) t
put-behind ns ms t at e m h =
    let front : take at (ns ++ drop at t) ≡ ns = rw (sym e) (take-append-le (length ns) ns (drop (length ns) t) (le_refl _) ∙ take_all (length ns) ns (le_refl _)) in
    let back : drop (at + length ms) (ns ++ drop at t) ≡ drop (at + 6) t = rw m (drop-append-drop at t ns (at + 6) (omega arith) e) in
    rw (front, back) refl

-- The recordings before place k are counted: their figures gs.
module _ (e : Edition) (ws : List ℕ) (es : List ℕ) (q : Setup) (l : ScreenLent) (t : List ℕ) where
  abbrev pub whole : Counted
  whole = counted-from q (files-from e ws 0 es) l

  abbrev pub rest-of : ℕ → ℕ → ScreenLent → Counted
  rest-of k at m = counted-from q (files-from e ws at (drop k es)) m

  pub record Going (k at : ℕ) (m : ScreenLent) (sum : Figures) (now : List ℕ) (gs : List Figures) : Type 0 where
    pub count : length gs ≡ k
    pub few : k ≤ length es
    pub good : good-ends at (length ws) (drop k es) ≡ true
    pub figures : gs ++ (rest-of k at m).figures ≡ whole.figures
    pub left : (rest-of k at m).left ≡ whole.left
    pub sum-is : sum ≡ total gs
    pub table-is : now ≡ join numbers gs ++ drop (6 * k) t

  pub at-start : good-ends 0 (length ws) es ≡ true → (sum : Figures) → sum ≡ nothing → Going 0 0 l sum t []
  unfolding total
  at-start g sum n = record { count = refl; few = omega arith; good = g; figures = refl; left = refl; sum-is = n; table-is = refl }

  pub one-more : {k at : ℕ} {m : ScreenLent} {sum : Figures} {now : List ℕ} {gs : List Figures} → Going k at m sum now gs → k < length es → 6 * (length es + 1) ≤ length t
      → (g : Figures) → g ≡ recorded-figures (in-edition e (slice at (get_or es k 0) ws)) q m
      → (u : ScreenLent) → u ≡ recorded-left (in-edition e (slice at (get_or es k 0) ws)) q m
      → (more : Figures) → more ≡ plus sum g → (after : List ℕ) → after ≡ words-at now (6 * k) (numbers g)
      → Going (k + 1) (get_or es k 0) u more after (gs ++ (g ∷ []))
  unfolding counted-from files-from
  one-more {k} {at} {m} {sum} {now} {gs} i h room g ge u ue more me after ae =
      let y : k + 1 ≡ suc k = omega arith in
      let x = get_or es k 0 in
      let f = in-edition e (slice at x ws) in
      let d : drop k es ≡ x ∷ drop (suc k) es = drop-cons es k 0 h in
      let c = i.count in
      let p : length (join numbers gs) ≡ 6 * k = rw (sym c) (numbers-long gs) in
      let step : rest-of k at m ≡ record { figures = g ∷ (rest-of (suc k) x u).figures; left = (rest-of (suc k) x u).left } = rw (d, ge, ue) refl in
      record {
        count = length-append gs (g ∷ []) ∙ omega arith;
        few = omega arith;
        good = (end-in (length ws) es k at h i.good).2;
        figures = rw y (append_assoc gs (g ∷ []) (rest-of (suc k) x u).figures ∙ ap (λ (z : Counted). gs ++ z.figures) (sym step) ∙ i.figures);
        left = rw y (ap (λ (z : Counted). z.left) (sym step) ∙ i.left);
        sum-is = me ∙ ap (λ (z : Figures). plus z g) i.sum-is ∙ sym (total-more gs g);
        table-is =
            let z : 6 * k + 6 ≡ 6 * (k + 1) = omega arith in
            ae
            ∙ ap (λ (z : List ℕ). words-at z (6 * k) (numbers g)) i.table-is
            ∙ put-behind (join numbers gs) (numbers g) t (6 * k) p refl (omega arith)
            ∙ rw (z, join-more gs g) refl;
      }

  pub at-end : {k at : ℕ} {m : ScreenLent} {sum : Figures} {now : List ℕ} {gs : List Figures} → Going k at m sum now gs → length es ≤ k → 6 * (length es + 1) ≤ length t
      → (after : List ℕ) → after ≡ words-at now (6 * length es) (numbers sum) → desk m after ≡ filled whole t
  unfolding counted-from files-from table
  at-end {k} {at} {m} {sum} {now} {gs} i h room after ae =
      let few = i.few in
      let k-is : k ≡ length es = omega arith in
      let c = i.count in
      let gone : drop k es ≡ [] = nothing-left (drop k es) (let d = length-drop k es in omega arith) in
      let end : rest-of k at m ≡ record { figures = []; left = m } = rw gone refl in
      let figs : gs ≡ whole.figures = sym (append-nil gs) ∙ ap (λ (z : Counted). gs ++ z.figures) (sym end) ∙ i.figures in
      let left : m ≡ whole.left = ap (λ (z : Counted). z.left) (sym end) ∙ i.left in
      let p : length (join numbers gs) ≡ 6 * length es = numbers-long gs ∙ omega arith in
      let long : length (join numbers gs ++ numbers (total gs)) ≡ 6 * length es + 6 = length-append (join numbers gs) (numbers (total gs)) ∙ omega arith in
      let tab : after ≡ (join numbers gs ++ numbers (total gs)) ++ drop (6 * length es + 6) t =
      ae
      ∙ ap (λ (z : List ℕ). words-at z (6 * length es) (numbers sum)) (i.table-is ∙ ap (λ (n : ℕ). join numbers gs ++ drop (6 * n) t) k-is)
      ∙ put-behind (join numbers gs) (numbers sum) t (6 * length es) p refl (omega arith)
      ∙ ap (λ (z : Figures). (join numbers gs ++ numbers z) ++ drop (6 * length es + 6) t) i.sum-is in
      ap (λ (z : List ℕ). desk m z) (tab ∙ ap (λ (n : ℕ). (join numbers gs ++ numbers (total gs)) ++ drop n t) (sym long))
      ∙ ap (λ (z : ScreenLent). desk z ((join numbers gs ++ numbers (total gs)) ++ drop (length (join numbers gs ++ numbers (total gs))) t)) left
      ∙ ap (λ (z : List Figures). desk whole.left ((join numbers z ++ numbers (total z)) ++ drop (length (join numbers z ++ numbers (total z))) t)) figs
    where
      nothing-left : (xs : List ℕ) → length xs ≡ 0 → xs ≡ []
      nothing-left [] e = refl
      nothing-left (x ∷ xs) e = absurd (omega arith)

-- the table keeps its length
pub table-long : {e : Edition} {ws es : List ℕ} {q : Setup} {l : ScreenLent} {t : List ℕ} {k at : ℕ} {m : ScreenLent} {sum : Figures} {now : List ℕ} {gs : List Figures}
    → Going e ws es q l t k at m sum now gs → 6 * (length es + 1) ≤ length t → length now ≡ length t
table-long {t = t} {k = k} {gs = gs} i room =
    let c = i.count in
    let few = i.few in
    let p : length (join numbers gs) ≡ 6 * k = numbers-long gs ∙ omega arith in
    let d = length-drop (6 * k) t in
    ap length i.table-is ∙ length-append (join numbers gs) (drop (6 * k) t) ∙ omega arith

-- refused and done
pub refused : (l : Listed) (q : Setup) (k : ScreenLent) (t : List ℕ) (r : Refusal) → number_of r ≡ figures-number l (length t)
    → answer (number_of r) (desk k t) ≡ figured l q k t
unfolding figured
refused l q k t r e = rw (← e, ne_eqb (number_of r) 0 (not_done r)) refl

pub done : (l : Listed) (q : Setup) (k : ScreenLent) (t : List ℕ) (d : Desk) → 0 ≡ figures-number l (length t) → d ≡ filled (counted-from q (files-in l) k) t
    → answer Done d ≡ figured l q k t
unfolding figured
done l q k t d e h = rw (← e) (ap (answer Done) h)

-- the same slices throughout
pub same-self : (a : Lent) → SameLent a a
same-self a =
    record {
      render = refl;
      fills = refl;
      depth = refl;
      minima = refl;
      rows = refl;
      painting = refl;
      layers = refl;
      opacities = refl;
      paint_attrs = refl;
      layer_attrs = refl;
      filter_paints = refl;
      long = refl;
    }

pub same-again : {a b c : Lent} → SameLent a b → SameLent b c → SameLent a c
same-again x y =
    record {
      render = y.render ∙ x.render;
      fills = y.fills ∙ x.fills;
      depth = y.depth ∙ x.depth;
      minima = y.minima ∙ x.minima;
      rows = y.rows ∙ x.rows;
      painting = y.painting ∙ x.painting;
      layers = y.layers ∙ x.layers;
      opacities = y.opacities ∙ x.opacities;
      paint_attrs = y.paint_attrs ∙ x.paint_attrs;
      layer_attrs = y.layer_attrs ∙ x.layer_attrs;
      filter_paints = y.filter_paints ∙ x.filter_paints;
      long = y.long ∙ x.long;
    }
