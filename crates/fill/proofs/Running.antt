-- A judge may look at each count as the puts run, and need not look back: counts never fall. Assumes nothing.
use Rattle.std.proofs.Common.{◌≡◌, refl, sym, ap, ◌∙◌, Bool, true, false, ◌||◌, List, [], ◌∷◌, ℕ, zero, suc, ◌≤◌, arith, ltb, eqb, get_or, ltb-false, le-ltb, eqb-true}
use Rattle.std.proofs.lemmas.Bool.Decides.{nat_tests}
use Rattle.rules.specs.Lists.{some_of, change}
use Rattle.rules.specs.Plans.{Put}
use Rattle.rules.specs.Steps.{do-puts, row-passes, passes}
use Rattle.rules.proofs.All.{All, cons, never, neither, all_map}
use Rattle.rules.proofs.laws.Changes.{change-at, puts-on, untouched}
use Rattle.sizes.specs.Widths.{bucket-tiles}
use Rattle.row.specs.Words.{Words, word-ops, Grown}
use Rattle.row.specs.Acts.{acted}
use Rattle.row.proofs.ActsLaws.{acted-sound}
use Rattle.row.specs.Arena.{nowhere}
use Rattle.row.proofs.CountsLaws.{Sane}
use Rattle.fill.specs.declared.rows.FillJob.{FillJob}
use Rattle.fill.specs.Filling.{done}
use Rattle.fill.proofs.RowsLaws.{done-sound}

-- a count f of row x passes c
abbrev pub full_at : (Words → ℕ) → ℕ → List Words → ℕ → Bool
full_at f c rs x = ltb c (f (get_or rs x nowhere))

-- some row's count passes c after its put, as the puts run
abbrev pub running : FillJob → (Words → ℕ) → ℕ → List Put → List Words → Bool
running j f c [] rs = false
running j f c (p ∷ ps) rs = full_at f c (change (acted (bucket-tiles j.width) j.layers p.act) p.row rs) p.row || running j f c ps (change (acted (bucket-tiles j.width) j.layers p.act) p.row rs)

-- each row that is put on has a record that can be counted
abbrev pub SaneAt : List Words → Put → Type 0
SaneAt rs p = Sane (get_or rs p.row nowhere)

same_or : (a b y : Bool) → (y ≡ false → a ≡ b) → (a || y) ≡ (b || y)
same_or a b y h = grind (arith, nat_tests)

-- a put anywhere leaves a record that can be counted so
pub sane-after : (j : FillJob) (p : Put) (rs : List Words) (x : ℕ) → j.layers ≤ 16 → Sane (get_or rs x nowhere) → Sane (get_or (change (acted (bucket-tiles j.width) j.layers p.act) p.row rs) x nowhere)
sane-after j p rs x m s =
    change-at Sane (acted (bucket-tiles j.width) j.layers p.act) p.row x rs nowhere s
    (let t = acted-sound (bucket-tiles j.width) j.layers (get_or rs x nowhere) s.state s.levels m p.act in record { state = t.grown.state ∙ s.state; levels = t.levels })

module _ (j : FillJob) (m : j.layers ≤ 16) (f : Words → ℕ) (c : ℕ) where
  not_full : (x : ℕ) (ts : List Words) (ps : List Put) → puts-on x ps ≡ true → some_of (λ (p : Put). full_at f c ts p.row) ps ≡ false → full_at f c ts x ≡ false
  unfolding puts-on
  not_full x ts [] h g = never (sym h)
  not_full x ts (p ∷ ps) h g =
      let n = neither (full_at f c ts p.row) (some_of (λ (p : Put). full_at f c ts p.row) ps) g in
      go (eqb p.row x) refl n.0 (not_full x ts ps) h n.1
    where
      go : (b : Bool) → eqb p.row x ≡ b → full_at f c ts p.row ≡ false
          → (some_of (λ (p : Put). eqb p.row x) ps ≡ true → some_of (λ (p : Put). full_at f c ts p.row) ps ≡ false → full_at f c ts x ≡ false)
          → (b || some_of (λ (p : Put). eqb p.row x) ps) ≡ true → some_of (λ (p : Put). full_at f c ts p.row) ps ≡ false → full_at f c ts x ≡ false
      go true e a k t g = rw (eqb-true p.row x e) at a
      go false e a k t g = k t g

  module _ (up : (u v : Words) → Grown u v → f u ≤ f v) where
    still : (x : ℕ) (ps : List Put) (us : List Words) → Sane (get_or us x nowhere) → (t : Bool) → puts-on x ps ≡ t
        → some_of (λ (q : Put). full_at f c (done j ps us) q.row) ps ≡ false → full_at f c (done j ps us) x ≡ full_at f c us x
    still x ps us s true e y =
        let a = not_full x (done j ps us) ps e y in
        let g = done-sound j m ps us x s.state s.levels in
        a ∙ sym (le-ltb c (f (get_or us x nowhere)) (omega (arith, ltb-false c (f (get_or (done j ps us) x nowhere)) a, up _ _ g.grown)))
    still x ps us s false e y = ap (λ (w : Words). ltb c (f w)) (untouched Words word-ops (bucket-tiles j.width) j.layers x nowhere ps us e)

    pub runs : (ps : List Put) (rs : List Words) → All (SaneAt rs) ps → some_of (λ (p : Put). full_at f c (done j ps rs) p.row) ps ≡ running j f c ps rs
    unfolding do-puts
    runs [] rs a = refl
    runs (p ∷ ps) rs (cons s a) =
        let us = change (acted (bucket-tiles j.width) j.layers p.act) p.row rs in
        let rest = runs ps (change (acted (bucket-tiles j.width) j.layers p.act) p.row rs) (all_map (λ q t. sane-after j p rs q.row m t) a) in
        rw (← rest)
        (same_or (full_at f c (done j ps us) p.row) (full_at f c us p.row) (some_of (λ (q : Put). full_at f c (done j ps us) q.row) ps)
        (λ y. still p.row ps us (sane-after j p rs p.row m s) (puts-on p.row ps) refl y))

  module _ (z : f nowhere ≡ 0) where
    row-full : (i : ℕ) (rs : List Words) → row-passes Words word-ops f c i rs ≡ full_at f c rs i
    row-full zero [] = rw z (sym (le-ltb c 0 (omega arith)))
    row-full (suc i) [] = rw z (sym (le-ltb c 0 (omega arith)))
    row-full zero (r ∷ rs) = refl
    row-full (suc i) (r ∷ rs) = row-full i rs

    -- the rules' test, row by row
    pub passes-are : (ps : List Put) (rs : List Words) → passes Words word-ops f c ps rs ≡ some_of (λ (p : Put). full_at f c rs p.row) ps
    unfolding passes
    passes-are [] rs = refl
    passes-are (p ∷ ps) rs = rw (row-full p.row rs, passes-are ps rs)
