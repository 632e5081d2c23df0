-- A reason is the same whether a word that is no standing goes for one that is told or not. Assumes nothing.
use Rattle.std.proofs.Common.{ℕ, zero, suc, ◌≡◌, refl, Bool, true, false, ◌&&◌, not, cond, arith, eqb, leb, ne_eqb, le-leb}
use Rattle.rules_reason.specs.Reasons.{Asked}
use Rattle.tile.specs.Reading.{Mark, Search, is-asked, is-told, anew, found-now, one_more, read, reason-by}
use Rattle.tile.specs.Standings.{plain_standing, plain_mark}

-- every test of a standing
plain_tests : (w : ℕ) → (eqb (plain_standing w) 4 ≡ eqb w 4) × (leb 3 (plain_standing w) ≡ leb 3 w)
    × (eqb (plain_standing w) 0 ≡ eqb w 0) × (eqb (plain_standing w) 1 ≡ eqb w 1) × (eqb (plain_standing w) 2 ≡ eqb w 2)
plain_tests zero = (refl, refl, refl, refl, refl)
plain_tests (suc zero) = (refl, refl, refl, refl, refl)
plain_tests (suc (suc zero)) = (refl, refl, refl, refl, refl)
plain_tests (suc (suc (suc zero))) = (refl, refl, refl, refl, refl)
plain_tests (suc (suc (suc (suc zero)))) = (refl, refl, refl, refl, refl)
plain_tests (suc (suc (suc (suc (suc n))))) =
    let w = suc (suc (suc (suc (suc n)))) in
    rw (ne_eqb w 0 (λ e. omega arith), ne_eqb w 1 (λ e. omega arith), ne_eqb w 2 (λ e. omega arith), ne_eqb w 3 (λ e. omega arith), ne_eqb w 4 (λ e. omega arith), le-leb 3 w (omega arith))
    (refl, refl, refl, refl, refl)

-- a search, its standing read so
abbrev pub plain_search : Search → Search
plain_search s =
    record {
      found = s.found;
      standing = plain_standing s.standing;
      place = s.place;
      hidden = s.hidden;
      count = s.count;
      hider = s.hider;
      panel = s.panel;
    }

-- one more line, by what its tests say: it hides, it is the asked attribute's and the first, it is told
abbrev read_by : Mark → Search → Bool → Bool → Bool → Search
read_by m s h a t =
    let r = cond h (anew m s) s in
    let f = cond (a && not s.found) (found-now m r) r in
    cond t (one_more f) f

read-tests : (q : Asked) (m : Mark) (s : Search) → read q m s ≡ read_by m s (eqb m.standing 4) (is-asked q m) (is-told m)
read-tests q m s = go (eqb m.standing 4)
  where
    go : (h : Bool) → (let r = cond h (anew m s) s in let f = cond (is-asked q m && not r.found) (found-now m r) r in cond (is-told m) (one_more f) f) ≡ read_by m s h (is-asked q m) (is-told m)
    go true = refl
    go false = refl

plain-read_by : (m : Mark) (s : Search) (h a t : Bool) → plain_search (read_by m s h a t) ≡ read_by (plain_mark m) (plain_search s) h a t
plain-read_by m s h a t = go h (a && not s.found) t
  where
    go : (h f t : Bool) → plain_search (let r = cond h (anew m s) s in let k = cond f (found-now m r) r in cond t (one_more k) k)
        ≡ (let r = cond h (anew (plain_mark m) (plain_search s)) (plain_search s) in let k = cond f (found-now (plain_mark m) r) r in cond t (one_more k) k)
    go true true true = refl
    go true true false = refl
    go true false true = refl
    go true false false = refl
    go false true true = refl
    go false true false = refl
    go false false true = refl
    go false false false = refl

pub plain-read : (q : Asked) (m : Mark) (s : Search) → plain_search (read q m s) ≡ read q (plain_mark m) (plain_search s)
plain-read q m s =
    let t = plain_tests m.standing in
    rw (read-tests q m s, read-tests q (plain_mark m) (plain_search s), t.0, t.1) (plain-read_by m s (eqb m.standing 4) (is-asked q m) (is-told m))

pub plain-reason : (s : Search) → reason-by (plain_search s) ≡ reason-by s
plain-reason s = let t = plain_tests s.standing in rw (t.2, t.3, t.4)
