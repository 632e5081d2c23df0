-- The call on a canvas: it answers the same once more, and each row painted by turns gives what it gave before.
use Rattle.std.proofs.Common.{ℕ, zero, suc, ◌<◌, arith, ◌≡◌, refl, sym, ◌∙◌, ap, true, false, List, [], ◌∷◌, length, length-set, set, get_or, get_or-set_same, get_or-set_other, eqb, eqb-true}
use borrow.Author.Tests.{leb-false, lt-leb, eqb-false}
use Rattle.rules.specs.Lists.{is-empty}
use Rattle.rules.specs.Answers.{Answer, Done, BadRun, Open}
use Rattle.rules.specs.Rows.{Row, fresh-row}
use Rattle.rules.specs.Plans.{bucket, buckets-across}
use Rattle.rules.specs.Steps.{Screen}
use Rattle.rules.specs.Painting.{paint-row}
use Rattle.rules.specs.Calls.{Canvas, no_row}
use Rattle.rules.specs.Compacted.{compact, compact-screen, compact-call}
use Rattle.rules.proofs.All.{never}
use Rattle.rules_picture.specs.Compacted.{Compacted-gives, Twice-called}
use Rattle.rules_picture.proofs.Cases.{by}
use Rattle.rules_picture.proofs.Compacted.{twice-once}
use Rattle.rules_picture.proofs.CompactedPieces.{compacted-same}
use Rattle.rules_picture.proofs.Recorded.{begin-done}
use Rattle.rules_picture.proofs.Turns.{finished-gave}

-- what a done call has found, and what it leaves
pub record Compacts (i : ℕ) (k : Canvas) : Type 0 where
  pub there : i < length k.screen.rows
  pub closed : k.screen.state.layers ≡ []
  pub left : compact-call i k ≡ record { number = Done; value = record { screen = compact-screen i k.screen; begun = false; painters = k.painters } }

none-in : {A : Type 0} (xs : List A) → is-empty xs ≡ true → xs ≡ []
none-in [] e = refl
none-in (x ∷ xs) e = never (sym e)

pub compacts : (i : ℕ) (k : Canvas) → (compact-call i k).number ≡ Done → Compacts i k
unfolding compact-call
compacts i k e = by (no_row k i)
    (λ y. let z : ◌≡◌ {A = ℕ} BadRun Done = rw y at e in absurd (omega arith))
    (λ n. by (is-empty k.screen.state.layers)
    (λ y. record { there = leb-false (length k.screen.rows) i n; closed = none-in k.screen.state.layers y; left = rw (n, y) })
    (λ m. let z : ◌≡◌ {A = ℕ} Open Done = rw (n, m) at e in absurd (omega arith)))

-- a row written twice is the row written last
set-twice : {A : Type 0} (xs : List A) (i : ℕ) (x y : A) → set (set xs i x) i y ≡ set xs i y
set-twice [] i x y = refl
set-twice (z ∷ xs) zero x y = refl
set-twice {A = A} (z ∷ xs) (suc i) x y = ap (λ (ys : List A). z ∷ ys) (set-twice xs i x y)

screen-twice : (i : ℕ) (s : Screen Row) → i < length s.rows → compact-screen i (compact-screen i s) ≡ compact-screen i s
screen-twice i s h =
    let w = bucket s.state.frame in
    let n = buckets-across s.state.frame in
    let r = get_or s.rows i fresh-row in
    let q = compact w n s.state.attrs r in
    let at : get_or (set s.rows i q) i fresh-row ≡ q = get_or-set_same s.rows i q fresh-row h in
    let rows : set (set s.rows i q) i (compact w n s.state.attrs (get_or (set s.rows i q) i fresh-row)) ≡ set s.rows i q =
    set-twice s.rows i q (compact w n s.state.attrs (get_or (set s.rows i q) i fresh-row))
    ∙ ap (λ (x : Row). set s.rows i (compact w n s.state.attrs x)) at
    ∙ ap (set s.rows i) (twice-once w n s.state.attrs r) in
    ap (λ (xs : List Row). record { state = s.state; rows = xs }) rows

-- where the row is there and no layer is open, it is done
call-compacts : (i : ℕ) (k : Canvas) → i < length k.screen.rows → k.screen.state.layers ≡ []
    → compact-call i k ≡ record { number = Done; value = record { screen = compact-screen i k.screen; begun = false; painters = k.painters } }
unfolding compact-call
call-compacts i k h e = let n = lt-leb (length k.screen.rows) i h in rw (n, e)

pub twice-called : Twice-called
twice-called i k e =
    let c = compacts i k e in
    let t : Canvas = record { screen = compact-screen i k.screen; begun = false; painters = k.painters } in
    ap (λ (x : Answer Canvas). compact-call i x.value) c.left ∙ call-compacts i t (rw (length-set k.screen.rows i (compact (bucket k.screen.state.frame) (buckets-across k.screen.state.frame) k.screen.state.attrs (get_or k.screen.rows i fresh-row))) c.there) c.closed
    ∙ ap (λ (s : Screen Row). record { number = Done; value = record { screen = s; begun = false; painters = k.painters } }) (screen-twice i k.screen c.there)
    ∙ sym c.left

-- a row of the compacted screen, painted to its end
row-same : (i : ℕ) (s : Screen Row) → i < length s.rows → (r : ℕ)
    → paint-row (bucket s.state.frame) s.state.attrs (buckets-across s.state.frame) (get_or (compact-screen i s).rows r fresh-row)
    ≡ paint-row (bucket s.state.frame) s.state.attrs (buckets-across s.state.frame) (get_or s.rows r fresh-row)
row-same i s h r =
    let w = bucket s.state.frame in
    let n = buckets-across s.state.frame in
    let q = compact w n s.state.attrs (get_or s.rows i fresh-row) in
    by (eqb r i)
    (λ y.
    let e = eqb-true r i y in
    rw e (ap (paint-row w s.state.attrs n) (get_or-set_same s.rows i q fresh-row h) ∙ compacted-same w n s.state.attrs (get_or s.rows i fresh-row)))
    (λ m. ap (paint-row w s.state.attrs n) (get_or-set_other s.rows i r q fresh-row (eqb-false r i m)))

pub compacted-gives : Compacted-gives
compacted-gives i k e ts us r h f g =
    let c = compacts i k e in
    let t : Canvas = record { screen = compact-screen i k.screen; begun = false; painters = k.painters } in
    let same : (compact-call i k).value ≡ t = ap (λ (x : Answer Canvas). x.value) c.left in
    let q = compact (bucket k.screen.state.frame) (buckets-across k.screen.state.frame) k.screen.state.attrs (get_or k.screen.rows i fresh-row) in
    let there : r < length t.screen.rows = rw (length-set k.screen.rows i q) h in
    rw same
    (finished-gave us t r (begin-done t c.closed) there (rw same at g)
    ∙ row-same i k.screen c.there r
    ∙ sym (finished-gave ts k r (begin-done k c.closed) h f))
