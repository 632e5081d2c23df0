-- The rows and tiles that a box meets, by two comparisons and by the rules' list of rows.
use Rattle.std.proofs.Common.{ℕ, zero, suc, ◌+◌, ◌-◌, ◌*◌, ◌/◌, ◌≤◌, ◌<◌, arith, ◌≡◌, sym, ◌∙◌, ap, Bool, true, ◌&&◌, leb, eqb, leb-true, leb-false, eqb-true}
use borrow.Author.Tests.{lt-leb, eqb-false}
use Rattle.rules.specs.Lists.{some_of, count-from}
use Rattle.rules.specs.Boxes.{Box, rows_in, meet, to-local, empty-box, span_of}
use Rattle.rules.specs.Spans.{span, covers}
use Rattle.rules.proofs.All.{or_left, or_right, and_left, and_right, and_both}
use Rattle.rules_picture.proofs.Cases.{by, same_test, covers-yes, covers_low, covers_high, covers-no}
use Rattle.rules_reason.specs.Reasons.{meets}
use Rattle.tile.specs.Telling.{in_row, met}

-- a number is among n numbers from a on exactly if it lies between their ends
counted : (r a n : ℕ) → some_of (eqb r) (count-from a n) ≡ covers (span a (a + n)) r
counted r a zero = sym (covers-no (span a (a + 0)) r (λ p q. omega arith))
counted r a (suc n) = by (eqb r a)
    (λ y. let e = eqb-true r a y in rw y (sym (covers-yes (span a (a + suc n)) r (omega arith) (omega arith))))
    (λ m.
    let d = eqb-false r a m in
    rw (m, counted r (suc a) n)
    (same_test (covers (span (suc a) (suc a + n)) r) (covers (span a (a + suc n)) r)
    (λ p.
    let x = covers_low (span (suc a) (suc a + n)) r p in
    let y = covers_high (span (suc a) (suc a + n)) r p in
    covers-yes (span a (a + suc n)) r (omega arith) (omega arith))
    (λ p.
    let x = covers_low (span a (a + suc n)) r p in
    let y = covers_high (span a (a + suc n)) r p in
    covers-yes (span (suc a) (suc a + n)) r (lower x d) (omega arith))))
  where
    lower : a ≤ r → (r ≡ a → ⊥) → suc a ≤ r
    lower x d = by (leb (suc a) r) (λ y. leb-true (suc a) r y) (λ z. let k = leb-false (suc a) r z in absurd (d (omega arith)))

-- the rows of a box
pub rows-met : (b : Box) (r : ℕ) → some_of (eqb r) (rows_in b) ≡ in_row b r
rows-met b r =
    let low = b.y0 / 4 in
    let high = (b.y1 + 3) / 4 in
    counted r low (high - low)
    ∙ same_test (covers (span low (low + (high - low))) r) (covers (span low high) r)
    (λ p.
    let x = covers_low (span low (low + (high - low))) r p in
    let y = covers_high (span low (low + (high - low))) r p in
    covers-yes (span low high) r x (omega arith))
    (λ p.
    let x = covers_low (span low high) r p in
    let y = covers_high (span low high) r p in
    covers-yes (span low (low + (high - low))) r x (omega arith))

-- .. and its tiles
pub tiles-met : (w : ℕ) (v : Box) (row tile : ℕ) (b : Box) (r t : ℕ) → meets w v row tile b r t ≡ met b r t
tiles-met w v row tile b r t = ap (λ (c : Bool). c && covers (span_of b) t) (rows-met b r)

pub row_low : (b : Box) (r : ℕ) → in_row b r ≡ true → b.y0 / 4 ≤ r
row_low b r e = covers_low (span (b.y0 / 4) ((b.y1 + 3) / 4)) r e

pub row-high : (b : Box) (r : ℕ) → in_row b r ≡ true → r < (b.y1 + 3) / 4
row-high b r e = covers_high (span (b.y0 / 4) ((b.y1 + 3) / 4)) r e

pub row-yes : (b : Box) (r : ℕ) → b.y0 / 4 ≤ r → r < (b.y1 + 3) / 4 → in_row b r ≡ true
row-yes b r p q = covers-yes (span (b.y0 / 4) ((b.y1 + 3) / 4)) r p q

-- a box that starts no earlier and ends no later
pub record Within (a b : Box) : Type 0 where
  pub top : b.y0 ≤ a.y0
  pub bottom : a.y1 ≤ b.y1

pub within-row : (a b : Box) (r : ℕ) → Within a b → in_row a r ≡ true → in_row b r ≡ true
within-row a b r h e =
    let x = row_low a r e in
    let y = row-high a r e in
    let p = h.top in
    let q = h.bottom in
    row-yes b r (omega arith) (omega arith)

pub meet_within : (a b : Box) → Within (meet a b) b
meet_within a b = record { top = omega arith; bottom = omega arith }

-- the tiles of a box that isn't empty
record Spanned (b : Box) (t : ℕ) : Type 0 where
  across : b.x0 < b.x1
  down : b.y0 < b.y1
  low : b.x0 / 4 ≤ t
  high : t < b.x1 / 4

spanned : (b : Box) (t : ℕ) → covers (span_of b) t ≡ true → Spanned b t
unfolding span_of
spanned b t e = by (empty-box b)
    (λ y.
    let k : covers (span (b.x0 / 4) (b.x0 / 4)) t ≡ true = rw y at e in
    let p = covers_low (span (b.x0 / 4) (b.x0 / 4)) t k in
    let q = covers_high (span (b.x0 / 4) (b.x0 / 4)) t k in
    absurd (omega arith))
    (λ n.
    let k : covers (span (b.x0 / 4) (b.x1 / 4)) t ≡ true = rw n at e in
    record {
      across = leb-false b.x1 b.x0 (or_left _ _ n);
      down = leb-false b.y1 b.y0 (or_right (leb b.x1 b.x0) _ n);
      low = covers_low (span (b.x0 / 4) (b.x1 / 4)) t k;
      high = covers_high (span (b.x0 / 4) (b.x1 / 4)) t k;
    })

covered-by : (b : Box) (t : ℕ) → Spanned b t → covers (span_of b) t ≡ true
unfolding span_of
covered-by b t s =
    let p = s.across in
    let q = s.down in
    rw (lt-leb b.x1 b.x0 p, lt-leb b.y1 b.y0 q) (covers-yes (span (b.x0 / 4) (b.x1 / 4)) t s.low s.high)

-- a box whose start is a multiple of 4
pub record Even (v : Box) : Type 0 where
  pub left : v.x0 ≡ v.x0 / 4 * 4
  pub top : v.y0 ≡ v.y0 / 4 * 4

-- what a dest box made local to v and met with a clip box has of a tile, the dest box has of it in the scene
pub meets-scene : (v c d : Box) (r t : ℕ) → Even v → met (meet (to-local v d) c) r t ≡ true → met d (r + v.y0 / 4) (t + v.x0 / 4) ≡ true
meets-scene v c d r t ev e =
    let b = meet (to-local v d) c in
    let x = row_low b r (and_left _ _ e) in
    let y = row-high b r (and_left _ _ e) in
    let s = spanned b t (and_right (in_row b r) _ e) in
    let p = s.across in
    let q = s.down in
    let l = s.low in
    let h = s.high in
    let ex = ev.left in
    let ey = ev.top in
    and_both _ _
    (row-yes d (r + v.y0 / 4) (omega arith) (omega arith))
    (covered-by d (t + v.x0 / 4) (record { across = omega arith; down = omega arith; low = omega arith; high = omega arith }))
