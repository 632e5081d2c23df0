-- A row compacted in its place among the words of all rows.
use Rattle.std.proofs.Common.{◌≡◌, refl, ap, ℕ, ◌-◌, ◌*◌, arith, List, take, drop, ne_eqb, Option, None, Some, Result, Ok, Err}
use borrow.Rule.Slice.PartMut.{put_mid, put_same}
use Rattle.sizes.specs.declared.answers.Refusal.{Refusal}
use Rattle.sizes.specs.Refusals.{answer_number, number_of}
use Rattle.sizes.specs.Widths.{bucket-tiles}
use Rattle.sizes.proofs.Refusals.{not_done}
use Rattle.rules.specs.Answers.{Answer, answer}
use Rattle.rules.specs.Attributes.{Attrs}
use Rattle.row.specs.Words.{Words, words}
use Rattle.row.specs.Arena.{sizes, row_at, Stands}
use Rattle.row.specs.declared.rows.Place.{Place}
use Rattle.screen.specs.declared.Screen.{Screen}
use Rattle.paint.specs.Judging.{wide}
use Rattle.compact.specs.Row.{or-forged, compact-words}
use Rattle.compact.specs.Call.{RowReady, closed-in, row-compacted}

-- what is refused changes no word
refused-same : (v n : ℕ) (a : Attrs) (w u : Words) (k : ℕ) → (k ≡ 0 → ⊥) → answer k u ≡ compact-words v n a w → u ≡ w
unfolding compact-words
refused-same v n a w u k d e = go _ e
  where
    go : (o : Option Words) → answer k u ≡ or-forged w o → u ≡ w
    go None q = ap (λ (x : Answer Words). x.value) q
    go (Some y) q = absurd (d (ap (λ (x : Answer Words). x.number) q))

module _ (s : Screen) (r : ℕ) (a : Attrs) (w : Words) (ready : RowReady s r w) where
  abbrev own : Words
  own = row_at (sizes s.c s.d) r w

  module _ (x y : List ℕ) (z : List ℕ) where
    abbrev made : Answer Words
    made = compact-words (bucket-tiles s.width) (wide s) a own

    abbrev back : Words
    back = words (put_mid (r * 54) 54 w.state x) (put_mid (r * (4 * s.c)) (4 * s.c) w.render y) w.fills

    -- the row's words put back
    done : answer 0 (words x y z) ≡ made → answer 0 back ≡ closed-in s.c r w made
    done e = rw (← e) refl

    kept : (k : Refusal) → answer (number_of k) (words x y z) ≡ made → answer (number_of k) back ≡ closed-in s.c r w made
    kept k e =
        let u : words x y z ≡ own = refused-same (bucket-tiles s.width) (wide s) a own (words x y z) (number_of k) (not_done k) e in
        let f : put_mid (r * 54) 54 w.state x ≡ w.state = rw (ap (λ (t : Words). t.state) u) (put_same (r * 54) 54 w.state) in
        let g : put_mid (r * (4 * s.c)) (4 * s.c) w.render y ≡ w.render = rw (ap (λ (t : Words). t.render) u) (put_same (r * (4 * s.c)) (4 * s.c) w.render) in
        rw (← e, ne_eqb (number_of k) 0 (not_done k), f, g) refl

  -- .. as code cuts the row out and puts it back
  module _ (p : Place) (t : Stands s.c s.d r p) (n : ℕ) (m : n ≡ wide s) where
    abbrev out : Words
    out = words (take (p.x1 - p.x0) (drop p.x0 w.state)) (take (p.y1 - p.y0) (drop p.y0 w.render)) (take (p.z1 - p.z0) (drop p.z0 w.fills))

    sx : p.x1 - p.x0 ≡ 54
    sx = omega (arith, t.x1)

    sy : p.y1 - p.y0 ≡ 4 * s.c
    sy = omega (arith, t.y1)

    sz : p.z1 - p.z0 ≡ 2 * s.d
    sz = omega (arith, t.z1)

    out-is : out ≡ own
    out-is = rw (sx, sy, sz, t.x0, t.y0, t.z0) refl

    pub in-place : (q : Result Unit Refusal) (x y : List ℕ) → answer (answer_number q) (words x y out.fills) ≡ compact-words (bucket-tiles s.width) n a out
        → answer (answer_number q) (words (put_mid p.x0 (p.x1 - p.x0) w.state x) (put_mid p.y0 (p.y1 - p.y0) w.render y) w.fills) ≡ row-compacted s r a w
    in-place (Ok u) x y e = rw (sx, sy, t.x0, t.y0) (done x y out.fills (rw (out-is, m) at e))
    in-place (Err k) x y e = rw (sx, sy, t.x0, t.y0) (kept x y out.fills k (rw (out-is, m) at e))
