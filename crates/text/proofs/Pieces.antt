-- Pieces line by line. Assumes nothing.
use Rattle.std.proofs.Common.{Bool, true, false, ◌≡◌, refl, List, [], ◌∷◌, ◌++◌, append-nil, Option, ℕ, zero, suc, ◌+◌, ◌*◌, ◌≤◌, add-zero, arith, leb, length, drop, length-append, get_or-drop}
use Rattle.sizes.specs.Sizes.{piece-size}
use Rattle.rules.specs.Lines.{alpha-bytes}
use Rattle.screen.specs.declared.Screen.{Screen}
use Rattle.text.specs.declared.Out.{Out}
use Rattle.text.specs.Texts.{Writes}
use Rattle.text.proofs.Laws.{then}
use Rattle.text.proofs.Lengths.{join-few}
use Rattle.text.specs.Places.{joined}
use Rattle.text.proofs.Joins.{join-append}
use Rattle.text.proofs.ScreenLengths.{joined-few}
use Rattle.text.specs.Details.{Detail, painted, paint-attributes, layer-attributes, filter-paints, paint-attr-line, layer-attr-line}
use Rattle.text.specs.Bytes.{detail-room, piece-room, panel-bytes, piece_bytes, detail-bytes, details-text}
use Rattle.text.specs.Tables.{paint-attr-at, layer-attr-at, filter-at, paint-lines, layer-lines, filter-lines}
use Rattle.text.proofs.DetailsLengths.{p-few, l-few, painted-few, detail-few}
use Rattle.text.specs.Pieces.{word, alpha-of, letter-of, piece-at, row-lines}
use Rattle.text.specs.Dumped.{AttrTables, attrs-text, attrs-room}

module _ (d : Bool) (ws : List ℕ) (k : ℕ) where
  pub piece-written : {b : ℕ} {x : Option ℕ} {t u v y : Out} → b ≡ letter-of (word ws (piece-size * k)) → x ≡ alpha-of (word ws (piece-size * k)) (word ws (piece-size * k + 4))
      → Writes (b ∷ []) t u
      → Writes (piece_bytes (word ws (piece-size * k + 1)) (word ws (piece-size * k + 2)) (word ws (piece-size * k + 3))
      (alpha-bytes x) (word ws (piece-size * k + 5)) (panel-bytes d (word ws (piece-size * k + 6)))) u v
      → Writes (10 ∷ []) v y → Writes (detail-bytes d (piece-at ws k)) t y
  unfolding detail-bytes piece-at
  piece-written {b} {x} {t} {u} {v} {y} i j f g h = go (leb (word ws (piece-size * k)) 2) refl
    where
      go : (z : Bool) → leb (word ws (piece-size * k)) 2 ≡ z → Writes (detail-bytes d (piece-at ws k)) t y
      go true e = simp (get_or-drop, add-zero) (rw e (then (then (rw (i, e) at f) (rw j at g)) h))
      go false e = simp (get_or-drop, add-zero) (rw e (then (then (rw (i, e) at f) (rw j at g)) h))

  piece-few : length (detail-bytes d (piece-at ws k)) ≤ piece-room
  unfolding piece-at
  piece-few = go (leb (word (drop (piece-size * k) ws) 0) 2) refl
    where
      go : (z : Bool) → leb (word (drop (piece-size * k) ws) 0) 2 ≡ z → length (detail-bytes d (piece-at ws k)) ≤ piece-room
      go true e = rw e (p-few d _ _ _ _ _ _)
      go false e = rw e (l-few d _ _ _ _ _ _)

-- how long a row's text is at most, and that of a screen's attributes
module _ (d : Bool) where
  pieces-few : (ws : List ℕ) (n : ℕ) → length (details-text d (joined (λ (j : ℕ). piece-at ws j ∷ []) n)) ≤ piece-room * n
  unfolding joined
  pieces-few ws zero = omega arith
  pieces-few ws (suc n) =
      let g = joined (λ (j : ℕ). piece-at ws j ∷ []) n in
      rw (join-append (detail-bytes d) g (piece-at ws n ∷ []), length-append (details-text d g) (details-text d (piece-at ws n ∷ [])), append-nil (detail-bytes d (piece-at ws n)))
      (omega (arith, pieces-few ws n, piece-few d ws n))

  pub row-text-few : (r : ℕ) (ws : List ℕ) (n : ℕ) → length (details-text d (row-lines r ws n)) ≤ piece-room * (1 + n)
  unfolding row-lines
  row-text-few r ws n =
      rw (length-append (detail-bytes d (painted r n)) (details-text d (joined (λ (j : ℕ). piece-at ws j ∷ []) n)))
      (omega (arith, painted-few d r n, pieces-few ws n))

  table-few : (f : ℕ → Detail) (h : Detail) (n : ℕ) → length (details-text d (h ∷ joined (λ (i : ℕ). f i ∷ []) n)) ≤ detail-room * (1 + n)
  table-few f h n =
      let x = join-few (detail-bytes d) detail-room (detail-few d) (h ∷ joined (λ (i : ℕ). f i ∷ []) n) in
      let y = joined-few (λ (i : ℕ). f i ∷ []) 1 n (λ i g. omega arith) n (omega arith) in
      omega (arith, x, y)

  pub attrs-few : (s : Screen) (t : AttrTables) → length (attrs-text d s t) ≤ attrs-room s
  unfolding attrs-text paint-lines layer-lines filter-lines
  attrs-few s t =
      let a = table-few (λ (i : ℕ). paint-attr-line (paint-attr-at t.paints i)) (paint-attributes s.paint_attrs) s.paint_attrs in
      let b = table-few (λ (i : ℕ). layer-attr-line (layer-attr-at t.layers t.opacities i)) (layer-attributes s.layer_attrs) s.layer_attrs in
      let c = table-few (filter-at t.filters) (filter-paints s.filter_paints) s.filter_paints in
      rw (
        length-append (details-text d (paint-lines t.paints s.paint_attrs)) (details-text d (layer-lines t.layers t.opacities s.layer_attrs) ++ details-text d (filter-lines t.filters s.filter_paints)),
        length-append (details-text d (layer-lines t.layers t.opacities s.layer_attrs)) (details-text d (filter-lines t.filters s.filter_paints)),
      )
      (omega (arith, a, b, c))
