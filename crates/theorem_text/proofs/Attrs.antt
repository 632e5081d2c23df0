-- What `attrs_text` writes at the words of a screen of the rules is the text of the rules' own lines of its attributes and filter paints,
-- where each layer attribute's opacity is a pattern of 32 bits. Assumes nothing.
use Rattle.std.proofs.Common.{◌≡◌, refl, sym, ap, ◌∙◌, Bool, true, false, cond, List, [], ◌∷◌, ◌++◌, map, append_assoc, ℕ, zero, suc, ◌+◌, ◌-◌, ◌*◌, ◌≤◌, ◌<◌, arith, length, get_or, take, drop}
use Rattle.std.proofs.Common.{replicate, length-append, take-suc, get_or-append-add, drop_at, drop-drop, ℤ, pos}
use lib.ListN.{length-map, length-replicate, get_or-append}
use lib.Seq.{take-length}
use lib.Ieee.{Float, nan, is_nan, ne, binary32, of_bits, to_bits}
use lib.Ieee.Bits.{nan_bits_is, to_bits-of_bits}
use lib.Ieee.Compare.{differs_from_itself}
use Rattle.sizes.specs.Sizes.{most-layers, most-attrs, paint-attr-size, paint-attr-table, layer-attr-size, layer-attr-table, filter-paint-size, filter-paint-table}
use Rattle.rules.specs.Lists.{join}
use Rattle.rules.specs.Rows.{Row}
use Rattle.rules.specs.Painting.{paint-row}
use Rattle.rules.specs.Attributes.{PaintAttr, no-paint, LayerAttr, no-layer, FilterPaint, Attrs}
use Rattle.screen.specs.Attributes.{paint-attr-words}
use Rattle.rules.specs.Plans.{bucket, buckets-across, Layer}
use Rattle.rules.specs.Steps.{Screen}
use Rattle.text.specs.Details.{Detail, paint-attributes, layer-attributes, filter-paints, paint-attr-line, layer-attr-line, filter-paint-line, attr-lines, painted-row, painted-lines, detail-lines}
use Rattle.screen.specs.Depths.{Depths}
use Rattle.screen.specs.Tables.{float-0}
use Rattle.layers.specs.Filter.{filter-paint-words}
use Rattle.walk.specs.Reading.{pattern_of}
use Rattle.refine_steps.specs.Sound.{Sound}
use Rattle.refine_steps.specs.Lent.{table, attr-words, attr-opacity, layers-opacities, lent_of}
use Rattle.text.specs.Places.{joined}
use Rattle.text.proofs.Joins.{join-append}
use Rattle.text.specs.Bytes.{detail-bytes, details-text}
use Rattle.text.specs.Tables.{opacity-bits, paint-attr-of, paint-attr-at, layer-attr-of, layer-attr-at, filter-of, filter-at, paint-lines, layer-lines, filter-lines}
use Rattle.text.proofs.DetailsLines.{no_nan}
use Rattle.text.specs.Dumped.{tables, attrs-text}

-- record i, of m words each, stands first from word m * i on
module _ {A B : Type 0} (f : A → List B) (m : ℕ) (long : (x : A) → length (f x) ≡ m) (d : A) where
  pub record-at : (xs : List A) (ys : List B) (i : ℕ) → i < length xs → (more : List B) × (drop (m * i) (join f xs ++ ys) ≡ f (get_or xs i d) ++ more)
  record-at [] ys i h = absurd (omega arith)
  record-at (x ∷ xs) ys zero h =
      let e : m * 0 ≡ 0 = omega arith in
      (join f xs ++ ys, rw e (append_assoc (f x) (join f xs) ys))
  record-at (x ∷ xs) ys (suc i) h =
      let (more, p) = record-at xs ys i (omega arith) in
      let e : m * suc i ≡ m + m * i = next m i in
      let q : drop m ((f x ++ join f xs) ++ ys) ≡ join f xs ++ ys =
      ap (drop m) (append_assoc (f x) (join f xs) ys) ∙ drop_at (f x) (join f xs ++ ys) m (long x) in
      (more, rw (e, ← drop-drop (m * i) m ((f x ++ join f xs) ++ ys), q) p)
    where
      next : (m i : ℕ) → m * suc i ≡ m + m * i
      next m i = omega arith

-- a line for each element, by its place
module _ {A : Type 0} (f : A → Detail) (d : A) (xs : List A) (g : ℕ → Detail) (h : (k : ℕ) → k < length xs → g k ≡ f (get_or xs k d)) where
  map-two : (ys zs : List A) → map f (ys ++ zs) ≡ map f ys ++ map f zs
  map-two [] zs = refl
  map-two (y ∷ ys) zs = ap (λ (l : List Detail). f y ∷ l) (map-two ys zs)

  first-lines : (k : ℕ) → k ≤ length xs → joined (λ (i : ℕ). g i ∷ []) k ≡ map f (take k xs)
  unfolding joined
  first-lines zero p = refl
  first-lines (suc k) p =
      let q : k < length xs = omega arith in
      rw (first-lines k (omega arith), h k q, take-suc xs k d q, map-two (take k xs) (get_or xs k d ∷ []))

  all_lines : joined (λ (i : ℕ). g i ∷ []) (length xs) ≡ map f xs
  all_lines = first-lines (length xs) (omega arith) ∙ rw (take-length xs)

-- an opacity's pattern, from its f32 and what is kept beside it
bits_back : (o : ℕ) → o < 4294967296 → opacity-bits (of_bits binary32 o) (pattern_of o) ≡ o
unfolding opacity-bits is_nan
bits_back o h = go (ne (of_bits binary32 o) (of_bits binary32 o)) refl
  where
    go : (b : Bool) → ne (of_bits binary32 o) (of_bits binary32 o) ≡ b → cond b (pattern_of o) (to_bits binary32 (of_bits binary32 o)) ≡ o
    go true e = rw (nan_bits_is binary32 o, differs_from_itself (of_bits binary32 o) (rw e tt))
    go false e = to_bits-of_bits binary32 o h (no_nan (of_bits binary32 o) e)

abbrev no-filter : FilterPaint
no-filter = record { pixmap = 0; shift-x = pos 0; shift-y = pos 0 }

module _ (ps : List PaintAttr) where
  abbrev paint-words : List ℕ
  paint-words = table 0 paint-attr-table (join paint-attr-words ps)

  paint-line : (i : ℕ) → i < length ps → paint-attr-line (paint-attr-at paint-words i) ≡ paint-attr-line (get_or ps i no-paint)
  unfolding paint-attr-at table
  paint-line i h = ap (λ (ws : List ℕ). paint-attr-line (paint-attr-of ws)) (record-at paint-attr-words paint-attr-size (λ x. refl) no-paint ps _ i h).1

  pub paints-printed : paint-lines paint-words (length ps) ≡ paint-attributes (length ps) ∷ map paint-attr-line ps
  unfolding paint-lines
  paints-printed = ap (λ (l : List Detail). paint-attributes (length ps) ∷ l) (all_lines paint-attr-line no-paint ps (λ (i : ℕ). paint-attr-line (paint-attr-at paint-words i)) paint-line)

map_at : {A B : Type 0} (f : A → B) (d : A) (z : B) (xs : List A) (i : ℕ) → i < length xs → get_or (map f xs) i z ≡ f (get_or xs i d)
map_at f d z [] i h = absurd (omega arith)
map_at f d z (x ∷ xs) zero h = refl
map_at f d z (x ∷ xs) (suc i) h = map_at f d z xs i (omega arith)

module _ (ls : List LayerAttr) (open-ones : List Float) (deep : length open-ones ≤ most-layers) where
  abbrev layer-words : List ℕ
  layer-words = table 0 layer-attr-table (join attr-words ls)

  abbrev opacities : List Float
  opacities = table float-0 most-layers open-ones ++ table float-0 most-attrs (map attr-opacity ls)

  open-long : length (table float-0 most-layers open-ones) ≡ most-layers
  unfolding table
  open-long = rw (length-append open-ones (replicate (most-layers - length open-ones) float-0), length-replicate (most-layers - length open-ones) float-0) (omega (arith, deep))

  opacity-at : (i : ℕ) → i < length ls → get_or opacities (most-layers + i) nan ≡ of_bits binary32 (get_or ls i no-layer).opacity
  unfolding table
  opacity-at i h =
      let e : get_or opacities (most-layers + i) nan ≡ get_or (table float-0 most-attrs (map attr-opacity ls)) i nan =
      ap (λ (n : ℕ). get_or opacities (n + i) nan) (sym open-long) ∙ get_or-append-add (table float-0 most-layers open-ones) (table float-0 most-attrs (map attr-opacity ls)) i nan in
      e ∙ get_or-append (map attr-opacity ls) (replicate (most-attrs - length (map attr-opacity ls)) float-0) nan i (rw (length-map ls attr-opacity) h)
      ∙ map_at attr-opacity no-layer nan ls i h

  module _ (small : (i : ℕ) → i < length ls → (get_or ls i no-layer).opacity < 4294967296) where
    layer-line : (i : ℕ) → i < length ls → layer-attr-line (layer-attr-at layer-words opacities i) ≡ layer-attr-line (get_or ls i no-layer)
    unfolding layer-attr-at table
    layer-line i h =
        ap (λ (ws : List ℕ). layer-attr-line (layer-attr-of ws (get_or opacities (most-layers + i) nan))) (record-at attr-words layer-attr-size (λ x. refl) no-layer ls _ i h).1
        ∙ rw (opacity-at i h, bits_back (get_or ls i no-layer).opacity (small i h))

    pub layers-printed : layer-lines layer-words opacities (length ls) ≡ layer-attributes (length ls) ∷ map layer-attr-line ls
    unfolding layer-lines
    layers-printed =
        ap (λ (l : List Detail). layer-attributes (length ls) ∷ l) (all_lines layer-attr-line no-layer ls (λ (i : ℕ). layer-attr-line (layer-attr-at layer-words opacities i)) layer-line)

module _ (fs : List FilterPaint) where
  abbrev filter-words : List ℤ
  filter-words = table (pos 0) filter-paint-table (join filter-paint-words fs)

  filter-line : (i : ℕ) → i < length fs → filter-at filter-words i ≡ filter-paint-line (get_or fs i no-filter)
  unfolding filter-at table
  filter-line i h = ap filter-of (record-at filter-paint-words filter-paint-size (λ x. refl) no-filter fs _ i h).1

  pub filters-printed : filter-lines filter-words (length fs) ≡ filter-paints (length fs) ∷ map filter-paint-line fs
  unfolding filter-lines
  filters-printed = ap (λ (l : List Detail). filter-paints (length fs) ∷ l) (all_lines filter-paint-line no-filter fs (filter-at filter-words) filter-line)

open-many : (ls : List Layer) → length (layers-opacities ls) ≡ length ls
unfolding layers-opacities
open-many [] = refl
open-many (l ∷ ls) = length-append (layers-opacities ls) (of_bits binary32 l.props.opacity ∷ []) ∙ rw (open-many ls) (omega arith)

-- The text of the attributes at the words of a sound screen is that of the rules' lines.
pub attrs-printed : (v : Bool) (s : Screen Row) → Sound s → ((i : ℕ) → i < length s.state.attrs.layers → (get_or s.state.attrs.layers i no-layer).opacity < 4294967296)
    → (b : Bool) (de : Depths) (pa : List ℕ) → let l = lent_of s b de pa in
    attrs-text v l.screen (tables l.tables.paint-attrs l.tables.layer-attrs l.tables.opacities l.tables.filter-paints) ≡ details-text v (attr-lines s.state.attrs)
unfolding attrs-text lent_of
attrs-printed v s o small b de pa =
    let a = s.state.attrs in
    let deep : length (layers-opacities s.state.layers) ≤ most-layers = rw (open-many s.state.layers) o.deep in
    rw (paints-printed a.paints, layers-printed a.layers (layers-opacities s.state.layers) deep small, filters-printed a.filters)
    (sym
    (join-append (detail-bytes v) (paint-attributes (length a.paints) ∷ map paint-attr-line a.paints) _
    ∙ ap (λ (t : List ℕ). details-text v (paint-attributes (length a.paints) ∷ map paint-attr-line a.paints) ++ t) (join-append (detail-bytes v) (layer-attributes (length a.layers) ∷ map layer-attr-line a.layers) _)))

-- The text of the rules' details: that of the attributes, then that of each row, in their order.
pub details-parts : (v : Bool) (s : Screen Row) → details-text v (detail-lines s)
    ≡ details-text v (attr-lines s.state.attrs) ++ details-text v (painted-lines (bucket s.state.frame) s.state.attrs (buckets-across s.state.frame) 0 s.rows)
details-parts v s = join-append (detail-bytes v) (attr-lines s.state.attrs) _

pub rows-parts : (v : Bool) (w : ℕ) (a : Attrs) (n i : ℕ) (r : Row) (rs : List Row)
    → details-text v (painted-lines w a n i (r ∷ rs)) ≡ details-text v (painted-row i (paint-row w a n r)) ++ details-text v (painted-lines w a n (suc i) rs)
unfolding painted-lines
rows-parts v w a n i r rs = join-append (detail-bytes v) (painted-row i (paint-row w a n r)) (painted-lines w a n (suc i) rs)
