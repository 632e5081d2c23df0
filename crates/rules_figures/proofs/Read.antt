-- What is read off a built screen's rows is what its history asked for, what its pieces cover, and what the picture leaves out.
use Rattle.std.proofs.Common.{ℕ, ◌+◌, ◌-◌, ◌*◌, ◌/◌, ◌≤◌, ◌<◌, arith, ◌≡◌, refl, sym, ◌∙◌, ap, Bool, true, cond, List, [], ◌∷◌, map, length, get_or}
use Rattle.rules.specs.Lists.{such}
use Rattle.rules.specs.Boxes.{width, rows_of}
use Rattle.rules.specs.Rows.{Row, fresh-row}
use Rattle.rules.specs.Attributes.{Attrs}
use Rattle.rules.specs.Plans.{Frame, bucket, buckets-across, Step}
use Rattle.rules.specs.Steps.{Screen}
use Rattle.rules.specs.Plain.{Told}
use Rattle.rules.specs.Compacted.{newest-ids}
use Rattle.rules.specs.Painting.{paint-id}
use Rattle.rules.proofs.All.{all-mapped}
use Rattle.rules.proofs.laws.Widths.{bucket-some, raised-least}
use Rattle.rules.proofs.laws.Viewports.{view}
use Rattle.rules_picture.proofs.Cases.{by}
use Rattle.rules_picture.proofs.Buckets.{to-bucket-before}
use Rattle.rules_picture.proofs.Newest.{holds-newest}
use Rattle.rules_picture.proofs.Shown.{hides-of, newest-hide}
use Rattle.rules_picture.proofs.Rows.{newest-told}
use Rattle.rules_picture.proofs.Picture.{follows}
use Rattle.rules_picture.proofs.CompactedPieces.{words-after}
use Rattle.rules_figures.specs.Figures.{sum-to, sum-of, told-at, dropped, asked, hidden, Figures}
use Rattle.rules_figures.specs.RowFigures.{Fill, fills-of, over-tiles, newer, tiles-asked, tiles-painted, tiles-hidden, row-figures, screen-figures}
use Rattle.rules_figures.specs.Accounted.{Left, Accounted, Asked-plain, Painted-pieces, Hidden-dropped, Figures-read}
use Rattle.rules_figures.proofs.Tallies.{sum-same, sum-both, sum-zero, sum-ones, sum-longer, sum-listed}
use Rattle.rules_figures.proofs.Narrow.{nothing-past}
use Rattle.rules_figures.proofs.Screens.{rows-are, frame-is}
use Rattle.rules_figures.proofs.Asked.{asked-accounted}
use Rattle.rules_figures.proofs.Counted.{counted}
use Rattle.rules_figures.proofs.Newer.{older, dropped-older, newest-hider, such-all, such-parted}
use Rattle.rules_figures.proofs.Tiled.{at-tile, ends, fills-end, tile-by-tile, row-told}
use Rattle.rules_figures.proofs.Totals.{total-listed, total-of, totals-accounted}

sum-alike : {A : Type 0} (g h : A → ℕ) → ((x : A) → g x ≡ h x) → (xs : List A) → sum-of (map g xs) ≡ sum-of (map h xs)
unfolding sum-of
sum-alike g h e [] = refl
sum-alike g h e (x ∷ xs) = rw (e x, sum-alike g h e xs)

-- One row of a screen that the steps have left.
module _ (f : Frame) (xs : List Step) (u : Screen Row) (l : Left f xs u) (row : ℕ) (there : row < rows_of f.viewport) where
  abbrev w : ℕ
  w = bucket f

  abbrev a : Attrs
  a = u.state.attrs

  abbrev r : Row
  r = get_or u.rows row fresh-row

  abbrev told : ℕ → List Told
  told t = told-at f xs row t

  abbrev across : ℕ
  across = width f.viewport / 4

  -- its fills over a tile, of those whose ids pass a test, are as many as the entries
  held : (q : ℕ → Bool) (t : ℕ) → at-tile t (λ i. cond (q i) 1 0) (fills-of w a r) ≡ length (such (λ (k : Told). q k.id) (told t))
  held q t =
      row-told w (bucket-some f.width) a t q r
      ∙ rw (← counted f xs u l.built row t there, ← (follows f xs u l.built row t there).grown.holds.hidden)
      (sym (such-parted hides-of (λ (k : Told). q k.id) (told t)))

  -- .. and over the row's tiles; past the screen's edge there are none
  row-sum : (q : ℕ → ℕ → Bool)
      → sum-of (map (λ (x : Fill). over-tiles x.tiles (λ t. cond (q x.id t) 1 0)) (fills-of w a r)) ≡ sum-to across (λ t. length (such (λ (k : Told). q k.id t) (told t)))
  row-sum q =
      let fs = fills-of w a r in
      let g : ℕ → ℕ = λ t. length (such (λ (k : Told). q k.id t) (told t)) in
      tile-by-tile (across + ends fs) (λ i t. cond (q i t) 1 0) (fills-end across fs)
      ∙ sum-same (across + ends fs) (λ t. at-tile t (λ i. cond (q i t) 1 0) fs) g (λ t h. held (λ i. q i t) t)
      ∙ sum-longer across (ends fs) g
      (λ t h k. ap (λ (ts : List Told). length (such (λ (k : Told). q k.id t) ts)) (nothing-past w f.viewport row t (view f.viewport l.view).x0-by-4 h xs))

  row-asked : sum-of (map (tiles-asked w (newest-ids a (buckets-across f) r.fills)) (fills-of w a r)) ≡ sum-to across (λ t. length (told t))
  row-asked =
      let fs = fills-of w a r in
      sum-alike (tiles-asked w (newest-ids a (buckets-across f) r.fills)) (λ (x : Fill). over-tiles x.tiles (λ t. 1)) (λ x. sym (sum-ones (x.tiles.end - x.tiles.first))) fs
      ∙ row-sum (λ i t. true)
      ∙ sum-same across (λ t. length (such (λ (k : Told). true) (told t))) (λ t. length (told t)) (λ t h. ap (λ (ts : List Told). length ts) (such-all (told t)))

  -- the newest id of a tile's bucket is that of the newest entry that hides
  word : (t : ℕ) → t < across → get_or (newest-ids a (buckets-across f) r.fills) (t / w) 0 ≡ newest-hide (told t)
  word t h =
      let wide : across ≤ buckets-across f * w = raised-least f.width across in
      let on : t / w < buckets-across f = to-bucket-before w (bucket-some f.width) (omega arith) in
      ap (λ (bs : List ℕ). get_or bs (t / w) 0) (words-after w a (buckets-across f) r.fills)
      ∙ holds-newest (paint-id a) r.fills (buckets-across f) (t / w) on
      ∙ newest-told w a t r.fills
      ∙ ap newest-hide (sym (follows f xs u l.built row t there).grown.holds.hidden)
      ∙ sym (newest-hider (told t))

  row-hidden : sum-of (map (tiles-hidden w (newest-ids a (buckets-across f) r.fills)) (fills-of w a r)) ≡ sum-to across (λ t. length (dropped (told t)))
  unfolding tiles-hidden
  row-hidden =
      let bs = newest-ids a (buckets-across f) r.fills in
      row-sum (λ i t. newer w bs i t)
      ∙ sum-same across (λ t. length (such (λ (k : Told). newer w bs k.id t) (told t))) (λ t. length (dropped (told t)))
      (λ t h. ap (λ (n : ℕ). length (such (older n) (told t))) (word t h) ∙ dropped-older (follows f xs u l.built row t there).grown.holds.rising)

pub asked-plain : Asked-plain
unfolding screen-figures row-figures asked
asked-plain f xs u l =
    rw (frame-is f l.built)
    (total-listed (λ (g : Figures). g.asked) refl (λ x y. refl) (row-figures (bucket f) (buckets-across f) u.state.attrs) fresh-row u.rows
    ∙ ap (λ (n : ℕ). sum-to n (λ i. (row-figures (bucket f) (buckets-across f) u.state.attrs (get_or u.rows i fresh-row)).asked)) (rows-are f l.built)
    ∙ sum-same (rows_of f.viewport) _ _ (λ i h. row-asked f xs u l i h))

pub hidden-dropped : Hidden-dropped
unfolding screen-figures row-figures hidden
hidden-dropped f xs u l =
    rw (frame-is f l.built)
    (total-listed (λ (g : Figures). g.hidden) refl (λ x y. refl) (row-figures (bucket f) (buckets-across f) u.state.attrs) fresh-row u.rows
    ∙ ap (λ (n : ℕ). sum-to n (λ i. (row-figures (bucket f) (buckets-across f) u.state.attrs (get_or u.rows i fresh-row)).hidden)) (rows-are f l.built)
    ∙ sum-same (rows_of f.viewport) _ _ (λ i h. row-hidden f xs u l i h))

-- a fill's tiles are painted or hidden
tiles-accounted : (w : ℕ) (bs : List ℕ) (x : Fill) → tiles-asked w bs x ≡ tiles-painted w bs x + tiles-hidden w bs x
unfolding tiles-painted tiles-hidden
tiles-accounted w bs x =
    let n = x.tiles.end - x.tiles.first in
    let g : ℕ → ℕ = λ k. cond (newer w bs x.id (x.tiles.first + k)) 0 1 in
    let h : ℕ → ℕ = λ k. cond (newer w bs x.id (x.tiles.first + k)) 1 0 in
    sym (sum-ones n)
    ∙ sum-same n (λ k. 1) (λ k. g k + h k) (λ k p. by (newer w bs x.id (x.tiles.first + k)) (λ y. rw y (omega arith)) (λ z. rw z (omega arith)))
    ∙ sum-both n g h

fills-accounted : (w : ℕ) (bs : List ℕ) (fs : List Fill) → sum-of (map (tiles-asked w bs) fs) ≡ sum-of (map (tiles-painted w bs) fs) + sum-of (map (tiles-hidden w bs) fs)
unfolding sum-of
fills-accounted w bs [] = refl
fills-accounted w bs (x ∷ fs) = let e = tiles-accounted w bs x in let h = fills-accounted w bs fs in omega arith

rows-accounted : (u : Screen Row) → Accounted (screen-figures u)
unfolding screen-figures row-figures
rows-accounted u =
    let f = u.state.frame in
    totals-accounted _ (all-mapped (row-figures (bucket f) (buckets-across f) u.state.attrs)
    (λ (r : Row). fills-accounted (bucket f) (newest-ids u.state.attrs (buckets-across f) r.fills) (fills-of (bucket f) u.state.attrs r)) u.rows)

-- painted is what is left, on both sides
pub painted-pieces : Painted-pieces
painted-pieces f xs u l =
    let a = asked-plain f xs u l in
    let h = hidden-dropped f xs u l in
    let r : (screen-figures u).asked ≡ (screen-figures u).painted + (screen-figures u).hidden = rows-accounted u in
    let p = asked-accounted f xs u l in
    omega arith

alike : {g h : Figures} → g.asked ≡ h.asked → g.painted ≡ h.painted → g.hidden ≡ h.hidden → g.commands ≡ h.commands → g.fills ≡ h.fills → g.refused ≡ h.refused → g ≡ h
alike a b c d e k = rw (a, b, c, d, e, k)

pub figures-read : Figures-read
unfolding screen-figures row-figures
figures-read f xs u l =
    let h = row-figures (bucket u.state.frame) (buckets-across u.state.frame) u.state.attrs in
    alike (asked-plain f xs u l) (painted-pieces f xs u l) (hidden-dropped f xs u l)
    (total-of (λ (g : Figures). g.commands) refl (λ x y. refl) h u.rows)
    (total-of (λ (g : Figures). g.fills) refl (λ x y. refl) h u.rows)
    (total-of (λ (g : Figures). g.refused) refl (λ x y. refl) h u.rows ∙ sum-listed (λ (r : Row). 0) fresh-row u.rows ∙ sum-zero (length u.rows))
