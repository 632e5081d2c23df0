-- Every tile that was asked for is painted or hidden.
use Rattle.std.proofs.Common.{ℕ, ◌+◌, ◌-◌, ◌*◌, ◌/◌, ◌≤◌, ◌<◌, arith, ◌≡◌, refl, sym, ◌∙◌, ap, true, List, map, length, get_or}
use lib.ListN.{length-map}
use Rattle.rules.specs.Boxes.{width, rows_of, good_viewport}
use Rattle.rules.specs.Rows.{Row, fresh-row}
use Rattle.rules.specs.Plans.{Frame, bucket, buckets-across, Step}
use Rattle.rules.specs.Steps.{Screen, reset}
use Rattle.rules.specs.Painting.{Piece, Entry, paint-row, received}
use Rattle.rules.specs.Plain.{Told, shown, plain}
use Rattle.rules.proofs.laws.Widths.{bucket-some, raised-least}
use Rattle.rules.proofs.laws.Viewports.{view}
use Rattle.rules_picture.proofs.Buckets.{to-bucket-before}
use Rattle.rules_picture.specs.Built.{Built}
use Rattle.rules_picture.proofs.Picture.{row-picture}
use Rattle.rules_figures.specs.Figures.{told-at, sum-to, sum-of, dropped, tiles-in, asked, hidden, painted}
use Rattle.rules_figures.specs.Accounted.{Asked-accounted}
use Rattle.rules_figures.proofs.Tallies.{told-accounted, sum-same, sum-both, sum-longer, pieces-counted}
use Rattle.rules_figures.proofs.Screens.{rows-are, frame-is}
use Rattle.rules_figures.proofs.Ended.{row_ends}
use Rattle.rules_figures.proofs.Narrow.{nothing-past}

module _ (f : Frame) (xs : List Step) (u : Screen Row) (g : good_viewport f.viewport ≡ true) (b : Built xs (reset fresh-row f) u) (r : ℕ) (there : r < rows_of f.viewport) where
  abbrev told : ℕ → List Told
  told t = told-at f xs r t

  abbrev ps : List Piece
  ps = paint-row (bucket f) u.state.attrs (buckets-across f) (get_or u.rows r fresh-row)

  abbrev across : ℕ
  across = width f.viewport / 4

  -- a tile of the row's buckets receives what is shown of it
  received-shown : (t : ℕ) → t / bucket f < buckets-across f → length (received t ps) ≡ length (shown (told t))
  unfolding plain
  received-shown t h = ap (λ (es : List Entry). length es) (row-picture f xs u b r t (buckets-across f) there h) ∙ length-map (shown (told t)) _

  -- of a tile past the screen nothing is
  received-none : (t : ℕ) → across ≤ t → t / bucket f < buckets-across f → length (received t ps) ≡ 0
  received-none t p h =
      received-shown t h ∙ ap (λ (ts : List Told). length (shown ts)) (nothing-past (bucket f) f.viewport r t (view f.viewport g).x0-by-4 p xs) ∙ unfold shown in refl

  abbrev across-buckets : ℕ
  across-buckets = buckets-across f * bucket f

  -- one row
  row-accounted : sum-to across (λ t. length (told t)) ≡ sum-of (map tiles-in ps) + sum-to across (λ t. length (dropped (told t)))
  row-accounted =
      let wide : across ≤ across-buckets = raised-least f.width across in
      let m = across-buckets - across in
      let e : across-buckets ≡ across + m = omega arith in
      let counted : sum-to across-buckets (λ t. length (received t ps)) ≡ sum-of (map tiles-in ps) = pieces-counted across-buckets (row_ends (bucket f) u.state.attrs (buckets-across f) (get_or u.rows r fresh-row)) in
      let same : sum-to across-buckets (λ t. length (received t ps)) ≡ sum-to across (λ t. length (received t ps)) =
      ap (λ (k : ℕ). sum-to k (λ t. length (received t ps))) e
      ∙ sum-longer across m (λ t. length (received t ps)) (λ i p q. received-none i p (to-bucket-before (bucket f) (bucket-some f.width) (omega arith))) in
      sum-same across (λ t. length (told t)) (λ t. length (received t ps) + length (dropped (told t)))
      (λ t h. let i = told-accounted (told t) in let k = received-shown t (to-bucket-before (bucket f) (bucket-some f.width) (omega arith)) in omega arith)
      ∙ sum-both across (λ t. length (received t ps)) (λ t. length (dropped (told t)))
      ∙ ap (λ (k : ℕ). k + sum-to across (λ t. length (dropped (told t)))) (sym same ∙ counted)

pub asked-accounted : Asked-accounted
unfolding asked painted hidden
asked-accounted f xs u l =
    let n = rows_of f.viewport in
    let rows : length u.rows ≡ n = rows-are f l.built in
    let fr : u.state.frame ≡ f = frame-is f l.built in
    let w : ℕ → ℕ = λ r. sum-of (map tiles-in (paint-row (bucket f) u.state.attrs (buckets-across f) (get_or u.rows r fresh-row))) in
    let pieces : painted u ≡ sum-to n w = rw (rows, fr) in
    sum-same n (λ r. sum-to (width f.viewport / 4) (λ t. length (told-at f xs r t))) (λ r. w r + sum-to (width f.viewport / 4) (λ t. length (dropped (told-at f xs r t)))) (λ r h. row-accounted f xs u l.view l.built r h)
    ∙ sum-both n w (λ r. sum-to (width f.viewport / 4) (λ t. length (dropped (told-at f xs r t))))
    ∙ ap (λ (k : ℕ). k + hidden f xs) (sym pieces)
