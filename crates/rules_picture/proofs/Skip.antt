-- Where a row's summary says that a span can be skipped, every bucket of the span is visible after the row's depth fills.
use Rattle.std.proofs.Common.{ℕ, zero, suc, ◌+◌, ◌-◌, ◌/◌, ◌≤◌, ◌<◌, add-zero, add-suc, suc-add, zero-add, le_refl, arith, ◌≡◌, refl, sym, ◌∙◌, ap, Bool, true, false, Option, None, Some, List, length}
use Rattle.std.proofs.Common.{get_or, drop, replicate, leb, ltb, eqb, leb-true, leb-false, le-leb, le-ltb}
use lib.ListN.{length-replicate}
use Rattle.rules.specs.Answers.{Done}
use Rattle.rules.specs.Boxes.{width, rows_of}
use Rattle.rules.specs.Spans.{Span, covers, bad-range}
use Rattle.rules.specs.Commands.{Command, paint-fill, layer-fill, push-buf, pop-buf, DepthFill}
use Rattle.rules.specs.Attributes.{Attrs}
use Rattle.rules.specs.Depth.{Summary, apart, can_skip, can_skip_answer, is-visible, tiles-of}
use Rattle.rules.specs.Rows.{Row, fresh-row}
use Rattle.rules.specs.Plans.{Frame, bucket, buckets-across, Step}
use Rattle.rules.specs.Steps.{reset}
use Rattle.rules.specs.Painting.{Painter, paint-id, paint-fill-runs, paint-command, paint-when, paint-step}
use Rattle.rules.specs.Calls.{Canvas, bucket-on, begin-call, painter-of, no_row, can-skip-call}
use Rattle.rules.proofs.All.{All, nil, cons, all_map, never}
use Rattle.rules.proofs.laws.Widths.{bucket-some}
use Rattle.rules_picture.specs.Built.{Built}
use Rattle.rules_picture.specs.Turns.{Turn, steps_of, has-finished, painted}
use Rattle.rules_picture.specs.Skip.{FillsPainted, Skipped-visible}
use Rattle.rules_picture.proofs.Cases.{by, covers-yes, covers_low, covers_high, covers-no}
use Rattle.rules_picture.proofs.Buckets.{from-bucket, from-bucket-before, touched-end}
use Rattle.rules_picture.proofs.Newest.{newest, after-length, painter-after, stands, painted-newest}
use Rattle.rules_picture.proofs.Summed.{Within, Included, Summed}
use Rattle.rules_picture.proofs.Turns.{painter-on, ended-late, painted-screen, begun-by-turns}
use Rattle.rules_picture.proofs.Picture.{built-on, built-summed}

module _ (id : ℕ → ℕ) (b : ℕ) where
  -- no id is above m: neither is the word
  newest-most : (m : ℕ) {fs : List DepthFill} → All (λ (f : DepthFill). id f.attribute ≤ m) fs → newest id fs b ≤ m
  unfolding newest
  newest-most m nil = omega arith
  newest-most m (cons {x = f} {xs = fs} p a) = by (eqb (newest id fs b) 0)
      (λ y. rw y (by (covers f.buckets b) (λ c. rw c p) (λ c. rw c (omega arith))))
      (λ n. rw n (newest-most m a))

  -- no fill covers the bucket: its word is 0
  newest-missed : {fs : List DepthFill} → All (λ (f : DepthFill). covers f.buckets b ≡ false) fs → newest id fs b ≡ 0
  unfolding newest
  newest-missed nil = refl
  newest-missed (cons p a) = rw (p, newest-missed a)

-- a tile of the span s, which lies outside the union, is in nothing that the union has
misses : (o : Option Span) (s x : Span) (t : ℕ) → apart o s ≡ true → covers s t ≡ true → Within o x → covers x t ≡ false
misses None s x t a c h = absurd h
misses (Some u) s x t a c h =
    let (l, m) = h in
    let low = covers_low s t c in
    let high = covers_high s t c in
    covers-no x t (λ p q. by (leb u.end s.first)
    (λ y. let e = leb-true u.end s.first y in absurd (omega arith))
    (λ n. let e = leb-true s.end u.first (rw n at a) in absurd (omega arith)))

module _ (w : ℕ) (attrs : Attrs) where
  fill-missed : 0 < w → (d : Summary) (s : Span) (t : ℕ) → apart d.union s ≡ true → covers s t ≡ true → (f : DepthFill) → Included w attrs d f → covers f.buckets (t / w) ≡ false
  fill-missed pos d s t a c f h =
      covers-no f.buckets (t / w) (λ p q.
      never (sym (covers-yes (tiles-of w f.buckets) t (from-bucket w pos p) (from-bucket-before w pos q)) ∙ misses d.union s (tiles-of w f.buckets) t a c h.tiles))

  -- the newest depth fill over the bucket of a tile that can be skipped does not hide it
  pub skip-newest : 0 < w → (r : Row) → Summed w attrs r → (s : Span) (id : ℕ) → can_skip r.depth s id ≡ true → (t : ℕ) → covers s t ≡ true
      → is-visible id (newest (paint-id attrs) r.fills (t / w)) ≡ true
  unfolding can_skip
  skip-newest pos r a s id e t c = le-leb (newest (paint-id attrs) r.fills (t / w)) id (by (leb r.depth.largest id)
      (λ y.
      let l = leb-true r.depth.largest id y in
      newest-most (paint-id attrs) (t / w) id (all_map (λ (f : DepthFill) (h : Included w attrs r.depth f). let i = h.id in omega arith) a))
      (λ n.
      let z = newest-missed (paint-id attrs) (t / w) (all_map (fill-missed pos r.depth s t (rw n at e) c) a) in
      rw z (omega arith)))

  command-keeps : (c : Command) (p : Painter) → ((paint-command w attrs c p).painter.buckets ≡ p.buckets) × (p.steps ≤ (paint-command w attrs c p).painter.steps)
  unfolding paint-command paint-fill-runs
  command-keeps (paint-fill s a i) p = (refl, omega arith)
  command-keeps (layer-fill s a i) p = (refl, omega arith)
  command-keeps (push-buf s) p = (refl, omega arith)
  command-keeps pop-buf p = (refl, omega arith)

  -- past the depth fills the words stay
  step_keeps : (r : Row) (p : Painter) → length r.fills ≤ p.steps → ((paint-step w attrs r p).painter.buckets ≡ p.buckets) × (p.steps ≤ (paint-step w attrs r p).painter.steps)
  unfolding paint-step paint-when
  step_keeps r p h =
      let past : ltb p.steps (length r.fills) ≡ false = le-ltb p.steps (length r.fills) h in
      rw past (go (ltb (p.steps - length r.fills) (length r.commands)))
    where
      go : (b : Bool) → ((paint-when w attrs false b r p).painter.buckets ≡ p.buckets) × (p.steps ≤ (paint-when w attrs false b r p).painter.steps)
      go true = command-keeps (get_or r.commands (p.steps - length r.fills) pop-buf) p
      go false = (refl, omega arith)

  module _ (r : Row) (n : ℕ) where
    pub on-after : (j k : ℕ) → painter-on w attrs k r (painter-after w attrs r n j) ≡ painter-after w attrs r n (j + k)
    unfolding painter-on painter-after
    on-after j zero = ap (painter-after w attrs r n) (sym (add-zero j))
    on-after j (suc k) = on-after (suc j) k ∙ ap (painter-after w attrs r n) (suc-add j k ∙ sym (add-suc j k))

    after_kept : (d : ℕ) → ((painter-after w attrs r n (length r.fills + d)).buckets ≡ (painter-after w attrs r n (length r.fills)).buckets)
        × (length r.fills ≤ (painter-after w attrs r n (length r.fills + d)).steps)
    unfolding painter-after
    after_kept zero =
        let s = (stands w attrs r n (length r.fills) (omega arith)).steps in
        rw (add-zero (length r.fills)) (refl, omega arith)
    after_kept (suc d) =
        let (b, s) = after_kept d in
        let (c, m) = step_keeps r (painter-after w attrs r n (length r.fills + d)) s in
        rw (add-suc (length r.fills) d) (c ∙ b, omega arith)

    -- once the depth fills are painted, a bucket's word is the newest covering fill's id
    pub words-after : (k b : ℕ) → length r.fills ≤ (painter-after w attrs r n k).steps → b < n
        → get_or (painter-after w attrs r n k).buckets b 0 ≡ newest (paint-id attrs) r.fills b
    words-after k b h on = by (leb k (length r.fills))
        (λ y.
        let s = (stands w attrs r n k (leb-true k (length r.fills) y)).steps in
        let l = leb-true k (length r.fills) y in
        let e : k ≡ length r.fills = omega arith in
        ap (λ (m : ℕ). get_or (painter-after w attrs r n m).buckets b 0) e ∙ painted-newest w attrs r n b on)
        (λ m.
        let l = leb-false k (length r.fills) m in
        let e : k ≡ length r.fills + (k - length r.fills) = omega arith in
        ap (λ (m : ℕ). get_or (painter-after w attrs r n m).buckets b 0) e
        ∙ ap (λ (bs : List ℕ). get_or bs b 0) (after_kept (k - length r.fills)).0
        ∙ painted-newest w attrs r n b on)

    pub length-after : (k : ℕ) → length r.fills ≤ (painter-after w attrs r n k).steps → length (painter-after w attrs r n k).buckets ≡ n
    length-after k h =
        let f = length r.fills in
        let s = stands w attrs r n f (le_refl f) in
        let all : length (painter-after w attrs r n f).buckets ≡ n =
        ap (λ (bs : List ℕ). length bs) s.buckets ∙ after-length (paint-id attrs) (drop (f - f) r.fills) (replicate n 0) ∙ length-replicate {A = ℕ} n 0 in
        by (leb k f)
        (λ y.
        let m = (stands w attrs r n k (leb-true k f y)).steps in
        let l = leb-true k f y in
        let e : k ≡ f = omega arith in
        ap (λ (m : ℕ). length (painter-after w attrs r n m).buckets) e ∙ all)
        (λ m.
        let l = leb-false k f m in
        let e : k ≡ f + (k - f) = omega arith in
        ap (λ (m : ℕ). length (painter-after w attrs r n m).buckets) e ∙ ap (λ (bs : List ℕ). length bs) (after_kept (k - f)).0 ∙ all)

-- a yes is a done call's
pub said-yes : (r : ℕ) (s : Span) (id : ℕ) (k : Canvas) → (can-skip-call r s id k).value ≡ true → can_skip (get_or k.screen.rows r fresh-row).depth s id ≡ true
unfolding can-skip-call can_skip_answer
said-yes r s id k e = by (no_row k r)
    (λ y. never (sym (rw y at e)))
    (λ n. by (bad-range 8192 s)
    (λ y. never (sym (rw (n, y) at e)))
    (λ m. rw (n, m) at e))

-- a finished row has painted its depth fills
pub finished-fills : (k : Canvas) (r : ℕ) → has-finished k r ≡ true → FillsPainted k r
unfolding has-finished
finished-fills k r e = let h = ended-late (bucket-on k) k.screen.state.attrs (get_or k.screen.rows r fresh-row) (painter-of k r) e in omega arith

-- A row whose depth fills are painted.
module _ (k : Canvas) (e : (begin-call k).number ≡ Done) (ts : List Turn) (r : ℕ) (there : r < length k.screen.rows) (fp : FillsPainted (painted ts k).canvas r) where
  stands_at : painter-of (painted ts k).canvas r
      ≡ painter-after (bucket-on k) k.screen.state.attrs (get_or k.screen.rows r fresh-row) (buckets-across k.screen.state.frame) (steps_of r (painted ts k).log)
  unfolding painter-after
  stands_at =
      let n = buckets-across k.screen.state.frame in
      let row = get_or k.screen.rows r fresh-row in
      let attrs = k.screen.state.attrs in
      let m = steps_of r (painted ts k).log in
      (begun-by-turns ts k r e there).painter ∙ on-after (bucket-on k) attrs row n 0 m ∙ ap (painter-after (bucket-on k) attrs row n) (zero-add m)

  -- its words are those of the newest covering fills ..
  pub words-painted : (b : ℕ) → b < buckets-across k.screen.state.frame
      → get_or (painter-of (painted ts k).canvas r).buckets b 0 ≡ newest (paint-id k.screen.state.attrs) (get_or k.screen.rows r fresh-row).fills b
  words-painted b on =
      ap (λ (x : Painter). get_or x.buckets b 0) stands_at
      ∙ words-after (bucket-on k) k.screen.state.attrs (get_or k.screen.rows r fresh-row) (buckets-across k.screen.state.frame) (steps_of r (painted ts k).log) b (rw (painted-screen ts k e, stands_at) at fp) on

  -- .. and as many as the row has buckets
  pub words-length : length (painter-of (painted ts k).canvas r).buckets ≡ buckets-across k.screen.state.frame
  words-length =
      ap (λ (x : Painter). length x.buckets) stands_at
      ∙ length-after (bucket-on k) k.screen.state.attrs (get_or k.screen.rows r fresh-row) (buckets-across k.screen.state.frame) (steps_of r (painted ts k).log) (rw (painted-screen ts k e, stands_at) at fp)

-- A yes of can_skip: the bucket of each tile of the span, if the row has it, is visible; ..
pub skip-tile : (f : Frame) (xs : List Step) (k : Canvas) → Built xs (reset fresh-row f) k.screen → (begin-call k).number ≡ Done
    → (ts : List Turn) (r : ℕ) → r < rows_of f.viewport → FillsPainted (painted ts k).canvas r
    → (s : Span) (id : ℕ) → (can-skip-call r s id (painted ts k).canvas).value ≡ true
    → (t : ℕ) → covers s t ≡ true → t / bucket f < buckets-across f
    → is-visible id (get_or (painter-of (painted ts k).canvas r).buckets (t / bucket f) 0) ≡ true
skip-tile f xs k b e ts r h fp s id can t c on =
    let (v, there) = built-on f xs k.screen b r h in
    let near : t / bucket f < buckets-across k.screen.state.frame = rw v on in
    let row = get_or k.screen.rows r fresh-row in
    let y : can_skip row.depth s id ≡ true = rw (painted-screen ts k e) at (said-yes r s id (painted ts k).canvas can) in
    ap (is-visible id) (words-painted k e ts r there fp (t / bucket f) near)
    ∙ skip-newest (bucket f) k.screen.state.attrs (bucket-some f.width) row (built-summed f xs k.screen b r h) s id y t c

-- .. so it is for the tiles of the screen
pub skip : Skipped-visible
skip f xs k b e ts r h fp s id can t c on =
    skip-tile f xs k b e ts r h fp s id can t c (touched-end (bucket f) (bucket-some f.width) t (width f.viewport / 4) on)
