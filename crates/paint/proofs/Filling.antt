-- The two calls over runs as a step makes them, and what the step leaves of their pieces. Assumes nothing.
use Rattle.std.proofs.Common.{◌≡◌, refl, ap, ◌∙◌, Bool, true, false, ◌||◌, cond, List, [], ◌∷◌, map, Option, None, Some, Result, Ok, Err, ℕ, ◌≤◌, ◌<◌, ◌+◌, ◌-◌, ◌*◌, ◌/◌, mul-one, arith, length, ltb, eqb, le-leb, ne_eqb, eq-eqb}
use lib.ListN.{length-map}
use Rattle.sizes.specs.Sizes.{piece-size}
use Rattle.rules.specs.Answers.{settle}
use Rattle.rules.specs.Attributes.{no-attrs}
use Rattle.rules.specs.Spans.{Span, bad-range}
use Rattle.rules.specs.Depth as rule
use Rattle.rules.specs.Depth.{Summary, write-runs, write_answer, write-after, written}
use Rattle.rules.specs.Painting as rules
use Rattle.rules.specs.Painting.{Piece, fill-piece, depth-piece, gives}
use Rattle.span.specs.declared.TileSpan.{TileSpan}
use Rattle.sizes.specs.declared.width.Width.{Width}
use Rattle.span.specs.declared.BucketRange.{BucketRange}
use Rattle.span.specs.Spans.{tiles, buckets, Moves}
use Rattle.sizes.specs.Widths.{bucket-tiles}
use Rattle.rules.proofs.laws.Widths.{bucket-most}
use Rattle.depth.specs.Listing as depth
use Rattle.sizes.specs.declared.answers.Refusal.{Refusal}
use Rattle.sizes.specs.Refusals.{number_of}
use Rattle.paint.specs.declared.pieces.Brush.{Brush}
use Rattle.cmd.specs.Pieces.{laid}
use Rattle.paint.specs.Pieces.{Fits, run_at, runs-at}
use Rattle.paint.specs.Summaries.{shown_runs}
use Rattle.paint.specs.Answers.{Painted, Advanced, advanced}
use Rattle.rules.specs.Minima.{minima-room, halvings, mended-runs, minima-after}
use Rattle.screen.specs.Depths.{depths}
use Rattle.paint.specs.Painting.{word, out, painter-at, refused, listed, fill-shown, settled}
use Rattle.paint.proofs.Spreading.{piece}
use Rattle.paint.proofs.Within.{shown-fits, depth-fits}
use Rattle.paint.proofs.Listing.{lent, lent-room, back, Listed, listed-room, listed_at, listed-spread, when_refused, when_listed}

same_map : {A B : Type 0} (f g : A → B) → ((x : A) → f x ≡ g x) → (xs : List A) → map f xs ≡ map g xs
same_map f g h [] = refl
same_map f g h (x ∷ xs) = rw (h x, same_map f g h xs)

module _ (D M P l : List ℕ) (o : rules.Painted) (ms : List ℕ) where
  -- no room for the pieces
  pub no_room : ltb (length l / piece-size) (length o.pieces) ≡ true → out (refused 14) (depths D M) P l ≡ settled (Some o) ms (depths D M) P l
  unfolding settled
  no_room e = rw e

  -- room for them
  pub room : (D' M' P' l' : List ℕ) (n : ℕ) → ltb (length l / piece-size) (length o.pieces) ≡ false → o.finished ≡ false
      → n ≡ length o.pieces → D' ≡ o.painter.buckets → M' ≡ ms → P' ≡ o.painter.steps ∷ o.painter.nesting ∷ [] → l' ≡ laid o.pieces l
      → out (listed n) (depths D' M') P' l' ≡ settled (Some o) ms (depths D M) P l
  unfolding settled
  room D' M' P' l' n e f q d m p h = rw (e, f, q, d, m, p, h)

-- a fill's call over its span, on the part of the list that is lent for runs
module _ (width : Width) (D M P l ys : List ℕ) (u : Summary) (layer : Bool) (id i panel : ℕ) (t : TileSpan) (a : Option ℕ) (h : t.first ≤ t.end) (g : t.end ≤ 8192) where
  runs : List Span
  runs = shown_runs (bucket-tiles width) u D id (tiles t)

  -- what the call gives
  abbrev pub Told : Result ℕ Refusal → Type 0
  Told r = depth.out r ys ≡ depth.listing (rule.listed false (length (lent l) / 2) (shown_runs (bucket-tiles width) u D id (tiles t))) (lent l)

  told : (r : Result ℕ Refusal) → Told r → depth.out r ys ≡ depth.listing (rule.listed false (length l / piece-size) runs) (lent l)
  unfolding runs
  told r e = e ∙ rw (lent-room l)

  pub fill_refused : (k : Refusal) → Told (Err k)
      → out (refused (number_of k)) (depths D M) P (back l ys) ≡ settled (Some (fill-shown (bucket-tiles width) no-attrs u layer id i panel (tiles t) a (painter-at D P))) M (depths D M) P l
  unfolding fill-shown runs
  fill_refused k e =
      let w = when_refused runs l ys k (told (Err k) e) in
      rw (w.0, w.1) (no_room D M P l _ M (rw length-map w.2))

  module _ (n : ℕ) (e : Told (Ok n)) where
    found : Listed runs l n (back l ys)
    found = when_listed runs l ys n (told (Ok n) e)

    abbrev pub brush : Brush
    brush = record { layer = layer; attrs_idx = i; first = t.first; alpha = a; nesting = word P 1; panel = panel }

    pub fill_ready : Moves a (t.end - t.first)
        → (piece-size * n ≤ length (back l ys)) × ((k : ℕ) → k < n → Fits 1 brush (run_at (back l ys) k))
    unfolding runs
    fill_ready m = (
      listed-room runs l n (back l ys) found,
      listed_at runs l n (back l ys) found (Fits 1 brush) (shown-fits width D id (tiles t) brush h g refl m u),
    )

    pub fill_done : (p : Painted) (P' l' : List ℕ) → advanced p P' ≡ advanced (listed n) ((word P 0 + 1) ∷ word P 1 ∷ [])
        → l' ≡ laid (map (piece 1 brush) (runs-at n (back l ys))) (back l ys)
        → out p (depths D M) P' l'
        ≡ settled (Some (fill-shown (bucket-tiles width) no-attrs u layer id i panel (tiles t) a (painter-at D P))) M (depths D M) P l
    unfolding fill-shown runs
    fill_done p P' l' o v =
        let f : Span → Piece = fill-piece (bucket-tiles width) no-attrs layer i panel (tiles t) a (word P 1) in
        let same : map (piece 1 brush) runs ≡ map f runs = same_map (piece 1 brush) f (λ x. simp mul-one) runs in
        ap (λ (x : Advanced). out x.answer (depths D M) x.painting l') o
        ∙ room D M P l _ M D M ((word P 0 + 1) ∷ word P 1 ∷ []) l' n
        (rw length-map found.roomy)
        refl
        (found.many ∙ rw length-map)
        refl
        refl
        refl
        (listed-spread runs l n (back l ys) found 1 brush l' v ∙ ap (λ (x : List Piece). laid x l) same)

-- a depth fill's call over its buckets, which writes
module _ (width : Width) (D M P l ys D' M' : List ℕ) (id i panel : ℕ) (b : BucketRange) (h : b.first ≤ b.end) (g : b.end ≤ length D) (k : 0 < id)
    (fit : length M ≡ minima-room (length D)) where
  unset : List Span
  unset = write-runs D (buckets b)

  good : (bad-range (length D) (buckets b) || eqb id 0) ≡ false
  good = rw (le-leb _ _ h, le-leb _ _ g, ne_eqb id 0 (λ z. omega arith))

  abbrev pub ToldWrite : Result ℕ Refusal → Type 0
  ToldWrite r = depth.out-write r ys D' M' ≡ depth.writing D M id (buckets b) (lent l)

  told-write : (r : Result ℕ Refusal) → ToldWrite r → depth.out r ys ≡ depth.listing (rule.listed false (length l / piece-size) unset) (lent l)
  unfolding write_answer unset
  told-write r e = ap (λ (o : depth.OutWrite). o.listed) e ∙ rw (eq-eqb _ _ fit, good, lent-room l)

  after : (r : Result ℕ Refusal) → ToldWrite r → (t : Bool) → ltb (length l / piece-size) (length unset) ≡ t → D' ≡ cond t D (written D id (buckets b))
  unfolding write_answer write-after unset
  after r e t q = ap (λ (o : depth.OutWrite). o.depth) e ∙ rw (eq-eqb _ _ fit, good, lent-room l, q) (go t)
    where
      go : (t : Bool)
          → cond (eqb (settle (cond t 14 0) [] (write-runs D (buckets b))).number 0) (written D id (buckets b)) D
          ≡ cond t D (written D id (buckets b))
      go true = refl
      go false = refl

  -- the minima after it
  abbrev pub mends : List ℕ
  mends = mended-runs (halvings (length D)) M (written D id (buckets b)) (write-runs D (buckets b))

  mended-after : (r : Result ℕ Refusal) → ToldWrite r → (t : Bool) → ltb (length l / piece-size) (length unset) ≡ t → M' ≡ cond t M mends
  unfolding write_answer minima-after unset
  mended-after r e t q = ap (λ (o : depth.OutWrite). o.minima) e ∙ rw (eq-eqb _ _ fit, good, lent-room l, q) (go t)
    where
      go : (t : Bool) → cond (eqb (settle (cond t 14 0) [] (write-runs D (buckets b))).number 0) mends M ≡ cond t M mends
      go true = refl
      go false = refl

  -- the depth fill's step
  abbrev pub marked : rules.Painted
  marked = gives (map (depth-piece (bucket-tiles width) no-attrs i panel) (write-runs D (buckets b))) (written D id (buckets b)) (word P 0 + 1) (word P 1)

  pub depth_refused : (k : Refusal) → ToldWrite (Err k) → out (refused (number_of k)) (depths D' M') P (back l ys) ≡ settled (Some marked) mends (depths D M) P l
  unfolding unset
  depth_refused k e =
      let w = when_refused unset l ys k (told-write (Err k) e) in
      rw (w.0, w.1, after (Err k) e true w.2, mended-after (Err k) e true w.2) (no_room D M P l marked mends (rw length-map w.2))

  module _ (n : ℕ) (e : ToldWrite (Ok n)) where
    found-unset : Listed unset l n (back l ys)
    found-unset = when_listed unset l ys n (told-write (Ok n) e)

    abbrev pub depth-brush : Brush
    depth-brush = record { layer = false; attrs_idx = i; first = 0; alpha = None; nesting = 0; panel = panel }

    pub depth_ready : b.end ≤ 65535
        → (piece-size * n ≤ length (back l ys)) × ((k : ℕ) → k < n → Fits (bucket-tiles width) depth-brush (run_at (back l ys) k))
    unfolding unset
    depth_ready m = (
      listed-room unset l n (back l ys) found-unset,
      listed_at unset l n (back l ys) found-unset (Fits (bucket-tiles width) depth-brush) (depth-fits (bucket-tiles width) (bucket-most width) D (buckets b) depth-brush h m refl refl),
    )

    pub depth_done : (p : Painted) (P' l' : List ℕ) → advanced p P' ≡ advanced (listed n) ((word P 0 + 1) ∷ word P 1 ∷ [])
        → l' ≡ laid (map (piece (bucket-tiles width) depth-brush) (runs-at n (back l ys))) (back l ys)
        → out p (depths D' M') P' l' ≡ settled (Some marked) mends (depths D M) P l
    unfolding unset
    depth_done p P' l' u v =
        ap (λ (x : Advanced). out x.answer (depths D' M') x.painting l') u
        ∙ room D M P l marked mends D' M' ((word P 0 + 1) ∷ word P 1 ∷ []) l' n
        (rw length-map found-unset.roomy)
        refl
        (found-unset.many ∙ rw length-map)
        (after (Ok n) e false found-unset.roomy)
        (mended-after (Ok n) e false found-unset.roomy)
        refl
        (listed-spread unset l n (back l ys) found-unset (bucket-tiles width) depth-brush l' v)
