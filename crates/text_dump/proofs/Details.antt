-- At the words that hold the rules' screen of an accepted file the parts write the text of the rules' details: the attributes, then each row in its order. Assumes nothing.
use Rattle.std.proofs.Common.{◌≡◌, refl, ap, ◌∙◌, Bool, true, ◌||◌, List, [], ◌++◌, ℕ, zero, suc, ◌+◌, ◌*◌, ◌≤◌, ◌<◌, arith, ltb, length, get_or, drop, length-append, drop-cons, le-leb, le-ltb, eq-eqb, ltb-false}
use lib.Seq.{drop-length}
use Rattle.sizes.specs.Sizes.{opacity-count, paint-attr-table, layer-attr-table, filter-paint-table}
use Rattle.rules.specs.Boxes.{rows_of}
use Rattle.rules.specs.Attributes.{no-layer}
use Rattle.rules.specs.Rows.{Row, fresh-row}
use Rattle.rules.specs.Plans.{Frame, bucket, buckets-across}
use Rattle.rules.specs.Minima.{minima-room}
use Rattle.rules.specs.Steps.{Screen}
use Rattle.rules.proofs.All.{neither, all-at}
use Rattle.screen.specs.Depths.{Depths}
use Rattle.screen.specs.Tables.{ScreenLent}
use Rattle.screen.proofs.ScreenLaws.{few-buckets}
use Rattle.paint.specs.Stepping.{attributes}
use Rattle.text.specs.Listed.{written, begun-with}
use Rattle.text.specs.Details.{painted-lines, attr-lines, detail-lines}
use Rattle.text.specs.Bytes.{details-text}
use Rattle.text.specs.Pieces.{piece-list}
use Rattle.text.specs.Dumped.{good-tables, attrs-dumped}
use Rattle.refine_steps.specs.Sound.{Fitting}
use Rattle.refine_steps.specs.Lent.{lent_of}
use Rattle.refine_text.proofs.Walked.{Kept}
use Rattle.theorem_picture.specs.Reached.{begin-at}
use Rattle.theorem_picture.specs.Rows.{row_out, row_at}
use Rattle.theorem_text.proofs.Attrs.{attrs-printed, details-parts, rows-parts}
use Rattle.theorem_text.proofs.Rows.{Waits, row-waits}
use Rattle.theorem_text.proofs.Played.{Ended}
use Rattle.theorem_text.proofs.Lines.{attrs-text-few}
use Rattle.theorem_text.proofs.Begun.{all-wait}
use Rattle.refine_paint.proofs.Painters.{all-taken}
use Rattle.theorem_text.proofs.Full.{row-long, theirs-text, row_written, rows-text-few}
use Rattle.text_files.specs.Programs.{first}
use Rattle.text_dump.specs.Dumped.{details-room, rows-dumped, details-dumped, heads, given}
use Rattle.text_dump.proofs.First.{Says, after-says, room-left}

module _ (v : Bool) (s : Screen Row) (fit : (i : ℕ) → Fitting 64 64 (get_or s.rows i fresh-row)) (narrow : buckets-across s.state.frame ≤ 64) where
  -- the rules' text of the rows from row r on
  abbrev rest : ℕ → List ℕ
  rest r = details-text v (painted-lines (bucket s.state.frame) s.state.attrs (buckets-across s.state.frame) r (drop r s.rows))

  rest-none : rest (length s.rows) ≡ []
  unfolding painted-lines
  rest-none = rw (drop-length s.rows)

  rows_are : (k r : ℕ) → r + k ≡ length s.rows → (m : ScreenLent) → ((j : ℕ) → r ≤ j → j < length s.rows → Waits s j m) → (list : List ℕ) → piece-list ≤ length list
      → (bs : List ℕ) → length (rest r) ≤ length bs
      → Says (rest r) bs (rows-dumped v k r m.screen (attributes m.tables.paint-attrs m.tables.layer-attrs) (given m.tables list) bs)
  unfolding rows-dumped
  rows_are zero r e m h list long bs room =
      let q : r ≡ length s.rows = omega arith in
      let z : rest r ≡ [] = ap rest q ∙ rest-none in
      rw z (record { count = refl; bytes = refl })
  rows_are (suc k) r e m h list long bs room =
      let there : r < length s.rows = omega arith in
      let w = h r (omega arith) there in
      let f = fit r in
      let few = f.commands in
      let t = theirs-text w few narrow list long v in
      let parts : rest r ≡ t ++ rest (suc r) =
      ap (λ (rs : List Row). details-text v (painted-lines (bucket s.state.frame) s.state.attrs (buckets-across s.state.frame) r rs)) (drop-cons s.rows r fresh-row there)
      ∙ rows-parts v (bucket s.state.frame) s.state.attrs (buckets-across s.state.frame) r (get_or s.rows r fresh-row) (drop (suc r) s.rows) in
      let fits : length (t ++ rest (suc r)) ≤ length bs = rw parts at room in
      let own : length t ≤ length bs = omega (arith, fits, length-append t (rest (suc r))) in
      let long-on : piece-list ≤ length (row_out r list m).list = rw (row-long r m list) long in
      rw (parts, row_written w few narrow list long v bs own)
      (after-says t (rest (suc r)) bs _
      (rows_are k (suc r) (omega arith) (row_at r list m) (λ j a b. row-waits (h j (omega arith) b) r list (λ q. omega arith)) (row_out r list m).list long-on (drop (length t) (first t bs)) (room-left t (rest (suc r)) bs fits)))

-- a screen of an accepted file, at its words
module _ (v : Bool) (f : Frame) (s : Screen Row) (kept : Kept f s) (c : f.c ≡ 64) (d : f.d ≡ 64) (few-rows : rows_of f.viewport ≤ 32) (over : Ended s) (b : Bool) (de : Depths) (pa : List ℕ) where
  abbrev m : ScreenLent
  m = lent_of s b de pa

  fit : (i : ℕ) → Fitting 64 64 (get_or s.rows i fresh-row)
  fit i = rw (kept.frame, c, d) at (kept.sound.rows i)

  narrow : buckets-across s.state.frame ≤ 64
  narrow = few-buckets s.state.frame.viewport kept.sound.viewport s.state.frame.width

  rows_few : length s.rows ≤ 32
  rows_few = rw (kept.sound.count, kept.frame) few-rows

  -- the tables of attributes are as long as they have to be
  module _ (paints : length m.tables.paint-attrs ≡ paint-attr-table) (layers : length m.tables.layer-attrs ≡ layer-attr-table) (opacities : length m.tables.opacities ≡ opacity-count)
      (filters : length m.tables.filter-paints ≡ filter-paint-table) where
    good : good-tables m.screen (heads m.tables) ≡ true
    unfolding lent_of
    good =
        let a = s.state.attrs in
        let x = neither (ltb 1024 (length a.paints) || ltb 1024 (length a.layers)) (ltb 256 (length a.filters)) kept.sound.attrs in
        let y = neither (ltb 1024 (length a.paints)) (ltb 1024 (length a.layers)) x.0 in
        rw (
          le-leb (length a.paints) 1024 (ltb-false _ _ y.0),
          le-leb (length a.layers) 1024 (ltb-false _ _ y.1),
          le-leb (length a.filters) 256 (ltb-false _ _ x.1),
          eq-eqb _ _ paints,
          eq-eqb _ _ layers,
          eq-eqb _ _ opacities,
          eq-eqb _ _ filters,
        )

    abbrev own-text : List ℕ
    own-text = details-text v (attr-lines s.state.attrs)

    attrs-are : (bs : List ℕ) → length own-text ≤ length bs → attrs-dumped v m.screen (heads m.tables) bs ≡ begun-with own-text bs
    unfolding attrs-dumped written
    attrs-are bs h =
        rw (good, attrs-printed v s kept.sound (λ i g. all-at over.small.attrs i no-layer g) b de pa, le-ltb (length bs) (length own-text) h)

    -- The attributes and the rows: the rules' details.
    pub details-are : length de.words ≡ rows_of s.state.frame.viewport * buckets-across s.state.frame
        → length de.minima ≡ rows_of s.state.frame.viewport * minima-room (buckets-across s.state.frame) → length pa ≡ rows_of s.state.frame.viewport * 2
        → (list : List ℕ) → piece-list ≤ length list → (bs : List ℕ) → details-room ≤ length bs
        → Says (details-text v (detail-lines s)) bs (details-dumped v m.screen (length s.rows) (heads m.tables) (given m.tables list) bs)
    unfolding details-dumped begin-at
    details-are hd hm hp list long bs room =
        let x = attrs-text-few v s.state.attrs kept.sound.attrs in
        let y = rows-text-few v (bucket s.state.frame) s.state.attrs (buckets-across s.state.frame) 0 s.rows narrow fit
        (λ j. all-taken s.state.attrs (buckets-across s.state.frame) (get_or s.rows j fresh-row) (kept.fair j)) in
        let own : length own-text ≤ length bs = omega (arith, x, room) in
        let n = rows_few in
        let fits : length (own-text ++ rest v s fit narrow 0) ≤ length bs = rw (length-append own-text (rest v s fit narrow 0)) (omega (arith, x, y, n, room)) in
        rw (details-parts v s, attrs-are bs own)
        (after-says own-text (rest v s fit narrow 0) bs _
        (rows_are v s fit narrow (length s.rows) 0 (omega arith) (begin-at m).value (λ j a h. all-wait s kept.sound kept.fair over.closed b de pa hd hm hp j h) list long
        (drop (length own-text) (first own-text bs)) (room-left own-text (rest v s fit narrow 0) bs fits)))
