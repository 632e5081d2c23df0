-- A painting step at the words of a canvas is the rules' painting step. Assumes nothing.
use Rattle.std.proofs.Common.{◌≡◌, refl, sym, ap, ◌∙◌, Bool, true, false, ◌||◌, cond, List, [], ◌∷◌, ◌++◌, Some, ℕ, zero, suc, ◌*◌, ◌/◌, ◌≤◌, ◌<◌, arith, leb, ltb, eqb, length, get_or, set, take_at}
use Rattle.std.proofs.Common.{drop_at, ne_eqb, eq-eqb, leb-false, ltb-false}
use borrow.Author.Tests.{lt-leb}
use Rattle.sizes.specs.Sizes.{paint-attr-size, paint-id-at, paint-panel-at, paint-attr-table, layer-attr-size, layer-id-at, layer-panel-at, layer-attr-table, piece-size}
use Rattle.rules.specs.Lists.{join, is-empty}
use Rattle.rules.specs.Answers.{settle, Done, BadRun, Open, NoRoom}
use Rattle.rules.specs.Boxes as boxes
use Rattle.screen.specs.Attributes.{paint-attr-words}
use Rattle.rules.specs.Rows.{Row, fresh-row}
use Rattle.rules.specs.Steps as rule
use Rattle.rules.specs.Painting.{Painter, Painted, begin, paint-step}
use Rattle.rules.specs.Plans.{buckets-across, Layer}
use Rattle.rules.specs.Calls as calls
use Rattle.rules.specs.Calls.{paint-call, given, with-painter}
use Rattle.rules.specs.Minima.{summary, minima-room}
use Rattle.rules.proofs.All.{All, nil, cons, neither, all-at, and_right}
use Rattle.row.specs.Words.{Words}
use Rattle.row.specs.Arena.{sizes, Long}
use Rattle.row.proofs.RowsLaws.{part-0, part-suc, put-0, put-suc}
use Rattle.refine_row.specs.Encode.{encode, state-of}
use Rattle.refine_row.proofs.Screens.{screen-long}
use Rattle.screen.specs.Depths.{depths}
use Rattle.refine_steps.specs.Lent.{table, attr-words, screen-of, rows_of}
use Rattle.refine_steps.proofs.Tables.{table-length, join-length}
use Rattle.paint.specs.Summaries.{summary-at, Sound}
use Rattle.paint.specs.Painting.{out, refused, left, painter-at, settled}
use Rattle.paint.specs.Standing.{Stands, PainterReady, Holds}
use Rattle.paint.specs.Judging.{arenas-long, tables-long, step_number}
use Rattle.paint.specs.Stepping.{part, with_part, in_place, number, stepped}
use Rattle.paint.proofs.ScreenLaws.{step-by-rules}
use Rattle.refine_paint.specs.Canvases.{buckets-in, minima-in, standing-in, depth-of, painting-of, WholeCanvas, given_out, attributes-of, words_of}
use Rattle.refine_paint.proofs.Standing.{join-at}
use Rattle.refine_paint.proofs.Kept.{fine-at, own-words, row-stands}
use Rattle.refine_paint.proofs.Painters.{going-ready, step-mended}
use Rattle.refine_paint.proofs.Begin.{judged-0, all-standing, all-summaries, depth-long, minima-long, painting-long}

-- a painter's own part, and another painter's words in its place
module _ (f : Painter → List ℕ) (k : ℕ) where
  pub part_join : {ps : List Painter} → All (λ (p : Painter). length (f p) ≡ k) ps → (i : ℕ) (d : Painter) → i < length ps → part k i (join f ps) ≡ f (get_or ps i d)
  part_join nil i d h = absurd (omega arith)
  part_join (cons {x = p} {xs = ps} e es) zero d h = part-0 k 0 (f p ++ join f ps) ∙ take_at (f p) (join f ps) k e
  part_join (cons {x = p} {xs = ps} e es) (suc i) d h = sym (part-suc k i (f p ++ join f ps)) ∙ rw (drop_at (f p) (join f ps) k e) (part_join es i d (omega arith))

  pub put-join : {ps : List Painter} → All (λ (p : Painter). length (f p) ≡ k) ps → (i : ℕ) (q : Painter) → i < length ps → with_part k i (join f ps) (f q) ≡ join f (set ps i q)
  put-join nil i q h = absurd (omega arith)
  put-join (cons {x = p} {xs = ps} e es) zero q h = put-0 k 0 (f p ++ join f ps) (f q) ∙ ap (λ (t : List ℕ). f q ++ t) (drop_at (f p) (join f ps) k e)
  put-join (cons {x = p} {xs = ps} e es) (suc i) q h =
      sym (put-suc k i (f p ++ join f ps) (f q)) ∙ rw (take_at (f p) (join f ps) k e, drop_at (f p) (join f ps) k e) (ap (λ (t : List ℕ). f p ++ t) (put-join es i q (omega arith)))

pub set_same : (ps : List Painter) (i : ℕ) (d : Painter) → i < length ps → set ps i (get_or ps i d) ≡ ps
set_same [] i d h = absurd (omega arith)
set_same (p ∷ ps) zero d h = refl
set_same (p ∷ ps) (suc i) d h = ap (λ (t : List Painter). p ∷ t) (set_same ps i d (omega arith))

-- the tables hold the attributes' ids and panels
pub holds : (s : rule.Screen Row) → Holds s.state.attrs (attributes-of s).paints (length s.state.attrs.paints) (attributes-of s).layers (length s.state.attrs.layers)
unfolding table
holds s =
    record {
      paint-count = refl;
      layer-count = refl;
      paint-ids = λ i h. join-at paint-attr-words paint-attr-size (λ x. refl) s.state.attrs.paints _ i paint-id-at _ h (omega arith);
      layer-ids = λ i h. join-at attr-words layer-attr-size (λ x. refl) s.state.attrs.layers _ i layer-id-at _ h (omega arith);
      paint-panels = λ i h. join-at paint-attr-words paint-attr-size (λ x. refl) s.state.attrs.paints _ i paint-panel-at _ h (omega arith);
      layer-panels = λ i h. join-at attr-words layer-attr-size (λ x. refl) s.state.attrs.layers _ i layer-panel-at _ h (omega arith);
    }

-- 12 without such a row, 13 where painting does not go on
pub row_number : (t b : Bool) → cond (eqb (cond t BadRun Done) Done) (cond b Done Open) (cond t BadRun Done) ≡ cond t BadRun (cond b Done Open)
row_number true b = refl
row_number false true = refl
row_number false false = refl

-- no open layer, by their number
pub none_open : (ls : List Layer) → eqb (length ls) 0 ≡ is-empty ls
none_open [] = refl
none_open (x ∷ ls) = ne_eqb (suc (length ls)) 0 (λ e. omega arith)

module _ (k : calls.Canvas) (w : WholeCanvas k) (i : ℕ) (l : List ℕ) where
  abbrev s : rule.Screen Row
  s = k.screen

  abbrev n : ℕ
  n = buckets-across s.state.frame

  pub long : Long (sizes s.state.frame.c s.state.frame.d) (boxes.rows_of s.state.frame.viewport) (rows_of s)
  long = rw (← w.sound.count) (screen-long s.state.frame.c s.state.frame.d s.rows)

  pub few : (length s.state.attrs.paints ≤ 1024) × (length s.state.attrs.layers ≤ 1024)
  few =
      let f1 = ltb 1024 (length s.state.attrs.paints) in
      let f2 = ltb 1024 (length s.state.attrs.layers) in
      let h = neither f1 f2 (neither (f1 || f2) (ltb 256 (length s.state.attrs.filters)) w.sound.attrs).0 in
      (ltb-false _ _ h.0, ltb-false _ _ h.1)

  pub paints-long : length (attributes-of s).paints ≡ paint-attr-table
  paints-long = table-length 0 paint-attr-table (join paint-attr-words s.state.attrs.paints) (omega (arith, join-length paint-attr-words paint-attr-size (λ x. refl) s.state.attrs.paints, few.0))

  pub layers-long : length (attributes-of s).layers ≡ layer-attr-table
  layers-long = table-length 0 layer-attr-table (join attr-words s.state.attrs.layers) (omega (arith, join-length attr-words layer-attr-size (λ x. refl) s.state.attrs.layers, few.1))

  step-judged : number (screen-of s.state k.begun) i (attributes-of s) (words_of k l) ≡ cond (leb (length s.rows) i) BadRun (cond (calls.paints-on k) Done Open)
  unfolding step_number
  step-judged =
      let e1 = eq-eqb _ _ long.render in
      let e2 = eq-eqb _ _ long.fills in
      let e3 = eq-eqb _ _ (depth-long k w) in
      let e8 = eq-eqb _ _ (minima-long k w) in
      let e4 = eq-eqb _ _ long.state in
      let e5 = eq-eqb _ _ (painting-long k w) in
      let e6 = eq-eqb _ _ paints-long in
      let e7 = eq-eqb _ _ layers-long in
      let x : arenas-long (screen-of s.state k.begun) (length (rows_of s).render) (length (rows_of s).fills) (length (depth-of k.painters).words) (length (depth-of k.painters).minima) ≡ true = rw (e1, e2, e3, e8) in
      let y : tables-long (screen-of s.state k.begun) (length (rows_of s).state) (length (painting-of k.painters)) (length (attributes-of s).paints) (length (attributes-of s).layers) ≡ true = rw (e4, e5, e6, e7) in
      rw (judged-0 s w.sound k.begun _ _ x y, ← w.sound.count, none_open s.state.layers) (row_number (leb (length s.rows) i) (calls.paints-on k))

  -- the step of a row that is there, where painting goes on
  module _ (b : calls.paints-on k ≡ true) (h : i < length s.rows) where
    on : k.begun ≡ true
    on = and_right (is-empty s.state.layers) k.begun b

    abbrev r : Row
    r = get_or s.rows i fresh-row

    abbrev p : Painter
    p = get_or k.painters i (begin 0)

    abbrev o : Painted
    o = paint-step (calls.bucket-on k) s.state.attrs r p

    there : i < length k.painters
    there = rw w.count h

    own-depth : part n i (depth-of k.painters).words ≡ p.buckets
    own-depth = part_join buckets-in n w.wide i (begin 0) there

    own-minima : part (minima-room n) i (depth-of k.painters).minima ≡ summary p.buckets
    own-minima = part_join minima-in (minima-room n) (all-summaries k w) i (begin 0) there

    own-painting : part 2 i (painting-of k.painters) ≡ standing-in p
    own-painting = part_join standing-in 2 (all-standing k.painters) i (begin 0) there

    own-state : part 54 i (rows_of s).state ≡ state-of r
    unfolding encode
    own-state = ap (λ (x : Words). x.state) (own-words s i h)

    done-number : number (screen-of s.state k.begun) i (attributes-of s) (words_of k l) ≡ 0
    done-number = step-judged ∙ rw (lt-leb (length s.rows) i h, b)

    by-step : stepped (screen-of s.state k.begun) i (attributes-of s) (words_of k l)
        ≡ in_place (screen-of s.state k.begun) i (words_of k l) (settled (Some o) (summary o.painter.buckets) (depths p.buckets (summary p.buckets)) (standing-in p) l)
    by-step =
        let a = s.state.attrs in
        let m : length p.buckets ≡ n = all-at w.wide i (begin 0) there in
        let mended = step-mended a n r (fine-at w.sound.built.fine i) (w.fair i) p (w.going on i h) in
        let g : Stands a (length (part n i (depth-of k.painters).words)) r (part 54 i (rows_of s).state) (part (4 * s.state.frame.c) i (rows_of s).render) (part (2 * s.state.frame.d) i (rows_of s).fills) =
        rw (own-depth, m) (row-stands s i h w.sound w.fair) in
        let q : PainterReady a r (painter-at (part n i (depth-of k.painters).words) (part 2 i (painting-of k.painters))) =
        rw (own-depth, own-painting) (going-ready a n r (fine-at w.sound.built.fine i) (w.fair i) p (w.going on i h)) in
        let u : Sound (calls.bucket-on k) (summary-at (part 54 i (rows_of s).state)) (part n i (depth-of k.painters).words) = rw (own-state, own-depth) (w.going on i h).sound in
        step-by-rules (screen-of s.state k.begun) i (attributes-of s) (words_of k l) done-number a (holds s) r g q u ∙ rw (own-depth, own-minima, own-painting, mended)

    -- 14 alters nothing; done, the row's painter is the rules'
    step-out : in_place (screen-of s.state k.begun) i (words_of k l) (settled (Some o) (summary o.painter.buckets) (depths p.buckets (summary p.buckets)) (standing-in p) l) ≡ given_out (paint-call i (length l / piece-size) k) l
    unfolding settled paint-call
    step-out = rw (lt-leb (length s.rows) i h, b, on) (go (ltb (length l / piece-size) (length o.pieces)))
      where
        kept : (f : Painter → List ℕ) (m : ℕ) → All (λ (x : Painter). length (f x) ≡ m) k.painters → with_part m i (join f k.painters) (f p) ≡ join f k.painters
        kept f m a = put-join f m a i p there ∙ ap (join f) (set_same k.painters i (begin 0) there)

        go : (u : Bool)
            → in_place (screen-of s.state true) i (words_of k l) (cond u (out (refused NoRoom) (depths p.buckets (summary p.buckets)) (standing-in p) l) (left o (summary o.painter.buckets) l))
            ≡ given_out
            (settle (cond u NoRoom Done)
            (given (record { finished = false; pieces = []; painter = p }) (record { screen = s; begun = true; painters = k.painters }))
            (given o (with-painter k true i o.painter)))
            l
        go true = rw (kept buckets-in n w.wide, kept minima-in (minima-room n) (all-summaries k w), kept standing-in 2 (all-standing k.painters))
        go false = rw (put-join buckets-in n w.wide i o.painter there, put-join minima-in (minima-room n) (all-summaries k w) i o.painter there, put-join standing-in 2 (all-standing k.painters) i o.painter there)

  abbrev Same : Type 0
  Same = stepped (screen-of s.state k.begun) i (attributes-of s) (words_of k l) ≡ given_out (paint-call i (length l / piece-size) k) l

  missing : leb (length s.rows) i ≡ true → Same
  unfolding stepped paint-call
  missing e = rw (step-judged, e)

  not-begun : leb (length s.rows) i ≡ false → calls.paints-on k ≡ false → Same
  unfolding stepped paint-call
  not-begun e f = rw (step-judged, e, f)

  -- The call at the words: the rules' number, pieces and painter, and nothing else altered.
  pub step_by : stepped (screen-of s.state k.begun) i (attributes-of s) (words_of k l) ≡ given_out (paint-call i (length l / piece-size) k) l
  step_by = go (leb (length s.rows) i) (calls.paints-on k) refl refl
    where
      go : (t b : Bool) → leb (length s.rows) i ≡ t → calls.paints-on k ≡ b → Same
      go true b e f = missing e
      go false false e f = not-begun e f
      go false true e f = let h : i < length s.rows = leb-false _ _ e in by-step f h ∙ step-out f h
