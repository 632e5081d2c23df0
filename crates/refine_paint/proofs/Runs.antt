-- The direct runs and `can_skip` at the words of a canvas are the rules', and the writing run keeps a canvas whole. Assumes nothing.
use Rattle.std.proofs.Common.{◌≡◌, refl, sym, ap, ◌∙◌, Bool, true, false, ◌||◌, cond, List, [], ◌∷◌, Option, None, Some, ℕ, ◌/◌, ◌≤◌, ◌<◌, arith, leb, ltb, eqb, length, get_or, length-set, eq-eqb, eqb-true, le-leb, leb-false}
use Rattle.rules.specs.Lists.{join, is-empty}
use Rattle.rules.specs.Answers.{Answer, answer, settle, first_of, Done, BadRun, NoRoom}
use Rattle.rules.specs.Spans.{Span, span, bad-range}
use Rattle.rules.specs.Commands.{DepthFill}
use Rattle.rules.specs.Depth.{apart, can_skip, can_skip_answer, write-runs, unset_answer, visible_answer, write_answer, write-after, written}
use Rattle.rules.specs.Attributes.{Attrs}
use Rattle.rules.specs.Rows.{Row, fresh-row}
use Rattle.rules.specs.Plans.{buckets-across}
use Rattle.rules.specs.Steps as rule
use Rattle.rules.specs.Painting.{Painter, begin, no-fill}
use Rattle.rules.specs.Calls as calls
use Rattle.rules.specs.Minima.{summary, minima-room, minima-after, hidden_answer}
use Rattle.rules.specs.Calls.{unset-call, visible-call, write-call, hidden-call, can-skip-call, with-painter}
use Rattle.rules.proofs.All.{never, all-at}
use Rattle.rules.proofs.laws.Answers.{settle-kept}
use Rattle.rules.proofs.laws.Minima.{length-summary}
use Rattle.rules.proofs.laws.Widths.{each, meets}
use Rattle.row.specs.Words.{Words}
use Rattle.depth.specs.Listing.{listing, writing}
use Rattle.refine_row.specs.Encode.{encode, state-of, Fine}
use Rattle.refine_steps.specs.Lent.{screen-of, rows_of}
use Rattle.refine_steps.proofs.Judged.{rows_long}
use Rattle.screen.specs.declared.Screen.{Screen}
use Rattle.screen.specs.Depths.{Depths, depths}
use Rattle.paint.specs.Summaries.{good-summary, summary-at}
use Rattle.paint.proofs.Skips.{passes}
use Rattle.paint.specs.Judging as judging
use Rattle.paint.specs.Judging.{runs_number, write_number, hidden_number, skip_number}
use Rattle.paint.specs.Beginning.{begun}
use Rattle.paint.specs.Stepping.{part, with_part}
use Rattle.paint.specs.DirectRuns.{Wrote, or-runs, unset-of, visible-of, write-in-place, write-of, hidden-of-row, record-skip, skip-of-row}
use Rattle.rules_picture.proofs.Newest.{written-length}
use Rattle.rules_picture.proofs.Mending.{mended-afresh}
use Rattle.refine_paint.specs.Fair.{Fair}
use Rattle.refine_paint.specs.Canvases.{buckets-in, minima-in, standing-in, depth-of, painting-of, WholeCanvas, wrote_of}
use Rattle.refine_paint.proofs.Kept.{fine-at, own-words, row-stands}
use Rattle.refine_paint.proofs.Painters.{summary-same, taken}
use Rattle.refine_paint.proofs.Begin.{judged-0, all-standing, all-summaries, depth-long, minima-long, depths-judged}
use Rattle.refine_paint.proofs.Step.{part_join, put-join, set_same}
use Rattle.refine_paint.proofs.Whole.{all_set}

-- the summary of a row's words answers as the row's own
module _ {v : ℕ} (a : Attrs) (n : ℕ) (r : Row) (o : Fine r) (h : Fair v a n r) (t : Span) (id : ℕ) where
  apart_none : (z : Bool) → apart (cond z None (Some (span 0 0))) t ≡ true
  apart_none true = refl
  apart_none false = rw (le-leb 0 t.first (omega arith))

  some-fill : (fs : List DepthFill) → is-empty fs ≡ false → 0 < length fs
  some-fill [] e = never e
  some-fill (f ∷ fs) e = omega arith

  skip-same : can_skip (summary-at (state-of r)) t id ≡ can_skip r.depth t id
  unfolding can_skip
  skip-same = go r.depth.union refl
    where
      go : (u : Option Span) → r.depth.union ≡ u → can_skip (summary-at (state-of r)) t id ≡ can_skip r.depth t id
      go None e = rw (e, apart_none (eqb r.depth.largest 0))
      go (Some u) e =
          let m : is-empty r.fills ≡ false = sym o.summary ∙ rw e in
          let f = all-at h.fills 0 no-fill (some-fill r.fills m) in
          let i = taken a (get_or r.fills 0 no-fill).attribute f.attributed in
          ap (λ d. can_skip d t id) (summary-same r.depth r.depth.union refl (rw e) (omega (arith, f.included.below)))

module _ (k : calls.Canvas) (w : WholeCanvas k) (i : ℕ) where
  abbrev s : rule.Screen Row
  s = k.screen

  abbrev n : ℕ
  n = buckets-across s.state.frame

  abbrev v : ℕ
  v = calls.bucket-on k

  abbrev here : Screen
  here = screen-of s.state k.begun

  abbrev depth : Depths
  depth = depth-of k.painters

  abbrev p : Painter
  p = get_or k.painters i (begin 0)

  runs-judged : runs_number here i (length depth.words) ≡ cond (leb (length s.rows) i) BadRun Done
  unfolding runs_number
  runs-judged =
      let x : judging.depth-long here (length depth.words) ≡ true = eq-eqb _ _ (depth-long k w) in
      rw (judged-0 s w.sound k.begun _ true x refl, ← w.sound.count)

  write-judged : write_number here i (length depth.words) (length depth.minima) ≡ cond (leb (length s.rows) i) BadRun Done
  unfolding write_number
  write-judged = rw (judged-0 s w.sound k.begun _ true (depths-judged k w) refl, ← w.sound.count)

  hidden-judged : hidden_number here i (length depth.minima) ≡ cond (leb (length s.rows) i) BadRun Done
  unfolding hidden_number
  hidden-judged =
      let x : judging.minima-long here (length depth.minima) ≡ true = eq-eqb _ _ (minima-long k w) in
      rw (judged-0 s w.sound k.begun _ true x refl, ← w.sound.count)

  skip-judged : skip_number here i (length (rows_of s).state) ≡ cond (leb (length s.rows) i) BadRun Done
  unfolding skip_number
  skip-judged =
      let x : judging.rows_long here (length (rows_of s).state) ≡ true = eq-eqb _ _ (rows_long s w.sound).state in
      rw (judged-0 s w.sound k.begun true _ refl x, ← w.sound.count)

  there : leb (length s.rows) i ≡ false → i < length k.painters
  there e = rw w.count (leb-false _ _ e)

  own-depth : leb (length s.rows) i ≡ false → part n i depth.words ≡ p.buckets
  own-depth e = part_join buckets-in n w.wide i (begin 0) (there e)

  own-minima : leb (length s.rows) i ≡ false → part (minima-room n) i depth.minima ≡ summary p.buckets
  own-minima e = part_join minima-in (minima-room n) (all-summaries k w) i (begin 0) (there e)

  -- runs that are only read
  module _ (f : List ℕ → Answer (List Span)) (l : List ℕ) where
    by_runs : listing (or-runs (runs_number here i (length depth.words)) (f (part n i depth.words))) l ≡ listing (calls.of_row (leb (length s.rows) i) [] (f p.buckets)) l
    by_runs = rw runs-judged (go (leb (length s.rows) i) refl)
      where
        go : (b : Bool) → leb (length s.rows) i ≡ b → listing (or-runs (cond b BadRun Done) (f (part n i depth.words))) l ≡ listing (calls.of_row b [] (f p.buckets)) l
        go true e = refl
        go false e = rw (own-depth e)

  -- The calls at the words: the rules' numbers and runs, 12 and 14 among them.
  pub unset-by : (t : Span) (l : List ℕ) → unset-of here i depth.words t l ≡ listing (unset-call i (length l / 2) t k) l
  unfolding unset-of unset-call
  unset-by t l = by_runs (λ bs. unset_answer v bs t (length l / 2)) l

  pub visible-by : (id : ℕ) (t : Span) (l : List ℕ) → visible-of here i depth.words t id l ≡ listing (visible-call id i (length l / 2) t k) l
  unfolding visible-of visible-call
  visible-by id t l = by_runs (λ bs. visible_answer v bs id t (length l / 2)) l

  pub hidden-by : (t : Span) (id : ℕ) → hidden-of-row here i depth.minima t id ≡ hidden-call i t id k
  unfolding hidden-of-row hidden-call
  hidden-by t id = rw hidden-judged (go (leb (length s.rows) i) refl)
    where
      go : (b : Bool) → leb (length s.rows) i ≡ b
          → cond (eqb (cond b BadRun Done) Done) (hidden_answer (part (minima-room n) i depth.minima) n t id) (answer (cond b BadRun Done) false)
          ≡ calls.of_row b false (hidden_answer (summary p.buckets) (length p.buckets) t id)
      go true e = refl
      go false e = rw (own-minima e, all-at w.wide i (begin 0) (there e))

  module _ (id : ℕ) (t : Span) (m : ℕ) where
    abbrev wrote-answer : Answer (List Span)
    wrote-answer = write_answer p.buckets id t m

    -- the painter after the writing run
    abbrev q : Painter
    q = record { buckets = write-after p.buckets id t m; steps = p.steps; nesting = p.nesting }

    kept : eqb wrote-answer.number Done ≡ false → write-after p.buckets id t m ≡ p.buckets
    unfolding write-after
    kept e = rw e

    after-long : length (write-after p.buckets id t m) ≡ length p.buckets
    unfolding write-after written
    after-long = go (eqb wrote-answer.number Done)
      where
        go : (b : Bool) → length (cond b (written p.buckets id t) p.buckets) ≡ length p.buckets
        go true = written-length p.buckets id t
        go false = refl

    refused_none : eqb wrote-answer.number Done ≡ false → wrote-answer.value ≡ []
    unfolding write_answer
    refused_none = settle-kept (first_of ((bad-range (length p.buckets) t || eqb id 0, BadRun) ∷ (ltb m (length (write-runs p.buckets t)), NoRoom) ∷ [])) [] (write-runs p.buckets t)

    -- what the call gives in a row that is there, done or not; and in any
    abbrev settled : Bool → Answer (calls.Given (List Span))
    settled b = cond b (answer Done (calls.given wrote-answer.value (with-painter k false i q))) (answer wrote-answer.number (calls.given [] k))

    abbrev written_on : Bool → Answer (calls.Given (List Span))
    written_on missing = let a = calls.of_row missing [] wrote-answer in settle a.number (calls.given [] k) (calls.given a.value (with-painter k false i q))

    -- no painter's steps and nesting change
    pub same-standing : painting-of (write-call id i m t k).value.canvas.painters ≡ painting-of k.painters
    unfolding write-call
    same-standing = go (leb (length s.rows) i) refl
      where
        changed : leb (length s.rows) i ≡ false → (b : Bool) → painting-of (settled b).value.canvas.painters ≡ painting-of k.painters
        changed e false = refl
        changed e true =
            sym (put-join standing-in 2 (all-standing k.painters) i q (there e))
            ∙ put-join standing-in 2 (all-standing k.painters) i p (there e)
            ∙ ap painting-of (set_same k.painters i (begin 0) (there e))

        go : (b : Bool) → leb (length s.rows) i ≡ b → painting-of (written_on b).value.canvas.painters ≡ painting-of k.painters
        go true e = refl
        go false e = changed e (eqb wrote-answer.number Done)

    pub same-screen : (write-call id i m t k).value.canvas.screen ≡ s
    unfolding write-call
    same-screen = go (leb (length s.rows) i)
      where
        there-same : (b : Bool) → (settled b).value.canvas.screen ≡ s
        there-same true = refl
        there-same false = refl

        go : (b : Bool) → (written_on b).value.canvas.screen ≡ s
        go true = refl
        go false = there-same (eqb wrote-answer.number Done)

    pub write-whole : WholeCanvas (write-call id i m t k).value.canvas
    unfolding write-call
    write-whole = go (leb (length s.rows) i) refl
      where
        changed : leb (length s.rows) i ≡ false → (b : Bool) → WholeCanvas (settled b).value.canvas
        changed e false = w
        changed e true =
            record {
              sound = w.sound;
              fair = w.fair;
              count = length-set k.painters i q ∙ w.count;
              wide = all_set i q (after-long ∙ all-at w.wide i (begin 0) (there e)) w.wide;
              closed = λ z. never (sym z);
              going = λ z. never (sym z);
            }

        go : (b : Bool) → leb (length s.rows) i ≡ b → WholeCanvas (written_on b).value.canvas
        go true e = w
        go false e = changed e (eqb wrote-answer.number Done)

  module _ (id : ℕ) (t : Span) (l : List ℕ) where
    abbrev m : ℕ
    m = length l / 2

    abbrev a : Answer (List Span)
    a = write_answer p.buckets id t m

    -- the depth words and minima after the row's own are written
    abbrev left-depth : Depths
    left-depth =
        depths (with_part n i depth.words (write-after p.buckets id t m))
        (with_part (minima-room n) i depth.minima (minima-after (summary p.buckets) p.buckets id t m))

    place : leb (length s.rows) i ≡ false → (b : Bool) → eqb a.number Done ≡ b
        → ◌≡◌ {A = Wrote} (record { listed = listing a l; screen = cond b (begun false here) here; depth = left-depth })
        (wrote_of (settled id t m b) l)
    place e true u =
        let y : listing a l ≡ listing (answer Done a.value) l = ap (λ (j : ℕ). listing (answer j a.value) l) (eqb-true a.number Done u) in
        rw (mended-afresh p.buckets id t m, put-join buckets-in n w.wide i (q id t m) (there e), put-join minima-in (minima-room n) (all-summaries k w) i (q id t m) (there e), y)
    place e false u =
        let z : with_part n i depth.words p.buckets ≡ depth.words = put-join buckets-in n w.wide i p (there e) ∙ ap (join buckets-in) (set_same k.painters i (begin 0) (there e)) in
        let x : with_part (minima-room n) i depth.minima (summary p.buckets) ≡ depth.minima = put-join minima-in (minima-room n) (all-summaries k w) i p (there e) ∙ ap (join minima-in) (set_same k.painters i (begin 0) (there e)) in
        let y : listing a l ≡ listing (answer a.number []) l = ap (λ (rs : List Span). listing (answer a.number rs) l) (refused_none id t m u) in
        rw (mended-afresh p.buckets id t m, kept id t m u, z, x, y)

    pub write-by : write-of here i depth id t l ≡ wrote_of (write-call id i (length l / 2) t k) l
    unfolding write-of write-call listing
    write-by = rw write-judged (go (leb (length s.rows) i) refl)
      where
        go : (b : Bool) → leb (length s.rows) i ≡ b
            → cond (eqb (cond b BadRun Done) Done) (write-in-place here i depth (writing (part n i depth.words) (part (minima-room n) i depth.minima) id t l)) (record { listed = listing (answer (cond b BadRun Done) []) l; screen = here; depth = depth })
            ≡ wrote_of (written_on id t m b) l
        go true e = refl
        go false e = rw (own-depth e, own-minima e, eq-eqb _ _ (length-summary p.buckets)) (place e (eqb a.number Done) refl)

  abbrev r : Row
  r = get_or s.rows i fresh-row

  own-state : i < length s.rows → part 54 i (rows_of s).state ≡ state-of r
  unfolding encode
  own-state h = ap (λ (x : Words). x.state) (own-words s i h)

  pub skip_by : (t : Span) (id : ℕ) → skip-of-row here i (rows_of s).state t id ≡ can-skip-call i t id k
  unfolding skip-of-row can-skip-call can_skip_answer
  skip_by t id = rw skip-judged (go (leb (length s.rows) i) refl)
    where
      go : (b : Bool) → leb (length s.rows) i ≡ b
          → cond (eqb (cond b BadRun Done) Done) (record-skip (part 54 i (rows_of s).state) t id) (answer (cond b BadRun Done) false)
          ≡ calls.of_row b false (can_skip_answer r.depth t id)
      go true e = refl
      go false e =
          let h : i < length s.rows = leb-false _ _ e in
          let g : good-summary (part 54 i (rows_of s).state) ≡ true = (row-stands s i h w.sound w.fair).summary in
          let f : good-summary (state-of r) ≡ true = rw (own-state h) at g in
          rw (own-state h, f, skip-same s.state.attrs n r (fine-at w.sound.built.fine i) (w.fair i) t id)

  -- While painting goes on, no depth word hides a tile of a span for which `can_skip` says yes.
  pub skip-clear : k.begun ≡ true → (t : Span) (id : ℕ) → (can-skip-call i t id k).value ≡ true → (x : ℕ) → t.first ≤ x → x < t.end → get_or (part n i depth.words) (x / v) 0 ≤ id
  unfolding can-skip-call can_skip_answer
  skip-clear b t id y x lo hi = go (leb (length s.rows) i) refl y
    where
      low : t.first / v ≤ x / v
      low = each (λ v. t.first / v ≤ x / v) (omega arith) (omega arith) (omega arith) s.state.frame.width

      tested : i < length s.rows → (c : Bool) → (cond c (answer BadRun false) (answer Done (can_skip r.depth t id))).value ≡ true → get_or p.buckets (x / v) 0 ≤ id
      tested h true q = never (sym q)
      tested h false q =
          passes s.state.frame.width (summary-at (state-of r)) p.buckets (w.going b i h).sound id t
          (skip-same s.state.attrs n r (fine-at w.sound.built.fine i) (w.fair i) t id ∙ q) (x / v) low (meets s.state.frame.width x t.end hi) (omega arith)

      go : (c : Bool) → leb (length s.rows) i ≡ c → (calls.of_row c false (can_skip_answer r.depth t id)).value ≡ true → get_or (part n i depth.words) (x / v) 0 ≤ id
      go true e q = never (sym q)
      go false e q = rw (own-depth e) (tested (leb-false _ _ e) (bad-range 8192 t) q)
