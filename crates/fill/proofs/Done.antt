-- What a fill's number 0 gives, and what a done fill leaves. Assumes nothing.
use Rattle.std.proofs.Common.{◌≡◌, refl, sym, ap, ◌∙◌, Bool, true, false, cond, List, [], append-nil, ℕ, ◌+◌, ◌-◌, ◌*◌, ◌≤◌, ◌<◌, arith, ltb, eqb, length, drop, take-append-drop, drop_at, ltb-true, ltb-false, ne_eqb}
use Rattle.std.proofs.lemmas.Bool.Decides.{nat_tests}
use lib.Seq.{drop-length}
use Rattle.sizes.specs.Sizes.{paint-attr-size}
use Rattle.rules.specs.Lists.{join}
use Rattle.rules.specs.Answers.{answer, Done, BadRecord}
use Rattle.rules.specs.Boxes.{rows_of}
use Rattle.rules.specs.Segments.{judge-segments}
use Rattle.rules.specs.Inputs.{good-fill}
use Rattle.rules.specs.Attributes.{attrs-full}
use Rattle.screen.specs.Attributes.{paint-attr-words}
use Rattle.rules.specs.Plans.{Plan, draw-puts}
use Rattle.rules.proofs.All.{never}
use Rattle.rules.specs.Steps as steps
use Rattle.rules.specs.Steps.{do-puts, done, passes, refusal}
use Rattle.cmd.specs.Attrs.{words-at, put-paint}
use Rattle.row.specs.Words.{Words, word, word-ops}
use Rattle.row.specs.Arena.{sizes, lay, count-rows}
use Rattle.row.proofs.RowsLaws.{lay-cut, rows-counted}
use Rattle.row.specs.Building.{screen-at, good_rows, step_number}
use Rattle.rect.specs.Rects.{box_of}
use Rattle.screen.specs.declared.Screen.{Screen}
use Rattle.screen.specs.Screens.{frame-of, state-of, screen-after, counted}
use Rattle.screen.proofs.ScreenLaws.{few_rows, same-layers, paint-count, layer-attr-count, filter-count}
use Rattle.screen.proofs.Passed.{Passed}
use Rattle.segments.specs.Segs as segs
use Rattle.segments.specs.Segs.{segs-of}
use Rattle.segments.proofs.Laws as listed
use Rattle.fill.specs.Filling.{FillReady}
use Rattle.fill.proofs.Rising.{rising}
use Rattle.fill.proofs.Judged.{all-landed, roomy-judged}
use Rattle.fill.specs.declared.rows.FillJob.{FillJob}
use Rattle.fill.specs.Named.{job_rows, rows_after}
use Rattle.inputs.specs.declared.Draw.{Draw}
use Rattle.inputs.specs.Inputs.{draw-of}
use Rattle.fill.specs.Fills.{paints-of, job_of, attr-of, FillLent, fill_lent, fill-plan, first-of-lent, fill_number, fill_done, filled}
use Rattle.fill.proofs.Inputs.{GoodDraw, draw-facts}
use Rattle.fill.proofs.Planned.{state-frame, state-next, plan-layers, plan-next, refused-bad, refused-are, puts-are, rows_are, attrs-same, attrs-more, full-attrs, paints-more, filters-same}
use Rattle.fill.proofs.Numbers.{passing, long, rowed, good-are}

module _ (l : FillLent) (ps ss : List ℕ) (d : Draw) where
  -- what is done leaves what the rules' plan says
  pub done-is : {m : FillLent} → 0 ≡ fill_number l ps ss d → m ≡ fill_done l ps ss d → answer 0 m ≡ filled l ps ss d
  done-is e h = rw (← e, h)

  -- what is refused alters nothing
  pub refused-is : {n : ℕ} → n ≡ fill_number l ps ss d → (n ≡ 0 → ⊥) → answer n l ≡ filled l ps ss d
  refused-is {n} e h = rw (← e, ne_eqb n 0 h)

-- the number 0
said-no : (f : ℕ) (g : Bool) (r : ℕ) → cond (eqb f Done) (cond g r BadRecord) f ≡ 0 → (f ≡ 0) × (g ≡ true) × (r ≡ 0)
said-no f g r h = (grind (arith, nat_tests), grind (arith, nat_tests), grind (arith, nat_tests))

-- no refusal: none of its own, and no limit passed
tests : (p : Plan) (t : steps.Screen Words) → refusal Words word-ops p t ≡ 0
    → (p.refused ≡ 0) × (ltb 1048577 p.next ≡ false) × (attrs-full p.attrs ≡ false)
    × (passes Words word-ops (word 0) t.state.frame.c p.puts t.rows ≡ false) × (passes Words word-ops (word 1) t.state.frame.d p.puts t.rows ≡ false)
unfolding refusal
tests p t h = (grind (arith, nat_tests), grind (arith, nat_tests), grind (arith, nat_tests), grind (arith, nat_tests), grind (arith, nat_tests))

unless-4 : (g : Bool) (r : ℕ) → (g ≡ false → r ≡ 4) → r ≡ 0 → g ≡ true
unless-4 g r f e = grind (arith, nat_tests)

-- what the number 0 says
pub record Zero (l : FillLent) (ps ss : List ℕ) (d : Draw) : Type 0 where
  pub first : first-of-lent l ps ss ≡ 0
  pub draw : good-fill (paints-of ps) (segs-of ss) (draw-of d) ≡ true
  pub list : judge-segments false (segs.segs ss d.start (d.end - d.start)) ≡ 0
  pub ids : l.screen.next_draw_id ≤ 1048576
  pub attrs : attrs-full (fill-plan l.screen ps ss d).attrs ≡ false
  pub ready : FillReady (job_of l.screen ps d) (rows_of (box_of l.screen.viewport)) ss d.start d.end l.words

module _ (l : FillLent) (ps ss : List ℕ) (d : Draw) where
  parts : fill_number l ps ss d ≡ 0 → (first-of-lent l ps ss ≡ 0)
      × (good_rows (frame-of l.screen) l.screen.layers (fill-plan l.screen ps ss d).puts (screen-at (state-of l.screen) l.words).rows ≡ true)
      × (refusal Words word-ops (fill-plan l.screen ps ss d) (done Words word-ops (fill-plan l.screen ps ss d) (screen-at (state-of l.screen) l.words)) ≡ 0)
  unfolding fill_number step_number
  parts h =
      let p = fill-plan l.screen ps ss d in
      let t = screen-at (state-of l.screen) l.words in
      said-no (first-of-lent l ps ss) (good_rows (frame-of l.screen) l.screen.layers p.puts t.rows) (refusal Words word-ops p (done Words word-ops p t)) h

  done-frame : (done Words word-ops (fill-plan l.screen ps ss d) (screen-at (state-of l.screen) l.words)).state.frame ≡ frame-of l.screen
  unfolding done
  done-frame = state-frame l.screen

  -- a refused draw is not done
  good-own : (fill-plan l.screen ps ss d).refused ≡ 0 → good-fill (paints-of ps) (segs-of ss) (draw-of d) ≡ true
  good-own e = unless-4 (good-fill (paints-of ps) (segs-of ss) (draw-of d)) _ (refused-bad l.screen ps ss d) e

  pub zero-says : fill_number l ps ss d ≡ 0 → Zero l ps ss d
  zero-says h =
      let a = parts h in
      let t = tests (fill-plan l.screen ps ss d) (done Words word-ops (fill-plan l.screen ps ss d) (screen-at (state-of l.screen) l.words)) a.2 in
      let q = good-own t.0 in
      let g = draw-facts ps ss d q in
      let e : judge-segments false (segs.segs ss d.start (d.end - d.start)) ≡ 0 = sym (refused-are l.screen ps ss d g q) ∙ t.0 in
      let j = listed.judged (segs.segs ss d.start (d.end - d.start)) e in
      let o = rowed l ps ss d a.0 in
      let p = passing l ps ss d a.0 in
      let n = few_rows (box_of l.screen.viewport) p.view in
      record {
        first = a.0;
        draw = q;
        list = e;
        ids = omega (arith, ltb-false 1048577 (fill-plan l.screen ps ss d).next t.1, plan-next l.screen ps ss d);
        attrs = t.2;
        ready =
            record {
              fits = record { arenas = record { rows = n; c = o.c; d = o.d; long = long l ps ss d a.0 }; layers = o.layers; starts = o.starts; bottom = o.bottom };
              before = g.range;
              within = omega (arith, g.ends);
              good = j.good;
              room =
                  roomy-judged (job_of l.screen ps d) (box_of l.screen.viewport) (rows_of (box_of l.screen.viewport)) l.words o.layers (long l ps ss d a.0) n
                  (all-landed o (segs.segs ss d.start (d.end - d.start)) j.good)
                  (rising (segs.origin (job_of l.screen ps d).scene) (segs.bounds (job_of l.screen ps d).scene) (segs.segs ss d.start (d.end - d.start)) j.order)
                  (sym (good-are l ps ss d a.0 q) ∙ a.1) o.c o.d
                  (rw (done-frame, rows_are l.screen ps ss d g l.words p, puts-are l.screen ps ss d g p) at t.3)
                  (rw (done-frame, rows_are l.screen ps ss d g l.words p, puts-are l.screen ps ss d g p) at t.4);
            };
      }

-- a table that gets no words
no_words : (xs : List ℕ) (at : ℕ) → words-at xs at [] ≡ xs
no_words xs at = let e : at + 0 ≡ at = omega arith in rw (append-nil, e) (take-append-drop at xs)

module _ (l : FillLent) (ps ss : List ℕ) (d : Draw) (z : Zero l ps ss d) where
  good : GoodDraw ps ss d
  good = draw-facts ps ss d z.draw

  fine : Passed l.screen (length l.words.state) (length l.words.render) (length l.words.fills) (rows_of (box_of l.screen.viewport))
  fine = passing l ps ss d z.first

  screen-by : screen-after l.screen (fill-plan l.screen ps ss d)
      ≡ counted l.screen (l.screen.next_draw_id + 1) (length (fill-plan l.screen ps ss d).attrs.paints) (length (fill-plan l.screen ps ss d).attrs.layers) (length (fill-plan l.screen ps ss d).attrs.filters)
  screen-by =
      same-layers l.screen fine.screen (fill-plan l.screen ps ss d) (plan-layers l.screen ps ss d)
      ∙ ap (λ (n : ℕ). counted l.screen n (length (fill-plan l.screen ps ss d).attrs.paints) (length (fill-plan l.screen ps ss d).attrs.layers) (length (fill-plan l.screen ps ss d).attrs.filters)) (plan-next l.screen ps ss d)

  -- without segments: an id, and nothing else
  module _ (u : d.start ≡ d.end) where
    screen-empty : screen-after l.screen (fill-plan l.screen ps ss d) ≡ counted l.screen (l.screen.next_draw_id + 1) (l.screen.paint_attrs + 0) l.screen.layer_attrs l.screen.filter_paints
    screen-empty =
        let e : l.screen.paint_attrs + 0 ≡ l.screen.paint_attrs = omega arith in
        screen-by ∙ rw (attrs-same l.screen ps ss d good u, paint-count l.screen, layer-attr-count l.screen, filter-count l.screen, e)

    words-empty : lay (done Words word-ops (fill-plan l.screen ps ss d) (screen-at (state-of l.screen) l.words)).rows ≡ l.words
    unfolding draw-puts do-puts
    words-empty =
        rw (rows_are l.screen ps ss d good l.words fine, listed.segs-end ss d.start d.end (omega arith))
        (lay-cut (sizes l.screen.c l.screen.d) (rows_of (box_of l.screen.viewport)) l.words (long l ps ss d z.first))

    table_empty : words-at l.paint-attrs (paint-attr-size * l.screen.paint_attrs) (join paint-attr-words (drop l.screen.paint_attrs (fill-plan l.screen ps ss d).attrs.paints)) ≡ l.paint-attrs
    table_empty =
        let e : drop l.screen.paint_attrs (state-of l.screen).attrs.paints ≡ [] = ap (λ (n : ℕ). drop n (state-of l.screen).attrs.paints) (sym (paint-count l.screen)) ∙ drop-length (state-of l.screen).attrs.paints in
        rw (attrs-same l.screen ps ss d good u, e) (no_words l.paint-attrs (paint-attr-size * l.screen.paint_attrs))

    pub done-empty : {s : Screen} → s ≡ counted l.screen (l.screen.next_draw_id + 1) (l.screen.paint_attrs + 0) l.screen.layer_attrs l.screen.filter_paints
        → fill_lent s l.words l.paint-attrs ≡ fill_done l ps ss d
    unfolding fill_done
    done-empty h = rw (h, screen-empty, words-empty, table_empty)

  -- with some: an attribute too, and what is put on rows
  module _ (u : d.start ≡ d.end → ⊥) where
    screen-some : screen-after l.screen (fill-plan l.screen ps ss d) ≡ counted l.screen (l.screen.next_draw_id + 1) (l.screen.paint_attrs + 1) l.screen.layer_attrs l.screen.filter_paints
    screen-some = screen-by ∙ rw (attrs-more l.screen ps ss d good u, paints-more l.screen fine d, layer-attr-count l.screen, filters-same l.screen fine d)

    table-some : words-at l.paint-attrs (paint-attr-size * l.screen.paint_attrs) (join paint-attr-words (drop l.screen.paint_attrs (fill-plan l.screen ps ss d).attrs.paints)) ≡ put-paint l.paint-attrs l.screen.paint_attrs (attr-of l.screen d)
    table-some =
        rw (attrs-more l.screen ps ss d good u, drop_at (state-of l.screen).attrs.paints _ l.screen.paint_attrs (paint-count l.screen), state-next l.screen, state-frame l.screen)

    pub room-for-attr : l.screen.paint_attrs < 1024
    room-for-attr = go (ltb l.screen.paint_attrs 1024) refl
      where
        go : (b : Bool) → ltb l.screen.paint_attrs 1024 ≡ b → l.screen.paint_attrs < 1024
        go true e = ltb-true l.screen.paint_attrs 1024 e
        go false e = never (sym (full-attrs l.screen fine d (ltb-false l.screen.paint_attrs 1024 e)) ∙ (rw (attrs-more l.screen ps ss d good u) at z.attrs))

    pub done-some : {s : Screen} {j : FillJob} {w : Words} {t : List ℕ} → s ≡ counted l.screen (l.screen.next_draw_id + 1) (l.screen.paint_attrs + 1) l.screen.layer_attrs l.screen.filter_paints
        → j ≡ job_of l.screen ps d → w ≡ lay (rows_after j ss d.start d.end (job_rows j l.words.state l.words)) → t ≡ put-paint l.paint-attrs l.screen.paint_attrs (attr-of l.screen d)
        → fill_lent s w t ≡ fill_done l ps ss d
    unfolding fill_done
    done-some h q i k =
        let drawn = rw (q, rows-counted l.words.state (rows_of (box_of l.screen.viewport)) fine.row_words) at i in
        rw (h, drawn, k, screen-some, rows_are l.screen ps ss d good l.words fine, table-some)

    pub rows-asked : {j : FillJob} → j ≡ job_of l.screen ps d → FillReady j (count-rows l.words.state) ss d.start d.end l.words
    rows-asked q = rw (q, rows-counted l.words.state (rows_of (box_of l.screen.viewport)) fine.row_words) z.ready

-- a draw may be split only where no layer is open
pub splits : (s : Screen) (ps : List ℕ) (d : Draw) (j : FillJob) → j ≡ job_of s ps d → j.eligible ≡ true → j.layers ≡ 0
splits s ps d j q h = let e = rw q at h in rw q (grind (arith, nat_tests))
