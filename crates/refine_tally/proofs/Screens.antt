-- What is counted at the words of a screen's rows is what the rules count on its rows. Assumes nothing.
use Rattle.std.proofs.Common.{◌≡◌, refl, sym, ap, ◌∙◌, Bool, true, false, ◌&&◌, cond, List, [], ◌∷◌, map, ℕ, suc, ◌+◌, ◌<◌, arith, leb, eqb, length, get_or, eq-eqb}
use lib.ListN.{length-replicate}
use borrow.Author.Tests.{lt-leb}
use Rattle.sizes.specs.Widths.{bucket-tiles}
use Rattle.rules.specs.Answers.{Done, BadRun}
use Rattle.rules.specs.Attributes.{Attrs}
use Rattle.rules.specs.Rows.{Row, fresh-row}
use Rattle.rules.specs.Plans.{bucket, buckets-across}
use Rattle.rules.specs.Steps as rule
use Rattle.rules.specs.Painting.{begin}
use Rattle.rules.specs.Calls.{Canvas, blank}
use Rattle.rules.proofs.All.{never, all_replicate}
use Rattle.rules_figures.specs.Figures.{Figures, nothing, total}
use Rattle.rules_figures.specs.RowFigures.{row-figures, screen-figures}
use Rattle.row.specs.Words.{Words}
use Rattle.row.specs.Arena.{sizes, row_at}
use Rattle.screen.specs.declared.Screen.{Screen}
use Rattle.screen.proofs.ScreenLaws.{few-buckets}
use Rattle.refine_steps.specs.Sound.{Sound}
use Rattle.refine_steps.specs.Lent.{screen-of, rows_of}
use Rattle.refine_paint.specs.Fair.{FairRows}
use Rattle.refine_paint.specs.Canvases.{WholeCanvas, attributes-of}
use Rattle.refine_paint.proofs.Kept.{own-words}
use Rattle.refine_paint.proofs.Begin.{judged-0}
use Rattle.refine_paint.proofs.Step.{holds, long, paints-long, layers-long}
use Rattle.paint.specs.Judging.{wide}
use Rattle.paint.specs.Painting.{attrs-at}
use Rattle.paint.specs.StoredCmds.{stored-long, stored_number}
use Rattle.paint.proofs.ByRules.{held}
use Rattle.tally.specs.Rows.{row-tallied, rows-tallied, screen-tallied}
use Rattle.refine_tally.proofs.Rows.{row-counted}

-- rows that are counted as g counts those of a list
rows-counted : (z : Screen) (a : Attrs) (w : Words) (g : Row → Figures) (k : ℕ) (rs : List Row)
    → ((i : ℕ) → i < length rs → row-tallied (bucket-tiles z.width) (wide z) a (row_at (sizes z.c z.d) (k + i) w) ≡ g (get_or rs i fresh-row))
    → rows-tallied z a w k (length rs) ≡ map g rs
unfolding rows-tallied
rows-counted z a w g k [] h = refl
rows-counted z a w g k (r ∷ rs) h =
    let e : k + 0 ≡ k = omega arith in
    let first : row-tallied (bucket-tiles z.width) (wide z) a (row_at (sizes z.c z.d) k w) ≡ g r = rw e at (h 0 (omega arith)) in
    let rest : rows-tallied z a w (suc k) (length rs) ≡ map g rs =
    rows-counted z a w g (suc k) rs (λ i l. let y : suc k + i ≡ k + suc i = omega arith in rw y (h (suc i) (omega arith)))
    in
    rw (first, rest) refl

-- no rows add nothing
none-or-all : (g : Row → Figures) (rs : List Row)
    → cond (eqb (cond (leb (length rs) 0) BadRun Done) Done && true && true) (total (map g rs)) nothing ≡ total (map g rs)
unfolding total
none-or-all g [] = refl
none-or-all g (r ∷ rs) = rw (lt-leb (suc (length rs)) 0 (omega arith)) refl

module _ (s : rule.Screen Row) (o : Sound s) (h : FairRows s) where
  -- a canvas of the screen, with nothing painted
  abbrev k : Canvas
  k = record { screen = s; begun = false; painters = blank s }

  abbrev n : ℕ
  n = buckets-across s.state.frame

  abbrev v : ℕ
  v = bucket s.state.frame

  whole : WholeCanvas k
  whole =
      record {
        sound = o;
        fair = h;
        count = length-replicate (length s.rows) (begin n);
        wide = all_replicate (length s.rows) (begin n) (length-replicate n 0);
        closed = λ e. never (sym e);
        going = λ e. never (sym e);
      }

  -- the attributes as they are read off the tables
  abbrev read : Attrs
  read = attrs-at (attributes-of s).paints (length s.state.attrs.paints) (attributes-of s).layers (length s.state.attrs.layers)

  own-counted : (i : ℕ) → i < length s.rows
      → row-tallied v n read (row_at (sizes s.state.frame.c s.state.frame.d) i (rows_of s)) ≡ row-figures v n s.state.attrs (get_or s.rows i fresh-row)
  own-counted i l =
      ap (row-tallied v n read) (own-words s i l)
      ∙ row-counted v n s.state.frame.c s.state.frame.d s.state.attrs (get_or s.rows i fresh-row)
      (omega (arith, few-buckets s.state.frame.viewport o.viewport s.state.frame.width)) (o.rows i) (h i) read (held s.state.attrs _ _ _ _ (holds s))

  module _ (b : Bool) where
    -- 12 for a screen without rows
    number : stored_number (screen-of s.state b) 0 (rows_of s) ≡ cond (leb (length s.rows) 0) BadRun Done
    unfolding stored_number
    number =
        let g = long k whole 0 [] in
        let e1 = eq-eqb _ _ g.render in
        let e2 = eq-eqb _ _ g.fills in
        let e3 = eq-eqb _ _ g.state in
        let x : stored-long (screen-of s.state b) (length (rows_of s).render) (length (rows_of s).fills) ≡ true = rw (e1, e2) refl in
        rw (judged-0 s o b _ _ x e3, ← o.count) refl

    pub screen-counted : screen-tallied (screen-of s.state b) (rows_of s) (attributes-of s) ≡ screen-figures s
    unfolding screen-tallied screen-figures
    screen-counted =
        let e1 = eq-eqb _ _ (paints-long k whole 0 []) in
        let e2 = eq-eqb _ _ (layers-long k whole 0 []) in
        let e3 = rows-counted (screen-of s.state b) read (rows_of s) (row-figures v n s.state.attrs) 0 s.rows (λ i l. let z : 0 + i ≡ i = omega arith in rw z (own-counted i l)) in
        rw (number, e1, e2, ← o.count, e3) (none-or-all (row-figures v n s.state.attrs) s.rows)
