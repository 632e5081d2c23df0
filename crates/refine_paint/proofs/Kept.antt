-- A reset and every step keep the rows of a screen fair, and the words of each row stand for it. Assumes nothing.
use Rattle.std.proofs.Common.{◌≡◌, refl, sym, ap, ◌∙◌, Bool, true, false, cond, List, ℕ, zero, suc, ◌*◌, ◌<◌, arith, eqb, length, get_or, replicate, eqb-true}
use lib.ListN.{get_or-map}
use Rattle.rules.specs.Answers.{answer, Done}
use Rattle.rules.specs.Boxes as boxes
use Rattle.rules.specs.Rows.{Row, fresh-row, row-ops}
use Rattle.rules.specs.Plans.{Frame, bucket, buckets-across, Step}
use Rattle.rules.specs.Steps.{Screen, reset, done, refusal, perform, touched, call}
use Rattle.rules.proofs.All.{All, nil, cons, all_map}
use Rattle.rules.proofs.laws.Bounds.{plan-ok}
use Rattle.rules.proofs.laws.Maps.{planned}
use Rattle.row.specs.Words.{Words}
use Rattle.row.specs.Arena.{sizes, row_at}
use Rattle.row.proofs.RowsLaws.{cut_at}
use Rattle.refine_row.specs.Encode.{Fine, encode}
use Rattle.refine_row.proofs.Refines.{fresh-fine}
use Rattle.refine_row.proofs.Screens.{cut-screen}
use Rattle.screen.proofs.ScreenLaws.{few-buckets}
use Rattle.refine_steps.specs.Sound.{Sound}
use Rattle.refine_steps.specs.Lent.{rows_of}
use Rattle.refine_steps.proofs.Kept.{Passing, passing}
use Rattle.paint.specs.Standing.{Stands}
use Rattle.paint.specs.Stepping.{part}
use Rattle.refine_paint.specs.Fair.{FairRows}
use Rattle.refine_paint.proofs.Acts.{puts-fair}
use Rattle.refine_paint.proofs.Attributes.{fair-more}
use Rattle.refine_paint.proofs.Plans.{plan-fair, plan-extends}
use Rattle.refine_paint.proofs.Standing.{stands}

pub fine-at : {rs : List Row} → All Fine rs → (i : ℕ) → Fine (get_or rs i fresh-row)
fine-at nil i = fresh-fine
fine-at (cons f fs) zero = f
fine-at (cons f fs) (suc i) = fine-at fs i

abbrev after : Step → Screen Row → Screen Row
after x s = done Row row-ops (planned Row row-ops x s) s

done-fair : (x : Step) (s : Screen Row) → Sound s → FairRows s → Passing (planned Row row-ops x s) (after x s) → FairRows (after x s)
unfolding done
done-fair x s o h n i =
    let p = planned Row row-ops x s in
    let ts = touched Row row-ops (length s.state.layers) 0 s.rows in
    let k = buckets-across s.state.frame in
    puts-fair s.state.frame.width p.attrs k (length p.layers) n.deep (plan-fair s.state o.built.framed o.viewport o.some_id (all_map (λ l g. g.props) o.layers) x ts n.own n.ids)
    (plan-ok s.state o.built.framed x ts n.own) s.rows (fine-at o.built.fine)
    (λ j. fair-more s.state.attrs p.attrs (plan-extends s.state x ts) (bucket s.state.frame) k (get_or s.rows j fresh-row) (h j)) i

-- every step, refused or done
pub call-fair : (x : Step) (s : Screen Row) → Sound s → FairRows s → FairRows (call Row row-ops x s).value
unfolding call perform
call-fair x s o h = go (eqb (refusal Row row-ops (planned Row row-ops x s) (after x s)) Done) refl
  where
    go : (c : Bool) → eqb (refusal Row row-ops (planned Row row-ops x s) (after x s)) Done ≡ c
        → FairRows (cond c (answer Done (after x s)) (answer (refusal Row row-ops (planned Row row-ops x s) (after x s)) s)).value
    go true e = done-fair x s o h (passing (planned Row row-ops x s) (after x s) (eqb-true _ Done e))
    go false e = h

-- .. and a reset
pub reset-fair : (f : Frame) → FairRows (reset fresh-row f)
unfolding reset
reset-fair f i = rw (fresh_at (boxes.rows_of f.viewport) i) (record { commands = nil; fills = nil; unions = nil; nested = tt; levels = refl })
  where
    fresh_at : (n i : ℕ) → get_or (replicate n fresh-row) i fresh-row ≡ fresh-row
    fresh_at zero i = refl
    fresh_at (suc n) zero = refl
    fresh_at (suc n) (suc i) = fresh_at n i

-- row i's own words
module _ (s : Screen Row) (i : ℕ) (h : i < length s.rows) where
  abbrev c : ℕ
  c = s.state.frame.c

  abbrev d : ℕ
  d = s.state.frame.d

  pub own-words : row_at (sizes c d) i (rows_of s) ≡ encode c d (get_or s.rows i fresh-row)
  own-words =
      sym (cut_at (sizes c d) (length s.rows) i (rows_of s) (encode c d fresh-row) h)
      ∙ ap (λ (ws : List Words). get_or ws i (encode c d fresh-row)) (cut-screen c d s.rows)
      ∙ get_or-map (encode c d) s.rows i fresh-row

  -- stand for the row
  pub row-stands : Sound s → FairRows s
      → Stands s.state.attrs (buckets-across s.state.frame) (get_or s.rows i fresh-row) (part 54 i (rows_of s).state) (part (4 * c) i (rows_of s).render) (part (2 * d) i (rows_of s).fills)
  row-stands o f =
      let r = get_or s.rows i fresh-row in
      let g = stands s.state.attrs (buckets-across s.state.frame) c d (omega (arith, few-buckets s.state.frame.viewport o.viewport s.state.frame.width)) r (o.rows i) (f i) in
      rw (ap (λ (w : Words). w.state) own-words, ap (λ (w : Words). w.render) own-words, ap (λ (w : Words). w.fills) own-words) g
