-- What words stand for, one by one. Assumes nothing.
use Rattle.std.proofs.Common.{◌≡◌, refl, Bool, true, false, ◌&&◌, cond, ℕ, zero, suc, ◌≤◌, ◌<◌, arith, length, leb, eqb, ne_eqb, leb-true}
use Rattle.sizes.specs.Widths.{bucket-tiles}
use Rattle.rules.proofs.All.{both}
use Rattle.row.specs.Words.{Words, word}
use Rattle.row.specs.Arena.{sizes, row_at, Arenas}
use Rattle.row.proofs.RowsLaws.{at-state, at-render, at-fills}
use Rattle.rules.specs.Boxes.{rows_of, buckets-of}
use Rattle.rect.specs.Rects.{box_of}
use Rattle.screen.specs.declared.Screen.{Screen}
use Rattle.screen.specs.Judging.{judged}
use Rattle.screen.proofs.ScreenLaws.{few_rows, few-buckets, bounds}
use Rattle.screen.proofs.Passed.{passed}
use Rattle.text.specs.Listed.{good-depths, good-commands, good_row, good-rows, list-number, Few, ListedRow}
use Rattle.text.proofs.Runs.{below_at}

-- a row
module _ (c d n : ℕ) (w : Words) where
  pub row-few : good_row c d n w ≡ true → Few c d w
  unfolding good_row
  row-few e =
      let a = both (leb (word 0 w) c) (leb (word 1 w) d && (good-depths n w.fills (word 1 w) && good-commands w.render (word 0 w))) e in
      let b = both (leb (word 1 w) d) (good-depths n w.fills (word 1 w) && good-commands w.render (word 0 w)) a.1 in
      record { commands = leb-true _ _ a.0; depths = leb-true _ _ b.0 }

-- row r has its words
pub row-ready : {m c d : ℕ} {w : Words} → Arenas c d m w → (r : ℕ) → r < m → Few c d (row_at (sizes c d) r w) → ListedRow (row_at (sizes c d) r w)
row-ready {m} {c} {d} {w} o r h f =
    let x = at-render (sizes c d) m r w o.long h in
    let y = at-fills (sizes c d) m r w o.long h in
    record { state = at-state (sizes c d) m r w o.long h; commands = omega (arith, x, f.commands); depths = omega (arith, y, f.depths) }

-- the call's number
module _ (s : Screen) (w : Words) where
  pub by-screen : (n : ℕ) → n ≡ judged s (length w.state) (length w.render) (length w.fills) → (n ≡ 0 → ⊥) → n ≡ list-number s w
  unfolding list-number
  by-screen n e h = rw (← e, ne_eqb n 0 h)

  module _ (e : judged s (length w.state) (length w.render) (length w.fills) ≡ 0) {m : ℕ} (p : m ≡ rows_of (box_of s.viewport)) where
    pub whole : Arenas s.c s.d m w
    whole =
        let o = passed s (length w.state) (length w.render) (length w.fills) e in
        rw p
        (record {
          rows = few_rows _ o.view;
          c = o.c-room.few;
          d = o.d-room.few;
          long = record { state = o.row_words; render = o.render-words; fills = o.fill-words };
        })

    module _ {b : ℕ} (q : b ≡ buckets-of (bucket-tiles s.width) (box_of s.viewport)) where
      pub by_rows : good-rows s.c s.d b w m ≡ false → 4 ≡ list-number s w
      unfolding list-number
      by_rows g = rw (e, ← p, ← q, g)

      pub by-none : good-rows s.c s.d b w m ≡ true → 0 ≡ list-number s w
      unfolding list-number
      by-none g = rw (e, ← p, ← q, g)

-- a screen that the call lists
pub record Listable (s : Screen) (w : Words) : Type 0 where
  pub whole : Arenas s.c s.d (rows_of (box_of s.viewport)) w
  pub few : (r : ℕ) → r < rows_of (box_of s.viewport) → Few s.c s.d (row_at (sizes s.c s.d) r w)
  pub some_id : 1 ≤ s.next_draw_id
  pub few-buckets : buckets-of (bucket-tiles s.width) (box_of s.viewport) ≤ 64

none_said : (n : ℕ) (g : Bool) → cond (eqb n 0) (cond g 0 4) n ≡ 0 → (n ≡ 0) × (g ≡ true)
none_said zero true h = (refl, refl)
none_said zero false h = absurd (omega arith)
none_said (suc n) g h = let e : suc n ≡ 0 = rw (ne_eqb (suc n) 0 (λ p. omega arith)) at h in absurd (omega arith)

module _ (s : Screen) (w : Words) where
  pub listable : list-number s w ≡ 0 → Listable s w
  unfolding list-number
  listable e =
      let v = box_of s.viewport in
      let all = none_said (judged s (length w.state) (length w.render) (length w.fills)) (good-rows s.c s.d (buckets-of (bucket-tiles s.width) v) w (rows_of v)) e in
      let o = passed s (length w.state) (length w.render) (length w.fills) all.0 in
      let l = whole s w all.0 refl in
      record {
        whole = l;
        few = λ r h. row-few _ _ _ _ (below_at _ (rows_of v) all.1 r h);
        some_id = (bounds s o.screen).some_id;
        few-buckets = few-buckets v o.view s.width;
      }
