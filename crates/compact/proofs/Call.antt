-- The call is judged, then done.
use Rattle.std.proofs.Common.{◌≡◌, refl, sym, ℕ, ◌*◌, ◌≤◌, arith, Bool, true, false, cond, ◌&&◌, length, eqb, eqb-true, ne_eqb}
use Rattle.sizes.specs.Sizes.{paint-attr-table, layer-attr-table}
use Rattle.sizes.specs.Widths.{bucket-tiles}
use Rattle.sizes.specs.declared.answers.Refusal.{Refusal}
use Rattle.sizes.specs.Refusals.{number_of}
use Rattle.sizes.proofs.Refusals.{not_done}
use Rattle.rules.specs.Answers.{Answer, answer, Done}
use Rattle.rules.proofs.All.{and_left, and_right}
use Rattle.row.specs.Words.{Words}
use Rattle.row.specs.Arena.{sizes, row_at}
use Rattle.screen.specs.declared.Screen.{Screen}
use Rattle.paint.specs.Beginning.{begun}
use Rattle.paint.specs.Judging.{count, wide}
use Rattle.paint.specs.Painting.{attrs-at}
use Rattle.paint.specs.Stepping.{Attributes}
use Rattle.paint.specs.StoredCmds.{stored-long}
use Rattle.paint.proofs.Judged.{There, there-by, past-begun}
use Rattle.paint.proofs.ScreenParts.{lies, few-attrs}
use Rattle.compact.specs.Row.{compact-words}
use Rattle.compact.specs.Call.{tables-long, compact_number, Stored, stored, with-closed, row-compacted, ended, compacting, RowReady}

-- the tables of attributes are whole, and few of them are in use
pub record Tables (s : Screen) (a : Attributes) : Type 0 where
  pub paint_len : length a.paints ≡ paint-attr-table
  pub paints_few : s.paint_attrs ≤ 1024
  pub layer_len : length a.layers ≡ layer-attr-table
  pub layers_few : s.layer_attrs ≤ 1024

module _ (s : Screen) (r : ℕ) (w : Words) (a : Attributes) (h : 0 ≡ compact_number s r w a) where
  there : There s r (stored-long s (length w.render) (length w.fills)) (tables-long s (length w.state) (length a.paints) (length a.layers))
  unfolding compact_number
  there = there-by s r _ _ (past-begun _ (eqb s.layers 0) (sym h))

  pub ready : RowReady s r w
  ready =
      let o = there.passed in
      let n = count s in
      let re = eqb (length w.render) (n * (4 * s.c)) in
      let fi = eqb (length w.fills) (n * (2 * s.d)) in
      let ro = eqb (length w.state) (n * 54) in
      let ps = eqb (length a.paints) paint-attr-table in
      let ls = eqb (length a.layers) layer-attr-table in
      let long : (ro && ps) ≡ true = and_left (ro && ps) ls o.tables in
      record {
        there = omega (arith, there.there, o.few);
        narrow = o.narrow;
        few-commands = o.c-room.few;
        few-fills = o.d-room.few;
        state = (lies n r 54 w.state there.there o.few (omega arith) (and_left ro ps long)).ends;
        render = (lies n r (4 * s.c) w.render there.there o.few (omega (arith, o.c-room.few)) (and_left re fi o.arenas)).ends;
        fills = (lies n r (2 * s.d) w.fills there.there o.few (omega (arith, o.d-room.few)) (and_right re fi o.arenas)).ends;
      }

  pub tables : Tables s a
  tables =
      let o = there.passed in
      let ro = eqb (length w.state) (count s * 54) in
      let ps = eqb (length a.paints) paint-attr-table in
      let ls = eqb (length a.layers) layer-attr-table in
      let few = few-attrs s o.screen in
      record {
        paint_len = eqb-true _ _ (and_right ro ps (and_left (ro && ps) ls o.tables));
        paints_few = few.0;
        layer_len = eqb-true _ _ (and_right (ro && ps) ls o.tables);
        layers_few = few.1;
      }

-- refused before anything of the row is read
pub unread : (r : ℕ) (a : Attributes) (k : Stored) (e : Refusal) → number_of e ≡ compact_number k.screen r k.words a → answer (number_of e) k ≡ compacting r a k
unfolding compacting
unread r a k e h = rw (← h, ne_eqb (number_of e) 0 (not_done e)) refl

-- refused for what is read of it, and done
module _ (r : ℕ) (a : Attributes) (s : Screen) (w u : Words) (h : 0 ≡ compact_number s r w a) where
  abbrev made : ℕ → Type 0
  made n = answer n u ≡ row-compacted s r (attrs-at a.paints s.paint_attrs a.layers s.layer_attrs) w

  pub forged : (e : Refusal) → made (number_of e) → answer (number_of e) (stored s u) ≡ compacting r a (stored s w)
  unfolding compacting
  forged e m = rw (← h, ← m, ne_eqb (number_of e) 0 (not_done e)) refl

  pub done : made 0 → answer 0 (stored (begun false s) u) ≡ compacting r a (stored s w)
  unfolding compacting
  done m = rw (← h, ← m) refl

-- What is refused alters no word.
module _ (r : ℕ) (a : Attributes) (k : Stored) where
  abbrev s : Screen
  s = k.screen

  abbrev x : Answer Words
  x = compact-words (bucket-tiles s.width) (wide s) (attrs-at a.paints s.paint_attrs a.layers s.layer_attrs) (row_at (sizes s.c s.d) r k.words)

  -- by whether the row's words are accepted, ..
  abbrev in-place : Bool → Answer Words
  in-place b = cond b (answer Done (with-closed s.c r k.words x.value)) (answer x.number k.words)

  unread-kept : (b : Bool) → eqb x.number Done ≡ b → ((ended s (in-place b)).number ≡ Done → ⊥) → (ended s (in-place b)).value ≡ k
  unread-kept true e q = absurd (q refl)
  unread-kept false e q = rw e refl

  -- .. and whether the call is
  judged-kept : (b : Bool) (n : ℕ) → ((cond b (ended s (in-place (eqb x.number Done))) (answer n k)).number ≡ Done → ⊥)
      → (cond b (ended s (in-place (eqb x.number Done))) (answer n k)).value ≡ k
  judged-kept true n q = unread-kept (eqb x.number Done) refl q
  judged-kept false n q = refl

  pub compact-kept : ((compacting r a k).number ≡ Done → ⊥) → (compacting r a k).value ≡ k
  unfolding compacting
  compact-kept q = let n = compact_number s r k.words a in judged-kept (eqb n Done) n q
