-- Rows painted by one call are calls for single rows, one after the other. Assumes nothing.
use Rattle.std.proofs.Common.{◌≡◌, refl, sym, ap, ◌∙◌, Bool, true, false, cond, List, [], ◌∷◌, ◌++◌, append-nil, append_assoc, ℕ, zero, suc, ◌+◌, ◌*◌, ◌≤◌, arith, length, drop, slice_set, eqb}
use Rattle.sizes.specs.Sizes.{piece-size}
use Rattle.rules.specs.Lists.{join}
use Rattle.rules.specs.Answers.{Done}
use Rattle.rules.specs.Plans.{Frame, Step}
use Rattle.rules.specs.Painting.{Piece}
use Rattle.screen.specs.Depths.{Depths}
use Rattle.screen.specs.Tables.{ScreenLent}
use Rattle.paint.specs.Painting.{RowLent, StepOut, words_lent}
use Rattle.paint.specs.Stepping.{Attributes, attributes}
use Rattle.paint.specs.Running.{goes_on, one_more, standing, row-painted}
use Rattle.paint.specs.declared.rows.RowRange.{RowRange}
use Rattle.paint.specs.InOrder.{RowsOut, rows_out, asked, wanting, turn, rows_in_order, number-of-rows, rows-in-order, rows-painted}
use Rattle.paint.proofs.InOrder.{row-room, more-room}
use Rattle.rules_picture.specs.Turns.{Gave}
use Rattle.theorem_picture.specs.Reached.{ReachedBy, by-paint, with-canvas}
use Rattle.theorem_picture.specs.Turns.{pieces-in}
use Rattle.theorem_picture.specs.Rows.{Call, one-step, whole_row, called, call-log, row_out}
use Rattle.theorem_picture.specs.ManyRows.{rows-given, rows-at, RowsAreCalls}
use Rattle.theorem_picture.proofs.Rows.{pieces-split, row-reached}

module _ (l : ScreenLent) where
  abbrev row : ℕ → Depths → List ℕ → List ℕ → StepOut
  row i d p t = row-painted l.screen i (attributes l.tables.paint-attrs l.tables.layer-attrs) (words_lent l.tables.rows l.tables.render l.tables.fills d p t)

  -- the words where painting stands so
  abbrev at : Depths → List ℕ → ScreenLent
  at d p = with-canvas l l.screen d p

  abbrev Holds : StepOut → Type 0
  Holds g = piece-size * g.answer.pieces ≤ length g.list

  -- calls that lead from g to words and pieces
  record Leads (g : StepOut) (d : Depths) (p : List ℕ) (n : ℕ) (t : List ℕ) : Type 0 where
    calls : List Call
    words : called calls (at g.depth g.painting) ≡ at d p
    pieces : pieces-in n t ≡ pieces-in g.answer.pieces g.list ++ join (λ (x : Gave). x.pieces) (call-log calls (at g.depth g.painting))

  none : (g : StepOut) → Leads g g.depth g.painting g.answer.pieces g.list
  unfolding called call-log
  none g = record { calls = []; words = refl; pieces = sym (append-nil (pieces-in g.answer.pieces g.list)) }

  one-holds : (i : ℕ) (g : StepOut) → Holds g → Holds (one_more (row i) g)
  one-holds i g h =
      let e = more-room (row i) (λ d p t. (row-room l.screen i (attributes l.tables.paint-attrs l.tables.layer-attrs) (words_lent l.tables.rows l.tables.render l.tables.fills d p t)).0)
      (λ d p t. (row-room l.screen i (attributes l.tables.paint-attrs l.tables.layer-attrs) (words_lent l.tables.rows l.tables.render l.tables.fills d p t)).1)
      (length g.list) g (refl, h) in
      rw e.0 e.1

  -- a call for row i before others
  one-call : (i : ℕ) (g : StepOut) (d : Depths) (p : List ℕ) (n : ℕ) (t : List ℕ) → Holds g → Leads (one_more (row i) g) d p n t → Leads g d p n t
  unfolding called call-log one_more row_out
  one-call i g d p n t h z =
      record {
        calls = whole_row (record { row = i; list = drop (piece-size * g.answer.pieces) g.list }) ∷ z.calls;
        words = z.words;
        pieces = z.pieces
            ∙ ap (λ (ps : List Piece). ps ++ join (λ (x : Gave). x.pieces) (call-log z.calls (at (one_more (row i) g).depth (one_more (row i) g).painting)))
            (pieces-split g.answer.pieces _ g.list (row i g.depth g.painting (drop (piece-size * g.answer.pieces) g.list)).list h)
            ∙ append_assoc (pieces-in g.answer.pieces g.list) _ _;
      }

  -- a row's turn before others
  one-turn : (i : ℕ) (g : StepOut) (d : Depths) (p : List ℕ) (n : ℕ) (t : List ℕ) → Holds g → Leads (turn row i g) d p n t → Leads g d p n t
  one-turn i g d p n t h = go (goes_on o.answer) (goes_on more.answer)
    where
      o : StepOut
      o = one_more (row i) g

      more : StepOut
      more = one_more (row i) o

      go : (a b : Bool) → Leads (cond a (cond b (wanting more) more) o) d p n t → Leads g d p n t
      go true true z = one-call i g d p n t h (one-call i o d p n t (one-holds i g h) (record { calls = z.calls; words = z.words; pieces = z.pieces }))
      go true false z = one-call i g d p n t h (one-call i o d p n t (one-holds i g h) z)
      go false b z = one-call i g d p n t h z

  turn-holds : (i : ℕ) (g : StepOut) → Holds g → Holds (turn row i g)
  turn-holds i g h = go (goes_on (one_more (row i) g).answer) (goes_on (one_more (row i) (one_more (row i) g)).answer)
    where
      go : (a b : Bool) → Holds (cond a (cond b (wanting (one_more (row i) (one_more (row i) g))) (one_more (row i) (one_more (row i) g))) (one_more (row i) g))
      go true true = one-holds i (one_more (row i) g) (one-holds i g h)
      go true false = one-holds i (one_more (row i) g) (one-holds i g h)
      go false b = one-holds i g h

  abbrev LeadsTo : StepOut → RowsOut → Type 0
  LeadsTo g o = Leads g o.depth o.painting o.pieces o.list

  in-order : (f i k : ℕ) (e : List ℕ) (g : StepOut) → Holds g → LeadsTo g (rows_in_order row f i k e g)
  unfolding rows_in_order
  in-order zero i k e g h = none g
  in-order (suc f) i k e g h =
      go (eqb (turn row i g).answer.number Done) (in-order f (i + 1) (k + 1) (slice_set e k (turn row i g).answer.pieces) (turn row i g) (turn-holds i g h))
    where
      o : StepOut
      o = turn row i g

      go : (b : Bool) → LeadsTo o (rows_in_order row f (i + 1) (k + 1) (slice_set e k o.answer.pieces) o)
          → LeadsTo g (cond b (rows_in_order row f (i + 1) (k + 1) (slice_set e k o.answer.pieces) o) (rows_out o.answer.number k e o))
      go true z = one-turn i g _ _ _ _ h z
      go false z = one-turn i g _ _ _ _ h (none o)

  whole : (r : RowRange) (list ends : List ℕ) → LeadsTo (standing l.tables.depth l.tables.painting list) (rows-given r list ends l)
  unfolding rows-given rows-painted
  whole r list ends = go (eqb (number-of-rows l.screen r a w (length ends)) Done)
    where
      a : Attributes
      a = attributes l.tables.paint-attrs l.tables.layer-attrs

      w : RowLent
      w = words_lent l.tables.rows l.tables.render l.tables.fills l.tables.depth l.tables.painting list

      g : StepOut
      g = standing l.tables.depth l.tables.painting list

      go : (b : Bool) → LeadsTo g (cond b (rows-in-order l.screen r a w ends) (rows_out (number-of-rows l.screen r a w (length ends)) 0 ends g))
      go true = in-order (asked r) r.first 0 ends g (omega arith)
      go false = none g

pub rows-calls : RowsAreCalls
unfolding pieces-in
rows-calls l r list ends = let z = whole l r list ends in record { calls = z.calls; words = z.words; pieces = sym z.pieces }

pub called-reached : {c : Bool} {f : Frame} {xs : List Step} (cs : List Call) {l : ScreenLent} → ReachedBy c f xs l → ReachedBy c f xs (called cs l)
unfolding called
called-reached [] h = h
called-reached (one-step t ∷ cs) h = called-reached cs (by-paint t.row t.list h)
called-reached (whole_row t ∷ cs) h = called-reached cs (row-reached t.row t.list h)

pub many-reached : {c : Bool} {f : Frame} {xs : List Step} {l : ScreenLent} (r : RowRange) (list ends : List ℕ) → ReachedBy c f xs l → ReachedBy c f xs (rows-at r list ends l)
many-reached {l = l} r list ends h = let z = rows-calls l r list ends in rw (← z.words) (called-reached z.calls h)
