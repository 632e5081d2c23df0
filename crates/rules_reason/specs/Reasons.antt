-- Why does this tile show that? For one tile of one row, and one attribute: one reason, the first that holds, told by the history of
-- done steps in plain draw order (rules 3, 4, 9 and 11, and the picture). At w tiles a bucket.
use Rattle.std.specs.Prelude.{ℕ, suc, ◌+◌, ◌/◌, Bool, true, false, ◌&&◌, not, cond, List, [], ◌∷◌, ◌++◌, length, eqb}
use Rattle.std.specs.Bool.{beq}
use Rattle.std.specs.Prelude.{Option, None, Some}
use Rattle.rules.specs.Lists.{some_of, is-empty}
use Rattle.rules.specs.Boxes.{Box, rows_in, span_of}
use Rattle.rules.specs.Spans.{span, covers, solid-tiles}
use Rattle.rules.specs.Segments.{Segment, Cut}
use Rattle.rules.specs.Inputs.{Paint, Draw, draw-segments, draw-paint, Clip, Filter}
use Rattle.rules.specs.Plans.{Step, a-fill, a-push, a-pop, a-filter, eligible, clip-segments, filter-box, draws-nothing}
use Rattle.rules.specs.Plain.{Told, OpenLayer, Story, untold, box-now, here, closers, in_rows, tell, tell-step, tell-steps, shown}

-- An attribute that there is has its panel, last.
pub data Reason : Type 0 where
  unknown-attribute : Reason
  no-segment : ℕ → Reason
  cut-away : ℕ → Reason
  row-untouched : ℕ → Reason
  -- the attribute of the newest that hides it, and that one's panel
  hidden-by : ℕ → ℕ → ℕ → Reason
  -- its place in the tile's list, from 0
  shown-at : ℕ → ℕ → Reason

-- what is asked about: a layer attribute, or a draw's (a filter fill's is a draw's)
pub record Asked : Type 0 where
  pub layer : Bool
  pub attribute : ℕ

-- What the step that adds an attribute says of the tile. covered: something of it covers the tile before it is cut; kept: and after; touched: the
-- row is touched for the layer that it closes (a draw closes none); told: the entries that it gives the tile; panel: the attribute's
pub record Account : Type 0 where
  pub layer : Bool
  pub attribute : ℕ
  pub covered : Bool
  pub kept : Bool
  pub touched : Bool
  pub told : List Told
  pub panel : ℕ

module _ (w : ℕ) (v : Box) (row tile : ℕ) where
  -- a segment covers the tile, in scene tiles
  abbrev pub covering : Segment → Bool
  covering s = eqb s.row (row + v.y0 / 4) && covers (span s.first s.end) (tile + v.x0 / 4)

  -- a cut segment covers the tile
  abbrev pub keeping : Cut → Bool
  keeping k = covers k.stretch.tiles tile

  -- a box meets tile t of row r
  abbrev pub meets : Box → ℕ → ℕ → Bool
  meets b r t = some_of (eqb r) (rows_in b) && covers (span_of b) t

  -- a draw: its segments, cut by the clip box in force. One without segments adds no attribute
  abbrev pub account-fill : List Paint → List Segment → Draw → Story → List Account
  account-fill ps ss d s =
      let own = draw-segments ss d in
      let ks = here w v row tile s.open-layers own in
      let e = eligible (is-empty s.open-layers) (draw-paint ps d) d in
      cond (is-empty own) []
      (record {
        layer = false;
        attribute = s.paints;
        covered = some_of covering own;
        kept = some_of keeping ks;
        touched = true;
        told = tell w v row tile false s.paints d.panel (length s.open-layers) s.next e ks;
        panel = d.panel;
      }
      ∷ [])

  -- before the cut: a clip's segments, or the whole viewport, which stands as the segment of a layer without a clip
  abbrev pub layer-covers : Option Clip → List Segment → Bool
  layer-covers None ss = true
  layer-covers (Some c) ss = some_of covering (clip-segments (Some c) ss)

  -- after it: a clip's segments cut by the parent's box, or the layer's own box
  abbrev pub layer-keeps : Option Clip → Box → List OpenLayer → List Segment → Bool
  layer-keeps None own ls ss = meets own row tile
  layer-keeps (Some c) own ls ss = some_of keeping (here w v row tile ls (clip-segments (Some c) ss))

  -- a closing layer
  abbrev pub account-pop : List OpenLayer → List Segment → Story → List Account
  account-pop [] ss s = []
  account-pop (l ∷ ls) ss s =
      let c = l.layer.props.clip in
      let ks = closers w v row tile c l.layer.bounds ls ss in
      record {
        layer = true;
        attribute = s.layers;
        covered = layer-covers c ss;
        kept = layer-keeps c l.layer.bounds ls ss;
        touched = l.touched;
        told =
            cond l.touched (tell w v row tile true s.layers l.layer.props.panel (length s.open-layers) s.next false ks) [];
        panel = l.layer.props.panel;
      }
      ∷ []

  -- a filter fill: the rows and tiles that its dest box meets, cut by the clip box in force. One that draws nothing adds no attribute
  abbrev pub account-filter : Filter → ℕ → Story → List Account
  account-filter f q s =
      let b = filter-box v (box-now v s.open-layers) f in
      let ks : List Cut = cond (in_rows w v row tile b) (record { row = row; stretch = solid-tiles (span_of b) } ∷ []) [] in
      cond (draws-nothing f b) []
      (record {
        layer = false;
        attribute = s.paints;
        covered = meets f.dest (row + v.y0 / 4) (tile + v.x0 / 4);
        kept = meets b row tile;
        touched = true;
        told = tell w v row tile false s.paints q (length s.open-layers) s.next false ks;
        panel = q;
      }
      ∷ [])

  unfoldable pub account-step : Step → Story → List Account
  account-step (a-fill ps ss d) s = account-fill ps ss d s
  account-step (a-push p) s = []
  account-step (a-pop ss) s = account-pop s.open-layers ss s
  account-step (a-filter n f q) s = account-filter f q s

  -- an account for each attribute that the steps add
  unfoldable pub accounts : List Step → Story → List Account
  accounts [] s = []
  accounts (x ∷ xs) s = account-step x s ++ accounts xs (tell-step w v row tile x s)

-- the account of the asked attribute
unfoldable pub account-of : Asked → List Account → Option Account
account-of a [] = None
account-of a (k ∷ ks) = cond (beq k.layer a.layer && eqb k.attribute a.attribute) (Some k) (account-of a ks)

-- the place of the asked attribute's entry in a list that starts at place n
unfoldable pub place_of : Asked → ℕ → List Told → Option ℕ
place_of a n [] = None
place_of a n (t ∷ ts) =
    cond (beq t.entry.layer a.layer && eqb t.entry.attribute a.attribute) (Some n) (place_of a (suc n) ts)

-- an attribute and its panel
pub record Hider : Type 0 where
  pub attribute : ℕ
  pub panel : ℕ

abbrev pub hider-of : Told → Hider
hider-of t = record { attribute = t.entry.attribute; panel = t.entry.panel }

-- those of the newest entry that hides. Where there is none nothing is hidden, and no reason reads it
unfoldable pub newest-hider : List Told → Hider
newest-hider [] = record { attribute = 0; panel = 0 }
newest-hider (t ∷ ts) = cond (some_of (λ (u : Told). u.hides) ts) (newest-hider ts) (hider-of t)

abbrev pub hidden : Hider → ℕ → Reason
hidden h q = hidden-by h.attribute h.panel q

-- an entry of the tile's list, or one that is not in it any more; q: its panel
abbrev pub placed : Option ℕ → List Told → ℕ → Reason
placed (Some n) ts q = shown-at n q
placed None ts q = hidden (newest-hider ts) q

-- the first that holds
unfoldable pub because : Asked → Option Account → List Told → Reason
because a None ts = unknown-attribute
because a (Some k) ts =
    cond (not k.covered) (no-segment k.panel)
    (cond (not k.kept) (cut-away k.panel)
    (cond (not k.touched) (row-untouched k.panel) (placed (place_of a 0 (shown ts)) ts k.panel)))

-- after the steps xs, for tile and row of the viewport v
unfoldable pub reason : ℕ → Box → ℕ → ℕ → List Step → Asked → Reason
reason w v row tile xs a =
    because a (account-of a (accounts w v row tile xs untold)) (tell-steps w v row tile xs untold).told
