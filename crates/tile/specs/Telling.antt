-- The story of one tile, told into lent words with no row: what each building step says of the tile, one line for each attribute that it adds.
-- At w tiles a bucket. A step is refused by 6, 8 and 9, as the rules have them; no row can be full here.
use Rattle.std.specs.Prelude.{ℕ, suc, ◌+◌, ◌-◌, ◌*◌, ◌/◌, min, Bool, true, false, ◌&&◌, ◌||◌, not, cond, List, [], ◌∷◌, length, leb, ltb, eqb}
use Rattle.std.specs.Prelude.{Option, None, Some}
use Rattle.sizes.specs.Sizes.{most-layers, most-attrs, most-filters, last-id}
use Rattle.rules.specs.Lists.{is-empty, is_none}
use Rattle.rules.specs.Answers.{Answer, settle, first_of, Done, Deep, NoLayer, Ids, FullAttrs}
use Rattle.rules.specs.Boxes.{Box, span_of, scene-tiles}
use Rattle.rules.specs.Spans.{Span, span, Stretch, covers, moved}
use Rattle.rules.specs.Segments.{Segment, Cut, cut_in}
use Rattle.rules.specs.Inputs.{draw-segments, draw-paint, Clip, Props, Filter}
use Rattle.rules.specs.Plans.{Layer, Step, a-fill, a-push, a-pop, a-filter, clip-box, eligible, layer-box, touches-all, clip-segments, filter-box, draws-nothing}
use Rattle.cmd.specs.Attrs.{words-at}
use Rattle.sizes.specs.Sizes.{line-size}

-- What is known after some steps: the next id, how many paint attributes, layer attributes and filter paints there are, for how many of the open
-- layers, from the outermost, the row is touched; the open layers, the innermost first; the lines
pub record Telling : Type 0 where
  pub next : ℕ
  pub paints : ℕ
  pub layers : ℕ
  pub filters : ℕ
  pub levels : ℕ
  pub opened : List Layer
  pub lines : List ℕ

-- An attribute's line. standing: 0 no segment covers the tile, 1 cut away, 2 its row is not touched, 3 told, 4 told and it hides what came before
pub record Line : Type 0 where
  pub layer : Bool
  pub attribute : ℕ
  pub standing : ℕ
  pub alpha : Option ℕ
  pub nesting : ℕ
  pub panel : ℕ

abbrev pub standing-of : Bool → Bool → Bool → Bool → ℕ
standing-of covered kept touched hides = cond (not covered) 0 (cond (not kept) 1 (cond (not touched) 2 (cond hides 4 3)))

abbrev pub alpha-words : Option ℕ → List ℕ → List ℕ
alpha-words None ws = 0 ∷ 0 ∷ ws
alpha-words (Some a) ws = 1 ∷ a ∷ ws

-- the words after the alpha index
abbrev pub after-alpha : Line → List ℕ
after-alpha l = l.nesting ∷ l.panel ∷ []

-- layer or draw, attribute, standing, whether it has an alpha index, that index, nesting, panel
abbrev pub line-words : Line → List ℕ
line-words l = cond l.layer 1 0 ∷ l.attribute ∷ l.standing ∷ alpha-words l.alpha (after-alpha l)

-- where the panel stands
abbrev pub line-panel-at : ℕ
line-panel-at = 6

-- What a list of segments is to the tile. covered: one covers it before the cut; reached: one is left in its row; kept: one that is left covers
-- it, with the tile's alpha index, and whether it covers the tile's whole bucket
pub record Look : Type 0 where
  pub covered : Bool
  pub reached : Bool
  pub kept : Bool
  pub alpha : Option ℕ
  pub whole : Bool

abbrev pub no-look : Look
no-look = record { covered = false; reached = false; kept = false; alpha = None; whole = false }

-- The lines of the steps, for attribute i of panel q with n layers open: of a draw that is k to the tile (e: its segments are eligible if solid),
-- of a closing layer, of a filter fill
abbrev pub draw-line : Look → Bool → ℕ → ℕ → ℕ → Line
draw-line k e i n q =
    record {
      layer = false;
      attribute = i;
      standing = standing-of k.covered k.kept true (e && is_none k.alpha && k.whole);
      alpha = k.alpha;
      nesting = n;
      panel = q;
    }

abbrev pub closing-line : Look → Bool → ℕ → ℕ → ℕ → Line
closing-line k touched i n q =
    record {
      layer = true;
      attribute = i;
      standing = standing-of k.covered k.kept touched false;
      alpha = k.alpha;
      nesting = n;
      panel = q;
    }

abbrev pub filter-line : Bool → Bool → ℕ → ℕ → ℕ → Line
filter-line covered kept i n q =
    record {
      layer = false;
      attribute = i;
      standing = standing-of covered kept true false;
      alpha = None;
      nesting = n;
      panel = q;
    }

-- a box meets the row r
abbrev pub in_row : Box → ℕ → Bool
in_row b r = leb (b.y0 / 4) r && ltb r ((b.y1 + 3) / 4)

-- .. and tile t of it
abbrev pub met : Box → ℕ → ℕ → Bool
met b r t = in_row b r && covers (span_of b) t

-- a span covers the tile's whole bucket, all of its w tiles
abbrev pub is_whole : ℕ → ℕ → Span → Bool
is_whole w tile s = leb s.first (tile / w * w) && leb (tile / w * w + w) s.end

-- what is left of a segment of the tile's row
abbrev pub noticed : ℕ → ℕ → Look → Stretch → Look
noticed w tile k s =
    cond (covers s.tiles tile)
    (record {
      covered = k.covered;
      reached = true;
      kept = true;
      alpha = moved s.alpha (tile - s.tiles.first);
      whole = is_whole w tile s.tiles;
    })
    (record { covered = k.covered; reached = true; kept = k.kept; alpha = k.alpha; whole = k.whole })

module _ (w : ℕ) (v : Box) (row tile : ℕ) where
  abbrev pub notice : Look → List Cut → Look
  notice k [] = k
  notice k (x ∷ xs) = noticed w tile k x.stretch

  abbrev pub cover : Look → Segment → Look
  cover k s =
      record {
        covered = k.covered || covers (span s.first s.end) (tile + v.x0 / 4);
        reached = k.reached;
        kept = k.kept;
        alpha = k.alpha;
        whole = k.whole;
      }

  -- one more segment, cut to the clip box c; those of other rows say nothing
  abbrev pub see : Box → Look → Segment → Look
  see c k s = cond (eqb s.row (row + v.y0 / 4)) (notice (cover k s) (cut_in v (scene-tiles v c) s)) k

  unfoldable pub look : Box → Look → List Segment → Look
  look c k [] = k
  look c k (s ∷ ss) = look c (see c k s) ss

  -- a line for the next attribute
  abbrev pub with-line : Telling → Line → List ℕ
  with-line t l = words-at t.lines (line-size * (t.paints + t.layers)) (line-words l)

  -- the row is touched for all open layers
  abbrev pub touch : Bool → Telling → ℕ
  touch b t = cond b (length t.opened) t.levels

  abbrev pub no-id : Telling → Bool
  no-id t = ltb last-id t.next

  -- rule 3: a draw of panel q with the segments `own`; e: they are eligible if solid
  abbrev pub drawn : List Segment → Bool → ℕ → Telling → Telling
  drawn own e q t =
      let k = look (clip-box v t.opened) no-look own in
      record {
        next = t.next + 1;
        paints = t.paints + 1;
        layers = t.layers;
        filters = t.filters;
        levels = touch k.reached t;
        opened = t.opened;
        lines = with-line t (draw-line k e t.paints (length t.opened) q);
      }

  -- .. with none: an id and nothing else
  abbrev pub undrawn : Telling → Telling
  undrawn t =
      record {
        next = t.next + 1;
        paints = t.paints;
        layers = t.layers;
        filters = t.filters;
        levels = t.levels;
        opened = t.opened;
        lines = t.lines;
      }

  unfoldable pub tell-fill : List Segment → Bool → ℕ → Telling → Answer Telling
  tell-fill own e q t =
      settle (first_of ((no-id t, Ids) ∷ (not (is-empty own) && leb most-attrs t.paints, FullAttrs) ∷ [])) t
      (cond (is-empty own) (undrawn t) (drawn own e q t))

  -- rule 8
  unfoldable pub tell-push : Props → Telling → Answer Telling
  tell-push p t =
      let b = layer-box v (clip-box v t.opened) p.clip in
      settle (first_of ((leb most-layers (length t.opened), Deep) ∷ [])) t
      (record {
        next = t.next;
        paints = t.paints;
        layers = t.layers;
        filters = t.filters;
        levels = cond (touches-all p b && in_row b row) (length t.opened + 1) t.levels;
        opened = record { props = p; bounds = b } ∷ t.opened;
        lines = t.lines;
      })

  -- rule 9: what closes a layer: a clip's segments, cut by the parent's box; without a clip the layer's own box
  abbrev pub closing-look : Option Clip → Box → Box → List Segment → Look
  closing-look None own parent ss =
      let k = met own row tile in
      record { covered = true; reached = k; kept = k; alpha = None; whole = false }
  closing-look (Some c) own parent ss = look parent no-look (clip-segments (Some c) ss)

  -- the layer l closes, ls are those around it
  abbrev pub closed : Layer → List Layer → List Segment → Telling → Telling
  closed l ls ss t =
      let k = closing-look l.props.clip l.bounds (clip-box v ls) ss in
      record {
        next = t.next + 1;
        paints = t.paints;
        layers = t.layers + 1;
        filters = t.filters;
        levels = min t.levels (length ls);
        opened = ls;
        lines = with-line t (closing-line k (ltb (length ls) t.levels) t.layers (suc (length ls)) l.props.panel);
      }

  unfoldable pub tell-pop : List Layer → List Segment → Telling → Answer Telling
  tell-pop [] ss t = settle NoLayer t t
  tell-pop (l ∷ ls) ss t = settle (first_of ((no-id t, Ids) ∷ (leb most-attrs t.layers, FullAttrs) ∷ [])) t (closed l ls ss t)

  -- rule 11: a filter fill of panel q into the box b, its dest box met with the clip box
  abbrev pub filtered : Box → Filter → ℕ → Telling → Telling
  filtered b f q t =
      record {
        next = t.next + 1;
        paints = t.paints + 1;
        layers = t.layers;
        filters = t.filters + 1;
        levels = touch (in_row b row) t;
        opened = t.opened;
        lines =
            with-line t
            (filter-line (met f.dest (row + v.y0 / 4) (tile + v.x0 / 4)) (met b row tile) t.paints (length t.opened) q);
      }

  unfoldable pub tell-filter : Filter → ℕ → Telling → Answer Telling
  tell-filter f q t =
      let b = filter-box v (clip-box v t.opened) f in
      cond (draws-nothing f b) (settle Done t t)
      (settle (first_of ((no-id t, Ids) ∷ (leb most-attrs t.paints || leb most-filters t.filters, FullAttrs) ∷ [])) t (filtered b f q t))

  unfoldable pub tell-at : Step → Telling → Answer Telling
  tell-at (a-fill ps ss d) t =
      tell-fill (draw-segments ss d) (eligible (is-empty t.opened) (draw-paint ps d) d) d.panel t
  tell-at (a-push p) t = tell-push p t
  tell-at (a-pop ss) t = tell-pop t.opened ss t
  tell-at (a-filter n f q) t = tell-filter f q t

-- nothing told yet, into these words
abbrev pub nothing-told : List ℕ → Telling
nothing-told ws = record { next = 1; paints = 0; layers = 0; filters = 0; levels = 0; opened = []; lines = ws }
