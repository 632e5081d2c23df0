-- What a host lends for painting, and what a fill gives, by the code's own values: what the contracts of this crate say in one word.
use Rattle.std.specs.Prelude.{ℕ, ◌+◌, ◌*◌, ◌≤◌, ◌<◌, ◌≡◌, Bool, List, length, map}
use Rattle.sizes.specs.Sizes.{row-size, most-room, most-attrs, paint-attr-table, layer-attr-table}
use Rattle.sizes.specs.Widths.{bucket-tiles}
use Rattle.rules.specs.Attributes.{Attrs, no-attrs}
use Rattle.rules.specs.Depth.{write-runs, written}
use Rattle.rules.specs.Minima.{minima-room, halvings, mended-runs}
use Rattle.rules.specs.Painting as rules
use Rattle.rules.specs.Painting.{gives, depth-piece}
use Rattle.span.specs.Spans.{tiles, buckets}
use Rattle.cmd.specs.declared.command.Fill.{Fill}
use Rattle.cmd.specs.declared.depth_fill.DepthFill.{DepthFill}
use Rattle.screen.specs.declared.Screen.{Screen}
use Rattle.screen.specs.Depths.{Depths, depths, depths_in}
use Rattle.paint.specs.declared.canvas.stored.Stored.{Stored}
use Rattle.paint.specs.declared.canvas.stored.Canvas.{Canvas}
use Rattle.paint.specs.declared.canvas.stored.RowWords.{RowWords}
use Rattle.paint.specs.Answers.{Painted}
use Rattle.paint.specs.Beginning as begin
use Rattle.paint.specs.declared.command.reading.StoredRow.{StoredRow}
use Rattle.paint.specs.declared.command.marks.Mark.{Mark}
use Rattle.rules.specs.Spans.{Span}
use Rattle.paint.specs.Summaries.{summary-at, shown_runs}
use Rattle.paint.specs.Painting.{word, attrs-at, painter-at, fill-shown, RowLent, words_lent, StepOut, out}
use Rattle.paint.specs.Reading.{attrs_of}
use Rattle.paint.specs.Stepping.{Attributes, attributes, part, Within, StepReady}
use Rattle.paint.specs.Judging.{wide}

-- a row's two painting words, that can count one step more
abbrev pub CanStep : List ℕ → Type 0
CanStep p = (length p ≡ 2) × (word p 0 < 4294967295)

-- the same slices, whatever they hold; their lengths are said too, since no name tells them
pub record SameCanvas (a b : Canvas) : Type 0 where
  pub words : b.depth.words.ghost_name ≡ a.depth.words.ghost_name
  pub minima : b.depth.minima.ghost_name ≡ a.depth.minima.ghost_name
  pub painting : b.painting.ghost_name ≡ a.painting.ghost_name
  pub words-long : length b.depth.words.now ≡ length a.depth.words.now
  pub minima-long : length b.depth.minima.now ≡ length a.depth.minima.now
  pub painting-long : length b.painting.now ≡ length a.painting.now

-- .. of one row
pub record SameRow (a b : RowWords) : Type 0 where
  pub depth : b.depth.ghost_name ≡ a.depth.ghost_name
  pub minima : b.minima.ghost_name ≡ a.minima.ghost_name
  pub painting : b.painting.ghost_name ≡ a.painting.ghost_name
  pub depth-long : length b.depth.now ≡ length a.depth.now
  pub minima-long : length b.minima.now ≡ length a.minima.now
  pub painting-long : length b.painting.now ≡ length a.painting.now

-- one row's own words: few buckets, their minima, and two painting words
pub record RowLong (c : RowWords) : Type 0 where
  pub few : length c.depth.now ≤ 65535
  pub minima : length c.minima.now ≡ minima-room (length c.depth.now)
  pub painting : length c.painting.now ≡ 2

abbrev pub own-depths : RowWords → Depths
own-depths c = depths c.depth.now c.minima.now

-- a screen with a canvas' words; an answer with those and the list
abbrev pub begun_of : Screen → Canvas → begin.Canvas
begun_of s c = begin.canvas s (depths_in c.depth) c.painting.now

abbrev pub step_out : Painted → Canvas → List ℕ → StepOut
step_out a c l = out a (depths_in c.depth) c.painting.now l

abbrev pub row_out : Painted → RowWords → List ℕ → StepOut
row_out a c l = out a (own-depths c) c.painting.now l

-- the stored words, with the canvas' words and the list
abbrev pub row_lent : Stored → Canvas → List ℕ → RowLent
row_lent s c l = words_lent s.rows.now s.render_cmds.now s.depth_cmds.now (depths_in c.depth) c.painting.now l

-- the tables of attributes; those of them that are in use
abbrev pub row_attrs : Stored → Attributes
row_attrs s = attributes s.paint_attrs.now s.layer_attrs.now

abbrev pub used_attrs : Screen → Stored → Attrs
used_attrs c s = attrs-at s.paint_attrs.now c.paint_attrs s.layer_attrs.now c.layer_attrs

-- the parts of row r lie within the words that are lent, and the tables are whole
abbrev pub RowReady : Screen → ℕ → Stored → Canvas → List ℕ → Type 0
RowReady s r t c l = StepReady (wide s) s.c s.d s.paint_attrs s.layer_attrs r (row_attrs t) (row_lent t c l)

-- .. so do those of the stored words
pub record RowStored (s : Screen) (r : ℕ) (t : Stored) : Type 0 where
  pub state : Within row-size r t.rows.now
  pub render : Within (4 * s.c) r t.render_cmds.now
  pub fills : Within (2 * s.d) r t.depth_cmds.now
  pub few-commands : s.c ≤ most-room
  pub few-fills : s.d ≤ most-room
  pub paint-table : length t.paint_attrs.now ≡ paint-attr-table
  pub layer-table : length t.layer_attrs.now ≡ layer-attr-table
  pub paints : s.paint_attrs ≤ most-attrs
  pub layers : s.layer_attrs ≤ most-attrs

-- a row's parts of them
pub record IsRowOf (s : Screen) (r : ℕ) (t : Stored) (o : StoredRow) : Type 0 where
  pub state : o.state.now ≡ part row-size r t.rows.now
  pub render : o.render_cmds.now ≡ part (4 * s.c) r t.render_cmds.now
  pub fills : o.depth_cmds.now ≡ part (2 * s.d) r t.depth_cmds.now
  pub attrs : attrs_of o.attrs ≡ used_attrs s t
  pub width : o.width ≡ s.width

-- the runs of tiles that a row shows for an id
abbrev pub shown_in : StoredRow → RowWords → ℕ → Span → List Span
shown_in r c id s = shown_runs (bucket-tiles r.width) (summary-at r.state.now) c.depth.now id s

-- what a depth fill gives, and what a paint's or a layer's fill does, in a row
abbrev pub depth_painted : ℕ → DepthFill → Mark → RowWords → rules.Painted
depth_painted v f m c =
    let d = c.depth.now in
    let p = c.painting.now in
    gives (map (depth-piece v no-attrs f.attrs_idx m.panel) (write-runs d (buckets f.buckets))) (written d m.id (buckets f.buckets)) (word p 0 + 1) (word p 1)

-- .. and the minima after it
abbrev pub depth_minima : DepthFill → Mark → RowWords → List ℕ
depth_minima f m c =
    let d = c.depth.now in
    let r = buckets f.buckets in
    mended-runs (halvings (length d)) c.minima.now (written d m.id r) (write-runs d r)

abbrev pub fill_painted : StoredRow → Bool → Fill → Mark → RowWords → rules.Painted
fill_painted r l f m c =
    fill-shown (bucket-tiles r.width) no-attrs (summary-at r.state.now) l m.id f.attrs_idx m.panel (tiles f.span) f.alpha
    (painter-at c.depth.now c.painting.now)
