-- A closing layer's rows and its clip, by the code's own values: what the contracts of this crate say in one word.
use Rattle.std.specs.Prelude.{ℕ, ◌+◌, ◌-◌, ◌*◌, ◌≤◌, ◌<◌, ◌≡◌, ◌/◌, Bool, true, false, ◌||◌, ◌&&◌, cond, List, [], ◌∷◌, length, map, leb, ltb, Option, None, IfSome}
use Rattle.sizes.specs.Widths.{bucket-tiles}
use Rattle.rules.specs.Lists.{join, range}
use Rattle.rules.specs.Answers.{Done}
use Rattle.rules.specs.Boxes.{rows_of}
use Rattle.rules.specs.Segments.{Segment, Cut, cut_in, good-segment, judge-segments}
use Rattle.rules.specs.Plans.{Put, on, close, close-puts}
use Rattle.span.specs.declared.TileSpan.{TileSpan}
use Rattle.span.specs.Spans.{tiles}
use Rattle.screen.specs.declared.layers.Layers.{Layers}
use Rattle.rect.specs.Rects.{box_of}
use Rattle.row.specs.Words.{Words}
use Rattle.row.specs.Arena.{nowhere}
use Rattle.row.specs.declared.rows.Rows.{Rows}
use Rattle.row.specs.Rows.{all-held}
use Rattle.row.specs.Building.{Whole}
use Rattle.screen.specs.declared.Screen.{Screen}
use Rattle.screen.specs.Screens.{frame-of}
use Rattle.segments.specs.declared.Scene.{Scene}
use Rattle.segments.specs.Segs.{seg-at, segs, origin, bounds}
use Rattle.std.specs.declared.ops.Range.{Range}
use Rattle.layers.specs.Band.{screen_rows}
use Rattle.pop.specs.declared.rows.ClipPath.{ClipPath}
use Rattle.pop.specs.declared.judge.Known.{Known}
use Rattle.pop.specs.Closing.{touched-in, good-pops, full_by, done-puts, runs-full, clip-puts, Clips, Roomy, Fillable, Each}
use Rattle.pop.specs.Pop.{PopLent, PopOut, pop_lent, out, good-open, late, number-after}

-- the slices hold every row of the screen, and no word more
abbrev pub WholeRows : Screen → Rows → Type 0
WholeRows s r = Whole (frame-of s) (all-held r)

-- the band's rows are rows of the screen; row r is
abbrev pub InScreen : Screen → Range ℕ → Type 0
InScreen s b = b.«end» ≤ rows_of (box_of s.viewport)

abbrev pub RowOf : Screen → ℕ → Type 0
RowOf s r = r < rows_of (box_of s.viewport)

-- rule 10: the rows of the band that the closing layer has touched; row r, if it has
abbrev pub touched : Screen → Range ℕ → Rows → List ℕ
touched s b r = touched-in s.layers (screen_rows s r) (range b.start b.«end»)

abbrev pub if_touched : Screen → ℕ → Rows → List ℕ
if_touched s i r = touched-in s.layers (screen_rows s r) (i ∷ [])

-- answer 4 for the rows of the band
abbrev pub good_band : Screen → Range ℕ → Rows → Bool
good_band s b r = good-pops s.c s.d s.layers (screen_rows s r) (range b.start b.«end»)

-- the puts carried out, the layer being closed
abbrev pub closed_by : Screen → List Put → List Words → List Words
closed_by s ps rs = done-puts (bucket-tiles s.width) (s.layers - 1) ps rs

-- the clip's segments, and what the parent's box leaves of them; what it leaves of segment i
abbrev pub clip_segments : ClipPath → List ℕ → List Segment
clip_segments p ws = segs ws p.start (p.«end» - p.start)

abbrev pub clip_cuts : ClipPath → List ℕ → List Cut
clip_cuts p ws = join (cut_in (origin p.scene) (bounds p.scene)) (clip_segments p ws)

abbrev pub segment_cut : Scene → List ℕ → ℕ → List Cut
segment_cut e ws i = cut_in (origin e) (bounds e) (seg-at ws i)

-- segment i of a list is there, and good
abbrev pub GoodAt : List ℕ → ℕ → Type 0
GoodAt ws i = (5 * i + 5 ≤ length ws) × (good-segment (seg-at ws i) ≡ true)

-- rule 9: the LayerFills of segment i, in the touched rows of the band; a LayerFill of a span on each of some rows
abbrev pub segment_puts : Screen → Range ℕ → Scene → List ℕ → ℕ → Rows → List Put
segment_puts s b e ws i r = close-puts s.layer_attrs (touched s b r) (segment_cut e ws i)

abbrev pub span_puts : Screen → TileSpan → List ℕ → List Put
span_puts s p is = map (on (close (tiles p) None s.layer_attrs)) is

-- .. those of a clip's segments, and what putting them requires
abbrev pub clip_puts : Screen → Range ℕ → ClipPath → List ℕ → Rows → List Put
clip_puts s b p ws r = clip-puts s.layer_attrs (touched s b r) p.scene (clip_segments p ws)

abbrev pub ClipReady : Screen → Range ℕ → ClipPath → List ℕ → Rows → Type 0
ClipReady s b p ws r = Clips (frame-of s) s.layers s.layer_attrs ws p.start p.«end» p.scene b.start b.«end» (all-held r)

-- each row that is put on has room for what all the puts make of it; each of some rows has, for a LayerFill of a span
abbrev pub RoomFor : Screen → List Put → List Words → Type 0
RoomFor s ps rs = Roomy (bucket-tiles s.width) (s.layers - 1) ps rs

abbrev pub FillableAt : Screen → TileSpan → Rows → List ℕ → Type 0
FillableAt s p r is = Each (Fillable (tiles p) None s.layer_attrs) (screen_rows s r) is

-- answer 10: these LayerFills, and a PopBuf on each touched row, are more than some row has room for
abbrev pub overfull : Screen → Range ℕ → Rows → List Cut → Bool
overfull s b r ks = runs-full s.c (touched s b r) (screen_rows s r) 0 0 ks

-- the number of a layer without a clip, and of one with it: 4, for the list 4 or 5, then 8, 9 and 10
abbrev pub plain_number : Screen → Range ℕ → Rows → ℕ
plain_number s b r = late (good_band s b r) 0 s.next_draw_id s.layer_attrs (full_by s.c 2 (screen_rows s r) (touched s b r))

abbrev pub clip_number : Screen → Range ℕ → Rows → ClipPath → List ℕ → ℕ
clip_number s b r p ws =
    late (good_band s b r) (judge-segments false (clip_segments p ws)) s.next_draw_id s.layer_attrs
    (full_by s.c 1 (screen_rows s r) (touched s b r) || overfull s b r (clip_cuts p ws))

-- segments that are known to be good and in order
abbrev pub IsKnown : List ℕ → Known → Type 0
IsKnown ws k = judge-segments false (segs ws k.start (k.«end» - k.start)) ≡ Done

abbrev pub KnownGood : List ℕ → Option Known → Type 0
KnownGood ws k = IfSome k (IsKnown ws)

-- scene row r lies in the scene e, and in the band b of local rows
abbrev pub in-scene : Scene → ℕ → Bool
in-scene e r = leb e.rows.first r && ltb r e.rows.end

abbrev pub in-band : Scene → Range ℕ → ℕ → Bool
in-band e b r = leb b.start (r - e.y / 4) && ltb (r - e.y / 4) b.end

-- all the scene's rows are the band's
abbrev pub Among : Scene → Range ℕ → Type 0
Among e b = (r : ℕ) → in-scene e r ≡ true → in-band e b r ≡ true

-- the scene u is e, of whose rows it has the band's alone
pub record OfBand (e : Scene) (b : Range ℕ) (u : Scene) : Type 0 where
  pub corner : origin u ≡ origin e
  pub columns : u.columns ≡ e.columns
  pub top : e.rows.first ≤ u.rows.first
  pub rows : (r : ℕ) → e.y / 4 ≤ e.rows.first → in-scene u r ≡ (in-scene e r && in-band e b r)

-- nothing that a pop with a clip reads of its rows and its list is refused
pub record ClipSure (s : Screen) (b : Range ℕ) (r : Rows) (p : ClipPath) (ws : List ℕ) : Type 0 where
  pub rows : good_band s b r ≡ true
  pub listed : judge-segments false (clip_segments p ws) ≡ Done
  pub room : (full_by s.c 1 (screen_rows s r) (touched s b r) || overfull s b r (clip_cuts p ws)) ≡ false

-- .. of a screen with a layer open, by its table: 4 for the layer first
abbrev pub open_number : Screen → Rows → List ℕ → List ℕ → ℕ
open_number s r t ws = cond (good-open (box_of s.viewport) t s.layers) (number-after s (pop_lent (all-held r) t [] []) ws 0) 4

-- what a pop is lent
abbrev pub pop_lent_of : Rows → Layers → List ℕ → PopLent
pop_lent_of r l a = pop_lent (all-held r) l.table.now l.opacities.now a

-- .. but for rows
abbrev pub tables_of : Layers → List ℕ → PopLent
tables_of l a = pop_lent nowhere l.table.now l.opacities.now a

-- a screen with what is lent, as it stands
abbrev pub standing : Screen → PopLent → PopOut
standing s l = out 0 s l
