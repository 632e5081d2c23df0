-- A fill's rows and segments, by the code's own values: what the contracts of this crate say in one word.
use Rattle.std.specs.Prelude.{ℕ, ◌+◌, ◌-◌, ◌*◌, ◌≤◌, ◌<◌, ◌≡◌, Bool, true, false, List, length}
use Rattle.sizes.specs.Editions.{draw-size}
use Rattle.rules.specs.Answers.{Done}
use Rattle.rules.specs.Segments.{good-segment, judge-segments}
use Rattle.rules.specs.Inputs.{good-fill}
use Rattle.rules.specs.Plans.{Put}
use Rattle.row.specs.Words.{Words}
use Rattle.row.specs.declared.rows.Rows.{Rows}
use Rattle.row.specs.Rows.{all-held}
use Rattle.row.specs.Arena.{sizes, cut, count-rows}
use Rattle.screen.specs.declared.Screen.{Screen}
use Rattle.screen.specs.Screens.{frame-of, screen-in}
use Rattle.segments.specs.Segs.{seg-at, segs, segs-of}
use Rattle.fill.specs.declared.rows.FillJob.{FillJob}
use Rattle.fill.specs.Filling.{puts, done, Roomy}
use Rattle.fill.specs.Fills.{FillLent, fill_lent, paints-of}
use Rattle.fill.specs.Tallies.{Rowed}
use Rattle.sizes.specs.declared.edition.Edition.{Edition}
use Rattle.inputs.specs.declared.Draw.{Draw}
use Rattle.inputs.specs.Inputs.{draw-of}
use Rattle.inputs.specs.Draws.{draw_at}
use Rattle.fill.specs.declared.list.Draws.{Draws}
use Rattle.fill.specs.Lists.{FillsOut, draws_in, fills_listed}

-- a screen and the words that a fill writes, as they are lent
abbrev pub fill_lent_of : Screen → Rows → List ℕ → FillLent
fill_lent_of s r table = fill_lent s (all-held r) table

-- the rows whose records are s, as the words hold them
abbrev pub job_rows : FillJob → List ℕ → Words → List Words
job_rows j s w = cut (sizes j.c j.d) (count-rows s) w

-- .. as they are lent
abbrev pub held_rows : FillJob → Rows → List Words
held_rows j r = job_rows j r.state.now (all-held r)

-- .. after the segments from a to b were drawn on them
abbrev pub rows_after : FillJob → List ℕ → ℕ → ℕ → List Words → List Words
rows_after j ws a b rs = done j (puts j ws a (b - a)) rs

-- each row that is put on has room for what all the puts make of it
abbrev pub RoomFor : FillJob → List Put → List Words → Type 0
RoomFor j ps rs = Roomy ps rs (done j ps rs)

-- the records are those of a screen's rows, and the job's numbers are in their bounds
abbrev pub RecordsOf : FillJob → List ℕ → Type 0
RecordsOf j rows = Rowed j (count-rows rows) rows

-- the segments before b are in the list
abbrev pub InList : List ℕ → ℕ → Type 0
InList ws b = 5 * b ≤ length ws

-- segment i is there, and good
abbrev pub GoodAt : List ℕ → ℕ → Type 0
GoodAt ws i = (5 * i + 5 ≤ length ws) × (good-segment (seg-at ws i) ≡ true)

-- segment i has alpha values
abbrev pub NotSolid : List ℕ → ℕ → Type 0
NotSolid ws i = (seg-at ws i).kind ≡ 0 → ⊥

-- how many draws are asked for
abbrev pub asked : Draws → ℕ
asked d = d.end - d.start

-- .. and which, in an edition
abbrev pub draws-of : Edition → Draws → List Draw
draws-of e d = draws_in e d.words.now d.start (asked d)

-- a draw that passes the tests of a fill, and whose segments pass theirs and stand in order
pub record KnownDraw (ps ss : List ℕ) (d : Draw) : Type 0 where
  pub fill : good-fill (paints-of ps) (segs-of ss) (draw-of d) ≡ true
  pub list : judge-segments false (segs ss d.start (d.end - d.start)) ≡ Done

-- .. each of a range of draws, in an edition
abbrev pub KnownDraws : List ℕ → List ℕ → Edition → Draws → Type 0
KnownDraws ps ss e ds = (i : ℕ) → ds.start ≤ i → i < ds.end → KnownDraw ps ss (draw_at e ds.words.now (draw-size e * i))

-- what a list's fills give
abbrev pub fills-of : List ℕ → List ℕ → Draws → FillLent → FillsOut
fills-of ps ss d l = fills_listed ps ss d.words.now d.start d.end l

-- whether the job's solid segments may become depth fills, and then no layer is open
abbrev pub Splits : FillJob → Bool → Type 0
Splits j b = (b ≡ j.eligible) × (b ≡ true → j.layers ≡ 0)

-- t is s but for the next id, the count of paint attributes and whether painting has begun
abbrev pub OnlyFilled : Screen → Screen → Type 0
OnlyFilled s t =
    t ≡ screen-in (frame-of s) s.clip_bbox t.next_draw_id t.paint_attrs s.layer_attrs s.filter_paints s.layers t.painting
