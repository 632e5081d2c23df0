-- A running tally over the cut segments of a list: the counts of the row at hand, loaded from its record when the row changes.
use Rattle.std.specs.Prelude.{ℕ, ◌+◌, ◌*◌, ◌/◌, ◌≤◌, ◌≡◌, Bool, true, false, ◌||◌, cond, List, [], ◌∷◌, ltb, eqb, get_or, length}
use Rattle.std.specs.Prelude.{Option, None, Some, Result, Ok, Err}
use Rattle.sizes.specs.Sizes.{tile-end, tile-height, most-layers, most-room, most-rows, row-size, renders-at, depths-at, levels-at}
use Rattle.rules.specs.Answers.{Done, BadRecord, BadOrder, FullRow, FullDepth}
use Rattle.rules.specs.Spans.{Span}
use Rattle.rules.specs.Segments.{Cut}
use Rattle.rules.specs.Plans.{draw-act}
use Rattle.rules.specs.Steps.{do-act}
use Rattle.sizes.specs.Widths.{bucket-tiles}
use Rattle.row.specs.Counts as count
use Rattle.row.specs.Counts.{counts, count-ops}
use Rattle.row.specs.Building.{good_row}
use Rattle.segments.specs.Segs.{origin, bounds, Starts}
use Rattle.fill.specs.declared.rows.FillJob.{FillJob}
use Rattle.row.specs.declared.room.Limits.{Limits}
use Rattle.row.specs.declared.room.Hand.{Hand}
use Rattle.sizes.specs.declared.answers.Refusal.{Refusal}
use Rattle.sizes.specs.declared.answers.Refusal.TheVariants as refusal
use Rattle.row.specs.declared.room.Fault.{Fault}
use Rattle.sizes.specs.Refusals.{number_of}
use Rattle.row.specs.Room.{record-at, limits, Counted, hand_of, at-hand, loaded, added_to, fault_number}

-- the counts of the row at hand, and whether a row has passed its room so far
pub record Tally : Type 0 where
  pub row : ℕ
  pub renders : ℕ
  pub depths : ℕ
  pub levels : ℕ
  pub full : Bool
  pub deep : Bool

abbrev pub edge_count : ℕ → ℕ → ℕ
edge_count a b = cond (ltb a b) 1 0

-- what a stretch adds to the counts of a row that has its layers (rules 6 and 7), at v tiles a bucket
unfoldable pub added : ℕ → Bool → Span → Option ℕ → count.Counts
added v e s a = do-act count.Counts count-ops v 0 (draw-act e 0 0 s a) (counts 0 0 0)

-- the counts that a row's record holds
abbrev pub stored : List ℕ → count.Counts
stored s = counts (get_or s renders-at 0) (get_or s depths-at 0) (get_or s levels-at 0)

-- those of row r, whose record at entry is s
unfoldable pub known : Tally → List ℕ → ℕ → count.Counts
known t s r = cond (eqb t.row r) (counts t.renders t.depths t.levels) (stored s)

-- a cut segment's act, on counts
abbrev pub drawn-counts : FillJob → Cut → count.Counts → count.Counts
drawn-counts j k c = do-act count.Counts count-ops (bucket-tiles j.width) j.layers (draw-act j.eligible j.attr j.id k.stretch.tiles k.stretch.alpha) c

abbrev pub tally-of : FillJob → Tally → ℕ → count.Counts → Tally
tally-of j t r c =
    record {
      row = r;
      renders = c.renders;
      depths = c.depths;
      levels = c.levels;
      full = t.full || ltb j.c c.renders;
      deep = t.deep || ltb j.d c.depths;
    }

-- one more cut segment, on a row whose record at entry is s
unfoldable pub tallied : FillJob → List ℕ → Tally → Cut → Tally
tallied j s t k = tally-of j t k.row (drawn-counts j k (known t s k.row))

-- none where a row's record is bad
unfoldable pub tally_cuts : FillJob → List ℕ → Tally → List Cut → Option Tally
tally_cuts j rows t [] = Some t
tally_cuts j rows t (k ∷ ks) =
    let s = record-at rows k.row in
    let more = tally_cuts j rows (tallied j s t k) ks in
    cond (good_row j.c j.d j.layers s) more None

abbrev pub verdict : Option Tally → ℕ
verdict None = BadRecord
verdict (Some t) = cond t.full FullRow (cond t.deep FullDepth Done)

-- no row at hand: 8,192 is no row
abbrev pub none_yet : Tally
none_yet = record { row = tile-end; renders = 0; depths = 0; levels = 0; full = false; deep = false }

-- the job's numbers, and the records of n rows
pub record Rowed (j : FillJob) (n : ℕ) (rows : List ℕ) : Type 0 where
  pub c : j.c ≤ most-room
  pub d : j.d ≤ most-room
  pub layers : j.layers ≤ most-layers
  pub starts : Starts (origin j.scene) (bounds j.scene)
  pub bottom : j.scene.rows.end ≤ j.scene.y / tile-height + n
  pub long : length rows ≡ n * row-size
  pub few : n ≤ most-rows

-- the number of a list and of its rows: 4 for either, then the list's, then the rows'
abbrev pub list-number : ℕ → ℕ → ℕ
list-number a v = cond (eqb a BadRecord) BadRecord (cond (eqb v BadRecord) BadRecord (cond (eqb a Done) v a))

-- answers that come before those of ids and attributes
abbrev pub early : ℕ → Bool
early n = eqb n BadRecord || eqb n BadOrder

-- what judging a list gives, n being its number: 4 or 5 at once, or what was found, which waits
abbrev pub Listed : ℕ → Result Fault Refusal → Type 0
Listed n (Ok f) = (fault_number f ≡ n) × (early n ≡ false)
Listed n (Err x) = (number_of x ≡ n) × (early n ≡ true)

-- the same hand, and 5 from here on unless the order is kept
abbrev pub marked_by : Counted → Bool → Counted
marked_by h follows = cond follows h (record { row = h.row; renders = h.renders; depths = h.depths; code = BadOrder })

-- what its rows have room for
abbrev pub limits_of : FillJob → Limits
limits_of j = limits j.c j.d j.layers 0

-- what it adds in a job
abbrev pub job-adds : FillJob → Span → Option ℕ → count.Counts
job-adds j s a = added (bucket-tiles j.width) j.eligible s a

-- one more stretch on the row at hand
unfoldable pub stretched : FillJob → Counted → Span → Option ℕ → Counted
stretched j h s a = added_to (limits_of j) h (job-adds j s a).renders (job-adds j s a).depths

-- one more cut segment: on the row at hand, or on its own, whose record is judged
unfoldable pub counted_cut : FillJob → List ℕ → Counted → Cut → Counted
counted_cut j rows h k =
    let s = record-at rows k.row in
    let held = stretched j h k.stretch.tiles k.stretch.alpha in
    let more = stretched j (loaded (limits_of j) s h.code k.row) k.stretch.tiles k.stretch.alpha in
    cond (eqb h.row k.row) held (cond (good_row j.c j.d j.layers s) more (hand_of 0 0 k.row BadRecord))

-- what is left of a segment: nothing, or one cut segment more
unfoldable pub hand_cuts : FillJob → List ℕ → Counted → List Cut → Counted
hand_cuts j rows h [] = h
hand_cuts j rows h (k ∷ ks) = hand_cuts j rows (counted_cut j rows h k) ks

-- what taking what is left of a segment gives: 4 where `told` has 4, which is by a bad record, else `told`
abbrev pub Took : Counted → Result Hand Refusal → Type 0
Took told (Ok h) = at-hand h ≡ told
Took told (Err x) = (x ≡ refusal.BadRecord) × (told.code ≡ BadRecord)
