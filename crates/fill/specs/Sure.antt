-- What a sure look finds: room on a row for the most that its segments can come to.
use Rattle.std.specs.Prelude.{ℕ, ◌+◌, ◌-◌, ◌/◌, ◌≤◌, ◌<◌, ◌≡◌, true, false, List, get_or}
use Rattle.sizes.specs.Sizes.{tile-height, renders-at, depths-at, levels-at}
use Rattle.rules.specs.Segments.{judge-segments}
use Rattle.row.specs.Building.{good_row}
use Rattle.row.specs.Room.{record-at}
use Rattle.segments.specs.Segs.{segs}
use Rattle.fill.specs.declared.rows.FillJob.{FillJob}
use Rattle.fill.specs.Filling.{cuts-of}
use Rattle.fill.specs.Tallies.{tally_cuts, verdict, none_yet, list-number}

-- n among m segments, which a usize can count
pub record Few (m n : ℕ) : Type 0 where
  pub among : n ≤ m
  pub small : m ≤ 4611686018427387904

-- the record s is good, with room for m segments, n of which may be split: a command each, and for each of the n a command and a depth fill more
pub record Roomed (j : FillJob) (s : List ℕ) (m n : ℕ) : Type 0 where
  pub good : good_row j.c j.d j.layers s ≡ true
  pub renders : get_or s renders-at 0 + (j.layers - get_or s levels-at 0) + m + n ≤ j.c
  pub depths : get_or s depths-at 0 + n ≤ j.d

-- .. if row r is one of the scene's
abbrev pub RoomAt : FillJob → List ℕ → ℕ → ℕ → ℕ → Type 0
RoomAt j rows r m n = j.scene.rows.first ≤ r → r < j.scene.rows.end → Roomed j (record-at rows (r - j.scene.y / tile-height)) m n

-- the number of the segments from a to b
abbrev pub number_in : FillJob → List ℕ → List ℕ → ℕ → ℕ → ℕ
number_in j rows ws a b = list-number (judge-segments false (segs ws a (b - a))) (verdict (tally_cuts j rows none_yet (cuts-of j ws a b)))
