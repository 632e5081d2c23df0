-- The direct runs, what is hidden, and `can_skip` of row r of a screen: its own depth words and minima, its own record.
use Rattle.std.specs.Prelude.{Result, ℕ, ◌/◌, Bool, false, cond, List, [], length, eqb}
use Rattle.sizes.specs.Sizes.{row-size}
use Rattle.sizes.specs.Widths.{bucket-tiles}
use Rattle.rules.specs.Answers.{Answer, answer, Done, BadRecord}
use Rattle.rules.specs.Spans.{Span}
use Rattle.rules.specs.Depth.{unset_answer, visible_answer, can_skip_answer}
use Rattle.depth.specs.Listing.{RunsOut, OutWrite, out, listing, writing}
use Rattle.rules.specs.Minima.{minima-room, hidden_answer}
use Rattle.screen.specs.declared.Screen.{Screen}
use Rattle.screen.specs.Depths.{Depths, depths}
use Rattle.paint.specs.Summaries.{good-summary, summary-at}
use Rattle.sizes.specs.declared.answers.Refusal.{Refusal}
use Rattle.paint.specs.Judging.{wide, runs_number, write_number, hidden_number, skip_number}
use Rattle.paint.specs.Beginning.{begun}
use Rattle.paint.specs.Stepping.{part, depth-part, with-depth-part}

-- the runs of the row, or the number of the refusal
abbrev pub or-runs : ℕ → Answer (List Span) → Answer (List Span)
or-runs n a = cond (eqb n Done) a (answer n [])

unfoldable pub unset-of : Screen → ℕ → List ℕ → Span → List ℕ → RunsOut
unset-of s r depth t l =
    listing (or-runs (runs_number s r (length depth)) (unset_answer (bucket-tiles s.width) (part (wide s) r depth) t (length l / 2))) l

unfoldable pub visible-of : Screen → ℕ → List ℕ → Span → ℕ → List ℕ → RunsOut
visible-of s r depth t id l =
    listing (or-runs (runs_number s r (length depth)) (visible_answer (bucket-tiles s.width) (part (wide s) r depth) id t (length l / 2))) l

-- a run with write: what is listed, the screen, the depth words and their minima
pub record Wrote : Type 0 where
  pub listed : RunsOut
  pub screen : Screen
  pub depth : Depths

abbrev pub wrote : Result ℕ Refusal → Screen → List ℕ → Depths → Wrote
wrote r s l d = record { listed = out r l; screen = s; depth = d }

-- done, it ends painting
abbrev pub write-in-place : Screen → ℕ → Depths → OutWrite → Wrote
write-in-place s r depth o =
    record {
      listed = o.listed;
      screen = cond (eqb o.listed.number Done) (begun false s) s;
      depth = with-depth-part (wide s) r depth (depths o.depth o.minima);
    }

unfoldable pub write-of : Screen → ℕ → Depths → ℕ → Span → List ℕ → Wrote
write-of s r depth id t l =
    let n = write_number s r (length depth.words) (length depth.minima) in
    let own = depth-part (wide s) r depth in
    let o = write-in-place s r depth (writing own.words own.minima id t l) in
    cond (eqb n Done) o (record { listed = listing (answer n []) l; screen = s; depth = depth })

-- whether a range of the row's buckets is hidden from an id, by its own minima
unfoldable pub hidden-of-row : Screen → ℕ → List ℕ → Span → ℕ → Answer Bool
hidden-of-row s r minima t id =
    let n = hidden_number s r (length minima) in
    cond (eqb n Done) (hidden_answer (part (minima-room (wide s)) r minima) (wide s) t id) (answer n false)

-- `can_skip` by the row's record: 4 where its summary is not in order
abbrev pub record-skip : List ℕ → Span → ℕ → Answer Bool
record-skip state t id = cond (good-summary state) (can_skip_answer (summary-at state) t id) (answer BadRecord false)

unfoldable pub skip-of-row : Screen → ℕ → List ℕ → Span → ℕ → Answer Bool
skip-of-row s r rows t id =
    let n = skip_number s r (length rows) in
    let a = record-skip (part row-size r rows) t id in
    cond (eqb n Done) a (answer n false)
