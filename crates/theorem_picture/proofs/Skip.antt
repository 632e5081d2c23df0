-- Where `can_skip` says yes while a screen is painted, nothing of the span is hidden. Assumes nothing.
use Rattle.std.proofs.Common.{ℕ, suc, ◌+◌, ◌-◌, ◌/◌, ◌*◌, ◌≤◌, ◌<◌, max, div-mul-le_self, arith, ◌≡◌, sym, ap, ◌∙◌, Bool, true, List, length, get_or}
use Rattle.rules.specs.Answers.{Answer, Done}
use Rattle.rules.specs.Boxes.{width, rows_of}
use Rattle.rules.specs.Spans.{Span, covers}
use Rattle.rules.specs.Depth.{can_skip, buckets-met, is-visible}
use Rattle.rules.specs.Rows.{fresh-row}
use Rattle.rules.specs.Plans.{Frame, bucket, buckets-across, Step}
use Rattle.rules.specs.Steps.{reset}
use Rattle.rules.specs.Calls.{Canvas, begin-call, painter-of, can-skip-call}
use Rattle.rules.proofs.laws.Widths.{bucket-some}
use Rattle.rules_picture.specs.Compacted.{Kept-up}
use Rattle.rules_picture.specs.Turns.{Turn, painted}
use Rattle.rules_picture.specs.Skip.{FillsPainted}
use Rattle.rules_picture.proofs.Cases.{covers-yes, covers_low, covers_high}
use Rattle.rules_picture.proofs.Buckets.{from-bucket, from-bucket-before, to-bucket, to-bucket-before}
use Rattle.rules_picture.proofs.CompactedFollows.{kept-on, follows-kept, compacted-skip}
use Rattle.rules_picture.proofs.Skip.{said-yes, words-painted, words-length, skip-newest}
use Rattle.rules_picture.proofs.Turns.{painted-screen}
use Rattle.rules_picture.proofs.Unhidden.{all-visible}
use Rattle.screen.specs.Tables.{ScreenLent}
use Rattle.refine_steps.specs.Lent.{lent_of}
use Rattle.refine_paint.specs.Canvases.{WholeCanvas}
use Rattle.refine_paint.proofs.Runs.{skip_by, skip-clear}
use Rattle.theorem_picture.specs.Reached.{Reached}
use Rattle.theorem_picture.specs.Skip.{Clear, SkippedBuckets, SkippedRuns}
use Rattle.theorem_picture.specs.Standing.{canvas-words}
use Rattle.theorem_picture.proofs.Reached.{reached}

clear : (k : Canvas) → WholeCanvas k → Clear (canvas-words k)
unfolding lent_of
clear k w b r t id e x lo hi = skip-clear k w r b t id (sym (ap (λ (a : Answer Bool). a.value) (skip_by k w r t id)) ∙ ap (λ (a : Answer Bool). a.value) e) x lo hi

-- At all reached words, so in particular after the depth fills of a row, and when it has finished.
pub skip : {f : Frame} {xs : List Step} {l : ScreenLent} → Reached f xs l → Clear l
skip h = let s = reached h in rw s.same (clear s.canvas s.whole)

-- A yes of can_skip: the bucket of each tile of the span, if the row has it, is visible.
skip-tile : (f : Frame) (xs : List Step) (k : Canvas) → Kept-up xs (reset fresh-row f) k.screen → (begin-call k).number ≡ Done
    → (ts : List Turn) (r : ℕ) → r < rows_of f.viewport → FillsPainted (painted ts k).canvas r
    → (s : Span) (id : ℕ) → (can-skip-call r s id (painted ts k).canvas).value ≡ true
    → (t : ℕ) → covers s t ≡ true → t / bucket f < buckets-across f
    → is-visible id (get_or (painter-of (painted ts k).canvas r).buckets (t / bucket f) 0) ≡ true
skip-tile f xs k b e ts r h fp s id can t c near =
    let (v, here) = kept-on f xs k.screen b r h in
    let there : t / bucket f < buckets-across k.screen.state.frame = rw v near in
    let row = get_or k.screen.rows r fresh-row in
    let y : can_skip row.depth s id ≡ true = rw (painted-screen ts k e) at (said-yes r s id (painted ts k).canvas can) in
    ap (is-visible id) (words-painted k e ts r here fp (t / bucket f) there)
    ∙ skip-newest (bucket f) k.screen.state.attrs (bucket-some f.width) row (follows-kept f xs k.screen b r t h near).grown.holds.summed s id y t c

-- a bucket that the span meets has a tile of the span
tile-met : (w : ℕ) → 0 < w → (s : Span) (j : ℕ) → s.first < s.end → covers (buckets-met w s) j ≡ true → (t : ℕ) × (covers s t ≡ true) × (t / w ≡ j)
tile-met w pos s j wide c =
    let met = buckets-met w s in
    let low = covers_low met j c in
    let high : suc j * w ≤ s.end + (w - 1) = from-bucket w pos (covers_high met j c) in
    let before : s.first < suc j * w = from-bucket-before w pos (omega arith) in
    let t = max s.first (j * w) in
    let least : j ≤ t / w = to-bucket w pos (omega arith) in
    let most : t / w < suc j = to-bucket-before w pos (omega arith) in
    (t, covers-yes s t (omega arith) (omega arith), omega arith)

-- So every bucket that the span meets is visible, ..
pub skip-buckets : SkippedBuckets
skip-buckets f xs k b e ts r h fp s id can wide j c on =
    let (t, on-it, q) = tile-met (bucket f) (bucket-some f.width) s j wide c in
    ap (λ (n : ℕ). is-visible id (get_or (painter-of (painted ts k).canvas r).buckets n 0)) (sym q)
    ∙ skip-tile f xs k b e ts r h fp s id can t on-it (rw q on)

-- .. and if the span lies on the screen, its visible runs are the whole span.
pub skip-runs : SkippedRuns
skip-runs f xs k b e ts r h fp s id can wide on =
    let w = bucket f in
    let pos = bucket-some f.width in
    let (v, there) = kept-on f xs k.screen b r h in
    let bs = (painter-of (painted ts k).canvas r).buckets in
    let l : length bs ≡ buckets-across f = words-length k e ts r there fp ∙ ap buckets-across v in
    let most : (s.end + (w - 1)) / w ≤ (width f.viewport / 4 + (w - 1)) / w = to-bucket w pos (let m = div-mul-le_self (s.end + (w - 1)) w in omega arith) in
    all-visible w pos bs id s wide (rw l most) (λ t c. compacted-skip f xs k b e ts r h fp s id can t c (let m = covers_high s t c in omega arith))
