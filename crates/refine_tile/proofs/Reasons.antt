-- The reason that is read off the told lines is the rules' reason.
use Rattle.std.proofs.Common.{ℕ, ◌+◌, ◌*◌, ◌≡◌, sym, ◌∙◌, true, List, length, drop}
use Rattle.rules.specs.Answers.{Done}
use Rattle.rules.specs.Boxes.{Box, good_viewport}
use Rattle.rules.specs.Rows.{Row, row-ops, fresh-row}
use Rattle.rules.specs.Plans.{Frame, Step}
use Rattle.rules.specs.Recording.{Recording}
use Rattle.rules.specs.Walk.{walk-all}
use Rattle.rules.specs.Logged.{walk-logged}
use Rattle.rules_reason.specs.Reasons.{Asked, reason}
use Rattle.sizes.specs.Sizes.{line-size}
use Rattle.tile.specs.Telling.{Telling, tell-at, nothing-told}
use Rattle.tile.specs.Reading.{reason-read}
use Rattle.refine_tile.specs.Retold.{Retold}
use Rattle.refine_tile.proofs.Lines.{say-length}
use Rattle.refine_tile.proofs.Walked.{tile-told}
use Rattle.refine_tile.proofs.Numbers.{accounts-numbered, accounts-told, numbered-once}
use Rattle.refine_tile.proofs.Searches.{reason-said}

-- .. of any steps that were retold
pub reason-retold : (w : ℕ) (v : Box) (row tile : ℕ) (xs : List Step) (ws : List ℕ) (t : Telling) → Retold w v row tile xs ws t → (q : Asked)
    → reason-read q t.lines (t.paints + t.layers) ≡ reason w v row tile xs q
unfolding reason
reason-retold w v row tile xs ws t h q =
    let n : t.paints + t.layers ≡ length h.all_said = h.count ∙ sym (say-length h.say) in
    rw (h.lines, n, accounts-told w v row tile xs)
    (reason-said q h.say (numbered-once q (accounts-numbered w v row tile xs)) (drop (line-size * length h.all_said) ws))

-- .. of a recording: where the rules' walk is done, the engine's lines give the reason of the recording's history
pub reason-told : (w : ℕ) (f : Frame) (r : Recording) (row tile : ℕ) (ws : List ℕ) → good_viewport f.viewport ≡ true
    → let a = walk-logged Row row-ops fresh-row f r in
    let b = walk-all Telling (tell-at w f.viewport row tile) r (nothing-told ws) in
    a.number ≡ Done → (q : Asked) → reason-read q b.value.lines (b.value.paints + b.value.layers) ≡ reason w f.viewport row tile a.value.log q
reason-told w f r row tile ws g e q = reason-retold w f.viewport row tile _ ws _ (tile-told w f r row tile ws g e).1 q
