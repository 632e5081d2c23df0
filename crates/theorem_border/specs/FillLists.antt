-- A list of fills on a host's words, by the definition that the contract of `coarse_fill_list` cites.
use Rattle.std.specs.Prelude.{ℕ, ◌≡◌, Bool, List, ◌++◌}
use Rattle.rules.specs.Answers.{Answer}
use Rattle.rules.specs.Plans.{Frame, Step}
use Rattle.row.specs.Words.{Words}
use Rattle.walk.specs.Steps.{rows_words}
use Rattle.theorem_picture.specs.Calls.{fills-said}
use Rattle.host.specs.Held.{one}
use Rattle.host.specs.FillLists.{list_call}
use Rattle.theorem_border.specs.Hosted.{Host, host, with_rows, HostedBy}

-- any words as paints, as segments and as draws, of which those from a to b: its number; the state, the rows, the attributes and how many fills are done
unfoldable pub list-out : List ℕ → List ℕ → List ℕ → ℕ → ℕ → Host → Answer (List ℕ × Words × List ℕ × List ℕ)
list-out ps ss ws a b h = list_call ps ss ws a b h.state (rows_words h.tables) h.tables.paint-attrs

abbrev pub list-at : List ℕ → List ℕ → List ℕ → ℕ → ℕ → Host → Host
list-at ps ss ws a b h =
    let t = h.tables in
    let v = (list-out ps ss ws a b h).value in
    host v.0 (with_rows t v.1 t.layers t.opacities v.2 t.layer-attrs t.filter-paints)

-- Done or stopped, it extends a host's history by the steps that its done fills say, n of them.
abbrev pub FillsHosted : Type 0
FillsHosted =
    (c : Bool) (f : Frame) (xs : List Step) (h : Host) (ps ss ws : List ℕ) (a b n : ℕ) → HostedBy c f xs h → (list-out ps ss ws a b h).value.3 ≡ one n
    → HostedBy c f (xs ++ fills-said ps ss ws a n) (list-at ps ss ws a b h)
