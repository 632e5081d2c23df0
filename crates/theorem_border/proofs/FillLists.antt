-- A list of fills on a host's words is the list of fills on the screen that they are of. Assumes nothing.
use Rattle.std.proofs.Common.{ℕ, ◌≡◌, sym, ap, ◌∙◌, Bool, List, [], ◌∷◌, ◌++◌, Option, get_or}
use Rattle.rules.specs.Answers.{Answer, Done}
use Rattle.rules.specs.Plans.{Frame, Step}
use Rattle.row.specs.Words.{Words}
use Rattle.screen.specs.declared.Screen.{Screen}
use Rattle.screen.specs.Tables.{ScreenLent}
use Rattle.inputs.specs.declared.Draw.{Draw}
use Rattle.walk.specs.Steps.{rows_words}
use Rattle.theorem_picture.specs.Calls as calls
use Rattle.theorem_picture.specs.Calls.{fills-out, fills-left, fills-said}
use Rattle.theorem_picture.proofs.FillLists.{carried}
use Rattle.host.specs.State.{screen-words}
use Rattle.host.specs.Held.{one}
use Rattle.host.specs.FillLists as border
use Rattle.host.specs.FillLists.{list_held, list_call}
use Rattle.host.proofs.Words.{read_back}
use Rattle.theorem_border.specs.Held.{host-of}
use Rattle.theorem_border.specs.Hosted.{Host, HostedBy, by-fill}
use Rattle.theorem_border.specs.FillLists.{list-out, list-at}
use Rattle.theorem_border.proofs.Holds.{holds}
use Rattle.theorem_border.proofs.Words.{fill_on}

module _ (ps ss ws : List ℕ) (a b : ℕ) (l : ScreenLent) where
  list_on : list-out ps ss ws a b (host-of l) ≡ border.fills-left (fills-out ps ss ws a b l)
  unfolding list-out list_call
  list_on =
      ap (λ (s : Option Screen). list_held ps ss ws a b s (screen-words l.screen) (rows_words l.tables) l.tables.paint-attrs) (read_back l.screen)

-- a done fill carries a host's words on
one-more : (ps ss : List ℕ) {c : Bool} {f : Frame} (xs : List Step) (l : ScreenLent) (d : Draw) → HostedBy c f xs (host-of l) → (calls.fill-at ps ss d l).number ≡ Done
    → HostedBy c f (xs ++ (calls.fill-said ps ss d ∷ [])) (host-of (calls.fill-at ps ss d l).value)
one-more ps ss xs l d r e =
    let q = fill_on l ps ss d in
    let h = by-fill ps ss d r (ap (λ (x : Answer Host). x.number) q ∙ e) in
    rw (ap (λ (x : Answer Host). x.value) q) at h

pub fills-hosted : (ps ss ws : List ℕ) (a b n : ℕ) {c : Bool} {f : Frame} {xs : List Step} {h : Host} → HostedBy c f xs h → (list-out ps ss ws a b h).value.3 ≡ one n
    → HostedBy c f (xs ++ fills-said ps ss ws a n) (list-at ps ss ws a b h)
fills-hosted ps ss ws a b n {c} {f} {xs} {h} r e =
    let z = holds r in
    let l = z.words in
    let s : HostedBy c f xs (host-of l) = rw z.same at r in
    let q = list_on ps ss ws a b l in
    let k : (fills-out ps ss ws a b l).done ≡ n = ap (λ (x : List ℕ). get_or x 0 0) (sym (ap (λ (x : Answer (List ℕ × Words × List ℕ × List ℕ)). x.value.3) q) ∙ (rw z.same at e)) in
    let m = carried ps ss ws (λ ys y. HostedBy c f ys (host-of y)) (λ ys y (d : Draw). one-more ps ss ys y d) a b xs l s in
    rw (z.same, q, ← k) m
