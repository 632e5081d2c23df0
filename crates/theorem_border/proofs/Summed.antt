-- The minima of a host's words are those of a screen's, and `coarse_is_hidden` there is the question below the border. Assumes nothing.
use Rattle.std.proofs.Common.{◌≡◌, sym, ap, ◌∙◌, Bool, List, [], ◌∷◌, ℕ}
use Rattle.rules.specs.Answers.{Answer, answer, Done}
use Rattle.screen.specs.Tables.{ScreenLent}
use Rattle.paint.specs.DirectRuns.{hidden-of-row}
use Rattle.host.specs.State.{bit}
use Rattle.host.specs.Results.{skip-left}
use Rattle.theorem_picture.specs.Summed as lent
use Rattle.theorem_picture.proofs.Summed.{reached-summed, reached-hidden}
use Rattle.theorem_border.specs.Held.{host-of}
use Rattle.theorem_border.specs.Summed.{Summed, HostedSummed, HiddenExact, HostedHidden}
use Rattle.theorem_border.proofs.Words.{hidden-on}
use Rattle.theorem_border.proofs.Holds.{holds}
use Rattle.theorem_border.proofs.Border.{width_read}

summed : (l : ScreenLent) → lent.Summed l → Summed (host-of l)
summed l k = rw (width_read l.screen.width) k

pub hosted-summed : HostedSummed
hosted-summed f xs h z = let y = holds z in rw y.same (summed y.words (reached-summed f xs y.words y.reached))

-- the word of a done question
said : (a : Answer Bool) (old : List ℕ) (b : Bool) → a.number ≡ Done → a.value ≡ b → skip-left old a ≡ answer Done (bit b ∷ [])
said a old b e v = rw (e, v)

hidden : (l : ScreenLent) → lent.HiddenExact l → HiddenExact (host-of l)
hidden l k r t id old e =
    let a = hidden-of-row l.screen r l.tables.depth.minima t id in
    let q = hidden-on l r t id old e in
    let d : a.number ≡ Done = sym (ap (λ (x : Answer (List ℕ)). x.number) q) ∙ e in
    rw (width_read l.screen.width) (q ∙ said a old _ d (k r id t d))

pub hosted-hidden : HostedHidden
hosted-hidden f xs h z = let y = holds z in rw y.same (hidden y.words (reached-hidden f xs y.words y.reached))
