-- What a host reads of a row is what is read of it below the border; refused, the result is as it was. Assumes nothing.
use Rattle.std.proofs.Common.{ℕ, ◌≡◌, ap, ◌∙◌, true, List, ne_eqb}
use Rattle.rules.specs.Answers.{Answer}
use Rattle.screen.specs.declared.Screen.{Screen}
use Rattle.walk.specs.Steps.{rows_words}
use Rattle.paint.specs.StoredCmds.{lengths-of-row, command-of-row, depth-of-row, progress-of-row}
use Rattle.theorem_picture.specs.Kept.{Refused}
use Rattle.theorem_picture.proofs.Reached.{reached, alone-stands}
use Rattle.theorem_picture.proofs.Stored.{stands-stored}
use Rattle.host.specs.State.{screen-words, on}
use Rattle.host.specs.Reading.{lengths-parts, cmd-parts, depth-parts, gone-parts, of-some, read-left, lengths_call, cmd_call, depth_call, progress_call}
use Rattle.host.proofs.Kept.{at-screen}
use Rattle.theorem_border.specs.Refused.{LengthsRefused, CmdRefused, DepthRefused, ProgressRefused}
use Rattle.theorem_border.specs.Numbers.{LengthsKeeps, CmdKeeps, DepthKeeps, ProgressKeeps}
use Rattle.theorem_border.specs.Hosted.{Host}
use Rattle.theorem_border.specs.Reading.{HostedStands, AloneHostStands, LengthsRead, CmdsRead, NoCmdRead, DepthsRead, NoDepthRead, ProgressRead}
use Rattle.theorem_border.proofs.Words.{on-screen}
use Rattle.theorem_border.proofs.Numbers.{kept-on}
use Rattle.theorem_border.proofs.Holds.{holds}

module _ {A : Type 0} (parts : A → List ℕ) (old : List ℕ) (f : Screen → Answer A) where
  abbrev left : Screen → Answer (List ℕ)
  left s = read-left parts old (f s)

  read-refused : (st : List ℕ) → Refused (on true st old left) → (on true st old left).value ≡ old
  read-refused st = at-screen true st old left (λ s e q. rw (ne_eqb _ _ q))

  read-on : (s : Screen) (a : Answer A) → f s ≡ a → on true (screen-words s) old left ≡ read-left parts old a
  read-on s a e = on-screen old left s ∙ ap (read-left parts old) e

pub lengths-refused : LengthsRefused
lengths-refused r t st old = read-refused lengths-parts old (λ s. lengths-of-row s r t) st

pub cmd-refused : CmdRefused
cmd-refused r t i st old = read-refused (of-some cmd-parts) old (λ s. command-of-row s r t i) st

pub depth-refused : DepthRefused
depth-refused r t i st old = read-refused (of-some depth-parts) old (λ s. depth-of-row s r t i) st

pub progress-refused : ProgressRefused
progress-refused r painting st old = read-refused gone-parts old (λ s. progress-of-row s r painting) st

pub lengths-keeps : LengthsKeeps
lengths-keeps r t st old long = kept-on true st old (left lengths-parts old (λ s. lengths-of-row s r t)) long

pub cmd-keeps : CmdKeeps
cmd-keeps r t i st old long = kept-on true st old (left (of-some cmd-parts) old (λ s. command-of-row s r t i)) long

pub depth-keeps : DepthKeeps
depth-keeps r t i st old long = kept-on true st old (left (of-some depth-parts) old (λ s. depth-of-row s r t i)) long

pub progress-keeps : ProgressKeeps
progress-keeps r painting st old long = kept-on true st old (left gone-parts old (λ s. progress-of-row s r painting)) long

pub hosted-stands : HostedStands
hosted-stands b f xs h z = let y = holds z in record { words = y.words; stands = reached y.reached; same = y.same }

pub alone-host-stands : AloneHostStands
alone-host-stands f xs h s = let t = alone-stands f xs s.words s.stands in (record { words = s.words; stands = t.0; same = s.same }, t.1)

pub lengths-read : LengthsRead
lengths-read f xs h s r there old =
    let l = s.words in
    ap (λ (x : Host). lengths_call r (rows_words x.tables) x.state old) s.same
    ∙ read-on lengths-parts old (λ c. lengths-of-row c r (rows_words l.tables)) l.screen _ (stands-stored f xs l s.stands r there).counts

pub cmds-read : CmdsRead
cmds-read f xs h s r there old i y =
    let l = s.words in
    ap (λ (x : Host). cmd_call r (rows_words x.tables) i x.state old) s.same
    ∙ read-on (of-some cmd-parts) old (λ c. command-of-row c r (rows_words l.tables) i) l.screen _ ((stands-stored f xs l s.stands r there).command i y)

pub no-cmd-read : NoCmdRead
no-cmd-read f xs h s r there old i y =
    let l = s.words in
    ap (λ (x : Host). cmd_call r (rows_words x.tables) i x.state old) s.same
    ∙ read-on (of-some cmd-parts) old (λ c. command-of-row c r (rows_words l.tables) i) l.screen _ ((stands-stored f xs l s.stands r there).past-commands i y)

pub depths-read : DepthsRead
depths-read f xs h s r there old i y =
    let l = s.words in
    ap (λ (x : Host). depth_call r (rows_words x.tables) i x.state old) s.same
    ∙ read-on (of-some depth-parts) old (λ c. depth-of-row c r (rows_words l.tables) i) l.screen _ ((stands-stored f xs l s.stands r there).fill i y)

pub no-depth-read : NoDepthRead
no-depth-read f xs h s r there old i y =
    let l = s.words in
    ap (λ (x : Host). depth_call r (rows_words x.tables) i x.state old) s.same
    ∙ read-on (of-some depth-parts) old (λ c. depth-of-row c r (rows_words l.tables) i) l.screen _ ((stands-stored f xs l s.stands r there).past-fills i y)

pub progress-read : ProgressRead
progress-read f xs h s r there old =
    let l = s.words in
    ap (λ (x : Host). progress_call r x.tables.painting x.state old) s.same
    ∙ read-on gone-parts old (λ c. progress-of-row c r l.tables.painting) l.screen _ (stands-stored f xs l s.stands r there).progress
