-- Why a tile of a recording shows what it shows, on a host's words: the call's own definition at the screen that the words stand for.
use Rattle.std.specs.Prelude.{ℕ, ◌&&◌, List, [], ◌∷◌, length, leb, eqb}
use Rattle.sizes.specs.Refusals.{number_of}
use Rattle.rules.specs.Recording.{File}
use Rattle.rules.specs.Answers.{Answer, answer, settle}
use Rattle.rules.specs.Setups.{Setup}
use Rattle.rules_reason.specs.Reasons.{Reason, unknown-attribute, no-segment, cut-away, row-untouched, hidden-by, shown-at, Asked}
use Rattle.screen.specs.declared.Screen.{Screen}
use Rattle.screen.specs.Tables.{Tables, screen_lent}
use Rattle.tile.specs.Explained.{Explained, explained}
use Rattle.host.specs.declared.state.SetupWords.{SetupWords}
use Rattle.host.specs.State.{screen-words, on}
use Rattle.host.specs.Asked.{FileWords, asked_setup, told_file, granted}
use Rattle.host.specs.Border.{unasked_number}

-- the case, the attribute that hides or the place in the tile's list, the asked attribute's panel, the panel of the attribute that hides
abbrev pub reason-words : Reason → List ℕ
reason-words unknown-attribute = 0 ∷ 0 ∷ 0 ∷ 0 ∷ []
reason-words (no-segment q) = 1 ∷ 0 ∷ q ∷ 0 ∷ []
reason-words (cut-away q) = 2 ∷ 0 ∷ q ∷ 0 ∷ []
reason-words (row-untouched q) = 3 ∷ 0 ∷ q ∷ 0 ∷ []
reason-words (hidden-by a b q) = 4 ∷ a ∷ q ∷ b ∷ []
reason-words (shown-at p q) = 5 ∷ p ∷ q ∷ 0 ∷ []

-- how many
abbrev pub reason-size : ℕ
reason-size = 4

-- the result's words: written where the number is 0
abbrev pub result-left : ℕ → Reason → List ℕ → Answer (List ℕ)
result-left n r result = settle n result (reason-words r)

abbrev pub asked : ℕ → ℕ → Asked
asked layer attribute = record { layer = eqb layer 1; attribute = attribute }

-- all tables and the result
abbrev pub why-left : List ℕ → Explained → Answer (List ℕ × Tables × List ℕ)
why-left result e =
    let left = result-left e.number e.reason result in
    answer left.number (screen-words e.lent.screen, e.lent.tables, left.value)

-- In a setup. A word that says neither draw nor layer is refused, and so is a result of another length
unfoldable pub why_in : File → Setup → ℕ → ℕ → ℕ → ℕ → List ℕ → Tables → List ℕ → Answer (List ℕ × Tables × List ℕ)
why_in file q row tile layer attribute st t result =
    on (leb layer 1 && eqb (length result) reason-size) st (st, t, result)
    (λ (s : Screen). why-left result (explained file q row tile (asked layer attribute) (screen_lent s t)))

-- as a host's words ask
unfoldable pub why_asked : File → SetupWords → ℕ → ℕ → ℕ → ℕ → List ℕ → Tables → List ℕ → Answer (List ℕ × Tables × List ℕ)
why_asked file w row tile layer attribute st t result =
    granted (asked_setup w) (unasked_number file) (st, t, result) (λ q. why_in file q row tile layer attribute st t result)

-- .. and in the edition that their number says
unfoldable pub why_call : FileWords → SetupWords → ℕ → ℕ → ℕ → ℕ → List ℕ → Tables → List ℕ → Answer (List ℕ × Tables × List ℕ)
why_call f w row tile layer attribute st t result =
    granted (told_file f) number_of (st, t, result) (λ file. why_asked file w row tile layer attribute st t result)
