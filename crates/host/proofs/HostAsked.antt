-- The calls that take a setup, as a host's words ask: refused where they ask for none, else the call in the setup that is asked for.
use Rattle.std.proofs.Common.{ℕ, ◌≡◌, ◌∙◌, List, Ok, Err}
use Rattle.sizes.specs.declared.answers.Refusal.{Refusal}
use Rattle.sizes.specs.Refusals.{number_of}
use Rattle.rules.specs.Recording.{File}
use Rattle.rules.specs.Answers.{Answer, answer}
use Rattle.rules.specs.Setups.{Setup, frame}
use Rattle.rect.specs.declared.Rect.{Rect}
use Rattle.rect.specs.Rects.{box_of}
use Rattle.screen.specs.Tables.{Tables}
use Rattle.host.specs.declared.state.SetupWords.{SetupWords}
use Rattle.host.specs.Asked.{FileWords, asked_setup, told_file}
use Rattle.host.proofs.ScreenAsked.{not-asked, as-asked}
use Rattle.host.specs.Border.{unasked_number}
use Rattle.host.specs.Building.{reset_in, reset_call, recording_in, recording_asked, recording_call}
use Rattle.host.specs.Reasons.{why_in, why_asked, why_call}
use Rattle.host.specs.Sizes.{sizes-of, size_call}

module _ (w : SetupWords) where
  -- refused
  module _ (r : Refusal) (e : Err r ≡ asked_setup w) where
    pub reset_unasked : (v : Rect) (st : List ℕ) (t : Tables) → answer (number_of r) (st, t) ≡ reset_call v w st t
    unfolding reset_call
    reset_unasked v st t = not-asked (asked_setup w) number_of (st, t) (λ (q : Setup). reset_in v q st t) r e

    pub sizes_unasked : (v : Rect) (ss : List ℕ) → answer (number_of r) ss ≡ size_call v w ss
    unfolding size_call
    sizes_unasked v ss = not-asked (asked_setup w) number_of ss (λ (q : Setup). sizes-of (frame q (box_of v)) ss) r e

    -- a file's form comes first
    pub recording_unasked : (file : File) (st : List ℕ) (t : Tables) → answer (unasked_number file r) (st, t) ≡ recording_asked file w st t
    unfolding recording_asked
    recording_unasked file st t = not-asked (asked_setup w) (unasked_number file) (st, t) (λ (q : Setup). recording_in file q st t) r e

    pub why_unasked : (file : File) (row tile layer attribute : ℕ) (st : List ℕ) (t : Tables) (res : List ℕ)
        → answer (unasked_number file r) (st, t, res) ≡ why_asked file w row tile layer attribute st t res
    unfolding why_asked
    why_unasked file row tile layer attribute st t res =
        not-asked (asked_setup w) (unasked_number file) (st, t, res) (λ (q : Setup). why_in file q row tile layer attribute st t res) r e

  -- in the setup q
  module _ (q : Setup) (e : Ok q ≡ asked_setup w) where
    pub reset_asked : (v : Rect) (st : List ℕ) (t : Tables) {a : Answer (List ℕ × Tables)} → a ≡ reset_in v q st t → a ≡ reset_call v w st t
    unfolding reset_call
    reset_asked v st t h = h ∙ as-asked (asked_setup w) number_of (st, t) (λ (q : Setup). reset_in v q st t) q e

    pub recording-asked : (file : File) (st : List ℕ) (t : Tables) {a : Answer (List ℕ × Tables)} → a ≡ recording_in file q st t → a ≡ recording_asked file w st t
    unfolding recording_asked
    recording-asked file st t h = h ∙ as-asked (asked_setup w) (unasked_number file) (st, t) (λ (q : Setup). recording_in file q st t) q e

    pub why-asked : (file : File) (row tile layer attribute : ℕ) (st : List ℕ) (t : Tables) (res : List ℕ) {a : Answer (List ℕ × Tables × List ℕ)}
        → a ≡ why_in file q row tile layer attribute st t res → a ≡ why_asked file w row tile layer attribute st t res
    unfolding why_asked
    why-asked file row tile layer attribute st t res h =
        h ∙ as-asked (asked_setup w) (unasked_number file) (st, t, res) (λ (q : Setup). why_in file q row tile layer attribute st t res) q e

    pub sizes_asked : (v : Rect) (ss : List ℕ) {a : Answer (List ℕ)} → a ≡ sizes-of (frame q (box_of v)) ss → a ≡ size_call v w ss
    unfolding size_call
    sizes_asked v ss h = h ∙ as-asked (asked_setup w) number_of ss (λ (q : Setup). sizes-of (frame q (box_of v)) ss) q e

-- The calls that take a file, as a host's words ask: refused where their number says no edition, else the call for the file of the edition.
module _ (f : FileWords) (w : SetupWords) where
  module _ (r : Refusal) (e : Err r ≡ told_file f) where
    pub recording_untold : (st : List ℕ) (t : Tables) → answer (number_of r) (st, t) ≡ recording_call f w st t
    unfolding recording_call
    recording_untold st t = not-asked (told_file f) number_of (st, t) (λ (file : File). recording_asked file w st t) r e

    pub why_untold : (row tile layer attribute : ℕ) (st : List ℕ) (t : Tables) (res : List ℕ)
        → answer (number_of r) (st, t, res) ≡ why_call f w row tile layer attribute st t res
    unfolding why_call
    why_untold row tile layer attribute st t res =
        not-asked (told_file f) number_of (st, t, res) (λ (file : File). why_asked file w row tile layer attribute st t res) r e

  module _ (file : File) (e : Ok file ≡ told_file f) where
    pub recording_told : (st : List ℕ) (t : Tables) {a : Answer (List ℕ × Tables)} → a ≡ recording_asked file w st t → a ≡ recording_call f w st t
    unfolding recording_call
    recording_told st t h = h ∙ as-asked (told_file f) number_of (st, t) (λ (file : File). recording_asked file w st t) file e

    pub why_told : (row tile layer attribute : ℕ) (st : List ℕ) (t : Tables) (res : List ℕ) {a : Answer (List ℕ × Tables × List ℕ)}
        → a ≡ why_asked file w row tile layer attribute st t res → a ≡ why_call f w row tile layer attribute st t res
    unfolding why_call
    why_told row tile layer attribute st t res h =
        h ∙ as-asked (told_file f) number_of (st, t, res) (λ (file : File). why_asked file w row tile layer attribute st t res) file e
