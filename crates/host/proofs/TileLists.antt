-- A tile's list, as a host's words ask: refused where they ask for none, else the call's own equation, carried over to the words.
use Rattle.std.proofs.Common.{ℕ, ◌≡◌, refl, ap, ◌∙◌, List, [], ◌∷◌, Result, Ok, Err}
use Rattle.sizes.specs.declared.answers.Refusal.{Refusal}
use Rattle.sizes.specs.Refusals.{number_of, answer_number}
use Rattle.rules.specs.Answers.{Answer, answer}
use Rattle.rules.specs.Setups.{Setup}
use Rattle.rules.specs.Recording.{File}
use Rattle.tile.specs.Listed.{list-told, listed-as, listed-over, room-in}
use Rattle.convert.specs.Placed.{count_of}
use Rattle.host.specs.declared.state.SetupWords.{SetupWords}
use Rattle.host.specs.Asked.{FileWords, asked_setup, told_file}
use Rattle.host.specs.Border.{unasked_number}
use Rattle.host.specs.Results.{result}
use Rattle.host.specs.Editions.{count-left}
use Rattle.host.specs.TileList.{list_setup, tile-list-left, tile_list_in, tile_list_asked, tile_list_call}
use Rattle.host.proofs.ScreenAsked.{not-asked, as-asked}

-- what the code gave: its number, the list and the count
as-left : (r : Result ℕ Refusal) (list n : List ℕ)
    → answer (answer_number r) (list, result (answer_number r) (count_of r ∷ []) n) ≡ tile-list-left n (listed-as r list)
as-left (Ok _) list n = refl
as-left (Err _) list n = refl

module _ (file : File) (w : SetupWords) (row tile : ℕ) (list n : List ℕ) where
  pub tile_list_unasked : (r : Refusal) → Err r ≡ asked_setup w → answer (unasked_number file r) (list, n) ≡ tile_list_asked file w row tile list n
  unfolding tile_list_asked
  tile_list_unasked r e = not-asked (asked_setup w) (unasked_number file) (list, n) (λ (q : Setup). tile_list_in file q row tile list n) r e

  -- r: what the call gave; k and n': its number and the count's word afterwards
  pub tile_list-asked : (q : Setup) → Ok q ≡ asked_setup w → (r : Result ℕ Refusal) (list' n' : List ℕ) (k : ℕ)
      → listed-as r list' ≡ listed-over tile (list-told q.mode q.width file row tile (room-in list)) list → answer k n' ≡ count-left n r
      → answer k (list', n') ≡ tile_list_asked file w row tile list n
  unfolding tile_list_in tile_list_asked
  tile_list-asked q e r list' n' k p l =
      ap (λ (x : Answer (List ℕ)). answer x.number (list', x.value)) l
      ∙ as-left r list' n
      ∙ ap (tile-list-left n) p
      ∙ as-asked (asked_setup w) (unasked_number file) (list, n) (λ (q : Setup). tile_list_in file q row tile list n) q e

module _ (f : FileWords) (mode width row tile : ℕ) (list n : List ℕ) where
  pub tile_list_untold : (r : Refusal) → Err r ≡ told_file f → answer (number_of r) (list, n) ≡ tile_list_call f mode width row tile list n
  unfolding tile_list_call
  tile_list_untold r e =
      not-asked (told_file f) number_of (list, n) (λ (file : File). tile_list_asked file (list_setup mode width) row tile list n) r e

  pub tile_list_told : (file : File) → Ok file ≡ told_file f → {a : Answer (List ℕ × List ℕ)}
      → a ≡ tile_list_asked file (list_setup mode width) row tile list n → a ≡ tile_list_call f mode width row tile list n
  unfolding tile_list_call
  tile_list_told file e h =
      h ∙ as-asked (told_file f) number_of (list, n) (λ (file : File). tile_list_asked file (list_setup mode width) row tile list n) file e
