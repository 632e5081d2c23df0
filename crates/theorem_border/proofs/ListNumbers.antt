-- `coarse_list_tile` answers one of a list's numbers. Assumes nothing.
use Rattle.std.proofs.Common.{ℕ, ◌≡◌, refl, Bool, true, false, cond, List, Option, None, Some, Result, Ok, Err, leb, eqb}
use Rattle.sizes.specs.declared.answers.Refusal.{Refusal}
use Rattle.sizes.specs.declared.answers.Refusal.TheVariants.{BadForm, BadViewport, BadRecord}
use Rattle.sizes.specs.declared.width.Width.TheVariants.{W64, W128, W256}
use Rattle.sizes.specs.declared.edition.Edition.TheVariants.{One, Two}
use Rattle.sizes.specs.Refusals.{number_of}
use Rattle.rules.specs.Lists.{some_of}
use Rattle.rules.specs.Answers.{Answer}
use Rattle.rules.specs.Setups.{Setup}
use Rattle.rules.specs.Recording.{File, parsed}
use Rattle.tile.specs.Listed.{room-in}
use Rattle.theorem_reason.specs.Lists.{list-numbers}
use Rattle.theorem_reason.proofs.Lists.{list-without-room}
use Rattle.host.specs.declared.state.SetupWords.{SetupWords}
use Rattle.host.specs.Asked.{FileWords, asked-at, asked_setup, told-at, told_file, granted}
use Rattle.host.specs.Border.{unasked, unasked_number}
use Rattle.host.specs.TileList.{list_setup, tile_list_in, tile_list_asked, tile_list_call}
use Rattle.theorem_border.specs.TileLists.{ListNumbers}

abbrev Among : ℕ → Type 0
Among n = some_of (eqb n) list-numbers ≡ true

-- what is refused is so by one of them
abbrev Errs : {A : Type 0} → (Refusal → ℕ) → Result A Refusal → Type 0
Errs n (Ok x) = Unit
Errs n (Err x) = Among (n x)

granted-among : {A T : Type 0} (o : Result A Refusal) (n : Refusal → ℕ) (t : T) (f : A → Answer T)
    → Errs n o → ((x : A) → Among (f x).number) → Among (granted o n t f).number
granted-among (Ok x) n t f p q = q x
granted-among (Err x) n t f p q = p

-- 3 for an edition that is none
told-errs : (f : FileWords) → Errs number_of (told_file f)
unfolding told_file
told-errs f = go (eqb f.edition 1) (eqb f.edition 2)
  where
    go : (a b : Bool) → Errs number_of (told-at (cond a (Ok One) (cond b (Ok Two) (Err BadForm))) f.words)
    go true b = tt
    go false true = tt
    go false false = refl

-- 3, or the refusal's own number
unasked-among : (o : Option (List (List (List ℕ)))) (x : Refusal) → Among (number_of x) → Among (unasked o x)
unasked-among None x p = refl
unasked-among (Some ss) x p = p

-- .. 2 for a width that is none, 4 for a mode
module _ (file : File) (w : SetupWords) where
  asked-errs : Errs (unasked_number file) (asked_setup w)
  unfolding asked_setup unasked_number
  asked-errs = widths (eqb w.width 64) (eqb w.width 128) (eqb w.width 256)
    where
      modes : (b : Bool) (q : Setup) → Errs (unasked (parsed file)) (cond b (Ok q) (Err BadRecord))
      modes true q = tt
      modes false q = unasked-among (parsed file) BadRecord refl

      widths : (a b c : Bool) → Errs (unasked (parsed file)) (asked-at (cond a (Ok W64) (cond b (Ok W128) (cond c (Ok W256) (Err BadViewport)))) w)
      widths true b c = modes (leb w.mode 1) _
      widths false true c = modes (leb w.mode 1) _
      widths false false true = modes (leb w.mode 1) _
      widths false false false = unasked-among (parsed file) BadViewport refl

module _ (row tile : ℕ) (list n : List ℕ) where
  in-among : (file : File) (q : Setup) → Among (tile_list_in file q row tile list n).number
  unfolding tile_list_in
  in-among file q = list-without-room.numbers q.mode q.width file row tile (room-in list)

  asked-among : (w : SetupWords) (file : File) → Among (tile_list_asked file w row tile list n).number
  unfolding tile_list_asked
  asked-among w file =
      granted-among (asked_setup w) (unasked_number file) (list, n) (λ (q : Setup). tile_list_in file q row tile list n) (asked-errs file w) (in-among file)

pub list-numbered : ListNumbers
unfolding tile_list_call
list-numbered f mode width row tile list n =
    granted-among (told_file f) number_of (list, n) (λ (file : File). tile_list_asked file (list_setup mode width) row tile list n) (told-errs f)
    (asked-among row tile list n (list_setup mode width))
