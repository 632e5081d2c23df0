-- A refused `coarse_list_tile` leaves its list and its count. Assumes nothing.
use Rattle.std.proofs.Common.{ℕ, ◌+◌, ◌≡◌, refl, List, [], Option, None, Some, ne_eqb}
use Rattle.sizes.specs.declared.width.Width.{Width}
use Rattle.rules.specs.Answers.{Done}
use Rattle.rules.specs.Plans.{Frame}
use Rattle.rules.specs.Setups.{Mode, Setup}
use Rattle.rules.specs.Recording.{Recording, File, parsed}
use Rattle.rules_reason.specs.TileList.{judge-roomless, or-else, judge-list}
use Rattle.paint.proofs.Kept.{Refused, unsettled}
use Rattle.tile.specs.Listed.{entries-read, told-somewhere, tile-told, told-in, list-told, room-in}
use Rattle.host.specs.Asked.{asked_setup, told_file}
use Rattle.host.specs.Border.{unasked_number}
use Rattle.host.specs.TileList.{list_setup, tile_list_in, tile_list_asked, tile_list_call}
use Rattle.host.proofs.Refused.{asked-kept}
use Rattle.theorem_border.specs.Refused.{ListTileRefused}

-- a refusal has no entries
module _ (row tile room : ℕ) where
  bare-told : (f : Frame) (r : Recording) → Refused (tile-told f r row tile room) → (tile-told f r row tile room).value ≡ []
  unfolding tile-told
  bare-told f r =
      let a = told-somewhere f r row tile in
      let es = entries-read a.value.lines (a.value.paints + a.value.layers) in
      unsettled (or-else (judge-roomless f r) (or-else a.number (judge-list f row tile room es))) [] es

  bare-in : (m : Mode) (w : Width) (o : Option (List (List (List ℕ)))) → Refused (told-in m w o row tile room) → (told-in m w o row tile room).value ≡ []
  bare-in m w None q = refl
  bare-in m w (Some ss) q = bare-told _ _ q

  bare : (m : Mode) (w : Width) (file : File) → Refused (list-told m w file row tile room) → (list-told m w file row tile room).value ≡ []
  unfolding list-told
  bare m w file = bare-in m w (parsed file)

module _ (row tile : ℕ) (list n : List ℕ) where
  kept-in : (file : File) (q : Setup) → Refused (tile_list_in file q row tile list n) → (tile_list_in file q row tile list n).value ≡ (list, n)
  unfolding tile_list_in
  kept-in file q e =
      rw (bare row tile (room-in list) q.mode q.width file e, ne_eqb (list-told q.mode q.width file row tile (room-in list)).number Done e)

  kept-asked : (file : File) (mode width : ℕ) → let w = list_setup mode width in Refused (tile_list_asked file w row tile list n)
      → (tile_list_asked file w row tile list n).value ≡ (list, n)
  unfolding tile_list_asked
  kept-asked file mode width =
      asked-kept (asked_setup (list_setup mode width)) (unasked_number file) (list, n) (λ (q : Setup). tile_list_in file q row tile list n) (kept-in file)

pub list-tile-refused : ListTileRefused
unfolding tile_list_call
list-tile-refused f mode width row tile list n =
    asked-kept (told_file f) _ (list, n) (λ (file : File). tile_list_asked file (list_setup mode width) row tile list n)
    (λ file. kept-asked row tile list n file mode width)
