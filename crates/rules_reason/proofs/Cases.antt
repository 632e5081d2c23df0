-- Tests: the reasons of recordings, each at its edges, by computation.
use Rattle.std.proofs.Common.{ℕ, ◌≡◌, refl, true, false, List, [], ◌∷◌, map}
use Rattle.sizes.specs.declared.width.Width.{Width}
use Rattle.sizes.specs.declared.width.Width.TheVariants.{W64, W128, W256}
use Rattle.sizes.specs.Widths.{bucket-tiles}
use Rattle.rules.specs.Recording.{Recording}
use Rattle.rules.proofs.Picture.{walked}
use Rattle.rules.proofs.Computing.{computing}
use Rattle.rules.proofs.Cases.{panel, parent-cut, unreached, destructive-push, last-bucket, shifted, left_cut, nan-filter, no-picture}
use Rattle.rules_reason.specs.Reasons.{Reason, unknown-attribute, no-segment, cut-away, row-untouched, hidden-by, shown-at, Asked, account-step, accounts, account-of, place_of, newest-hider, because, reason}

-- all that has to unfold to compute a reason
unfoldable pub computing-reasons : Unit {0}
unfolding computing account-step accounts account-of place_of newest-hider because reason
computing-reasons = tt

abbrev pub draw-of : ℕ → Asked
draw-of i = record { layer = false; attribute = i }

abbrev pub layer-of : ℕ → Asked
layer-of i = record { layer = true; attribute = i }

-- the draws 0 to 2 and the layer 0
abbrev asked : List Asked
asked = draw-of 0 ∷ draw-of 1 ∷ draw-of 2 ∷ layer-of 0 ∷ []

-- the reason of one at a row and a tile, with buckets of a width
abbrev reason-at : Width → Recording → ℕ → ℕ → Asked → Reason
reason-at w r row tile a = reason (bucket-tiles w) r.viewport row tile (walked w r).log a

-- the reasons of all four; `ask` with buckets of 32 tiles
abbrev ask-at : Width → Recording → ℕ → ℕ → List Reason
ask-at w r row tile = map (reason-at w r row tile) asked

abbrev ask : Recording → ℕ → ℕ → List Reason
ask r row tile = ask-at W128 r row tile

-- the reasons of panel 0, which is every panel of a recording
abbrev uncovered : Reason
uncovered = no-segment 0

abbrev cut : Reason
cut = cut-away 0

abbrev untouched : Reason
untouched = row-untouched 0

abbrev hidden : ℕ → Reason
hidden a = hidden-by a 0 0

abbrev shown : ℕ → Reason
shown p = shown-at p 0

-- the panel hides in its bucket what came before it, and is first in the tile's list; beside that bucket all is shown
pub panel-70 : ask panel 0 70 ≡ hidden 2 ∷ hidden 2 ∷ shown 0 ∷ unknown-attribute ∷ []
unfolding computing-reasons
panel-70 = refl

pub panel-50 : ask panel 0 50 ≡ shown 0 ∷ shown 1 ∷ shown 2 ∷ unknown-attribute ∷ []
unfolding computing-reasons
panel-50 = refl

pub panel-10 : ask panel 0 10 ≡ shown 0 ∷ uncovered ∷ uncovered ∷ unknown-attribute ∷ []
unfolding computing-reasons
panel-10 = refl

-- The panel's tiles are 40 to 100. With buckets of 16 tiles it hides from tile 48 on, and nothing in the bucket before; ..
pub panel-narrow-50 : ask-at W64 panel 0 50 ≡ hidden 2 ∷ hidden 2 ∷ shown 0 ∷ unknown-attribute ∷ []
unfolding computing-reasons
panel-narrow-50 = refl

pub panel-narrow-47 : ask-at W64 panel 0 47 ≡ shown 0 ∷ shown 1 ∷ shown 2 ∷ unknown-attribute ∷ []
unfolding computing-reasons
panel-narrow-47 = refl

-- .. with buckets of 64 it covers none, and hides nothing
pub panel-wide-70 : ask-at W256 panel 0 70 ≡ shown 0 ∷ shown 1 ∷ shown 2 ∷ unknown-attribute ∷ []
unfolding computing-reasons
panel-wide-70 = refl

-- the inner layer's clip begins at tile 8: its draw is cut away before it; the inner layer itself is cut by the parent's box, tiles 0 to 16
pub parent-4 : ask parent-cut 0 4 ≡ cut ∷ unknown-attribute ∷ unknown-attribute ∷ shown 0 ∷ []
unfolding computing-reasons
parent-4 = refl

pub parent-20 : ask parent-cut 0 20 ≡ cut ∷ unknown-attribute ∷ unknown-attribute ∷ cut ∷ []
unfolding computing-reasons
parent-20 = refl

-- row 1 is covered by the clip and never reached
pub unreached-1 : ask unreached 1 10 ≡ uncovered ∷ unknown-attribute ∷ unknown-attribute ∷ untouched ∷ []
unfolding computing-reasons
unreached-1 = refl

-- a destructive push touches its rows
pub destructive-1 : ask destructive-push 1 3 ≡ unknown-attribute ∷ unknown-attribute ∷ unknown-attribute ∷ shown 0 ∷ []
unfolding computing-reasons
destructive-1 = refl

-- the last bucket is partly off the screen: nothing is hidden in it
pub last-40 : ask last-bucket 0 40 ≡ shown 0 ∷ shown 1 ∷ unknown-attribute ∷ unknown-attribute ∷ []
unfolding computing-reasons
last-40 = refl

pub last-25 : ask last-bucket 0 25 ≡ hidden 1 ∷ shown 0 ∷ unknown-attribute ∷ unknown-attribute ∷ []
unfolding computing-reasons
last-25 = refl

-- a filter fill's dest box, y 6 to 9, meets the rows 1 and 2, its tiles are 5 to 15
pub shifted-cases :
    map (λ (r : ℕ). reason-at W128 shifted r 5 (draw-of 0)) (0 ∷ 1 ∷ 2 ∷ 3 ∷ [])
    ≡ uncovered ∷ shown 0 ∷ shown 0 ∷ uncovered ∷ []
unfolding computing-reasons
shifted-cases = refl

-- the screen begins at scene tile 4, the segment ends at scene tile 20
pub left-cut-cases :
    map (λ (t : ℕ). reason-at W128 left_cut 0 t (draw-of 0)) (0 ∷ 15 ∷ 16 ∷ [])
    ≡ shown 0 ∷ shown 0 ∷ uncovered ∷ []
unfolding computing-reasons
left-cut-cases = refl

-- a filter layer with a buffer: its fill, then the layer, which has the whole screen
pub nan-4 : ask nan-filter 0 4 ≡ shown 0 ∷ unknown-attribute ∷ unknown-attribute ∷ shown 1 ∷ []
unfolding computing-reasons
nan-4 = refl

pub nan-10 : ask nan-filter 0 10 ≡ uncovered ∷ unknown-attribute ∷ unknown-attribute ∷ shown 0 ∷ []
unfolding computing-reasons
nan-10 = refl

-- without a picture nothing is drawn, and the layer closes over rows that nothing has touched
pub no-picture-0 : ask no-picture 0 0 ≡ unknown-attribute ∷ unknown-attribute ∷ unknown-attribute ∷ untouched ∷ []
unfolding computing-reasons
no-picture-0 = refl
