-- Tests: what `why` prints, by computation, each text as the program's description has it.
use Rattle.std.proofs.Common.{◌≡◌, refl, codes, [], ◌∷◌}
use Rattle.sizes.specs.declared.width.Width.TheVariants.{W64, W128, W256}
use Rattle.sizes.specs.declared.edition.Edition.TheVariants.{One, Two}
use Rattle.rules.specs.Boxes.{box}
use Rattle.rules.specs.Setups.{exact, snapping}
use Rattle.rules.specs.Lines.{usual, bytes-of}
use Rattle.rules.specs.Recording.{in-one}
use Rattle.rules.specs.Words.{file}
use Rattle.rules.specs.cases.Samples.{rec, layer, node}
use Rattle.rules.specs.cases.WorkedExample.{worked-bytes}
use Rattle.rules.specs.cases.Editions.{worked-two}
use Rattle.rules.proofs.Cases.{panel, parent-cut}
use Rattle.rules_reason.specs.Reasons.{unknown-attribute, no-segment, cut-away, row-untouched, hidden-by, shown-at}
use Rattle.rules_reason.specs.Answers.{every, one, reason-bytes, asked-bytes, kind-lines, answer-lines, tile-answer, recording-answer, why-words, why-text, question-line}
use Rattle.rules_reason.proofs.Cases.{computing-reasons, draw-of, layer-of}

-- all that has to unfold to compute an answer
unfoldable pub computing-answers : Unit {0}
unfolding computing-reasons reason-bytes asked-bytes kind-lines answer-lines tile-answer recording-answer why-words why-text question-line
computing-answers = tt

-- the panel hides what came before it
pub panel-text :
    why-words (usual exact W128) (in-one (file One panel)) 0 70 every ≡
    codes "draw 0: hidden by a newer depth fill, attribute 2 of panel 0, panel 0\ndraw 1: hidden by a newer depth fill, attribute 2 of panel 0, panel 0\ndraw 2: shown, place 0, panel 0\n"
unfolding computing-answers
panel-text = refl

-- a bucket of 16 tiles lies in the panel where one of 32 does not, and none of 64 does
pub narrow-text :
    why-words (usual exact W64) (in-one (file One panel)) 0 50 (one (draw-of 0)) ≡
    codes "hidden by a newer depth fill, attribute 2 of panel 0, panel 0\n"
unfolding computing-answers
narrow-text = refl

pub middle-text :
    why-words (usual exact W128) (in-one (file One panel)) 0 50 (one (draw-of 0)) ≡
    codes "shown, place 0, panel 0\n"
unfolding computing-answers
middle-text = refl

pub wide-text :
    why-words (usual exact W256) (in-one (file One panel)) 0 70 (one (draw-of 2)) ≡
    codes "shown, place 2, panel 0\n"
unfolding computing-answers
wide-text = refl

-- the rules' worked example, from its bytes: draws first, then layers
pub worked-text :
    why-text One (usual exact W128) worked-bytes 0 0 every ≡
    codes "draw 0: no segment covers the tile, panel 0\ndraw 1: no segment covers the tile, panel 0\nlayer 0: row never touched by the closing layer, panel 0\n"
unfolding computing-answers
worked-text = refl

-- .. as edition two, its draws for panel 5 and its layer for panel 6
pub worked-panels :
    why-text Two (usual exact W128) (bytes-of worked-two) 1 7 every ≡
    codes "draw 0: no segment covers the tile, panel 5\ndraw 1: shown, place 0, panel 5\nlayer 0: shown, place 1, panel 6\n"
unfolding computing-answers
worked-panels = refl

-- one attribute: its reason alone
pub worked-layer :
    why-text One (usual exact W128) worked-bytes 1 7 (one (layer-of 0)) ≡
    codes "shown, place 1, panel 0\n"
unfolding computing-answers
worked-layer = refl

pub worked-unknown :
    why-text One (usual exact W128) worked-bytes 1 7 (one (draw-of 2)) ≡
    codes "unknown attribute\n"
unfolding computing-answers
worked-unknown = refl

pub parent-text :
    why-words (usual exact W128) (in-one (file One parent-cut)) 0 20 (one (draw-of 0)) ≡
    codes "cut away by a clip box, panel 0\n"
unfolding computing-answers
parent-text = refl

-- the screen has 2 rows of 64 tiles: 12 past them, for every question
pub last-tile :
    why-text One (usual exact W128) worked-bytes 1 63 (one (draw-of 1)) ≡
    codes "no segment covers the tile, panel 0\n"
unfolding computing-answers
last-tile = refl

pub tile-off :
    why-text One (usual exact W128) worked-bytes 1 64 (one (draw-of 1)) ≡
    codes "refused 12\n"
unfolding computing-answers
tile-off = refl

pub row-off :
    why-text One (usual exact W128) worked-bytes 2 0 every ≡
    codes "refused 12\n"
unfolding computing-answers
row-off = refl

-- a refused recording's own number comes first
pub cyclic-off :
    why-words (usual exact W128) (in-one (file One (rec (box 0 0 64 4) [] [] (layer 0 1 ∷ []) (node 0 0 1 ∷ []) 0 1))) 9 9 every ≡
    codes "refused 6\n"
unfolding computing-answers
cyclic-off = refl

pub bytes_left :
    why-text One (usual exact W128) (1 ∷ []) 0 0 every ≡
    codes "refused 3\n"
unfolding computing-answers
bytes_left = refl

-- in snapping mode the screen is the snapped box: 16 tiles, the last of them number 15
pub snapped-tile :
    why-words (usual snapping W128) (in-one (file One (rec (box 3 1 61 3) [] [] [] [] 0 0))) 0 15 (one (draw-of 0)) ≡
    codes "unknown attribute\n"
unfolding computing-answers
snapped-tile = refl

pub snapped-off :
    why-words (usual snapping W128) (in-one (file One (rec (box 3 1 61 3) [] [] [] [] 0 0))) 0 16 (one (draw-of 0)) ≡
    codes "refused 12\n"
unfolding computing-answers
snapped-off = refl

-- in a stream
pub first-question :
    question-line 0 ≡
    codes "question 0\n"
unfolding computing-answers
first-question = refl

-- each reason, with panels
pub printed-unknown :
    reason-bytes unknown-attribute ≡
    codes "unknown attribute\n"
unfolding computing-answers
printed-unknown = refl

pub printed-uncovered :
    reason-bytes (no-segment 7) ≡
    codes "no segment covers the tile, panel 7\n"
unfolding computing-answers
printed-uncovered = refl

pub printed-cut :
    reason-bytes (cut-away 10) ≡
    codes "cut away by a clip box, panel 10\n"
unfolding computing-answers
printed-cut = refl

pub printed-untouched :
    reason-bytes (row-untouched 255) ≡
    codes "row never touched by the closing layer, panel 255\n"
unfolding computing-answers
printed-untouched = refl

pub printed-hidden :
    reason-bytes (hidden-by 2 30 4) ≡
    codes "hidden by a newer depth fill, attribute 2 of panel 30, panel 4\n"
unfolding computing-answers
printed-hidden = refl

pub printed-shown :
    reason-bytes (shown-at 12 5) ≡
    codes "shown, place 12, panel 5\n"
unfolding computing-answers
printed-shown = refl
