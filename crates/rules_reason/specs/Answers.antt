-- What `why` prints of a recording file's bytes, a row, a tile and a question: over the rules alone.
use Rattle.std.specs.Prelude.{ℕ, zero, suc, ◌/◌, Bool, true, false, ◌||◌, cond, List, [], ◌∷◌, ◌++◌, length, leb, eqb, codes}
use Rattle.std.specs.Prelude.{Option, None, Some}
use Rattle.sizes.specs.declared.edition.Edition.{Edition}
use Rattle.rules.specs.Answers.{Done, BadForm, BadRun}
use Rattle.rules.specs.Boxes.{Box, width, rows_of}
use Rattle.rules.specs.Rows.{Row, row-ops, fresh-row}
use Rattle.rules.specs.Plans.{Frame, bucket, Step}
use Rattle.rules.specs.Setups.{Setup, frame}
use Rattle.rules.specs.Recording.{Recording, File, in-edition, parsed, recording}
use Rattle.rules.specs.Lines.{refused, rowlist-screen, words_of, too_long, digits, number, line-bytes}
use Rattle.rules.specs.Plain.{untold, tell-steps}
use Rattle.rules.specs.Logged.{walk-logged}
use Rattle.rules_reason.specs.Reasons.{Reason, unknown-attribute, no-segment, cut-away, row-untouched, hidden-by, shown-at, Asked, reason}

-- every attribute's reason, or that of one
pub data Question : Type 0 where
  every : Question
  one : Asked → Question

-- the words "unknown attribute", "no segment covers the tile", "cut away by a clip box", "row never touched by the closing layer"
abbrev pub unknown-text : List ℕ
unknown-text = codes "unknown attribute"

abbrev pub no-segment-text : List ℕ
no-segment-text = codes "no segment covers the tile"

abbrev pub cut-away-text : List ℕ
cut-away-text = codes "cut away by a clip box"

abbrev pub untouched-text : List ℕ
untouched-text = codes "row never touched by the closing layer"

-- the words "hidden by a newer depth fill, attribute", "shown, place"
abbrev pub hidden-text : List ℕ
hidden-text = codes "hidden by a newer depth fill, attribute"

abbrev pub shown-text : List ℕ
shown-text = codes "shown, place"

-- the words ", panel", " of panel"
abbrev pub panel-text : List ℕ
panel-text = codes ", panel"

abbrev pub of-panel-text : List ℕ
of-panel-text = codes " of panel"

-- how a reason ends
abbrev pub panel-bytes : ℕ → List ℕ
panel-bytes q = panel-text ++ number q

abbrev pub reason-text : Reason → List ℕ
reason-text unknown-attribute = unknown-text
reason-text (no-segment q) = no-segment-text ++ panel-bytes q
reason-text (cut-away q) = cut-away-text ++ panel-bytes q
reason-text (row-untouched q) = untouched-text ++ panel-bytes q
reason-text (hidden-by a b q) = hidden-text ++ (number a ++ (of-panel-text ++ (number b ++ panel-bytes q)))
reason-text (shown-at p q) = shown-text ++ (number p ++ panel-bytes q)

-- a reason ends in a line feed
unfoldable pub reason-bytes : Reason → List ℕ
reason-bytes r = reason-text r ++ (10 ∷ [])

-- the words "layer", "draw", ": ", "question "
abbrev pub layer-text : List ℕ
layer-text = codes "layer"

abbrev pub draw-text : List ℕ
draw-text = codes "draw"

abbrev pub colon-text : List ℕ
colon-text = codes ": "

abbrev pub question-text : List ℕ
question-text = codes "question "

abbrev pub kind-text : Bool → List ℕ
kind-text true = layer-text
kind-text false = draw-text

-- which attribute a reason is about
unfoldable pub asked-bytes : Asked → List ℕ
asked-bytes a = kind-text a.layer ++ (number a.attribute ++ colon-text)

-- its line; `why` gives the reasons
abbrev pub attribute-line : (Asked → Reason) → Asked → List ℕ
attribute-line why a = asked-bytes a ++ reason-bytes (why a)

-- the lines of the first n attributes of a kind
unfoldable pub kind-lines : (Asked → Reason) → Bool → ℕ → List ℕ
kind-lines why layer zero = []
kind-lines why layer (suc n) = kind-lines why layer n ++ attribute-line why (record { layer = layer; attribute = n })

-- every attribute: the draws, then the layers
unfoldable pub answer-lines : (Asked → Reason) → ℕ → ℕ → Question → List ℕ
answer-lines why paints layers every = kind-lines why false paints ++ kind-lines why true layers
answer-lines why paints layers (one a) = reason-bytes (why a)

-- the steps of a recording's walk from the reset to a frame
abbrev pub history : Frame → Recording → List Step
history f r = (walk-logged Row row-ops fresh-row f r).value.log

-- 12: a row or a tile off the screen of the viewport v
abbrev pub off-screen : Box → ℕ → ℕ → Bool
off-screen v row tile = leb (rows_of v) row || leb (width v / 4) tile

-- the answer at a tile of a screen of the frame f, at its own width, after the steps xs
unfoldable pub tile-answer : Frame → ℕ → ℕ → List Step → Question → List ℕ
tile-answer f row tile xs q =
    let s = tell-steps (bucket f) f.viewport row tile xs untold in
    answer-lines (reason (bucket f) f.viewport row tile xs) s.paints s.layers q

abbrev pub refused-bytes : ℕ → List ℕ
refused-bytes n = line-bytes (refused n)

-- of a recording that is accepted, on a screen of the frame f
unfoldable pub recording-answer : Frame → Recording → ℕ → ℕ → Question → List ℕ
recording-answer f r row tile q =
    let answer = tile-answer f row tile (history f r) q in
    cond (off-screen f.viewport row tile) (refused-bytes BadRun) answer

abbrev pub answer-in : Setup → Option (List (List (List ℕ))) → ℕ → ℕ → Question → List ℕ
answer-in u None row tile q = refused-bytes BadForm
answer-in u (Some ss) row tile q = let r = recording ss in recording-answer (frame u r.viewport) r row tile q

-- a file, and what the screen is asked to be: the recording's own number first
unfoldable pub why-words : Setup → File → ℕ → ℕ → Question → List ℕ
why-words u f row tile q =
    let n = (rowlist-screen u f).number in
    let answer = answer-in u (parsed f) row tile q in
    cond (eqb n Done) answer (refused-bytes n)

-- the bytes of a file of an edition, as `rowlist` takes them
unfoldable pub why-text : Edition → Setup → List ℕ → ℕ → ℕ → Question → List ℕ
why-text e u fs row tile q =
    elim (too_long (length fs)) [
      | true ↦ refused-bytes BadForm
      | false ↦ elim (words_of fs) [ None ↦ refused-bytes BadForm | Some ws ↦ why-words u (in-edition e ws) row tile q ]
    ]

-- in a stream: the line before question i's answer
unfoldable pub question-line : ℕ → List ℕ
question-line i = question-text ++ (digits 20 i ++ (10 ∷ []))
