-- A tile's list without rows: a recording is walked with room for everything in every row, and what a tile receives is read off its steps in plain draw
-- order. There is no C, no D and no arena here, so that no answer is 1, 10 or 11; nor 7 or 13.
use Rattle.std.specs.Prelude.{ℕ, suc, ◌+◌, Bool, true, false, ◌||◌, not, cond, List, [], ◌∷◌, ◌++◌, length, ltb, eqb, codes}
use Rattle.std.specs.Prelude.{Option, None, Some}
use Rattle.sizes.specs.Sizes.{most-attrs, long-file-bytes}
use Rattle.sizes.specs.declared.edition.Edition.{Edition}
use Rattle.sizes.specs.declared.width.Width.{Width}
use Rattle.rules.specs.Lists.{join, is_none}
use Rattle.rules.specs.Answers.{Answer, answer, settle, first_of, Done, BadViewport, BadForm, BadRecord, BadOrder, BadRun, NoRoom}
use Rattle.rules.specs.Boxes.{Box, good_viewport}
use Rattle.rules.specs.Plans.{Frame, bucket, Step}
use Rattle.rules.specs.Setups.{Mode, viewport-in}
use Rattle.rules.specs.Recording.{Recording, File, in-edition, parsed, recording, good-records, good-order}
use Rattle.rules.specs.Roomless.{roomless}
use Rattle.rules.specs.Painting.{Entry}
use Rattle.rules.specs.Plain.{plain}
use Rattle.rules.specs.Lines.{words_of, digits, number, alpha-bytes}
use Rattle.rules_reason.specs.Answers.{off-screen, refused-bytes}

-- what a screen is asked to be where no row is kept: how the viewport is read, and how wide a bucket is
abbrev pub roomless-frame : Mode → Width → Box → Frame
roomless-frame m w v = record { viewport = viewport-in m v; c = 0; d = 0; width = w }

-- 2, then 4, then 5: every record, also one that no walk reaches
abbrev pub judge-roomless : Frame → Recording → ℕ
judge-roomless f r =
    first_of
    ((not (good_viewport f.viewport), BadViewport)
    ∷ (not (good-records r), BadRecord)
    ∷ (not (good-order r), BadOrder)
    ∷ [])

-- a number, or where it is no refusal another
abbrev pub or-else : ℕ → ℕ → ℕ
or-else n m = cond (eqb n Done) m n

-- a tile's list after the steps xs
abbrev pub entries-of : Frame → ℕ → ℕ → List Step → List Entry
entries-of f row tile xs = plain (bucket f) f.viewport row tile xs

-- 12 for a row or a tile off the screen, then 14 where the list has room for `room` entries and there are more
abbrev pub judge-list : Frame → ℕ → ℕ → ℕ → List Entry → ℕ
judge-list f row tile room es =
    first_of ((off-screen f.viewport row tile, BadRun) ∷ (ltb room (length es), NoRoom) ∷ [])

-- a recording's tile: its records, then the walk's first refused step, then the tile and the list's room
unfoldable pub tile-listed : Frame → Recording → ℕ → ℕ → ℕ → Answer (List Entry)
tile-listed f r row tile room =
    let a = roomless f r in
    let es = entries-of f row tile a.value.log in
    settle (or-else (judge-roomless f r) (or-else a.number (judge-list f row tile room es))) [] es

abbrev pub listed-in : Mode → Width → Option (List (List (List ℕ))) → ℕ → ℕ → ℕ → Answer (List Entry)
listed-in m w None row tile room = answer BadForm []
listed-in m w (Some ss) row tile room = let r = recording ss in tile-listed (roomless-frame m w r.viewport) r row tile room

-- a file: 3 before all. Refused, there is no entry
unfoldable pub tile-list : Mode → Width → File → ℕ → ℕ → ℕ → Answer (List Entry)
tile-list m w f row tile room = listed-in m w (parsed f) row tile room

-- Bytes. An entry's line, as a piece of this tile alone: the letter p or l, attribute, first tile, end tile, alpha index or a dash, nesting, panel
abbrev pub entry-text : ℕ → Entry → List ℕ
entry-text t e =
    cond e.layer 108 112
    ∷ (number e.attribute ++ (number t ++ (number (suc t) ++ (alpha-bytes e.alpha ++ (number e.nesting ++ number e.panel)))))

-- .. ends in a line feed
unfoldable pub entry-bytes : ℕ → Entry → List ℕ
entry-bytes t e = entry-text t e ++ (10 ∷ [])

-- nothing where the tile receives nothing; a refusal prints only its number
abbrev pub answer-bytes : ℕ → Answer (List Entry) → List ℕ
answer-bytes t a = cond (eqb a.number Done) (join (entry-bytes t) a.value) (refused-bytes a.number)

-- as many entries as a tile can have: one for each attribute
abbrev pub most-entries : ℕ
most-entries = most-attrs + most-attrs

-- what `tilelist` prints of the bytes of a file of an edition: over 1,048,576 bytes it refuses by 3
unfoldable pub list-text : Edition → Mode → Width → List ℕ → ℕ → ℕ → List ℕ
list-text e m w bs row tile =
    elim (ltb long-file-bytes (length bs)) [
      | true ↦ refused-bytes BadForm
      | false ↦ elim (words_of bs) [
        | None ↦ refused-bytes BadForm
        | Some ws ↦ answer-bytes tile (tile-list m w (in-edition e ws) row tile most-entries)
      ]
    ]

-- the form of such bytes is bad
abbrev pub bad-long-form : Edition → List ℕ → Bool
bad-long-form e bs =
    ltb long-file-bytes (length bs) || elim (words_of bs) [ None ↦ true | Some ws ↦ is_none (parsed (in-edition e ws)) ]

-- asked for buckets of a width that is none it refuses every file by 2, after 3
unfoldable pub no-width-text : Edition → List ℕ → List ℕ
no-width-text e bs = refused-bytes (cond (bad-long-form e bs) BadForm BadViewport)

-- the word "list "
abbrev pub list-word : List ℕ
list-word = codes "list "

-- in a stream: the line before list i
unfoldable pub list-line : ℕ → List ℕ
list-line i = list-word ++ (digits 20 i ++ (10 ∷ []))
