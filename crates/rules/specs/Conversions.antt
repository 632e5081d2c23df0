-- Conversions of a recording file between its editions, and what `editions` writes.
use Rattle.std.specs.Prelude.{ℕ, zero, suc, Bool, true, false, ◌&&◌, not, cond, List, [], ◌∷◌, ◌++◌, map, length, ltb, eqb}
use Rattle.std.specs.Prelude.{None, Some}
use Rattle.sizes.specs.Sizes.{long-file-bytes}
use Rattle.sizes.specs.declared.edition.Edition.{Edition}
use Rattle.rules.specs.Lists.{every, join}
use Rattle.rules.specs.Answers.{Answer, answer, settle, first_of, Done, BadViewport, BadForm, BadRecord, BadOrder, NoRoom, HasPanels}
use Rattle.rules.specs.Boxes.{good_viewport}
use Rattle.rules.specs.Setups.{Mode, viewport-in}
use Rattle.rules.specs.Recording.{File, in-edition, shape, head, parsed, recording, good-records, good-order}
use Rattle.rules.specs.Words.{section}
use Rattle.rules.specs.Lines.{words_of, word-bytes, bytes-of}

-- the words of sections, each a list of records, and the file that has them
abbrev pub written : List (List (List ℕ)) → List ℕ
written ss = join (section (λ (r : List ℕ). r)) ss

abbrev pub file-of : Edition → List (List (List ℕ)) → List ℕ
file-of e ss = head e ++ written ss

-- a record as k words: cut, or continued by 0
unfoldable pub resized : ℕ → List ℕ → List ℕ
resized zero r = []
resized (suc k) [] = 0 ∷ resized k []
resized (suc k) (w ∷ ws) = w ∷ resized k ws

-- no word but 0 is cut away
abbrev pub is_zero : ℕ → Bool
is_zero w = eqb w 0

unfoldable pub keeps : ℕ → List ℕ → Bool
keeps zero r = every is_zero r
keeps (suc k) [] = true
keeps (suc k) (w ∷ ws) = keeps k ws

-- all sections, each record in the size that a shape has for it; whether nothing is lost
unfoldable pub converted : List (ℕ × Bool) → List (List (List ℕ)) → List (List (List ℕ))
converted [] ss = []
converted (t ∷ ts) [] = []
converted (t ∷ ts) (s ∷ ss) = map (resized t.0) s ∷ converted ts ss

unfoldable pub all-kept : List (ℕ × Bool) → List (List (List ℕ)) → Bool
all-kept [] ss = true
all-kept (t ∷ ts) [] = true
all-kept (t ∷ ts) (s ∷ ss) = every (keeps t.0) s && all-kept ts ss

-- A file that is read in the mode m, as one of edition e. All records are judged, nothing is walked, and there is no limit of rows.
module _ (m : Mode) (e : Edition) where
  -- 2, 4, 5, then 15 for a panel that edition e has no word for
  unfoldable pub judge-sections : List (List (List ℕ)) → ℕ
  judge-sections ss =
      let r = recording ss in
      first_of
      ((not (good_viewport (viewport-in m r.viewport)), BadViewport)
      ∷ (not (good-records r), BadRecord)
      ∷ (not (good-order r), BadOrder)
      ∷ (not (all-kept (shape e) ss), HasPanels)
      ∷ [])

  -- the viewport's words stand as they were, and a paint's shifts
  unfoldable pub conversion : File → Answer (List ℕ)
  conversion f =
      elim (parsed f) [
        | None ↦ answer BadForm []
        | Some ss ↦ settle (judge-sections ss) [] (file-of e (converted (shape e) ss))
      ]

  -- into a list with room for n words: 14 comes last
  unfoldable pub convert-call : ℕ → File → Answer (List ℕ)
  convert-call n f = let a = conversion f in cond (ltb n (length a.value)) (answer NoRoom []) a

  -- the bytes of a file of edition d: 3 for more than 1,048,576, or for no whole words
  unfoldable pub converted-bytes : Edition → List ℕ → Answer (List ℕ)
  converted-bytes d bs =
      elim (ltb long-file-bytes (length bs)) [
        | true ↦ answer BadForm []
        | false ↦ elim (words_of bs) [
          | None ↦ answer BadForm []
          | Some ws ↦ let a = conversion (in-edition d ws) in answer a.number (bytes-of a.value)
        ]
      ]

-- In a stream a file stands after its length in bytes; for a refused one there are two words, the largest and the refusal's number.
abbrev pub stream-item : Answer (List ℕ) → List ℕ
stream-item a = cond (eqb a.number Done) (word-bytes (length a.value) ++ a.value) (bytes-of (4294967295 ∷ a.number ∷ []))
