-- The two editions of a recording file at known points.
use Rattle.std.specs.Prelude.{ℕ, ◌≡◌, Bool, true, false, List, [], ◌∷◌, ◌++◌, map, drop, replicate, unwrap_or}
use Rattle.sizes.specs.declared.edition.Edition.{Edition}
use Rattle.sizes.specs.declared.edition.Edition.TheVariants.{One, Two}
use Rattle.sizes.specs.declared.width.Width.TheVariants.{W128}
use Rattle.rules.specs.Lists.{is_none}
use Rattle.rules.specs.Answers.{Answer, Done, BadForm, BadRecord}
use Rattle.rules.specs.Boxes.{box}
use Rattle.rules.specs.Inputs.{Draw}
use Rattle.rules.specs.Attributes.{PaintAttr, LayerAttr, Attrs}
use Rattle.rules.specs.Setups.{exact, frame}
use Rattle.rules.specs.Recording.{Recording, LayerRec, in-edition, parsed, recording}
use Rattle.rules.specs.Words as words
use Rattle.rules.specs.Walk.{needed}
use Rattle.rules.specs.Lines.{nothing, usual}
use Rattle.rules.specs.Calls.{Canvas, fresh-canvas, record-call}
use Rattle.rules.specs.cases.WorkedExample.{worked-words, worked-recording}

-- what words of an edition say, and whether they have not its form
abbrev pub said : Edition → List ℕ → Recording
said e ws = recording (unwrap_or (parsed (in-edition e ws)) [])

abbrev pub formless : Edition → List ℕ → Bool
formless e ws = is_none (parsed (in-edition e ws))

-- the worked example's draws for panel p, its layer for panel q
abbrev pub worked-for : ℕ → ℕ → Recording
worked-for p q =
    record worked-recording {
      draws = map (λ (d : Draw). record d { panel = p }) worked-recording.draws;
      layers = map (λ (l : LayerRec). record l { panel = q }) worked-recording.layers;
    }

-- .. for panels 5 and 6, section by section
abbrev pub worked-two : List ℕ
worked-two =
    (1 ∷ 2 ∷ [])
    ++ ((1 ∷ 0 ∷ 0 ∷ 256 ∷ 8 ∷ [])
    ++ ((1 ∷ 1 ∷ 7 ∷ 0 ∷ 0 ∷ [])
    ++ ((2 ∷ 0 ∷ 0 ∷ 10 ∷ 64 ∷ 0 ∷ 0 ∷ 1 ∷ 0 ∷ 8 ∷ 0 ∷ [])
    ++ ((2 ∷ 0 ∷ 0 ∷ 1 ∷ 0 ∷ 0 ∷ 3 ∷ 0 ∷ 5 ∷ 0 ∷ 1 ∷ 2 ∷ 0 ∷ 0 ∷ 3 ∷ 0 ∷ 5 ∷ [])
    ++ ((1 ∷ 0 ∷ 1 ∷ 2 ∷ 0 ∷ 3 ∷ 1056964608 ∷ 0 ∷ 0 ∷ 0 ∷ 0 ∷ 0 ∷ 0 ∷ 0 ∷ 0 ∷ 0 ∷ 0 ∷ 0 ∷ 0 ∷ 0 ∷ 0 ∷ 0 ∷ 0 ∷ 6 ∷ [])
    ++ ((2 ∷ 0 ∷ 1 ∷ 1 ∷ 1 ∷ 2 ∷ 0 ∷ []) ++ (1 ∷ 0 ∷ 1 ∷ [])))))))

-- words that have the form of either edition: in the first four draws, in the second four paints and two segments
abbrev pub of-both : List ℕ
of-both = (1 ∷ 2 ∷ 1 ∷ 254 ∷ 7 ∷ 0 ∷ 0 ∷ 4 ∷ []) ++ (replicate 16 0 ++ ((2 ∷ []) ++ (replicate 11 0 ++ (0 ∷ 0 ∷ 1 ∷ 0 ∷ 0 ∷ []))))

-- a recording call, lent what the worked example's screen needs
abbrev pub called : Edition → List ℕ → Answer Canvas
called e ws =
    let q = usual exact W128 in
    record-call q (needed (frame q (box 0 0 256 8))) (in-edition e ws) (fresh-canvas nothing)

abbrev pub attrs-left : Edition → List ℕ → Attrs
attrs-left e ws = (called e ws).value.screen.state.attrs

-- In edition two a draw and a layer end in their panel's word; in edition one there is none, and panels are 0. Neither edition's words have the other's form,
-- as a rule; the head is exactly 1, 2. Panels above 255 are refused.
pub record EditionsHold : Type 0 where
  pub read : said Two worked-two ≡ worked-for 5 6
  pub again : words.file Two (worked-for 5 6) ≡ worked-two
  pub first : words.file One (worked-for 5 6) ≡ worked-words
  pub zero : said Two (words.file Two worked-recording) ≡ said One worked-words
  pub paints : map (λ (a : PaintAttr). a.panel) (attrs-left Two worked-two).paints ≡ 5 ∷ 5 ∷ []
  pub layers : map (λ (a : LayerAttr). a.panel) (attrs-left Two worked-two).layers ≡ 6 ∷ []
  pub rows : (called Two worked-two).value.screen.rows ≡ (called One worked-words).value.screen.rows
  pub apart : formless One worked-two ∷ formless Two worked-words ∷ [] ≡ true ∷ true ∷ []
  pub heads : map (formless Two) ([] ∷ (1 ∷ []) ∷ (1 ∷ 2 ∷ []) ∷ (1 ∷ 1 ∷ drop 2 worked-two) ∷ (1 ∷ 3 ∷ drop 2 worked-two) ∷ (2 ∷ 2 ∷ drop 2 worked-two) ∷ drop 2 worked-two ∷ [])
      ≡ replicate 7 true
  pub either : formless One of-both ∷ formless Two of-both ∷ [] ≡ false ∷ false ∷ []
  pub numbers : (called Two (words.file Two (worked-for 255 255))).number
      ∷ (called Two (words.file Two (worked-for 256 0))).number
      ∷ (called Two (words.file Two (worked-for 0 256))).number
      ∷ (called Two worked-words).number
      ∷ []
      ≡ Done ∷ BadRecord ∷ BadRecord ∷ BadForm ∷ []
