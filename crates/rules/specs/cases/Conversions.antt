-- Conversions between the editions at known points.
use Rattle.std.specs.Prelude.{ℕ, ◌+◌, ◌≡◌, List, [], ◌∷◌, ◌++◌, map, length, take}
use Rattle.sizes.specs.declared.edition.Edition.TheVariants.{One, Two}
use Rattle.rules.specs.Answers.{Answer, answer, Done, BadViewport, BadForm, BadRecord, BadOrder, NoRoom, HasPanels}
use Rattle.rules.specs.Boxes.{Box, box}
use Rattle.rules.specs.Inputs.{Draw}
use Rattle.rules.specs.Setups.{exact, snapping}
use Rattle.rules.specs.Recording.{Recording, LayerRec, in-one, in-edition}
use Rattle.rules.specs.Words as words
use Rattle.rules.specs.Lines.{bytes-of}
use Rattle.rules.specs.Conversions.{conversion, convert-call, converted-bytes, stream-item}
use Rattle.rules.specs.cases.Samples.{solid, node, rec, any-layer, no-clip, no-filter, a-nan}
use Rattle.rules.specs.Blends.{default-blend}
use Rattle.rules.specs.cases.WorkedExample.{worked-words, worked-recording}
use Rattle.rules.specs.cases.Editions.{worked-for, worked-two}

abbrev pub to-two : List ℕ → Answer (List ℕ)
to-two ws = conversion exact Two (in-one ws)

abbrev pub to-one : List ℕ → Answer (List ℕ)
to-one ws = conversion exact One (in-edition Two ws)

-- a recording in edition two, to edition one
abbrev pub as-one : Recording → ℕ
as-one r = (to-one (words.file Two r)).number

abbrev pub in-view : Box → Recording → Recording
in-view v r = record r { viewport = v }

abbrev pub no-view : Recording → Recording
no-view r = in-view (box 1 0 4 4) r

-- two segments of one row out of order, and a layer of kind 2, each beside a panel
abbrev pub disordered : Recording
disordered = record (worked-for 1 0) { segments = solid 1 0 8 ∷ solid 0 10 64 ∷ []; draws = map (λ (d : Draw). record d { start = 0; end = 2 }) (worked-for 1 0).draws }

abbrev pub of-no-kind : Recording
of-no-kind = record disordered { layers = map (λ (l : LayerRec). record l { kind = 2 }) disordered.layers }

-- a layer that no node has, its opacity a NaN; nodes that lie in one another for ever
abbrev pub apart : ℕ → Recording
apart p = rec (box 0 0 4 4) [] [] (record (any-layer 0 0 0 default-blend a-nan 0 0 no-clip no-filter) { panel = p } ∷ []) [] 0 0

abbrev pub endless : Recording
endless = rec (box 0 0 4 4) [] [] (any-layer 0 0 1 default-blend a-nan 0 0 no-clip no-filter ∷ []) (node 0 0 1 ∷ []) 0 1

-- a paint whose shifts are 5 and 6, on a screen of one tile
abbrev pub shifted : List ℕ
shifted = (1 ∷ 0 ∷ 0 ∷ 4 ∷ 4 ∷ []) ++ ((1 ∷ 1 ∷ 7 ∷ 5 ∷ 6 ∷ []) ++ (0 ∷ 0 ∷ 0 ∷ 0 ∷ 1 ∷ 0 ∷ 0 ∷ []))

-- a viewport that only the snapping mode takes
abbrev pub off-edges : Recording
off-edges = in-view (box 1 1 255 7) worked-recording

-- There and back by words, what is lost nowhere, and the refusals in their order: 3, 2, 4, 5, 15, 14.
pub record ConversionsHold : Type 0 where
  pub two : to-two worked-words ≡ answer Done (words.file Two worked-recording)
  pub one : to-one (words.file Two worked-recording) ≡ answer Done worked-words
  pub shifts : to-two shifted ≡ answer Done (1 ∷ 2 ∷ shifted)
  pub unreached : to-two (words.file One (apart 0)) ≡ answer Done (words.file Two (apart 0))
  pub unwalked : to-one (words.file Two endless) ≡ answer Done (words.file One endless)
  pub view : conversion snapping Two (in-one (words.file One off-edges)) ≡ answer Done (words.file Two off-edges)
  pub panels : map as-one (worked-for 1 0 ∷ worked-for 0 1 ∷ apart 1 ∷ apart 255 ∷ apart 256 ∷ []) ≡ HasPanels ∷ HasPanels ∷ HasPanels ∷ HasPanels ∷ BadRecord ∷ []
  pub order : map as-one (no-view of-no-kind ∷ of-no-kind ∷ disordered ∷ worked-for 5 6 ∷ worked-recording ∷ [])
      ≡ BadViewport ∷ BadRecord ∷ BadOrder ∷ HasPanels ∷ Done ∷ []
  pub forms : (to-two worked-two).number ∷ (to-one worked-words).number ∷ (to-two []).number ∷ (to-one (1 ∷ 2 ∷ [])).number ∷ [] ≡ BadForm ∷ BadForm ∷ BadForm ∷ BadForm ∷ []
  pub exacts : (to-two (words.file One off-edges)).number ≡ BadViewport
  pub short : convert-call exact Two 10 (in-one shifted) ≡ answer NoRoom []
  pub full : (convert-call exact Two (length shifted + 2) (in-one shifted)).number ∷ (convert-call exact Two (length shifted + 1) (in-one shifted)).number ∷ [] ≡ Done ∷ NoRoom ∷ []
  pub last : (convert-call exact One 0 (in-edition Two worked-two)).number ≡ HasPanels
  pub bytes : converted-bytes exact Two One (bytes-of worked-words) ≡ answer Done (bytes-of (words.file Two worked-recording))
  pub part : (converted-bytes exact Two One (take 5 (bytes-of worked-words))).number ≡ BadForm
  pub items : stream-item (converted-bytes exact One Two (bytes-of (1 ∷ 2 ∷ shifted))) ++ stream-item (converted-bytes exact One Two (bytes-of worked-two))
      ≡ bytes-of ((68 ∷ shifted) ++ (4294967295 ∷ HasPanels ∷ []))
