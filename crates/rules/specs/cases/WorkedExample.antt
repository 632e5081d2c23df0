-- The rules' worked example (docs/RULES.md).
use Rattle.std.specs.Prelude.{ℕ, ◌≡◌, None, Some, List, [], ◌∷◌, ◌++◌, codes, unwrap_or}
use Rattle.sizes.specs.declared.width.Width.TheVariants.{W128}
use Rattle.sizes.specs.declared.edition.Edition.TheVariants.{One}
use Rattle.rules.specs.Lists.{join}
use Rattle.rules.specs.Spans.{span}
use Rattle.rules.specs.Setups.{exact}
use Rattle.rules.specs.Recording.{Recording, in-one, parsed, recording}
use Rattle.rules.specs.Words as words
use Rattle.rules.specs.Lines.{Line, header, row, D, P, L, B, E, usual, bytes-of, rowlist, line-bytes}
use Rattle.rules.specs.cases.Samples as sample
use Rattle.rules.specs.cases.Samples.{attrs, paint-attr, layer-attr, paint-piece, layer-piece, listed}

-- The file's words, section by section: viewport 0,0,256,8; one opaque paint; a solid segment on row 0, tiles 10 to 64, and one on
-- row 1, tiles 0 to 8; two draws; a layer, opacity 0.5, no clip; two nodes; root.
abbrev pub worked-words : List ℕ
worked-words =
    (1 ∷ 0 ∷ 0 ∷ 256 ∷ 8 ∷ [])
    ++ ((1 ∷ 1 ∷ 7 ∷ 0 ∷ 0 ∷ [])
    ++ ((2 ∷ 0 ∷ 0 ∷ 10 ∷ 64 ∷ 0 ∷ 0 ∷ 1 ∷ 0 ∷ 8 ∷ 0 ∷ [])
    ++ ((2 ∷ 0 ∷ 0 ∷ 1 ∷ 0 ∷ 0 ∷ 3 ∷ 0 ∷ 0 ∷ 1 ∷ 2 ∷ 0 ∷ 0 ∷ 3 ∷ 0 ∷ [])
    ++ ((1 ∷ 0 ∷ 1 ∷ 2 ∷ 0 ∷ 3 ∷ 1056964608 ∷ 0 ∷ 0 ∷ 0 ∷ 0 ∷ 0 ∷ 0 ∷ 0 ∷ 0 ∷ 0 ∷ 0 ∷ 0 ∷ 0 ∷ 0 ∷ 0 ∷ 0 ∷ 0 ∷ [])
    ++ ((2 ∷ 0 ∷ 1 ∷ 1 ∷ 1 ∷ 2 ∷ 0 ∷ []) ++ (1 ∷ 0 ∷ 1 ∷ []))))))

-- the file's bytes
abbrev pub worked-bytes : List ℕ
worked-bytes = bytes-of worked-words

abbrev pub worked-lines : List Line
worked-lines =
    header 2 2 3
    ∷ row 0 1 1
    ∷ D 1 2 0
    ∷ P 10 32 None 0
    ∷ row 1 0 4
    ∷ B (Some (span 0 64))
    ∷ P 0 8 None 1
    ∷ L 0 64 None 0
    ∷ E
    ∷ []

abbrev pub worked-recording : Recording
worked-recording = recording (unwrap_or (parsed (in-one worked-words)) [])

-- From the file's words, and from its bytes, to the lines, to their bytes, to the attributes and the painted pieces. What says the recording again, a
-- paint's shifts being 0 here, is the same file.
pub record WorkedExample : Type 0 where
  pub lines : listed worked-words ≡ worked-lines
  pub file : rowlist One (usual exact W128) worked-bytes ≡ worked-lines
  pub text : join line-bytes worked-lines
      ≡ codes "rows 2 buckets 2 ids 3\nrow 0 depth 1 render 1\nD 1 2 0\nP 10 32 - 0\nrow 1 depth 0 render 4\nB 0 64\nP 0 8 - 1\nL 0 64 - 0\nE\n"
  pub attributes : sample.attributes worked-recording
      ≡ attrs (paint-attr 0 0 3 0 1 0 0 0 ∷ paint-attr 0 0 3 0 2 0 0 0 ∷ []) (layer-attr 0 3 1056964608 0 3 0 ∷ []) []
  pub pieces : sample.pieces worked-recording
      ≡ (paint-piece 0 32 64 None 0 ∷ paint-piece 0 10 32 None 0 ∷ []) ∷ (paint-piece 1 0 8 None 1 ∷ layer-piece 0 0 64 None 1 ∷ []) ∷ []
  pub again : words.file One worked-recording ≡ worked-words
