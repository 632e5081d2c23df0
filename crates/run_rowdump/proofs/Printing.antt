-- What is printed of a recording asks for no more of it than the programs read.
use Rattle.std.proofs.Common.{◌≡◌, ℕ, ◌<◌, Bool, true, false, List, [], ◌++◌, Option, length, take, sym, ap, ◌∙◌, lt-ltb, None, Some}
use Rattle.sizes.specs.declared.edition.Edition.{Edition}
use Rattle.rules.specs.Setups.{Setup}
use Rattle.rules.specs.Recording.{in-edition}
use Rattle.rules.specs.Lines.{words_of}
use Rattle.text_programs.specs.Arguments.{ReadAs}
use Rattle.text_programs.specs.Streams.{Item, PrintsFirst}
use Rattle.text_programs.proofs.Cut.{cut}
use Rattle.text_programs.proofs.Streaming.{nothing_first}
use Rattle.text_files.specs.Programs.{by_reading}
use Rattle.text_files.proofs.Cut.{rowlist-cut, by_reading-cut}
use Rattle.text.specs.Details.{rowdump-words}
use Rattle.text_dump.specs.Rowdump.{recording-line, rowdump-lines, file-lines-text}

module _ (e : Edition) (q : Setup) where
  long-lines : (xs : List ℕ) → 65536 < length xs → rowdump-lines e q xs ≡ []
  unfolding rowdump-lines
  long-lines xs h =
      ap (λ (b : Bool). elim b [ true ↦ [] | false ↦ elim (words_of xs) [ None ↦ [] | Some ws ↦ rowdump-words q (in-edition e ws) ] ]) (lt-ltb 65536 (length xs) h)

  lines-cut : (fs : List ℕ) → rowdump-lines e q (take 65537 fs) ≡ rowdump-lines e q fs
  lines-cut = cut (rowdump-lines e q) (λ xs ys h k. long-lines xs h ∙ sym (long-lines ys k))

  file-cut : (v : Bool) (fs : List ℕ) → file-lines-text v e q (take 65537 fs) ≡ file-lines-text v e q fs
  file-cut v fs = rw (rowlist-cut e q fs, lines-cut fs)

-- a recording that is cut where it is too long is printed as the whole is
pub recording-cut : (v : Bool) (r : ReadAs) (i : ℕ) (fs : List ℕ)
    → recording-line i ++ by_reading (file-lines-text v) r (take 65537 fs) ≡ recording-line i ++ by_reading (file-lines-text v) r fs
recording-cut v r i fs = ap (λ ts. recording-line i ++ ts) (by_reading-cut (file-lines-text v) (λ e q gs. file-cut e q v gs) r fs)

-- nothing was printed of a stream
pub none_printed : (one : ℕ → Item → List ℕ) (known a : Option (List ℕ)) → PrintsFirst one 4 known a a
none_printed one known a = nothing_first one 4 known a
