-- The text of a stream's recordings: of those that were counted, or of too many.
use Rattle.std.proofs.Common.{◌≡◌, ℕ, List, length, Option, None, Some, IfSome, Result, Ok, Err, OnOk, sym, subst, ap, arith, lt-ltb, le-ltb}
use Rattle.std.specs.Io.KnownBytes.{Appends}
use Rattle.std.proofs.lemmas.List.{length-map}
use Rattle.rules_figures.specs.Lines.{all-lines, many-line, list-text}
use Rattle.text_programs.specs.Arguments.{ReadAs}
use Rattle.tally.specs.declared.counts.Figures.{Figures}
use Rattle.run_figures.specs.Printed.{item_figures, recordings, stream_text}
use Rattle.run_figures.specs.Counting.{StreamRead, first-figures}

module _ (r : ReadAs) (fs : List Figures) (h : length fs ≡ 65536) where
  many-text : (stream : List ℕ) → StreamRead r stream None fs → stream_text r stream ≡ many-line
  unfolding list-text
  many-text stream p = rw (length-map (recordings stream) (item_figures r), lt-ltb 65536 (length (recordings stream)) (omega (arith, p, h)))

  few-text : (n : ℕ) (stream : List ℕ) → StreamRead r stream (Some n) fs → stream_text r stream ≡ all-lines (first-figures n fs)
  unfolding list-text
  few-text n stream p = rw (length-map (recordings stream) (item_figures r), le-ltb 65536 (length (recordings stream)) (omega (arith, p.0, h))) (ap all-lines (sym p.1))

  module _ (P : List ℕ → Type 0) where
    pub of-many : (known : Option (List ℕ)) → IfSome known (λ stream. StreamRead r stream None fs) → P many-line → IfSome known (λ stream. P (stream_text r stream))
    of-many None q p = tt
    of-many (Some stream) q p = subst P (sym (many-text stream q)) p

    pub of-few : (n : ℕ) (known : Option (List ℕ)) → IfSome known (λ stream. StreamRead r stream (Some n) fs) → P (all-lines (first-figures n fs)) → IfSome known (λ stream. P (stream_text r stream))
    of-few n None q p = tt
    of-few n (Some stream) q p = subst P (sym (few-text n stream q)) p

  -- where all of it was written
  module _ {E : Type 0} (a b : Option (List ℕ)) where
    pub many-done : (x : Result (Unit {0}) E) (known : Option (List ℕ)) → IfSome known (λ stream. StreamRead r stream None fs) → OnOk x (Appends a b many-line)
        → OnOk x (IfSome known (λ stream. Appends a b (stream_text r stream)))
    many-done (Ok y) known q p = of-many (Appends a b) known q p
    many-done (Err y) known q p = tt

    pub few-done : (n : ℕ) (x : Result (Unit {0}) E) (known : Option (List ℕ)) → IfSome known (λ stream. StreamRead r stream (Some n) fs) → OnOk x (Appends a b (all-lines (first-figures n fs)))
        → OnOk x (IfSome known (λ stream. Appends a b (stream_text r stream)))
    few-done n (Ok y) known q p = of-few (Appends a b) n known q p
    few-done n (Err y) known q p = tt
