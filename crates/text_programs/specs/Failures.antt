-- What a failure is of, and what is written where reading or writing fails.
use Rattle.std.specs.Prelude.{◌≢◌, ◌≤◌, ℕ, List, take, codes, ⊤, Option, Some, None}
use Rattle.std.specs.IoError.{error_kind}
use Rattle.std.specs.declared.io.Error.{Error}
use Rattle.std.specs.declared.io.ErrorKind.TheVariants.{Interrupted}
use Rattle.std.specs.Io.KnownBytes.{Appends}
use Rattle.text_programs.specs.Streams.{Skips}
use Rattle.text_programs.specs.declared.failure.Failure.{Failure}
use Rattle.text_programs.specs.declared.failure.Stop.{Stop}
use Rattle.text_programs.specs.declared.failure.Stop.TheVariants.{Usage, Failed}
use Rattle.text_programs.specs.declared.failure.Failure.TheVariants.{OutOfMemory, CannotRead, CannotWrite}

-- what a failure's line says could not be done
abbrev pub failure_text : Failure → List ℕ
failure_text OutOfMemory = codes "out of memory"
failure_text (CannotRead e) = codes "cannot read standard input"
failure_text (CannotWrite e) = codes "cannot write standard output"

-- what the system said
abbrev pub cause_of : Failure → Option Error
cause_of OutOfMemory = None
cause_of (CannotRead e) = Some e
cause_of (CannotWrite e) = Some e

-- a read that failed, and not because a signal came between
abbrev pub IsOfReading : Failure → Type 0
IsOfReading OutOfMemory = ⊥
IsOfReading (CannotRead e) = error_kind e ≢ Interrupted
IsOfReading (CannotWrite e) = ⊥

abbrev pub IsOfWriting : Failure → Type 0
IsOfWriting OutOfMemory = ⊥
IsOfWriting (CannotRead e) = ⊥
IsOfWriting (CannotWrite e) = error_kind e ≢ Interrupted

-- why a program ends: its arguments ask for nothing, or it failed; it failed to write
abbrev pub IsUsage : Stop → Type 0
IsUsage (Usage _) = ⊤
IsUsage (Failed f) = ⊥

abbrev pub IsFailed : Stop → Type 0
IsFailed (Usage _) = ⊥
IsFailed (Failed f) = ⊤

abbrev pub IsUnwritten : Stop → Type 0
IsUnwritten (Usage _) = ⊥
IsUnwritten (Failed f) = IsOfWriting f

-- a beginning of the text was appended to the known bytes, and nothing else
abbrev pub Begins : Option (List ℕ) → Option (List ℕ) → List ℕ → Type 0
Begins old new text = (n : ℕ) × Appends old new (take n text)

-- a beginning of the known bytes is gone, at most n of them, and nothing else
abbrev pub Loses : ℕ → Option (List ℕ) → Option (List ℕ) → Type 0
Loses n old new = (k : ℕ) × (k ≤ n) × Skips k old new
