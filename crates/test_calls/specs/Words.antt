-- What reading takes of the words that are left.
use Rattle.std.specs.Prelude.{◌≤◌, length}
use Rattle.test_calls.specs.declared.words.Words.{Words}

-- A read gives none back.
abbrev pub Passes : Words → Words → Type 0
Passes before after = length after.left.now ≤ length before.left.now
