-- Text in a lent list of bytes, and the place where it goes on.
use Rattle.std.specs.Prelude.{ℕ, ◌+◌, ◌-◌, ◌^◌, ◌≡◌, List, [], ◌∷◌, ◌++◌, min, slice_set, ℤ, pos, negsuc, nat_abs}
use Rattle.rules.specs.Lines.{digits, dash}
use Rattle.text.specs.declared.Out.{Out}

pub record Text : Type 0 where
  pub bytes : List ℕ
  pub at : ℕ

abbrev pub text : List ℕ → ℕ → Text
text bs p = record { bytes = bs; at = p }

-- one byte: it stands at the place, if there is one; the place goes on, within 64 bits
abbrev pub with_byte : ℕ → Text → Text
with_byte b t = text (slice_set t.bytes t.at b) (min (t.at + 1) (2 ^ 64 - 1))

-- byte by byte
unfoldable pub put : List ℕ → Text → Text
put [] t = t
put (b ∷ bs) t = put bs (with_byte b t)

-- what has gone into the bytes, and the place
abbrev pub shown : Out → Text
shown o = text o.bytes.now o.at

-- ws is written into the same bytes
pub record Writes (ws : List ℕ) (a b : Out) : Type 0 where
  pub same : b.bytes.ghost_name ≡ a.bytes.ghost_name
  pub text : shown b ≡ put ws (shown a)

-- a space, and a minus sign below 0
abbrev pub sign : ℤ → List ℕ
sign (pos n) = 32 ∷ []
sign (negsuc n) = dash

-- a space and a number that may be negative
abbrev pub signed : ℤ → List ℕ
signed x = sign x ++ digits 10 (nat_abs x)
