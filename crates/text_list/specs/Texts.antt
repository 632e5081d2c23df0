-- The texts of a tile's list: what they are made in, and the answers that they tell.
use Rattle.std.specs.Prelude.{◌≡◌, ℕ, ◌*◌, cond, List, [], ◌++◌, length, drop, Option, None, Some}
use Rattle.sizes.specs.Sizes.{piece-size}
use Rattle.sizes.specs.declared.edition.Edition.{Edition}
use Rattle.sizes.specs.declared.width.Width.{Width}
use Rattle.rules.specs.Answers.{Answer, answer, BadForm, BadViewport}
use Rattle.rules.specs.Setups.{Mode}
use Rattle.rules.specs.Recording.{in-edition}
use Rattle.rules.specs.Painting.{Entry}
use Rattle.rules_reason.specs.TileList.{most-entries, tile-list, bad-long-form}
use Rattle.text.specs.Bytes.{piece-room}
use Rattle.text_long.specs.Long.{long-words, words-of-long}
use Rattle.text_list.specs.declared.Lists.{Lists}

-- words of a list of as many entries as a tile can have, and bytes of their lines
abbrev pub list-words : ℕ
list-words = piece-size * most-entries

abbrev pub text-room : ℕ
text-room = piece-room * most-entries

pub record Ready (l : Lists) : Type 0 where
  pub words : length l.words.now ≡ long-words
  pub list : length l.list.now ≡ list-words

-- the tile's list, of the file's words, or 3 where the bytes have none
abbrev pub words-listed : Edition → Mode → Width → ℕ → ℕ → Option (List ℕ) → Answer (List Entry)
words-listed e m w row tile None = answer BadForm []
words-listed e m w row tile (Some ws) = tile-list m w (in-edition e ws) row tile most-entries

abbrev pub bytes-listed : Edition → Mode → Width → List ℕ → ℕ → ℕ → Answer (List Entry)
bytes-listed e m w bs row tile = words-listed e m w row tile (words-of-long bs)

-- the number of the refusal where the width asked for is none
abbrev pub no-width-told : Edition → List ℕ → ℕ
no-width-told e bs = cond (bad-long-form e bs) BadForm BadViewport

-- a text at the start of some bytes; what was after it stays
abbrev pub first : List ℕ → List ℕ → List ℕ
first ts bs = ts ++ drop (length ts) bs
