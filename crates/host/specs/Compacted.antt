-- Room back in a crowded row, on a host's words.
use Rattle.std.specs.Prelude.{ℕ, ◌≡◌, true, List}
use Rattle.rules.specs.Answers.{Answer, answer}
use Rattle.row.specs.Words.{Words}
use Rattle.screen.specs.declared.lent.Lent.{Lent}
use Rattle.paint.specs.Stepping.{Attributes, attributes}
use Rattle.compact.specs.Call.{Stored, stored, compacting}
use Rattle.host.specs.declared.state.StateWords.{StateWords}
use Rattle.host.specs.State.{screen-words, on}
use Rattle.host.specs.Held.{words_in}
use Rattle.host.specs.Lent.{rows_in}

-- the screen's numbers, and the words of its rows
abbrev pub compact-left : Answer Stored → Answer (List ℕ × Words)
compact-left a = answer a.number (screen-words a.value.screen, a.value.words)

unfoldable pub compact_call : ℕ → Attributes → List ℕ → Words → Answer (List ℕ × Words)
compact_call r a st w = on true st (st, w) (λ s. compact-left (compacting r a (stored s w)))

-- at a host's structs
abbrev pub compact_on : ℕ → StateWords → Lent → Answer (List ℕ × Words)
compact_on r w t = compact_call r (attributes t.paint_attrs.now t.layer_attrs.now) (words_in w) (rows_in t)

-- what it leaves as it was
pub record CompactKeeps (a b : Lent) : Type 0 where
  pub depth : b.depth.now ≡ a.depth.now
  pub minima : b.minima.now ≡ a.minima.now
  pub painting : b.painting.now ≡ a.painting.now
  pub layers : b.layers.now ≡ a.layers.now
  pub opacities : b.opacities.now ≡ a.opacities.now
  pub paint_attrs : b.paint_attrs.now ≡ a.paint_attrs.now
  pub layer_attrs : b.layer_attrs.now ≡ a.layer_attrs.now
  pub filter_paints : b.filter_paints.now ≡ a.filter_paints.now
