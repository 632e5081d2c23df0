-- A list of fills on a host's words: number, the words of the screen, what else is lent, and how many fills are done.
use Rattle.std.specs.Prelude.{ℕ, true, ◌&&◌, cond, List, length, ltb, Option, None, Some}
use Rattle.rules.specs.Answers.{Answer, answer, BadRecord}
use Rattle.row.specs.Words.{Words}
use Rattle.row.specs.declared.rows.Rows.{Rows}
use Rattle.screen.specs.declared.Screen.{Screen}
use Rattle.screen.specs.declared.lent.Lent.{Lent}
use Rattle.screen.specs.Judging.{judged}
use Rattle.fill.specs.declared.list.Draws.{Draws}
use Rattle.fill.specs.Fills.{fill_lent}
use Rattle.fill.specs.Lists.{FillsOut, good-draws, fills_listed}
use Rattle.host.specs.declared.state.StateWords.{StateWords}
use Rattle.host.specs.State.{screen-words, screen_of, refused_at}
use Rattle.host.specs.Border.{rows-judged}
use Rattle.host.specs.Held.{words_in, one}
use Rattle.host.specs.Lent.{rows_in}

abbrev pub fills-left : FillsOut → Answer (List ℕ × Words × List ℕ × List ℕ)
fills-left o = answer o.number (screen-words o.value.screen, o.value.words, o.value.paint-attrs, one o.done)

-- words that stand for no screen: 4 for a bad range or an empty one, else as a building step
abbrev pub no-screen : List ℕ → ℕ → ℕ → List ℕ → (Screen → ℕ) → ℕ
no-screen ws a b st f = cond (good-draws ws a b && ltb a b) (refused_at st f) BadRecord

abbrev pub list_held : List ℕ → List ℕ → List ℕ → ℕ → ℕ → Option Screen → List ℕ → Words → List ℕ → Answer (List ℕ × Words × List ℕ × List ℕ)
list_held ps ss ws a b None st w pas = answer (no-screen ws a b st (λ s. judged s (length w.state) (length w.render) (length w.fills))) (st, w, pas, one 0)
list_held ps ss ws a b (Some s) st w pas = fills-left (fills_listed ps ss ws a b (fill_lent s w pas))

unfoldable pub list_call : List ℕ → List ℕ → List ℕ → ℕ → ℕ → List ℕ → Words → List ℕ → Answer (List ℕ × Words × List ℕ × List ℕ)
list_call ps ss ws a b st w pas = list_held ps ss ws a b (screen_of true st) st w pas

-- .. on what a host lends
abbrev pub unheld_number : Draws → List ℕ → Rows → ℕ
unheld_number d st r = no-screen d.words.now d.start d.end st (rows-judged r)

abbrev pub list_out : StateWords → Lent → ℕ → List ℕ × Words × List ℕ × List ℕ
list_out w t n = (words_in w, rows_in t, t.paint_attrs.now, one n)

abbrev pub list_on : List ℕ → List ℕ → Draws → StateWords → Lent → Answer (List ℕ × Words × List ℕ × List ℕ)
list_on ps ss d w t = list_call ps ss d.words.now d.start d.end (words_in w) (rows_in t) t.paint_attrs.now
