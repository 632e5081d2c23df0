-- What is read of a row on a host's words: how many commands and depth fills it has, each by its number, and how far it is painted. A refusal leaves the result.
use Rattle.std.specs.Prelude.{Option, None, Some, ℕ, ◌+◌, true, List, [], ◌∷◌}
use Rattle.rules.specs.Answers.{Answer, answer}
use Rattle.rules.specs.Spans.{Span}
use Rattle.rules.specs.Commands.{Command, paint-fill, layer-fill, push-buf, pop-buf, DepthFill}
use Rattle.row.specs.Words.{Words}
use Rattle.paint.specs.StoredCmds.{Lengths, lengths-of-row, Gone, command-of-row, depth-of-row, progress-of-row}
use Rattle.host.specs.declared.reading.RowLengthsWords.{RowLengthsWords}
use Rattle.host.specs.declared.reading.RenderCmdWords.{RenderCmdWords}
use Rattle.host.specs.declared.reading.DepthCmdWords.{DepthCmdWords}
use Rattle.host.specs.declared.reading.ProgressWords.{ProgressWords}
use Rattle.host.specs.State.{on}
use Rattle.host.specs.Results.{result}

-- the structs as words
abbrev pub lengths_in : RowLengthsWords → List ℕ
lengths_in l = l.render_cmds ∷ l.depth_cmds ∷ []

abbrev pub cmd_in : RenderCmdWords → List ℕ
cmd_in c = c.tag ∷ c.first ∷ c.end ∷ c.alpha_idx ∷ c.attrs_idx ∷ []

abbrev pub depth_in : DepthCmdWords → List ℕ
depth_in f = f.first ∷ f.end ∷ f.attrs_idx ∷ []

abbrev pub progress_in : ProgressWords → List ℕ
progress_in p = p.steps ∷ p.nesting ∷ []

-- a command's tag, the first tile and the end of its span, its alpha index and its attribute; 0 for what it has none of
abbrev pub fill-parts : ℕ → Span → Option ℕ → ℕ → List ℕ
fill-parts tag s None i = tag ∷ s.first ∷ s.end ∷ 0 ∷ i ∷ []
fill-parts tag s (Some a) i = (tag + 1) ∷ s.first ∷ s.end ∷ a ∷ i ∷ []

abbrev pub cmd-parts : Command → List ℕ
cmd-parts (paint-fill s a i) = fill-parts 1 s a i
cmd-parts (layer-fill s a i) = fill-parts 3 s a i
cmd-parts (push-buf None) = 5 ∷ 0 ∷ 0 ∷ 0 ∷ 0 ∷ []
cmd-parts (push-buf (Some s)) = 6 ∷ s.first ∷ s.end ∷ 0 ∷ 0 ∷ []
cmd-parts pop-buf = 7 ∷ 0 ∷ 0 ∷ 0 ∷ 0 ∷ []

abbrev pub depth-parts : DepthFill → List ℕ
depth-parts f = f.buckets.first ∷ f.buckets.end ∷ f.attribute ∷ []

abbrev pub lengths-parts : Lengths → List ℕ
lengths-parts l = l.commands ∷ l.depths ∷ []

abbrev pub gone-parts : Gone → List ℕ
gone-parts g = g.steps ∷ g.nesting ∷ []

-- of a value that is there
abbrev pub of-some : {A : Type 0} → (A → List ℕ) → Option A → List ℕ
of-some f None = []
of-some f (Some x) = f x

-- a done call's result by its value, else what stood there
abbrev pub read-left : {A : Type 0} → (A → List ℕ) → List ℕ → Answer A → Answer (List ℕ)
read-left f old a = answer a.number (result a.number (f a.value) old)

abbrev pub lengths_call : ℕ → Words → List ℕ → List ℕ → Answer (List ℕ)
lengths_call r t st old = on true st old (λ s. read-left lengths-parts old (lengths-of-row s r t))

abbrev pub cmd_call : ℕ → Words → ℕ → List ℕ → List ℕ → Answer (List ℕ)
cmd_call r t i st old = on true st old (λ s. read-left (of-some cmd-parts) old (command-of-row s r t i))

abbrev pub depth_call : ℕ → Words → ℕ → List ℕ → List ℕ → Answer (List ℕ)
depth_call r t i st old = on true st old (λ s. read-left (of-some depth-parts) old (depth-of-row s r t i))

abbrev pub progress_call : ℕ → List ℕ → List ℕ → List ℕ → Answer (List ℕ)
progress_call r painting st old = on true st old (λ s. read-left gone-parts old (progress-of-row s r painting))
