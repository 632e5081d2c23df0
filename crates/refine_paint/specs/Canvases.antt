-- The words of a canvas of the rules: its rows' painters one after the other.
use Rattle.std.specs.Prelude.{ℕ, ◌<◌, ◌≡◌, true, List, [], ◌∷◌, length, get_or}
use Rattle.sizes.specs.Sizes.{paint-attr-table, layer-attr-table}
use Rattle.rules.specs.Lists.{join, is-empty}
use Rattle.rules.specs.Answers.{Answer, answer}
use Rattle.rules.specs.Spans.{Span}
use Rattle.rules.specs.Rows.{Row, fresh-row}
use Rattle.screen.specs.Attributes.{paint-attr-words}
use Rattle.screen.specs.Depths.{Depths, depths}
use Rattle.rules.specs.Plans.{buckets-across}
use Rattle.rules.specs.Steps.{Screen}
use Rattle.rules.specs.Painting.{Painter, Painted, begin}
use Rattle.rules.specs.Calls as rule
use Rattle.rules.specs.Minima.{summary}
use Rattle.rules.proofs.All.{All}
use Rattle.refine_steps.specs.Sound.{Sound}
use Rattle.refine_steps.specs.Lent.{screen-of, table, attr-words, rows_of}
use Rattle.depth.specs.Listing.{listing}
use Rattle.cmd.specs.Pieces.{laid}
use Rattle.paint.specs.Painting.{RowLent, words_lent, StepOut, out}
use Rattle.paint.specs.Stepping.{Attributes, attributes}
use Rattle.paint.specs.Beginning.{Canvas, canvas}
use Rattle.paint.specs.DirectRuns.{Wrote}
use Rattle.refine_paint.specs.Fair.{FairRows}
use Rattle.refine_paint.specs.Painters.{Going}

abbrev pub buckets-in : Painter → List ℕ
buckets-in p = p.buckets

-- the minima above a row's depth words: their summary
abbrev pub minima-in : Painter → List ℕ
minima-in p = summary p.buckets

-- steps done, nesting
abbrev pub standing-in : Painter → List ℕ
standing-in p = p.steps ∷ p.nesting ∷ []

-- the depth words with the minima above them, and the painting words
abbrev pub depth-of : List Painter → Depths
depth-of ps = depths (join buckets-in ps) (join minima-in ps)

abbrev pub painting-of : List Painter → List ℕ
painting-of ps = join standing-in ps

abbrev pub canvas-of : rule.Canvas → Canvas
canvas-of k = canvas (screen-of k.screen.state k.begun) (depth-of k.painters) (painting-of k.painters)

-- a sound screen with fair rows, a painter for each, and where painting has begun no layer is open and each goes on
pub record WholeCanvas (k : rule.Canvas) : Type 0 where
  pub sound : Sound k.screen
  pub fair : FairRows k.screen
  pub count : length k.painters ≡ length k.screen.rows
  pub wide : All (λ (p : Painter). length p.buckets ≡ buckets-across k.screen.state.frame) k.painters
  pub closed : k.begun ≡ true → is-empty k.screen.state.layers ≡ true
  pub going : k.begun ≡ true → (i : ℕ) → i < length k.screen.rows
      → Going (rule.bucket-on k) (buckets-across k.screen.state.frame) (get_or k.screen.rows i fresh-row) (get_or k.painters i (begin 0))

-- what a painting step of the rules gives, as words: the answer, the depth words and minima, the painting words, the list
abbrev pub given_out : Answer (rule.Given Painted) → List ℕ → StepOut
given_out g l =
    let o = g.value.result in
    let k = g.value.canvas in
    out (record { number = g.number; finished = o.finished; pieces = length o.pieces }) (depth-of k.painters) (painting-of k.painters) (laid o.pieces l)

-- what a writing run of the rules gives, as words: the answer and the list, the screen, the depth words and minima
abbrev pub wrote_of : Answer (rule.Given (List Span)) → List ℕ → Wrote
wrote_of g l =
    let k = g.value.canvas in
    record { listed = listing (answer g.number g.value.result) l; screen = screen-of k.screen.state k.begun; depth = depth-of k.painters }

-- the attribute tables, and the words of the rows, of their painting, and of a list
abbrev pub attributes-of : Screen Row → Attributes
attributes-of s = attributes (table 0 paint-attr-table (join paint-attr-words s.state.attrs.paints)) (table 0 layer-attr-table (join attr-words s.state.attrs.layers))

abbrev pub words_of : rule.Canvas → List ℕ → RowLent
words_of k l =
    words_lent (rows_of k.screen).state (rows_of k.screen).render (rows_of k.screen).fills (depth-of k.painters) (painting-of k.painters) l
