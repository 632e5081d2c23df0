-- What callers may use of a row's step. Assumes nothing.
use Rattle.std.proofs.Common.{◌≡◌, refl, ap, ◌∙◌, Bool, true, false, cond, List, [], ◌∷◌, Option, None, Some, ℕ, suc, ◌+◌, ◌-◌, ◌/◌, length, ltb}
use Rattle.sizes.specs.declared.width.Width.{Width}
use Rattle.sizes.specs.Sizes.{piece-size}
use Rattle.sizes.specs.Widths.{bucket-tiles}
use Rattle.rules.specs.Spans.{Span}
use Rattle.rules.specs.Commands.{Command, paint-fill, layer-fill, push-buf, pop-buf, DepthFill}
use Rattle.cmd.specs.Reading.{only_if}
use Rattle.rules.specs.Depth.{Summary, written_from, written}
use Rattle.rules.specs.Rows.{Row}
use Rattle.rules.specs.Attributes.{Attrs}
use Rattle.rules.specs.Painting as rules
use Rattle.rules.specs.Painting.{paint-depth, paint-command, paint-step}
use Rattle.rules.specs.Minima.{minima-room}
use Rattle.screen.specs.Depths.{Depths, depths}
use Rattle.paint.specs.Painting.{word, attrs-at, RowLent, words_lent, StepOut, out, painter-at, good-paint, good-command, fill-shown, command-shown, depth-step, command-step, depth-fill-at, command-at, bad-row, refused, left, fill-minima, next-step, next-minima, settled, painted-row}
use Rattle.paint.specs.Summaries.{summary-at, Sound}
use Rattle.paint.specs.Standing.{Stands, PainterReady, Holds, step-minima}
use Rattle.paint.proofs.ByRules.{held, same_row, next, next-mended}
use Rattle.paint.proofs.Mended.{length-mends}

-- Nothing is forged, and the summary is sound for the depth words: the step is the rules' step of the row. It is refused, by 14, only if the list is shorter than its pieces.
module _ (width : Width) (a : Attrs) (ps : List ℕ) (paints : ℕ) (ls : List ℕ) (layers : ℕ) (h : Holds a ps paints ls layers)
    (r : Row) (s re fi D M P l : List ℕ) (g : Stands a (length D) r s re fi) (q : PainterReady a r (painter-at D P))
    (o : Sound (bucket-tiles width) (summary-at s) D) where
  abbrev v : ℕ
  v = bucket-tiles width

  stands : painted-row v a (words_lent s re fi (depths D M) P l) ≡ settled (Some (paint-step v a r (painter-at D P))) (step-minima a r (painter-at D P) M) (depths D M) P l
  unfolding painted-row
  stands = rw (next width a r s re fi D M P l g q o, next-mended width a r s re fi D M P l g q o)

  pub by-rules : painted-row v (attrs-at ps paints ls layers) (words_lent s re fi (depths D M) P l) ≡ settled (Some (paint-step v a r (painter-at D P))) (step-minima a r (painter-at D P) M) (depths D M) P l
  by-rules = same_row v (attrs-at ps paints ls layers) a (held a ps paints ls layers h) (words_lent s re fi (depths D M) P l) ∙ stands

-- A step leaves as many depth words and minima as there were, and two painting words.
length-written : (id : ℕ) (r : Span) (i : ℕ) (bs : List ℕ) → length (written_from i id r bs) ≡ length bs
length-written id r i [] = refl
length-written id r i (b ∷ bs) = ap suc (length-written id r (suc i) bs)

abbrev Long : ℕ → Option rules.Painted → Type 0
Long n None = Unit
Long n (Some o) = length o.painter.buckets ≡ n

long-if : (n : ℕ) (t : Bool) (o : rules.Painted) → length o.painter.buckets ≡ n → Long n (only_if t o)
long-if n true o h = h
long-if n false o h = tt

module _ (v : ℕ) (a : Attrs) (u : Summary) (p : rules.Painter) where
  long-depth : (o : Option DepthFill) → Long (length p.buckets) (depth-step v a p o)
  unfolding depth-step paint-depth written
  long-depth None = tt
  long-depth (Some f) = long-if _ (good-paint a f.attribute) _ (length-written (rules.paint-id a f.attribute) f.buckets 0 p.buckets)

  long-shown : (c : Command) → length (command-shown v a u c p).painter.buckets ≡ length p.buckets
  unfolding command-shown fill-shown paint-command
  long-shown (paint-fill t x i) = refl
  long-shown (layer-fill t x i) = refl
  long-shown (push-buf t) = refl
  long-shown pop-buf = refl

  long-command : (o : Option Command) → Long (length p.buckets) (command-step v a u p o)
  unfolding command-step
  long-command None = tt
  long-command (Some c) = long-if _ (good-command a p.nesting c) _ (long-shown c)

long-next : (v : ℕ) (a : Attrs) (w : RowLent) → Long (length w.depth.words) (next-step v a w)
unfolding next-step
long-next v a w = go (bad-row w) (ltb p.steps (word w.state 1)) (ltb (p.steps - word w.state 1) (word w.state 0))
  where
    p : rules.Painter
    p = painter-at w.depth.words w.painting

    go : (t y x : Bool)
        → Long (length w.depth.words)
        (cond t None
        (cond y (depth-step v a p (depth-fill-at (length w.depth.words) w.fills (word w.state 1 - (p.steps + 1))))
        (cond x (command-step v a (summary-at w.state) p (command-at w.render (p.steps - word w.state 1)))
        (Some (record { finished = true; pieces = []; painter = p })))))
    go true y x = tt
    go false true x = long-depth v a (summary-at w.state) p _
    go false false true = long-command v a (summary-at w.state) p _
    go false false false = refl

long-fill : (a : Attrs) (d : Depths) → length d.minima ≡ minima-room (length d.words) → (o : Option DepthFill) → length (fill-minima a d o) ≡ length d.minima
unfolding fill-minima
long-fill a d e None = refl
long-fill a d e (Some f) = length-mends d.words d.minima (written d.words (rules.paint-id a f.attribute) f.buckets) f.buckets e

long-minima : (a : Attrs) (w : RowLent) → length w.depth.minima ≡ minima-room (length w.depth.words) → length (next-minima a w) ≡ length w.depth.minima
unfolding next-minima
long-minima a w e = go (ltb (word w.painting 0) (word w.state 1))
  where
    f : Option DepthFill
    f = depth-fill-at (length w.depth.words) w.fills (word w.state 1 - (word w.painting 0 + 1))

    go : (t : Bool) → length (cond t (fill-minima a w.depth f) w.depth.minima) ≡ length w.depth.minima
    go true = long-fill a w.depth e f
    go false = refl

abbrev pub SameLong : StepOut → Depths → Type 0
SameLong o d = (length o.depth.words ≡ length d.words) × (length o.depth.minima ≡ length d.minima) × (length o.painting ≡ 2)

settled-long : (o : Option rules.Painted) (ms : List ℕ) (d : Depths) (p l : List ℕ) → length p ≡ 2 → length ms ≡ length d.minima → Long (length d.words) o
    → SameLong (settled o ms d p l) d
unfolding settled
settled-long None ms d p l e m h = (refl, refl, e)
settled-long (Some o) ms d p l e m h = go (ltb (length l / piece-size) (length o.pieces))
  where
    go : (t : Bool) → SameLong (cond t (out (refused 14) d p l) (left o ms l)) d
    go true = (refl, refl, e)
    go false = (h, m, refl)

pub same-lengths : (v : ℕ) (a : Attrs) (w : RowLent) → length w.depth.minima ≡ minima-room (length w.depth.words) → length w.painting ≡ 2
    → SameLong (painted-row v a w) w.depth
unfolding painted-row
same-lengths v a w m e = settled-long (next-step v a w) (next-minima a w) w.depth w.painting w.list e (long-minima a w m) (long-next v a w)
