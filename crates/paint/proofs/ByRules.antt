-- On a row in which nothing is forged a step is the rules' step. Assumes nothing.
use Rattle.std.proofs.Common.{◌≡◌, refl, sym, ap, ◌∙◌, Bool, true, false, cond, List, [], Option, None, Some, ℕ, ◌≤◌, ◌<◌, ◌+◌, ◌-◌, arith, length, get_or, ltb, le-ltb, ltb-true, ltb-false}
use lib.ListN.{length-map, get_or-eq_default}
use Rattle.sizes.specs.declared.width.Width.{Width}
use Rattle.sizes.specs.Widths.{bucket-tiles}
use Rattle.rules.specs.Commands.{Command, paint-fill, layer-fill, push-buf, pop-buf, DepthFill}
use Rattle.rules.specs.Depth.{Summary, write-runs, written}
use Rattle.rules.specs.Rows.{Row}
use Rattle.rules.specs.Attributes.{PaintAttr, LayerAttr, Attrs, no-paint, no-layer}
use Rattle.rules.specs.Painting.{Painter, paint-id, paint-panel, layer-id, layer-panel, no-fill, paint-depth, paint-fill-runs, paint-command, paint-when, paint-step}
use Rattle.rules.specs.Minima.{halvings, mended-runs}
use Rattle.screen.specs.Depths.{Depths, depths}
use Rattle.paint.specs.Painting.{word, paint-at, layer-at, attrs-at, RowLent, words_lent, painter-at, good-command, fill-shown, command-shown, depth-step, command-step, depth-fill-at, command-at, bad-row, fill-minima, next-step, next-minima, painted-row}
use Rattle.paint.specs.Summaries.{summary-at, Sound, Included}
use Rattle.paint.specs.Standing.{step-minima, Stands, PainterReady, Holds}
use Rattle.paint.proofs.Skips.{same_runs, sound-after}
use Rattle.paint.proofs.Judging.{length-count, paint-is, layer-is}

-- attributes that a step cannot tell apart
pub record Same (a b : Attrs) : Type 0 where
  pub paint-count : length a.paints ≡ length b.paints
  pub layer-count : length a.layers ≡ length b.layers
  pub paint-ids : (i : ℕ) → paint-id a i ≡ paint-id b i
  pub layer-ids : (i : ℕ) → layer-id a i ≡ layer-id b i
  pub paint-panels : (i : ℕ) → paint-panel a i ≡ paint-panel b i
  pub layer-panels : (i : ℕ) → layer-panel a i ≡ layer-panel b i

module _ (v : ℕ) (a b : Attrs) (s : Same a b) (p : Painter) where
  same-depth : (f : DepthFill) → paint-depth v a f p ≡ paint-depth v b f p
  unfolding paint-depth
  same-depth f = rw (s.paint-ids f.attribute, s.paint-panels f.attribute)

  same-shown : (u : Summary) (c : Command) → command-shown v a u c p ≡ command-shown v b u c p
  unfolding command-shown fill-shown paint-command
  same-shown u (paint-fill t x i) = rw (s.paint-ids i, s.paint-panels i)
  same-shown u (layer-fill t x i) = rw (s.layer-ids i, s.layer-panels i)
  same-shown u (push-buf t) = refl
  same-shown u pop-buf = refl

  same_good : (n : ℕ) (c : Command) → good-command a n c ≡ good-command b n c
  same_good n (paint-fill t x i) = rw (s.paint-count, s.paint-ids i, s.paint-panels i)
  same_good n (layer-fill t x i) = rw (s.layer-count, s.layer-ids i, s.layer-panels i)
  same_good n (push-buf t) = refl
  same_good n pop-buf = refl

  same-depth-step : (o : Option DepthFill) → depth-step v a p o ≡ depth-step v b p o
  unfolding depth-step
  same-depth-step None = refl
  same-depth-step (Some f) = rw (s.paint-count, s.paint-ids f.attribute, s.paint-panels f.attribute, same-depth f)

  same-command-step : (u : Summary) (o : Option Command) → command-step v a u p o ≡ command-step v b u p o
  unfolding command-step
  same-command-step u None = refl
  same-command-step u (Some c) = rw (same_good p.nesting c, same-shown u c)

same-minima : (a b : Attrs) → Same a b → (d : Depths) (o : Option DepthFill) → fill-minima a d o ≡ fill-minima b d o
unfolding fill-minima
same-minima a b s d None = refl
same-minima a b s d (Some f) = rw (s.paint-ids f.attribute)

pub same_row : (v : ℕ) (a b : Attrs) → Same a b → (w : RowLent) → painted-row v a w ≡ painted-row v b w
unfolding painted-row next-step next-minima
same_row v a b s w =
    let p = painter-at w.depth.words w.painting in
    rw (same-depth-step v a b s p, same-command-step v a b s p (summary-at w.state), same-minima a b s w.depth)

-- the tables' attributes are such
module _ (a : Attrs) (ps : List ℕ) (paints : ℕ) (ls : List ℕ) (layers : ℕ) (h : Holds a ps paints ls layers) where
  length-paints : length (attrs-at ps paints ls layers).paints ≡ paints
  unfolding attrs-at
  length-paints = rw (length-map) (length-count 0 paints)

  length-layers : length (attrs-at ps paints ls layers).layers ≡ layers
  unfolding attrs-at
  length-layers = rw (length-map) (length-count 0 layers)

  -- what is read of an attribute that is there, and of one that is not
  module _ (f : PaintAttr → ℕ) (e : (i : ℕ) → i < paints → f (paint-at ps i) ≡ f (get_or a.paints i no-paint)) where
    past-paint : (b : Attrs) (i : ℕ) → length b.paints ≤ i → f (get_or b.paints i no-paint) ≡ f no-paint
    past-paint b i q = ap f (get_or-eq_default b.paints no-paint q)

    same-of-paint : (i : ℕ) → f (get_or (attrs-at ps paints ls layers).paints i no-paint) ≡ f (get_or a.paints i no-paint)
    same-of-paint i = go (ltb i paints) refl
      where
        go : (t : Bool) → ltb i paints ≡ t → f (get_or (attrs-at ps paints ls layers).paints i no-paint) ≡ f (get_or a.paints i no-paint)
        go true q = let g = ltb-true i paints q in ap f (paint-is ps paints ls layers i g) ∙ e i g
        go false q =
            let g = ltb-false i paints q in
            past-paint (attrs-at ps paints ls layers) i (rw length-paints g)
            ∙ sym (past-paint a i (omega (arith, h.paint-count)))

  module _ (f : LayerAttr → ℕ) (e : (i : ℕ) → i < layers → f (layer-at ls i) ≡ f (get_or a.layers i no-layer)) where
    past-layer : (b : Attrs) (i : ℕ) → length b.layers ≤ i → f (get_or b.layers i no-layer) ≡ f no-layer
    past-layer b i q = ap f (get_or-eq_default b.layers no-layer q)

    same-of-layer : (i : ℕ) → f (get_or (attrs-at ps paints ls layers).layers i no-layer) ≡ f (get_or a.layers i no-layer)
    same-of-layer i = go (ltb i layers) refl
      where
        go : (t : Bool) → ltb i layers ≡ t → f (get_or (attrs-at ps paints ls layers).layers i no-layer) ≡ f (get_or a.layers i no-layer)
        go true q = let g = ltb-true i layers q in ap f (layer-is ps paints ls layers i g) ∙ e i g
        go false q =
            let g = ltb-false i layers q in
            past-layer (attrs-at ps paints ls layers) i (rw length-layers g)
            ∙ sym (past-layer a i (omega (arith, h.layer-count)))

  pub held : Same (attrs-at ps paints ls layers) a
  held =
      record {
        paint-count = length-paints ∙ h.paint-count;
        layer-count = length-layers ∙ h.layer-count;
        paint-ids = same-of-paint (λ (x : PaintAttr). x.id) h.paint-ids;
        layer-ids = same-of-layer (λ (x : LayerAttr). x.id) h.layer-ids;
        paint-panels = same-of-paint (λ (x : PaintAttr). x.panel) h.paint-panels;
        layer-panels = same-of-layer (λ (x : LayerAttr). x.panel) h.layer-panels;
      }

-- where the summary is sound a command is the rules'
pub by-summary : (width : Width) (a : Attrs) (u : Summary) (c : Command) (p : Painter) → Sound (bucket-tiles width) u p.buckets
    → command-shown (bucket-tiles width) a u c p ≡ paint-command (bucket-tiles width) a c p
unfolding command-shown fill-shown paint-command paint-fill-runs
by-summary width a u (paint-fill t x i) p o = rw (same_runs width u p.buckets o (paint-id a i) t)
by-summary width a u (layer-fill t x i) p o = rw (same_runs width u p.buckets o (layer-id a i) t)
by-summary width a u (push-buf t) p o = refl
by-summary width a u pop-buf p o = refl

-- the words of a row stand for it, the painter is within it, and its summary is sound
module _ (width : Width) (a : Attrs) (r : Row) (s re fi D M P l : List ℕ) (g : Stands a (length D) r s re fi) (q : PainterReady a r (painter-at D P))
    (o : Sound (bucket-tiles width) (summary-at s) D) where
  abbrev v : ℕ
  v = bucket-tiles width

  good : bad-row (words_lent s re fi (depths D M) P l) ≡ false
  good =
      rw (g.renders, g.depths, le-ltb _ _ g.few-renders, le-ltb _ _ g.few-depths, le-ltb _ _ q.shallow, le-ltb _ _ q.steps-left, g.summary)

  depth-place : word P 0 < length r.fills
      → depth-step v a (painter-at D P) (depth-fill-at (length D) fi (length r.fills - (word P 0 + 1)))
      ≡ Some (paint-depth v a (get_or r.fills (length r.fills - (word P 0 + 1)) no-fill) (painter-at D P))
  unfolding depth-step
  depth-place h =
      let k : length r.fills - (word P 0 + 1) < length r.fills = omega arith in
      rw (g.fills-at _ k, g.good-fills _ k)

  command-place : length r.fills ≤ word P 0 → word P 0 - length r.fills < length r.commands
      → command-step v a (summary-at s) (painter-at D P) (command-at re (word P 0 - length r.fills))
      ≡ Some (paint-command v a (get_or r.commands (word P 0 - length r.fills) pop-buf) (painter-at D P))
  unfolding command-step
  command-place m h = rw (g.commands-at _ h, q.good-next m h, by-summary width a (summary-at s) (get_or r.commands (word P 0 - length r.fills) pop-buf) (painter-at D P) o)

  pub next : next-step v a (words_lent s re fi (depths D M) P l) ≡ Some (paint-step v a r (painter-at D P))
  unfolding next-step paint-step paint-when
  next = rw (good, g.depths, g.renders) (go (ltb (word P 0) (length r.fills)) (ltb (word P 0 - length r.fills) (length r.commands)) refl refl)
    where
      p : Painter
      p = painter-at D P

      go : (t u : Bool) → ltb (word P 0) (length r.fills) ≡ t → ltb (word P 0 - length r.fills) (length r.commands) ≡ u
          → cond t (depth-step v a p (depth-fill-at (length D) fi (length r.fills - (word P 0 + 1))))
          (cond u (command-step v a (summary-at s) p (command-at re (word P 0 - length r.fills)))
          (Some (record { finished = true; pieces = []; painter = p })))
          ≡ Some (paint-when v a t u r p)
      go true u e f = depth-place (ltb-true _ _ e)
      go false true e f = command-place (ltb-false _ _ e) (ltb-true _ _ f)
      go false false e f = refl

  pub next-mended : next-minima a (words_lent s re fi (depths D M) P l) ≡ step-minima a r (painter-at D P) M
  unfolding next-minima fill-minima step-minima
  next-mended = rw g.depths (go (ltb (word P 0) (length r.fills)) refl)
    where
      f : DepthFill
      f = get_or r.fills (length r.fills - (word P 0 + 1)) no-fill

      go : (t : Bool) → ltb (word P 0) (length r.fills) ≡ t
          → cond t (fill-minima a (depths D M) (depth-fill-at (length D) fi (length r.fills - (word P 0 + 1)))) M
          ≡ cond t (mended-runs (halvings (length D)) M (written D (paint-id a f.attribute) f.buckets) (write-runs D f.buckets)) M
      go true e =
          let h = ltb-true _ _ e in
          let k : length r.fills - (word P 0 + 1) < length r.fills = omega arith in
          rw (g.fills-at _ k)
      go false e = refl

-- Painting keeps the summary of a row sound, if it includes each of the row's depth fills.
abbrev pub AllIncluded : ℕ → Attrs → Summary → Row → Type 0
AllIncluded v a u r = (k : ℕ) → k < length r.fills
    → Included v u (get_or r.fills k no-fill).buckets (paint-id a (get_or r.fills k no-fill).attribute)

module _ (v : ℕ) (a : Attrs) (u : Summary) (r : Row) (p : Painter) (o : Sound v u p.buckets) where
  sound-command : (c : Command) → Sound v u (paint-command v a c p).painter.buckets
  unfolding paint-command paint-fill-runs
  sound-command (paint-fill t x i) = o
  sound-command (layer-fill t x i) = o
  sound-command (push-buf t) = o
  sound-command pop-buf = o

  pub sound-step : AllIncluded v a u r → Sound v u (paint-step v a r p).painter.buckets
  unfolding paint-step paint-when paint-depth
  sound-step n = go (ltb p.steps (length r.fills)) (ltb (p.steps - length r.fills) (length r.commands)) refl
    where
      go : (t x : Bool) → ltb p.steps (length r.fills) ≡ t → Sound v u (paint-when v a t x r p).painter.buckets
      go true x e =
          let h : p.steps < length r.fills = ltb-true _ _ e in
          sound-after v u p.buckets o _ _ (n (length r.fills - (p.steps + 1)) (omega arith))
      go false true e = sound-command _
      go false false e = o
