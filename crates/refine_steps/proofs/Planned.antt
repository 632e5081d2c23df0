-- The plans of a fill, a push and a filter fill from the screen's numbers are alike the rules'. Assumes nothing.
use Rattle.std.proofs.Common.{◌≡◌, refl, sym, ap, Bool, true, false, not, cond, List, [], ◌∷◌, ◌++◌, append-nil, ℕ, suc, length, replicate}
use Rattle.rules.specs.Lists.{is-empty}
use Rattle.rules.specs.Answers.{Done, BadRecord}
use Rattle.rules.specs.Boxes.{Box}
use Rattle.rules.specs.Segments.{Segment}
use Rattle.rules.specs.Inputs.{Paint, Draw, draw-segments, Props, good-props, Filter, good-filter-fill}
use Rattle.rules.specs.Plans.{State, still, box_of, with-paint, plan-fill, plan-push, filter-box, draws-nothing, filter-paint, plan-filter-in, plan-filter}
use Rattle.rules.specs.Attributes.{Attrs, no-paint, no-layer}
use Rattle.screen.specs.Screens.{some-filter, state-of}
use Rattle.screen.proofs.ScreenLaws.{paint-count, filter-count, layer-count}
use Rattle.refine_steps.specs.Lent.{screen-of}
use Rattle.refine_steps.proofs.Alike.{Grown, grown-length, Alike, box-same, empty-same}

-- the attributes with a draw's
abbrev pub painted : State → Draw → Attrs
painted s d = with-paint s d.paint d.blend d.mask d.thread d.panel []

-- nothing new
pub same-grown : {A : Type 0} (z : A) (old : List A) → Grown z old (replicate (length old) z) old
same-grown z old = record { new = []; given = sym (append-nil (replicate (length old) z)); ours = sym (append-nil old) }

more-grown : {A : Type 0} (z : A) (old new : List A) → Grown z old (replicate (length old) z ++ new) (old ++ new)
more-grown z old new = record { new = new; given = refl; ours = refl }

module _ (s : State) (b : Bool) where
  layers-length : length (state-of (screen-of s b)).layers ≡ length s.layers
  layers-length = layer-count (screen-of s b)

  still_alike : (n : ℕ) → Alike s (still n (state-of (screen-of s b))) (still n s)
  unfolding state-of
  still_alike n =
      record {
        refused = refl;
        next = refl;
        puts = refl;
        deep = layers-length;
        clip = box-same s b;
        paints = same-grown no-paint s.attrs.paints;
        layers = grown-length (same-grown no-layer s.attrs.layers);
        filters = same-grown some-filter s.attrs.filters;
      }

  filter-in-alike : (x : Box) (count : ℕ) (f : Filter) (q : ℕ) → Alike s (plan-filter-in x count f q (state-of (screen-of s b))) (plan-filter-in x count f q s)
  unfolding plan-filter-in state-of
  filter-in-alike x count f q =
      let e : length (state-of (screen-of s b)).attrs.filters ≡ length s.attrs.filters = filter-count (screen-of s b) in
      let g : length (state-of (screen-of s b)).attrs.paints ≡ length s.attrs.paints = paint-count (screen-of s b) in
      record {
        refused = refl;
        next = refl;
        puts = rw g;
        deep = layers-length;
        clip = box-same s b;
        paints = rw e (more-grown no-paint s.attrs.paints _);
        layers = grown-length (same-grown no-layer s.attrs.layers);
        filters = more-grown some-filter s.attrs.filters (filter-paint f ∷ []);
      }

  pub filter_alike : (count : ℕ) (f : Filter) (q : ℕ) → Alike s (plan-filter count f q (state-of (screen-of s b))) (plan-filter count f q s)
  unfolding plan-filter state-of
  filter_alike count f q = rw (box-same s b) (go (not (good-filter-fill count f q)) (draws-nothing f (filter-box s.frame.viewport (box_of s) f)))
    where
      go : (t u : Bool)
          → Alike s
          (cond t (still BadRecord (state-of (screen-of s b))) (cond u (still Done (state-of (screen-of s b))) (plan-filter-in (filter-box s.frame.viewport (box_of s) f) count f q (state-of (screen-of s b)))))
          (cond t (still BadRecord s) (cond u (still Done s) (plan-filter-in (filter-box s.frame.viewport (box_of s) f) count f q s)))
      go true u = still_alike BadRecord
      go false true = still_alike Done
      go false false = filter-in-alike (filter-box s.frame.viewport (box_of s) f) count f q

  fill-attrs : (e : Bool) (d : Draw)
      → Grown no-paint s.attrs.paints (cond e (state-of (screen-of s b)).attrs (painted (state-of (screen-of s b)) d)).paints
      (cond e s.attrs (painted s d)).paints
  unfolding state-of
  fill-attrs true d = same-grown no-paint s.attrs.paints
  fill-attrs false d = more-grown no-paint s.attrs.paints _

  fill-layers : (e : Bool) (d : Draw)
      → Grown no-layer s.attrs.layers (cond e (state-of (screen-of s b)).attrs (painted (state-of (screen-of s b)) d)).layers
      (cond e s.attrs (painted s d)).layers
  unfolding state-of
  fill-layers true d = same-grown no-layer s.attrs.layers
  fill-layers false d = same-grown no-layer s.attrs.layers

  fill-filters : (e : Bool) (d : Draw)
      → Grown some-filter s.attrs.filters (cond e (state-of (screen-of s b)).attrs (painted (state-of (screen-of s b)) d)).filters
      (cond e s.attrs (painted s d)).filters
  unfolding state-of
  fill-filters true d = same-grown some-filter s.attrs.filters
  fill-filters false d = more-grown some-filter s.attrs.filters []

  pub fill-alike : (ps : List Paint) (ss : List Segment) (d : Draw) → Alike s (plan-fill ps ss d (state-of (screen-of s b))) (plan-fill ps ss d s)
  unfolding plan-fill state-of
  fill-alike ps ss d =
      let e : length (state-of (screen-of s b)).attrs.paints ≡ length s.attrs.paints = paint-count (screen-of s b) in
      record {
        refused = refl;
        next = refl;
        puts = rw (empty-same s b, e, box-same s b);
        deep = layers-length;
        clip = box-same s b;
        paints = fill-attrs (is-empty (draw-segments ss d)) d;
        layers = grown-length (fill-layers (is-empty (draw-segments ss d)) d);
        filters = fill-filters (is-empty (draw-segments ss d)) d;
      }

  -- p and q differ in nothing that the rows or the judging tell
  pub push-alike : (p q : Props) → good-props p ≡ good-props q → p.blend ≡ q.blend → p.clip ≡ q.clip → Alike s (plan-push p (state-of (screen-of s b))) (plan-push q s)
  unfolding plan-push state-of
  push-alike p q g e c =
      record {
        refused = rw g;
        next = refl;
        puts = rw (e, c, box-same s b);
        deep = ap suc layers-length;
        clip = rw (c, box-same s b);
        paints = same-grown no-paint s.attrs.paints;
        layers = grown-length (same-grown no-layer s.attrs.layers);
        filters = same-grown some-filter s.attrs.filters;
      }
