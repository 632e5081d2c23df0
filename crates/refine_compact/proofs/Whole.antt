-- A compacted row is as sound and as fair as the row, so that each next call at the canvas' words is the rules'. Assumes nothing.
use Rattle.std.proofs.Common.{◌≡◌, refl, sym, ap, ◌∙◌, Bool, true, false, not, Option, List, [], ◌∷◌, ◌++◌, ℕ, suc, ◌-◌, ◌≤◌, ◌<◌, arith, leb, eqb, length, get_or, set, length-set, get_or-set_same, get_or-set_other, leb-false, eqb-true}
use borrow.Author.Tests.{eqb-false}
use Rattle.rules.specs.Lists.{is-empty}
use Rattle.rules.specs.Answers.{settle, first_of, BadRun, Open}
use Rattle.rules.specs.Attributes.{Attrs}
use Rattle.rules.specs.Spans.{Span}
use Rattle.rules.specs.Commands.{Command, paint-fill, layer-fill, push-buf, pop-buf}
use Rattle.rules.specs.Rows.{Row, fresh-row}
use Rattle.rules.specs.Plans.{bucket, buckets-across}
use Rattle.rules.specs.Steps.{Screen}
use Rattle.rules.specs.Calls.{Canvas}
use Rattle.rules.specs.Compacted.{newest-ids, is-hidden, a-fill, a-buffer, Removes, nothing, one-more, compact, compact-screen, compact-call}
use Rattle.rules.proofs.All.{never}
use Rattle.rules_picture.proofs.Compacted.{removed-one-by-one, less-room}
use Rattle.rules_picture.proofs.CompactedFollows.{removes-all}
use Rattle.rules_picture.proofs.Ranged.{all_set}
use Rattle.refine_row.specs.Encode.{Fine}
use Rattle.refine_layers.specs.Touched.{levels-at}
use Rattle.refine_steps.specs.Sound.{Fitting, Sound}
use Rattle.refine_paint.specs.Fair.{Nested, nesting-after, Fair, FairRows}
use Rattle.refine_paint.specs.Canvases.{WholeCanvas}
use Rattle.refine_paint.proofs.Kept.{fine-at}

-- What is taken out changes no nesting.
module _ (w : ℕ) (a : Attrs) (bs : List ℕ) where
  nested-front : (front ds es : List Command) → ((m : ℕ) → Nested m ds → Nested m es) → (m : ℕ) → Nested m (front ++ ds) → Nested m (front ++ es)
  nested-front [] ds es h m g = h m g
  nested-front (paint-fill s x i ∷ front) ds es h m g = nested-front front ds es h m g
  nested-front (layer-fill s x i ∷ front) ds es h m g = nested-front front ds es h m g
  nested-front (push-buf s ∷ front) ds es h m g = (g.0, nested-front front ds es h (suc m) g.1)
  nested-front (pop-buf ∷ front) ds es h m g = (g.0, nested-front front ds es h (m - 1) g.1)

  nested-hidden : (c : Command) (cs : List Command) → is-hidden w a bs c ≡ true → (m : ℕ) → Nested m (c ∷ cs) → Nested m cs
  nested-hidden (paint-fill s x i) cs e m g = g
  nested-hidden (layer-fill s x i) cs e m g = g
  nested-hidden (push-buf s) cs e m g = never (sym e)
  nested-hidden pop-buf cs e m g = never (sym e)

  nested-cancelled : (s : Option Span) (cs : List Command) (m : ℕ) → Nested m (push-buf s ∷ pop-buf ∷ cs) → Nested m cs
  nested-cancelled s cs m g = let z : suc m - 1 ≡ m = omega arith in rw z at g.1.1

  removes-nested : {cs ds : List Command} → Removes w a bs cs ds → Nested 0 cs → Nested 0 ds
  removes-nested nothing g = g
  removes-nested (one-more (a-fill front back c e) xs) g = removes-nested xs (nested-front front (c ∷ back) back (nested-hidden c back e) 0 g)
  removes-nested (one-more (a-buffer front back s) xs) g = removes-nested xs (nested-front front (push-buf s ∷ pop-buf ∷ back) back (nested-cancelled s back) 0 g)

  after-front : (front ds es : List Command) → ((m : ℕ) → nesting-after m ds ≡ nesting-after m es) → (m : ℕ) → nesting-after m (front ++ ds) ≡ nesting-after m (front ++ es)
  after-front [] ds es h m = h m
  after-front (paint-fill s x i ∷ front) ds es h m = after-front front ds es h m
  after-front (layer-fill s x i ∷ front) ds es h m = after-front front ds es h m
  after-front (push-buf s ∷ front) ds es h m = after-front front ds es h (suc m)
  after-front (pop-buf ∷ front) ds es h m = after-front front ds es h (m - 1)

  after-hidden : (c : Command) (cs : List Command) → is-hidden w a bs c ≡ true → (m : ℕ) → nesting-after m cs ≡ nesting-after m (c ∷ cs)
  after-hidden (paint-fill s x i) cs e m = refl
  after-hidden (layer-fill s x i) cs e m = refl
  after-hidden (push-buf s) cs e m = never (sym e)
  after-hidden pop-buf cs e m = never (sym e)

  after-cancelled : (s : Option Span) (cs : List Command) (m : ℕ) → nesting-after m cs ≡ nesting-after m (push-buf s ∷ pop-buf ∷ cs)
  after-cancelled s cs m = let z : suc m - 1 ≡ m = omega arith in rw z refl

  removes-after : {cs ds : List Command} → Removes w a bs cs ds → nesting-after 0 ds ≡ nesting-after 0 cs
  removes-after nothing = refl
  removes-after (one-more (a-fill front back c e) xs) = removes-after xs ∙ after-front front back (c ∷ back) (after-hidden c back e) 0
  removes-after (one-more (a-buffer front back s) xs) = removes-after xs ∙ after-front front back (push-buf s ∷ pop-buf ∷ back) (after-cancelled s back) 0

none-of : {A : Type 0} (xs : List A) → length xs ≤ 0 → xs ≡ []
none-of [] e = refl
none-of (x ∷ xs) e = absurd (omega arith)

module _ (v n : ℕ) (a : Attrs) (r : Row) where
  compact-fair : Fair v a n r → Fair v a n (compact v n a r)
  compact-fair f =
      let bs = newest-ids a n r.fills in
      let x = removed-one-by-one v n a r in
      record {
        commands = removes-all v a bs x f.commands;
        fills = f.fills;
        unions = f.unions;
        nested = removes-nested v a bs x f.nested;
        levels = removes-after v a bs x ∙ f.levels;
      }

  compact-fitting : {c d : ℕ} → Fitting c d r → Fitting c d (compact v n a r)
  compact-fitting f = let h = less-room v n a r in record { commands = omega (arith, f.commands); fills = f.fills; sane = record { unions = f.sane.unions; depth = f.sane.depth; largest = f.sane.largest } }

  -- no buffer of it is open
  compact-fine : r.levels ≡ [] → Fine r → Fine (compact v n a r)
  compact-fine e f = record { few = f.few; spans = f.spans; summary = f.summary; places = rw e tt }

-- a screen on which no layer is open, row i compacted
module _ (s : Screen Row) (o : Sound s) (g : FairRows s) (i : ℕ) (z : s.state.layers ≡ []) (h : i < length s.rows) where
  abbrev r : Row
  r = get_or s.rows i fresh-row

  abbrev q : Row
  q = compact (bucket s.state.frame) (buckets-across s.state.frame) s.state.attrs r

  -- what holds of the rows, and of row i compacted, holds of the rows then
  at-rows : (P : Row → Type 0) → ((j : ℕ) → P (get_or s.rows j fresh-row)) → P q → (j : ℕ) → P (get_or (set s.rows i q) j fresh-row)
  at-rows P old new j = go (eqb j i) refl
    where
      go : (t : Bool) → eqb j i ≡ t → P (get_or (set s.rows i q) j fresh-row)
      go true e = rw (eqb-true j i e, get_or-set_same s.rows i q fresh-row h) new
      go false e = rw (get_or-set_other s.rows i j q fresh-row (eqb-false j i e)) (old j)

  no-levels : r.levels ≡ []
  no-levels = let m = (o.reaching.rows i).few in none-of r.levels (let e : length s.state.layers ≡ 0 = ap length z in omega arith)

  levels-same : (j : ℕ) → levels-at (set s.rows i q) j ≡ levels-at s.rows j
  levels-same j = go (eqb j i) refl
    where
      go : (t : Bool) → eqb j i ≡ t → levels-at (set s.rows i q) j ≡ levels-at s.rows j
      go true e = rw (eqb-true j i e, get_or-set_same s.rows i q fresh-row h) refl
      go false e = rw (get_or-set_other s.rows i j q fresh-row (eqb-false j i e)) refl

  compact-fair-rows : FairRows (compact-screen i s)
  compact-fair-rows =
      at-rows (λ (x : Row). Fair (bucket s.state.frame) s.state.attrs (buckets-across s.state.frame) x) g
      (compact-fair (bucket s.state.frame) (buckets-across s.state.frame) s.state.attrs r (g i))

  compact-sound : Sound (compact-screen i s)
  compact-sound =
      record {
        built = record {
          framed = o.built.framed;
          fine = all_set o.built.fine i q (compact-fine (bucket s.state.frame) (buckets-across s.state.frame) s.state.attrs r no-levels (fine-at o.built.fine i));
        };
        reaching = record {
          nested = o.reaching.nested;
          rows = λ j. rw (levels-same j) (o.reaching.rows j);
        };
        viewport = o.viewport;
        c-room = o.c-room;
        d-room = o.d-room;
        some_id = o.some_id;
        ids = o.ids;
        attrs = o.attrs;
        deep = o.deep;
        layers = o.layers;
        count = length-set s.rows i q ∙ o.count;
        rows = at-rows (λ (x : Row). Fitting s.state.frame.c s.state.frame.d x) o.rows
            (compact-fitting (bucket s.state.frame) (buckets-across s.state.frame) s.state.attrs r (o.rows i));
      }

module _ (k : Canvas) (w : WholeCanvas k) (i : ℕ) where
  closed-whole : k.screen.state.layers ≡ [] → i < length k.screen.rows
      → WholeCanvas (record { screen = compact-screen i k.screen; begun = false; painters = k.painters })
  closed-whole z h =
      record {
        sound = compact-sound k.screen w.sound w.fair i z h;
        fair = compact-fair-rows k.screen w.sound w.fair i z h;
        count = w.count ∙ sym (length-set k.screen.rows i (q k.screen w.sound w.fair i z h));
        wide = w.wide;
        closed = λ e. never (sym e);
        going = λ e. never (sym e);
      }

  -- the call, done or refused
  pub compact-whole : WholeCanvas (compact-call i k).value
  unfolding compact-call
  compact-whole = go (leb (length k.screen.rows) i) (is-empty k.screen.state.layers) refl refl
    where
      empty : {A : Type 0} (xs : List A) → is-empty xs ≡ true → xs ≡ []
      empty [] e = refl
      empty (x ∷ xs) e = never (sym e)

      go : (t b : Bool) → leb (length k.screen.rows) i ≡ t → is-empty k.screen.state.layers ≡ b
          → WholeCanvas
          (settle (first_of ((t, BadRun) ∷ (not b, Open) ∷ [])) k
          (record { screen = compact-screen i k.screen; begun = false; painters = k.painters })).value
      go true b e f = w
      go false false e f = w
      go false true e f = closed-whole (empty k.screen.state.layers f) (leb-false _ _ e)
