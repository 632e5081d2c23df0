-- Painters that begin and painting steps make are ready for the next step, on a fair row. Assumes nothing.
use Rattle.std.proofs.Common.{◌≡◌, refl, sym, ap, ◌∙◌, Bool, true, false, ◌&&◌, cond, List, [], ◌∷◌, Option, None, Some, ℕ, zero, suc, ◌+◌, ◌-◌, ◌≤◌, ◌<◌, arith, leb, ltb, eqb, length, get_or, take, lt-ltb, le-leb, le-ltb, ltb-true, ltb-false, ne_eqb}
use lib.ListN.{length-replicate}
use Rattle.rules.specs.Lists.{is_none, is-empty}
use Rattle.rules.specs.Answers.{Done}
use Rattle.rules.specs.Spans.{Span, span}
use Rattle.rules.specs.Depth.{Summary, write-runs, written, write_answer, write-after}
use Rattle.rules.specs.Minima.{halvings, summary, mended-runs, minima-after}
use Rattle.rules.specs.Commands.{Command, paint-fill, layer-fill, push-buf, pop-buf, DepthFill}
use Rattle.rules.specs.Inputs.{good-panel}
use Rattle.rules.specs.Attributes.{Attrs}
use Rattle.rules.specs.Rows.{Row}
use Rattle.rules.specs.Painting.{Painter, begin, paint-id, paint-panel, no-fill, paint-depth, paint-fill-runs, paint-command, paint-when, paint-step}
use Rattle.rules.proofs.All.{All, cons, both, never, all-at, all_map}
use Rattle.refine_row.specs.Encode.{first_of, end_of, state-of, Fine}
use Rattle.paint.specs.Summaries.{summary-at, Sound}
use Rattle.paint.proofs.Skips.{sound-blank}
use Rattle.paint.specs.Painting.{good-id, good-paint, good-command}
use Rattle.paint.specs.Standing.{PainterReady, step-minima}
use Rattle.paint.proofs.ByRules.{AllIncluded, sound-step}
use Rattle.rules_picture.proofs.Newest.{written-length}
use Rattle.rules_picture.proofs.Mending.{mended-afresh}
use Rattle.refine_paint.specs.Fair.{FairCommand, Nested, nesting-after, Fair}
use Rattle.refine_paint.specs.Painters.{Going}

-- the nesting never passes 16
shallow : (n : ℕ) (cs : List Command) (k : ℕ) → n ≤ 16 → Nested n cs → nesting-after n (take k cs) ≤ 16
shallow n cs zero h g = h
shallow n [] (suc k) h g = h
shallow n (paint-fill s a i ∷ cs) (suc k) h g = shallow n cs k h g
shallow n (layer-fill s a i ∷ cs) (suc k) h g = shallow n cs k h g
shallow n (push-buf s ∷ cs) (suc k) h g = shallow (suc n) cs k (omega (arith, g.0)) g.1
shallow n (pop-buf ∷ cs) (suc k) h g = shallow (n - 1) cs k (omega arith) g.1

-- a command at its nesting
module _ (a : Attrs) where
  good-at : (n : ℕ) (cs : List Command) (k : ℕ) → All (FairCommand a) cs → Nested n cs → k < length cs → good-command a (nesting-after n (take k cs)) (get_or cs k pop-buf) ≡ true
  good-at n [] k f g h = absurd (omega arith)
  good-at n (paint-fill s x i ∷ cs) zero (cons f fs) g h = f.attributed
  good-at n (layer-fill s x i ∷ cs) zero (cons f fs) g h = f.attributed
  good-at n (push-buf s ∷ cs) zero (cons f fs) g h = lt-ltb n 16 g.0
  good-at n (pop-buf ∷ cs) zero (cons f fs) g h = lt-ltb 0 n g.0
  good-at n (paint-fill s x i ∷ cs) (suc k) (cons f fs) g h = good-at n cs k fs g (omega arith)
  good-at n (layer-fill s x i ∷ cs) (suc k) (cons f fs) g h = good-at n cs k fs g (omega arith)
  good-at n (push-buf s ∷ cs) (suc k) (cons f fs) g h = good-at (suc n) cs k fs g.1 (omega arith)
  good-at n (pop-buf ∷ cs) (suc k) (cons f fs) g h = good-at (n - 1) cs k fs g.1 (omega arith)

-- one command more
one_more : (n : ℕ) (cs : List Command) (k : ℕ) → k < length cs → nesting-after n (take (suc k) cs) ≡ nesting-after (nesting-after n (take k cs)) (get_or cs k pop-buf ∷ [])
one_more n [] k h = absurd (omega arith)
one_more n (paint-fill s a i ∷ cs) zero h = refl
one_more n (layer-fill s a i ∷ cs) zero h = refl
one_more n (push-buf s ∷ cs) zero h = refl
one_more n (pop-buf ∷ cs) zero h = refl
one_more n (paint-fill s a i ∷ cs) (suc k) h = one_more n cs k (omega arith)
one_more n (layer-fill s a i ∷ cs) (suc k) h = one_more n cs k (omega arith)
one_more n (push-buf s ∷ cs) (suc k) h = one_more (suc n) cs k (omega arith)
one_more n (pop-buf ∷ cs) (suc k) h = one_more (n - 1) cs k (omega arith)

-- the summary of the words is the row's, where there is a depth fill
pub summary-same : (d : Summary) (u : Option Span) → d.union ≡ u → is_none u ≡ false → 0 < d.largest
    → ◌≡◌ {A = Summary} (record { union = cond (eqb d.largest 0) None (Some (span (first_of d.union) (end_of d.union))); largest = d.largest }) d
summary-same d None e n h = never n
summary-same d (Some s) e n h =
    let z : (d.largest ≡ 0 → ⊥) = λ q. omega arith in
    let y : first_of d.union ≡ s.first = ap first_of e in
    let w : end_of d.union ≡ s.end = ap end_of e in
    rw (ne_eqb d.largest 0 z, y, w) (ap (λ (u : Option Span). record { union = u; largest = d.largest }) (sym e))

some-there : {A : Type 0} (xs : List A) → 0 < length xs → is-empty xs ≡ false
some-there [] h = absurd (omega arith)
some-there (x ∷ xs) h = refl

-- a write of a range within the row leaves the summary of what it leaves
module _ (bs : List ℕ) (id : ℕ) (r : Span) where
  write-done : r.first ≤ r.end → r.end ≤ length bs → 0 < id → eqb (write_answer bs id r (length (write-runs bs r))).number Done ≡ true
  unfolding write_answer
  write-done f e z =
      let n = length (write-runs bs r) in
      rw (le-leb _ _ f, le-leb _ _ e, ne_eqb id 0 (λ q. omega arith), le-ltb n n (omega arith))

  pub write-mended : r.first ≤ r.end → r.end ≤ length bs → 0 < id
      → mended-runs (halvings (length bs)) (summary bs) (written bs id r) (write-runs bs r) ≡ summary (written bs id r)
  unfolding minima-after write-after
  write-mended f e z = on _ _ (eqb (write_answer bs id r (length (write-runs bs r))).number Done) (write-done f e z) (mended-afresh bs id r (length (write-runs bs r)))
    where
      on : (xs ys : List ℕ) (t : Bool) → t ≡ true → cond t xs (summary bs) ≡ summary (cond t ys bs) → xs ≡ summary ys
      on xs ys true e h = h
      on xs ys false e h = never (sym e)

-- an attribute that is there has an id that a draw took
pub taken : (a : Attrs) (i : ℕ) → good-paint a i ≡ true → 0 < paint-id a i
taken a i g =
    let id = paint-id a i in
    ltb-true _ _ (both (ltb 0 id) (leb id 1048576) (both (ltb i (length a.paints) && good-panel (paint-panel a i)) (good-id id) g).1).0

-- .. as each depth fill's of a fair row has
pub all-taken : {v : ℕ} (a : Attrs) (n : ℕ) (r : Row) → Fair v a n r → All (λ (f : DepthFill). 1 ≤ paint-id a f.attribute) r.fills
all-taken a n r h = all_map (λ f o. taken a f.attribute o.attributed) h.fills

module _ {v : ℕ} (a : Attrs) (n : ℕ) (r : Row) (o : Fine r) (h : Fair v a n r) where
  -- the summary of the words includes each depth fill
  all-included : AllIncluded v a (summary-at (state-of r)) r
  all-included k l =
      let f = all-at h.fills k no-fill l in
      let i = taken a (get_or r.fills k no-fill).attribute f.attributed in
      let e = summary-same r.depth r.depth.union refl (o.summary ∙ some-there r.fills (omega arith)) (omega (arith, f.included.below)) in
      rw e f.included

  -- a painter begins
  pub begin-going : Going v n r (begin n)
  begin-going = record { wide = length-replicate n 0; steps = omega arith; nesting = rw none_yet; sound = sound-blank v (summary-at (state-of r)) n }
    where
      none_yet : 0 - length r.fills ≡ 0
      none_yet = omega arith

  -- and is ready for its next step
  pub going-ready : (p : Painter) → Going v n r p → PainterReady a r p
  going-ready p g =
      record {
        steps-left = g.steps;
        shallow = rw g.nesting (shallow 0 r.commands (p.steps - length r.fills) (omega arith) h.nested);
        good-next = λ l m. rw g.nesting (good-at a 0 r.commands (p.steps - length r.fills) h.commands h.nested m);
      }

  module _ (p : Painter) (g : Going v n r p) where
    abbrev place : ℕ
    place = p.steps - length r.fills

    command-nesting : (c : Command) → ((paint-command v a c p).painter.nesting ≡ nesting-after p.nesting (c ∷ [])) × ((paint-command v a c p).painter.steps ≡ p.steps + 1)
        × ((paint-command v a c p).painter.buckets ≡ p.buckets)
    unfolding paint-command paint-fill-runs
    command-nesting (paint-fill s x i) = (refl, refl, refl)
    command-nesting (layer-fill s x i) = (refl, refl, refl)
    command-nesting (push-buf s) = (omega arith, refl, refl)
    command-nesting pop-buf = (refl, refl, refl)

    -- a step keeps it so
    pub step-going : Going v n r (paint-step v a r p).painter
    unfolding paint-step paint-when paint-depth written
    step-going = go (ltb p.steps (length r.fills)) (ltb place (length r.commands)) refl refl (sound-step v a (summary-at (state-of r)) r p g.sound all-included)
      where
        go : (t u : Bool) → ltb p.steps (length r.fills) ≡ t → ltb place (length r.commands) ≡ u → Sound v (summary-at (state-of r)) (paint-when v a t u r p).painter.buckets → Going v n r (paint-when v a t u r p).painter
        go true u e f q =
            let l : p.steps < length r.fills = ltb-true _ _ e in
            let z : p.steps + 1 - length r.fills ≡ p.steps - length r.fills = omega arith in
            record {
              wide = written-length p.buckets (paint-id a (get_or r.fills (length r.fills - (p.steps + 1)) no-fill).attribute) (get_or r.fills (length r.fills - (p.steps + 1)) no-fill).buckets ∙ g.wide;
              steps = omega arith;
              nesting = rw z g.nesting;
              sound = q;
            }
        go false true e f q =
            let l : length r.fills ≤ p.steps = ltb-false _ _ e in
            let m : p.steps - length r.fills < length r.commands = ltb-true _ _ f in
            let c = get_or r.commands place pop-buf in
            let k = command-nesting c in
            let z : p.steps + 1 - length r.fills ≡ suc (p.steps - length r.fills) = omega arith in
            record {
              wide = rw k.2 g.wide;
              steps = rw k.1 (omega arith);
              nesting = rw (k.1, z, one_more 0 r.commands place m, ← g.nesting) k.0;
              sound = q;
            }
        go false false e f q = g

    -- .. and its minima the summary of its depth words
    pub step-mended : step-minima a r p (summary p.buckets) ≡ summary (paint-step v a r p).painter.buckets
    unfolding step-minima paint-step paint-when paint-depth
    step-mended = go (ltb p.steps (length r.fills)) (ltb place (length r.commands)) refl
      where
        f : DepthFill
        f = get_or r.fills (length r.fills - (p.steps + 1)) no-fill

        go : (t u : Bool) → ltb p.steps (length r.fills) ≡ t
            → cond t (mended-runs (halvings (length p.buckets)) (summary p.buckets) (written p.buckets (paint-id a f.attribute) f.buckets) (write-runs p.buckets f.buckets)) (summary p.buckets)
            ≡ summary (paint-when v a t u r p).painter.buckets
        go true u e =
            let l : p.steps < length r.fills = ltb-true _ _ e in
            let o = all-at h.fills (length r.fills - (p.steps + 1)) no-fill (omega arith) in
            write-mended p.buckets (paint-id a f.attribute) f.buckets o.good.in_order (rw g.wide o.good.in-limit) (taken a f.attribute o.attributed)
        go false true e = ap summary (sym (command-nesting (get_or r.commands place pop-buf)).2)
        go false false e = refl
