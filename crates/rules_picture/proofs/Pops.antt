-- A done pop follows the story of a tile.
use Rattle.std.proofs.Common.{ℕ, zero, suc, ◌+◌, ◌≤◌, ◌<◌, zero-add, add-zero, le_refl, arith, ◌≡◌, refl, sym, ◌∙◌, ap, Bool, true, false, not, cond, Option, None, Some, List, [], ◌∷◌, ◌++◌, map}
use Rattle.std.proofs.Common.{append-nil, append_assoc, length, get_or, length-append, eqb, eq-eqb, ne_eqb, eqb-true}
use lib.Seq.{get_or-append_seam}
use Rattle.rules.specs.Lists.{such, keep, some_of}
use Rattle.rules.specs.Boxes.{Box, span_of}
use Rattle.rules.specs.Spans.{covers}
use Rattle.rules.specs.Answers.{Done}
use Rattle.rules.specs.Attributes.{LayerAttr, no-layer, Attrs}
use Rattle.rules.specs.Segments.{Segment, judge-segments, Cut, cuts}
use Rattle.rules.specs.Inputs.{Clip}
use Rattle.rules.specs.Rows.{Row, fresh-row, row-ops}
use Rattle.rules.specs.Plans.{Act, Put, on, close, pop, clip-segments, clip-fits, with-layer, plan-pop, close-puts, closing}
use Rattle.rules.specs.Steps.{Screen, do-puts, done, touched}
use Rattle.rules.specs.Plain.{Told, Story, OpenLayer, closers, box-now, tell, tell-pop}
use Rattle.rules.proofs.laws.Changes.{puts-length}
use Rattle.rules.proofs.laws.Bounds.{judged-facts}
use Rattle.rules_picture.proofs.Cases.{by}
use Rattle.rules_picture.proofs.Acts.{acts-at, do-acts, row-by-row}
use Rattle.rules_picture.proofs.Rows.{LayerHas}
use Rattle.rules_picture.proofs.Listed.{Rows, no_rows, row-then, acts-once, in_row}
use Rattle.rules_picture.proofs.Shape.{shape-inner}
use Rattle.rules_picture.proofs.Single.{Single, nothing, one, single}
use Rattle.rules_picture.proofs.Grown.{Grown, close-act, close-grows, leave-grows}
use Rattle.rules_picture.proofs.Follows.{layer-in, Leads, Follows}

pub acts-both : (row : ℕ) (ps qs : List Put) → acts-at row (ps ++ qs) ≡ acts-at row ps ++ acts-at row qs
acts-both row [] qs = refl
acts-both row (p ∷ ps) qs = rw (acts-both row ps qs) (by (eqb p.row row) (λ y. rw y) (λ n. rw n))

rows-sooner : {x y : ℕ} {js : List ℕ} → x ≤ y → Rows y js → Rows x js
rows-sooner h no_rows = no_rows
rows-sooner {x} h (row-then {j = j} k r) = let m : x ≤ j = omega arith in row-then m r

rows-miss : {x : ℕ} {js : List ℕ} (k : ℕ) → k < x → Rows x js → some_of (eqb k) js ≡ false
rows-miss k h no_rows = refl
rows-miss k h (row-then {j = j} l r) = rw (ne_eqb k j (λ e. omega arith)) (rows-miss k (omega arith) r)

module _ (n : ℕ) where
  -- the touched rows, each once
  pub touched-rows : (i : ℕ) (rs : List Row) → Rows i (touched Row row-ops n i rs)
  unfolding touched
  touched-rows i [] = no_rows
  touched-rows i (r ∷ rs) = by (eqb (length r.levels) n)
      (λ y. rw y (row-then (le_refl i) (touched-rows (suc i) rs)))
      (λ m. rw m (rows-sooner (omega arith) (touched-rows (suc i) rs)))

  -- they are those that have n buffers
  pub touched-has : (i k : ℕ) (rs : List Row) → k < length rs → some_of (eqb (i + k)) (touched Row row-ops n i rs) ≡ eqb (length (get_or rs k fresh-row).levels) n
  unfolding touched
  touched-has i k [] h = absurd (omega arith)
  touched-has i zero (r ∷ rs) h = by (eqb (length r.levels) n)
      (λ y. rw (y, add-zero i, eq-eqb i i refl))
      (λ m. rw (m, add-zero i) (rows-miss i (omega arith) (touched-rows (suc i) rs)))
  touched-has i (suc k) (r ∷ rs) h =
      let e : i + suc k ≡ suc i + k = omega arith in
      let ih : some_of (eqb (i + suc k)) (touched Row row-ops n (suc i) rs) ≡ eqb (length (get_or rs k fresh-row).levels) n = rw e (touched-has (suc i) k rs (omega arith)) in
      by (eqb (length r.levels) n)
      (λ y. rw (y, ne_eqb (i + suc k) i (λ q. omega arith)) ih)
      (λ m. rw m ih)

-- the closing fills on a row: all of them in a touched row, and none in any other
pub close-acts : (i row : ℕ) (js : List ℕ) (ks : List Cut) → acts-at row (close-puts i js ks) ≡ cond (some_of (eqb row) js) (map (λ (k : Cut). close k.stretch.tiles k.stretch.alpha i) (such (in_row row) ks)) []
unfolding close-puts
close-acts i row js [] = by (some_of (eqb row) js) (λ y. rw y) (λ n. rw n)
close-acts i row js (k ∷ ks) = by (eqb k.row row)
    (λ y.
    let e = eqb-true k.row row y in
    by (some_of (eqb row) js)
    (λ z. let q : some_of (eqb k.row) js ≡ true = rw e z in rw (q, y, z, close-acts i row js ks, z))
    (λ z. let q : some_of (eqb k.row) js ≡ false = rw e z in rw (q, z, close-acts i row js ks, z)))
    (λ n. by (some_of (eqb k.row) js)
    (λ z. rw (z, n) (close-acts i row js ks))
    (λ z. rw (z, n) (close-acts i row js ks)))

module _ (w : ℕ) (attrs : Attrs) (t : ℕ) (v : Box) (row : ℕ) where
  pub closing-acts : (c : Option Clip) (own : Box) (ls : List OpenLayer) (i : ℕ) (ss : List Segment) (js : List ℕ) → Rows 0 js
      → acts-at row (closing c v own (box-now v ls) i ss js) ≡ cond (some_of (eqb row) js) (map (close-act w attrs t v row i) (closers w v row t c own ls ss)) []
  unfolding closing
  closing-acts None own ls i ss js r = acts-once (close (span_of own) None i) row r ∙ by (some_of (eqb row) js) (λ y. rw y) (λ n. rw n)
  closing-acts (Some c) own ls i ss js r = close-acts i row js (cuts v (box-now v ls) (clip-segments (Some c) ss))

  pub closers-single : (c : Option Clip) (own : Box) (ls : List OpenLayer) (ss : List Segment) → judge-segments (not (clip-fits c ss)) (clip-segments c ss) ≡ Done
      → Single (such (λ (k : Cut). covers k.stretch.tiles t) (closers w v row t c own ls ss))
  closers-single None own ls ss j = by (covers (span_of own) t) (λ y. rw y (one _)) (λ n. rw n nothing)
  closers-single (Some c) own ls ss j =
      let (_, good, ord) = judged-facts (not (clip-fits (Some c) ss)) (clip-segments (Some c) ss) j in
      single v (box-now v ls) row t (clip-segments (Some c) ss) good ord

  pub new-layer : (ps : List LayerAttr) (x : LayerAttr) (more : List LayerAttr) → attrs.layers ≡ (ps ++ (x ∷ [])) ++ more → LayerHas attrs (length ps) x.id x.panel
  new-layer ps x more e =
      let is : get_or attrs.layers (length ps) no-layer ≡ x =
      ap (λ (l : List LayerAttr). get_or l (length ps) no-layer) (e ∙ append_assoc ps (x ∷ []) more) ∙ get_or-append_seam ps x more no-layer in
      record { id-is = ap (λ (a : LayerAttr). a.id) is; panel-is = ap (λ (a : LayerAttr). a.panel) is }

  -- the row after the acts of a pop, by whether it is touched
  pop-grows : {ts : List Told} {id : ℕ} (l : OpenLayer) (ls : List OpenLayer) {r : Row} → Grown w attrs t v row ts id (l ∷ ls) r → 0 < id
      → (n i q : ℕ) → LayerHas attrs i id q → (ks : List Cut) → Single (such (λ (k : Cut). covers k.stretch.tiles t) ks)
      → (b : Bool) → l.touched ≡ b
      → Grown w attrs t v row (ts ++ cond b (tell w v row t true i q (suc (length ls)) id false ks) []) (id + 1) ls
      (do-acts Row row-ops w n (cond b (map (close-act w attrs t v row i) ks) [] ++ keep b pop []) r)
  unfolding do-acts
  pop-grows l ls g num n i q has ks s true e = close-grows w attrs t v row g num e n i q has ks s
  pop-grows {ts} l ls g num n i q has ks s false e = rw (append-nil ts) (leave-grows w attrs t v row g e)

  -- a done pop of the innermost layer l
  pub pop-follows : (ss : List Segment) (o : Story) (l : OpenLayer) (ls : List OpenLayer) (s : Screen Row) → Follows w attrs t v row o s → o.open-layers ≡ (l ∷ ls)
      → judge-segments (not (clip-fits l.layer.props.clip ss)) (clip-segments l.layer.props.clip ss) ≡ Done
      → Leads w attrs t v row (with-layer s.state l.layer.props)
      → Follows w attrs t v row (tell-pop w v row t (l ∷ ls) ss o)
      (done Row row-ops (plan-pop (layer-in l ∷ map layer-in ls) ss (touched Row row-ops (suc (length ls)) 0 s.rows) s.state) s)
  unfolding done plan-pop
  pop-follows ss o l ls s f e j ld =
      let st = s.state in
      let c = l.layer.props.clip in
      let r = get_or s.rows row fresh-row in
      let ks = closers w v row t c l.layer.bounds ls ss in
      let js = touched Row row-ops (suc (length ls)) 0 s.rows in
      let n = length (map layer-in ls) in
      let g : Grown w attrs t v row o.told o.next (l ∷ ls) r = rw e at f.grown in
      let has : LayerHas attrs o.layers o.next l.layer.props.panel = rw (f.layers, f.next) at (new-layer st.attrs.layers _ ld.layers-more ld.layers) in
      let h = pop-grows l ls g f.first n o.layers l.layer.props.panel has ks (closers-single c l.layer.bounds ls ss j) l.touched refl in
      let has : some_of (eqb row) js ≡ l.touched =
      ap (λ m. some_of (eqb m) js) (sym (zero-add row)) ∙ touched-has (suc (length ls)) 0 row s.rows f.there ∙ sym (shape-inner g.shape) in
      let rows : Rows 0 js = touched-rows (suc (length ls)) 0 s.rows in
      let puts = closing c v l.layer.bounds (box-now v ls) o.layers ss js ++ map (on pop) js in
      let acts : acts-at row puts ≡ cond l.touched (map (close-act w attrs t v row o.layers) ks) [] ++ keep l.touched pop [] =
      acts-both row (closing c v l.layer.bounds (box-now v ls) o.layers ss js) (map (on pop) js)
      ∙ rw (closing-acts c l.layer.bounds ls o.layers ss js rows, acts-once pop row rows, has) in
      let same : do-acts Row row-ops w n (cond l.touched (map (close-act w attrs t v row o.layers) ks) [] ++ keep l.touched pop []) r
      ≡ get_or (do-puts Row row-ops w n puts s.rows) row fresh-row =
      ap (λ (xs : List Act). do-acts Row row-ops w n xs r) (sym acts) ∙ sym (row-by-row Row row-ops w n row fresh-row puts s.rows f.there) in
      let deep : length o.open-layers ≡ suc (length ls) = ap (λ (xs : List OpenLayer). length xs) e in
      record {
        view = f.view;
        wide = f.wide;
        next = ap (λ m. m + 1) f.next;
        first = omega arith;
        paints = f.paints;
        layers = rw length-append (ap (λ m. m + 1) f.layers);
        opened = refl;
        there = rw puts-length f.there;
        grown = rw (f.view, f.wide, f.layers, deep) (rw same at h);
      }
