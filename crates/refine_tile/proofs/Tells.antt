-- A done step of the rules is done by the engine of one tile too, which then knows what the story knows, and has written the step's line.
use Rattle.std.proofs.Common.{ℕ, suc, ◌+◌, ◌*◌, ◌≤◌, ◌<◌, min, arith, ◌≡◌, refl, sym, ◌∙◌, ap, Bool, true, false, ◌&&◌, ◌||◌, not, cond, Option, None, Some, List, [], ◌∷◌, ◌++◌, map, append_assoc}
use Rattle.std.proofs.Common.{append-nil, length, take, drop, length-append, take_at, drop-drop, leb, ltb, eqb, ltb-true, ltb-false, lt-ltb, le-ltb, eqb-true, eq-eqb}
use lib.ListN.{length-map}
use lib.Seq.{drop-append-add}
use borrow.Author.Tests.{lt-leb}
use Rattle.sizes.specs.Sizes.{most-layers, most-attrs, most-filters, last-id, line-size}
use Rattle.rules.specs.Lists.{is-empty}
use Rattle.rules.specs.Answers.{Answer, answer, settle, first_of, Done, Ids, FullAttrs}
use Rattle.rules.specs.Boxes.{Box}
use Rattle.rules.specs.Segments.{Segment, judge-segments, cuts}
use Rattle.rules.specs.Inputs.{Paint, Draw, draw-segments, draw-paint, good-fill, Props, Filter}
use Rattle.rules.specs.Blends.{default-blend}
use Rattle.rules.specs.Attributes.{Attrs, attrs-full}
use Rattle.rules.specs.Plans.{Layer, State, Step, a-fill, a-push, a-pop, a-filter, still, box_of, with-paint, with-layer, filter-paint, eligible, layer-box, touches-all, filter-box, draws-nothing, plan-fill, plan-push, plan-pop, plan-filter-in, plan-filter, plan}
use Rattle.rules.specs.Plain as story
use Rattle.rules.specs.Plain.{Told, OpenLayer, Story, touch-all, box-now, here, in_rows, tell, tell-step}
use Rattle.rules.proofs.All.{or_left, or_right}
use Rattle.rules.proofs.laws.Bounds.{judged-facts}
use Rattle.rules_picture.proofs.Cases.{by, same_test}
use Rattle.rules_picture.proofs.Shape.{Shape, not_yet, shape-most, shape-touch, shape-inner, shape-closed, shape-kept, touched-layers}
use Rattle.rules_picture.proofs.Follows.{layer-in}
use Rattle.rules_picture.proofs.Limits.{Limits}
use Rattle.cmd.specs.Attrs.{words-at}
use Rattle.tile.specs.Telling.{Telling, Line, line-words, alpha-words, after-alpha, no-look, look, with-line, tell-fill, tell-push, tell-pop, filtered, tell-filter, tell-at, in_row}
use Rattle.refine_tile.specs.Retold.{flat}
use Rattle.refine_tile.proofs.Rows.{rows-met}
use Rattle.refine_tile.proofs.Looks.{looked}
use Rattle.refine_tile.proofs.Inside.{PopFits, Fits}
use Rattle.refine_tile.proofs.Lines.{fill-line, pop-line, filter-line, fill-lines, pop-lines, filter-lines, step_lines}
use Rattle.refine_tile.proofs.Stories.{Stands, filter-planned}

pub line-length : (l : Line) → length (line-words l) ≡ line-size
line-length l = go l.alpha
  where
    go : (a : Option ℕ) → length (cond l.layer 1 0 ∷ l.attribute ∷ l.standing ∷ alpha-words a (after-alpha l)) ≡ line-size
    go None = refl
    go (Some n) = refl

pub flat_append : (ls ms : List Line) → flat (ls ++ ms) ≡ flat ls ++ flat ms
flat_append [] ms = refl
flat_append (l ∷ ls) ms = rw (flat_append ls ms) (sym (append_assoc (line-words l) (flat ls) (flat ms)))

pub flat-length : (ls : List Line) → length (flat ls) ≡ line-size * length ls
flat-length [] = refl
flat-length (l ∷ ls) = rw (length-append, line-length l, flat-length ls) (omega arith)

-- the words ws with a line more
one_line : (ls : List Line) (l : Line) (ws : List ℕ)
    → words-at (flat ls ++ drop (line-size * length ls) ws) (line-size * length ls) (line-words l) ≡ flat (ls ++ (l ∷ [])) ++ drop (line-size * length (ls ++ (l ∷ []))) ws
one_line ls l ws =
    let n = line-size * length ls in
    let words = line-words l in
    let more : n + length words ≡ line-size * length (ls ++ (l ∷ [])) = rw (line-length l, length-append) (omega arith) in
    let front : take n (flat ls ++ drop n ws) ≡ flat ls = take_at (flat ls) (drop n ws) n (flat-length ls) in
    let back : drop (n + length words) (flat ls ++ drop n ws) ≡ drop (line-size * length (ls ++ (l ∷ []))) ws =
    ap (λ (k : ℕ). drop (k + length words) (flat ls ++ drop n ws)) (sym (flat-length ls))
    ∙ drop-append-add (flat ls) (drop n ws) (length words)
    ∙ drop-drop (length words) n ws
    ∙ ap (λ (k : ℕ). drop k ws) more in
    let whole : flat ls ++ words ≡ flat (ls ++ (l ∷ [])) = sym (flat_append ls (l ∷ []) ∙ ap (λ (x : List ℕ). flat ls ++ x) (append-nil words)) in
    ap (λ (x : List ℕ). x ++ words ++ drop (n + length words) (flat ls ++ drop n ws)) front
    ∙ ap (λ (x : List ℕ). flat ls ++ words ++ x) back
    ∙ ap (λ (x : List ℕ). x ++ drop (line-size * length (ls ++ (l ∷ []))) ws) whole

map-empty : (ls : List OpenLayer) → is-empty (map layer-in ls) ≡ is-empty ls
map-empty [] = refl
map-empty (l ∷ ls) = refl

-- the touched layers after a step that touches the row or not
shape-after : (b : Bool) {ls : List OpenLayer} {m : ℕ} → Shape ls m → Shape (touch-all b ls) (cond b (length ls) m)
shape-after true {ls} s = shape-touch ls
shape-after false s = s

-- what the engine knows where the story is o: m of the open layers touched, f filter paints, the lines `said` written over ws
abbrev pub telling : List ℕ → Story → List Line → ℕ → ℕ → Telling
telling ws o said m f =
    record {
      next = o.next;
      paints = o.paints;
      layers = o.layers;
      filters = f;
      levels = m;
      opened = map layer-in o.open-layers;
      lines = flat said ++ drop (line-size * length said) ws;
    }

-- a done answer, with the story o after it
pub record After (ws : List ℕ) (o : Story) (said : List Line) (f : ℕ) (a : Answer Telling) : Type 0 where
  pub levels : ℕ
  pub is : a ≡ answer Done (telling ws o said levels f)
  pub shape : Shape o.open-layers levels
  pub count : length said ≡ o.paints + o.layers

module _ (w : ℕ) (v : Box) (row tile : ℕ) (ws : List ℕ) where
  -- a line at the end
  new_line : (o : Story) (said : List Line) (m f : ℕ) (l : Line) → length said ≡ o.paints + o.layers
      → with-line w v row tile (telling ws o said m f) l ≡ flat (said ++ (l ∷ [])) ++ drop (line-size * length (said ++ (l ∷ []))) ws
  new_line o said m f l c =
      ap (λ (n : ℕ). words-at (flat said ++ drop (line-size * length said) ws) (line-size * n) (line-words l)) (sym c) ∙ one_line said l ws

  abbrev filled : List Segment → Bool → ℕ → Story → Story
  filled own e q o =
      let ks = here w v row tile o.open-layers own in
      record {
        next = o.next + 1;
        paints = cond (is-empty own) o.paints (o.paints + 1);
        layers = o.layers;
        open-layers = touch-all (not (is-empty ks)) o.open-layers;
        told = o.told ++ tell w v row tile false o.paints q (length o.open-layers) o.next e ks;
      }

  abbrev own-lines : List Segment → Bool → ℕ → Story → List Line
  own-lines own e q o = cond (is-empty own) [] (fill-line w v row tile (box-now v o.open-layers) own e o.paints (length o.open-layers) q ∷ [])

  fill-after : (own : List Segment) (e : Bool) (q : ℕ) (o : Story) (said : List Line) (m f : ℕ) → Shape o.open-layers m → length said ≡ o.paints + o.layers
      → (look w v row tile (box-now v o.open-layers) no-look own).reached ≡ not (is-empty (here w v row tile o.open-layers own))
      → ltb last-id o.next ≡ false → (not (is-empty own) && leb most-attrs o.paints) ≡ false
      → After ws (filled own e q o) (said ++ own-lines own e q o) f (tell-fill w v row tile own e q (telling ws o said m f))
  unfolding tell-fill cuts
  fill-after [] e q o said m f s c r i p = record { levels = m; is = rw (i, append-nil said); shape = s; count = rw (append-nil said) c }
  fill-after (x ∷ xs) e q o said m f s c r i p =
      let own = x ∷ xs in
      let ls = o.open-layers in
      let l = fill-line w v row tile (box-now v ls) own e o.paints (length ls) q in
      let b = not (is-empty (here w v row tile ls own)) in
      record {
        levels = cond b (length ls) m;
        is = rw (i, p, r, length-map, new_line o said m f l c, touched-layers b ls);
        shape = shape-after b s;
        count = rw (length-append, c) (omega arith);
      }

  abbrev pushed : Props → Story → Story
  pushed p o = story.tell-push w v row tile p o

  push-after : (p : Props) (o : Story) (said : List Line) (m f : ℕ) → Shape o.open-layers m → length said ≡ o.paints + o.layers
      → leb most-layers (length o.open-layers) ≡ false
      → After ws (pushed p o) (said ++ []) f (tell-push w v row tile p (telling ws o said m f))
  unfolding tell-push
  push-after p o said m f s c d =
      let ls = o.open-layers in
      let b = layer-box v (box-now v ls) p.clip in
      let l : OpenLayer = record { layer = record { props = p; bounds = b }; touched = false } in
      let t = touches-all p b && in_rows w v row tile b in
      let in-too : in_rows w v row tile b ≡ in_row b row = rows-met b row in
      let one : length ls + 1 ≡ suc (length ls) = omega arith in
      record {
        levels = cond t (suc (length ls)) m;
        is = rw (length-map, d, append-nil said, touched-layers t (l ∷ ls), in-too, one);
        shape = shape-after t (not_yet {l = l} refl s);
        count = rw (append-nil said) c;
      }

  -- whether the closing layer is touched is seen by the levels, and how many are left
  inner-touched : {l : OpenLayer} {ls : List OpenLayer} {m : ℕ} → Shape (l ∷ ls) m → ltb (length ls) m ≡ l.touched
  inner-touched {l} {ls} {m} s =
      let h = shape-most s in
      sym (shape-inner s ∙ same_test (eqb m (suc (length ls))) (ltb (length ls) m)
      (λ y. let e = eqb-true m (suc (length ls)) y in lt-ltb (length ls) m (omega arith))
      (λ y. let e = ltb-true (length ls) m y in eq-eqb m (suc (length ls)) (omega arith)))

  shape-left : {l : OpenLayer} {ls : List OpenLayer} {m : ℕ} → Shape (l ∷ ls) m → Shape ls (min m (length ls))
  shape-left {l} {ls} {m} s = by l.touched
      (λ y. let (e, r) = shape-closed s y in let z : min m (length ls) ≡ length ls = omega arith in rw z r)
      (λ n. let r = shape-kept s n in let h = shape-most r in let z : min m (length ls) ≡ m = omega arith in rw z r)

  pop-after : (ls : List OpenLayer) (ss : List Segment) (o : Story) (said : List Line) (m f : ℕ) → o.open-layers ≡ ls → PopFits ls ss → Shape ls m → length said ≡ o.paints + o.layers
      → ltb last-id o.next ≡ false → leb most-attrs o.layers ≡ false
      → After ws (story.tell-pop w v row tile ls ss o) (said ++ pop-lines w v row tile ls ss o) f (tell-pop w v row tile (map layer-in ls) ss (telling ws o said m f))
  unfolding tell-pop PopFits
  pop-after [] ss o said m f q j s c i p = absurd j
  pop-after (l ∷ ls) ss o said m f q j s c i p =
      let line = pop-line w v row tile l.layer.props.clip l.layer.bounds (box-now v ls) ss l.touched o.layers (suc (length ls)) l.layer.props.panel in
      let many : length (map layer-in ls) ≡ length ls = length-map ls layer-in in
      record {
        levels = min m (length ls);
        is = rw (i, p, many, inner-touched s, new_line o said m f line c);
        shape = shape-left s;
        count = rw (length-append, c) (omega arith);
      }

  abbrev filter-filled : Box → List Told → Story → Story
  filter-filled b ts o =
      record {
        next = o.next + 1;
        paints = o.paints + 1;
        layers = o.layers;
        open-layers = touch-all (in_rows w v row tile b) o.open-layers;
        told = ts;
      }

  filter-in-after : (b : Box) (g : Filter) (q : ℕ) (ts : List Told) (o : Story) (said : List Line) (m f : ℕ) → Shape o.open-layers m → length said ≡ o.paints + o.layers
      → ltb last-id o.next ≡ false → (leb most-attrs o.paints || leb most-filters f) ≡ false
      → After ws (filter-filled b ts o) (said ++ (filter-line w v row tile b g o.paints (length o.open-layers) q ∷ [])) (f + 1)
      (settle (first_of ((ltb last-id o.next, Ids) ∷ (leb most-attrs o.paints || leb most-filters f, FullAttrs) ∷ [])) (telling ws o said m f) (filtered w v row tile b g q (telling ws o said m f)))
  filter-in-after b g q ts o said m f s c i p =
      let ls = o.open-layers in
      let line = filter-line w v row tile b g o.paints (length ls) q in
      let t = in_rows w v row tile b in
      let in-too : in_row b row ≡ t = sym (rows-met b row) in
      record {
        levels = cond t (length ls) m;
        is = rw (i, p, length-map, new_line o said m f line c, in-too, touched-layers t ls);
        shape = shape-after t s;
        count = rw (length-append, c) (omega arith);
      }

-- attributes that aren't too many
pub record Few (a : Attrs) : Type 0 where
  pub paints : length a.paints ≤ most-attrs
  pub layers : length a.layers ≤ most-attrs
  pub filters : length a.filters ≤ most-filters

pub few : (a : Attrs) → attrs-full a ≡ false → Few a
few a e =
    let x = ltb most-attrs (length a.paints) in
    let y = ltb most-attrs (length a.layers) in
    let z = ltb most-filters (length a.filters) in
    let h = or_left (x || y) z e in
    record {
      paints = ltb-false _ _ (or_left x y h);
      layers = ltb-false _ _ (or_right x y h);
      filters = ltb-false _ _ (or_right (x || y) z e);
    }

room : {A : Type 0} (xs : List A) (x : A) (n : ℕ) → length (xs ++ (x ∷ [])) ≤ n → length xs < n
room xs x n h = let e = length-append xs (x ∷ []) in omega arith

id_left : (n : ℕ) → ltb 1048577 (n + 1) ≡ false → ltb last-id n ≡ false
id_left n e = let h = ltb-false 1048577 (n + 1) e in le-ltb last-id n (omega arith)

module _ (w : ℕ) (v : Box) (row tile : ℕ) (ws : List ℕ) where
  fill_step : (ps : List Paint) (ss : List Segment) (d : Draw) (o : Story) (s : State) (said : List Line) (m : ℕ) → Stands v o s → Limits (plan-fill ps ss d s)
      → judge-segments (not (good-fill ps ss d)) (draw-segments ss d) ≡ Done → Shape o.open-layers m → length said ≡ o.paints + o.layers
      → After ws (story.tell-fill w v row tile ps ss d o) (said ++ fill-lines w v row tile ps ss d o) (length (plan-fill ps ss d s).attrs.filters)
      (tell-fill w v row tile (draw-segments ss d) (eligible (is-empty (map layer-in o.open-layers)) (draw-paint ps d) d) d.panel (telling ws o said m (length s.attrs.filters)))
  unfolding plan-fill
  fill_step ps ss d o s said m h q j c n =
      let own = draw-segments ss d in
      let new = with-paint s d.paint d.blend d.mask d.thread d.panel [] in
      let e = eligible (is-empty o.open-layers) (draw-paint ps d) d in
      let (_, good, ord) = judged-facts (not (good-fill ps ss d)) own j in
      let i : ltb last-id o.next ≡ false = id_left o.next (rw h.next at q.ids) in
      let same : length (cond (is-empty own) s.attrs new).filters ≡ length s.attrs.filters = by (is-empty own) (λ y. rw y) (λ z. rw (z, append-nil)) in
      let p : (not (is-empty own) && leb most-attrs o.paints) ≡ false =
      by (is-empty own)
      (λ y. rw y)
      (λ z.
      let a : attrs-full new ≡ false = rw z at q.attrs in
      let k = room s.attrs.paints _ most-attrs (few new a).paints in
      let x = h.paints in
      rw z (lt-leb most-attrs o.paints (omega arith))) in
      rw (same, map-empty o.open-layers)
      (fill-after w v row tile ws own e d.panel o said m (length s.attrs.filters) c n (looked w v row tile (box-now v o.open-layers) own good ord).reached i p)

  push_step : (p : Props) (o : Story) (s : State) (said : List Line) (m : ℕ) → Stands v o s → Limits (plan-push p s) → Shape o.open-layers m → length said ≡ o.paints + o.layers
      → After ws (story.tell-push w v row tile p o) (said ++ []) (length (plan-push p s).attrs.filters) (tell-push w v row tile p (telling ws o said m (length s.attrs.filters)))
  unfolding plan-push
  push_step p o s said m h q c n =
      let k = ltb-false most-layers (suc (length s.layers)) q.deep in
      let l : length s.layers ≡ length o.open-layers = ap (λ (xs : List Layer). length xs) h.opened ∙ length-map o.open-layers layer-in in
      push-after w v row tile ws p o said m (length s.attrs.filters) c n (lt-leb most-layers (length o.open-layers) (omega arith))

  pop_step : (ls : List OpenLayer) (ss : List Segment) (js : List ℕ) (o : Story) (s : State) (said : List Line) (m : ℕ) → Stands v o s → o.open-layers ≡ ls
      → (ms : List Layer) → ms ≡ map layer-in ls → Limits (plan-pop ms ss js s) → PopFits ls ss → Shape ls m → length said ≡ o.paints + o.layers
      → After ws (story.tell-pop w v row tile ls ss o) (said ++ pop-lines w v row tile ls ss o) (length (plan-pop ms ss js s).attrs.filters)
      (tell-pop w v row tile (map layer-in ls) ss (telling ws o said m (length s.attrs.filters)))
  unfolding plan-pop PopFits
  pop_step [] ss js o s said m h e ms y q f c n = absurd f
  pop_step (l ∷ ls) ss js o s said m h e ms y q f c n =
      let z : Limits (plan-pop (layer-in l ∷ map layer-in ls) ss js s) = rw y at q in
      let i : ltb last-id o.next ≡ false = id_left o.next (rw h.next at z.ids) in
      let k = room s.attrs.layers _ most-attrs (few (with-layer s l.layer.props) z.attrs).layers in
      let x = h.layers in
      rw y (pop-after w v row tile ws (l ∷ ls) ss o said m (length s.attrs.filters) e f c n i (lt-leb most-attrs o.layers (omega arith)))

  filter-some : (k : ℕ) (g : Filter) (u : ℕ) (b : Box) (ts : List Told) (o : Story) (s : State) (said : List Line) (m : ℕ) → Stands v o s → Limits (plan-filter-in b k g u s) → Shape o.open-layers m → length said ≡ o.paints + o.layers
      → let t = telling ws o said m (length s.attrs.filters) in
      After ws (filter-filled w v row tile ws b ts o) (said ++ (filter-line w v row tile b g o.paints (length o.open-layers) u ∷ [])) (length (plan-filter-in b k g u s).attrs.filters)
      (settle (first_of ((ltb last-id o.next, Ids) ∷ (leb most-attrs o.paints || leb most-filters (length s.attrs.filters), FullAttrs) ∷ [])) t (filtered w v row tile b g u t))
  unfolding plan-filter-in
  filter-some k g u b ts o s said m h q c n =
      let i : ltb last-id o.next ≡ false = id_left o.next (rw h.next at q.ids) in
      let z = few (with-paint s (k + length s.attrs.filters) default-blend 0 0 u (filter-paint g ∷ [])) q.attrs in
      let x = room s.attrs.paints _ most-attrs z.paints in
      let y = room s.attrs.filters (filter-paint g) most-filters z.filters in
      let f : length (s.attrs.filters ++ (filter-paint g ∷ [])) ≡ length s.attrs.filters + 1 = length-append s.attrs.filters (filter-paint g ∷ []) in
      let e = h.paints in
      let full : (leb most-attrs o.paints || leb most-filters (length s.attrs.filters)) ≡ false =
      rw (lt-leb most-attrs o.paints (omega arith), lt-leb most-filters (length s.attrs.filters) (omega arith)) in
      rw f (filter-in-after w v row tile ws b g u ts o said m (length s.attrs.filters) c n i full)

  filter-step : (k : ℕ) (g : Filter) (u : ℕ) (o : Story) (s : State) (said : List Line) (m : ℕ) → Stands v o s → (plan-filter k g u s).refused ≡ Done → Limits (plan-filter k g u s)
      → Shape o.open-layers m → length said ≡ o.paints + o.layers
      → After ws (story.tell-filter w v row tile g u o) (said ++ filter-lines w v row tile g u o) (length (plan-filter k g u s).attrs.filters)
      (tell-filter w v row tile g u (telling ws o said m (length s.attrs.filters)))
  unfolding tell-filter
  filter-step k g u o s said m h j q c n =
      let b = filter-box v (box-now v o.open-layers) g in
      let e : filter-box s.frame.viewport (box_of s) g ≡ b = rw (h.view, h.opened) in
      let p = filter-planned k g u s b e j in
      by (draws-nothing g b)
      (λ y.
      let z : plan-filter k g u s ≡ still Done s = p ∙ rw y in
      rw (y, z) (record { levels = m; is = rw (append-nil said); shape = c; count = rw (append-nil said) n }))
      (λ y.
      let z : plan-filter k g u s ≡ plan-filter-in b k g u s = p ∙ rw y in
      rw (y, z) (filter-some k g u b _ o s said m h (rw z at q) c n))

  -- a done step x from the state s: the engine is done too, and counts as many filter paints
  pub step_after : (x : Step) (js : List ℕ) (o : Story) (s : State) (said : List Line) (m : ℕ) → Stands v o s → (plan x js s).refused ≡ Done → Limits (plan x js s)
      → Fits x o → Shape o.open-layers m → length said ≡ o.paints + o.layers
      → After ws (tell-step w v row tile x o) (said ++ step_lines w v row tile x o) (length (plan x js s).attrs.filters)
      (tell-at w v row tile x (telling ws o said m (length s.attrs.filters)))
  unfolding plan tell-step step_lines tell-at Fits
  step_after (a-fill ps ss d) js o s said m h r q f c n = fill_step ps ss d o s said m h q f c n
  step_after (a-push p) js o s said m h r q f c n = push_step p o s said m h q c n
  step_after (a-pop ss) js o s said m h r q f c n = pop_step o.open-layers ss js o s said m h refl s.layers h.opened q f c n
  step_after (a-filter k g u) js o s said m h r q f c n = filter-step k g u o s said m h r q c n
