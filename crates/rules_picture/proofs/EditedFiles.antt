-- Editing one line of a recording: the walks of two recordings that differ in segments outside one row are edits of one another.
use Prim.Native.Nat.{ℕ, zero, suc, ◌+◌, ◌-◌, ◌/◌}
use native.Mathlib.Omega.{arith}
use mathlib.Core.Path.{◌≡◌, refl, sym, ◌∙◌, ap, subst}
use mathlib.Core.Bool.{Bool, true, false, not, cond}
use Rattle.std.specs.Prelude.{Option, None, Some}
use mathlib.Core.List.{List, [], ◌∷◌, ◌++◌, append-nil, append_assoc}
use lib.ListN.{length, get_or, take, drop}
use lib.Dec.{eqb}
use borrow.Author.Tests.{eqb-true, eq-eqb}
use Rattle.rules.specs.Lists.{slice, is_none}
use Rattle.rules.specs.Answers.{Answer, answer, Done}
use Rattle.rules.specs.Segments.{Segment}
use Rattle.rules.specs.Inputs.{Paint, Draw, draw-segments, Clip, Props, Filter, needs-buffer}
use Rattle.rules.specs.Rows.{Row, fresh-row, row-ops}
use Rattle.rules.specs.Plans.{Frame, Layer, Step, a-fill, a-push, a-pop, a-filter, clip-segments}
use Rattle.rules.specs.Steps.{Screen, reset, call}
use Rattle.rules.specs.Recording.{Recording, LayerRec, Node, layer-rec}
use Rattle.rules.specs.Walk.{◌then◌, when, each, props-of, walk-filter, walk-node, walk-nodes, walk-layer, walk-all, frame-of, play-records}
use Rattle.rules.specs.Logged.{Logged, logged-call, walk-logged}
use Rattle.rules.proofs.All.{never}
use Rattle.rules_picture.specs.Built.{Built}
use Rattle.rules_picture.specs.Recorded.{history, said}
use Rattle.rules_picture.specs.Edited as edit
use Rattle.rules_picture.specs.Edited.{Beside, placeless-draw, placeless-clip, placeless-props, placeless-clip-rec, placeless-layer, Clips, Edited, SameRow, Alongside, none, next, EditedFile, Line-edited, Line-painted}
use Rattle.rules_picture.proofs.Cases.{by}
use Rattle.rules_picture.proofs.Walked.{Same, Walks, fill_walks, filter-walks, push-walks, pop-walks, call-deep}
use Rattle.rules_picture.proofs.Recorded.{play-some, records-done, records-walked}
use Rattle.rules_picture.proofs.Turns.{finished-gave}
use Rattle.rules.specs.Plans.{buckets-across}
use Rattle.rules.specs.Painting.{paint-row}
use Rattle.rules.specs.Calls.{bucket-on}
use Rattle.rules_picture.proofs.Edited.{row-unchanged}
use Rattle.rules.specs.Boxes.{Box}
use Rattle.rules.specs.Setups.{frame}

-- two recordings walked
module _ (r : ℕ) (a b : Recording) where
  abbrev Walker : Type 0
  Walker = Logged Row → Answer (Logged Row)

  -- done from s and from t, the walks have added steps to the logs that are edits of one another
  pub record Added (cs ds : List Clips) (g h : Walker) (s t : Logged Row) : Type 0 where
    pub xs : List Step
    pub ys : List Step
    pub one : (g s).value.log ≡ s.log ++ xs
    pub other : (h t).value.log ≡ t.log ++ ys
    pub edits : (zs ws : List Step) → Edited r ds zs ws → Edited r cs (xs ++ zs) (ys ++ ws)
    pub count : length (g s).value.screen.state.layers ≡ length ds

  abbrev Adds : List Clips → List Clips → Walker → Walker → Type 0
  Adds cs ds g h = (s t : Logged Row) → length s.screen.state.layers ≡ length cs → (g s).number ≡ Done → (h t).number ≡ Done → Added cs ds g h s t

  then-done : (f g : Walker) (s : Logged Row) → ((◌then◌ f g) s).number ≡ Done → ((f s).number ≡ Done) × ((◌then◌ f g) s ≡ g (f s).value)
  unfolding ◌then◌
  then-done f g s e = by (eqb (f s).number Done)
      (λ y. (eqb-true _ Done y, rw y))
      (λ n. never (sym (eq-eqb (f s).number Done (rw n at e)) ∙ n))

  nothing-adds : {cs : List Clips} → Adds cs cs (λ s. answer Done s) (λ s. answer Done s)
  nothing-adds s t n e h = record { xs = []; ys = []; one = sym (append-nil s.log); other = sym (append-nil t.log); edits = λ zs ws x. x; count = n }

  then-adds : {cs ds es : List Clips} {f g f' g' : Walker} → Adds cs ds f f' → Adds ds es g g' → Adds cs es (◌then◌ f g) (◌then◌ f' g')
  then-adds {f = f} {g = g} {f' = f'} {g' = g'} p q s t n e h =
      let (d, v) = then-done f g s e in
      let (d', v') = then-done f' g' t h in
      let k = p s t n d d' in
      let m = q (f s).value (f' t).value k.count (rw v at e) (rw v' at h) in
      record {
        xs = k.xs ++ m.xs;
        ys = k.ys ++ m.ys;
        one = rw v (m.one ∙ ap (λ (l : List Step). l ++ m.xs) k.one ∙ append_assoc s.log k.xs m.xs);
        other = rw v' (m.other ∙ ap (λ (l : List Step). l ++ m.ys) k.other ∙ append_assoc t.log k.ys m.ys);
        edits = λ zs ws x. rw (append_assoc k.xs m.xs zs, append_assoc k.ys m.ys ws) (k.edits (m.xs ++ zs) (m.ys ++ ws) (m.edits zs ws x));
        count = rw v m.count;
      }

  when-adds : {cs : List Clips} (c : Bool) {f g : Walker} → Adds cs cs f g → Adds cs cs (when c f) (when c g)
  unfolding when
  when-adds true p = p
  when-adds false p = nothing-adds

  each-adds : {cs : List Clips} {A : Type 0} {P : A → A → Type 0} {f g : A → Walker} → ((x y : A) → P x y → Adds cs cs (f x) (g y)) → {xs ys : List A} → Alongside P xs ys → Adds cs cs (each f xs) (each g ys)
  unfolding each
  each-adds p none = nothing-adds
  each-adds p (next {x = x} {y = y} q qs) = then-adds (p x y q) (each-adds p qs)

  abbrev G : Step → Walker
  G = logged-call Row row-ops

  step-adds : {cs ds : List Clips} (x y : Step) → ((zs ws : List Step) → Edited r ds zs ws → Edited r cs (x ∷ zs) (y ∷ ws))
      → ((s : Logged Row) → length s.screen.state.layers ≡ length cs → (call Row row-ops x s.screen).number ≡ Done → length (call Row row-ops x s.screen).value.state.layers ≡ length ds)
      → Adds cs ds (G x) (G y)
  unfolding logged-call
  step-adds x y e c s t k n m = record { xs = x ∷ []; ys = y ∷ []; one = refl; other = refl; edits = e; count = c s k n }

  -- how many layers are open after a done step
  still-open : (cs : List Clips) (x : Step) → ((ls : List Layer) → Walks (Same ls) (Same ls) (G x) (call Row row-ops x)) → (s : Logged Row) → length s.screen.state.layers ≡ length cs
      → (call Row row-ops x s.screen).number ≡ Done → length (call Row row-ops x s.screen).value.state.layers ≡ length cs
  unfolding logged-call
  still-open cs x w s k d = ap (λ (ls : List Layer). length ls) (((w s.screen.state.layers).at s refl).layers d) ∙ k

  one-open : (cs : List Clips) (p : Props) (c : Clips) (s : Logged Row) → length s.screen.state.layers ≡ length cs
      → (call Row row-ops (a-push p) s.screen).number ≡ Done → length (call Row row-ops (a-push p) s.screen).value.state.layers ≡ length (c ∷ cs)
  unfolding logged-call
  one-open cs p c s k d = ap (λ (ls : List Layer). length ls) (((push-walks p s.screen.state.layers).at s refl).layers d).is ∙ ap suc k

  one-closed : (cs : List Clips) (ss : List Segment) (c : Clips) (s : Logged Row) → length s.screen.state.layers ≡ length (c ∷ cs)
      → (call Row row-ops (a-pop ss) s.screen).number ≡ Done → length (call Row row-ops (a-pop ss) s.screen).value.state.layers ≡ length cs
  unfolding logged-call
  one-closed cs ss c s k d = go s.screen.state.layers refl
    where
      go : (ls : List Layer) → s.screen.state.layers ≡ ls → length (call Row row-ops (a-pop ss) s.screen).value.state.layers ≡ length cs
      go [] e = let z : length s.screen.state.layers ≡ 0 = ap (λ (ls : List Layer). length ls) e in absurd (omega arith)
      go (l ∷ ls) e =
          let z : length s.screen.state.layers ≡ suc (length ls) = ap (λ (ms : List Layer). length ms) e in
          ap (λ (ms : List Layer). length ms) (((pop-walks ss ls).at s (record { layer = l; is = e })).layers d) ∙ omega arith

  module _ (same : EditedFile r a b) where
    alongside-take : {A : Type 0} {P : A → A → Type 0} (n : ℕ) {xs ys : List A} → Alongside P xs ys → Alongside P (take n xs) (take n ys)
    alongside-take zero p = none
    alongside-take (suc n) none = none
    alongside-take (suc n) (next q p) = next q (alongside-take n p)

    alongside-drop : {A : Type 0} {P : A → A → Type 0} (n : ℕ) {xs ys : List A} → Alongside P xs ys → Alongside P (drop n xs) (drop n ys)
    alongside-drop zero p = p
    alongside-drop (suc n) none = none
    alongside-drop (suc n) (next q p) = alongside-drop n p

    alongside-at : {A : Type 0} {P : A → A → Type 0} (n : ℕ) (d : A) → P d d → {xs ys : List A} → Alongside P xs ys → P (get_or xs n d) (get_or ys n d)
    alongside-at n d z none = z
    alongside-at zero d z (next q p) = q
    alongside-at (suc n) d z (next q p) = alongside-at n d z p

    abbrev LayersMatch : LayerRec → LayerRec → Type 0
    LayersMatch l m = (placeless-layer l ≡ placeless-layer m) × Beside r (slice l.clip.start l.clip.end a.segments) (slice m.clip.start m.clip.end b.segments)

    no-layer-matches : LayersMatch (layer-rec []) (layer-rec [])
    no-layer-matches = (refl, record { count = refl; own = refl })

    -- what a push and a pop go by
    clip-match : (b : Bool) (c k : Clip) → placeless-clip-rec c ≡ placeless-clip-rec k → placeless-clip (cond b (Some c) None) ≡ placeless-clip (cond b (Some k) None)
    clip-match true c k e = ap Some e
    clip-match false c k e = refl

    props-match : (l m : LayerRec) → LayersMatch l m → placeless-props (props-of l) ≡ placeless-props (props-of m)
    props-match l m h =
        let blend : l.blend ≡ m.blend = ap (λ (x : LayerRec). x.blend) h.0 in
        let opacity : l.opacity ≡ m.opacity = ap (λ (x : LayerRec). x.opacity) h.0 in
        let mask : l.mask ≡ m.mask = ap (λ (x : LayerRec). x.mask) h.0 in
        let flag : l.flag ≡ m.flag = ap (λ (x : LayerRec). x.flag) h.0 in
        let panel : l.panel ≡ m.panel = ap (λ (x : LayerRec). x.panel) h.0 in
        rw (blend, opacity, mask, flag, panel, clip-match (eqb m.flag 1) l.clip m.clip (ap (λ (x : LayerRec). x.clip) h.0))

    needs-match : (p q : Props) → placeless-props p ≡ placeless-props q → needs-buffer p ≡ needs-buffer q
    needs-match p q e =
        let blend : p.blend ≡ q.blend = ap (λ (x : Props). x.blend) e in
        let opacity : p.opacity ≡ q.opacity = ap (λ (x : Props). x.opacity) e in
        let mask : p.mask ≡ q.mask = ap (λ (x : Props). x.mask) e in
        rw (blend, opacity, mask, none-match p.clip q.clip (ap (λ (x : Props). x.clip) e))
      where
        none-match : (c k : Option Clip) → placeless-clip c ≡ placeless-clip k → is_none c ≡ is_none k
        none-match None None e = refl
        none-match None (Some k) e = ap is_none e
        none-match (Some c) None e = ap is_none e
        none-match (Some c) (Some k) e = refl

    clip-segments-match : (l m : LayerRec) → LayersMatch l m → Beside r (clip-segments (props-of l).clip a.segments) (clip-segments (props-of m).clip b.segments)
    clip-segments-match l m h =
        let flag : l.flag ≡ m.flag = ap (λ (x : LayerRec). x.flag) h.0 in
        by (eqb m.flag 1)
        (λ y. rw (flag, y) h.1)
        (λ n. rw (flag, n) (record { count = refl; own = refl }))

    abbrev clips-of : LayerRec → LayerRec → Clips
    clips-of l m = record { one = (props-of l).clip; other = (props-of m).clip }

    push-adds : {cs : List Clips} (l m : LayerRec) → LayersMatch l m → Adds cs (clips-of l m ∷ cs) (G (a-push (props-of l))) (G (a-push (props-of m)))
    push-adds l m h = step-adds _ _ (λ zs ws x. edit.push (props-of l) (props-of m) (props-match l m h) x) (one-open _ (props-of l) (clips-of l m))

    pop-adds : {cs : List Clips} (l m : LayerRec) → LayersMatch l m → Adds (clips-of l m ∷ cs) cs (G (a-pop a.segments)) (G (a-pop b.segments))
    pop-adds l m h = step-adds _ _ (λ zs ws x. edit.pop a.segments b.segments (clip-segments-match l m h) x) (one-closed _ a.segments (clips-of l m))

    filter-adds : {cs : List Clips} (n k : ℕ) (f g : Filter) (p q : ℕ) → n ≡ k → f ≡ g → p ≡ q → Adds cs cs (G (a-filter n f p)) (G (a-filter k g q))
    filter-adds n k f g p q e h i = rw (e, h, i) (step-adds _ _ (λ zs ws x. edit.filter k g q x) (still-open _ _ (filter-walks k g q)))

    own-filter-adds : {cs : List Clips} (l m : LayerRec) → LayersMatch l m → Adds cs cs (G (a-filter (length a.paints) l.filter l.panel)) (G (a-filter (length b.paints) m.filter m.panel))
    own-filter-adds l m h = filter-adds (length a.paints) (length b.paints) l.filter m.filter l.panel m.panel (ap (λ (x : List Paint). length x) same.paints) (ap (λ (x : LayerRec). x.filter) h.0) (ap (λ (x : LayerRec). x.panel) h.0)

    layer-filter-adds : {cs : List Clips} (l m : LayerRec) → LayersMatch l m → Adds cs cs (walk-filter (Logged Row) G a l) (walk-filter (Logged Row) G b m)
    unfolding walk-filter when
    layer-filter-adds l m h =
        by (needs-buffer (props-of m))
        (λ y. rw (needs-match (props-of l) (props-of m) (props-match l m h), y) (then-adds (then-adds (push-adds l m h) (own-filter-adds l m h)) (pop-adds l m h)))
        (λ n. rw (needs-match (props-of l) (props-of m) (props-match l m h), n) (then-adds (then-adds nothing-adds (own-filter-adds l m h)) nothing-adds))

    same-all : (ns : List Node) → Alongside (λ (x y : Node). x ≡ y) ns ns
    same-all [] = none
    same-all (n ∷ ns) = next refl (same-all ns)

    same-nodes : (i k j l : ℕ) → i ≡ k → j ≡ l → (ms ns : List Node) → ms ≡ ns → Alongside (λ (x y : Node). x ≡ y) (slice i j ms) (slice k l ns)
    same-nodes i k j l e h ms ns q = rw (e, h, q) (same-all (slice k l ns))

    fill-adds : {cs : List Clips} (ps qs : List Paint) → ps ≡ qs → (d k : Draw) → placeless-draw d ≡ placeless-draw k → Beside r (draw-segments a.segments d) (draw-segments b.segments k)
        → Adds cs cs (G (a-fill ps a.segments d)) (G (a-fill qs b.segments k))
    fill-adds ps qs e d k q o = rw e (step-adds _ _ (λ zs ws x. edit.fill qs a.segments b.segments d k q o x) (still-open _ _ (fill_walks qs a.segments d)))

    module _ (f g : LayerRec → Walker) {cs : List Clips} (p : (l m : LayerRec) → LayersMatch l m → Adds cs cs (f l) (g m)) where
      draws-add : (i k j l : ℕ) → i ≡ k → j ≡ l → Adds cs cs (each (λ (d : Draw). G (a-fill a.paints a.segments d)) (slice i j a.draws)) (each (λ (d : Draw). G (a-fill b.paints b.segments d)) (slice k l b.draws))
      draws-add i k j l e h =
          rw (e, h) (each-adds (λ d n q. fill-adds a.paints b.paints same.paints d n q.0 q.1) (alongside-take (l - k) (alongside-drop k same.draws)))

      layer-at-adds : (m n : ℕ) → m ≡ n → Adds cs cs (when (not (eqb m 0)) (f (get_or a.layers (m - 1) (layer-rec [])))) (when (not (eqb n 0)) (g (get_or b.layers (n - 1) (layer-rec []))))
      layer-at-adds m n e = rw e (when-adds (not (eqb n 0)) (p _ _ (alongside-at (n - 1) (layer-rec []) no-layer-matches same.layers)))

      node-adds : (m n : Node) → m ≡ n → Adds cs cs (walk-node (Logged Row) G a f m) (walk-node (Logged Row) G b g n)
      unfolding walk-node
      node-adds m n e =
          then-adds (draws-add m.start n.start m.end n.end (ap (λ (x : Node). x.start) e) (ap (λ (x : Node). x.end) e)) (layer-at-adds m.layer n.layer (ap (λ (x : Node). x.layer) e))

      nodes-add : (i k j l : ℕ) → i ≡ k → j ≡ l → Adds cs cs (walk-nodes (Logged Row) G a f i j) (walk-nodes (Logged Row) G b g k l)
      unfolding walk-nodes
      nodes-add i k j l e h = each-adds node-adds (same-nodes i k j l e h a.nodes b.nodes same.nodes)

    -- with 16 layers open no push is done
    full-adds : {cs : List Clips} (p q : Props) → length cs ≡ 16 → Adds cs cs (G (a-push p)) (G (a-push q))
    unfolding logged-call
    full-adds {cs} p q c s t k e h =
        let n = one-open cs p (record { one = None; other = None }) s k e in
        let m = call-deep (a-push p) s.screen e in
        absurd (omega arith)

    layer-adds : (d : ℕ) {cs : List Clips} → length cs + d ≡ 16 → (l m : LayerRec) → LayersMatch l m → Adds cs cs (walk-layer (Logged Row) G a d l) (walk-layer (Logged Row) G b d m)
    unfolding walk-layer walk-filter
    layer-adds zero c l m h =
        rw (ap (λ (x : LayerRec). x.kind) h.0) (then-adds (when-adds (eqb m.kind 0) (full-adds (props-of l) (props-of m) (omega arith))) (when-adds (eqb m.kind 1) (layer-filter-adds l m h)))
    layer-adds (suc d) c l m h =
        rw (ap (λ (x : LayerRec). x.kind) h.0) (then-adds
        (when-adds (eqb m.kind 0) (then-adds (then-adds (push-adds l m h) (nodes-add (walk-layer (Logged Row) G a d) (walk-layer (Logged Row) G b d) (layer-adds d (omega arith)) l.start m.start l.end m.end (ap (λ (x : LayerRec). x.start) h.0) (ap (λ (x : LayerRec). x.end) h.0))) (pop-adds l m h)))
        (when-adds (eqb m.kind 1) (layer-filter-adds l m h)))

    pub walk-adds : Adds [] [] (walk-all (Logged Row) G a) (walk-all (Logged Row) G b)
    unfolding walk-all
    walk-adds = nodes-add (walk-layer (Logged Row) G a 16) (walk-layer (Logged Row) G b 16) (layer-adds 16 refl) a.start b.start a.end b.end same.start same.end

-- the histories of two recordings that are walked to their ends from the same reset
pub edited-histories : (r : ℕ) (a b : Recording) (f g : Frame) → f ≡ g → EditedFile r a b
    → (walk-logged Row row-ops fresh-row f a).number ≡ Done → (walk-logged Row row-ops fresh-row g b).number ≡ Done
    → Edited r [] (walk-logged Row row-ops fresh-row f a).value.log (walk-logged Row row-ops fresh-row g b).value.log
unfolding walk-logged reset
edited-histories r a b f g fit same d e =
    let k = walk-adds r a b same (record { screen = reset fresh-row f; log = [] }) (record { screen = reset fresh-row g; log = [] }) refl d e in
    rw (k.one, k.other) (rw (append-nil k.xs, append-nil k.ys) at (k.edits [] [] edit.unedited))

pub line-edited : Line-edited
line-edited p old new ws vs x y d e i there same =
    let a = said x in
    let b = said y in
    let f = frame-of p a in
    let fit : frame-of p a ≡ frame-of p b = ap (λ (v : Box). frame p.setup v) same.viewport in
    let one = play-some p old ws x.parts x.formed in
    let other = play-some p new vs y.parts y.formed in
    let d' = rw one at d in
    let e' = rw other at e in
    let h = edited-histories (i + f.viewport.y0 / 4) a b f (frame-of p b) fit same (records-walked p old a d') (records-walked p new b e') in
    let other-built = (records-done p new b e').0 in
    let from-f : Built (history p b) (reset fresh-row f) (play-records (Screen Row) (call Row row-ops) (reset fresh-row) p new b).value =
    subst (λ (g : Frame). Built (history p b) (reset fresh-row g) (play-records (Screen Row) (call Row row-ops) (reset fresh-row) p new b).value) (sym fit) other-built in
    rw (one, other) (row-unchanged f i there (history p a) (history p b) h _ _ (records-done p old a d').0 from-f)

-- painting, by any turns
pub line-painted : Line-painted
line-painted k m i same frames one other there here ts us d e =
    let both : paint-row (bucket-on k) k.screen.state.attrs (buckets-across k.screen.state.frame) (get_or k.screen.rows i fresh-row)
    ≡ paint-row (bucket-on m) m.screen.state.attrs (buckets-across m.screen.state.frame) (get_or m.screen.rows i fresh-row) = rw (frames, same.attrs, same.row) in
    finished-gave ts k i one there d
    ∙ both
    ∙ sym (finished-gave us m i other here e)
