-- Editing one line: a row follows from what its own segments say, step by step.
use Prim.Native.Nat.{ℕ, suc, ◌+◌, ◌-◌, ◌/◌, ◌<◌}
use native.Mathlib.Nat.{zero-add}
use native.Mathlib.Omega.{arith}
use mathlib.Core.Path.{◌≡◌, refl, sym, ◌∙◌, ap}
use mathlib.Core.Bool.{Bool, true, false, ◌&&◌, cond}
use Rattle.std.specs.Prelude.{Option, None, Some}
use mathlib.Core.List.{List, [], ◌∷◌, ◌++◌, map}
use lib.ListN.{length, get_or, replicate, length-replicate}
use lib.Dec.{leb, ltb, eqb}
use borrow.Author.Tests.{eq-eqb, ne_eqb, eqb-true, eqb-false, leb-true}
use Rattle.rules.specs.Lists.{such, keep, some_of, is-empty}
use Rattle.rules.specs.Answers.{Done, BadRecord}
use Rattle.rules.specs.Boxes.{Box, rows_of, span_of, scene-tiles}
use Rattle.rules.specs.Spans.{span, Stretch, cut_to}
use Rattle.rules.specs.Segments.{Segment, Cut, stretch-of, localised, on_row, cut_in, cuts}
use Rattle.rules.specs.Inputs.{Paint, Draw, draw-segments, draw-paint, Clip, Props, Filter, good-filter-fill}
use Rattle.rules.specs.Rows.{Row, fresh-row, row-ops}
use Rattle.rules.specs.Plans.{Frame, bucket, Layer, State, Step, a-fill, a-push, a-pop, a-filter, Act, on, close, pop, Plan, still, clip-box, box_of, eligible, draw-puts, layer-box, clip-segments, clip-thread, closing, filter-box, draws-nothing, plan-fill, plan-push, plan-pop, plan-filter-in, plan-filter, plan}
use Rattle.rules.specs.Steps.{Screen, reset, done, touched}
use Rattle.rules.proofs.All.{and_left, never}
use Rattle.rules.proofs.laws.Changes.{puts-length}
use Rattle.rules_picture.specs.Built.{Built, no_step, then}
use Rattle.rules_picture.specs.Edited as edit
use Rattle.rules_picture.specs.Edited.{on-row, Beside, placeless-draw, placeless-clip, placeless-props, Clips, Edited, SameRow, Row-unchanged, Line-listed}
use Rattle.rules_picture.proofs.Cases.{by}
use Rattle.rules_picture.proofs.Acts.{acts-at, do-acts, row-by-row}
use Rattle.rules_picture.proofs.Listed.{cut-act, in_row, draw-acts, acts-once, such-append}
use Rattle.rules_picture.proofs.Pops.{acts-both, touched-rows, touched-has, close-acts}
use Rattle.rules_picture.proofs.Picture.{row-picture}
use Rattle.rules_picture.proofs.Stepped.{call-done, call-frame, filter_none, filter-some}

module _ (v c : Box) (i : ℕ) where
  -- the cuts on row i are the cuts of the segments in its row of the scene
  cut-in-row : (s : Segment) (k : Option Stretch) → such (in_row i) (localised v s.row (on_row (scene-tiles v c) s k)) ≡ cond (eqb s.row (i + v.y0 / 4)) (localised v s.row (on_row (scene-tiles v c) s k)) []
  unfolding scene-tiles
  cut-in-row s None = by (leb ((v.y0 + c.y0) / 4) s.row && ltb s.row ((v.y0 + c.y1) / 4))
      (λ y. rw y (by (eqb s.row (i + v.y0 / 4)) (λ z. rw z) (λ z. rw z)))
      (λ n. rw n (by (eqb s.row (i + v.y0 / 4)) (λ z. rw z) (λ z. rw z)))
  cut-in-row s (Some k) = by (leb ((v.y0 + c.y0) / 4) s.row && ltb s.row ((v.y0 + c.y1) / 4))
      (λ y.
      let h = leb-true ((v.y0 + c.y0) / 4) s.row (and_left _ _ y) in
      rw y (by (eqb s.row (i + v.y0 / 4))
      (λ z.
      let e = eqb-true s.row (i + v.y0 / 4) z in
      let q : eqb (s.row - v.y0 / 4) i ≡ true = eq-eqb (s.row - v.y0 / 4) i (omega arith) in
      rw (z, q))
      (λ z.
      let e = eqb-false s.row (i + v.y0 / 4) z in
      let q : eqb (s.row - v.y0 / 4) i ≡ false = ne_eqb (s.row - v.y0 / 4) i (λ p. e (omega arith)) in
      rw (z, q))))
      (λ n. rw n (by (eqb s.row (i + v.y0 / 4)) (λ z. rw z) (λ z. rw z)))

  row-cuts : (ss : List Segment) → such (in_row i) (cuts v c ss) ≡ cuts v c (on-row (i + v.y0 / 4) ss)
  unfolding cuts cut_in
  row-cuts [] = refl
  row-cuts (s ∷ ss) =
      let k = cut_to (span (scene-tiles v c).x0 (scene-tiles v c).x1) (stretch-of s) in
      such-append (in_row i) (localised v s.row (on_row (scene-tiles v c) s k)) (cuts v c ss)
      ∙ rw (cut-in-row s k, row-cuts ss) (by (eqb s.row (i + v.y0 / 4)) (λ z. rw z) (λ z. rw z))

-- open layers of the two histories, side by side
data Pairs : List Clips → List Layer → List Layer → Type 0 where
  no_pairs : Pairs [] [] []
  pair : {cs : List Clips} {l m : Layer} {ls ms : List Layer} → placeless-props l.props ≡ placeless-props m.props → l.bounds ≡ m.bounds
      → Pairs cs ls ms → Pairs (record { one = l.props.clip; other = m.props.clip } ∷ cs) (l ∷ ls) (m ∷ ms)

pairs-length : {cs : List Clips} {ls ms : List Layer} → Pairs cs ls ms → length ls ≡ length ms
pairs-length no_pairs = refl
pairs-length (pair e b p) = ap suc (pairs-length p)

pairs-empty : {cs : List Clips} {ls ms : List Layer} → Pairs cs ls ms → is-empty ls ≡ is-empty ms
pairs-empty no_pairs = refl
pairs-empty (pair e b p) = refl

pairs-box : (v : Box) {cs : List Clips} {ls ms : List Layer} → Pairs cs ls ms → clip-box v ls ≡ clip-box v ms
pairs-box v no_pairs = refl
pairs-box v (pair e b p) = b

-- two screens that have row i in common, and all but the other rows
record Both (i : ℕ) (cs : List Clips) (s t : Screen Row) : Type 0 where
  frame : s.state.frame ≡ t.state.frame
  next : s.state.next ≡ t.state.next
  attrs : s.state.attrs ≡ t.state.attrs
  layers : Pairs cs s.state.layers t.state.layers
  row : get_or s.rows i fresh-row ≡ get_or t.rows i fresh-row
  one_there : i < length s.rows
  other_there : i < length t.rows

abbrev has-clip : Option Clip → Bool
has-clip None = false
has-clip (Some c) = true

filter-refused : (n : ℕ) (f : Filter) (q : ℕ) (s : State) → good-filter-fill n f q ≡ false → plan-filter n f q s ≡ still BadRecord s
unfolding plan-filter
filter-refused n f q s y = rw y

module _ (i : ℕ) where
  -- two plans that do the same to row i
  both-done : {cs ds : List Clips} {s t : Screen Row} → Both i cs s t → (p q : Plan) → p.next ≡ q.next → p.attrs ≡ q.attrs → Pairs ds p.layers q.layers
      → acts-at i p.puts ≡ acts-at i q.puts → Both i ds (done Row row-ops p s) (done Row row-ops q t)
  unfolding done
  both-done {s = s} {t = t} h p q n a l e =
      let w = bucket s.state.frame in
      let x = row-by-row Row row-ops w (length p.layers) i fresh-row p.puts s.rows h.one_there in
      let y = row-by-row Row row-ops (bucket t.state.frame) (length q.layers) i fresh-row q.puts t.rows h.other_there in
      let m : do-acts Row row-ops w (length p.layers) (acts-at i p.puts) (get_or s.rows i fresh-row) ≡ do-acts Row row-ops (bucket t.state.frame) (length q.layers) (acts-at i q.puts) (get_or t.rows i fresh-row) =
      rw (e, pairs-length l, h.row, h.frame) in
      record {
        frame = h.frame;
        next = n;
        attrs = a;
        layers = l;
        row = x ∙ m ∙ sym y;
        one_there = rw (puts-length Row row-ops w (length p.layers) p.puts s.rows) h.one_there;
        other_there = rw (puts-length Row row-ops (bucket t.state.frame) (length q.layers) q.puts t.rows) h.other_there;
      }

  fill-both : {cs : List Clips} {s t : Screen Row} → Both i cs s t → (ps : List Paint) (ss ts : List Segment) (d e : Draw)
      → placeless-draw d ≡ placeless-draw e → Beside (i + s.state.frame.viewport.y0 / 4) (draw-segments ss d) (draw-segments ts e)
      → Both i cs (done Row row-ops (plan-fill ps ss d s.state) s) (done Row row-ops (plan-fill ps ts e t.state) t)
  unfolding plan-fill
  fill-both {s = s} {t = t} h ps ss ts d e q b =
      let v = s.state.frame.viewport in
      let own = draw-segments ss d in
      let new = draw-segments ts e in
      let paint : d.paint ≡ e.paint = ap (λ (x : Draw). x.paint) q in
      let blend : d.blend ≡ e.blend = ap (λ (x : Draw). x.blend) q in
      let mask : d.mask ≡ e.mask = ap (λ (x : Draw). x.mask) q in
      let thread : d.thread ≡ e.thread = ap (λ (x : Draw). x.thread) q in
      let panel : d.panel ≡ e.panel = ap (λ (x : Draw). x.panel) q in
      let empty : is-empty own ≡ is-empty new = same-empty own new b.count in
      let el = eligible (is-empty s.state.layers) (draw-paint ps d) d in
      let same : acts-at i (draw-puts el (length s.state.attrs.paints) s.state.next (cuts v (box_of s.state) own))
      ≡ acts-at i (draw-puts el (length s.state.attrs.paints) s.state.next (cuts v (box_of s.state) new)) =
      draw-acts el _ _ i (cuts v (box_of s.state) own)
      ∙ ap (map (cut-act el (length s.state.attrs.paints) s.state.next)) (row-cuts v (box_of s.state) i own ∙ ap (cuts v (box_of s.state)) b.own ∙ sym (row-cuts v (box_of s.state) i new))
      ∙ sym (draw-acts el _ _ i (cuts v (box_of s.state) new)) in
      both-done h (plan-fill ps ss d s.state) (plan-fill ps ts e t.state) (ap (λ n. n + 1) h.next)
      (rw (empty, h.attrs, h.next, h.frame, paint, blend, mask, thread, panel))
      h.layers
      (same ∙ rw (h.attrs, h.next, h.frame, pairs-box t.state.frame.viewport h.layers, pairs-empty h.layers, paint, blend, mask))
    where
      same-empty : {A : Type 0} (xs ys : List A) → length xs ≡ length ys → is-empty xs ≡ is-empty ys
      same-empty [] [] e = refl
      same-empty [] (y ∷ ys) e = absurd (omega arith)
      same-empty (x ∷ xs) [] e = absurd (omega arith)
      same-empty (x ∷ xs) (y ∷ ys) e = refl

  push-both : {cs : List Clips} {s t : Screen Row} → Both i cs s t → (p q : Props) → placeless-props p ≡ placeless-props q
      → Both i (record { one = p.clip; other = q.clip } ∷ cs) (done Row row-ops (plan-push p s.state) s) (done Row row-ops (plan-push q t.state) t)
  unfolding plan-push
  push-both {s = s} {t = t} h p q e =
      let v = s.state.frame.viewport in
      let blend : p.blend ≡ q.blend = ap (λ (x : Props). x.blend) e in
      let bounds : layer-box v (box_of s.state) p.clip ≡ layer-box t.state.frame.viewport (box_of t.state) q.clip =
      rw (h.frame, pairs-box t.state.frame.viewport h.layers) (box-same t.state.frame.viewport (box_of t.state) p.clip q.clip (ap (λ (x : Props). x.clip) e)) in
      both-done h (plan-push p s.state) (plan-push q t.state) h.next h.attrs (pair e bounds h.layers) (rw (bounds, blend))
    where
      box-same : (v b : Box) (c k : Option Clip) → placeless-clip c ≡ placeless-clip k → layer-box v b c ≡ layer-box v b k
      box-same v b None None e = refl
      box-same v b None (Some k) e = never (sym (ap has-clip e))
      box-same v b (Some c) None e = never (ap has-clip e)
      box-same v b (Some c) (Some k) e = ap (layer-box v b) e

  filter-in : {cs : List Clips} {s t : Screen Row} → Both i cs s t → (n : ℕ) (f : Filter) (q : ℕ) (c : Box)
      → Both i cs (done Row row-ops (plan-filter-in c n f q s.state) s) (done Row row-ops (plan-filter-in c n f q t.state) t)
  unfolding plan-filter-in
  filter-in {s = s} {t = t} h n f q c =
      both-done h (plan-filter-in c n f q s.state) (plan-filter-in c n f q t.state) (ap (λ n. n + 1) h.next) (rw (h.attrs, h.next, h.frame)) h.layers (rw h.attrs)

  filter-both : {cs : List Clips} {s t : Screen Row} → Both i cs s t → (n : ℕ) (f : Filter) (q : ℕ)
      → Both i cs (done Row row-ops (plan-filter n f q s.state) s) (done Row row-ops (plan-filter n f q t.state) t)
  filter-both {s = s} {t = t} h n f q =
      let b = filter-box s.state.frame.viewport (box_of s.state) f in
      let c = filter-box t.state.frame.viewport (box_of t.state) f in
      let e : b ≡ c = rw (h.frame, pairs-box t.state.frame.viewport h.layers) in
      by (good-filter-fill n f q)
      (λ y. by (draws-nothing f c)
      (λ z. rw (filter_none n f q s.state y (ap (draws-nothing f) e ∙ z), filter_none n f q t.state y z) (both-done h (still Done s.state) (still Done t.state) h.next h.attrs h.layers refl))
      (λ z. rw (filter-some n f q s.state c e y (ap (draws-nothing f) e ∙ z), filter-some n f q t.state c refl y z) (filter-in h n f q c)))
      (λ y. rw (filter-refused n f q s.state y, filter-refused n f q t.state y) (both-done h (still BadRecord s.state) (still BadRecord t.state) h.next h.attrs h.layers refl))

  -- what closes a layer on the row
  abbrev closers-at : Box → Box → Box → Option Clip → ℕ → List Segment → List Act
  closers-at v own parent None a ss = close (span_of own) None a ∷ []
  closers-at v own parent (Some c) a ss = map (λ (k : Cut). close k.stretch.tiles k.stretch.alpha a) (cuts v parent (on-row (i + v.y0 / 4) (clip-segments (Some c) ss)))

  closing-acts : (v own parent : Box) (c : Option Clip) (a n : ℕ) (ss : List Segment) (rs : List Row)
      → acts-at i (closing c v own parent a ss (touched Row row-ops n 0 rs)) ≡ cond (some_of (eqb i) (touched Row row-ops n 0 rs)) (closers-at v own parent c a ss) []
  unfolding closing
  closing-acts v own parent None a n ss rs =
      acts-once (close (span_of own) None a) i (touched-rows n 0 rs) ∙ by (some_of (eqb i) (touched Row row-ops n 0 rs)) (λ y. rw y) (λ m. rw m)
  closing-acts v own parent (Some c) a n ss rs =
      close-acts a i (touched Row row-ops n 0 rs) (cuts v parent (clip-segments (Some c) ss)) ∙ rw (row-cuts v parent i (clip-segments (Some c) ss))

  -- the puts of a pop on the row: the closing fills if it is touched, then PopBuf
  pop-acts : (v own parent : Box) (c : Option Clip) (a n : ℕ) (ss : List Segment) (rs : List Row) → i < length rs
      → acts-at i (closing c v own parent a ss (touched Row row-ops n 0 rs) ++ map (on pop) (touched Row row-ops n 0 rs))
      ≡ cond (eqb (length (get_or rs i fresh-row).levels) n) (closers-at v own parent c a ss) [] ++ keep (eqb (length (get_or rs i fresh-row).levels) n) pop []
  pop-acts v own parent c a n ss rs h =
      let js = touched Row row-ops n 0 rs in
      let has : some_of (eqb i) js ≡ eqb (length (get_or rs i fresh-row).levels) n = ap (λ m. some_of (eqb m) js) (sym (zero-add i)) ∙ touched-has n 0 i rs h in
      acts-both i (closing c v own parent a ss js) (map (on pop) js)
      ∙ rw (closing-acts v own parent c a n ss rs, acts-once pop i (touched-rows n 0 rs), has)

  clip-same : (v own parent : Box) (c k : Option Clip) (a : ℕ) (ss ts : List Segment) → placeless-clip c ≡ placeless-clip k
      → on-row (i + v.y0 / 4) (clip-segments c ss) ≡ on-row (i + v.y0 / 4) (clip-segments k ts)
      → closers-at v own parent c a ss ≡ closers-at v own parent k a ts
  clip-same v own parent None None a ss ts e b = refl
  clip-same v own parent None (Some k) a ss ts e b = never (sym (ap has-clip e))
  clip-same v own parent (Some c) None a ss ts e b = never (ap has-clip e)
  clip-same v own parent (Some c) (Some k) a ss ts e b = rw b

  -- a done pop of the innermost layers l and m
  pop-in : {cs : List Clips} {s t : Screen Row} → Both i cs s t → (l m : Layer) (ls ms : List Layer) (ss ts : List Segment)
      → placeless-props l.props ≡ placeless-props m.props → l.bounds ≡ m.bounds → {ds : List Clips} → Pairs ds ls ms
      → Beside (i + s.state.frame.viewport.y0 / 4) (clip-segments l.props.clip ss) (clip-segments m.props.clip ts)
      → Both i ds (done Row row-ops (plan-pop (l ∷ ls) ss (touched Row row-ops (suc (length ls)) 0 s.rows) s.state) s)
      (done Row row-ops (plan-pop (m ∷ ms) ts (touched Row row-ops (suc (length ms)) 0 t.rows) t.state) t)
  unfolding plan-pop
  pop-in {s = s} {t = t} h l m ls ms ss ts e b p own =
      let v = s.state.frame.viewport in
      let blend : l.props.blend ≡ m.props.blend = ap (λ (x : Props). x.blend) e in
      let opacity : l.props.opacity ≡ m.props.opacity = ap (λ (x : Props). x.opacity) e in
      let mask : l.props.mask ≡ m.props.mask = ap (λ (x : Props). x.mask) e in
      let panel : l.props.panel ≡ m.props.panel = ap (λ (x : Props). x.panel) e in
      let thread : clip-thread l.props.clip ≡ clip-thread m.props.clip = thread-same l.props.clip m.props.clip (ap (λ (x : Props). x.clip) e) in
      let x = pop-acts v l.bounds (clip-box v ls) l.props.clip (length s.state.attrs.layers) (suc (length ls)) ss s.rows h.one_there in
      let y = pop-acts v l.bounds (clip-box v ls) m.props.clip (length s.state.attrs.layers) (suc (length ls)) ts t.rows h.other_there in
      let same = clip-same v l.bounds (clip-box v ls) l.props.clip m.props.clip (length s.state.attrs.layers) ss ts (ap (λ (x : Props). x.clip) e) own.own in
      let n = suc (length ls) in
      let one = closers-at v l.bounds (clip-box v ls) l.props.clip (length s.state.attrs.layers) ss in
      let other = closers-at v l.bounds (clip-box v ls) m.props.clip (length s.state.attrs.layers) ts in
      let middle : cond (eqb (length (get_or s.rows i fresh-row).levels) n) one [] ++ keep (eqb (length (get_or s.rows i fresh-row).levels) n) pop []
      ≡ cond (eqb (length (get_or t.rows i fresh-row).levels) n) other [] ++ keep (eqb (length (get_or t.rows i fresh-row).levels) n) pop [] = rw (same, h.row) in
      let js = touched Row row-ops n 0 t.rows in
      let last : acts-at i (closing m.props.clip v l.bounds (clip-box v ls) (length s.state.attrs.layers) ts js ++ map (on pop) js)
      ≡ acts-at i (closing m.props.clip t.state.frame.viewport m.bounds (clip-box t.state.frame.viewport ms) (length t.state.attrs.layers) ts (touched Row row-ops (suc (length ms)) 0 t.rows) ++ map (on pop) (touched Row row-ops (suc (length ms)) 0 t.rows)) =
      rw (h.frame, b, pairs-box t.state.frame.viewport p, h.attrs, pairs-length p) in
      both-done h (plan-pop (l ∷ ls) ss (touched Row row-ops (suc (length ls)) 0 s.rows) s.state) (plan-pop (m ∷ ms) ts (touched Row row-ops (suc (length ms)) 0 t.rows) t.state)
      (ap (λ n. n + 1) h.next)
      (rw (h.attrs, h.next, blend, opacity, mask, panel, thread))
      p
      (x ∙ middle ∙ sym y ∙ last)
    where
      thread-same : (c k : Option Clip) → placeless-clip c ≡ placeless-clip k → clip-thread c ≡ clip-thread k
      thread-same None None e = refl
      thread-same None (Some k) e = never (sym (ap has-clip e))
      thread-same (Some c) None e = never (ap has-clip e)
      thread-same (Some c) (Some k) e = ap clip-thread e

  pop-both : {c : Clips} {cs : List Clips} {s t : Screen Row} → Both i (c ∷ cs) s t → {ls ms : List Layer} → Pairs (c ∷ cs) ls ms → (ss ts : List Segment)
      → Beside (i + s.state.frame.viewport.y0 / 4) (clip-segments c.one ss) (clip-segments c.other ts)
      → Both i cs (done Row row-ops (plan-pop ls ss (touched Row row-ops (length ls) 0 s.rows) s.state) s)
      (done Row row-ops (plan-pop ms ts (touched Row row-ops (length ms) 0 t.rows) t.state) t)
  pop-both h (pair {l = l} {m = m} {ls = ls} {ms = ms} e b p) ss ts own = pop-in h l m ls ms ss ts e b p own

module _ (f : Frame) (i : ℕ) where
  abbrev r : ℕ
  r = i + f.viewport.y0 / 4

  both-after : {cs : List Clips} {xs ys : List Step} {s t u v : Screen Row} → Edited r cs xs ys → Both i cs s t → s.state.frame ≡ f
      → Built xs s u → Built ys t v → SameRow i u v
  both-after edit.unedited h e no_step no_step = record { row = h.row; next = h.next; attrs = h.attrs }
  both-after (edit.fill ps ss ts d k q own more) h e (then {s = s} x b) (then {s = t} y c) =
      let one = call-done (a-fill ps ss d) s x in
      let other = call-done (a-fill ps ts k) t y in
      let own' : Beside (i + s.state.frame.viewport.y0 / 4) (draw-segments ss d) (draw-segments ts k) = rw e own in
      both-after more (rw (one.1, other.1) (unfold plan in fill-both i h ps ss ts d k q own')) (call-frame row-ops _ s ∙ e) b c
  both-after (edit.push p q o more) h e (then {s = s} x b) (then {s = t} y c) =
      let one = call-done (a-push p) s x in
      let other = call-done (a-push q) t y in
      both-after more (rw (one.1, other.1) (unfold plan in push-both i h p q o)) (call-frame row-ops _ s ∙ e) b c
  both-after (edit.filter n g q more) h e (then {s = s} x b) (then {s = t} y c) =
      let one = call-done (a-filter n g q) s x in
      let other = call-done (a-filter n g q) t y in
      both-after more (rw (one.1, other.1) (unfold plan in filter-both i h n g q)) (call-frame row-ops _ s ∙ e) b c
  both-after (edit.pop {c = k} ss ts own more) h e (then {s = s} x b) (then {s = t} y c) =
      let one = call-done (a-pop ss) s x in
      let other = call-done (a-pop ts) t y in
      let own' : Beside (i + s.state.frame.viewport.y0 / 4) (clip-segments k.one ss) (clip-segments k.other ts) = rw e own in
      both-after more (rw (one.1, other.1) (unfold plan in pop-both i h h.layers ss ts own')) (call-frame row-ops _ s ∙ e) b c

pub row-unchanged : Row-unchanged
unfolding reset
row-unchanged f i there xs ys e u v b c =
    let n : i < length (replicate (rows_of f.viewport) fresh-row) = rw length-replicate there in
    both-after f i e (record { frame = refl; next = refl; attrs = refl; layers = no_pairs; row = refl; one_there = n; other_there = n }) refl b c

pub line-listed : Line-listed
line-listed f i there xs ys e u v b c t =
    let q = row-unchanged f i there xs ys e u v b c in
    let n = t / bucket f + 1 in
    sym (row-picture f xs u b i t n there (omega arith))
    ∙ rw (q.attrs, q.row) (row-picture f ys v c i t n there (omega arith))
