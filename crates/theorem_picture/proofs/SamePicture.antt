-- What a painted row comes to at the words is what it comes to by the rules.
use Rattle.std.proofs.Common.{ℕ, zero, suc, ◌+◌, ◌*◌, ◌/◌, ◌<◌, arith, ◌≡◌, refl, sym, ap, ◌∙◌, true, ◌&&◌, cond, List, [], ◌∷◌, ◌++◌, map, eqb, length, get_or, replicate, eqb-true}
use Rattle.sizes.specs.Sizes.{piece-size}
use Rattle.rules.specs.Lists.{join}
use Rattle.rules.specs.Answers.{Answer, Done}
use Rattle.rules.specs.Blends.{destructive}
use Rattle.rules.specs.Attributes.{PaintAttr, no-paint, LayerAttr, no-layer}
use Rattle.rules.specs.Painting.{Piece, Painter, Painted, begin, paint-id, layer-id, received}
use Rattle.rules.specs.Calls.{Canvas, begin-call, painter-of, paint-call}
use Rattle.screen.specs.Attributes.{paint-attr-words}
use Rattle.screen.specs.Tables.{ScreenLent}
use Rattle.refine_steps.specs.Lent.{lent_of, table, attr-words}
use Rattle.refine_paint.specs.Canvases.{painting-of, WholeCanvas}
use Rattle.refine_paint.proofs.Whole.{begin-whole, paint-whole}
use Rattle.rules_picture.specs.Colours.{Colours, drawn, nested, step-drawn, turns-drawn, Gentle}
use Rattle.rules_picture.proofs.Cases.{by}
use Rattle.rules_picture.proofs.Turns.{call-given, call-own, call-count, begun-there}
use Rattle.rules_picture.proofs.CompactedFollows.{kept-on}
use Rattle.rules_picture.proofs.Inside.{kept-colours}
use Rattle.rules_picture.specs.Turns.{Gave}
use Rattle.theorem_picture.specs.Reached.{begin-at, paint-out, paint-at}
use Rattle.theorem_picture.specs.Standing.{canvas-words}
use Rattle.theorem_picture.specs.Turns.{Turn, turn-of, pieces-in}
use Rattle.theorem_picture.specs.Colours.{nesting-at, paint-id-at, layer-id-at, words-drawn, Gentle-at, SamePicture, RecordingSame}
use Rattle.theorem_picture.specs.Picture.{finished}
use Rattle.theorem_picture.proofs.Words.{paint-words}
use Rattle.theorem_picture.proofs.Reached.{reached, alone-reached}
use Rattle.theorem_picture.proofs.Answers.{begin-answer}
use Rattle.theorem_picture.proofs.Turns.{gave-same}
use Rattle.theorem_picture.proofs.Picture.{finished-rules}

get_or-zeros : (n i : ℕ) → ◌≡◌ {A = ℕ} (get_or (replicate {A = ℕ} n 0) i 0) 0
get_or-zeros zero i = refl
get_or-zeros (suc n) zero = refl
get_or-zeros (suc n) (suc i) = get_or-zeros n i

-- the nesting word of a row
nesting-in : (ps : List Painter) (r : ℕ) → r < length ps → get_or (painting-of ps) (r * 2 + 1) 0 ≡ (get_or ps r (begin 0)).nesting
nesting-in [] r h = absurd (omega arith)
nesting-in (p ∷ ps) zero h = refl
nesting-in (p ∷ ps) (suc r) h =
    let e : suc r * 2 + 1 ≡ suc (suc (r * 2 + 1)) = omega arith in
    rw e (nesting-in ps r (omega arith))

pub nesting-words : (k : Canvas) (r : ℕ) → r < length k.painters → nesting-at (canvas-words k) r ≡ (painter-of k r).nesting
unfolding lent_of
nesting-words k r h = nesting-in k.painters r h

-- the compose word and the id word of a layer attribute
compose-in : (xs : List LayerAttr) (zs : List ℕ) (i : ℕ) → i < length xs → get_or (join attr-words xs ++ zs) (i * 7 + 1) 0 ≡ (get_or xs i no-layer).blend.compose
compose-in [] zs i h = absurd (omega arith)
compose-in (a ∷ xs) zs zero h = refl
compose-in (a ∷ xs) zs (suc i) h =
    let e : suc i * 7 + 1 ≡ suc (suc (suc (suc (suc (suc (suc (i * 7 + 1))))))) = omega arith in
    rw e (compose-in xs zs i (omega arith))

layer-id-in : (xs : List LayerAttr) (n i : ℕ) → get_or (join attr-words xs ++ replicate n 0) (i * 7 + 3) 0 ≡ (get_or xs i no-layer).id
layer-id-in [] n i = get_or-zeros n (i * 7 + 3)
layer-id-in (a ∷ xs) n zero = refl
layer-id-in (a ∷ xs) n (suc i) =
    let e : suc i * 7 + 3 ≡ suc (suc (suc (suc (suc (suc (suc (i * 7 + 3))))))) = omega arith in
    rw e (layer-id-in xs n i)

-- the id word of a paint attribute
paint-id-in : (xs : List PaintAttr) (n i : ℕ) → get_or (join paint-attr-words xs ++ replicate n 0) (i * 9 + 4) 0 ≡ (get_or xs i no-paint).id
paint-id-in [] n i = get_or-zeros n (i * 9 + 4)
paint-id-in (a ∷ xs) n zero = refl
paint-id-in (a ∷ xs) n (suc i) =
    let e : suc i * 9 + 4 ≡ suc (suc (suc (suc (suc (suc (suc (suc (suc (i * 9 + 4))))))))) = omega arith in
    rw e (paint-id-in xs n i)

pub paint-id-words : (k : Canvas) (i : ℕ) → paint-id-at (canvas-words k) i ≡ paint-id k.screen.state.attrs i
unfolding lent_of table
paint-id-words k i = paint-id-in k.screen.state.attrs.paints _ i

pub layer-id-words : (k : Canvas) (i : ℕ) → layer-id-at (canvas-words k) i ≡ layer-id k.screen.state.attrs i
unfolding lent_of table
layer-id-words k i = layer-id-in k.screen.state.attrs.layers _ i

module _ {B : Type 0} (c : Colours B) (row tile : ℕ) where
  drawn-words : (ts : List Turn) (k : Canvas) → WholeCanvas k → row < length k.painters → (bs : List B)
      → words-drawn c row tile ts (canvas-words k) bs ≡ turns-drawn c row tile (map turn-of ts) k bs
  unfolding words-drawn turns-drawn
  drawn-words [] k w h bs = refl
  drawn-words (t ∷ ts) k w h bs =
      let n = length t.list / piece-size in
      let g = paint-call t.row n k in
      let j = g.value.canvas in
      let o = paint-out t.row t.list (canvas-words k) in
      let there : row < length j.painters = rw (call-count t.row n k) h in
      let num : o.answer.number ≡ g.number = ap (λ (x : Gave). x.number) (gave-same k w t) in
      let pcs : pieces-in o.answer.pieces o.list ≡ g.value.result.pieces = ap (λ (x : Gave). x.pieces) (gave-same k w t) in
      let next : paint-at t.row t.list (canvas-words k) ≡ canvas-words j = paint-words k w t.row t.list in
      let was : nesting-at (canvas-words k) row ≡ (painter-of k row).nesting = nesting-words k row h in
      let now : eqb t.row row ≡ true → eqb g.number Done ≡ true → nesting-at (canvas-words j) row ≡ g.value.result.painter.nesting =
      λ y d.
      let i = eqb-true t.row row y in
      let q : t.row < length k.painters = rw i h in
      nesting-words j row there
      ∙ ap (λ (m : ℕ). (painter-of j m).nesting) (sym i)
      ∙ ap (λ (p : Painter). p.nesting) (call-own t.row n k q d)
      ∙ sym (ap (λ (x : Painted). x.painter.nesting) (call-given t.row n k d).0) in
      let same : cond (eqb t.row row && eqb o.answer.number Done) (nested c (nesting-at (canvas-words k) row) (nesting-at (paint-at t.row t.list (canvas-words k)) row) (drawn c (received tile (pieces-in o.answer.pieces o.list)) bs)) bs
      ≡ cond (eqb t.row row && eqb g.number Done) (step-drawn c tile (painter-of k row) g.value.result bs) bs =
      by (eqb t.row row)
      (λ y. by (eqb g.number Done)
      (λ d.
      rw (num, y, d)
      (ap (λ (m : ℕ). nested c m (nesting-at (paint-at t.row t.list (canvas-words k)) row) (drawn c (received tile (pieces-in o.answer.pieces o.list)) bs)) was
      ∙ ap (λ (m : ℕ). nested c (painter-of k row).nesting m (drawn c (received tile (pieces-in o.answer.pieces o.list)) bs)) (ap (λ (l : ScreenLent). nesting-at l row) next ∙ now y d)
      ∙ ap (λ (ps : List Piece). nested c (painter-of k row).nesting g.value.result.painter.nesting (drawn c (received tile ps) bs)) pcs))
      (λ d. rw (num, y, d)))
      (λ y. rw y) in
      ap (λ (l : ScreenLent). words-drawn c row tile ts l (cond (eqb t.row row && eqb o.answer.number Done) (nested c (nesting-at (canvas-words k) row) (nesting-at (paint-at t.row t.list (canvas-words k)) row) (drawn c (received tile (pieces-in o.answer.pieces o.list)) bs)) bs)) next
      ∙ ap (words-drawn c row tile ts (canvas-words j)) same
      ∙ drawn-words ts j (paint-whole k w t.row n) there _

  pub gentle-words : (k : Canvas) → Gentle-at c (canvas-words k) → Gentle c k.screen.state.attrs
  unfolding lent_of table
  gentle-words k g i h e a b = g i (ap destructive (compose-in k.screen.state.attrs.layers (replicate _ 0) i h) ∙ e) a b

pub same-picture : {B : Type 0} → SamePicture B
same-picture {B} c f xs l h e ts r t there on fin op g =
    let s = reached h in
    let k = s.canvas in
    let q = begin-answer s in
    let d : (begin-call k).number ≡ Done = sym (ap (λ (a : Answer ScreenLent). a.number) q) ∙ e in
    let v : (begin-at l).value ≡ canvas-words (begin-call k).value = ap (λ (a : Answer ScreenLent). a.value) q in
    let w = begin-whole k s.whole in
    let row = begun-there k r d (kept-on f xs k.screen s.built r there).1 in
    ap (λ (m : ScreenLent). words-drawn c r t ts m (c.blank ∷ [])) v
    ∙ drawn-words c r t ts (begin-call k).value w row (c.blank ∷ [])
    ∙ kept-colours c f xs k s.built d (map turn-of ts) r t there on (finished-rules ts (begin-call k).value w r row (sym (ap (finished r ts) v) ∙ fin)) op
    (gentle-words c r t k (rw s.same at g))

pub recording-same : {B : Type 0} → RecordingSame B
recording-same c ws q l a ts r t there on fin op g = same-picture c _ _ _ (alone-reached _ _ _ a.reached) a.begins ts r t there on fin op g
