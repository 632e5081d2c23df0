-- A row painted to its end, seen from the tile t: the newest depth fill that covers its bucket, then the commands that are no older.
use Rattle.std.proofs.Common.{ℕ, zero, suc, ◌+◌, ◌-◌, ◌/◌, ◌≤◌, ◌<◌, zero-add, suc-add, add-zero, add-suc, le_refl, add-one, arith, ◌≡◌, refl, sym, ◌∙◌, ap, Bool, true, false, ◌&&◌, not, Option, None}
use Rattle.std.proofs.Common.{List, [], ◌∷◌, ◌++◌, map, append_assoc, append-nil, length, get_or, drop, replicate, drop_of_length-le, drop-cons, leb, ltb, eqb, lt-ltb, le-ltb, ltb-true, ltb-false}
use Rattle.std.proofs.Common.{ne_eqb}
use native.Mathlib.Nat.{sub-zero}
use mathlib.Core.List.{map-append}
use lib.ListN.{length-replicate}
use Rattle.rules.specs.Lists.{such, keep, some_of, is-empty}
use Rattle.rules.specs.Spans.{Span, span, covers}
use Rattle.rules.specs.Commands.{Command, paint-fill, layer-fill, push-buf, pop-buf, DepthFill}
use Rattle.rules.specs.Attributes.{Attrs}
use Rattle.rules.specs.Rows.{Row}
use Rattle.rules.specs.Depth.{write, visible-runs}
use Rattle.rules.specs.Painting.{Piece, fill-piece, Painter, Painted, Entry, begin, no-fill, paint-id, layer-id, paint-panel, layer-panel, received, paint-when, paint-depth, paint-fill-runs, paint-command, paint-step, paint-steps, paint-row}
use Rattle.rules.specs.Plain.{Told}
use Rattle.rules.proofs.All.{All, nil, cons, all_drop, never}
use Rattle.rules_picture.proofs.Cases.{by}
use Rattle.rules_picture.proofs.Newest.{newest, after-length, holds-newest, write-zero, painter-after, stands, fill-at, next-is, painted-newest}
use Rattle.rules_picture.proofs.Shown.{hides-of, newest-hide, hider}
use Rattle.rules_picture.proofs.Pieces.{entry_in, received-append, fill-received, depth-received}

-- the entry of a told
abbrev pub entry-told : Told → Entry
entry-told u = u.entry

-- the test of the second pass
abbrev pub no-older : ℕ → Told → Bool
no-older b u = leb b u.id

module _ {A : Type 0} where
  cons_head : {x y : A} {xs ys : List A} → (x ∷ xs) ≡ (y ∷ ys) → x ≡ y
  cons_head {x} e = ap (λ (l : List A). get_or l 0 x) e

  pub cons_tail : {x y : A} {xs ys : List A} → (x ∷ xs) ≡ (y ∷ ys) → xs ≡ ys
  cons_tail e = ap (λ (l : List A). drop 1 l) e

  nil-cons : {x : A} {xs : List A} → [] ≡ (x ∷ xs) → ⊥
  nil-cons e = never (ap is-empty e)

-- the commands from the jth on: the first of them, and the others
pub drop_head : (j : ℕ) (xs : List Command) (c : Command) (cs : List Command) → drop j xs ≡ c ∷ cs → (get_or xs j pop-buf ≡ c) × (drop (suc j) xs ≡ cs) × (j < length xs)
drop_head j xs c cs e = by (ltb j (length xs))
    (λ y.
    let h = ltb-true j (length xs) y in
    let q = sym (drop-cons xs j pop-buf h) ∙ e in
    (cons_head q, cons_tail q, h))
    (λ n. absurd (nil-cons (sym (drop_of_length-le xs (ltb-false j (length xs) n)) ∙ e)))

-- past the depth fills, a step paints the next command
pub command-next : (w : ℕ) (attrs : Attrs) (r : Row) (p : Painter) (j : ℕ) → p.steps ≡ length r.fills + j → j < length r.commands
    → paint-step w attrs r p ≡ paint-command w attrs (get_or r.commands j pop-buf) p
unfolding paint-step paint-when
command-next w attrs r p j e h =
    let z : p.steps - length r.fills ≡ j = omega arith in
    let past : ltb p.steps (length r.fills) ≡ false = le-ltb p.steps (length r.fills) (omega arith) in
    let there : ltb (p.steps - length r.fills) (length r.commands) ≡ true = lt-ltb (p.steps - length r.fills) (length r.commands) (omega arith) in
    rw (past, there) (ap (λ m. paint-command w attrs (get_or r.commands m pop-buf) p) z)

-- the attribute i has that id and that panel
pub record PaintHas (attrs : Attrs) (i id panel : ℕ) : Type 0 where
  pub id-is : paint-id attrs i ≡ id
  pub panel-is : paint-panel attrs i ≡ panel

pub record LayerHas (attrs : Attrs) (i id panel : ℕ) : Type 0 where
  pub id-is : layer-id attrs i ≡ id
  pub panel-is : layer-panel attrs i ≡ panel

module _ (w : ℕ) (attrs : Attrs) (t : ℕ) where
  -- a depth fill, and a command at nesting n, as the tile is told of it
  abbrev pub fill-told : DepthFill → Told
  fill-told f = record { entry = entry_in t false f.attribute (paint-panel attrs f.attribute) (span t (suc t)) None 0; id = paint-id attrs f.attribute; hides = true }

  abbrev pub told-fills : List DepthFill → List Told
  told-fills [] = []
  told-fills (f ∷ fs) = keep (covers f.buckets (t / w)) (fill-told f) (told-fills fs)

  abbrev pub paint-told : Span → Option ℕ → ℕ → ℕ → Told
  paint-told s a i n = record { entry = entry_in t false i (paint-panel attrs i) s a n; id = paint-id attrs i; hides = false }

  abbrev pub layer-told : Span → Option ℕ → ℕ → ℕ → Told
  layer-told s a i n = record { entry = entry_in t true i (layer-panel attrs i) s a n; id = layer-id attrs i; hides = false }

  unfoldable pub told-commands : ℕ → List Command → List Told
  told-commands n [] = []
  told-commands n (paint-fill s a i ∷ cs) = keep (covers s t) (paint-told s a i n) (told-commands n cs)
  told-commands n (layer-fill s a i ∷ cs) = keep (covers s t) (layer-told s a i n) (told-commands n cs)
  told-commands n (push-buf s ∷ cs) = told-commands (n + 1) cs
  told-commands n (pop-buf ∷ cs) = told-commands (n - 1) cs

  abbrev pub Numbered : DepthFill → Type 0
  Numbered f = 0 < paint-id attrs f.attribute

  -- the word of the tile's bucket is the newest told fill's id
  pub newest-told : (fs : List DepthFill) → newest (paint-id attrs) fs (t / w) ≡ newest-hide (told-fills fs)
  unfolding newest newest-hide
  newest-told [] = refl
  newest-told (f ∷ fs) = by (covers f.buckets (t / w))
      (λ y. rw (y, newest-told fs))
      (λ n. rw (n, newest-told fs) (write-zero (newest-hide (told-fills fs))))

  written-some : (x b : ℕ) → 0 < x → eqb (write x b) 0 ≡ false
  written-some x b h = by (eqb b 0) (λ y. rw y (ne_eqb x 0 (λ e. omega arith))) (λ n. rw (n, n))

  some-told : {fs : List DepthFill} → All Numbered fs → some_of hides-of (told-fills fs) ≡ not (eqb (newest (paint-id attrs) fs (t / w)) 0)
  unfolding newest
  some-told nil = refl
  some-told (cons {x = f} {xs = fs} p a) = by (covers f.buckets (t / w))
      (λ y. rw (y, written-some (paint-id attrs f.attribute) (newest (paint-id attrs) fs (t / w)) p))
      (λ n. rw (n, write-zero (newest (paint-id attrs) fs (t / w))) (some-told a))

  none_told : (fs : List DepthFill) → some_of hides-of (told-fills fs) ≡ false → told-fills fs ≡ []
  none_told [] e = refl
  none_told (f ∷ fs) e = by (covers f.buckets (t / w))
      (λ y. never (rw y at e))
      (λ n. rw n (none_told fs (rw n at e)))

  -- one more fill, older than the others: it is received where none of them is
  hider-next : (f : DepthFill) {fs : List DepthFill} → All Numbered fs
      → map entry-told (hider (told-fills fs)) ++ keep (covers f.buckets (t / w) && eqb (newest (paint-id attrs) fs (t / w)) 0) (entry-told (fill-told f)) []
      ≡ map entry-told (hider (told-fills (f ∷ fs)))
  unfolding hider
  hider-next f {fs} a = by (eqb (newest (paint-id attrs) fs (t / w)) 0)
      (λ z.
      let s : some_of hides-of (told-fills fs) ≡ false = some-told a ∙ rw z in
      rw (z, none_told fs s) (by (covers f.buckets (t / w)) (λ y. rw y) (λ n. rw n)))
      (λ z.
      let s : some_of hides-of (told-fills fs) ≡ true = some-told a ∙ rw z in
      rw z (by (covers f.buckets (t / w)) (λ y. rw (y, s) (append-nil _)) (λ n. rw n (append-nil _))))

  module _ (pos : 0 < w) (r : Row) (n : ℕ) (on : t / w < n) where
    -- the pieces of the first k steps
    unfoldable pub pieces-after : ℕ → List Piece
    pieces-after zero = []
    pieces-after (suc k) = pieces-after k ++ (paint-step w attrs r (painter-after w attrs r n k)).pieces

    pieces-all : (j k : ℕ) → pieces-after (j + k) ≡ pieces-after j ++ paint-steps w attrs k r (painter-after w attrs r n j)
    unfolding paint-steps
    pieces-all j zero = rw (add-zero j) (sym (append-nil (pieces-after j)))
    pieces-all j (suc k) =
        ap pieces-after (add-suc j k ∙ sym (suc-add j k))
        ∙ pieces-all (suc j) k
        ∙ unfold pieces-after painter-after in append_assoc (pieces-after j) _ _

    -- the depth fills, newest to oldest: the tile receives the newest that covers its bucket
    pub fills-received : All Numbered r.fills → (k : ℕ) → k ≤ length r.fills
        → received t (pieces-after k) ≡ map entry-told (hider (told-fills (drop (length r.fills - k) r.fills)))
    unfolding pieces-after hider fill-at paint-depth
    fills-received a zero h =
        rw (sub-zero (length r.fills), drop_of_length-le r.fills (le_refl (length r.fills))) (unfold received in refl)
    fills-received a (suc k) h =
        let s = stands w attrs r n k (omega arith) in
        let e = next-is w attrs r n (painter-after w attrs r n k) k s.steps h in
        let i : suc (length r.fills - suc k) ≡ length r.fills - k = omega arith in
        let bs = (painter-after w attrs r n k).buckets in
        let fs = drop (length r.fills - k) r.fills in
        let len : t / w < length bs = rw (s.buckets, after-length (paint-id attrs) fs (replicate n 0), length-replicate {A = ℕ} n 0) on in
        let word : get_or bs (t / w) 0 ≡ newest (paint-id attrs) fs (t / w) = ap (λ (xs : List ℕ). get_or xs (t / w) 0) s.buckets ∙ holds-newest (paint-id attrs) fs n (t / w) on in
        let f = fill-at w attrs r n k in
        let one : fill-at w attrs r n k ≡ get_or r.fills (length r.fills - suc k) no-fill = ap (λ m. get_or r.fills (length r.fills - m) no-fill) (add-one k) in
        let same : (f ∷ fs) ≡ drop (length r.fills - suc k) r.fills =
        ap (λ (g : DepthFill). g ∷ fs) one
        ∙ ap (λ m. get_or r.fills (length r.fills - suc k) no-fill ∷ drop m r.fills) (sym i)
        ∙ sym (drop-cons r.fills (length r.fills - suc k) no-fill (omega arith)) in
        received-append t (pieces-after k) (paint-step w attrs r (painter-after w attrs r n k)).pieces
        ∙ ap (λ (es : List Entry). es ++ received t (paint-step w attrs r (painter-after w attrs r n k)).pieces) (fills-received a k (omega arith))
        ∙ ap (λ (o : Painted). map entry-told (hider (told-fills fs)) ++ received t o.pieces) e
        ∙ ap (λ (es : List Entry). map entry-told (hider (told-fills fs)) ++ es) (depth-received w pos t attrs bs len f (paint-panel attrs f.attribute))
        ∙ ap (λ (b : ℕ). map entry-told (hider (told-fills fs)) ++ keep (covers f.buckets (t / w) && eqb b 0) (entry-told (fill-told f)) []) word
        ∙ hider-next f (all_drop (length r.fills - k) a)
        ∙ ap (λ (gs : List DepthFill). map entry-told (hider (told-fills gs))) same

    -- the commands in order, from the jth on: those that cover the tile and are no older than the word of its bucket
    -- what the commands cs give from the painter p on, by the word b of the tile's bucket
    abbrev Gives : ℕ → List Command → Painter → Type 0
    Gives b cs p = received t (paint-steps w attrs (length cs) r p) ≡ map entry-told (such (no-older b) (told-commands p.nesting cs))

    fill_gives : (cs : List Command) (bs : List ℕ) (k n : ℕ) → t / w < length bs → (l : Bool) (id i q : ℕ) (sp : Span) (a : Option ℕ) (u : Told)
        → u.entry ≡ entry_in t l i q sp a n → u.id ≡ id
        → Gives (get_or bs (t / w) 0) cs (record { buckets = bs; steps = k + 1; nesting = n })
        → received t ((paint-fill-runs w attrs l id i q sp a (record { buckets = bs; steps = k; nesting = n })).pieces ++ paint-steps w attrs (length cs) r (record { buckets = bs; steps = k + 1; nesting = n }))
        ≡ map entry-told (such (no-older (get_or bs (t / w) 0)) (keep (covers sp t) u (told-commands n cs)))
    unfolding paint-fill-runs
    fill_gives cs bs k n len l id i q sp a u en ids ih =
        received-append t (map (fill-piece w attrs l i q sp a n) (visible-runs w bs id sp)) (paint-steps w attrs (length cs) r (record { buckets = bs; steps = k + 1; nesting = n }))
        ∙ rw (fill-received w pos t attrs bs len l id i q sp a n, ih)
        (by (covers sp t)
        (λ y. rw (y, ids) (by (leb (get_or bs (t / w) 0) id) (λ z. rw (z, en)) (λ z. rw z)))
        (λ m. rw m))

    command-gives : (c : Command) (cs : List Command) (bs : List ℕ) (k n : ℕ) → t / w < length bs
        → ((m : ℕ) → Gives (get_or bs (t / w) 0) cs (record { buckets = bs; steps = k + 1; nesting = m }))
        → received t ((paint-command w attrs c (record { buckets = bs; steps = k; nesting = n })).pieces ++ paint-steps w attrs (length cs) r (paint-command w attrs c (record { buckets = bs; steps = k; nesting = n })).painter)
        ≡ map entry-told (such (no-older (get_or bs (t / w) 0)) (told-commands n (c ∷ cs)))
    unfolding paint-command told-commands paint-fill-runs
    command-gives (paint-fill sp a i) cs bs k n len ih = fill_gives cs bs k n len false (paint-id attrs i) i (paint-panel attrs i) sp a (paint-told sp a i n) refl refl (ih n)
    command-gives (layer-fill sp a i) cs bs k n len ih = fill_gives cs bs k n len true (layer-id attrs i) i (layer-panel attrs i) sp a (layer-told sp a i n) refl refl (ih n)
    command-gives (push-buf sp) cs bs k n len ih = ih (n + 1)
    command-gives pop-buf cs bs k n len ih = ih (n - 1)

    commands-received : (cs : List Command) (j : ℕ) (p : Painter) → drop j r.commands ≡ cs → p.steps ≡ length r.fills + j → t / w < length p.buckets
        → received t (paint-steps w attrs (length cs) r p)
        ≡ map entry-told (such (no-older (get_or p.buckets (t / w) 0)) (told-commands p.nesting cs))
    unfolding paint-steps told-commands
    commands-received [] j p e s len = unfold received in refl
    commands-received (c ∷ cs) j p e s len =
        let (at, rest, h) = drop_head j r.commands c cs e in
        let q : paint-step w attrs r p ≡ paint-command w attrs c p = command-next w attrs r p j s h ∙ ap (λ (x : Command). paint-command w attrs x p) at in
        ap (λ (o : Painted). received t (o.pieces ++ paint-steps w attrs (length cs) r o.painter)) q
        ∙ command-gives c cs p.buckets p.steps p.nesting len
        (λ m. commands-received cs (suc j) (record { buckets = p.buckets; steps = p.steps + 1; nesting = m }) rest (omega arith) len)

    -- A row painted to its end.
    pub row-received : All Numbered r.fills
        → received t (paint-row w attrs n r)
        ≡ map entry-told (hider (told-fills r.fills) ++ such (no-older (newest-hide (told-fills r.fills))) (told-commands 0 r.commands))
    unfolding paint-row
    row-received a =
        let f = length r.fills in
        let s = stands w attrs r n f (le_refl f) in
        let z : f - f ≡ 0 = omega arith in
        let p = painter-after w attrs r n f in
        let len : t / w < length p.buckets = rw (s.buckets, after-length (paint-id attrs) (drop (f - f) r.fills) (replicate n 0), length-replicate {A = ℕ} n 0) on in
        let word : get_or p.buckets (t / w) 0 ≡ newest-hide (told-fills r.fills) = painted-newest w attrs r n (t / w) on ∙ newest-told r.fills in
        let start : pieces-after (f + length r.commands) ≡ paint-steps w attrs (f + length r.commands) r (begin n) =
        ap pieces-after (sym (zero-add (f + length r.commands))) ∙ pieces-all 0 (f + length r.commands) ∙ unfold pieces-after painter-after in refl in
        ap (received t) (sym start ∙ pieces-all f (length r.commands))
        ∙ received-append t (pieces-after f) (paint-steps w attrs (length r.commands) r p)
        ∙ rw (fills-received a f (le_refl f), z, commands-received r.commands 0 p refl (s.steps ∙ sym (add-zero f)) len, word, s.nesting)
        (sym (map-append entry-told (hider (told-fills r.fills)) _))
