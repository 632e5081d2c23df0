-- What one act of a step changes of what a row's commands draw at the tile t.
use Rattle.std.proofs.Common.{ℕ, zero, suc, ◌+◌, ◌-◌, ◌<◌, arith, ◌≡◌, refl, sym, ◌∙◌, ap, true, false, ◌&&◌, cond, Option, None, List, [], ◌∷◌, ◌++◌, length, get_or, set, leb}
use mathlib.Core.List.{foldl}
use borrow.Author.Tests.{lt-leb}
use Rattle.rules.specs.Lists.{times}
use Rattle.rules.specs.Spans.{Span, covers, moved}
use Rattle.rules.specs.Split.{Part, regular, buckets}
use Rattle.rules.specs.Commands.{Command, paint-fill, layer-fill, push-buf, pop-buf, DepthFill}
use Rattle.rules.specs.Attributes.{Attrs}
use Rattle.rules.specs.Rows.{Row, Level, row-ops, put-command, put-push-buf, pop-levels, put-pop-buf, put-depth-fill}
use Rattle.rules.specs.Painting.{paint-id, layer-id}
use Rattle.rules.specs.Steps.{ensure, put-part}
use Rattle.rules.specs.Plain.{Told}
use Rattle.rules.proofs.All.{All, cons, never, head, tail}
use Rattle.rules_picture.specs.Colours.{Colours, filled, closed, dropped}
use Rattle.rules_picture.specs.StoredColours.{commands-drawn}
use Rattle.rules_picture.proofs.Cases.{by}
use Rattle.rules_picture.proofs.Rows.{told-commands}
use Rattle.rules_picture.proofs.Acted.{is-push, Pushed, Sound}
use Rattle.rules_picture.proofs.SplitTile.{regular-hits}

module _ {B : Type 0} (c : Colours B) where
  -- n blank buffers on top
  abbrev pub lifted : ℕ → List B → List B
  lifted zero bs = bs
  lifted (suc n) bs = c.blank ∷ lifted n bs

  lifted-under : (n : ℕ) (bs : List B) → lifted n (c.blank ∷ bs) ≡ c.blank ∷ lifted n bs
  lifted-under zero bs = refl
  lifted-under (suc n) bs = ap (λ (ds : List B). c.blank ∷ ds) (lifted-under n bs)

  -- what the commands do to the stack without their fills
  unfoldable pub buffers-only : List Command → List B → List B
  buffers-only [] bs = bs
  buffers-only (paint-fill s a i ∷ cs) bs = buffers-only cs bs
  buffers-only (layer-fill s a i ∷ cs) bs = buffers-only cs bs
  buffers-only (push-buf s ∷ cs) bs = buffers-only cs (c.blank ∷ bs)
  buffers-only (pop-buf ∷ cs) bs = buffers-only cs (dropped c bs)

  buffers-append : (cs ds : List Command) (bs : List B) → buffers-only (cs ++ ds) bs ≡ buffers-only ds (buffers-only cs bs)
  unfolding buffers-only
  buffers-append [] ds bs = refl
  buffers-append (paint-fill s a i ∷ cs) ds bs = buffers-append cs ds bs
  buffers-append (layer-fill s a i ∷ cs) ds bs = buffers-append cs ds bs
  buffers-append (push-buf s ∷ cs) ds bs = buffers-append cs ds (c.blank ∷ bs)
  buffers-append (pop-buf ∷ cs) ds bs = buffers-append cs ds (dropped c bs)

  -- a push's span does not matter
  buffers-set : (cs : List Command) (i : ℕ) (u : Option Span) → is-push (get_or cs i pop-buf) ≡ true → (bs : List B) → buffers-only (set cs i (push-buf u)) bs ≡ buffers-only cs bs
  unfolding buffers-only
  buffers-set [] i u e bs = refl
  buffers-set (paint-fill s a j ∷ cs) zero u e bs = never (sym e)
  buffers-set (layer-fill s a j ∷ cs) zero u e bs = never (sym e)
  buffers-set (push-buf s ∷ cs) zero u e bs = refl
  buffers-set (pop-buf ∷ cs) zero u e bs = never (sym e)
  buffers-set (paint-fill s a j ∷ cs) (suc i) u e bs = buffers-set cs i u e bs
  buffers-set (layer-fill s a j ∷ cs) (suc i) u e bs = buffers-set cs i u e bs
  buffers-set (push-buf s ∷ cs) (suc i) u e bs = buffers-set cs i u e (c.blank ∷ bs)
  buffers-set (pop-buf ∷ cs) (suc i) u e bs = buffers-set cs i u e (dropped c bs)

  module _ (w : ℕ) (attrs : Attrs) (t : ℕ) where
    drawn-commands-append : (b : ℕ) (cs ds : List Command) (bs : List B) → commands-drawn c (paint-id attrs) (layer-id attrs) t b (cs ++ ds) bs ≡ commands-drawn c (paint-id attrs) (layer-id attrs) t b ds (commands-drawn c (paint-id attrs) (layer-id attrs) t b cs bs)
    unfolding commands-drawn
    drawn-commands-append b [] ds bs = refl
    drawn-commands-append b (paint-fill s a i ∷ cs) ds bs = drawn-commands-append b cs ds (cond (covers s t && leb b (paint-id attrs i)) (filled c i (moved a (t - s.first)) bs) bs)
    drawn-commands-append b (layer-fill s a i ∷ cs) ds bs = drawn-commands-append b cs ds (cond (covers s t && leb b (layer-id attrs i)) (closed c i (moved a (t - s.first)) bs) bs)
    drawn-commands-append b (push-buf s ∷ cs) ds bs = drawn-commands-append b cs ds (c.blank ∷ bs)
    drawn-commands-append b (pop-buf ∷ cs) ds bs = drawn-commands-append b cs ds (dropped c bs)

    commands-set : (b : ℕ) (cs : List Command) (i : ℕ) (u : Option Span) → is-push (get_or cs i pop-buf) ≡ true → (bs : List B)
        → commands-drawn c (paint-id attrs) (layer-id attrs) t b (set cs i (push-buf u)) bs ≡ commands-drawn c (paint-id attrs) (layer-id attrs) t b cs bs
    unfolding commands-drawn
    commands-set b [] i u e bs = refl
    commands-set b (paint-fill s a j ∷ cs) zero u e bs = never (sym e)
    commands-set b (layer-fill s a j ∷ cs) zero u e bs = never (sym e)
    commands-set b (push-buf s ∷ cs) zero u e bs = refl
    commands-set b (pop-buf ∷ cs) zero u e bs = never (sym e)
    commands-set b (paint-fill s a j ∷ cs) (suc i) u e bs = commands-set b cs i u e (cond (covers s t && leb b (paint-id attrs j)) (filled c j (moved a (t - s.first)) bs) bs)
    commands-set b (layer-fill s a j ∷ cs) (suc i) u e bs = commands-set b cs i u e (cond (covers s t && leb b (layer-id attrs j)) (closed c j (moved a (t - s.first)) bs) bs)
    commands-set b (push-buf s ∷ cs) (suc i) u e bs = commands-set b cs i u e (c.blank ∷ bs)
    commands-set b (pop-buf ∷ cs) (suc i) u e bs = commands-set b cs i u e (dropped c bs)

    -- where all that the tile is told of is older, only buffers are left
    pub all-older : (b n : ℕ) (cs : List Command) → All (λ (u : Told). u.id < b) (told-commands w attrs t n cs) → (bs : List B) → commands-drawn c (paint-id attrs) (layer-id attrs) t b cs bs ≡ buffers-only cs bs
    unfolding commands-drawn buffers-only told-commands
    all-older b n [] a bs = refl
    all-older b n (paint-fill s x i ∷ cs) a bs = by (covers s t)
        (λ y.
        let k = rw y at a in
        let h = head k in
        let l : leb b (paint-id attrs i) ≡ false = lt-leb b (paint-id attrs i) h in
        rw (y, l) (all-older b n cs (tail k) bs))
        (λ z. rw z (all-older b n cs (rw z at a) bs))
    all-older b n (layer-fill s x i ∷ cs) a bs = by (covers s t)
        (λ y.
        let k = rw y at a in
        let h = head k in
        let l : leb b (layer-id attrs i) ≡ false = lt-leb b (layer-id attrs i) h in
        rw (y, l) (all-older b n cs (tail k) bs))
        (λ z. rw z (all-older b n cs (rw z at a) bs))
    all-older b n (push-buf s ∷ cs) a bs = all-older b (n + 1) cs a (c.blank ∷ bs)
    all-older b n (pop-buf ∷ cs) a bs = all-older b (n - 1) cs a (dropped c bs)

    -- from the row r to the row q: what the commands no older than b draw, and their buffers alone
    pub record Change (F : ℕ → List B → List B) (G : List B → List B) (r q : Row) : Type 0 where
      pub draws : (b : ℕ) (bs : List B) → commands-drawn c (paint-id attrs) (layer-id attrs) t b q.commands bs ≡ F b (commands-drawn c (paint-id attrs) (layer-id attrs) t b r.commands bs)
      pub buffers-are : (bs : List B) → buffers-only q.commands bs ≡ G (buffers-only r.commands bs)

    pub change-none : (r : Row) → Change (λ b bs. bs) (λ bs. bs) r r
    change-none r = record { draws = λ b bs. refl; buffers-are = λ bs. refl }

    pub change-both : {F H : ℕ → List B → List B} {G K : List B → List B} {r q p : Row} → Change F G r q → Change H K q p → Change (λ b bs. H b (F b bs)) (λ bs. K (G bs)) r p
    change-both {F} {H} {G} {K} x y = record { draws = λ b bs. y.draws b bs ∙ ap (H b) (x.draws b bs); buffers-are = λ bs. y.buffers-are bs ∙ ap K (x.buffers-are bs) }

    pub change-to : {F H : ℕ → List B → List B} {G K : List B → List B} {r q : Row} → ((b : ℕ) (bs : List B) → F b bs ≡ H b bs) → ((bs : List B) → G bs ≡ K bs) → Change F G r q → Change H K r q
    change-to f g x = record { draws = λ b bs. x.draws b bs ∙ f b _; buffers-are = λ bs. x.buffers-are bs ∙ g _ }

    pub paint-change : (s : Span) (a : Option ℕ) (i : ℕ) (r : Row)
        → Change (λ b bs. cond (covers s t && leb b (paint-id attrs i)) (filled c i (moved a (t - s.first)) bs) bs) (λ bs. bs) r (put-command (paint-fill s a i) r)
    unfolding put-command commands-drawn buffers-only
    paint-change s a i r = record { draws = λ b bs. drawn-commands-append b r.commands (paint-fill s a i ∷ []) bs; buffers-are = λ bs. buffers-append r.commands (paint-fill s a i ∷ []) bs }

    pub close-change : (s : Span) (a : Option ℕ) (i : ℕ) (r : Row)
        → Change (λ b bs. cond (covers s t && leb b (layer-id attrs i)) (closed c i (moved a (t - s.first)) bs) bs) (λ bs. bs) r (put-command (layer-fill s a i) r)
    unfolding put-command commands-drawn buffers-only
    close-change s a i r = record { draws = λ b bs. drawn-commands-append b r.commands (layer-fill s a i ∷ []) bs; buffers-are = λ bs. buffers-append r.commands (layer-fill s a i ∷ []) bs }

    pub push-change : (r : Row) → Change (λ b bs. c.blank ∷ bs) (λ bs. c.blank ∷ bs) r (put-push-buf r)
    unfolding put-push-buf commands-drawn buffers-only
    push-change r = record { draws = λ b bs. drawn-commands-append b r.commands (push-buf None ∷ []) bs; buffers-are = λ bs. buffers-append r.commands (push-buf None ∷ []) bs }

    popped-change : (ls : List Level) (m : ℕ) (r : Row) → All (Pushed r.commands) ls → length ls ≡ suc m → Change (λ b bs. dropped c bs) (λ bs. dropped c bs) r (pop-levels ls r)
    unfolding commands-drawn buffers-only
    popped-change [] m r a h = absurd (omega arith)
    popped-change (l ∷ ls) m r (cons p a) h =
        let cs = set r.commands l.place (push-buf l.union) in
        record {
          draws = λ b bs. drawn-commands-append b cs (pop-buf ∷ []) bs ∙ ap (dropped c) (commands-set b r.commands l.place l.union p.push bs);
          buffers-are = λ bs. buffers-append cs (pop-buf ∷ []) bs ∙ ap (dropped c) (buffers-set r.commands l.place l.union p.push bs);
        }

    pub pop-change : (m : ℕ) (r : Row) → Sound r → length r.levels ≡ suc m → Change (λ b bs. dropped c bs) (λ bs. dropped c bs) r (put-pop-buf r)
    unfolding put-pop-buf
    pop-change m r s h = popped-change r.levels m r s.pushed h

    pub depth-change : (f : DepthFill) (id : ℕ) (r : Row) → Change (λ b bs. bs) (λ bs. bs) r (put-depth-fill w f id r)
    unfolding put-depth-fill
    depth-change f id r = record { draws = λ b bs. refl; buffers-are = λ bs. refl }

    pushes-change : (k : ℕ) (r : Row) → Change (λ b bs. lifted k bs) (λ bs. lifted k bs) r (times k put-push-buf r)
    pushes-change zero r = change-none r
    pushes-change (suc k) r = change-to (λ b bs. lifted-under k bs) (λ bs. lifted-under k bs) (change-both (push-change r) (pushes-change k (put-push-buf r)))

    -- rule 5
    pub ensure-change : (n : ℕ) (r : Row) → Change (λ b bs. lifted (n - length r.levels) bs) (λ bs. lifted (n - length r.levels) bs) r (ensure Row row-ops n r)
    ensure-change n r = pushes-change (n - length r.levels) r

    -- the parts of an eligible span
    abbrev pub solid-one : ℕ → ℕ → List B → List B
    solid-one i b bs = cond (leb b (paint-id attrs i)) (filled c i None bs) bs

    pub parts-change : (i id : ℕ) (ps : List Part) (r : Row)
        → Change (λ b bs. times (regular-hits t ps) (solid-one i b) bs) (λ bs. bs) r (foldl (put-part Row row-ops w i id) r ps)
    parts-change i id [] r = change-none r
    parts-change i id (regular x ∷ ps) r =
        let a = paint-change x None i r in
        let k = parts-change i id ps (put-command (paint-fill x None i) r) in
        change-to (λ b bs. by (covers x t) (λ y. rw y) (λ n. rw n)) (λ bs. refl) (change-both a k)
    parts-change i id (buckets x ∷ ps) r =
        change-both (depth-change (record { buckets = x; attribute = i }) id r) (parts-change i id ps (put-depth-fill w (record { buckets = x; attribute = i }) id r))
