-- What each step tells of a tile: refused by its number, or done, with what is known afterwards. c is the clip box in force, n layers are open.
use Rattle.std.proofs.Common.{◌≡◌, refl, sym, ◌∙◌, Bool, true, false, ◌&&◌, ◌||◌, not, cond, List, ◌∷◌, Option, None, Some, ℕ, ◌+◌, ◌-◌, ◌*◌, ◌/◌, ◌≤◌, ◌<◌, min, add-one, arith, ltb, length, lt-ltb, le-ltb, le-leb, ltb-true, ltb-false}
use borrow.Author.Tests.{lt-leb}
use Rattle.sizes.specs.Sizes.{line-size}
use Rattle.rules.specs.Lists.{is-empty, is_none}
use Rattle.rules.specs.Answers.{answer}
use Rattle.rules.specs.Boxes.{Box, empty-box, meet, to-local}
use Rattle.rules.specs.Blends.{Blend, destructive}
use Rattle.rules.specs.Segments.{Segment}
use Rattle.rules.specs.Inputs.{Clip, Props, Filter, all-good}
use Rattle.rules.specs.Plans.{Layer, clip-box, layer-box}
use Rattle.rules.proofs.laws.Bounds.{clip-facts}
use Rattle.rect.specs.Rects.{Small}
use Rattle.cmd.specs.Attrs.{words-at}
use Rattle.segments.specs.Segs.{segs}
use Rattle.segments.proofs.Laws.{segs-end, segs-first}
use Rattle.tile.specs.Telling.{Telling, Look, line-words, draw-line, closing-line, filter-line, no-look, in_row, met, look, tell-fill, tell-push, closing-look, tell-pop, tell-filter}

pub none-there : (ws : List ℕ) (a n : ℕ) → n ≤ a → is-empty (segs ws a (n - a)) ≡ true
none-there ws a n h = rw (segs-end ws a n h)

pub some-there : (ws : List ℕ) (a n : ℕ) → a < n → is-empty (segs ws a (n - a)) ≡ false
some-there ws a n h = rw (segs-first ws a n h)

-- boxes keep within 32,768
pub small_by : {a b : Box} → a ≡ b → Small b → Small a
small_by e s = rw e s

pub layer-small : (v c : Box) (o : Option Clip) → Small c → all-good o ≡ true → Small (layer-box v c o)
layer-small v c None s g = s
layer-small v c (Some x) s g =
    let b = clip-facts x g in
    record {
      left = omega (arith, b.across, b.right, s.left);
      top = omega (arith, b.down, b.bottom, s.top);
      right = omega (arith, s.right);
      bottom = omega (arith, s.bottom);
    }

-- whether ids are left, as the code asks
pub out-of-ids : {r : Bool} {i : ℕ} → r ≡ ltb 1048576 i → r ≡ true → 1048576 < i
out-of-ids {r} {i} e q = ltb-true 1048576 i (sym e ∙ q)

pub ids-left : {r : Bool} {i : ℕ} → r ≡ ltb 1048576 i → r ≡ false → i ≤ 1048576
ids-left {r} {i} e q = ltb-false 1048576 i (sym e ∙ q)

module _ (w : ℕ) (v : Box) (row tile : ℕ) where
  module _ (own : List Segment) (e : Bool) (q : ℕ) (t : Telling) where
    pub fill-ids : 1048576 < t.next → answer 8 t ≡ tell-fill w v row tile own e q t
    unfolding tell-fill
    fill-ids h = rw (lt-ltb 1048576 t.next h) refl

    module _ (h : t.next ≤ 1048576) where
      pub fill-empty : is-empty own ≡ true
          → answer 0 (record { next = t.next + 1; paints = t.paints; layers = t.layers; filters = t.filters; levels = t.levels; opened = t.opened; lines = t.lines }) ≡ tell-fill w v row tile own e q t
      unfolding tell-fill
      fill-empty z = rw (le-ltb 1048576 t.next h, z) refl

      pub fill-full : is-empty own ≡ false → 1024 ≤ t.paints → answer 9 t ≡ tell-fill w v row tile own e q t
      unfolding tell-fill
      fill-full z g =
          rw (le-ltb 1048576 t.next h, z, le-leb 1024 t.paints g) refl

      pub fill-drawn : {c : Box} {n i l : ℕ} {k : Look} {ws : List ℕ} → is-empty own ≡ false → t.paints < 1024
          → clip-box v t.opened ≡ c → length t.opened ≡ n
          → k ≡ look w v row tile c no-look own
          → i ≡ t.paints + t.layers
          → ws ≡ words-at t.lines (line-size * i) (line-words (draw-line k e t.paints n q))
          → l ≡ cond k.reached n t.levels
          → answer 0 (record { next = t.next + 1; paints = t.paints + 1; layers = t.layers; filters = t.filters; levels = l; opened = t.opened; lines = ws }) ≡ tell-fill w v row tile own e q t
      unfolding tell-fill
      fill-drawn z g hc hn kq iq wq lq =
          rw (lq, wq, iq, kq, hc, hn, le-ltb 1048576 t.next h, z, lt-leb 1024 t.paints g)
          refl

  module _ (p : Props) (t : Telling) {n : ℕ} (hn : length t.opened ≡ n) where
    pub push-deep : 16 ≤ n → answer 6 t ≡ tell-push w v row tile p t
    unfolding tell-push
    push-deep h = rw (hn, le-leb 16 n h) refl

    pub push-done : {b c : Box} {o : Option Clip} {m : Blend} {l : ℕ} {d : Bool} → n < 16 → clip-box v t.opened ≡ c
        → p.blend ≡ m → p.clip ≡ o
        → b ≡ layer-box v c o
        → d ≡ (destructive m.compose && not (empty-box b) && in_row b row)
        → l ≡ cond d (n + 1) t.levels
        → answer 0 (record { next = t.next; paints = t.paints; layers = t.layers; filters = t.filters; levels = l; opened = record { props = p; bounds = b } ∷ t.opened; lines = t.lines }) ≡ tell-push w v row tile p t
    unfolding tell-push
    push-done h hc pb pc bq dq lq =
        rw (lq, dq, bq, ← pb, ← pc, ← hc, hn, lt-leb 16 n h) refl

  module _ (l : Layer) (ls : List Layer) (ss : List Segment) (t : Telling) where
    pub pop-ids : 1048576 < t.next → answer 8 t ≡ tell-pop w v row tile (l ∷ ls) ss t
    unfolding tell-pop
    pop-ids h = rw (lt-ltb 1048576 t.next h) refl

    module _ (h : t.next ≤ 1048576) where
      pub pop-full : 1024 ≤ t.layers → answer 9 t ≡ tell-pop w v row tile (l ∷ ls) ss t
      unfolding tell-pop
      pop-full g =
          rw (le-ltb 1048576 t.next h, le-leb 1024 t.layers g) refl

      pub pop-done : {c b : Box} {o : Option Clip} {n m i q f : ℕ} {d : Bool} {k : Look} {ws : List ℕ} → t.layers < 1024
          → clip-box v ls ≡ c → length ls ≡ n → l.props.clip ≡ o → l.props.panel ≡ q → l.bounds ≡ b
          → k ≡ closing-look w v row tile o b c ss
          → d ≡ ltb n t.levels
          → i ≡ t.paints + t.layers
          → m ≡ n + 1
          → ws ≡ words-at t.lines (line-size * i) (line-words (closing-line k d t.layers m q))
          → f ≡ min t.levels n
          → answer 0 (record { next = t.next + 1; paints = t.paints; layers = t.layers + 1; filters = t.filters; levels = f; opened = ls; lines = ws }) ≡ tell-pop w v row tile (l ∷ ls) ss t
      unfolding tell-pop
      pop-done {n = n} g hc hn lo lp lb kq dq iq mq wq fq =
          rw (fq, wq, mq, add-one n, iq, dq, kq, ← lo, ← lp, ← lb, ← hc, hn, le-ltb 1048576 t.next h, lt-leb 1024 t.layers g)
          refl

  module _ (f : Filter) (q : ℕ) (t : Telling) {b c d : Box} {m : Option ℕ} {r : Bool} (hc : clip-box v t.opened ≡ c) (fd : f.dest ≡ d) (fm : f.pixmap ≡ m)
      (bq : b ≡ meet (to-local v d) c) (rq : r ≡ (is_none m || empty-box b)) where
    nothing : {y : Bool} → r ≡ y → (is_none m || empty-box (meet (to-local v d) c)) ≡ y
    nothing e = rw bq at (sym rq ∙ e)

    pub filter-nothing : r ≡ true → answer 0 t ≡ tell-filter w v row tile f q t
    unfolding tell-filter
    filter-nothing e = rw (fm, fd, hc, nothing e) refl

    module _ (e : r ≡ false) where
      pub filter-ids : 1048576 < t.next → answer 8 t ≡ tell-filter w v row tile f q t
      unfolding tell-filter
      filter-ids h = rw (fm, fd, hc, nothing e, lt-ltb 1048576 t.next h) refl

      module _ (h : t.next ≤ 1048576) where
        pub filter-full : 1024 ≤ t.paints → answer 9 t ≡ tell-filter w v row tile f q t
        unfolding tell-filter
        filter-full g =
            rw (fm, fd, hc, nothing e, le-ltb 1048576 t.next h, le-leb 1024 t.paints g)
            refl

        module _ (g : t.paints < 1024) where
          pub filter-crowded : 256 ≤ t.filters → answer 9 t ≡ tell-filter w v row tile f q t
          unfolding tell-filter
          filter-crowded i =
              rw (fm, fd, hc, nothing e, le-ltb 1048576 t.next h, lt-leb 1024 t.paints g, le-leb 256 t.filters i)
              refl

          pub filter-done : {n i l : ℕ} {a k y : Bool} {ws : List ℕ} → t.filters < 256 → length t.opened ≡ n
              → a ≡ met d (row + v.y0 / 4) (tile + v.x0 / 4)
              → k ≡ met b row tile
              → i ≡ t.paints + t.layers
              → ws ≡ words-at t.lines (line-size * i) (line-words (filter-line a k t.paints n q))
              → y ≡ in_row b row
              → l ≡ cond y n t.levels
              → answer 0 (record { next = t.next + 1; paints = t.paints + 1; layers = t.layers; filters = t.filters + 1; levels = l; opened = t.opened; lines = ws }) ≡ tell-filter w v row tile f q t
          unfolding tell-filter
          filter-done j hn aq kq iq wq yq lq =
              rw (lq, yq, wq, iq, aq, kq, bq, fm, fd, hc, nothing e, hn, le-ltb 1048576 t.next h, lt-leb 1024 t.paints g, lt-leb 256 t.filters j)
              refl
