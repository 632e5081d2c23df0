-- What one painting step gives to the tile t, by the depth word of its bucket t / w.
use Rattle.std.proofs.Common.{ℕ, suc, ◌+◌, ◌-◌, ◌/◌, ◌≤◌, ◌<◌, arith, ◌≡◌, refl, sym, ◌∙◌, ap, Bool, true, false, ◌&&◌, cond, Option, None, Some, List, [], ◌∷◌, ◌++◌, map, length, get_or, replicate, leb, ltb, eqb, ltb-false}
use Rattle.rules.specs.Lists.{keep}
use Rattle.rules.specs.Spans.{Span, span, covers, common, moved}
use Rattle.rules.specs.Commands.{DepthFill}
use Rattle.rules.specs.Attributes.{Attrs}
use Rattle.rules.specs.Depth.{runs-in, runs, buckets-met, tiles-of, is-visible, is-unset, visible-runs, write-runs}
use Rattle.rules.specs.Painting.{Piece, Entry, entry_of, received, fill-piece, depth-piece}
use Rattle.rules.proofs.All.{and_both, and_left, and_right}
use Rattle.rules_picture.proofs.Cases.{by, same_test, and-missed, covers-yes, covers_low, covers_high, covers-no}
use Rattle.rules_picture.proofs.Buckets.{from-bucket, to-bucket, from-bucket-before, to-bucket-before, touched-first, touched-end}
use Rattle.rules_picture.proofs.Runs.{hits, range-hit}

moved_on : (a : Option ℕ) (m n k : ℕ) → m + n ≡ k → moved (moved a m) n ≡ moved a k
moved_on None m n k e = refl
moved_on (Some a) m n k e = ap Some (omega arith)

once : {X : Type 0} (p q v : Bool) → (p ≡ true → q ≡ true) → (x : X) → cond p (replicate (cond (q && v) 1 0) x) [] ≡ keep (p && v) x []
once true q true f x = rw (f refl)
once true q false f x = rw (f refl)
once false q v f x = refl

-- what a tile receives of a list that is taken apart
pub received-cons : (t : ℕ) (p : Piece) (ps : List Piece) → received t (p ∷ ps) ≡ keep (covers p.tiles t) (entry_of t p) (received t ps)
unfolding received
received-cons t p ps = by (covers p.tiles t) (λ y. rw y) (λ n. rw n)

keep_append : {X : Type 0} (b : Bool) (x : X) (xs ys : List X) → keep b x xs ++ ys ≡ keep b x (xs ++ ys)
keep_append true x xs ys = refl
keep_append false x xs ys = refl

pub received-append : (t : ℕ) (ps qs : List Piece) → received t (ps ++ qs) ≡ received t ps ++ received t qs
received-append t [] qs = unfold received in refl
received-append t (p ∷ ps) qs =
    received-cons t p (ps ++ qs)
    ∙ ap (λ (es : List Entry). keep (covers p.tiles t) (entry_of t p) es) (received-append t ps qs)
    ∙ sym (keep_append (covers p.tiles t) (entry_of t p) (received t ps) (received t qs))
    ∙ ap (λ (es : List Entry). es ++ received t qs) (sym (received-cons t p ps))

-- the tile's part of a fill over the tiles s
abbrev pub entry_in : ℕ → Bool → ℕ → ℕ → Span → Option ℕ → ℕ → Entry
entry_in t l i q s a n = record { layer = l; attribute = i; alpha = moved a (t - s.first); nesting = n; panel = q }

module _ (w : ℕ) (pos : 0 < w) (t : ℕ) where
  -- a tile of a cut span: in the span, and its bucket in the run
  cut-covers : (s r : Span) → covers (common s (tiles-of w r)) t ≡ (covers s t && covers r (t / w))
  cut-covers s r = same_test _ _
      (λ e.
      let l = covers_low (common s (tiles-of w r)) t e in
      let h = covers_high (common s (tiles-of w r)) t e in
      and_both _ _ (covers-yes s t (omega arith) (omega arith))
      (covers-yes r (t / w) (to-bucket w pos (omega arith)) (to-bucket-before w pos (omega arith))))
      (λ e.
      let p-in = and_left (covers s t) _ e in
      let r-in = and_right (covers s t) _ e in
      let i = from-bucket w pos (covers_low r (t / w) r-in) in
      let j = from-bucket-before w pos (covers_high r (t / w) r-in) in
      let l = covers_low s t p-in in
      let h = covers_high s t p-in in
      covers-yes (common s (tiles-of w r)) t (omega arith) (omega arith))

  tiles-cover : (r : Span) → covers (tiles-of w r) t ≡ covers r (t / w)
  tiles-cover r = same_test _ _
      (λ e.
      covers-yes r (t / w) (to-bucket w pos (covers_low (tiles-of w r) t e)) (to-bucket-before w pos (covers_high (tiles-of w r) t e)))
      (λ e.
      covers-yes (tiles-of w r) t (from-bucket w pos (covers_low r (t / w) e)) (from-bucket-before w pos (covers_high r (t / w) e)))

  module _ (attrs : Attrs) where
    -- cut to the tile, it does not matter to which run the fill was cut before
    same-part : (l : Bool) (i q : ℕ) (s : Span) (a : Option ℕ) (n : ℕ) (c : Span) → s.first ≤ c.first → c.first ≤ t
        → entry_of t (fill-piece w attrs l i q s a n c) ≡ entry_in t l i q s a n
    same-part l i q s a n c h k =
        ap (λ (o : Option ℕ). record { layer = l; attribute = i; alpha = o; nesting = n; panel = q })
        (moved_on a (c.first - s.first) (t - c.first) (t - s.first) (omega arith))

    -- the tile has the fill once for each run that its bucket lies in
    fill-parts : (l : Bool) (i q : ℕ) (s : Span) (a : Option ℕ) (n : ℕ) (rs : List Span)
        → received t (map (fill-piece w attrs l i q s a n) (map (λ (r : Span). common s (tiles-of w r)) rs))
        ≡ cond (covers s t) (replicate (hits rs (t / w)) (entry_in t l i q s a n)) []
    fill-parts l i q s a n [] = unfold received in by (covers s t) (λ y. rw y) (λ m. rw m)
    fill-parts l i q s a n (r ∷ rs) =
        let c = common s (tiles-of w r) in
        let ps = map (fill-piece w attrs l i q s a n) (map (λ (r : Span). common s (tiles-of w r)) rs) in
        received-cons t (fill-piece w attrs l i q s a n c) ps
        ∙ by (covers c t)
        (λ y.
        let both = sym (cut-covers s r) ∙ y in
        let k = covers_low c t y in
        rw (y, same-part l i q s a n c (omega arith) k, fill-parts l i q s a n rs, and_left (covers s t) (covers r (t / w)) both, and_right (covers s t) (covers r (t / w)) both))
        (λ m.
        let both = sym (cut-covers s r) ∙ m in
        rw (m, fill-parts l i q s a n rs) (by (covers s t) (λ y. rw (y, and-missed (covers s t) (covers r (t / w)) y both)) (λ o. rw o)))

    -- a run of a depth fill, cut to the tile
    depth-parts : (i q : ℕ) (rs : List Span)
        → received t (map (depth-piece w attrs i q) rs) ≡ replicate (hits rs (t / w)) (entry_in t false i q (span t (suc t)) None 0)
    depth-parts i q [] = unfold received in refl
    depth-parts i q (r ∷ rs) =
        received-cons t (depth-piece w attrs i q r) (map (depth-piece w attrs i q) rs)
        ∙ by (covers r (t / w)) (λ y. rw (tiles-cover r, y, depth-parts i q rs)) (λ m. rw (tiles-cover r, m, depth-parts i q rs))

    module _ (bs : List ℕ) (on : t / w < length bs) where
      -- a command is received, once, iff it covers the tile and its bucket's word is no newer
      pub fill-received : (l : Bool) (id i q : ℕ) (s : Span) (a : Option ℕ) (n : ℕ)
          → received t (map (fill-piece w attrs l i q s a n) (visible-runs w bs id s))
          ≡ keep (covers s t && leb (get_or bs (t / w) 0) id) (entry_in t l i q s a n) []
      unfolding visible-runs runs
      fill-received l id i q s a n = by (ltb s.first s.end)
          (λ y. rw (y, fill-parts l i q s a n (runs-in (is-visible id) bs (buckets-met w s)), range-hit (is-visible id) bs (buckets-met w s) (t / w) on)
          (once (covers s t) (covers (buckets-met w s) (t / w)) (leb (get_or bs (t / w) 0) id)
          (λ e.
          covers-yes (buckets-met w s) (t / w) (touched-first w pos s.first t (covers_low s t e)) (touched-end w pos t s.end (covers_high s t e)))
          (entry_in t l i q s a n)))
          (λ m. let z = ltb-false s.first s.end m in rw (m, covers-no s t (λ p q. omega arith)) (unfold received in refl))

      -- a depth fill is received, once, iff it covers the tile's bucket and that is unset
      pub depth-received : (f : DepthFill) (q : ℕ)
          → received t (map (depth-piece w attrs f.attribute q) (write-runs bs f.buckets))
          ≡ keep (covers f.buckets (t / w) && eqb (get_or bs (t / w) 0) 0) (entry_in t false f.attribute q (span t (suc t)) None 0) []
      unfolding write-runs
      depth-received f q =
          rw (depth-parts f.attribute q (runs-in is-unset bs f.buckets), range-hit is-unset bs f.buckets (t / w) on)
          (go (covers f.buckets (t / w) && eqb (get_or bs (t / w) 0) 0))
        where
          go : (b : Bool) → replicate (cond b 1 0) (entry_in t false f.attribute q (span t (suc t)) None 0) ≡ keep b (entry_in t false f.attribute q (span t (suc t)) None 0) []
          go true = refl
          go false = refl
