-- What a row's fills add up to, tile by tile: at each tile they are the entries that the row holds for it.
use Rattle.std.proofs.Common.{ℕ, ◌+◌, ◌-◌, ◌/◌, ◌≤◌, ◌<◌, arith, ◌≡◌, refl, sym, ◌∙◌, ap, Bool, true, false, cond, List, [], ◌∷◌, ◌++◌, map, length}
use Rattle.rules.specs.Lists.{such, keep}
use Rattle.rules.specs.Spans.{Span, covers}
use Rattle.rules.specs.Commands.{Command, paint-fill, layer-fill, push-buf, pop-buf, DepthFill}
use Rattle.rules.specs.Attributes.{Attrs}
use Rattle.rules.specs.Rows.{Row}
use Rattle.rules.specs.Depth.{tiles-of}
use Rattle.rules.specs.Painting.{paint-id}
use Rattle.rules.specs.Plain.{Told}
use Rattle.rules.proofs.All.{All, nil, cons, all_map}
use Rattle.rules_picture.proofs.Cases.{by, same_test, covers-yes, covers_low, covers_high}
use Rattle.rules_picture.proofs.Buckets.{from-bucket, to-bucket, from-bucket-before, to-bucket-before}
use Rattle.rules_picture.proofs.Rows.{told-fills, told-commands}
use Rattle.rules_figures.specs.Figures.{sum-to, sum-of}
use Rattle.rules_figures.specs.RowFigures.{Fill, depth-fills, command-fills, fills-of, over-tiles}
use Rattle.rules_figures.proofs.Tallies.{sum-both, sum-zero, over-all}

-- the fills over the tile t, each by what its id counts
abbrev pub at-tile : ℕ → (ℕ → ℕ) → List Fill → ℕ
at-tile t c [] = 0
at-tile t c (x ∷ xs) = cond (covers x.tiles t) (c x.id) 0 + at-tile t c xs

-- no fill ends past k and these
abbrev pub ends : List Fill → ℕ
ends xs = sum-of (map (λ (x : Fill). x.tiles.end) xs)

pub fills-end : (k : ℕ) (xs : List Fill) → All (λ (x : Fill). x.tiles.end ≤ k + ends xs) xs
unfolding sum-of
fills-end k [] = nil
fills-end k (x ∷ xs) = cons (omega arith) (all_map (λ (y : Fill) (h : y.tiles.end ≤ k + ends xs). omega arith) (fills-end k xs))

-- Fill by fill, or tile by tile below m.
pub tile-by-tile : (m : ℕ) (c : ℕ → ℕ → ℕ) {xs : List Fill} → All (λ (x : Fill). x.tiles.end ≤ m) xs
    → sum-of (map (λ (x : Fill). over-tiles x.tiles (c x.id)) xs) ≡ sum-to m (λ t. at-tile t (λ i. c i t) xs)
unfolding sum-of
tile-by-tile m c nil = sym (sum-zero m)
tile-by-tile m c (cons {x = x} {xs = xs} h a) =
    sym (sum-both m (λ t. cond (covers x.tiles t) (c x.id t) 0) (λ t. at-tile t (λ i. c i t) xs)
    ∙ rw (over-all x.tiles (c x.id) m h, tile-by-tile m c a))

at-both : (t : ℕ) (c : ℕ → ℕ) (xs ys : List Fill) → at-tile t c (xs ++ ys) ≡ at-tile t c xs + at-tile t c ys
at-both t c [] ys = omega arith
at-both t c (x ∷ xs) ys = let h = at-both t c xs ys in omega arith

module _ (w : ℕ) (pos : 0 < w) (a : Attrs) (t : ℕ) (q : ℕ → Bool) where
  abbrev passed : ℕ → ℕ
  passed i = cond (q i) 1 0

  abbrev pub by-id : Told → Bool
  by-id u = q u.id

  tiles-cover : (r : Span) → covers (tiles-of w r) t ≡ covers r (t / w)
  tiles-cover r = same_test _ _
      (λ e. covers-yes r (t / w) (to-bucket w pos (covers_low (tiles-of w r) t e)) (to-bucket-before w pos (covers_high (tiles-of w r) t e)))
      (λ e. covers-yes (tiles-of w r) t (from-bucket w pos (covers_low r (t / w) e)) (from-bucket-before w pos (covers_high r (t / w) e)))

  one-fill : (b : Bool) (u : Told) (us : List Told) (n : ℕ) → n ≡ length (such by-id us)
      → cond b (passed u.id) 0 + n ≡ length (such by-id (keep b u us))
  one-fill true u us n e = by (q u.id) (λ y. rw (y, e) (omega arith)) (λ z. rw (z, e) (omega arith))
  one-fill false u us n e = omega arith

  depth-told : (fs : List DepthFill) → at-tile t passed (depth-fills w a fs) ≡ length (such by-id (told-fills w a t fs))
  depth-told [] = refl
  depth-told (f ∷ fs) =
      ap (λ (b : Bool). cond b (passed (paint-id a f.attribute)) 0 + at-tile t passed (depth-fills w a fs)) (tiles-cover f.buckets)
      ∙ one-fill (covers f.buckets (t / w)) _ (told-fills w a t fs) _ (depth-told fs)

  commands-told : (n : ℕ) (cs : List Command) → at-tile t passed (command-fills w a cs) ≡ length (such by-id (told-commands w a t n cs))
  unfolding told-commands
  commands-told n [] = refl
  commands-told n (paint-fill s x i ∷ cs) = one-fill (covers s t) _ (told-commands w a t n cs) _ (commands-told n cs)
  commands-told n (layer-fill s x i ∷ cs) = one-fill (covers s t) _ (told-commands w a t n cs) _ (commands-told n cs)
  commands-told n (push-buf s ∷ cs) = commands-told (n + 1) cs
  commands-told n (pop-buf ∷ cs) = commands-told (n - 1) cs

  -- those of a row whose ids pass
  pub row-told : (r : Row) → at-tile t passed (fills-of w a r) ≡ length (such by-id (told-fills w a t r.fills)) + length (such by-id (told-commands w a t 0 r.commands))
  row-told r = at-both t passed (depth-fills w a r.fills) (command-fills w a r.commands) ∙ rw (depth-told r.fills, commands-told 0 r.commands)
