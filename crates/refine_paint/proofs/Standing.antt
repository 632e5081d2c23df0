-- A fair row's words stand for it. Assumes nothing.
use Rattle.std.proofs.Common.{◌≡◌, refl, ap, ◌∙◌, true, List, [], ◌∷◌, ◌++◌, append_assoc, Option, None, Some, ℕ, zero, suc, ◌+◌, ◌*◌, ◌≤◌, ◌<◌, mul-suc, arith, leb, length, get_or, get_or-append-add, le-leb}
use lib.ListN.{get_or-append}
use Rattle.rules.specs.Lists.{join}
use Rattle.rules.specs.Spans.{Span}
use Rattle.rules.specs.Commands.{Command, paint-fill, layer-fill, push-buf, pop-buf, DepthFill, command_words, depth-words}
use Rattle.rules.specs.Attributes.{Attrs}
use Rattle.rules.specs.Rows.{Row}
use Rattle.rules.specs.Painting.{no-fill}
use Rattle.rules.proofs.All.{all-at}
use Rattle.cmd.proofs.BothWays.{reads-back, depth-reads-back}
use Rattle.refine_row.specs.Encode.{padded, first_of, end_of, encode}
use Rattle.refine_row.proofs.Pads.{padded-fits, padded-length}
use Rattle.refine_steps.specs.Sound.{OrderedUnion, Fitting}
use Rattle.refine_steps.proofs.Tables.{join-length}
use Rattle.paint.specs.Painting.{command-at, depth-fill-at}
use Rattle.paint.specs.Standing.{Stands}
use Rattle.refine_paint.specs.Fair.{Fair}

-- the words of the k-th of things that have w words each
module _ {A : Type 0} (f : A → List ℕ) (w : ℕ) (long : (x : A) → length (f x) ≡ w) where
  pub join-at : (xs : List A) (ys : List ℕ) (k j : ℕ) (d : A) → k < length xs → j < w → get_or (join f xs ++ ys) (w * k + j) 0 ≡ get_or (f (get_or xs k d)) j 0
  join-at [] ys k j d h g = absurd (omega arith)
  join-at (x ∷ xs) ys zero j d h g =
      let z : w * 0 + j ≡ j = omega arith in
      rw (z, append_assoc (f x) (join f xs) ys) (get_or-append (f x) (join f xs ++ ys) 0 j (rw long g))
  join-at (x ∷ xs) ys (suc k) j d h g =
      let z : w * suc k + j ≡ length (f x) + (w * k + j) = rw (long, mul-suc w k) (omega arith) in
      rw (z, append_assoc (f x) (join f xs) ys, get_or-append-add (f x) (join f xs ++ ys) (w * k + j) 0) (join-at xs ys k j d (omega arith) g)

pub four : (c : Command) → length (command_words c) ≡ 4
unfolding command_words
four (paint-fill s None i) = refl
four (paint-fill s (Some a) i) = refl
four (layer-fill s None i) = refl
four (layer-fill s (Some a) i) = refl
four (push-buf None) = refl
four (push-buf (Some s)) = refl
four pop-buf = refl

two : (f : DepthFill) → length (depth-words f) ≡ 2
unfolding depth-words
two f = refl

union-good : (u : Option Span) → OrderedUnion u → (leb (first_of u) (end_of u) ≡ true) × (leb (end_of u) 8192 ≡ true)
union-good None o = (refl, refl)
union-good (Some s) o = (le-leb _ _ o.order, le-leb _ _ o.end)

module _ {v : ℕ} (a : Attrs) (n c d : ℕ) (few : n < 65536) (r : Row) (f : Fitting c d r) (h : Fair v a n r) where
  render-at : (k j : ℕ) → k < length r.commands → j < 4 → get_or (padded (4 * c) (join command_words r.commands)) (4 * k + j) 0 ≡ get_or (command_words (get_or r.commands k pop-buf)) j 0
  render-at k j l g =
      let m : length (join command_words r.commands) ≤ 4 * c = rw (join-length command_words 4 four r.commands) (omega (arith, f.commands)) in
      rw (padded-fits (4 * c) (join command_words r.commands) m) (join-at command_words 4 four r.commands _ k j pop-buf l g)

  fill-at : (k j : ℕ) → k < length r.fills → j < 2 → get_or (padded (2 * d) (join depth-words r.fills)) (2 * k + j) 0 ≡ get_or (depth-words (get_or r.fills k no-fill)) j 0
  fill-at k j l g =
      let m : length (join depth-words r.fills) ≤ 2 * d = rw (join-length depth-words 2 two r.fills) (omega (arith, f.fills)) in
      rw (padded-fits (2 * d) (join depth-words r.fills) m) (join-at depth-words 2 two r.fills _ k j no-fill l g)

  command-there : (k : ℕ) → k < length r.commands → command-at (padded (4 * c) (join command_words r.commands)) k ≡ Some (get_or r.commands k pop-buf)
  command-there k l =
      let z : 4 * k ≡ 4 * k + 0 = omega arith in
      let w0 : get_or (padded (4 * c) (join command_words r.commands)) (4 * k) 0 ≡ get_or (command_words (get_or r.commands k pop-buf)) 0 0 = ap (λ (i : ℕ). get_or (padded (4 * c) (join command_words r.commands)) i 0) z ∙ render-at k 0 l (omega arith) in
      rw (w0, render-at k 1 l (omega arith), render-at k 2 l (omega arith), render-at k 3 l (omega arith))
      (reads-back (get_or r.commands k pop-buf) (all-at h.commands k pop-buf l).good)

  fill-there : (k : ℕ) → k < length r.fills → depth-fill-at n (padded (2 * d) (join depth-words r.fills)) k ≡ Some (get_or r.fills k no-fill)
  fill-there k l =
      let z : 2 * k ≡ 2 * k + 0 = omega arith in
      let w0 : get_or (padded (2 * d) (join depth-words r.fills)) (2 * k) 0 ≡ get_or (depth-words (get_or r.fills k no-fill)) 0 0 = ap (λ (i : ℕ). get_or (padded (2 * d) (join depth-words r.fills)) i 0) z ∙ fill-at k 0 l (omega arith) in
      rw (w0, fill-at k 1 l (omega arith))
      (depth-reads-back n (get_or r.fills k no-fill) few (all-at h.fills k no-fill l).good)

  -- the counts, the commands, the depth fills, the summary
  pub stands : Stands a n r (encode c d r).state (encode c d r).render (encode c d r).fills
  unfolding encode
  stands =
      let u = union-good r.depth.union f.sane.depth in
      record {
        renders = refl;
        depths = refl;
        few-renders = rw padded-length (omega (arith, f.commands));
        few-depths = rw padded-length (omega (arith, f.fills));
        commands-at = command-there;
        fills-at = fill-there;
        summary = rw (u.0, u.1, le-leb _ _ f.sane.largest);
        good-fills = λ k l. (all-at h.fills k no-fill l).attributed;
      }
