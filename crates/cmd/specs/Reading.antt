-- The command and the depth fill that words stand for; answer 4 where they stand for none.
use Rattle.std.specs.Prelude.{ℕ, ◌+◌, ◌-◌, ◌*◌, ◌/◌, ◌%◌, Bool, true, false, ◌&&◌, cond, List, [], ◌∷◌, leb, ltb, eqb}
use Rattle.std.specs.Prelude.{Option, None, Some}
use Rattle.sizes.specs.Sizes.{tile-end, tile-alphas}
use Rattle.rules.specs.Spans.{Span, span}
use Rattle.rules.specs.Commands.{Command, paint-fill, layer-fill, push-buf, pop-buf, DepthFill}

abbrev pub word-span : ℕ → Span
word-span s = span (s / 65536) (s % 65536)

-- a span's word, that ends at `limit` at the latest
abbrev pub good-span-word : ℕ → ℕ → Bool
good-span-word limit s = leb (s / 65536) (s % 65536) && leb (s % 65536) limit

-- an alpha index that can be moved over the whole span
abbrev pub good-alpha : ℕ → ℕ → Bool
good-alpha a s = ltb (a + tile-alphas * (s % 65536 - s / 65536)) 4294967296

abbrev pub only_if : {A : Type 0} → Bool → A → Option A
only_if true x = Some x
only_if false x = None

-- what stands beside the tag t in a list
abbrev pub by-tag : ℕ → List (ℕ × Option Command) → Option Command
by-tag t [] = None
by-tag t (c ∷ cs) = cond (eqb t c.0) c.1 (by-tag t cs)

-- the command that four words stand for
unfoldable pub command_of : ℕ → ℕ → ℕ → ℕ → Option Command
command_of t s a i =
    let tiles = word-span s in
    let solid = good-span-word tile-end s && eqb a 0 in
    let alpha = good-span-word tile-end s && good-alpha a s in
    let bare = eqb s 0 && eqb a 0 && eqb i 0 in
    by-tag t
    ((1, only_if solid (paint-fill tiles None i))
    ∷ (2, only_if alpha (paint-fill tiles (Some a) i))
    ∷ (3, only_if solid (layer-fill tiles None i))
    ∷ (4, only_if alpha (layer-fill tiles (Some a) i))
    ∷ (5, only_if bare (push-buf None))
    ∷ (6, only_if (solid && eqb i 0) (push-buf (Some tiles)))
    ∷ (7, only_if bare pop-buf)
    ∷ [])

-- the depth fill that two words stand for, in a row of n buckets
unfoldable pub depth_fill_of : ℕ → ℕ → ℕ → Option DepthFill
depth_fill_of n s i = only_if (good-span-word n s) (record { buckets = word-span s; attribute = i })
