-- A row's depth summary includes each of its depth fills: the tiles lie in its union, and the id is no larger than its largest.
use Rattle.std.proofs.Common.{ℕ, ◌≤◌, le_refl, arith, Option, None, Some}
use Rattle.rules.specs.Spans.{Span, hull}
use Rattle.rules.specs.Commands.{DepthFill}
use Rattle.rules.specs.Attributes.{Attrs}
use Rattle.rules.specs.Depth.{Summary, included, tiles-of}
use Rattle.rules.specs.Rows.{Row, put-depth-fill}
use Rattle.rules.specs.Painting.{paint-id}
use Rattle.rules.proofs.All.{All, nil, cons, all_map, all_append}

-- the span lies in the union
abbrev pub Within : Option Span → Span → Type 0
Within None s = ⊥
Within (Some u) s = (u.first ≤ s.first) × (s.end ≤ u.end)

-- a union that has grown still has what lay in it, and has what was added
within-old : (o : Option Span) (s x : Span) → Within o x → Within (Some (hull o s)) x
within-old None s x h = absurd h
within-old (Some u) s x h = let (a, b) = h in (omega arith, omega arith)

within_new : (o : Option Span) (s : Span) → Within (Some (hull o s)) s
within_new None s = (le_refl s.first, le_refl s.end)
within_new (Some u) s = (omega arith, omega arith)

module _ (w : ℕ) (attrs : Attrs) where
  pub record Included (d : Summary) (f : DepthFill) : Type 0 where
    pub tiles : Within d.union (tiles-of w f.buckets)
    pub id : paint-id attrs f.attribute ≤ d.largest

  abbrev pub Summed : Row → Type 0
  Summed r = All (Included r.depth) r.fills

  included-old : (d : Summary) (s : Span) (id : ℕ) (f : DepthFill) → Included d f → Included (included d s id) f
  included-old d s id f h = let k = h.id in record { tiles = within-old d.union s (tiles-of w f.buckets) h.tiles; id = omega arith }

  included-new : (d : Summary) (f : DepthFill) (id : ℕ) → paint-id attrs f.attribute ≤ id → Included (included d (tiles-of w f.buckets) id) f
  included-new d f id le = record { tiles = within_new d.union (tiles-of w f.buckets); id = omega arith }

  -- one more depth fill, put with at least its id
  pub depth-summed : (f : DepthFill) (id : ℕ) (r : Row) → paint-id attrs f.attribute ≤ id → Summed r → Summed (put-depth-fill w f id r)
  unfolding put-depth-fill
  depth-summed f id r le a =
      all_append (all_map (λ (g : DepthFill). included-old r.depth (tiles-of w f.buckets) id g) a) (cons (included-new r.depth f id le) nil)
