-- What is shown of a fill in order, by the summary or the depth words. Assumes nothing.
use Rattle.std.proofs.Common.{◌≡◌, true, false, List, [], ◌∷◌, map, ℕ, ◌+◌, ◌-◌, ◌*◌, ◌/◌, ◌%◌, ◌≤◌, ◌<◌, mul_comm, length, lt-ltb, le-leb}
use Rattle.rules.specs.Spans.{Span, span, common}
use Rattle.rules.specs.Depth.{Summary, can_skip, is-visible, runs-in, tiles-of, runs, visible-runs}
use Rattle.cmd.specs.Reading.{word-span}
use Rattle.cmd.specs.declared.command.CmdWords.{CmdWords}
use Rattle.paint.specs.Summaries.{shown_runs}
use Rattle.paint.specs.Kinds.{tiles-met, Fills, Shows}

-- the visible runs of a span with a tile
met_runs : (v : ℕ) (D : List ℕ) (id f g : ℕ) → f < g
    → visible-runs v D id (span f g) ≡ map (λ (r : Span). common (span f g) (tiles-of v r)) (runs-in (is-visible id) D (span (f / v) ((g + (v - 1)) / v)))
unfolding visible-runs runs
met_runs v D id f g h = rw (lt-ltb _ _ h)

-- at v tiles a bucket, a span whose tiles are there: it is shown whole if the summary hides nothing of it, and else by the depth words
module _ (v : ℕ) (u : Summary) (D : List ℕ) (id : ℕ) (s : Span) (h : s.first < s.end) (g : s.end ≤ length D * v) where
  clear : can_skip u s id ≡ true → shown_runs v u D id s ≡ s ∷ []
  unfolding shown_runs
  clear e = rw (e, mul_comm v (length D), le-leb _ _ g, lt-ltb _ _ h)

  searched : can_skip u s id ≡ false → (rs : List Span) → visible-runs v D id s ≡ rs → shown_runs v u D id s ≡ rs
  unfolding shown_runs
  searched e rs q = rw (e, q)

-- .. of a fill's words
module _ (v : ℕ) (u : Summary) (D : List ℕ) (id : ℕ) (c : CmdWords) (f : Fills c) (h : c.span.0 / 65536 < c.span.0 % 65536)
    (g : c.span.0 % 65536 ≤ length D * v) where
  pub whole_shown : can_skip u (word-span c.span.0) id ≡ true → Shows v u D id c (word-span c.span.0 ∷ [])
  whole_shown e = record { good = f; runs = clear v u D id (word-span c.span.0) h g e }

  pub met_shown : can_skip u (word-span c.span.0) id ≡ false → Shows v u D id c (tiles-met v D id c.span.0)
  met_shown e = record { good = f; runs = searched v u D id (word-span c.span.0) h g e _ (met_runs v D id _ _ h) }
