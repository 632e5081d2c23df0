-- How many words each table has for the frame that a reset makes.
use Rattle.std.specs.Prelude.{ℕ, ◌*◌, ◌&&◌, not, List, [], ◌∷◌, ◌++◌, length, eqb}
use Rattle.sizes.specs.Sizes.{row-size, open-layer-table, opacity-count, paint-attr-table, layer-attr-table, filter-paint-table}
use Rattle.sizes.specs.Refusals.{number_of}
use Rattle.rules.specs.Answers.{Answer, settle, first_of, BadArena, BadViewport, BadRecord}
use Rattle.rules.specs.Boxes.{good_viewport, rows_of}
use Rattle.rules.specs.Minima.{minima-room}
use Rattle.rules.specs.Plans.{Frame, buckets-across}
use Rattle.rules.specs.Setups.{frame}
use Rattle.rules.specs.Walk.{good-room}
use Rattle.rect.specs.declared.Rect.{Rect}
use Rattle.rect.specs.Rects.{box_of}
use Rattle.screen.specs.declared.lent.Lengths.{Lengths}
use Rattle.host.specs.declared.state.SetupWords.{SetupWords}
use Rattle.host.specs.Asked.{asked_setup, granted}

-- layers, opacities, paint attributes, layer attributes, filter paints
abbrev pub fixed : List ℕ
fixed = open-layer-table ∷ opacity-count ∷ paint-attr-table ∷ layer-attr-table ∷ filter-paint-table ∷ []

-- render, fills, depth, rows, painting, then those, and last the minima
abbrev pub size-words : Frame → List ℕ
size-words f =
    (rows_of f.viewport * (4 * f.c)
    ∷ rows_of f.viewport * (2 * f.d)
    ∷ rows_of f.viewport * buckets-across f
    ∷ rows_of f.viewport * row-size
    ∷ rows_of f.viewport * 2
    ∷ fixed)
    ++ (rows_of f.viewport * minima-room (buckets-across f) ∷ [])

-- as many words of each table as are lent, in that order
abbrev pub length-words : Lengths → List ℕ
length-words l =
    l.render_cmds
    ∷ l.depth_cmds
    ∷ l.depth
    ∷ l.rows
    ∷ l.painting
    ∷ l.layers
    ∷ l.opacities
    ∷ l.paint_attrs
    ∷ l.layer_attrs
    ∷ l.filter_paints
    ∷ l.minima
    ∷ []

abbrev pub size_number : Frame → ℕ → ℕ
size_number f n =
    first_of
    ((not (good_viewport f.viewport), BadViewport)
    ∷ (not (good-room f.c && good-room f.d), BadArena)
    ∷ (not (eqb n 11), BadRecord)
    ∷ [])

-- eleven result words
abbrev pub sizes-of : Frame → List ℕ → Answer (List ℕ)
sizes-of f ss = settle (size_number f (length ss)) ss (size-words f)

-- as a host's words ask
unfoldable pub size_call : Rect → SetupWords → List ℕ → Answer (List ℕ)
size_call v w ss = granted (asked_setup w) number_of ss (λ q. sizes-of (frame q (box_of v)) ss)
