-- What is held of words that are lent to be read.
use Rattle.std.specs.Prelude.{ℕ, List, [], ◌∷◌}
use Rattle.paint.specs.declared.canvas.stored.Stored.{Stored}

-- the five lists of words that painting reads
abbrev pub stored-words : Stored → List (List ℕ)
stored-words s = s.rows.now ∷ s.render_cmds.now ∷ s.depth_cmds.now ∷ s.paint_attrs.now ∷ s.layer_attrs.now ∷ []
