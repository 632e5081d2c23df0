use mathlib.Core.Path.{sym, ap, ◌∙◌}
use borrow.Author.Rules.{rules}
use Rattle.sizes.specs.Editions.{draw-size}
use Rattle.inputs.specs.Inputs.{draw-of}
use Rattle.file.specs.Places.{draw_from, recorded}
use Rattle.file.proofs.Eaches.{each_at}
use Rattle.file.proofs.Heldness.{draw_few, draw_within}
use Rattle.file.proofs.recording.Recording.draw.Goals as goal

pub overflow_mul-draw : goal.overflow_mul-draw
overflow_mul-draw c = let within = rw (← c.draw.ensures.same) at (draw_within _ _ c.requires.fits c.args.i c.requires.there) in search (rules, within)

pub overflow_add-self : goal.overflow_add-self
overflow_add-self c = let within = rw (← c.draw.ensures.same) at (draw_within _ _ c.requires.fits c.args.i c.requires.there) in search (rules, within)

pub draw_at-requires : goal.draw_at-requires
draw_at-requires c = rw c.draw.ensures.same (draw_within _ _ c.requires.fits c.args.i c.requires.there)

pub returns : goal.returns
unfolding recorded draw_from
returns c d = ap draw-of (rw c.draw.ensures.same at c.draw_at.ensures) ∙ sym (each_at (draw_from _) (draw-size _) _ _ _ _ d (draw_few _ _ c.requires.fits c.args.i c.requires.there))
