use mathlib.Core.Path.{sym, ◌∙◌}
use borrow.Author.Rules.{rules}
use Rattle.sizes.specs.Editions.{layer-size}
use Rattle.file.specs.Places.{layer_from, recorded}
use Rattle.file.proofs.Eaches.{each_at}
use Rattle.file.proofs.Heldness.{layer_few, layer_within}
use Rattle.file.proofs.recording.Recording.layer.Goals as goal

pub overflow_mul-layer : goal.overflow_mul-layer
overflow_mul-layer c = let within = rw (← c.layer.ensures.same) at (layer_within _ _ c.requires.fits c.args.i c.requires.there) in search (rules, within)

pub overflow_add-self : goal.overflow_add-self
overflow_add-self c = let within = rw (← c.layer.ensures.same) at (layer_within _ _ c.requires.fits c.args.i c.requires.there) in search (rules, within)

pub layer_at-requires : goal.layer_at-requires
layer_at-requires c = rw c.layer.ensures.same (layer_within _ _ c.requires.fits c.args.i c.requires.there)

pub returns : goal.returns
unfolding recorded
returns c d = (rw c.layer.ensures.same at c.layer_at.ensures) ∙ sym (each_at (layer_from _) (layer-size _) _ _ _ _ d (layer_few _ _ c.requires.fits c.args.i c.requires.there))
