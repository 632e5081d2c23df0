use mathlib.Core.Path.{sym, ◌∙◌}
use borrow.Author.Rules.{rules}
use Rattle.file.specs.Places.{node_from, recorded}
use Rattle.file.proofs.Eaches.{each_at}
use Rattle.file.proofs.Heldness.{node_few, node_within}
use Rattle.file.proofs.recording.Recording.node.Goals as goal

pub overflow_mul-i : goal.overflow_mul-i
overflow_mul-i c = let within = node_within _ _ c.requires.fits c.args.i c.requires.there in search (rules, within)

pub overflow_add-self : goal.overflow_add-self
overflow_add-self c = let within = node_within _ _ c.requires.fits c.args.i c.requires.there in search (rules, within)

pub node_at-requires : goal.node_at-requires
node_at-requires c = node_within _ _ c.requires.fits c.args.i c.requires.there

pub returns : goal.returns
unfolding recorded
returns c d = c.node_at.ensures ∙ sym (each_at node_from 3 _ _ _ _ d (node_few _ _ c.requires.fits c.args.i c.requires.there))
