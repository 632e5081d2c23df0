use Rattle.theorem_border.proofs.Panel.{calls-done, paints-taken, steps-finish, mixed-finish, each-tile, tile-40, tile-25, tile-10}
use Rattle.theorem_border.proofs.panel_example_at_border.Goals as goal

pub returns-clause-calls : goal.returns-clause-calls
returns-clause-calls c = calls-done

pub returns-clause-paints : goal.returns-clause-paints
returns-clause-paints c = paints-taken

pub returns-clause-by_steps : goal.returns-clause-by_steps
returns-clause-by_steps c = steps-finish

pub returns-clause-in_a_mixture : goal.returns-clause-in_a_mixture
returns-clause-in_a_mixture c = mixed-finish

pub returns-clause-each_tile : goal.returns-clause-each_tile
returns-clause-each_tile c = each-tile

pub returns-clause-tile_40 : goal.returns-clause-tile_40
returns-clause-tile_40 c = tile-40

pub returns-clause-tile_25 : goal.returns-clause-tile_25
returns-clause-tile_25 c = tile-25

pub returns-clause-tile_10 : goal.returns-clause-tile_10
returns-clause-tile_10 c = tile-10
