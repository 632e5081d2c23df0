-- The laws of the figures.
use Rattle.rules_figures.proofs.Asked.{asked-accounted}
use Rattle.rules_figures.proofs.Read.{asked-plain, painted-pieces, hidden-dropped, figures-read}
use Rattle.rules_figures.proofs.Small.{figures-small}
use Rattle.rules_figures.proofs.Totals.{totals-accounted, totals-small}
use Rattle.rules_figures.proofs.Files.{files-accounted}
use Rattle.rules_figures.proofs.figures_account_for_every_tile.Goals as goal

pub returns-clause-asked : goal.returns-clause-asked
returns-clause-asked c = asked-plain

pub returns-clause-painted : goal.returns-clause-painted
returns-clause-painted c = painted-pieces

pub returns-clause-hidden : goal.returns-clause-hidden
returns-clause-hidden c = hidden-dropped

pub returns-clause-read : goal.returns-clause-read
returns-clause-read c = figures-read

pub returns-clause-accounted : goal.returns-clause-accounted
returns-clause-accounted c = asked-accounted

pub returns-clause-small : goal.returns-clause-small
returns-clause-small c = figures-small

pub returns-clause-totals : goal.returns-clause-totals
returns-clause-totals c = totals-accounted

pub returns-clause-small_totals : goal.returns-clause-small_totals
returns-clause-small_totals c = totals-small

pub returns-clause-files : goal.returns-clause-files
returns-clause-files c = files-accounted
