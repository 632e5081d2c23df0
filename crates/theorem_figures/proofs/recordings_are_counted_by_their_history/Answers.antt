use Rattle.theorem_figures.proofs.Recorded.{screen-left, asked-plain, painted-pieces, hidden-dropped, rows-hold, refused-alone, figures-lent, figures-own}
use Rattle.theorem_figures.proofs.recordings_are_counted_by_their_history.Goals as goal

pub returns-clause-left : goal.returns-clause-left
returns-clause-left c = screen-left

pub returns-clause-asked : goal.returns-clause-asked
returns-clause-asked c = asked-plain

pub returns-clause-painted : goal.returns-clause-painted
returns-clause-painted c = painted-pieces

pub returns-clause-hidden : goal.returns-clause-hidden
returns-clause-hidden c = hidden-dropped

pub returns-clause-held : goal.returns-clause-held
returns-clause-held c = rows-hold

pub returns-clause-refused : goal.returns-clause-refused
returns-clause-refused c = refused-alone

pub returns-clause-lent : goal.returns-clause-lent
returns-clause-lent c = figures-lent

pub returns-clause-own : goal.returns-clause-own
returns-clause-own c = figures-own
