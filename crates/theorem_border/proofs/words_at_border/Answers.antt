use Rattle.host.proofs.Words.{read_back, written_back}
use Rattle.theorem_border.proofs.Holds.{holds, alone-hosted}
use Rattle.theorem_border.proofs.FillLists.{fills-hosted}
use Rattle.theorem_border.proofs.ManyRows.{rows-hosted}
use Rattle.theorem_border.proofs.OwnRows.{own-row-hosted}
use Rattle.theorem_border.proofs.Sized.{sizes-fit}
use Rattle.theorem_border.proofs.UsedAgain.{used-hosted}
use Rattle.theorem_border.proofs.words_at_border.Goals as goal

pub returns-clause-screen_read : goal.returns-clause-screen_read
returns-clause-screen_read c = read_back

pub returns-clause-words_written : goal.returns-clause-words_written
returns-clause-words_written c = written_back

pub returns-clause-reached : goal.returns-clause-reached
returns-clause-reached c = λ b f xs h hosted. holds hosted

pub returns-clause-alone : goal.returns-clause-alone
returns-clause-alone c = alone-hosted

pub returns-clause-sizes : goal.returns-clause-sizes
returns-clause-sizes c = sizes-fit

pub returns-clause-fills : goal.returns-clause-fills
returns-clause-fills c = λ t f xs h ps ss ws a b n r e. fills-hosted ps ss ws a b n r e

pub returns-clause-rows : goal.returns-clause-rows
returns-clause-rows c = λ t f xs h r list ends k. rows-hosted r list ends k

pub returns-clause-reset_used : goal.returns-clause-reset_used
returns-clause-reset_used c = used-hosted

pub returns-clause-own_row : goal.returns-clause-own_row
returns-clause-own_row c = own-row-hosted
