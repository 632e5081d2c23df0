use Rattle.convert.proofs.Theorems.{exact-to-two, exact-to-one, there-and-back, always-back, same-recording, same-played, same-screen}
use Rattle.convert.proofs.conversions_lose_nothing.Goals as goal

pub returns-clause-two : goal.returns-clause-two
returns-clause-two c = exact-to-two

pub returns-clause-one : goal.returns-clause-one
returns-clause-one c = exact-to-one

pub returns-clause-back : goal.returns-clause-back
returns-clause-back c = there-and-back

pub returns-clause-always : goal.returns-clause-always
returns-clause-always c = always-back

pub returns-clause-same : goal.returns-clause-same
returns-clause-same c = same-recording

pub returns-clause-played : goal.returns-clause-played
returns-clause-played c = same-played

pub returns-clause-screen : goal.returns-clause-screen
returns-clause-screen c = same-screen
