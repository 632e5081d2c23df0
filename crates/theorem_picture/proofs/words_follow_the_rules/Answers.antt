use Rattle.theorem_picture.proofs.Canvases.{recorded-canvas, recorded-whole}
use Rattle.theorem_picture.proofs.Answered.{canvas-answered}
use Rattle.theorem_picture.proofs.Refined.{rows-refined, touched-rows, step-refined, reset-refined, steps-agree, walks-agree, file-refined, whole-kept}
use Rattle.theorem_picture.proofs.Stored.{canvas-stored}
use Rattle.theorem_picture.proofs.words_follow_the_rules.Goals as goal

pub returns-clause-rows : goal.returns-clause-rows
returns-clause-rows c = rows-refined

pub returns-clause-touched : goal.returns-clause-touched
returns-clause-touched c = touched-rows

pub returns-clause-step : goal.returns-clause-step
returns-clause-step c = step-refined

pub returns-clause-resets : goal.returns-clause-resets
returns-clause-resets c = reset-refined

pub returns-clause-steps : goal.returns-clause-steps
returns-clause-steps c = steps-agree

pub returns-clause-walks : goal.returns-clause-walks
returns-clause-walks c = walks-agree

pub returns-clause-files : goal.returns-clause-files
returns-clause-files c = file-refined

pub returns-clause-recordings : goal.returns-clause-recordings
returns-clause-recordings c = λ ws q k fit. record { words = recorded-canvas ws q k fit; whole = recorded-whole ws q k fit }

pub returns-clause-canvases : goal.returns-clause-canvases
returns-clause-canvases c = canvas-answered

pub returns-clause-stored : goal.returns-clause-stored
returns-clause-stored c = canvas-stored

pub returns-clause-whole : goal.returns-clause-whole
returns-clause-whole c = whole-kept
