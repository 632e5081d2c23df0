use Rattle.screen.specs.Layers.{layer-words}
use Rattle.screen.proofs.LayersLaws.{layer-back, nan-back, words-length, other_word}
use Rattle.screen.proofs.open_layers_keep.Goals as goal

pub returns-clause-read : goal.returns-clause-read
returns-clause-read c = layer-back

pub returns-clause-pattern : goal.returns-clause-pattern
returns-clause-pattern c = nan-back

pub returns-clause-others : goal.returns-clause-others
returns-clause-others c = λ t k h e l nan j i n g. other_word t k h e (layer-words l nan) (words-length l nan) j n i g
