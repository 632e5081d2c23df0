-- The building calls at a screen and all its words, each by the definition that its contract cites on its part of what is lent, and the step
-- of the rules that the words of a call say.
use Rattle.std.specs.Prelude.{ℕ, List, map}
use Rattle.rules.specs.Answers.{Answer}
use Rattle.rules.specs.Plans.{Step, a-fill, a-pop, a-filter}
use Rattle.segments.specs.Segs.{segs-of}
use Rattle.screen.specs.Tables.{ScreenLent}
use Rattle.screen.specs.declared.layers.LayerProps.{LayerProps}
use Rattle.inputs.specs.declared.Draw.{Draw}
use Rattle.inputs.specs.Inputs.{draw-of}
use Rattle.fill.specs.Fills.{paints-of, filled}
use Rattle.fill.specs.Lists.{FillsOut, draws_in, fills_listed}
use Rattle.sizes.specs.declared.edition.Edition.TheVariants.{Two}
use Rattle.layers.specs.Push.{pushed}
use Rattle.pop.specs.Pop.{popped}
use Rattle.layers.specs.Filter.{FilterGiven, filter-of, filtered}
use Rattle.walk.specs.Steps.{fill-part, fill-into, push-part, push-into, pop-part, pop-into, filter-part, filter-into, with_value}

-- `fill` with any words as paints, four each, and as segments, five each
unfoldable pub fill-at : List ℕ → List ℕ → Draw → ScreenLent → Answer ScreenLent
fill-at ps ss d l = with_value (fill-into l.tables) (filled (fill-part l) ps ss d)

-- `fill_list` of the draws from a to b of any words: number, how many fills are done, ..
abbrev pub fills-out : List ℕ → List ℕ → List ℕ → ℕ → ℕ → ScreenLent → FillsOut
fills-out ps ss ws a b l = fills_listed ps ss ws a b (fill-part l)

-- .. and what they leave
abbrev pub fills-left : List ℕ → List ℕ → List ℕ → ℕ → ℕ → ScreenLent → ScreenLent
fills-left ps ss ws a b l = fill-into l.tables (fills-out ps ss ws a b l).value

-- `push_layer` with any properties
unfoldable pub push_at : LayerProps → ScreenLent → Answer ScreenLent
push_at p l = with_value (push-into l.tables) (pushed p (push-part l))

-- `pop_layer` with any words as segments
unfoldable pub pop-at : List ℕ → ScreenLent → Answer ScreenLent
pop-at ss l = pop-into l.tables (popped l.screen (pop-part l) ss)

-- `filter_fill` with any placement, and any picture or none, beside a list of n paints, for a layer of any panel q
unfoldable pub filter-at : FilterGiven → ScreenLent → Answer ScreenLent
filter-at g l = with_value (filter-into l.tables) (filtered g (filter-part l))

-- what the words say: a paint's two shift words are read by no rule
abbrev pub fill-said : List ℕ → List ℕ → Draw → Step
fill-said ps ss d = a-fill (paints-of ps) (segs-of ss) (draw-of d)

-- .. of the draws of a list, k of them from number a on
abbrev pub fills-said : List ℕ → List ℕ → List ℕ → ℕ → ℕ → List Step
fills-said ps ss ws a k = map (fill-said ps ss) (draws_in Two ws a k)

abbrev pub pop-said : List ℕ → Step
pop-said ss = a-pop (segs-of ss)

abbrev pub filter-said : FilterGiven → Step
filter-said g = a-filter g.count (filter-of g) g.panel
