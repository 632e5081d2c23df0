-- The code's boxes as the rules' boxes.
use Rattle.std.specs.Prelude.{◌≤◌, Bool, ◌&&◌, cond, eqb, Result, Ok, Err}
use Rattle.sizes.specs.declared.answers.Refusal.{Refusal}
use Rattle.sizes.specs.declared.answers.Refusal.TheVariants.{BadViewport}
use Rattle.rules.specs.Boxes.{Box, box, good_viewport}
use Rattle.rules.specs.Setups as rule
use Rattle.rect.specs.declared.Rect.{Rect}
use Rattle.rect.specs.declared.Mode.{Mode}
use Rattle.rect.specs.declared.Mode.TheVariants as mode

abbrev pub box_of : Rect → Box
box_of r = box r.x0 r.y0 r.x1 r.y1

abbrev pub rect-of : Box → Rect
rect-of b = record { x0 = b.x0; y0 = b.y0; x1 = b.x1; y1 = b.y1 }

abbrev pub mode_of : Mode → rule.Mode
mode_of mode.Exact = rule.exact
mode_of mode.Snapping = rule.snapping

-- a box as a screen's viewport, if it is good (answer 2)
unfoldable pub seen : Box → Result Rect Refusal
seen b = cond (good_viewport b) (Ok (rect-of b)) (Err BadViewport)

abbrev pub same-box : Box → Box → Bool
same-box a b = eqb a.x0 b.x0 && eqb a.y0 b.y0 && eqb a.x1 b.x1 && eqb a.y1 b.y1

-- no side past 32,768
pub record Small (b : Box) : Type 0 where
  pub left : b.x0 ≤ 32768
  pub top : b.y0 ≤ 32768
  pub right : b.x1 ≤ 32768
  pub bottom : b.y1 ≤ 32768
