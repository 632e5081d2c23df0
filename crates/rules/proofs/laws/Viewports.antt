-- What a good viewport is, as facts. Assumes nothing.
use Rattle.std.proofs.Common.{◌≡◌, true, ◌≤◌, ◌%◌, arith}
use Rattle.std.proofs.lemmas.Bool.Decides.{nat_tests}
use Rattle.rules.specs.Boxes.{Box, width, height, good_viewport}

pub record View (v : Box) : Type 0 where
  pub x0-by-4 : v.x0 % 4 ≡ 0
  pub x1-by-4 : v.x1 % 4 ≡ 0
  pub y0-by-4 : v.y0 % 4 ≡ 0
  pub y1-by-4 : v.y1 % 4 ≡ 0
  pub in_order : v.x0 ≤ v.x1
  pub in-order-y : v.y0 ≤ v.y1
  pub right : v.x1 ≤ 32768
  pub bottom : v.y1 ≤ 32768
  pub wide : width v ≤ 4096
  pub high : height v ≤ 2048

pub view : (v : Box) → good_viewport v ≡ true → View v
unfolding good_viewport
view v g =
    record {
      x0-by-4 = grind (arith, nat_tests);
      x1-by-4 = grind (arith, nat_tests);
      y0-by-4 = grind (arith, nat_tests);
      y1-by-4 = grind (arith, nat_tests);
      in_order = grind (arith, nat_tests);
      in-order-y = grind (arith, nat_tests);
      right = grind (arith, nat_tests);
      bottom = grind (arith, nat_tests);
      wide = grind (arith, nat_tests);
      high = grind (arith, nat_tests);
    }
