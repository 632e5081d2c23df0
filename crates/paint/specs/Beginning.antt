-- Beginning to paint: the depth words are cleared and their minima made afresh, every row is at its first step, at nesting 0.
use Rattle.std.specs.Prelude.{ℕ, Bool, true, List, length}
use Rattle.rules.specs.Answers.{Answer, settle}
use Rattle.screen.specs.declared.Screen.{Screen}
use Rattle.screen.specs.Screens.{frame-of, screen-in}
use Rattle.screen.specs.Depths.{Depths, blank}
use Rattle.screen.specs.Tables.{zeros}
use Rattle.paint.specs.Judging.{count, wide, begin_number}

-- a screen with its depth words, their minima, and where its rows' painting stands
pub record Canvas : Type 0 where
  pub screen : Screen
  pub depth : Depths
  pub painting : List ℕ

abbrev pub canvas : Screen → Depths → List ℕ → Canvas
canvas s d p = record { screen = s; depth = d; painting = p }

-- the screen with painting begun, or ended
abbrev pub begun : Bool → Screen → Screen
begun b s =
    screen-in (frame-of s) s.clip_bbox s.next_draw_id s.paint_attrs s.layer_attrs s.filter_paints s.layers b

-- what is refused alters nothing
unfoldable pub beginning : Canvas → Answer Canvas
beginning k =
    settle (begin_number k.screen (length k.depth.words) (length k.depth.minima) (length k.painting)) k
    (canvas (begun true k.screen) (blank (count k.screen) (wide k.screen) k.depth) (zeros 0 k.painting))
