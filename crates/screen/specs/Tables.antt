-- The words that a host lends, and what a reset leaves of them (rule 1).
use Rattle.std.specs.Prelude.{Result, ℕ, List, length, replicate, ℤ, pos, Float}
use Rattle.std.specs.Float.Ieee.{of_bits}
use Rattle.std.specs.Float.{binary32}
use Rattle.std.specs.Result.{result_unwrap_or}
use Rattle.sizes.specs.declared.answers.Refusal.{Refusal}
use Rattle.sizes.specs.Refusals.{answer_number}
use Rattle.rules.specs.Answers.{Answer, answer, settle}
use Rattle.rules.specs.Boxes.{rows_of}
use Rattle.rules.specs.Plans.{Frame, buckets-across}
use Rattle.screen.specs.declared.Screen.{Screen}
use Rattle.screen.specs.declared.lent.Lengths.{Lengths}
use Rattle.screen.specs.Screens.{fresh-screen}
use Rattle.screen.specs.Depths.{Depths, blank}
use Rattle.screen.specs.Judging.{judged_reset}

-- as many zeros z as there are words
abbrev pub zeros : {A : Type 0} → A → List A → List A
zeros z xs = replicate (length xs) z

abbrev pub float-0 : Float
float-0 = of_bits binary32 0

pub record Tables : Type 0 where
  pub render : List ℕ
  pub fills : List ℕ
  pub depth : Depths
  pub rows : List ℕ
  pub painting : List ℕ
  pub layers : List ℕ
  pub opacities : List Float
  pub paint-attrs : List ℕ
  pub layer-attrs : List ℕ
  pub filter-paints : List ℤ

abbrev pub tables : List ℕ → List ℕ → Depths → List ℕ → List ℕ → List ℕ → List Float → List ℕ → List ℕ → List ℤ → Tables
tables re fi de ro pa la op pas las fps =
    record {
      render = re;
      fills = fi;
      depth = de;
      rows = ro;
      painting = pa;
      layers = la;
      opacities = op;
      paint-attrs = pas;
      layer-attrs = las;
      filter-paints = fps;
    }

abbrev pub lengths : Tables → Lengths
lengths t =
    record {
      render_cmds = length t.render;
      depth_cmds = length t.fills;
      depth = length t.depth.words;
      rows = length t.rows;
      painting = length t.painting;
      layers = length t.layers;
      opacities = length t.opacities;
      paint_attrs = length t.paint-attrs;
      layer_attrs = length t.layer-attrs;
      filter_paints = length t.filter-paints;
      minima = length t.depth.minima;
    }

-- every word is 0 but for the minima, which are those of words that are 0
abbrev pub cleared : Frame → Tables → Tables
cleared f t =
    tables (zeros 0 t.render) (zeros 0 t.fills) (blank (rows_of f.viewport) (buckets-across f) t.depth) (zeros 0 t.rows) (zeros 0 t.painting) (zeros 0 t.layers)
    (zeros float-0 t.opacities) (zeros 0 t.paint-attrs) (zeros 0 t.layer-attrs) (zeros (pos 0) t.filter-paints)

-- a screen and its words
pub record ScreenLent : Type 0 where
  pub screen : Screen
  pub tables : Tables

abbrev pub screen_lent : Screen → Tables → ScreenLent
screen_lent s t = record { screen = s; tables = t }

-- what a call answers: the screen that it gives and its words; refused, the screen that was there
abbrev pub answer_of : Screen → Result Screen Refusal → Tables → Answer ScreenLent
answer_of s r t = answer (answer_number r) (screen_lent (result_unwrap_or r s) t)

-- a reset to a frame: the fresh screen with its words cleared, or what was there before
unfoldable pub reset_to : Frame → ScreenLent → Answer ScreenLent
reset_to f l = settle (judged_reset f (lengths l.tables)) l (screen_lent (fresh-screen f) (cleared f l.tables))
