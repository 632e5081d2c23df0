-- A draw as words: seven in edition one, where its panel is 0; eight in edition two, its panel the last.
use Rattle.std.specs.Prelude.{ℕ, ◌+◌, List, get_or}
use Rattle.sizes.specs.declared.edition.Edition.{Edition}
use Rattle.sizes.specs.declared.edition.Edition.TheVariants.{One, Two}
use Rattle.inputs.specs.declared.Draw.{Draw}

abbrev pub panel_at : Edition → List ℕ → ℕ → ℕ
panel_at One ws p = 0
panel_at Two ws p = get_or ws (p + 7) 0

-- the draw at place p
abbrev pub draw_at : Edition → List ℕ → ℕ → Draw
draw_at e ws p =
    record {
      thread = get_or ws p 0;
      start = get_or ws (p + 1) 0;
      «end» = get_or ws (p + 2) 0;
      paint = get_or ws (p + 3) 0;
      blend = record { mix = get_or ws (p + 4) 0; compose = get_or ws (p + 5) 0 };
      mask = get_or ws (p + 6) 0;
      panel = panel_at e ws p;
    }
