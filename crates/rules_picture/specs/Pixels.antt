-- Two kinds of colours: pixels that are composited by source-over, and a log that forgets what a hiding fill covers. Both keep the laws.
use Rattle.std.specs.Prelude.{ℕ, ◌+◌, ◌-◌, ◌*◌, ◌/◌, ◌≡◌, Bool, true, ◌&&◌, cond, List, [], ◌∷◌, ◌++◌}
use Rattle.std.specs.Prelude.{Option, None, Some}
use Rattle.rules.specs.Lists.{is-empty, is_none}
use Rattle.rules.specs.Boxes.{Box}
use Rattle.rules.specs.Attributes.{Attrs}
use Rattle.rules.specs.Plans.{Step}
use Rattle.rules.specs.Plain.{Told, untold, tell-steps}
use Rattle.rules.proofs.All.{All}
use Rattle.rules_picture.specs.Colours.{Colours, Opaque, Gentle}

-- four channels in 255ths, the colour multiplied by the alpha
pub record Pixel : Type 0 where
  pub red : ℕ
  pub green : ℕ
  pub blue : ℕ
  pub alpha : ℕ

abbrev pub clear : Pixel
clear = record { red = 0; green = 0; blue = 0; alpha = 0 }

-- what the alpha a of the pixel above leaves of a channel below
abbrev pub under : ℕ → ℕ → ℕ
under a x = x * (255 - a) / 255

abbrev pub over : Pixel → Pixel → Pixel
over s d =
    record {
      red = s.red + under s.alpha d.red;
      green = s.green + under s.alpha d.green;
      blue = s.blue + under s.alpha d.blue;
      alpha = s.alpha + under s.alpha d.alpha;
    }

abbrev pub scaled : ℕ → Pixel → Pixel
scaled k p = record { red = p.red * k / 255; green = p.green * k / 255; blue = p.blue * k / 255; alpha = p.alpha * k / 255 }

module _ (paint : ℕ → Pixel) (opacity coverage : ℕ → ℕ) where
  abbrev pub masked : Option ℕ → Pixel → Pixel
  masked None p = p
  masked (Some a) p = scaled (coverage a) p

  -- a pixel for each paint attribute, an opacity for each layer attribute, a coverage for each alpha index: any numbers
  abbrev pub source-over : Colours Pixel
  source-over =
      record {
        blank = clear;
        fill = λ i a b. over (masked a (paint i)) b;
        close = λ i a top b. over (masked a (scaled (opacity i) top)) b;
      }

-- what a log says of one tile: a fill of an attribute; a layer from its beginning to its end, with its attribute
pub data Mark : Type 0 where
  drew : ℕ → Mark
  begins : Mark
  ends : ℕ → Mark

-- A log. A fill of an attribute that is said to be solid, over the whole tile, forgets what was there; of a layer in which nothing was drawn nothing is said.
module _ (solid : ℕ → Bool) where
  abbrev pub forgetful : Colours (List Mark)
  forgetful =
      record {
        blank = [];
        fill = λ i a b. cond (solid i && is_none a) (drew i ∷ []) (b ++ (drew i ∷ []));
        close = λ i a top b. cond (is-empty top) b (b ++ (begins ∷ (top ++ (ends i ∷ []))));
      }

-- Law 1 holds of such pixels wherever the attributes of the fills that hide have alpha 255, ..
abbrev pub PixelsHide : Type 0
PixelsHide =
    (paint : ℕ → Pixel) (opacity coverage : ℕ → ℕ) (w : ℕ) (v : Box) (r t : ℕ) (xs : List Step)
    → All (λ (u : Told). u.hides ≡ true → (paint u.entry.attribute).alpha ≡ 255) (tell-steps w v r t xs untold).told
    → Opaque (source-over paint opacity coverage) (tell-steps w v r t xs untold).told

-- .. and of such a log wherever these attributes are said to be solid;
abbrev pub LogHides : Type 0
LogHides =
    (solid : ℕ → Bool) (w : ℕ) (v : Box) (r t : ℕ) (xs : List Step)
    → All (λ (u : Told). u.hides ≡ true → solid u.entry.attribute ≡ true) (tell-steps w v r t xs untold).told
    → Opaque (forgetful solid) (tell-steps w v r t xs untold).told

-- law 2 holds of both, whatever the attributes are.
abbrev pub PixelsGentle : Type 0
PixelsGentle = (paint : ℕ → Pixel) (opacity coverage : ℕ → ℕ) (t : Attrs) → Gentle (source-over paint opacity coverage) t

abbrev pub LogGentle : Type 0
LogGentle = (solid : ℕ → Bool) (t : Attrs) → Gentle (forgetful solid) t
