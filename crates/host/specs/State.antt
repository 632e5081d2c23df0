-- A screen's numbers as the words that a host lends.
use Rattle.std.specs.Prelude.{ℕ, Bool, true, false, ◌&&◌, cond, List, [], ◌∷◌, length, get_or, leb, ltb, eqb, Option, None, Some}
use Rattle.sizes.specs.Sizes.{state-size}
use Rattle.sizes.specs.declared.width.Width.{Width}
use Rattle.sizes.specs.declared.width.Width.TheVariants.{W64, W128, W256}
use Rattle.rules.specs.Answers.{Answer, answer, BadRecord}
use Rattle.rect.specs.declared.Rect.{Rect}
use Rattle.screen.specs.declared.Screen.{Screen}

abbrev pub bit : Bool → ℕ
bit true = 1
bit false = 0

abbrev pub rect : ℕ → ℕ → ℕ → ℕ → Rect
rect x0 y0 x1 y1 = record { x0 = x0; y0 = y0; x1 = x1; y1 = y1 }

-- a bucket's width: 0 stands for 128 pixels, so that words that are all 0 are a screen's
abbrev pub width_word : Width → ℕ
width_word W64 = 1
width_word W128 = 0
width_word W256 = 2

abbrev pub width-at : ℕ → Width
width-at n = cond (eqb n 1) W64 (cond (eqb n 2) W256 W128)

-- viewport, clip box, C, D, next id, paint attributes, layer attributes, filter paints, open layers, whether painting has begun, the width
abbrev pub screen-words : Screen → List ℕ
screen-words s =
    s.viewport.x0
    ∷ s.viewport.y0
    ∷ s.viewport.x1
    ∷ s.viewport.y1
    ∷ s.clip_bbox.x0
    ∷ s.clip_bbox.y0
    ∷ s.clip_bbox.x1
    ∷ s.clip_bbox.y1
    ∷ s.c
    ∷ s.d
    ∷ s.next_draw_id
    ∷ s.paint_attrs
    ∷ s.layer_attrs
    ∷ s.filter_paints
    ∷ s.layers
    ∷ bit s.painting
    ∷ width_word s.width
    ∷ []

abbrev pub screen-at : List ℕ → Screen
screen-at ws =
    record {
      viewport = rect (get_or ws 0 0) (get_or ws 1 0) (get_or ws 2 0) (get_or ws 3 0);
      clip_bbox = rect (get_or ws 4 0) (get_or ws 5 0) (get_or ws 6 0) (get_or ws 7 0);
      c = get_or ws 8 0;
      d = get_or ws 9 0;
      next_draw_id = get_or ws 10 0;
      paint_attrs = get_or ws 11 0;
      layer_attrs = get_or ws 12 0;
      filter_paints = get_or ws 13 0;
      layers = get_or ws 14 0;
      painting = eqb (get_or ws 15 0) 1;
      width = width-at (get_or ws 16 0);
    }

-- 17 words, the last two of them 0 or 1, and 0 to 2
abbrev pub good-words : List ℕ → Bool
good-words ws = eqb (length ws) state-size && leb (get_or ws 15 0) 1 && leb (get_or ws 16 0) 2

-- the screen that the words stand for, if what else the host gives is good
unfoldable pub screen_of : Bool → List ℕ → Option Screen
screen_of good ws = cond (good && good-words ws) (Some (screen-at ws)) None

-- The number of a call whose words are refused by 4 at the border, n being the call's own: 1, 2 and 3 come first.
unfoldable pub before_4 : ℕ → ℕ
before_4 n = cond (ltb 0 n && ltb n BadRecord) n BadRecord

-- .. of the screen at 17 words; words of another length are no screen at all
unfoldable pub refused_at : List ℕ → (Screen → ℕ) → ℕ
refused_at ws f = cond (eqb (length ws) state-size) (before_4 (f (screen-at ws))) BadRecord

-- what a call on a screen gives, or a refusal at the border with everything as it was
abbrev pub at_held : {T : Type 0} → Option Screen → List ℕ → T → (Screen → Answer T) → Answer T
at_held None ws t f = answer (refused_at ws (λ (s : Screen). (f s).number)) t
at_held (Some s) ws t f = f s

-- .. on a host's words; good: whether what else the host gives is good
abbrev pub on : {T : Type 0} → Bool → List ℕ → T → (Screen → Answer T) → Answer T
on good ws t f = at_held (screen_of good ws) ws t f
