-- The words that a building call does not store are the screen's as they stand. Assumes nothing.
use Rattle.std.proofs.Common.{◌≡◌, sym, ap, ◌∙◌, Bool, List, Some, ℕ, get_or}
use Rattle.screen.specs.declared.Screen.{Screen}
use Rattle.layers.specs.Push.{OnlyLayers}
use Rattle.layers.specs.Filter.{OnlyPaints}
use Rattle.fill.specs.Named.{OnlyFilled}
use Rattle.host.specs.declared.state.StateWords.{StateWords}
use Rattle.host.specs.State.{screen-at, screen_of, width_word}
use Rattle.host.specs.Held.{words_in}
use Rattle.host.specs.OneLook.{PushLeaves, FillLeaves, FilterLeaves}
use Rattle.host.proofs.Words.{written_back}

-- w stands for a screen
module _ (w : StateWords) (good : Bool) (h : Some (screen-at (words_in w)) ≡ screen_of good (words_in w)) where
  abbrev s : Screen
  s = screen-at (words_in w)

  wide : w.width ≡ width_word s.width
  wide = sym (ap (λ (ws : List ℕ). get_or ws 16 0) (written_back good (words_in w) s h))

  pub push-leaves : (t : Screen) → OnlyLayers s t → PushLeaves w t
  push-leaves t e =
      record {
        frame =
            record {
              viewport = sym (ap (λ (x : Screen). x.viewport) e);
              c = sym (ap (λ (x : Screen). x.c) e);
              d = sym (ap (λ (x : Screen). x.d) e);
              width = wide ∙ sym (ap (λ (x : Screen). width_word x.width) e);
            };
        next = sym (ap (λ (x : Screen). x.next_draw_id) e);
        paints = sym (ap (λ (x : Screen). x.paint_attrs) e);
        layer-attrs = sym (ap (λ (x : Screen). x.layer_attrs) e);
        filters = sym (ap (λ (x : Screen). x.filter_paints) e);
      }

  pub fill-leaves : (t : Screen) → OnlyFilled s t → FillLeaves w t
  fill-leaves t e =
      record {
        frame =
            record {
              viewport = sym (ap (λ (x : Screen). x.viewport) e);
              c = sym (ap (λ (x : Screen). x.c) e);
              d = sym (ap (λ (x : Screen). x.d) e);
              width = wide ∙ sym (ap (λ (x : Screen). width_word x.width) e);
            };
        clip = sym (ap (λ (x : Screen). x.clip_bbox) e);
        layer-attrs = sym (ap (λ (x : Screen). x.layer_attrs) e);
        filters = sym (ap (λ (x : Screen). x.filter_paints) e);
        layers = sym (ap (λ (x : Screen). x.layers) e);
      }

  pub filter-leaves : (t : Screen) → OnlyPaints s t → FilterLeaves w t
  filter-leaves t e =
      record {
        frame =
            record {
              viewport = sym (ap (λ (x : Screen). x.viewport) e);
              c = sym (ap (λ (x : Screen). x.c) e);
              d = sym (ap (λ (x : Screen). x.d) e);
              width = wide ∙ sym (ap (λ (x : Screen). width_word x.width) e);
            };
        clip = sym (ap (λ (x : Screen). x.clip_bbox) e);
        layer-attrs = sym (ap (λ (x : Screen). x.layer_attrs) e);
        layers = sym (ap (λ (x : Screen). x.layers) e);
      }
