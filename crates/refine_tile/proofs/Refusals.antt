-- The story of a tile of a judged recording is refused by the number that refuses the walk with room for everything; and where that is done, the story is told to
-- its end, into lines that are the rules' accounts.
use Prim.{Unit, tt}
use Rattle.std.proofs.Common.{ℕ, ◌≡◌, refl, sym, ◌∙◌, ap, true, List, [], length}
use Rattle.rules.specs.Answers.{Answer, Done}
use Rattle.rules.specs.Boxes.{Box, good_viewport}
use Rattle.rules.specs.Inputs.{Draw}
use Rattle.rules.specs.Plans.{Frame, Step, a-fill}
use Rattle.rules.specs.Steps.{reset, touched, call}
use Rattle.rules.specs.Recording.{Recording, LayerRec}
use Rattle.rules.specs.Plain.{untold}
use Rattle.rules.specs.Walk.{walk-all}
use Rattle.rules.specs.Logged.{Logged, logged-call, walk-logged}
use Rattle.rules.specs.Roomless.{buffers-alone, roomless}
use Rattle.rules.proofs.All.{All, nil, all_map}
use Rattle.rules.proofs.Follows.{OwnLayer, Owns, Agrees, own-walk-agrees}
use Rattle.rules_picture.proofs.Roomless.{call-limit}
use Rattle.tile.specs.Telling.{Telling, tell-at, nothing-told}
use Rattle.refine_tile.specs.Retold.{Retold}
use Rattle.refine_tile.proofs.Lines.{all_lines}
use Rattle.refine_tile.proofs.Walked.{even, called, Beside, story, step-beside, start, retold}
use Rattle.refine_tile.proofs.Limited.{Closes, Judged, step-closes, step-limit}
use Rattle.refine_tile.proofs.Owned.{Good, owned}

module _ (r : Recording) (w : ℕ) (v : Box) (row tile : ℕ) (ws : List ℕ) where
  -- a screen with its log, of which every open layer closes, and what the engine knows
  abbrev Closing : Logged ℕ → Telling → Type 0
  Closing s t = Beside ℕ buffers-alone w v row tile ws s t × All (Closes r.segments) s.screen.state.layers

  abbrev Alike : Step → Type 0
  Alike x = Agrees (λ (n : ℕ). Unit {0}) tt Closing (logged-call ℕ buffers-alone x) (tell-at w v row tile x)

  step-alike : (x : Step) → Judged r x → Alike x
  unfolding logged-call
  step-alike x j s t (h, c) =
      let st = s.screen.state in
      let js = touched ℕ buffers-alone (length st.layers) 0 s.screen.rows in
      let n : (tell-at w v row tile x t).number ≡ (call ℕ buffers-alone x s.screen).number =
      ap (λ (u : Telling). (tell-at w v row tile x u).number) h.is
      ∙ step-limit w v row tile ws r x js (story ℕ buffers-alone w v row tile ws s) st (all_lines w v row tile s.log untold) t.levels h.stands h.limits j c
      ∙ sym (call-limit x s.screen) in
      record {
        number = λ e. n;
        value = λ e. ((step-beside ℕ buffers-alone w v row tile ws x s t h e).1, rw (called buffers-alone x s.screen e) (step-closes r x js st j c));
      }

  layer-alike : (y : LayerRec) → OwnLayer (Judged r) r y → OwnLayer Alike r y
  layer-alike y o = record { push = step-alike _ o.push; filter = λ e. step-alike _ (o.filter e) }

  own-alike : Owns (Judged r) r → Owns Alike r
  own-alike o =
      record {
        fills = all_map (λ (d : Draw). step-alike (a-fill r.paints r.segments d)) o.fills;
        layers = all_map layer-alike o.layers;
        no-layer = layer-alike _ o.no-layer;
        pops = step-alike _ o.pops;
      }

-- what a story answers beside the walk's number and steps
pub record Retells (w : ℕ) (v : Box) (row tile : ℕ) (ws : List ℕ) (n : ℕ) (xs : List Step) (a : Answer Telling) : Type 0 where
  pub number : a.number ≡ n
  pub retold : n ≡ Done → Retold w v row tile xs ws a.value

pub story-retells : (w : ℕ) (f : Frame) (r : Recording) (row tile : ℕ) (ws : List ℕ) → good_viewport f.viewport ≡ true → Good r
    → Retells w f.viewport row tile ws (roomless f r).number (roomless f r).value.log (walk-all Telling (tell-at w f.viewport row tile) r (nothing-told ws))
unfolding walk-logged
story-retells w f r row tile ws g good =
    let v = f.viewport in
    let begin : Logged ℕ = record { screen = reset 0 f; log = [] } in
    let closed : All (Closes r.segments) begin.screen.state.layers = unfold reset in nil in
    let a = own-walk-agrees (λ (n : ℕ). Unit {0}) tt (Closing r w v row tile ws) (logged-call ℕ buffers-alone) (tell-at w v row tile) r (own-alike r w v row tile ws (owned r good))
    begin (nothing-told ws) (start ℕ buffers-alone w v row tile ws 0 f refl, closed) in
    record { number = a.number tt; retold = λ e. retold ℕ buffers-alone w v row tile ws (even v g) _ _ (a.value e).0 }
