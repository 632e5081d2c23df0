-- A recording that the rules walk to its end is told to its end by the engine of one tile, into lines that are the rules' accounts.
use Rattle.std.proofs.Common.{ℕ, ◌+◌, ◌%◌, arith, ◌≡◌, refl, sym, ◌∙◌, ap, true, ◌&&◌, List, [], ◌∷◌, ◌++◌, length, eqb-true}
use Rattle.rules.specs.Answers.{answer, Done}
use Rattle.rules.specs.Boxes.{Box, by_4, bounded, good_viewport}
use Rattle.rules.specs.Rows.{Row, RowOps, row-ops, fresh-row}
use Rattle.rules.specs.Plans.{Frame, Step, still, plan}
use Rattle.rules.specs.Steps.{Screen, reset, touched, call}
use Rattle.rules.specs.Recording.{Recording}
use Rattle.rules.specs.Walk.{walk-all}
use Rattle.rules.specs.Plain.{Story, untold, tell-step, tell-steps}
use Rattle.rules.specs.Logged.{Logged, logged-call, walk-logged}
use Rattle.rules.proofs.All.{and_left, and_right}
use Rattle.rules_picture.proofs.Shape.{Shape, none_open}
use Rattle.rules_picture.proofs.Stepped.{call-carried}
use Rattle.rules_picture.proofs.Limits.{Limits, call-limits}
use Rattle.rules.proofs.Follows.{Agrees, walk-agrees}
use Rattle.tile.specs.Telling.{Telling, tell-at, nothing-told}
use Rattle.refine_tile.specs.Retold.{Retold}
use Rattle.refine_tile.proofs.Rows.{Even}
use Rattle.refine_tile.proofs.Inside.{inside-none, Fitting, no_step, one_more, steps-more}
use Rattle.refine_tile.proofs.Lines.{step_lines, all_lines, lines_more, steps-say, say-length}
use Rattle.refine_tile.proofs.Stories.{Stands, planned, done-state, call-stands}
use Rattle.refine_tile.proofs.Tells.{telling, few, step_after}

-- a good viewport starts at multiples of 4
pub even : (v : Box) → good_viewport v ≡ true → Even v
unfolding good_viewport
even v g =
    let a = by_4 v.x0 in
    let b = by_4 v.x1 in
    let c = by_4 v.y0 in
    let d = by_4 v.y1 in
    let box = and_left _ _ (and_left _ _ g) in
    let sides = and_left (a && b && c && d) (bounded v) box in
    let x = eqb-true (v.x0 % 4) 0 (and_left a b (and_left (a && b) c (and_left (a && b && c) d sides))) in
    let y = eqb-true (v.y0 % 4) 0 (and_right (a && b) c (and_left (a && b && c) d sides)) in
    record { left = omega arith; top = omega arith }

-- the state that a done call leaves
pub called : {R : Type 0} (ops : RowOps R) (x : Step) (s : Screen R) → (call R ops x s).number ≡ Done
    → (call R ops x s).value.state ≡ planned (plan x (touched R ops (length s.state.layers) 0 s.rows) s.state) s.state
called {R} ops x s e =
    ap (λ (u : Screen R). u.state) (call-carried ops x s e).1 ∙ done-state ops (plan x (touched R ops (length s.state.layers) 0 s.rows) s.state) s

-- On rows of any kind: the story and the lines go by the steps alone.
module _ (R : Type 0) (ops : RowOps R) (w : ℕ) (v : Box) (row tile : ℕ) (ws : List ℕ) where
  abbrev pub story : Logged R → Story
  story s = tell-steps w v row tile s.log untold

  -- a screen with its log, and what the engine knows
  pub record Beside (s : Logged R) (t : Telling) : Type 0 where
    pub fitting : Fitting w v row tile s.log untold
    pub stands : Stands v (story s) s.screen.state
    pub limits : Limits (still Done s.screen.state)
    pub is : t ≡ telling ws (story s) (all_lines w v row tile s.log untold) t.levels (length s.screen.state.attrs.filters)
    pub shape : Shape (story s).open-layers t.levels
    pub count : length (all_lines w v row tile s.log untold) ≡ (story s).paints + (story s).layers

  pub step-beside : (x : Step) (s : Logged R) (t : Telling) → Beside s t → (call R ops x s.screen).number ≡ Done
      → ((tell-at w v row tile x t).number ≡ Done) × Beside (record { screen = (call R ops x s.screen).value; log = s.log ++ (x ∷ []) }) (tell-at w v row tile x t).value
  step-beside x s t h e =
      let st = s.screen.state in
      let js = touched R ops (length st.layers) 0 s.screen.rows in
      let o = story s in
      let ls = all_lines w v row tile s.log untold in
      let (f, k) = call-stands w v row tile ops x o s.screen h.stands e in
      let lim = call-limits ops x s.screen e in
      let a = step_after w v row tile ws x js o st ls t.levels h.stands (call-carried ops x s.screen e).0 lim f h.shape h.count in
      let told : tell-at w v row tile x t ≡ answer Done (telling ws (tell-step w v row tile x o) (ls ++ step_lines w v row tile x o) a.levels (length (plan x js st).attrs.filters)) =
      ap (tell-at w v row tile x) h.is ∙ a.is in
      let more = steps-more w v row tile x s.log untold in
      let longer = lines_more w v row tile x s.log untold in
      let after = called ops x s.screen e in
      rw told (
        refl,
        record {
          fitting = one_more w v row tile x h.fitting f;
          stands = rw more k;
          limits = rw after (record { deep = lim.deep; ids = lim.ids; attrs = lim.attrs });
          is = rw (more, longer, after);
          shape = rw more a.shape;
          count = rw (more, longer) a.count;
        },
      )

  step-agrees : (x : Step) → Agrees (λ (n : ℕ). n ≡ Done) refl Beside (logged-call R ops x) (tell-at w v row tile x)
  unfolding logged-call
  step-agrees x s t h = record { number = λ e. (step-beside x s t h e).0 ∙ sym e; value = λ e. (step-beside x s t h e).1 }

  pub start : (fresh : R) (f : Frame) → f.viewport ≡ v → Beside (record { screen = reset fresh f; log = [] }) (nothing-told ws)
  unfolding reset tell-steps all_lines
  start fresh f e =
      record {
        fitting = no_step;
        stands = record { view = e; next = refl; paints = refl; layers = refl; opened = refl };
        limits = record { deep = refl; ids = refl; attrs = refl };
        is = refl;
        shape = none_open;
        count = refl;
      }

  pub retold : Even v → (s : Logged R) (t : Telling) → Beside s t → Retold w v row tile s.log ws t
  retold ev s t h =
      let say = steps-say w v row tile ev h.fitting (inside-none v row) in
      let p : t.paints ≡ (story s).paints = ap (λ (u : Telling). u.paints) h.is in
      let l : t.layers ≡ (story s).layers = ap (λ (u : Telling). u.layers) h.is in
      let a = s.screen.state.attrs in
      let x = few a h.limits.attrs in
      let xs = h.stands.paints in
      let ys = h.stands.layers in
      let n = say-length say in
      let c = h.count in
      record {
        paints = p;
        layers = l;
        few-paints = omega arith;
        few-layers = omega arith;
        count = omega arith;
        all_said = all_lines w v row tile s.log untold;
        say = say;
        lines = ap (λ (u : Telling). u.lines) h.is;
      }

-- Where the rules' walk of a recording is done, so is the engine's; and what it has told is the rules' account of the tile.
pub tile-told : (w : ℕ) (f : Frame) (r : Recording) (row tile : ℕ) (ws : List ℕ) → good_viewport f.viewport ≡ true
    → let a = walk-logged Row row-ops fresh-row f r in
    let b = walk-all Telling (tell-at w f.viewport row tile) r (nothing-told ws) in
    a.number ≡ Done → (b.number ≡ Done) × Retold w f.viewport row tile a.value.log ws b.value
unfolding walk-logged
tile-told w f r row tile ws g e =
    let v = f.viewport in
    let begin : Logged Row = record { screen = reset fresh-row f; log = [] } in
    let a = walk-agrees (λ (n : ℕ). n ≡ Done) refl (Beside Row row-ops w v row tile ws) (logged-call Row row-ops) (tell-at w v row tile)
    (step-agrees Row row-ops w v row tile ws) r begin (nothing-told ws) (start Row row-ops w v row tile ws fresh-row f refl) in
    (a.number e ∙ e, retold Row row-ops w v row tile ws (even v g) _ _ (a.value e))
