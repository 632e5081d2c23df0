-- The step that is judged and the step that is done, way by way. Assumes nothing.
use Rattle.std.proofs.Common.{◌≡◌, refl, sym, ap, ◌∙◌, Bool, true, false, ◌||◌, not, List, [], ◌∷◌, map, Option, None, Some, option_map, Ok, ok_or, ℕ, zero, suc, ◌≤◌, ◌<◌, ◌+◌, ◌-◌, ◌*◌, ◌/◌, arith, length, ltb, lt-ltb, le-ltb, ltb-false}
use Rattle.sizes.specs.declared.answers.Refusal.TheVariants.{BadRecord}
use Rattle.sizes.specs.Sizes.{piece-size}
use Rattle.rules.specs.Attributes.{Attrs, no-attrs}
use Rattle.rules.specs.Commands as rule
use Rattle.cmd.specs.Reading.{depth_fill_of}
use Rattle.rules.specs.Depth.{Summary, write-runs, written}
use Rattle.rules.specs.Painting as rules
use Rattle.rules.specs.Painting.{gives, depth-piece, paint-depth, paint-command}
use Rattle.span.specs.declared.TileSpan.{TileSpan}
use Rattle.span.specs.Spans.{tiles, buckets}
use Rattle.cmd.specs.declared.command.Fill.{Fill}
use Rattle.cmd.specs.declared.command.RenderCmd.{RenderCmd}
use Rattle.cmd.specs.declared.command.RenderCmd.TheVariants.{PaintFill, LayerFill, PushBuf, PopBuf}
use Rattle.cmd.specs.declared.depth_fill.DepthFill.{DepthFill}
use Rattle.cmd.specs.Commands.{command}
use Rattle.cmd.specs.DepthFills.{depth-fill}
use Rattle.cmd.specs.Good.{GoodCommand}
use Rattle.cmd.proofs.BothWays.{depth-reads-good, reads-good}
use Rattle.paint.specs.Answers.{Painted, Advanced, advanced}
use Rattle.rules.specs.Minima.{halvings, mended-runs}
use Rattle.screen.specs.Depths.{depths}
use Rattle.paint.specs.Painting.{word, RowLent, words_lent, StepOut, out, painter-at, good-paint, good-layer, fill-shown, command-shown, depth-step, command-step, depth-fill-at, command-at, bad-row, fill-minima, next-step, next-minima, refused, listed, settled, painted-row}
use Rattle.paint.specs.declared.command.marks.Mark.{Mark}
use Rattle.paint.specs.Reading.{paint_mark, layer_mark}
use Rattle.paint.specs.Summaries.{good-summary, summary-at}
use Rattle.paint.proofs.Two.{two_same}
use Rattle.paint.proofs.Judging.{if_some, if_none, ok_some}

above_zero : (n : ℕ) → (n ≡ 0 → ⊥) → 0 < n
above_zero zero h = absurd (h refl)
above_zero (suc n) h = omega arith

module _ (D M P l : List ℕ) where
  -- no step: 4
  pub forged : (ms : List ℕ) (o : Option rules.Painted) → o ≡ None → out (refused 4) (depths D M) P l ≡ settled o ms (depths D M) P l
  unfolding settled
  forged ms o e = rw e

  -- a step without pieces always has room
  pub bare : (b : Bool) (q : rules.Painter) → q.buckets ≡ D
      → out (record { number = 0; finished = b; pieces = 0 }) (depths D M) (q.steps ∷ q.nesting ∷ []) l
      ≡ settled (Some (record { finished = b; pieces = []; painter = q })) M (depths D M) P l
  unfolding settled
  bare b q e = rw (le-ltb (length l / piece-size) 0 (omega arith), e)

-- at `wide` tiles a bucket
module _ (wide : ℕ) (attrs : Attrs) (D M P l : List ℕ) where
  -- a depth fill's two words, read
  module _ (o : Option rule.DepthFill) (r : Option DepthFill) (h : option_map depth-fill r ≡ o) where
    pub depth_unread : r ≡ None → out (refused 4) (depths D M) P l ≡ settled (depth-step wide attrs (painter-at D P) o) (fill-minima attrs (depths D M) o) (depths D M) P l
    unfolding depth-step
    depth_unread e = forged D M P l _ _ (ap (depth-step wide attrs (painter-at D P)) (sym h ∙ ap (option_map depth-fill) e))

    module _ (f : DepthFill) (e : r ≡ Some f) where
      is-fill : o ≡ Some (depth-fill f)
      is-fill = sym h ∙ ap (option_map depth-fill) e

      pub depth_forged : paint_mark attrs f.attrs_idx ≡ None → out (refused 4) (depths D M) P l ≡ settled (depth-step wide attrs (painter-at D P) o) (fill-minima attrs (depths D M) o) (depths D M) P l
      unfolding depth-step
      depth_forged g = forged D M P l _ _ (rw (is-fill, if_none (good-paint attrs f.attrs_idx) _ g))

      pub depth_taken : (m : Mark) (x : StepOut) → paint_mark attrs f.attrs_idx ≡ Some m
          → x
          ≡ settled
          (Some
          (gives (map (depth-piece wide no-attrs f.attrs_idx m.panel) (write-runs D (buckets f.buckets))) (written D m.id (buckets f.buckets)) (word P 0 + 1) (word P 1)))
          (mended-runs (halvings (length D)) M (written D m.id (buckets f.buckets)) (write-runs D (buckets f.buckets)))
          (depths D M) P l
          → x ≡ settled (depth-step wide attrs (painter-at D P) o) (fill-minima attrs (depths D M) o) (depths D M) P l
      unfolding depth-step paint-depth fill-minima
      depth_taken m x g q =
          let t = if_some (good-paint attrs f.attrs_idx) _ m g in
          q ∙ rw (is-fill, t.1, t.0)

  -- a command's fill, of a paint ..
  module _ (v : Summary) (c : RenderCmd) (f : Fill) (e : c ≡ PaintFill f) where
    pub paint_forged : paint_mark attrs f.attrs_idx ≡ None → out (refused 4) (depths D M) P l ≡ settled (command-step wide attrs v (painter-at D P) (Some (command c))) M (depths D M) P l
    unfolding command-step
    paint_forged g = forged D M P l _ _ (rw (e, if_none (good-paint attrs f.attrs_idx) _ g))

    pub paint_taken : (q : Option Mark) (m : Mark) (x : StepOut) → q ≡ paint_mark attrs f.attrs_idx → Ok m ≡ ok_or q BadRecord
        → x ≡ settled (Some (fill-shown wide no-attrs v false m.id f.attrs_idx m.panel (tiles f.span) f.alpha (painter-at D P))) M (depths D M) P l
        → x ≡ settled (command-step wide attrs v (painter-at D P) (Some (command c))) M (depths D M) P l
    unfolding command-step command-shown fill-shown
    paint_taken o m x h g q =
        let t = if_some (good-paint attrs f.attrs_idx) _ m (sym h ∙ ok_some o m BadRecord g) in
        q ∙ rw (e, t.1, t.0)

  -- .. and of a layer
  module _ (v : Summary) (c : RenderCmd) (f : Fill) (e : c ≡ LayerFill f) where
    pub layer_forged : layer_mark attrs f.attrs_idx ≡ None → out (refused 4) (depths D M) P l ≡ settled (command-step wide attrs v (painter-at D P) (Some (command c))) M (depths D M) P l
    unfolding command-step
    layer_forged g = forged D M P l _ _ (rw (e, if_none (good-layer attrs f.attrs_idx) _ g))

    pub layer_taken : (q : Option Mark) (m : Mark) (x : StepOut) → q ≡ layer_mark attrs f.attrs_idx → Ok m ≡ ok_or q BadRecord
        → x ≡ settled (Some (fill-shown wide no-attrs v true m.id f.attrs_idx m.panel (tiles f.span) f.alpha (painter-at D P))) M (depths D M) P l
        → x ≡ settled (command-step wide attrs v (painter-at D P) (Some (command c))) M (depths D M) P l
    unfolding command-step command-shown fill-shown
    layer_taken o m x h g q =
        let t = if_some (good-layer attrs f.attrs_idx) _ m (sym h ∙ ok_some o m BadRecord g) in
        q ∙ rw (e, t.1, t.0)

  -- buffers
  module _ (v : Summary) (c : RenderCmd) (b : Option TileSpan) (e : c ≡ PushBuf b) where
    pub push_forged : 16 ≤ word P 1 → out (refused 4) (depths D M) P l ≡ settled (command-step wide attrs v (painter-at D P) (Some (command c))) M (depths D M) P l
    unfolding command-step
    push_forged h = forged D M P l _ _ (rw (e, le-ltb (word P 1) 16 h))

    pub push_done : (p : Painted) (P' : List ℕ) → word P 1 < 16 → advanced p P' ≡ advanced (listed 0) ((word P 0 + 1) ∷ (word P 1 + 1) ∷ [])
        → out p (depths D M) P' l ≡ settled (command-step wide attrs v (painter-at D P) (Some (command c))) M (depths D M) P l
    unfolding command-step command-shown paint-command
    push_done p P' h q =
        ap (λ (x : Advanced). out x.answer (depths D M) x.painting l) q
        ∙ bare D M P l false (record { buckets = D; steps = word P 0 + 1; nesting = word P 1 + 1 }) refl
        ∙ rw (e, lt-ltb (word P 1) 16 h)

  module _ (v : Summary) (c : RenderCmd) (e : c ≡ PopBuf) where
    pub pop_forged : word P 1 ≡ 0 → out (refused 4) (depths D M) P l ≡ settled (command-step wide attrs v (painter-at D P) (Some (command c))) M (depths D M) P l
    unfolding command-step
    pop_forged h = forged D M P l _ _ (rw (e, h))

    pub pop_done : (p : Painted) (P' : List ℕ) → (word P 1 ≡ 0 → ⊥) → advanced p P' ≡ advanced (listed 0) ((word P 0 + 1) ∷ (word P 1 - 1) ∷ [])
        → out p (depths D M) P' l ≡ settled (command-step wide attrs v (painter-at D P) (Some (command c))) M (depths D M) P l
    unfolding command-step command-shown paint-command
    pop_done p P' h q =
        ap (λ (x : Advanced). out x.answer (depths D M) x.painting l) q
        ∙ bare D M P l false (record { buckets = D; steps = word P 0 + 1; nesting = word P 1 - 1 }) refl
        ∙ rw (e, lt-ltb 0 (word P 1) (above_zero _ h))

  -- the row, judged
  module _ (s r f : List ℕ) where
    abbrev w : RowLent
    w = words_lent s r f (depths D M) P l

    pub row_forged : bad-row w ≡ true → out (refused 4) (depths D M) P l ≡ painted-row wide attrs w
    unfolding painted-row next-step
    row_forged h = forged D M P l _ _ (rw h)

    module _ (good : bad-row w ≡ false) where
      -- the depth fill at its place, ..
      pub then_depth : (x : StepOut) (k : ℕ) → word P 0 < word s 1 → k ≡ word s 1 - (word P 0 + 1)
          → x ≡ settled (depth-step wide attrs (painter-at D P) (depth-fill-at (length D) f k)) (fill-minima attrs (depths D M) (depth-fill-at (length D) f k)) (depths D M) P l
          → x ≡ painted-row wide attrs w
      unfolding painted-row next-step next-minima
      then_depth x k h e q = q ∙ rw (good, lt-ltb _ _ h, e)

      module _ (h5 : word s 1 ≤ word P 0) where
        -- .. the command at its place, ..
        module _ (h6 : word P 0 - word s 1 < word s 0) (o : Option RenderCmd) (q : option_map command o ≡ command-at r (word P 0 - word s 1)) where
          pub then_unread : o ≡ None → out (refused 4) (depths D M) P l ≡ painted-row wide attrs w
          unfolding painted-row next-step command-step
          then_unread b =
              let none-there : command-at r (word P 0 - word s 1) ≡ None = sym q ∙ ap (option_map command) b in
              forged D M P l _ _ (rw (good, le-ltb _ _ h5, lt-ltb _ _ h6, none-there))

          pub then_command : (x : StepOut) (c : RenderCmd) → o ≡ Some c
              → x ≡ settled (command-step wide attrs (summary-at s) (painter-at D P) (Some (command c))) M (depths D M) P l → x ≡ painted-row wide attrs w
          unfolding painted-row next-step next-minima
          then_command x c b u =
              let there : command-at r (word P 0 - word s 1) ≡ Some (command c) = sym q ∙ ap (option_map command) b in
              u ∙ rw (good, le-ltb _ _ h5, lt-ltb _ _ h6, there)

        -- .. or finished
        pub then_finished : word s 0 ≤ word P 0 - word s 1 → length P ≡ 2
            → out (record { number = 0; finished = true; pieces = 0 }) (depths D M) P l ≡ painted-row wide attrs w
        unfolding painted-row next-step next-minima
        then_finished h two =
            ap (λ (x : List ℕ). out (record { number = 0; finished = true; pieces = 0 }) (depths D M) x l) (two_same P two)
            ∙ bare D M P l true (painter-at D P) refl
            ∙ rw (good, le-ltb _ _ h5, le-ltb _ _ h)

-- the counts of a row that is not forged
module _ (s r f P : List ℕ) where
  pub record Counts : Type 0 where
    pub renders : 4 * word s 0 ≤ length r
    pub depths : 2 * word s 1 ≤ length f
    pub steps : word P 0 ≤ word s 1 + word s 0

  pub counts : bad-row (words_lent s r f (depths [] []) P []) ≡ false → Counts
  counts e = go (ltb (length r) (4 * word s 0)) (ltb (length f) (2 * word s 1)) (ltb 16 (word P 1)) (ltb (word s 1 + word s 0) (word P 0)) refl refl refl e
    where
      go : (a b c d : Bool) → ltb (length r) (4 * word s 0) ≡ a → ltb (length f) (2 * word s 1) ≡ b → ltb (word s 1 + word s 0) (word P 0) ≡ d
          → (a || b || c || d || not (good-summary s)) ≡ false → Counts
      go false false false false p q t e = record { renders = ltb-false _ _ p; depths = ltb-false _ _ q; steps = ltb-false _ _ t }
      go true b c d p q t e = let z : ◌≡◌ {A = ℕ} 0 1 = cc in absurd (omega arith)
      go false true c d p q t e = let z : ◌≡◌ {A = ℕ} 0 1 = cc in absurd (omega arith)
      go false false true d p q t e = let z : ◌≡◌ {A = ℕ} 0 1 = cc in absurd (omega arith)
      go false false false true p q t e = let z : ◌≡◌ {A = ℕ} 0 1 = cc in absurd (omega arith)

-- what a depth fill that was read gives its doing half
pub depth_good : (n s i : ℕ) (r : Option DepthFill) (f : DepthFill) → option_map depth-fill r ≡ depth_fill_of n s i → r ≡ Some f
    → (f.buckets.first ≤ f.buckets.end) × (f.buckets.end ≤ n)
depth_good n s i r f h e =
    let g = depth-reads-good n s i (depth-fill f) (sym h ∙ ap (option_map depth-fill) e) in
    (g.in_order, g.in-limit)

-- what a command that was read gives
pub command_good : (ws : List ℕ) (k : ℕ) (r : Option RenderCmd) (c : RenderCmd) → option_map command r ≡ command-at ws k → r ≡ Some c → GoodCommand (command c)
command_good ws k r c h e = reads-good _ _ _ _ (command c) (sym h ∙ ap (option_map command) e)
