-- What is read of a row, refused or done. Assumes nothing.
use Rattle.std.proofs.Common.{◌≡◌, refl, sym, ap, Bool, true, false, ◌&&◌, cond, List, ℕ, ◌≤◌, ◌<◌, ◌*◌, arith, length, leb, eqb, ne_eqb, eqb-true, leb-true}
use Rattle.std.proofs.Common.{Option, None, Some, option_map, ok_or, le-ltb, lt-ltb}
use borrow.Author.Tests.{eqb-false}
use Rattle.sizes.specs.declared.answers.Refusal.{Refusal}
use Rattle.sizes.specs.declared.answers.Refusal.TheVariants as refusal
use Rattle.sizes.specs.Refusals.{number_of}
use Rattle.sizes.proofs.Refusals.{not_done}
use Rattle.rules.specs.Answers.{Answer, answer}
use Rattle.cmd.specs.declared.command.RenderCmd.{RenderCmd}
use Rattle.cmd.specs.declared.depth_fill.DepthFill as code
use Rattle.cmd.specs.Commands.{command}
use Rattle.cmd.specs.DepthFills.{depth-fill}
use Rattle.rules.proofs.All.{and_left, and_right}
use Rattle.screen.specs.declared.Screen.{Screen}
use Rattle.row.specs.Words.{Words}
use Rattle.paint.specs.Answers.{word}
use Rattle.paint.specs.Painting.{command-at, depth-fill-at}
use Rattle.paint.specs.Judging.{count, wide, rows_long, painting-long}
use Rattle.paint.specs.Stepping.{part, Within}
use Rattle.paint.specs.StoredCmds.{stored-long, stored_number, progress_number, Lengths, lengths, gone, record-lengths, lengths-of-row, or-bad, command-of-row, depth-of-row, progress-of-row, command_read, depth_read}
use Rattle.paint.proofs.Judged.{There, there-by}
use Rattle.paint.proofs.ScreenParts.{lies}

module _ (s : Screen) (r : ℕ) (t : Words) where
  stored-there : stored_number s r t ≡ 0 → There s r (stored-long s (length t.render) (length t.fills)) (rows_long s (length t.state))
  unfolding stored_number
  stored-there h = there-by s r _ _ h

  -- row r's parts lie within the words
  pub record Parts : Type 0 where
    pub state : Within 54 r t.state
    pub render : Within (4 * s.c) r t.render
    pub fills : Within (2 * s.d) r t.fills
    pub c-few : s.c ≤ 1024
    pub d-few : s.d ≤ 1024

  pub parts : 0 ≡ stored_number s r t → Parts
  parts h =
      let o = stored-there (sym h) in
      let re = eqb (length t.render) (count s * (4 * s.c)) in
      let fi = eqb (length t.fills) (count s * (2 * s.d)) in
      let p = o.passed in
      record {
        state = lies (count s) r 54 t.state o.there p.few (omega arith) p.tables;
        render = lies (count s) r (4 * s.c) t.render o.there p.few (omega (arith, p.c-room.few)) (and_left re fi p.arenas);
        fills = lies (count s) r (2 * s.d) t.fills o.there p.few (omega (arith, p.d-room.few)) (and_right re fi p.arenas);
        c-few = p.c-room.few;
        d-few = p.d-room.few;
      }

  pub lengths_refused : (k : Refusal) → number_of k ≡ stored_number s r t → answer (number_of k) (lengths 0 0) ≡ lengths-of-row s r t
  unfolding lengths-of-row
  lengths_refused k e = rw (← e, ne_eqb (number_of k) 0 (not_done k))

  pub lengths_done : 0 ≡ stored_number s r t → (a : Answer Lengths) → a ≡ record-lengths s (part 54 r t.state) → a ≡ lengths-of-row s r t
  unfolding lengths-of-row
  lengths_done h a e = rw (← h) e

  -- where the lengths are read, row r is there and has room for them
  pub record Counted (l : Lengths) : Type 0 where
    pub there : 0 ≡ stored_number s r t
    pub commands : l.commands ≤ s.c
    pub depths : l.depths ≤ s.d

  pub counted : (l : Lengths) → answer 0 l ≡ lengths-of-row s r t → Counted l
  unfolding lengths-of-row
  counted l = go (eqb n 0) refl
    where
      n : ℕ
      n = stored_number s r t

      w : List ℕ
      w = part 54 r t.state

      fit : (x : Bool) → (leb (word w 0) s.c && leb (word w 1) s.d) ≡ x → 0 ≡ n
          → answer 0 l ≡ cond x (answer 0 (lengths (word w 0) (word w 1))) (answer 4 (lengths 0 0)) → Counted l
      fit true q h e =
          let c = leb-true _ _ (and_left (leb (word w 0) s.c) (leb (word w 1) s.d) q) in
          let d = leb-true _ _ (and_right (leb (word w 0) s.c) (leb (word w 1) s.d) q) in
          let f = ap (λ (a : Answer Lengths). a.value) e in
          record { there = h; commands = rw f c; depths = rw f d }
      fit false q h e = absurd (omega (arith, ap (λ (a : Answer Lengths). a.number) e))

      go : (x : Bool) → eqb n 0 ≡ x → answer 0 l ≡ cond x (record-lengths s w) (answer n (lengths 0 0)) → Counted l
      go true q e = fit _ refl (sym (eqb-true _ _ q)) e
      go false q e = absurd (eqb-false _ _ q (sym (ap (λ (a : Answer Lengths). a.number) e)))

  module _ (k : Refusal) (i : ℕ) (e : answer (number_of k) (lengths 0 0) ≡ lengths-of-row s r t) where
    pub command_refused : answer (number_of k) None ≡ command-of-row s r t i
    unfolding command-of-row
    command_refused = rw (← e, ne_eqb (number_of k) 0 (not_done k)) refl

    pub depth_refused : answer (number_of k) None ≡ depth-of-row s r t i
    unfolding depth-of-row
    depth_refused = rw (← e, ne_eqb (number_of k) 0 (not_done k)) refl

  module _ (l : Lengths) (i : ℕ) (e : answer 0 l ≡ lengths-of-row s r t) where
    -- past the last
    pub no_command : l.commands ≤ i → answer 12 None ≡ command-of-row s r t i
    unfolding command-of-row
    no_command h = rw (← e, le-ltb i l.commands h) refl

    pub no_depth : l.depths ≤ i → answer 12 None ≡ depth-of-row s r t i
    unfolding depth-of-row
    no_depth h = rw (← e, le-ltb i l.depths h) refl

    -- .. and there
    pub command_done : i < l.commands → (o : Option RenderCmd)
        → option_map command o ≡ command-at (part (4 * s.c) r t.render) i → command_read (ok_or o refusal.BadRecord) ≡ command-of-row s r t i
    unfolding command-of-row
    command_done h o q = rw (← e, lt-ltb i l.commands h, ← q) (go o)
      where
        go : (o : Option RenderCmd) → command_read (ok_or o refusal.BadRecord) ≡ or-bad (option_map command o)
        go None = refl
        go (Some x) = refl

    pub depth_done : i < l.depths → (o : Option code.DepthFill)
        → option_map depth-fill o ≡ depth-fill-at (wide s) (part (2 * s.d) r t.fills) i → depth_read (ok_or o refusal.BadRecord) ≡ depth-of-row s r t i
    unfolding depth-of-row
    depth_done h o q = rw (← e, lt-ltb i l.depths h, ← q) (go o)
      where
        go : (o : Option code.DepthFill) → depth_read (ok_or o refusal.BadRecord) ≡ or-bad (option_map depth-fill o)
        go None = refl
        go (Some x) = refl

module _ (s : Screen) (r : ℕ) (painting : List ℕ) where
  pub painting_within : 0 ≡ progress_number s r (length painting) → Within 2 r painting
  unfolding progress_number
  painting_within h =
      let o = there-by s r true (painting-long s (length painting)) (sym h) in
      lies (count s) r 2 painting o.there o.passed.few (omega arith) o.passed.tables

  pub progress_refused : (k : Refusal) → number_of k ≡ progress_number s r (length painting) → answer (number_of k) (gone 0 0) ≡ progress-of-row s r painting
  unfolding progress-of-row
  progress_refused k e = rw (← e, ne_eqb (number_of k) 0 (not_done k)) refl

  pub progress_done : 0 ≡ progress_number s r (length painting) → answer 0 (gone (word (part 2 r painting) 0) (word (part 2 r painting) 1)) ≡ progress-of-row s r painting
  unfolding progress-of-row
  progress_done h = rw (← h) refl
