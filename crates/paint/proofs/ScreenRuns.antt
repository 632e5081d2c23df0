-- The runs and `can_skip` of a row, refused or done. Assumes nothing.
use Rattle.std.proofs.Common.{◌≡◌, refl, ap, ◌∙◌, Bool, false, cond, List, ℕ, ◌+◌, ◌-◌, ◌*◌, ◌/◌, length, take, drop, eqb, ne_eqb, eq-eqb, Result, Ok, Err}
use borrow.Rule.Slice.PartMut.{put_mid}
use Rattle.sizes.specs.declared.answers.Refusal.{Refusal}
use Rattle.sizes.specs.Refusals.{number_of}
use Rattle.sizes.proofs.Refusals.{not_done}
use Rattle.sizes.specs.Widths.{bucket-tiles}
use Rattle.rules.specs.Answers.{Answer}
use Rattle.rules.specs.Spans.{Span}
use Rattle.rules.specs.Depth.{unset_answer, visible_answer}
use Rattle.depth.specs.Answers.{skip_of, hidden_of}
use Rattle.depth.specs.Minima.{hidden-asked}
use Rattle.depth.specs.Listing.{RunsOut, OutWrite, out, out-write, numbers, listing, writing}
use Rattle.rules.specs.Minima.{minima-room}
use Rattle.screen.specs.declared.Screen.{Screen}
use Rattle.screen.specs.Depths.{Depths, depths}
use Rattle.paint.specs.Judging.{wide, runs_number, write_number, hidden_number, skip_number}
use Rattle.paint.specs.Beginning.{begun}
use Rattle.paint.specs.Stepping.{part, Within}
use Rattle.paint.specs.DirectRuns.{or-runs, unset-of, visible-of, wrote, write-in-place, write-of, hidden-of-row, record-skip, skip-of-row}
use Rattle.paint.proofs.ScreenParts.{part-is, put_is, part_length}

module _ (s : Screen) (r : ℕ) (depth : List ℕ) (t : Span) where
  module _ (k : Refusal) (e : number_of k ≡ runs_number s r (length depth)) where
    no-runs : (x : Answer (List Span)) (l : List ℕ) → out (Err k) l ≡ listing (or-runs (runs_number s r (length depth)) x) l
    unfolding listing numbers
    no-runs x l = rw (← e, ne_eqb (number_of k) 0 (not_done k))

    pub unset_refused : (l : List ℕ) → out (Err k) l ≡ unset-of s r depth t l
    unfolding unset-of
    unset_refused l = no-runs _ l

    pub visible_refused : (id : ℕ) (l : List ℕ) → out (Err k) l ≡ visible-of s r depth t id l
    unfolding visible-of
    visible_refused id l = no-runs _ l

  module _ (h : 0 ≡ runs_number s r (length depth)) where
    pub unset_done : (x : RunsOut) (l : List ℕ) → x ≡ listing (unset_answer (bucket-tiles s.width) (part (wide s) r depth) t (length l / 2)) l → x ≡ unset-of s r depth t l
    unfolding unset-of
    unset_done x l k = rw (← h) k

    pub visible_done : (x : RunsOut) (id : ℕ) (l : List ℕ) → x ≡ listing (visible_answer (bucket-tiles s.width) (part (wide s) r depth) id t (length l / 2)) l
        → x ≡ visible-of s r depth t id l
    unfolding visible-of
    visible_done x id l k = rw (← h) k

module _ (s : Screen) (r : ℕ) (rows : List ℕ) (t : Span) (id : ℕ) where
  pub skip_refused : (k : Refusal) → number_of k ≡ skip_number s r (length rows) → skip_of (Err k) ≡ skip-of-row s r rows t id
  unfolding skip-of-row
  skip_refused k e = rw (← e, ne_eqb (number_of k) 0 (not_done k))

  pub skip_done : 0 ≡ skip_number s r (length rows) → (x : Answer Bool) → x ≡ record-skip (part 54 r rows) t id → x ≡ skip-of-row s r rows t id
  unfolding skip-of-row
  skip_done h x k = rw (← h) k

-- the question about the row's minima
module _ (s : Screen) (r : ℕ) (minima : List ℕ) (t : Span) (id : ℕ) where
  pub hidden_refused : (k : Refusal) → number_of k ≡ hidden_number s r (length minima) → hidden_of (Err k) ≡ hidden-of-row s r minima t id
  unfolding hidden-of-row
  hidden_refused k e = rw (← e, ne_eqb (number_of k) 0 (not_done k))

  pub hidden_done : 0 ≡ hidden_number s r (length minima) → Within (minima-room (wide s)) r minima → (b m : ℕ) → b ≡ wide s → m ≡ minima-room b
      → (ws : List ℕ) → ws ≡ part m r minima → (x : Answer Bool) → x ≡ hidden-asked ws b t id → x ≡ hidden-of-row s r minima t id
  unfolding hidden-of-row
  hidden_done h w b m f g ws p x k =
      let own : length (part (minima-room (wide s)) r minima) ≡ minima-room (wide s) = part_length (minima-room (wide s)) r minima w in
      rw (← h) (k ∙ rw (p, g, f, eq-eqb _ _ own))

module _ (s : Screen) (r : ℕ) (d : Depths) (id : ℕ) (t : Span) (l : List ℕ) where
  pub write_refused : (k : Refusal) → number_of k ≡ write_number s r (length d.words) (length d.minima) → wrote (Err k) s l d ≡ write-of s r d id t l
  unfolding write-of listing numbers
  write_refused k e = rw (← e, ne_eqb (number_of k) 0 (not_done k))

  module _ (h : 0 ≡ write_number s r (length d.words) (length d.minima)) (b : ℕ) (f : b ≡ wide s) (c : ℕ) (g : c ≡ minima-room b)
      (q : Result ℕ Refusal) (m ws ms : List ℕ)
      (k : out-write q m ws ms
      ≡ writing (take (r * b + b - r * b) (drop (r * b) d.words)) (take (r * c + c - r * c) (drop (r * c) d.minima)) id t l) where
    g' : c ≡ minima-room (wide s)
    g' = g ∙ ap minima-room f

    same_write : write-in-place s r d (out-write q m ws ms) ≡ write-of s r d id t l
    unfolding write-of
    same_write = rw (← h) (ap (write-in-place s r d) (rw (part-is b r d.words, part-is c r d.minima, g', f) at k))

    in_place : (z : Screen) → z ≡ cond (eqb (out q m).number 0) (begun false s) s
        → wrote q z m (depths (put_mid (r * b) (r * b + b - r * b) d.words ws) (put_mid (r * c) (r * c + c - r * c) d.minima ms)) ≡ write-of s r d id t l
    in_place z j = rw (put_is b r d.words ws, put_is c r d.minima ms, g', f, j) same_write

  module _ (h : 0 ≡ write_number s r (length d.words) (length d.minima)) (b : ℕ) (f : b ≡ wide s) (c : ℕ) (g : c ≡ minima-room b) (m ws ms : List ℕ) where
    abbrev put-back : Depths
    put-back = depths (put_mid (r * b) (r * b + b - r * b) d.words ws) (put_mid (r * c) (r * c + c - r * c) d.minima ms)

    abbrev of-parts : OutWrite
    of-parts = writing (take (r * b + b - r * b) (drop (r * b) d.words)) (take (r * c + c - r * c) (drop (r * c) d.minima)) id t l

    pub write_kept : (k : Refusal) → out-write (Err k) m ws ms ≡ of-parts → wrote (Err k) s m put-back ≡ write-of s r d id t l
    write_kept k e = in_place h b f c g (Err k) m ws ms e s (rw (ne_eqb (number_of k) 0 (not_done k)))

    pub write_done : (n : ℕ) → out-write (Ok n) m ws ms ≡ of-parts → wrote (Ok n) (begun false s) m put-back ≡ write-of s r d id t l
    write_done n e = in_place h b f c g (Ok n) m ws ms e (begun false s) refl
