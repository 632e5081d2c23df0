-- A done call has put its lines and totals into the table; a refused one has changed nothing.
use Rattle.std.proofs.Common.{◌≡◌, refl, sym, ap, ◌∙◌, Bool, true, false, ◌||◌, not, List, [], ◌∷◌, ℕ, suc, ◌*◌, ◌+◌, ◌≤◌, arith, eqb, ltb, length, drop, eqb-true, ltb-false}
use lib.Seq.{take-append_seam, drop-append_seam}
use Rattle.sizes.specs.declared.edition.Edition.{Edition}
use Rattle.rules.specs.Answers.{Answer, answer, first_of, Done, BadRecord, NoRoom}
use Rattle.rules.specs.Setups.{Setup}
use Rattle.rules.proofs.All.{or_left}
use Rattle.rules_figures.specs.Figures.{table}
use Rattle.rules_figures.specs.Accounted.{most-recordings}
use Rattle.tally.specs.Listed.{Listed, good-ends, files-from, files-in, figures-number, Counted, counted-from, Desk, desk, filled, figured}
use Rattle.screen.specs.Tables.{ScreenLent}
use Rattle.theorem_figures.specs.Called.{lines-of, Told, Call-told, Call-kept}

-- a file for each end
files-long : (e : Edition) (ws : List ℕ) (at : ℕ) (ns : List ℕ) → length (files-from e ws at ns) ≡ length ns
unfolding files-from
files-long e ws at [] = refl
files-long e ws at (n ∷ ns) = ap (λ (k : ℕ). suc k) (files-long e ws n ns)

judged-first : (x y : Bool) → first_of ((x, BadRecord) ∷ (y, NoRoom) ∷ []) ≡ Done → x ≡ false
judged-first true y e = absurd (omega arith)
judged-first false y e = refl

module _ (l : Listed) (q : Setup) (k : ScreenLent) (t : List ℕ) where
  abbrev n : ℕ
  n = figures-number l (length t)

  abbrev c : Counted
  c = counted-from q (files-in l) k

  few : n ≡ Done → length (files-in l) ≤ most-recordings
  unfolding figures-number
  few e =
      let many = ltb most-recordings (length l.ends) in
      let bad = not (good-ends 0 (length l.words) l.ends) in
      let f = or_left many bad (judged-first (many || bad) (ltb (length t) (6 * (length l.ends + 1))) e) in
      rw (files-long l.edition l.words 0 l.ends) (ltb-false _ _ f)

  done : n ≡ Done → figured l q k t ≡ answer Done (filled c t)
  unfolding figured
  done e = rw e refl

  kept : eqb n Done ≡ false → figured l q k t ≡ answer n (desk k t)
  unfolding figured
  kept e = rw e refl

  judged : (figured l q k t).number ≡ Done → n ≡ Done
  judged z = go (eqb n Done) refl
    where
      go : (b : Bool) → eqb n Done ≡ b → n ≡ Done
      go true e = eqb-true _ _ e
      go false e = sym (ap (λ (a : Answer Desk). a.number) (kept e)) ∙ z

  call_told : (figured l q k t).number ≡ Done → Told l q k t
  call_told z =
      let e = judged z in
      let ns = table (lines-of l q k) in
      record {
        few = few e;
        told = rw (done e) (take-append_seam ns (drop (length ns) t));
        rest = rw (done e) (drop-append_seam ns (drop (length ns) t));
        left = rw (done e) refl;
      }

  call_kept : ((figured l q k t).number ≡ Done → ⊥) → (figured l q k t).value ≡ desk k t
  call_kept z = go (eqb n Done) refl
    where
      go : (b : Bool) → eqb n Done ≡ b → (figured l q k t).value ≡ desk k t
      go true e = absurd (z (ap (λ (a : Answer Desk). a.number) (done (eqb-true _ _ e))))
      go false e = ap (λ (a : Answer Desk). a.value) (kept e)

pub call-told : Call-told
call-told = call_told

pub call-kept : Call-kept
call-kept = call_kept
