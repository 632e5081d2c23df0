-- The words that say paints and segments, and the parts of a file's words that are lent for them.
use Rattle.std.proofs.Common.{ℕ, zero, suc, ◌+◌, ◌*◌, ◌/◌, add_assoc, mul-zero, arith, ◌≡◌, refl, sym, ◌∙◌, List, [], ◌∷◌, length, get_or, get_or-drop}
use Rattle.rules.specs.Lists.{join}
use Rattle.rules.specs.Inputs.{Paint}
use Rattle.rules.specs.Segments.{Segment}
use Rattle.rules.specs.Recording.{Recording}
use Rattle.rules.specs.Words.{paint-words, segment-words}
use Rattle.segments.specs.Segs.{seg-at, segs, segs-of}
use Rattle.file.specs.Each.{each}
use Rattle.file.specs.Places.{paint_from}
use Rattle.screen.specs.declared.Screen.{Screen}
use Rattle.inputs.specs.declared.Draw as step
use Rattle.fill.specs.Fills as fills
use Rattle.fill.specs.Fills.{paint-at, paints, paints-of, filled}
use Rattle.pop.specs.Pop as pop
use Rattle.pop.specs.Pop.{popped}
use Rattle.walk.proofs.Calls.{same-fill, same-pop}

-- four words a paint
pub paints-words-length : (ps : List Paint) → length (join paint-words ps) ≡ 4 * length ps
paints-words-length [] = refl
paints-words-length (p ∷ ps) = rw (paints-words-length ps) (omega arith)

pub segments-words-length : (ss : List Segment) → length (join segment-words ss) ≡ 5 * length ss
segments-words-length [] = refl
segments-words-length (s ∷ ss) = rw (segments-words-length ss) (omega arith)

-- past the first paint's words
module _ (a b c d : ℕ) (ws : List ℕ) where
  there : (i : ℕ) → get_or (a ∷ b ∷ c ∷ d ∷ ws) (4 + i) 0 ≡ get_or ws i 0
  there i = sym (get_or-drop 4 (a ∷ b ∷ c ∷ d ∷ ws) i 0)

  next-paint : (i : ℕ) → paint-at (a ∷ b ∷ c ∷ d ∷ ws) (i + 1) ≡ paint-at ws i
  next-paint i =
      let p : 4 * (i + 1) ≡ 4 + 4 * i = omega arith in
      let q : 4 * (i + 1) + 1 ≡ 4 + (4 * i + 1) = omega arith in
      rw (q, p, there (4 * i), there (4 * i + 1))

  next-paints : (k i : ℕ) → paints (a ∷ b ∷ c ∷ d ∷ ws) (i + 1) k ≡ paints ws i k
  unfolding paints
  next-paints zero i = refl
  next-paints (suc k) i = rw (next-paint i, next-paints k (i + 1))

paints-back : (ps : List Paint) → paints (join paint-words ps) 0 (length ps) ≡ ps
unfolding paints
paints-back [] = refl
paints-back (p ∷ ps) = rw (next-paints p.opaque p.handle 0 0 (join paint-words ps) (length ps) 0, paints-back ps)

pub paints-said : (ps : List Paint) → paints-of (join paint-words ps) ≡ ps
paints-said ps =
    let e : length (join paint-words ps) / 4 ≡ length ps = rw (paints-words-length ps) (omega arith) in
    rw e (paints-back ps)

module _ (a b c d e : ℕ) (ws : List ℕ) where
  beyond : (i : ℕ) → get_or (a ∷ b ∷ c ∷ d ∷ e ∷ ws) (5 + i) 0 ≡ get_or ws i 0
  beyond i = sym (get_or-drop 5 (a ∷ b ∷ c ∷ d ∷ e ∷ ws) i 0)

  next-seg : (i : ℕ) → seg-at (a ∷ b ∷ c ∷ d ∷ e ∷ ws) (i + 1) ≡ seg-at ws i
  unfolding seg-at
  next-seg i =
      let p : 5 * (i + 1) ≡ 5 + 5 * i = omega arith in
      rw (p, add_assoc 5 (5 * i) 1, add_assoc 5 (5 * i) 2, add_assoc 5 (5 * i) 3, add_assoc 5 (5 * i) 4)
      (rw (beyond (5 * i), beyond (5 * i + 1), beyond (5 * i + 2), beyond (5 * i + 3), beyond (5 * i + 4)))

  next-segs : (k i : ℕ) → segs (a ∷ b ∷ c ∷ d ∷ e ∷ ws) (i + 1) k ≡ segs ws i k
  unfolding segs
  next-segs zero i = refl
  next-segs (suc k) i = rw (next-seg i, next-segs k (i + 1))

segs-back : (ss : List Segment) → segs (join segment-words ss) 0 (length ss) ≡ ss
unfolding segs seg-at
segs-back [] = refl
segs-back (s ∷ ss) = rw (next-segs s.kind s.row s.first s.end s.alpha (join segment-words ss) (length ss) 0, segs-back ss)

pub segments-said : (ss : List Segment) → segs-of (join segment-words ss) ≡ ss
segments-said ss =
    let e : length (join segment-words ss) / 5 ≡ length ss = rw (segments-words-length ss) (omega arith) in
    rw e (segs-back ss)

-- a fill's paints are read as the file's
by-each : (ws : List ℕ) (k i : ℕ) → paints ws i k ≡ each paint_from 4 ws (4 * i) k
unfolding paints each paint_from
by-each ws zero i = refl
by-each ws (suc k) i =
    let p : 4 * (i + 1) ≡ 4 * i + 4 = omega arith in
    rw (by-each ws k (i + 1), p)

-- words that say a recording's paints and segments: a fill and a pop that are lent them
module _ (r : Recording) where
  -- as many words as there are paints, and read as those
  pub record Lent (ps ss : List ℕ) : Type 0 where
    pub paints : each paint_from 4 ps 0 (length r.paints) ≡ r.paints
    pub paints-long : length ps ≡ 4 * length r.paints
    pub segments : segs-of ss ≡ r.segments
    pub segments-long : length ss ≡ 5 * length r.segments

  pub paints-lent : (ps : List ℕ) → each paint_from 4 ps 0 (length r.paints) ≡ r.paints → length ps ≡ 4 * length r.paints → paints-of ps ≡ r.paints
  paints-lent ps e n =
      let k : length ps / 4 ≡ length r.paints = rw n (omega arith) in
      rw (k, by-each ps (length r.paints) 0, mul-zero 4) e

  pub same_filled : (x : fills.FillLent) (ps ss : List ℕ) {d e : step.Draw} → Lent ps ss → d ≡ e
      → filled x ps ss d ≡ filled x (join paint-words r.paints) (join segment-words r.segments) e
  same_filled x ps ss {d} {e} k h =
      rw h
      (same-fill x ps (join paint-words r.paints) ss (join segment-words r.segments) e
      (paints-lent ps k.paints k.paints-long ∙ sym (paints-said r.paints))
      (k.paints-long ∙ sym (paints-words-length r.paints))
      (k.segments ∙ sym (segments-said r.segments))
      (k.segments-long ∙ sym (segments-words-length r.segments)))

  pub same_popped : (s : Screen) (x : pop.PopLent) (ss : List ℕ) → segs-of ss ≡ r.segments → length ss ≡ 5 * length r.segments
      → popped s x ss ≡ popped s x (join segment-words r.segments)
  same_popped s x ss p q = same-pop s x ss (join segment-words r.segments) (p ∙ sym (segments-said r.segments)) (q ∙ sym (segments-words-length r.segments))
