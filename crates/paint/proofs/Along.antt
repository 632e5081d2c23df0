-- Commands that one look settles, one after the other. Assumes nothing.
use Rattle.std.proofs.Common.{◌≡◌, refl, sym, ◌∙◌, List, [], ◌∷◌, Option, None, Some, append_assoc, ℕ, ◌+◌, ◌-◌, ◌*◌, ◌/◌, ◌≤◌, ◌<◌, arith, length, drop, length-drop, drop-drop, lt-ltb, le-ltb}
use Rattle.std.specs.Option.{IfSome, MatchOption}
use Rattle.sizes.specs.Sizes.{piece-size}
use Rattle.rules.specs.Attributes.{Attrs}
use Rattle.cmd.specs.Attrs.{words-at}
use Rattle.cmd.proofs.Tables.{length_at}
use Rattle.paint.specs.Summaries.{summary-at}
use Rattle.screen.specs.Depths.{Depths, depths}
use Rattle.paint.specs.Painting.{word, StepOut, next-step, next-minima, painted-row}
use Rattle.paint.specs.Running.{one_more, run, own-step}
use Rattle.cmd.specs.Commands.{cmd_at}
use Rattle.paint.specs.Kinds.{step-to, Gives, Calm, Place, place, stands, Reaches}
use Rattle.paint.proofs.WholeRuns.{more, onward-none, onward-both}
use Rattle.paint.proofs.Putting.{words-none}

-- what is there gives one fact, and nothing another
pub given-or-not : (o : Option ℕ) {P R : ℕ → Type 0} {N : Type 0} → IfSome o P → N → ((j : ℕ) → P j → R j) → MatchOption o N R
given-or-not None h n f = n
given-or-not (Some j) h n f = f j h

-- any step
module _ (step : Depths → List ℕ → List ℕ → StepOut) (D : Depths) (d : ℕ) where
  module _ (a b : Place) (z : Reaches step D d a b) (b' : Place) (up : b'.at ≡ b.at + 1) (e : one_more step (stands D d b) ≡ stands D d b')
      (h : b'.nesting ≤ 16) (g : piece-size * b'.pieces ≤ length b'.list) (i : length b'.list ≡ length b.list) where
    further : (f k : ℕ) → b'.at - a.at ≤ f → run step f k (stands D d a) ≡ run step (f - (b'.at - a.at)) (k + (b'.at - a.at)) (stands D d b')
    further f k j =
        let n : f - (b.at - a.at) - 1 ≡ f - (b'.at - a.at) = omega (arith, z.after) in
        let m : k + (b.at - a.at) + 1 ≡ k + (b'.at - a.at) = omega (arith, z.after) in
        z.onward f k (omega (arith, z.after))
        ∙ more step (f - (b.at - a.at)) (k + (b.at - a.at)) (stands D d b) (omega (arith, z.after)) (rw e)
        ∙ rw (e, n, m)

    pub reach-more : Reaches step D d a b'
    reach-more = record { after = omega (arith, z.after); onward = further; shallow = h; few = g; long = i ∙ z.long }

  -- no step
  pub reach-none : (a : Place) → a.nesting ≤ 16 → piece-size * a.pieces ≤ length a.list → Reaches step D d a a
  reach-none a h g =
      let e : a.at - a.at ≡ 0 = omega arith in
      record { after = omega arith; onward = rw e (onward-none step _); shallow = h; few = g; long = refl }

  -- one run after the other
  pub reach-both : (a b c : Place) → Reaches step D d a b → Reaches step D d b c → Reaches step D d a c
  reach-both a b c y z =
      let e : c.at - a.at ≡ b.at - a.at + (c.at - b.at) = omega (arith, y.after, z.after) in
      record {
        after = omega (arith, y.after, z.after);
        onward = rw e (onward-both step _ _ _ _ _ y.onward z.onward);
        shallow = z.shallow;
        few = z.few;
        long = z.long ∙ y.long;
      }

-- the steps of a row's commands
module _ (v : ℕ) (a : Attrs) (s re fi D M : List ℕ) (c : Calm s re fi) where
  abbrev d : ℕ
  d = word s 1

  abbrev steps : Depths → List ℕ → List ℕ → StepOut
  steps = own-step v a s re fi

  module _ (at m : ℕ) (h : at < word s 0) (g : m ≤ 16) where
    one-back : d + at - d ≡ at
    one-back = omega arith

    taken : (l : List ℕ) → steps (depths D M) ((d + at) ∷ m ∷ []) l
        ≡ step-to v a (summary-at s) D m (cmd_at re at) M (d + at) ((d + at) ∷ m ∷ []) l
    unfolding painted-row next-step next-minima
    taken l =
        rw (
          le-ltb (length re) (4 * word s 0) c.renders,
          le-ltb (length fi) (2 * word s 1) c.depths,
          le-ltb 16 m g,
          le-ltb (word s 1 + word s 0) (d + at) (omega arith),
          c.summary,
          le-ltb (d + at) d (omega arith),
          one-back,
          lt-ltb at (word s 0) h,
        )

  -- a command whose step gives k pieces, with the words ws, and nesting j
  module _ (start : Place) (at n m : ℕ) (l : List ℕ) (z : Reaches steps (depths D M) d start (place at n m l)) (h : at < word s 0) (k : ℕ) (ws : List ℕ) (j : ℕ)
      (g : Gives v a (summary-at s) D m (cmd_at re at) k ws j) (long : length ws ≡ piece-size * k) (shallow : j ≤ 16) (room : piece-size * (n + k) ≤ length l) where
    one_up : d + at + 1 ≡ d + (at + 1)
    one_up = omega arith

    given : one_more steps (stands (depths D M) d (place at n m l)) ≡ stands (depths D M) d (place (at + 1) (n + k) j (words-at l (piece-size * n) ws))
    unfolding one_more
    given =
        let o = taken at m h z.shallow (drop (piece-size * n) l) ∙ g.step M (d + at) ((d + at) ∷ m ∷ []) (drop (piece-size * n) l) (rw length-drop (omega arith)) in
        rw (o, one_up, drop-drop (length ws) (piece-size * n) l, append_assoc)

    pub on_given : (l' : List ℕ) → l' ≡ words-at l (piece-size * n) ws → Reaches steps (depths D M) d start (place (at + 1) (n + k) j l')
    on_given l' i =
        let e : length (words-at l (piece-size * n) ws) ≡ length l = length_at l (piece-size * n) ws (rw long (omega arith)) in
        rw i (reach-more steps (depths D M) d start (place at n m l) z (place (at + 1) (n + k) j (words-at l (piece-size * n) ws)) refl given shallow (rw e (omega arith)) e)

  -- .. none
  pub on_bare : (start : Place) (at n m : ℕ) (l : List ℕ) → Reaches steps (depths D M) d start (place at n m l) → at < word s 0
      → (j : ℕ) → j ≤ 16 → Gives v a (summary-at s) D m (cmd_at re at) 0 [] j → Reaches steps (depths D M) d start (place (at + 1) n j l)
  on_bare start at n m l z h j i g =
      let e : n + 0 ≡ n = omega arith in
      (rw e at (on_given start at n m l z h 0 [] j g refl i (omega (arith, z.few)) l (sym (words-none l (piece-size * n)))))

  -- .. where w words of the list are whole pieces
  pub on_written : (start : Place) (at w m : ℕ) (l : List ℕ) → Reaches steps (depths D M) d start (place at (w / piece-size) m l)
      → piece-size * (w / piece-size) ≡ w → at < word s 0
      → (k : ℕ) (ws : List ℕ) (j : ℕ) → Gives v a (summary-at s) D m (cmd_at re at) k ws j → length ws ≡ piece-size * k → j ≤ 16
      → w + piece-size * k ≤ length l → (w' : ℕ) → w' ≡ w + piece-size * k → (l' : List ℕ) → l' ≡ words-at l w ws
      → Reaches steps (depths D M) d start (place (at + 1) (w' / piece-size) j l')
  on_written start at w m l z whole h k ws j g long i room w' e l' q =
      let n : w' / piece-size ≡ w / piece-size + k = omega arith in
      rw n (on_given start at (w / piece-size) m l z h k ws j g long i (omega arith) l' (q ∙ rw whole))
