-- A row's depth fills come first, one step each. Assumes nothing.
use Rattle.std.proofs.Common.{◌≡◌, refl, sym, ap, ◌∙◌, add-zero, take-append-drop, Bool, true, false, List, [], ◌∷◌, ◌++◌, map, Option, Some, ℕ, ◌+◌, ◌-◌, ◌*◌, ◌/◌, ◌≤◌, ◌<◌, arith, length, append_assoc, drop, drop-drop, length-drop, option_map, lt-ltb, le-ltb}
use lib.ListN.{length-map}
use Rattle.sizes.specs.Sizes.{piece-size}
use Rattle.rules.specs.Lists.{join}
use Rattle.rules.specs.Spans.{Span}
use Rattle.rules.specs.Attributes.{Attrs, no-attrs}
use Rattle.rules.specs.Depth.{write-runs, written}
use Rattle.rules.specs.Minima.{halvings, mended-runs}
use Rattle.rules.specs.Painting.{gives, depth-piece}
use Rattle.span.specs.Spans.{buckets}
use Rattle.cmd.specs.Attrs.{words-at}
use Rattle.cmd.specs.DepthFills.{depth-fill}
use Rattle.cmd.specs.Pieces.{piece-words, laid}
use Rattle.cmd.specs.declared.depth_fill.DepthFill.{DepthFill}
use Rattle.screen.specs.Depths.{Depths, depths}
use Rattle.paint.specs.declared.command.marks.Mark.{Mark}
use Rattle.paint.specs.Reading.{attrs_of, paint_mark}
use Rattle.paint.specs.Painting.{word, StepOut, out, listed, painter-at, depth-step, depth-fill-at, fill-minima, settled, next-step, next-minima, painted-row}
use Rattle.sizes.specs.Widths.{bucket-tiles}
use Rattle.paint.specs.declared.command.reading.StoredRow.{StoredRow}
use Rattle.paint.specs.Running.{one_more, own-step, finished_with}
use Rattle.paint.specs.Kinds.{Calm, Onward, Place, stands, Reaches}
use Rattle.paint.specs.Rows.{steps_of, CalmRow, Sure}
use Rattle.paint.specs.DepthFills.{depth-words}
use Rattle.paint.proofs.Filling.{room}
use Rattle.paint.proofs.Steps.{bare, depth_taken}
use Rattle.paint.proofs.Two.{two_same}
use Rattle.paint.proofs.WholeRuns.{onward-more, onward-both}

-- a depth fill's pieces as words
pieces-words : (v i p : ℕ) (rs : List Span) → join piece-words (map (depth-piece v no-attrs i p) rs) ≡ join (depth-words v i p) rs
pieces-words v i p [] = refl
pieces-words v i p (r ∷ rs) = rw (pieces-words v i p rs)

pub depth-words-long : (v i p : ℕ) (rs : List Span) → length (join (depth-words v i p) rs) ≡ piece-size * length rs
depth-words-long v i p [] = refl
depth-words-long v i p (r ∷ rs) = let h = depth-words-long v i p rs in omega (arith, h)

module _ (v : ℕ) (a : Attrs) (s re fi : List ℕ) (c : Calm s re fi) where
  abbrev steps : Depths → List ℕ → List ℕ → StepOut
  steps = own-step v a s re fi

  module _ (q m : ℕ) (h : q < word s 1) (g : m ≤ 16) (D M : List ℕ) where
    abbrev k : ℕ
    k = word s 1 - (q + 1)

    taken : (l : List ℕ) → steps (depths D M) (q ∷ m ∷ []) l
        ≡ settled (depth-step v a (painter-at D (q ∷ m ∷ [])) (depth-fill-at (length D) fi k)) (fill-minima a (depths D M) (depth-fill-at (length D) fi k)) (depths D M) (q ∷ m ∷ []) l
    unfolding painted-row next-step next-minima
    taken l =
        rw (
          le-ltb (length re) (4 * word s 0) c.renders,
          le-ltb (length fi) (2 * word s 1) c.depths,
          le-ltb 16 m g,
          le-ltb (word s 1 + word s 0) q (omega arith),
          c.summary,
          lt-ltb q (word s 1) h,
        )

    -- the fill and its attribute are good, and the list has room for its pieces
    module _ (f : DepthFill) (o : Option DepthFill) (e : o ≡ Some f) (read : option_map depth-fill o ≡ depth-fill-at (length D) fi k) (mk : Mark) (w : paint_mark a f.attrs_idx ≡ Some mk) where
      abbrev rs : List Span
      rs = write-runs D (buckets f.buckets)

      abbrev ms : List ℕ
      ms = mended-runs (halvings (length D)) M (written D mk.id (buckets f.buckets)) rs

      abbrev D' : List ℕ
      D' = written D mk.id (buckets f.buckets)

      abbrev ws : List ℕ
      ws = join (depth-words v f.attrs_idx mk.panel) rs

      laid-words : (l : List ℕ) → ws ++ drop (length ws) l ≡ laid (map (depth-piece v no-attrs f.attrs_idx mk.panel) rs) l
      laid-words l = rw (pieces-words v f.attrs_idx mk.panel rs)

      step : (l : List ℕ) → piece-size * length rs ≤ length l
          → steps (depths D M) (q ∷ m ∷ []) l ≡ out (listed (length rs)) (depths D' ms) ((q + 1) ∷ m ∷ []) (ws ++ drop (length ws) l)
      step l i =
          let roomy = room D M (q ∷ m ∷ []) l (gives (map (depth-piece v no-attrs f.attrs_idx mk.panel) rs) D' (q + 1) m) ms D' ms ((q + 1) ∷ m ∷ []) (ws ++ drop (length ws) l) (length rs)
          (le-ltb (length l / piece-size) (length (map (depth-piece v no-attrs f.attrs_idx mk.panel) rs)) (rw length-map (omega (arith, i)))) refl (rw length-map) refl refl refl (laid-words l) in
          taken l ∙ sym (depth_taken v a D M (q ∷ m ∷ []) l (depth-fill-at (length D) fi k) o read f e mk (out (listed (length rs)) (depths D' ms) ((q + 1) ∷ m ∷ []) (ws ++ drop (length ws) l)) w roomy)

      -- its words go behind n pieces of the list
      pub one-fill : (n : ℕ) (l : List ℕ) → piece-size * (n + length rs) ≤ length l
          → one_more steps (out (listed n) (depths D M) (q ∷ m ∷ []) l) ≡ out (listed (n + length rs)) (depths D' ms) ((q + 1) ∷ m ∷ []) (words-at l (piece-size * n) ws)
      unfolding one_more
      one-fill n l i =
          let later : List ℕ = drop (piece-size * n) l in
          rw (step later (rw length-drop (omega (arith, i))), drop-drop (length ws) (piece-size * n) l, append_assoc)

      -- .. behind the words of those before, `at` of them
      pub on-fill : (start : StepOut) (j : ℕ) (at at' : ℕ) (l l' : List ℕ) → piece-size * (at / piece-size) ≡ at → at + piece-size * length rs ≤ length l
          → at' ≡ at + piece-size * length rs → l' ≡ words-at l at ws → (q' : ℕ) → q' ≡ q + 1 → (j' : ℕ) → j' ≡ j + 1
          → Onward steps j start (out (listed (at / piece-size)) (depths D M) (q ∷ m ∷ []) l)
          → Onward steps j' start (out (listed (at' / piece-size)) (depths D' ms) (q' ∷ m ∷ []) l')
      on-fill start j at at' l l' whole i e y q' u j' z w =
          let n : at' / piece-size ≡ at / piece-size + length rs = omega (arith, whole, e) in
          rw (y, u, z, n) (onward-more steps j start _ _ w (one-fill (at / piece-size) l (omega (arith, whole, i)) ∙ rw whole) refl)

-- after the last command nothing is left
module _ (v : ℕ) (a : Attrs) (s re fi : List ℕ) (c : Calm s re fi) (q m : ℕ) (h : q ≡ word s 1 + word s 0) (g : m ≤ 16) (D M : List ℕ) where
  none-left : (l : List ℕ) → own-step v a s re fi (depths D M) (q ∷ m ∷ []) l ≡ out (finished_with 0) (depths D M) (q ∷ m ∷ []) l
  unfolding painted-row next-step next-minima
  none-left l =
      rw (
        le-ltb (length re) (4 * word s 0) c.renders,
        le-ltb (length fi) (2 * word s 1) c.depths,
        le-ltb 16 m g,
        le-ltb (word s 1 + word s 0) q (omega (arith, h)),
        c.summary,
        le-ltb q (word s 1) (omega (arith, h)),
        le-ltb (q - word s 1) (word s 0) (omega (arith, h)),
      )
      (sym (bare D M (q ∷ m ∷ []) l true (record { buckets = D; steps = q; nesting = m }) refl))

  pub none-more : (n : ℕ) (l : List ℕ) → one_more (own-step v a s re fi) (out (listed n) (depths D M) (q ∷ m ∷ []) l) ≡ out (finished_with n) (depths D M) (q ∷ m ∷ []) l
  unfolding one_more
  none-more n l = let e : n + 0 ≡ n = add-zero n in rw (none-left (drop (piece-size * n) l), e, take-append-drop)

-- depth fills that are done, from where the painting stands
pub fills-far : (r : StoredRow) (p l D M D' M' l' : List ℕ) (left n k₀ k : ℕ) → length p ≡ 2 → word p 0 + left ≡ word r.state.now 1 → k₀ ≡ 0
    → Onward (steps_of r) n (out (listed k₀) (depths D M) ((word r.state.now 1 - left) ∷ word p 1 ∷ []) l)
    (out (listed k) (depths D' M') ((word r.state.now 1 - left + n) ∷ word p 1 ∷ []) l')
    → Onward (steps_of r) n (out (listed 0) (depths D M) p l) (out (listed k) (depths D' M') ((word p 0 + n) ∷ word p 1 ∷ []) l')
fills-far r p l D M D' M' l' left n k₀ k h e z w =
    let here : word r.state.now 1 - left ≡ word p 0 = omega (arith, e) in
    let same = ap (λ (x : List ℕ). out (listed 0) (depths D M) x l) (two_same p h) in
    rw same (rw (here, z) at w)

-- A row's sure steps are so many depth fills, and then commands from one place to another; where that is the last, the next step finds nothing left.
pub sure-all : (r : StoredRow) → CalmRow r → (f : ℕ) (d : Depths) (p l D M : List ℕ) (n : ℕ) (a b : Place)
    → Onward (steps_of r) n (out (listed 0) d p l) (stands (depths D M) (word r.state.now 1) a) → Reaches (steps_of r) (depths D M) (word r.state.now 1) a b
    → (all k : ℕ) (p' : List ℕ) → all ≡ n + (b.at - a.at) → all ≤ f → k ≡ b.pieces → p' ≡ (word r.state.now 1 + b.at) ∷ b.nesting ∷ []
    → (t : Bool) → (t ≡ true → (b.at ≡ word r.state.now 0) × (all < f))
    → Sure r f (record { steps = all; pieces = k; ended = t }) d p l (depths D M) p' b.list
sure-all r calm f d p l D M n a b w z all k p' e few i o t h =
    rw (e, i, o) (record {
      few = (rw e at few);
      fits = z.few;
      onward = onward-both (steps_of r) n (b.at - a.at) _ _ _ w z.onward;
      unended = λ j. (rw e at (h j).1);
      ended = λ j.
          none-more (bucket-tiles r.width) (attrs_of r.attrs) r.state.now r.render_cmds.now r.depth_cmds.now calm (word r.state.now 1 + b.at) b.nesting
          (ap (λ (x : ℕ). word r.state.now 1 + x) (h j).0) z.shallow D M b.pieces b.list;
    })

-- .. or depth fills alone
pub sure-fills : (r : StoredRow) (f : ℕ) (d : Depths) (p l D M : List ℕ) (n : ℕ) (o : StepOut)
    → Onward (steps_of r) n (out (listed 0) d p l) o → n ≤ f → piece-size * o.answer.pieces ≤ length o.list → (k : ℕ) (p' l' : List ℕ)
    → out (listed k) (depths D M) p' l' ≡ o → Sure r f (record { steps = n; pieces = k; ended = false }) d p l (depths D M) p' l'
sure-fills r f d p l D M n o w few fits k p' l' e =
    let fits' : piece-size * k ≤ length l' = (rw (← e) at fits) in
    record { few = few; fits = fits'; onward = rw e w; unended = λ j. absurd (no-true j); ended = λ j. absurd (no-true j) }
  where
    no-true : false ≡ true → ⊥
    no-true j = let z : ◌≡◌ {A = Bool} false true = j in cc
