-- What each operation does to a row's counts and lengths. Assumes nothing.
use Rattle.std.proofs.Common.{◌≡◌, refl, ◌∙◌, Bool, true, false, cond, List, Option, None, Some, ℕ, zero, suc, ◌+◌, ◌-◌, ◌*◌, ◌≤◌, ◌<◌, arith, length, get_or, set, length-set, get_or-set_same, get_or-set_other, eqb, ne_eqb}
use borrow.Author.Tests.{eqb-false}
use Rattle.rules.specs.Spans.{Span}
use Rattle.rules.specs.Commands.{Command, DepthFill}
use Rattle.rules.specs.Rows.{adds}
use Rattle.row.specs.Words.{Words, word, widened, include_span, include-adds, put_command, put_buf, ended, end_buf, put_depth, Room, Grown, Ends}

cond-length : (b : Bool) {n : ℕ} (xs ys : List ℕ) → length xs ≡ n → length ys ≡ n → length (cond b xs ys) ≡ n
cond-length true xs ys p q = p
cond-length false xs ys p q = q

pos : (n : ℕ) → (n ≡ 0 → ⊥) → 0 < n
pos zero h = absurd (h refl)
pos (suc n) h = omega arith

pub include-length : (f e : ℕ) (s : List ℕ) → length (include_span f e s) ≡ length s
unfolding include_span
include-length f e s = cond-length (eqb (get_or s 5 0) 0) s (widened (3 + 3 * get_or s 5 0) f e s) refl (simp length-set)

other : (s : List ℕ) (i j v : ℕ) → j < i → get_or (set s i v) j 0 ≡ get_or s j 0
other s i j v h = get_or-set_other s i j v 0 (omega arith)

above : (s : List ℕ) (i j v : ℕ) → i < j → get_or (set s i v) j 0 ≡ get_or s j 0
above s i j v h = get_or-set_other s i j v 0 (omega arith)

same : (s : List ℕ) (i v : ℕ) → length s ≡ 54 → i < 54 → get_or (set s i v) i 0 ≡ v
same s i v l h = get_or-set_same s i v 0 (omega arith)

-- the counts stand below the levels' words
pub include-at : (f e : ℕ) (s : List ℕ) (i : ℕ) → i ≤ 5 → get_or (include_span f e s) i 0 ≡ get_or s i 0
unfolding include_span
include-at f e s i h = go (eqb (get_or s 5 0) 0) refl
  where
    go : (b : Bool) → eqb (get_or s 5 0) 0 ≡ b → get_or (cond b s (widened (3 + 3 * get_or s 5 0) f e s)) i 0 ≡ get_or s i 0
    go true p = refl
    go false p =
        let k : 0 < get_or s 5 0 = pos (get_or s 5 0) (eqb-false (get_or s 5 0) 0 p) in
        let h1 : i < 3 + 3 * get_or s 5 0 + 1 = omega arith in
        let h2 : i < 3 + 3 * get_or s 5 0 + 2 = omega arith in
        rw (other, other)

-- a command's span, if it adds one
module _ (s : List ℕ) where
  adds-length : (a : Option Span) → length (include-adds a s) ≡ length s
  adds-length None = refl
  adds-length (Some t) = include-length t.first t.end s

  adds-at : (a : Option Span) (i : ℕ) → i ≤ 5 → get_or (include-adds a s) i 0 ≡ get_or s i 0
  adds-at None i h = refl
  adds-at (Some t) i h = include-at t.first t.end s i h

  -- it widens the union of the innermost level and leaves its place
  adds-place : (a : Option Span) → 0 < get_or s 5 0 → get_or (include-adds a s) (3 + 3 * get_or s 5 0) 0 ≡ get_or s (3 + 3 * get_or s 5 0) 0
  unfolding include_span
  adds-place None k = refl
  adds-place (Some t) k =
      let h1 : 3 + 3 * get_or s 5 0 < 3 + 3 * get_or s 5 0 + 1 = omega arith in
      let h2 : 3 + 3 * get_or s 5 0 < 3 + 3 * get_or s 5 0 + 2 = omega arith in
      simp (ne_eqb (get_or s 5 0) 0 (λ (z : get_or s 5 0 ≡ 0). omega arith), other)

module _ (w : Words) (l : length w.state ≡ 54) where
  module _ (c : Command) where
    pub cmd-renders : word 0 (put_command c w) ≡ word 0 w + 1
    unfolding put_command
    cmd-renders = let h : 0 < length (include-adds (adds c) w.state) = rw adds-length (omega arith) in rw get_or-set_same

    pub cmd-depths : word 1 (put_command c w) ≡ word 1 w
    unfolding put_command
    cmd-depths = let h : 0 < 1 = omega arith in rw above (adds-at w.state (adds c) 1 (omega arith))

    pub cmd-levels : word 5 (put_command c w) ≡ word 5 w
    unfolding put_command
    cmd-levels = let h : 0 < 5 = omega arith in rw above (adds-at w.state (adds c) 5 (omega arith))

    cmd-place : 0 < word 5 w → word (3 + 3 * word 5 w) (put_command c w) ≡ word (3 + 3 * word 5 w) w
    unfolding put_command
    cmd-place k = let h : 0 < 3 + 3 * word 5 w = omega arith in rw above (adds-place w.state (adds c) k)

    -- a row that can be popped still can
    pub cmd-ends : Ends w → Ends (put_command c w)
    cmd-ends p = record { levels = rw cmd-levels p.levels; place = rw (cmd-levels, cmd-place p.levels, cmd-renders) (omega (arith, p.place)) }

    cmd-state : length (put_command c w).state ≡ length w.state
    unfolding put_command
    cmd-state = simp (length-set, adds-length)

    cmd-render : length (put_command c w).render ≡ length w.render
    unfolding put_command
    cmd-render = simp length-set

    cmd-fills : length (put_command c w).fills ≡ length w.fills
    unfolding put_command
    cmd-fills = refl

    pub cmd-grown : Grown w (put_command c w)
    cmd-grown = record { state = cmd-state; render = cmd-render; fills = cmd-fills; commands = omega (arith, cmd-renders); depths = omega (arith, cmd-depths) }

  module _ (k : word 5 w ≤ 15) where
    pub buf-renders : word 0 (put_buf w) ≡ word 0 w + 1
    unfolding put_buf
    buf-renders = let h : 0 < 54 = omega arith in simp (same, length-set, l)

    pub buf-depths : word 1 (put_buf w) ≡ word 1 w
    unfolding put_buf
    buf-depths =
        let h0 : 0 < 1 = omega arith in
        let h1 : 1 < 5 = omega arith in
        let h2 : 1 < 3 + 3 * (word 5 w + 1) = omega arith in
        let h3 : 1 < 3 + 3 * (word 5 w + 1) + 1 = omega arith in
        let h4 : 1 < 3 + 3 * (word 5 w + 1) + 2 = omega arith in
        rw (above, other, other, other, other)

    pub buf-levels : word 5 (put_buf w) ≡ word 5 w + 1
    unfolding put_buf
    buf-levels = let h0 : 0 < 5 = omega arith in let h : 5 < 54 = omega arith in rw above (simp (same, length-set, l))

    buf-state : length (put_buf w).state ≡ length w.state
    unfolding put_buf
    buf-state = simp length-set

    buf-render : length (put_buf w).render ≡ length w.render
    unfolding put_buf
    buf-render = simp length-set

    buf-fills : length (put_buf w).fills ≡ length w.fills
    unfolding put_buf
    buf-fills = refl

    pub buf-grown : Grown w (put_buf w)
    buf-grown = record { state = buf-state; render = buf-render; fills = buf-fills; commands = omega (arith, buf-renders); depths = omega (arith, buf-depths) }

  module _ (k : 0 < word 5 w) where
    pub end-renders : word 0 (end_buf w) ≡ word 0 w + 1
    unfolding end_buf
    end-renders = let h : 0 < 54 = omega arith in simp (ne_eqb (word 5 w) 0 (λ (z : word 5 w ≡ 0). omega arith), same, length-set, l)

  pub ended-renders : word 0 (ended w) ≡ word 0 w + 1
  ended-renders = let h : 0 < 54 = omega arith in simp (same, length-set, l)

  pub ended-depths : word 1 (ended w) ≡ word 1 w
  ended-depths =
      let h0 : 0 < 1 = omega arith in
      let h1 : 1 < 5 = omega arith in
      let h2 : 1 < 3 + 3 * word 5 w = omega arith in
      let h3 : 1 < 3 + 3 * word 5 w + 1 = omega arith in
      let h4 : 1 < 3 + 3 * word 5 w + 2 = omega arith in
      simp (above, other)

  pub ended-level : word 5 (ended w) ≡ word 5 w - 1
  ended-level = let h0 : 0 < 5 = omega arith in let h : 5 < 54 = omega arith in simp (above, same, length-set, l)

  ended-levels : word 5 (ended w) ≤ word 5 w
  ended-levels = let h0 : 0 < 5 = omega arith in let h : 5 < 54 = omega arith in simp (above, same, length-set, l) (omega arith)

  ended-grown : Grown w (ended w)
  ended-grown =
      let h0 : 0 < 1 = omega arith in
      let h1 : 1 < 5 = omega arith in
      let h2 : 1 < 3 + 3 * word 5 w = omega arith in
      let h3 : 1 < 3 + 3 * word 5 w + 1 = omega arith in
      let h4 : 1 < 3 + 3 * word 5 w + 2 = omega arith in
      let h : 0 < 54 = omega arith in
      record {
        state = simp length-set;
        render = simp length-set;
        fills = refl;
        commands = simp (same, length-set, l) (omega arith);
        depths = simp (above, other) (omega arith);
      }

  module _ (v : ℕ) (f : DepthFill) (id : ℕ) where
    pub fill-renders : word 0 (put_depth v f id w) ≡ word 0 w
    unfolding put_depth
    fill-renders = let h1 : 0 < 1 = omega arith in let h2 : 0 < 2 = omega arith in let h3 : 0 < 3 = omega arith in let h4 : 0 < 4 = omega arith in rw (other, other, other, other)

    pub fill-depths : word 1 (put_depth v f id w) ≡ word 1 w + 1
    unfolding put_depth
    fill-depths = let h : 1 < 54 = omega arith in simp (same, length-set, l)

    pub fill-levels : word 5 (put_depth v f id w) ≡ word 5 w
    unfolding put_depth
    fill-levels = let h1 : 1 < 5 = omega arith in let h2 : 2 < 5 = omega arith in let h3 : 3 < 5 = omega arith in let h4 : 4 < 5 = omega arith in rw (above, above, above, above)

    fill-state : length (put_depth v f id w).state ≡ length w.state
    unfolding put_depth
    fill-state = simp length-set

    fill-render : length (put_depth v f id w).render ≡ length w.render
    unfolding put_depth
    fill-render = refl

    fill-fills : length (put_depth v f id w).fills ≡ length w.fills
    unfolding put_depth
    fill-fills = simp length-set

    pub fill-grown : Grown w (put_depth v f id w)
    fill-grown = record { state = fill-state; render = fill-render; fills = fill-fills; commands = omega (arith, fill-renders); depths = omega (arith, fill-depths) }

pub grown-refl : (w : Words) → Grown w w
grown-refl w = record { state = refl; render = refl; fills = refl; commands = omega arith; depths = omega arith }

pub grown-trans : {u v w : Words} → Grown u v → Grown v w → Grown u w
grown-trans g h = record { state = h.state ∙ g.state; render = h.render ∙ g.render; fills = h.fills ∙ g.fills; commands = omega arith; depths = omega arith }

grown-if : (b : Bool) {w u : Words} → Grown w u → Grown w (cond b w u)
grown-if true g = grown-refl _
grown-if false g = g

least : (b : Bool) (w u : Words) → word 5 u ≤ word 5 w → word 5 (cond b w u) ≤ word 5 w
least true w u h = omega arith
least false w u h = h

pub end-grown : (w : Words) → length w.state ≡ 54 → Grown w (end_buf w)
unfolding end_buf
end-grown w l = grown-if (eqb (word 5 w) 0) (ended-grown w l)

pub end-levels : (w : Words) → length w.state ≡ 54 → word 5 (end_buf w) ≤ word 5 w
unfolding end_buf
end-levels w l = least (eqb (word 5 w) 0) w (ended w) (ended-levels w l)

-- room for all of a run is room for its first part, and for the rest after that
pub room-first : {u v w : Words} → Grown v w → Room u w → Room u v
room-first g r = record { state = r.state; render = r.render; fills = r.fills; levels = r.levels; commands = omega arith; depths = omega arith }

pub room-rest : {u v w : Words} → Grown u v → word 5 v ≤ 16 → Room u w → Room v w
room-rest g k r =
    record { state = g.state ∙ r.state; render = omega (arith, g.render); fills = omega (arith, g.fills); levels = k; commands = omega (arith, g.render); depths = omega (arith, g.fills) }

module _ {w : Words} where
  pub buf_room : word 5 w < 16 → Room w (put_buf w) → 4 * word 0 w + 4 ≤ length w.render
  buf_room k r = omega (arith, buf-renders w r.state (omega arith))

  pub end_room : 0 < word 5 w → Room w (end_buf w) → 4 * word 0 w + 4 ≤ length w.render
  end_room k r = omega (arith, end-renders w r.state k)

  pub fill_room : (v : ℕ) (f : DepthFill) (id : ℕ) → Room w (put_depth v f id w) → 2 * word 1 w + 2 ≤ length w.fills
  fill_room v f id r = omega (arith, fill-depths w r.state v f id)
