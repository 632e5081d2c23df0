-- What judging a closing layer's rows gives the doing half, and answers 10 and 11 by counting. Assumes nothing.
use Rattle.std.proofs.Common.{◌≡◌, refl, sym, ap, ◌∙◌, Bool, true, false, ◌&&◌, ◌||◌, List, ◌++◌, map, Option, None, ℕ, ◌+◌, ◌-◌, ◌*◌, ◌≤◌, ◌<◌, arith, ltb, eqb, length, get_or, eq-eqb, ne_eqb, le-ltb, ltb-false}
use Rattle.rules.specs.Lists.{some_of, range}
use Rattle.rules.specs.Boxes.{rows_of}
use Rattle.rules.specs.Spans.{Span}
use Rattle.rules.specs.Commands.{layer-fill}
use Rattle.rules.specs.Segments.{Cut}
use Rattle.rules.specs.Plans.{Frame, bucket, Act, close, pop, Put, on, close-puts}
use Rattle.rules.specs.Steps.{passes}
use Rattle.rules.proofs.All.{All, all_map, all_both, every-all, none_of, both}
use Rattle.rules.proofs.laws.Changes.{puts-append, puts-length}
use Rattle.row.specs.Words.{Words, word, put_command, end_buf, word-ops, Room, Ends}
use Rattle.row.proofs.WordsLaws.{cmd-renders, cmd-depths, end-renders, ended-depths}
use Rattle.row.specs.Arena.{nowhere, sizes, lay, cut, Arenas}
use Rattle.row.proofs.RowsLaws.{cut_at, at-render, at-fills, lay-cut}
use Rattle.row.specs.Building.{rows_at, Whole, good_row}
use Rattle.pop.specs.Closing.{row_of, touched-in, good-pop, good-pops, full_by, runs-full, done-puts, Roomy, Fillable, Poppable, Each}
use Rattle.pop.proofs.Touched.{all-touched, touched-same}
use Rattle.pop.proofs.Closed.{count-on, Closed, Popped, Close, closes-row, closes-records, pops-row, count-touched, members, some-equal, passes-touched}
use Rattle.pop.proofs.Running.{Sorted, at-found, some-none, running-is}
use Rattle.pop.proofs.Rooms.{rows-count, records, touched-inside}
use Rattle.pop.proofs.Judging.{good-touched}

-- a touched row whose record is good, as facts
pub record Fine (c d n : ℕ) (w : Words) : Type 0 where
  pub level : word 5 w ≡ n
  pub commands : word 0 w ≤ c
  pub depths : word 1 w ≤ d
  pub ends : Ends w

module _ (c d n : ℕ) (low : 1 ≤ n) where
  fine : (w : Words) → good-pop c d n w ≡ true → word 5 w ≡ n → Fine c d n w
  unfolding good-pop
  fine w g e =
      let p : (good_row c d n w.state && eqb (get_or w.render (4 * word (3 + 3 * n) w) 0) 5) ≡ true = rw (eq-eqb (word 5 w) n e) at g in
      let t = good-touched c d n w.state (both (good_row c d n w.state) (eqb (get_or w.render (4 * word (3 + 3 * n) w) 0) 5) p).0 e low in
      record { level = e; commands = t.commands; depths = t.depths; ends = record { levels = omega (arith, e, low); place = rw e t.place } }

  pub all-fine : (rs : List Words) (is : List ℕ) → good-pops c d n rs is ≡ true → All (λ (x : ℕ). Fine c d n (row_of rs x)) (touched-in n rs is)
  unfolding good-pops
  all-fine rs is g =
      all_map (λ (x : ℕ) (p : (good-pop c d n (row_of rs x) ≡ true) × (word 5 (row_of rs x) ≡ n)). fine (row_of rs x) p.0 p.1)
      (all-touched n rs (every-all (λ (i : ℕ). good-pop c d n (row_of rs i)) is g))

-- a row's words
module _ {cs ds rows : ℕ} {w : Words} (o : Arenas cs ds rows w) (x : ℕ) (h : x < rows) where
  row-render : length (row_of (cut (sizes cs ds) rows w) x).render ≡ 4 * cs
  row-render =
      ap (λ (u : Words). length u.render) (cut_at (sizes cs ds) rows x w nowhere h)
      ∙ at-render (sizes cs ds) rows x w o.long h

  row-fills : length (row_of (cut (sizes cs ds) rows w) x).fills ≡ 2 * ds
  row-fills =
      ap (λ (u : Words). length u.fills) (cut_at (sizes cs ds) rows x w nowhere h)
      ∙ at-fills (sizes cs ds) rows x w o.long h

  row-state : length (row_of (cut (sizes cs ds) rows w) x).state ≡ 54
  row-state = records o x (rw (rows-count o) h)

  -- room for what its counts say
  room_by : (v : Words) → word 5 (row_of (cut (sizes cs ds) rows w) x) ≤ 16 → word 0 v ≤ cs → word 1 v ≤ ds → Room (row_of (cut (sizes cs ds) rows w) x) v
  room_by v l p q =
      record {
        state = row-state;
        render = omega (arith, row-render, o.c);
        fills = omega (arith, row-fills, o.d);
        levels = l;
        commands = omega (arith, row-render, p);
        depths = omega (arith, row-fills, q);
      }

  fillable : (s : Span) (a : Option ℕ) (i : ℕ) → word 5 (row_of (cut (sizes cs ds) rows w) x) ≤ 16 → word 0 (row_of (cut (sizes cs ds) rows w) x) + 1 ≤ cs → word 1 (row_of (cut (sizes cs ds) rows w) x) ≤ ds
      → Fillable s a i (row_of (cut (sizes cs ds) rows w) x)
  fillable s a i l p q =
      room_by (put_command (layer-fill s a i) (row_of (cut (sizes cs ds) rows w) x)) l
      (omega (arith, cmd-renders (row_of (cut (sizes cs ds) rows w) x) row-state (layer-fill s a i), p))
      (omega (arith, cmd-depths (row_of (cut (sizes cs ds) rows w) x) row-state (layer-fill s a i), q))

  end-depths : (u : Words) → length u.state ≡ 54 → 0 < word 5 u → word 1 (end_buf u) ≡ word 1 u
  unfolding end_buf
  end-depths u l k = rw (ne_eqb (word 5 u) 0 (λ (z : word 5 u ≡ 0). omega arith)) (ended-depths u l)

  poppable : Ends (row_of (cut (sizes cs ds) rows w) x) → word 5 (row_of (cut (sizes cs ds) rows w) x) ≤ 16 → word 0 (row_of (cut (sizes cs ds) rows w) x) + 1 ≤ cs → word 1 (row_of (cut (sizes cs ds) rows w) x) ≤ ds
      → Poppable (row_of (cut (sizes cs ds) rows w) x)
  poppable e l p q = (
    e,
    room_by (end_buf (row_of (cut (sizes cs ds) rows w) x)) l
        (omega (arith, end-renders (row_of (cut (sizes cs ds) rows w) x) row-state e.levels, p))
        (omega (arith, end-depths (row_of (cut (sizes cs ds) rows w) x) row-state e.levels, q)),
  )

-- what closing by the puts ps, then popping, asks of the rows from a to b
pub record Closeable (f : Frame) (n a b : ℕ) (ps : List Put) (w : Words) : Type 0 where
  pub whole : Whole f w
  pub low : 1 ≤ n
  pub deep : n ≤ 16
  pub bottom : b ≤ rows_of f.viewport
  pub fine : All (λ (x : ℕ). Fine f.c f.d n (row_of (rows_at f w) x)) (touched-in n (rows_at f w) (range a b))
  pub closes : All (Close (length (rows_at f w))) ps
  pub found : All (λ (p : Put). some_of (eqb p.row) (touched-in n (rows_at f w) (range a b)) ≡ true) ps

-- each touched row's commands after its closing puts and its PopBuf
abbrev pub full-test : Frame → List Put → Words → ℕ → Bool
full-test f ps w x = ltb f.c (word 0 (row_of (rows_at f w) x) + count-on x ps + 1)

abbrev pub Fits : Frame → ℕ → ℕ → ℕ → List Put → Words → Type 0
Fits f n a b ps w = All (λ (x : ℕ). word 0 (row_of (rows_at f w) x) + count-on x ps + 1 ≤ f.c) (touched-in n (rows_at f w) (range a b))

pub fits : (f : Frame) (n a b : ℕ) (ps : List Put) (w : Words) → some_of (full-test f ps w) (touched-in n (rows_at f w) (range a b)) ≡ false → Fits f n a b ps w
fits f n a b ps w e =
    all_map (λ (x : ℕ) (p : full-test f ps w x ≡ false). ltb-false f.c (word 0 (row_of (rows_at f w) x) + count-on x ps + 1) p)
    (none_of (full-test f ps w) (touched-in n (rows_at f w) (range a b)) e)

module _ {f : Frame} {n a b : ℕ} {ps : List Put} {w : Words} (v : Closeable f n a b ps w) where
  abbrev rs : List Words
  rs = rows_at f w

  abbrev xs : List ℕ
  xs = touched-in n (rows_at f w) (range a b)

  inside : All (λ (x : ℕ). x < length rs) xs
  inside = touched-inside v.whole a b n v.bottom

  row_low : (x : ℕ) → x < length rs → x < rows_of f.viewport
  row_low x h = rw (rows-count v.whole) at h

  after : (m x : ℕ) → Closed (count-on x ps) (row_of rs x) (row_of (done-puts (bucket f) m ps rs) x)
  after m x = closes-row (bucket f) m ps rs v.closes (records v.whole) x

  -- one PopBuf for each
  once : (t : Act) → All (λ (x : ℕ). count-on x (map (on t) xs) ≡ 1) xs
  once t = all_map (λ (x : ℕ) (e : some_of (eqb x) xs ≡ true). count-touched t n rs (b - a) a x ∙ rw e) (members xs)

  module _ (m : ℕ) where
    abbrev final : List Words
    final = done-puts (bucket f) m (ps ++ map (on pop) (touched-in n (rows_at f w) (range a b))) (rows_at f w)

    last : (x : ℕ) → count-on x (map (on pop) xs) ≡ 1 → Fine f.c f.d n (row_of rs x)
        → (word 0 (row_of final x) ≡ word 0 (row_of rs x) + count-on x ps + 1) × (word 1 (row_of final x) ≡ word 1 (row_of rs x))
    last x one g =
        let c = after m x in
        let r = records v.whole in
        let p : Popped (count-on x (map (on pop) xs)) (row_of (done-puts (bucket f) m ps rs) x) (row_of (done-puts (bucket f) m (map (on pop) xs) (done-puts (bucket f) m ps rs)) x) =
        pops-row (bucket f) m xs (done-puts (bucket f) m ps rs) (rw (puts-length Words word-ops (bucket f) m ps rs) inside) (closes-records (bucket f) m ps rs v.closes r) x (omega (arith, one, c.levels, g.level, v.low)) in
        rw (puts-append Words word-ops (bucket f) m ps (map (on pop) xs) rs)
        (omega (arith, p.renders, c.renders, one), p.depths ∙ c.depths)

    lasts : All (λ (x : ℕ). (word 0 (row_of final x) ≡ word 0 (row_of rs x) + count-on x ps + 1) × (word 1 (row_of final x) ≡ word 1 (row_of rs x))) xs
    lasts =
        all_map (λ (x : ℕ) (p : (count-on x (map (on pop) xs) ≡ 1) × Fine f.c f.d n (row_of rs x)). last x p.0 p.1) (all_both (once pop) v.fine)

    -- answer 10
    pub full_is : passes Words word-ops (word 0) f.c (ps ++ map (on pop) (touched-in n (rows_at f w) (range a b))) final ≡ some_of (full-test f ps w) xs
    full_is =
        passes-touched (word 0) refl f.c pop xs final ps v.found
        ∙ some-equal (λ (x : ℕ). ltb f.c (word 0 (row_of final x))) (full-test f ps w)
        (all_map (λ (x : ℕ) (p : (word 0 (row_of final x) ≡ word 0 (row_of rs x) + count-on x ps + 1) × (word 1 (row_of final x) ≡ word 1 (row_of rs x))). ap (ltb f.c) p.0) lasts)

    -- answer 11 is never given
    pub deep_is : passes Words word-ops (word 1) f.d (ps ++ map (on pop) (touched-in n (rows_at f w) (range a b))) final ≡ false
    deep_is =
        passes-touched (word 1) refl f.d pop xs final ps v.found
        ∙ some-none (λ (x : ℕ). ltb f.d (word 1 (row_of final x)))
        (all_map
        (λ (x : ℕ) (p : ((word 0 (row_of final x) ≡ word 0 (row_of rs x) + count-on x ps + 1) × (word 1 (row_of final x) ≡ word 1 (row_of rs x))) × Fine f.c f.d n (row_of rs x)).
        le-ltb f.d (word 1 (row_of final x)) (omega (arith, p.0.1, p.1.depths)))
        (all_both lasts v.fine))

  -- without a clip two commands, with one those of its cut segments
  pub full-plain : (s : Span) (i : ℕ) → ps ≡ map (on (close s None i)) xs → some_of (full-test f ps w) xs ≡ full_by f.c 2 rs xs
  unfolding full_by
  full-plain s i e =
      some-equal (full-test f ps w) (λ (x : ℕ). ltb f.c (word 0 (row_of rs x) + 2))
      (all_map (λ (x : ℕ) (p : count-on x (map (on (close s None i)) xs) ≡ 1). two x (ap (count-on x) e ∙ p)) (once (close s None i)))
    where
      two : (x : ℕ) → count-on x ps ≡ 1 → full-test f ps w x ≡ ltb f.c (word 0 (row_of rs x) + 2)
      two x p = ap (ltb f.c) (omega (arith, p))

  pub full-clip : (i : ℕ) (ks : List Cut) → Sorted ks → ps ≡ close-puts i xs ks → some_of (full-test f ps w) xs ≡ (full_by f.c 1 rs xs || runs-full f.c xs rs 0 0 ks)
  full-clip i ks s e = rw e (running-is f.c i xs rs ks s)

  module _ (h : Fits f n a b ps w) where
    facts : All (λ (x : ℕ). (x < length rs) × Fine f.c f.d n (row_of rs x) × (word 0 (row_of rs x) + count-on x ps + 1 ≤ f.c)) xs
    facts =
        all_map (λ (x : ℕ) (p : (x < length rs) × (Fine f.c f.d n (row_of rs x) × (word 0 (row_of rs x) + count-on x ps + 1 ≤ f.c))). (p.0, p.1.0, p.1.1))
        (all_both inside (all_both v.fine h))

    -- room for a closing LayerFill
    pub ready-fill : (s : Span) (a : Option ℕ) (i : ℕ) → Each (Fillable s a i) rs xs
    ready-fill s j i =
        all_map
        (λ (x : ℕ) (p : (x < length rs) × Fine f.c f.d n (row_of rs x) × (word 0 (row_of rs x) + count-on x ps + 1 ≤ f.c)).
        fillable v.whole x (row_low x p.0) s j i (omega (arith, p.1.level, v.deep)) (omega (arith, p.2)) p.1.depths)
        facts

    -- room for all the closing puts
    pub ready-puts : (m : ℕ) → Roomy (bucket f) m ps rs
    ready-puts m =
        all_map
        (λ (q : Put) (e : some_of (eqb q.row) xs ≡ true). let p = at-found facts q.row e in
        room_by v.whole q.row (row_low q.row p.0) (row_of (done-puts (bucket f) m ps rs) q.row) (omega (arith, p.1.level, v.deep))
        (omega (arith, (after m q.row).renders, p.2)) (omega (arith, (after m q.row).depths, p.1.depths)))
        v.found

    module _ (m : ℕ) (u : Words) (o : Whole f u) (e : rows_at f u ≡ done-puts (bucket f) m ps (rows_at f w)) where
      level-same : (x : ℕ) → word 5 (row_of (rows_at f u) x) ≡ word 5 (row_of rs x)
      level-same x = rw e (after m x).levels

      pub same_rows : touched-in n (rows_at f u) (range a b) ≡ xs
      same_rows = touched-same n rs (rows_at f u) level-same (range a b)

      -- then each has a level to end, and room for its PopBuf
      pub ready-pop : Each Poppable (rows_at f u) (touched-in n (rows_at f u) (range a b))
      ready-pop =
          rw same_rows
          (all_map
          (λ (x : ℕ) (p : (x < length rs) × Fine f.c f.d n (row_of rs x) × (word 0 (row_of rs x) + count-on x ps + 1 ≤ f.c)).
          let c : Closed (count-on x ps) (row_of rs x) (row_of (rows_at f u) x) = rw e (after m x) in
          poppable o x (row_low x p.0) (c.ends p.1.ends) (omega (arith, c.levels, p.1.level, v.deep)) (omega (arith, c.renders, p.2)) (omega (arith, c.depths, p.1.depths)))
          facts)

      -- and the words are the rules' rows
      pub closed-words : (t : Words) → Whole f t → rows_at f t ≡ done-puts (bucket f) m (map (on pop) (touched-in n (rows_at f u) (range a b))) (rows_at f u)
          → t ≡ lay (done-puts (bucket f) m (ps ++ map (on pop) (touched-in n (rows_at f w) (range a b))) (rows_at f w))
      closed-words t q g =
          sym (lay-cut (sizes f.c f.d) (rows_of f.viewport) t q.long)
          ∙ ap lay
          (g ∙ ap (λ (is : List ℕ). done-puts (bucket f) m (map (on pop) is) (rows_at f u)) same_rows ∙ ap (done-puts (bucket f) m (map (on pop) xs)) e
          ∙ sym (puts-append Words word-ops (bucket f) m ps (map (on pop) xs) rs))
