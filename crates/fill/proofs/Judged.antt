-- The tally's verdict is the rules' answer, and what is not refused has room. Assumes nothing.
use Rattle.std.proofs.Common.{◌≡◌, refl, sym, ap, ◌∙◌, Bool, true, false, ◌&&◌, ◌||◌, cond, List, [], ◌∷◌, Option, None, Some, ℕ, zero, suc, ◌*◌, ◌≤◌, ◌<◌, arith, ltb, eqb, length, get_or, ltb-false, eqb-true, ne_eqb}
use Rattle.std.proofs.lemmas.Bool.Decides.{nat_tests}
use borrow.Author.Tests.{eqb-false}
use Rattle.rules.specs.Lists.{every, join, change}
use Rattle.rules.specs.Boxes.{Box}
use Rattle.rules.specs.Segments.{Segment, good-segment, Cut, cut_in}
use Rattle.rules.specs.Plans.{Frame, Put, on, draw-act, draw-puts}
use Rattle.rules.specs.Steps.{passes}
use Rattle.rules.proofs.All.{All, nil, cons, both, all_map, all_join, every-all, none_of}
use Rattle.rules.proofs.laws.Maps.{ActOk, paints, splits, follows-act}
use Rattle.rules.proofs.laws.Changes.{change-length, change-same, change-else}
use Rattle.sizes.specs.Widths.{bucket-tiles}
use Rattle.row.specs.Words.{Words, word, word-ops, Room}
use Rattle.row.specs.Arena.{nowhere, sizes, cut, Long}
use Rattle.row.proofs.RowsLaws.{cut-length, cut_at, at-state, at-render, at-fills}
use Rattle.row.specs.Counts.{count}
use Rattle.row.proofs.CountsLaws.{Sane, any, counted}
use Rattle.row.specs.Building.{good_row, good-at, good_rows}
use Rattle.segments.specs.Segs.{origin, bounds}
use Rattle.fill.specs.declared.rows.FillJob.{FillJob}
use Rattle.fill.specs.Filling.{draws, puts_of, done, Roomy, none-put, one_more}
use Rattle.row.specs.Room.{record-at}
use Rattle.row.proofs.RoomLaws.{good-small}
use Rattle.fill.specs.Tallies.{Tally, stored, known, drawn-counts, tally-of, tallied, tally_cuts, verdict, none_yet, Rowed}
use Rattle.fill.proofs.Runs.{at_most_one}
use Rattle.fill.proofs.JudgeLaws.{lands}
use Rattle.fill.proofs.Running.{full_at, running, SaneAt, sane-after, runs, passes-are}
use Rattle.fill.proofs.Rising.{Rising, then}

-- the tally without the records' test
abbrev pub run : FillJob → List ℕ → Tally → List Cut → Tally
run j rows t [] = t
run j rows t (k ∷ ks) = run j rows (tallied j (record-at rows k.row) t k) ks

abbrev pub flags : Tally → ℕ
flags t = cond t.full 10 (cond t.deep 11 0)

-- a fill's act on counts
act-ok : (e : Bool) (i id : ℕ) (k : Cut) (a : Option ℕ) → ActOk any (draw-act e i id k.stretch.tiles a)
unfolding draw-act
act-ok true i id k None = splits tt
act-ok true i id k (Some x) = paints tt
act-ok false i id k None = paints tt
act-ok false i id k (Some x) = paints tt

or_assoc : (a b c : Bool) → (a || b || c) ≡ (a || (b || c))
or_assoc true b c = refl
or_assoc false b c = refl

or-none : (a : Bool) → a ≡ (a || false)
or-none true = refl
or-none false = refl

-- what the tally knows of rows from r on, when the rows are us
record Knows (n : ℕ) (rows : List ℕ) (t : Tally) (us : List Words) (r : ℕ) : Type 0 where
  knows : (x : ℕ) → r ≤ x → x < n → known t (record-at rows x) x ≡ count (get_or us x nowhere)
  past : (x : ℕ) → r < x → x < n → t.row ≡ x → ⊥

-- a cut segment's row is there, and can be counted
abbrev Fine : ℕ → List Words → Cut → Type 0
Fine n us k = (k.row < n) × Sane (get_or us k.row nowhere)

module _ (j : FillJob) (n : ℕ) (rows : List ℕ) (m : j.layers ≤ 16) where
  module _ (t : Tally) (us : List Words) (r : ℕ) (k : Cut) (l : length us ≡ n) (h : r ≤ k.row) (f : Fine n us k) (o : Knows n rows t us r) where
    -- the row after its act
    after-act : get_or (change (draws j k.stretch.tiles k.stretch.alpha) k.row us) k.row nowhere ≡ draws j k.stretch.tiles k.stretch.alpha (get_or us k.row nowhere)
    after-act = change-same (draws j k.stretch.tiles k.stretch.alpha) k.row us nowhere (rw l f.0)

    turn-counts : drawn-counts j k (known t (record-at rows k.row) k.row) ≡ count (get_or (change (draws j k.stretch.tiles k.stretch.alpha) k.row us) k.row nowhere)
    turn-counts =
        ap (drawn-counts j k) (o.knows k.row h f.0)
        ∙ sym (follows-act counted (bucket-tiles j.width) j.layers m (act-ok j.eligible j.attr j.id k k.stretch.alpha) (get_or us k.row nowhere) f.1).0
        ∙ ap count (sym after-act)

    turn_is : tallied j (record-at rows k.row) t k ≡ tally-of j t k.row (count (get_or (change (draws j k.stretch.tiles k.stretch.alpha) k.row us) k.row nowhere))
    unfolding tallied
    turn_is = ap (tally-of j t k.row) turn-counts

    same_row : (x : ℕ) → (k.row ≡ x → ⊥) → get_or (change (draws j k.stretch.tiles k.stretch.alpha) k.row us) x nowhere ≡ get_or us x nowhere
    same_row x g = change-else (draws j k.stretch.tiles k.stretch.alpha) k.row x us nowhere g

    loads : (x : ℕ) → (t.row ≡ x → ⊥) → r ≤ x → x < n → stored (record-at rows x) ≡ count (get_or us x nowhere)
    unfolding known
    loads x g p q = rw (ne_eqb t.row x g) at (o.knows x p q)

    knows_at : (x : ℕ) → k.row ≤ x → x < n → (b : Bool) → eqb k.row x ≡ b
        → cond b (count (get_or (change (draws j k.stretch.tiles k.stretch.alpha) k.row us) k.row nowhere)) (stored (record-at rows x)) ≡ count (get_or (change (draws j k.stretch.tiles k.stretch.alpha) k.row us) x nowhere)
    knows_at x p q true e = ap (λ (y : ℕ). count (get_or (change (draws j k.stretch.tiles k.stretch.alpha) k.row us) y nowhere)) (eqb-true k.row x e)
    knows_at x p q false e =
        let g : k.row ≡ x → ⊥ = eqb-false k.row x e in
        let y : r < x = omega (arith, g) in
        loads x (o.past x y q) (omega arith) q ∙ ap count (sym (same_row x g))

    next-knows : Knows n rows (tally-of j t k.row (count (get_or (change (draws j k.stretch.tiles k.stretch.alpha) k.row us) k.row nowhere))) (change (draws j k.stretch.tiles k.stretch.alpha) k.row us) k.row
    unfolding known
    next-knows = record { knows = λ x p q. knows_at x p q (eqb k.row x) refl; past = λ x p q e. omega arith }

  -- the flags, as the puts run
  goes : (ks : List Cut) (t : Tally) (us : List Words) (r : ℕ) → length us ≡ n → Rising r ks → All (Fine n us) ks → Knows n rows t us r
      → ((run j rows t ks).full ≡ (t.full || running j (word 0) j.c (puts_of j ks) us)) × ((run j rows t ks).deep ≡ (t.deep || running j (word 1) j.d (puts_of j ks) us))
  unfolding draw-puts
  goes [] t us r l a b o = (or-none t.full, or-none t.deep)
  goes (k ∷ ks) t us r l (then h a) (cons f b) o =
      let vs = change (draws j k.stretch.tiles k.stretch.alpha) k.row us in
      let p : Put = on (draw-act j.eligible j.attr j.id k.stretch.tiles k.stretch.alpha) k.row in
      let g = goes ks (tally-of j t k.row (count (get_or vs k.row nowhere))) vs k.row (change-length (draws j k.stretch.tiles k.stretch.alpha) k.row us ∙ l) a
      (all_map (λ q s. (s.0, sane-after j p us q.row m s.1)) b) (next-knows t us r k l h f o) in
      let e : run j rows t (k ∷ ks) ≡ run j rows (tally-of j t k.row (count (get_or vs k.row nowhere))) ks = ap (λ (u : Tally). run j rows u ks) (turn_is t us r k l h f o) in (
        ap (λ (u : Tally). u.full) e ∙ g.0 ∙ or_assoc t.full (ltb j.c (word 0 (get_or vs k.row nowhere))) (running j (word 0) j.c (puts_of j ks) vs),
        ap (λ (u : Tally). u.deep) e ∙ g.1 ∙ or_assoc t.deep (ltb j.d (word 1 (get_or vs k.row nowhere))) (running j (word 1) j.d (puts_of j ks) vs),
      )

-- the frame of a job's screen
abbrev frame_at : FillJob → Box → Frame
frame_at j v = record { viewport = v; c = j.c; d = j.d; width = j.width }

-- rows of words
module _ (j : FillJob) (v : Box) (n : ℕ) (w : Words) (m : j.layers ≤ 16) (l : Long (sizes j.c j.d) n w) where
  state-is : (x : ℕ) → x < n → (get_or (cut (sizes j.c j.d) n w) x nowhere).state ≡ record-at w.state x
  state-is x h = ap (λ (u : Words). u.state) (cut_at (sizes j.c j.d) n x w nowhere h)

  good-there : (f : Frame) (o i : ℕ) (rs : List Words) → i < length rs → good-at f o i rs ≡ good_row f.c f.d o (get_or rs i nowhere).state
  good-there f o i [] h = absurd (omega arith)
  good-there f o zero (r ∷ rs) h = refl
  good-there f o (suc i) (r ∷ rs) h = good-there f o i rs (omega arith)

  good-here : (x : ℕ) → x < n → good-at (frame_at j v) j.layers x (cut (sizes j.c j.d) n w) ≡ good_row j.c j.d j.layers (record-at w.state x)
  good-here x h =
      good-there (frame_at j v) j.layers x (cut (sizes j.c j.d) n w) (rw (cut-length (sizes j.c j.d) n w) h)
      ∙ ap (good_row j.c j.d j.layers) (state-is x h)

  if-both : (a b : Bool) (t : Tally) → cond a (cond b (Some t) None) None ≡ cond (a && b) (Some t) None
  if-both true b t = refl
  if-both false b t = refl

  -- whatever the order: 4 exactly if a record is bad
  pub tally-is : (t : Tally) {ks : List Cut} → All (λ (k : Cut). k.row < n) ks
      → tally_cuts j w.state t ks ≡ cond (good_rows (frame_at j v) j.layers (puts_of j ks) (cut (sizes j.c j.d) n w)) (Some (run j w.state t ks)) None
  unfolding tally_cuts good_rows draw-puts
  tally-is t nil = refl
  tally-is t (cons {x = k} {xs = ks} h a) =
      rw (tally-is (tallied j (record-at w.state k.row) t k) a, ← good-here k.row h)
      (if-both (good-at (frame_at j v) j.layers k.row (cut (sizes j.c j.d) n w))
      (every (λ (p : Put). good-at (frame_at j v) j.layers p.row (cut (sizes j.c j.d) n w)) (puts_of j ks))
      (run j w.state (tallied j (record-at w.state k.row) t k) ks))

  -- 4 first, then what the flags say
  pub verdict-any : {ks : List Cut} → All (λ (k : Cut). k.row < n) ks
      → verdict (tally_cuts j w.state none_yet ks) ≡ cond (good_rows (frame_at j v) j.layers (puts_of j ks) (cut (sizes j.c j.d) n w)) (flags (run j w.state none_yet ks)) 4
  verdict-any {ks} a = ap verdict (tally-is none_yet a) ∙ either (good_rows (frame_at j v) j.layers (puts_of j ks) (cut (sizes j.c j.d) n w)) (run j w.state none_yet ks)
    where
      either : (b : Bool) (t : Tally) → verdict (cond b (Some t) None) ≡ cond b (flags t) 4
      either true t = refl
      either false t = refl

  -- what good records say
  sane-at : (x : ℕ) → x < n → good_row j.c j.d j.layers (record-at w.state x) ≡ true → Sane (get_or (cut (sizes j.c j.d) n w) x nowhere)
  sane-at x h g =
      let e = cut_at (sizes j.c j.d) n x w nowhere h in
      let s = good-small j.c j.d j.layers (record-at w.state x) g in
      record {
        state = ap (λ (u : Words). length u.state) e ∙ at-state (sizes j.c j.d) n x w l h;
        levels = omega (arith, s.levels, m, ap (λ (y : List ℕ). get_or y 5 0) (state-is x h));
      }

  all-fine : {ks : List Cut} → All (λ (k : Cut). k.row < n) ks → good_rows (frame_at j v) j.layers (puts_of j ks) (cut (sizes j.c j.d) n w) ≡ true → All (Fine n (cut (sizes j.c j.d) n w)) ks
  unfolding good_rows draw-puts
  all-fine nil e = nil
  all-fine (cons {x = k} {xs = ks} h a) e =
      let b = both (good-at (frame_at j v) j.layers k.row (cut (sizes j.c j.d) n w)) (every (λ (p : Put). good-at (frame_at j v) j.layers p.row (cut (sizes j.c j.d) n w)) (puts_of j ks)) e in
      cons (h, sane-at k.row h (sym (good-here k.row h) ∙ b.0)) (all-fine a b.1)

  puts-sane : (us : List Words) {ks : List Cut} → All (Fine n us) ks → All (SaneAt us) (puts_of j ks)
  unfolding draw-puts
  puts-sane us nil = nil
  puts-sane us (cons {x = k} f a) = cons f.1 (puts-sane us a)

  -- at the start every row's counts are those of its record
  first-knows : n ≤ 512 → Knows n w.state none_yet (cut (sizes j.c j.d) n w) 0
  unfolding known
  first-knows q =
      record {
        knows = λ x p h. rw (ne_eqb 8192 x (λ e. omega arith)) (ap stored (sym (state-is x h)));
        past = λ x p h e. omega arith;
      }

  module _ (q : n ≤ 512) {ks : List Cut} (a : All (λ (k : Cut). k.row < n) ks) (r : Rising 0 ks)
      (g : good_rows (frame_at j v) j.layers (puts_of j ks) (cut (sizes j.c j.d) n w) ≡ true) where
    fine : All (Fine n (cut (sizes j.c j.d) n w)) ks
    fine = all-fine a g

    both-flags : ((run j w.state none_yet ks).full ≡ running j (word 0) j.c (puts_of j ks) (cut (sizes j.c j.d) n w)) × ((run j w.state none_yet ks).deep ≡ running j (word 1) j.d (puts_of j ks) (cut (sizes j.c j.d) n w))
    both-flags = goes j n w.state m ks none_yet (cut (sizes j.c j.d) n w) 0 (cut-length (sizes j.c j.d) n w) r fine (first-knows q)

    full_is : (run j w.state none_yet ks).full ≡ passes Words word-ops (word 0) j.c (puts_of j ks) (done j (puts_of j ks) (cut (sizes j.c j.d) n w))
    full_is =
        both-flags.0 ∙ sym (runs j m (word 0) j.c (λ u u' s. s.commands) (puts_of j ks) (cut (sizes j.c j.d) n w) (puts-sane (cut (sizes j.c j.d) n w) fine))
        ∙ sym (passes-are j m (word 0) j.c refl (puts_of j ks) (done j (puts_of j ks) (cut (sizes j.c j.d) n w)))

    deep_is : (run j w.state none_yet ks).deep ≡ passes Words word-ops (word 1) j.d (puts_of j ks) (done j (puts_of j ks) (cut (sizes j.c j.d) n w))
    deep_is =
        both-flags.1 ∙ sym (runs j m (word 1) j.d (λ u u' s. s.depths) (puts_of j ks) (cut (sizes j.c j.d) n w) (puts-sane (cut (sizes j.c j.d) n w) fine))
        ∙ sym (passes-are j m (word 1) j.d refl (puts_of j ks) (done j (puts_of j ks) (cut (sizes j.c j.d) n w)))

    -- the flags are the rules' tests on the rows after
    pub flags-are : flags (run j w.state none_yet ks)
        ≡ cond (passes Words word-ops (word 0) j.c (puts_of j ks) (done j (puts_of j ks) (cut (sizes j.c j.d) n w))) 10
        (cond (passes Words word-ops (word 1) j.d (puts_of j ks) (done j (puts_of j ks) (cut (sizes j.c j.d) n w))) 11 0)
    flags-are = rw (full_is, deep_is)

    -- a row within its room
    room_at : (x : ℕ) → x < n → j.c ≤ 1024 → j.d ≤ 1024 → Sane (get_or (cut (sizes j.c j.d) n w) x nowhere) → (ts : List Words)
        → full_at (word 0) j.c ts x ≡ false → full_at (word 1) j.d ts x ≡ false → Room (get_or (cut (sizes j.c j.d) n w) x nowhere) (get_or ts x nowhere)
    room_at x h c d s ts e f =
        let i = cut_at (sizes j.c j.d) n x w nowhere h in
        let t : length (get_or (cut (sizes j.c j.d) n w) x nowhere).render ≡ 4 * j.c = ap (λ (u : Words). length u.render) i ∙ at-render (sizes j.c j.d) n x w l h in
        let u : length (get_or (cut (sizes j.c j.d) n w) x nowhere).fills ≡ 2 * j.d = ap (λ (u : Words). length u.fills) i ∙ at-fills (sizes j.c j.d) n x w l h in
        record {
          state = s.state;
          render = omega arith;
          fills = omega arith;
          levels = s.levels;
          commands = omega (arith, ltb-false j.c (word 0 (get_or ts x nowhere)) e);
          depths = omega (arith, ltb-false j.d (word 1 (get_or ts x nowhere)) f);
        }

    roomy-by : (ts : List Words) {ls : List Cut} → j.c ≤ 1024 → j.d ≤ 1024 → All (Fine n (cut (sizes j.c j.d) n w)) ls
        → All (λ (p : Put). full_at (word 0) j.c ts p.row ≡ false) (puts_of j ls) → All (λ (p : Put). full_at (word 1) j.d ts p.row ≡ false) (puts_of j ls) → Roomy (puts_of j ls) (cut (sizes j.c j.d) n w) ts
    unfolding draw-puts
    roomy-by ts c d nil e f = none-put
    roomy-by ts c d (cons {x = k} o b) (cons e es) (cons f fs) = one_more (room_at k.row o.0 c d o.1 ts e f) (roomy-by ts c d b es fs)

    -- what is not refused has room
    pub roomy-judged : j.c ≤ 1024 → j.d ≤ 1024
        → passes Words word-ops (word 0) j.c (puts_of j ks) (done j (puts_of j ks) (cut (sizes j.c j.d) n w)) ≡ false
        → passes Words word-ops (word 1) j.d (puts_of j ks) (done j (puts_of j ks) (cut (sizes j.c j.d) n w)) ≡ false
        → Roomy (puts_of j ks) (cut (sizes j.c j.d) n w) (done j (puts_of j ks) (cut (sizes j.c j.d) n w))
    roomy-judged c d e f =
        roomy-by (done j (puts_of j ks) (cut (sizes j.c j.d) n w)) c d fine
        (none_of (λ (p : Put). full_at (word 0) j.c (done j (puts_of j ks) (cut (sizes j.c j.d) n w)) p.row) (puts_of j ks) (sym (passes-are j m (word 0) j.c refl (puts_of j ks) (done j (puts_of j ks) (cut (sizes j.c j.d) n w))) ∙ e))
        (none_of (λ (p : Put). full_at (word 1) j.d (done j (puts_of j ks) (cut (sizes j.c j.d) n w)) p.row) (puts_of j ks) (sym (passes-are j m (word 1) j.d refl (puts_of j ks) (done j (puts_of j ks) (cut (sizes j.c j.d) n w))) ∙ f))

  -- the law: on an ordered list the verdict is 4 for a bad record, then the rules' 10 and 11
  pub verdict-is : n ≤ 512 → {ks : List Cut} → All (λ (k : Cut). k.row < n) ks → Rising 0 ks
      → verdict (tally_cuts j w.state none_yet ks)
      ≡ cond (good_rows (frame_at j v) j.layers (puts_of j ks) (cut (sizes j.c j.d) n w))
      (cond (passes Words word-ops (word 0) j.c (puts_of j ks) (done j (puts_of j ks) (cut (sizes j.c j.d) n w))) 10
      (cond (passes Words word-ops (word 1) j.d (puts_of j ks) (done j (puts_of j ks) (cut (sizes j.c j.d) n w))) 11 0))
      4
  verdict-is q {ks} a r = let f = flags-are q a r in verdict-any a ∙ grind (arith, nat_tests)

-- the cut segments of good segments are on rows
module _ {j : FillJob} {n : ℕ} {rows : List ℕ} (o : Rowed j n rows) where
  one-landed : (g : Segment) → good-segment g ≡ true → (ks : List Cut) → length ks ≤ 1 → ks ≡ cut_in (origin j.scene) (bounds j.scene) g → All (λ (k : Cut). k.row < n) ks
  one-landed g t [] h e = nil
  one-landed g t (k ∷ []) h e = cons (lands j n rows g k o t e).0 nil
  one-landed g t (k ∷ l ∷ ks) h e = absurd (omega arith)

  pub all-landed : (ss : List Segment) → every good-segment ss ≡ true → All (λ (k : Cut). k.row < n) (join (cut_in (origin j.scene) (bounds j.scene)) ss)
  all-landed ss e =
      all_join (cut_in (origin j.scene) (bounds j.scene))
      (λ g t. one-landed g t (cut_in (origin j.scene) (bounds j.scene) g) (at_most_one (origin j.scene) (bounds j.scene) g) refl)
      (every-all good-segment ss e)
