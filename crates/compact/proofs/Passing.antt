-- The pass over a row's words follows the rules' pass over its commands.
use Rattle.std.proofs.Common.{◌≡◌, refl, sym, ap, ◌∙◌, ℕ, suc, ◌+◌, ◌-◌, ◌*◌, ◌≤◌, ◌<◌, ◌≢◌, arith, Bool, true, false, cond, ◌&&◌, ltb, lt-ltb, List, [], ◌∷◌, ◌++◌, append_assoc, append-nil, Option, None, Some, option_map, length, length-set, get_or, set, take, replicate}
use lib.Seq.{get_or-set_other, get_or-set_same, take-suc}
use Rattle.rules.specs.Lists.{join, is-empty}
use Rattle.rules.specs.Commands.{Command, paint-fill, layer-fill, push-buf, pop-buf, command_words}
use Rattle.rules.specs.Attributes.{Attrs}
use Rattle.rules.specs.Painting.{paint-id, layer-id}
use Rattle.rules.specs.Depth.{visible-runs}
use Rattle.rules.specs.Compacted.{kept, passed, turned-round}
use Rattle.cmd.specs.Reading.{only_if}
use Rattle.cmd.specs.Commands.{put4, cmd_at, words_of, read-words}
use Rattle.cmd.specs.declared.command.CmdWords.{CmdWords}
use Rattle.cmd.specs.Good.{GoodCommand}
use Rattle.cmd.proofs.BothWays.{writes-back, reads-good}
use Rattle.span.specs.Spans.{tiles}
use Rattle.paint.specs.Painting.{command-at}
use Rattle.compact.specs.declared.commands.Kind.{Kind}
use Rattle.compact.specs.declared.commands.Kind.TheVariants.{Fill, Push, Pop}
use Rattle.compact.specs.Reading.{names-good, good-command, commands-from}
use Rattle.compact.specs.Passing.{kind-of, GoodKind, Packed, packed, is-push, kept-at, popped, taken, left-of, Closed}
use Rattle.compact.proofs.Froms.{First, first-read, all-read, read-same}

-- four words stored at place n
module _ (ws : List ℕ) (n t s a i : ℕ) where
  other : (j : ℕ) → j ≢ 4 * n → j ≢ 4 * n + 1 → j ≢ 4 * n + 2 → j ≢ 4 * n + 3 → get_or (put4 ws n t s a i) j 0 ≡ get_or ws j 0
  other j p q r u =
      get_or-set_other (set (set (set ws (4 * n) t) (4 * n + 1) s) (4 * n + 2) a) (4 * n + 3) j i 0 u
      ∙ get_or-set_other (set (set ws (4 * n) t) (4 * n + 1) s) (4 * n + 2) j a 0 r
      ∙ get_or-set_other (set ws (4 * n) t) (4 * n + 1) j s 0 q
      ∙ get_or-set_other ws (4 * n) j t 0 p

  below : (j : ℕ) → j < 4 * n → get_or (put4 ws n t s a i) j 0 ≡ get_or ws j 0
  below j h = other j (λ e. omega arith) (λ e. omega arith) (λ e. omega arith) (λ e. omega arith)

  above : (j : ℕ) → 4 * n + 3 < j → get_or (put4 ws n t s a i) j 0 ≡ get_or ws j 0
  above j h = other j (λ e. omega arith) (λ e. omega arith) (λ e. omega arith) (λ e. omega arith)

  -- the command there, and those at other places
  pub put-there : 4 * n + 4 ≤ length ws → words_of (cmd_at (put4 ws n t s a i) n) ≡ t ∷ s ∷ a ∷ i ∷ []
  put-there h = grind (arith, get_or-set_other, get_or-set_same, length-set)

  pub put-below : (m : ℕ) → m < n → cmd_at (put4 ws n t s a i) m ≡ cmd_at ws m
  put-below m h = rw (below (4 * m) (omega arith), below (4 * m + 1) (omega arith), below (4 * m + 2) (omega arith), below (4 * m + 3) (omega arith)) refl

  pub put-above : (m : ℕ) → n < m → cmd_at (put4 ws n t s a i) m ≡ cmd_at ws m
  put-above m h = rw (above (4 * m) (omega arith), above (4 * m + 1) (omega arith), above (4 * m + 2) (omega arith), above (4 * m + 3) (omega arith)) refl

-- the commands st, the newest first, stand at the front of the words, n of them
abbrev pub Stacked : List ℕ → List Command → Type 0
Stacked ws [] = Unit {0}
Stacked ws (c ∷ st) = (words_of (cmd_at ws (length st)) ≡ command_words c) × Stacked ws st

pub record Stands (p : Packed) (st : List Command) : Type 0 where
  pub count : length st ≡ p.left
  pub words : Stacked p.words st

-- words that differ from place n on alone
still : (ws us : List ℕ) (n : ℕ) → ((m : ℕ) → m < n → cmd_at us m ≡ cmd_at ws m) → (st : List Command) → length st ≤ n → Stacked ws st → Stacked us st
still ws us n same [] h g = tt
still ws us n same (c ∷ st) h g = (ap words_of (same (length st) (omega arith)) ∙ g.0, still ws us n same st (omega arith) g.1)

-- a command put behind
put-on : (w : CmdWords) (c : Command) (p : Packed) (st : List Command) → words_of w ≡ command_words c → 4 * p.left + 4 ≤ length p.words
    → Stands p st → Stands (kept-at w p) (c ∷ st)
put-on w c p st e h g =
    let same = put-below p.words p.left w.tag w.span.0 w.alpha w.attrs_idx in
    record {
      count = omega (arith, g.count);
      words = (rw g.count (put-there p.words p.left w.tag w.span.0 w.alpha w.attrs_idx h ∙ e), still p.words (kept-at w p).words p.left same st (omega (arith, g.count)) g.words);
    }

-- the tag of a command that is kept
abbrev pushes : Command → Bool
pushes (paint-fill s x i) = false
pushes (layer-fill s x i) = false
pushes (push-buf s) = true
pushes pop-buf = false

push-tag : (c : Command) → is-push (get_or (command_words c) 0 0) ≡ pushes c
unfolding command_words
push-tag (paint-fill s None i) = refl
push-tag (paint-fill s (Some a) i) = refl
push-tag (layer-fill s None i) = refl
push-tag (layer-fill s (Some a) i) = refl
push-tag (push-buf None) = refl
push-tag (push-buf (Some s)) = refl
push-tag pop-buf = refl

-- what stands last of the kept ones
top : (p : Packed) (c : Command) (st : List Command) → Stands p (c ∷ st) → (ltb 0 p.left && is-push (get_or p.words (4 * (p.left - 1)) 0)) ≡ pushes c
top p c st g =
    let e : p.left - 1 ≡ length st = omega (arith, g.count) in
    let t : get_or p.words (4 * (p.left - 1)) 0 ≡ get_or (command_words c) 0 0 = rw e (ap (λ (l : List ℕ). get_or l 0 0) g.words.0) in
    rw (lt-ltb 0 p.left (omega (arith, g.count)), t) (push-tag c)

empty-top : (p : Packed) → Stands p [] → (ltb 0 p.left && is-push (get_or p.words (4 * (p.left - 1)) 0)) ≡ false
empty-top p g = rw (sym g.count) refl

-- a PopBuf
on-top : (w : CmdWords) (p : Packed) (st : List Command) (b : Bool) → (ltb 0 p.left && is-push (get_or p.words (4 * (p.left - 1)) 0)) ≡ b
    → Stands (cond b (packed p.words (p.left - 1)) (kept-at w p)) st → Stands (popped w p) st
on-top w p st b e g = rw e g

module _ (v : ℕ) (a : Attrs) (bs : List ℕ) where
  -- a command that is taken in
  pub took : (w : CmdWords) (c : Command) (p : Packed) (st : List Command) → words_of w ≡ command_words c → 4 * p.left + 4 ≤ length p.words
      → Stands p st → Stands (taken v bs w (kind-of a c) p) (kept v a bs c st)
  took w (paint-fill s x i) p st e h g = by-cond (is-empty (visible-runs v bs (paint-id a i) s))
    where
      by-cond : (b : Bool) → Stands (cond b p (kept-at w p)) (cond b st (paint-fill s x i ∷ st))
      by-cond true = g
      by-cond false = put-on w (paint-fill s x i) p st e h g
  took w (layer-fill s x i) p st e h g = by-cond (is-empty (visible-runs v bs (layer-id a i) s))
    where
      by-cond : (b : Bool) → Stands (cond b p (kept-at w p)) (cond b st (layer-fill s x i ∷ st))
      by-cond true = g
      by-cond false = put-on w (layer-fill s x i) p st e h g
  took w (push-buf s) p st e h g = put-on w (push-buf s) p st e h g
  took w pop-buf p [] e h g = on-top w p (pop-buf ∷ []) false (empty-top p g) (put-on w pop-buf p [] e h g)
  took w pop-buf p (paint-fill s x i ∷ st) e h g = on-top w p _ false (top p _ st g) (put-on w pop-buf p _ e h g)
  took w pop-buf p (layer-fill s x i ∷ st) e h g = on-top w p _ false (top p _ st g) (put-on w pop-buf p _ e h g)
  took w pop-buf p (push-buf s ∷ st) e h g = on-top w p st true (top p _ st g) (record { count = omega (arith, g.count); words = g.words.1 })
  took w pop-buf p (pop-buf ∷ st) e h g = on-top w p _ false (top p _ st g) (put-on w pop-buf p _ e h g)

  -- The pass before command k of count, the kept ones being `left`
  pub record Passing (cs : List Command) (ws : List ℕ) (left k count : ℕ) : Type 0 where
    pub stack : List Command
    pub rest : List Command
    pub stands : Stands (packed ws left) stack
    pub ahead : commands-from a ws k (count - k) ≡ Some rest
    pub whole : passed v a bs stack rest ≡ passed v a bs [] cs
    pub behind : left ≤ k
    pub within : k ≤ count

-- what is read as good
good-is : (a : Attrs) (o : Option Command) (c : Command) → good-command a o ≡ Some c → o ≡ Some c
good-is a None c e = let z : ◌≡◌ {A = ℕ} 0 1 = cc in absurd (omega arith)
good-is a (Some x) c e = by-test (names-good a x) e
  where
    by-test : (b : Bool) → only_if b x ≡ Some c → Some x ≡ Some c
    by-test true q = q
    by-test false q = let z : ◌≡◌ {A = ℕ} 0 1 = cc in absurd (omega arith)

good-kind : (a : Attrs) (c : Command) → GoodCommand c → GoodKind (kind-of a c)
good-kind a (paint-fill s x i) g = (g.0.in_order, g.0.in-limit)
good-kind a (layer-fill s x i) g = (g.0.in_order, g.0.in-limit)
good-kind a (push-buf s) g = tt
good-kind a pop-buf g = tt

module _ (v : ℕ) (bs : List ℕ) (w : CmdWords) (p : Packed) where
  above-kept : (m : ℕ) → p.left < m → cmd_at (kept-at w p).words m ≡ cmd_at p.words m
  above-kept m h = put-above p.words p.left w.tag w.span.0 w.alpha w.attrs_idx m h

  -- taking one in changes no command behind it, and keeps at most one more
  pub above-taken : (k : Kind) (m : ℕ) → p.left < m → cmd_at (taken v bs w k p).words m ≡ cmd_at p.words m
  above-taken (Fill s id) m h = by-cond (is-empty (visible-runs v bs id (tiles s)))
    where
      by-cond : (b : Bool) → cmd_at (cond b p (kept-at w p)).words m ≡ cmd_at p.words m
      by-cond true = refl
      by-cond false = above-kept m h
  above-taken Push m h = above-kept m h
  above-taken Pop m h = by-cond (ltb 0 p.left && is-push (get_or p.words (4 * (p.left - 1)) 0))
    where
      by-cond : (b : Bool) → cmd_at (cond b (packed p.words (p.left - 1)) (kept-at w p)).words m ≡ cmd_at p.words m
      by-cond true = refl
      by-cond false = above-kept m h

  pub one-more : (k : Kind) → (taken v bs w k p).left ≤ p.left + 1
  one-more (Fill s id) = by-cond (is-empty (visible-runs v bs id (tiles s)))
    where
      by-cond : (b : Bool) → (cond b p (kept-at w p)).left ≤ p.left + 1
      by-cond true = omega arith
      by-cond false = omega arith
  one-more Push = omega arith
  one-more Pop = by-cond (ltb 0 p.left && is-push (get_or p.words (4 * (p.left - 1)) 0))
    where
      by-cond : (b : Bool) → (cond b (packed p.words (p.left - 1)) (kept-at w p)).left ≤ p.left + 1
      by-cond true = omega arith
      by-cond false = omega arith

module _ (v : ℕ) (a : Attrs) (bs : List ℕ) (cs : List Command) where
  -- before the first command
  pub at-first : (ws : List ℕ) (count : ℕ) → commands-from a ws 0 count ≡ Some cs → Passing v a bs cs ws 0 0 count
  at-first ws count e =
      let z : count - 0 ≡ count = omega arith in
      record {
        stack = [];
        rest = cs;
        stands = record { count = refl; words = tt };
        ahead = rw z e;
        whole = refl;
        behind = omega arith;
        within = omega arith;
      }

  module _ (ws : List ℕ) (left k count : ℕ) (p : Passing v a bs cs ws left k count) (h : k < count) where
    -- the command at place k
    next : First (good-command a (command-at ws k)) (commands-from a ws (k + 1) (count - (k + 1))) p.rest
    next = first-read (λ i. good-command a (command-at ws i)) count k p.rest h p.ahead

    is-read : command-at ws k ≡ Some next.first
    is-read = good-is a (command-at ws k) next.first next.read

    its-words : words_of (cmd_at ws k) ≡ command_words next.first
    its-words = sym (writes-back _ _ _ _ next.first is-read)

    -- its kind is the one that was found
    module _ (o : Option Kind) (e : o ≡ option_map (kind-of a) (good-command a (command-at ws k))) where
      found : o ≡ Some (kind-of a next.first)
      found = e ∙ ap (option_map (kind-of a)) next.read

      pub not-none : o ≡ None → ⊥
      not-none n = let q : ◌≡◌ {A = Option Kind} None (Some (kind-of a next.first)) = sym n ∙ found in let z : ◌≡◌ {A = ℕ} 0 1 = cc in omega arith

      is-kind : (d : Kind) → o ≡ Some d → kind-of a next.first ≡ d
      is-kind d q = let y : Some (kind-of a next.first) ≡ Some d = sym found ∙ q in cc

      pub kind-is-good : (d : Kind) → o ≡ Some d → GoodKind d
      kind-is-good d q = rw (is-kind d q) at (good-kind a next.first (reads-good _ _ _ _ next.first is-read))

      -- after it
      pub at-next : (d : Kind) → o ≡ Some d → 4 * count ≤ length ws → (us : List ℕ) (n : ℕ) → packed us n ≡ taken v bs (cmd_at ws k) d (packed ws left)
          → Passing v a bs cs us n (k + 1) count
      at-next d q room us n t =
          let good-at : List ℕ → ℕ → Option Command = λ xs i. good-command a (command-at xs i) in
          let same : (i : ℕ) → k + 1 ≤ i → good-at us i ≡ good-at ws i =
          λ i l.
          let m = above-taken v bs (cmd_at ws k) (packed ws left) d i (omega arith) in
          ap (λ (x : CmdWords). good-command a (read-words x)) (ap (λ (x : Packed). cmd_at x.words i) t ∙ m)
          in
          let y : packed us n ≡ taken v bs (cmd_at ws k) (kind-of a next.first) (packed ws left) = rw (is-kind d q) t in
          let behind = p.behind in
          record {
            stack = kept v a bs next.first p.stack;
            rest = next.rest;
            stands = rw y (took v a bs (cmd_at ws k) next.first (packed ws left) p.stack its-words (omega arith) p.stands);
            ahead = read-same (good-at us) (good-at ws) (k + 1) (count - (k + 1)) same ∙ next.more;
            whole = ap (passed v a bs p.stack) (sym next.whole) ∙ p.whole;
            behind = let m : n ≡ (taken v bs (cmd_at ws k) d (packed ws left)).left = ap (λ (x : Packed). x.left) t in omega (arith, m, one-more v bs (cmd_at ws k) (packed ws left) d);
            within = omega arith;
          }

-- commands turned round
turned-long : (st ds : List Command) → length (turned-round st ds) ≡ length st + length ds
turned-long [] ds = omega arith
turned-long (c ∷ st) ds = turned-long st (c ∷ ds) ∙ omega arith

-- the words at place n, one command further
four-more : (ws : List ℕ) (n : ℕ) → 4 * n + 4 ≤ length ws → take (4 * suc n) ws ≡ take (4 * n) ws ++ words_of (cmd_at ws n)
four-more ws n h =
    let e : 4 * suc n ≡ suc (suc (suc (suc (4 * n)))) = omega arith in
    let e1 : 4 * n + 1 ≡ suc (4 * n) = omega arith in
    let e2 : 4 * n + 2 ≡ suc (suc (4 * n)) = omega arith in
    let e3 : 4 * n + 3 ≡ suc (suc (suc (4 * n))) = omega arith in
    rw (
      e,
      e1,
      e2,
      e3,
      take-suc ws (suc (suc (suc (4 * n)))) 0 (omega arith),
      take-suc ws (suc (suc (4 * n))) 0 (omega arith),
      take-suc ws (suc (4 * n)) 0 (omega arith),
      take-suc ws (4 * n) 0 (omega arith),
    )
    (simp append_assoc refl)

-- what stands at the front of the words, in its order
front : (ws : List ℕ) (st ds : List Command) → Stacked ws st → 4 * length st ≤ length ws
    → take (4 * length st) ws ++ join command_words ds ≡ join command_words (turned-round st ds)
front ws [] ds g h = refl
front ws (c ∷ st) ds g h =
    rw (four-more ws (length st) (omega arith), g.0, append_assoc) (front ws st (c ∷ ds) g.1 (omega arith))

-- after the last command
pub at-last : (v : ℕ) (a : Attrs) (bs : List ℕ) (cs : List Command) (vs ws us : List ℕ) (left k count : ℕ) → Passing v a bs cs ws left k count → count ≤ k
    → length ws ≡ length vs → 4 * count ≤ length ws → us ≡ take (4 * left) ws ++ replicate (length ws - 4 * left) 0 → Closed v a bs cs vs us left
at-last v a bs cs vs ws us left k count p h long room e =
    let none = all-read (λ i. good-command a (command-at ws i)) count k p.rest h p.ahead in
    let st : p.stack ≡ passed v a bs [] cs = rw none at p.whole in
    let few : left ≡ length (left-of v a bs cs) = rw (sym st) (omega (arith, turned-long p.stack [], p.stands.count)) in
    let kept-few : 4 * length p.stack ≤ length ws = omega (arith, p.stands.count, p.behind, p.within) in
    let f : take (4 * left) ws ≡ join command_words (left-of v a bs cs) =
    rw (← p.stands.count, ← st) (sym (append-nil (take (4 * length p.stack) ws)) ∙ front ws p.stack [] p.stands.words kept-few) in
    record { count = few; words = e ∙ rw (← few, f, long) refl }
