-- The row operations on words follow those of the rules. Assumes nothing.
use Rattle.std.proofs.Common.{◌≡◌, refl, sym, ap, ◌∙◌, List, [], ◌∷◌, ◌++◌, append_assoc, append-nil, Option, None, Some, ℕ, zero, suc, ◌+◌, ◌-◌, ◌*◌, ◌/◌, ◌%◌, ◌≤◌, ◌<◌, max, add-one, arith, length}
use Rattle.std.proofs.Common.{get_or, set, length-append, length-set, get_or-append-add, ne_eqb}
use native.Mathlib.Numerals.{add-two, add-three}
use lib.Seq.{get_or_at, set_at}
use Rattle.rules.specs.Lists.{join, is_none, is-empty}
use Rattle.rules.specs.Spans.{Span, hull}
use Rattle.rules.specs.Commands.{Command, paint-fill, layer-fill, push-buf, pop-buf, DepthFill, span-word, command_words, depth-words}
use Rattle.rules.specs.Rows as rules
use Rattle.rules.specs.Depth.{Summary}
use Rattle.rules.specs.Rows.{Row, Level, include}
use Rattle.rules.proofs.All.{never, head}
use Rattle.row.specs.Words.{word, put4, hull_word, include_span, include-adds, put_command, put_buf, end_buf, put_depth}
use Rattle.refine_row.specs.Encode.{padded, union-words, stack, first_of, end_of, state-of, encode, Fine}
use Rattle.refine_row.proofs.Pads.{zeros, padded-fits, stored-any, set_after, set-padded}

-- commands
four : (c : Command) → length (command_words c) ≡ 4
unfolding command_words
four (paint-fill s None i) = refl
four (paint-fill s (Some a) i) = refl
four (layer-fill s None i) = refl
four (layer-fill s (Some a) i) = refl
four (push-buf None) = refl
four (push-buf (Some s)) = refl
four pop-buf = refl

flat-length : (cs : List Command) → length (join command_words cs) ≡ 4 * length cs
flat-length [] = refl
flat-length (c ∷ cs) = length-append (command_words c) (join command_words cs) ∙ omega (arith, four c, flat-length cs)

flat-more : (cs : List Command) (c : Command) → join command_words (cs ++ (c ∷ [])) ≡ join command_words cs ++ command_words c
flat-more [] c = append-nil (command_words c)
flat-more (x ∷ cs) c = rw (flat-more cs c) (sym (append_assoc (command_words x) (join command_words cs) (command_words c)))

-- a command stored
pub rendered : (k : ℕ) (cs : List Command) (c : Command) (a b x y : ℕ) → command_words c ≡ a ∷ b ∷ x ∷ y ∷ []
    → put4 (padded (4 * k) (join command_words cs)) (length cs) a b x y ≡ padded (4 * k) (join command_words (cs ++ (c ∷ [])))
rendered k cs c a b x y e =
    rw (flat-more cs c, e, add-one, add-two, add-three)
    (stored-any (4 * k) (join command_words cs) (a ∷ b ∷ x ∷ y ∷ []) (4 * length cs) (sym (flat-length cs)) (λ (h : length (join command_words cs) < 4 * k). omega (arith, flat-length cs)))

-- levels
three : (l : Level) → length (l.place ∷ union-words l.union) ≡ 3
three l = go l.union
  where
    go : (u : Option Span) → length (l.place ∷ union-words u) ≡ 3
    go None = refl
    go (Some s) = refl

stack-length : (ls : List Level) → length (stack ls) ≡ 3 * length ls
unfolding stack
stack-length [] = refl
stack-length (l ∷ ls) = length-append (stack ls) (l.place ∷ union-words l.union) ∙ omega (arith, three l, stack-length ls)

-- the span word of the hull
hulled : (u : Option Span) (s : Span) → end_of u < 65536 → (t v : ℕ) → union-words u ≡ t ∷ v ∷ [] → hull_word t v s.first s.end ≡ span-word (hull u s)
unfolding hull_word
hulled None s h t v e = let p : t ≡ 5 = sym (ap (λ (l : List ℕ). get_or l 0 0) e) in rw p
hulled (Some u) s h t v e =
    let p : t ≡ 6 = sym (ap (λ (l : List ℕ). get_or l 0 0) e) in
    let q : v ≡ u.first * 65536 + u.end = sym (ap (λ (l : List ℕ). get_or l 1 0) e) in
    let d : (u.first * 65536 + u.end) / 65536 ≡ u.first = omega arith in
    let m : (u.first * 65536 + u.end) % 65536 ≡ u.end = omega arith in
    rw (p, q, d, m)

-- the words of the innermost of the levels l and ls
module _ (ls : List Level) (p t v : ℕ) (few : length ls ≤ 15) where
  opened : padded 48 (stack ls ++ (p ∷ t ∷ v ∷ [])) ≡ stack ls ++ (p ∷ t ∷ v ∷ zeros (48 - (length (stack ls) + 3)))
  opened =
      let h : length (stack ls ++ (p ∷ t ∷ v ∷ [])) ≤ 48 = rw length-append (omega (arith, stack-length ls)) in
      rw (padded-fits 48 (stack ls ++ (p ∷ t ∷ v ∷ [])) h, length-append, append_assoc)

  top-tag : get_or (padded 48 (stack ls ++ (p ∷ t ∷ v ∷ []))) (3 * length ls + 1) 0 ≡ t
  top-tag = rw (opened, ← stack-length ls, get_or-append-add)

  top-span : get_or (padded 48 (stack ls ++ (p ∷ t ∷ v ∷ []))) (3 * length ls + 2) 0 ≡ v
  top-span = rw (opened, ← stack-length ls, get_or-append-add)

  top_set : (x : ℕ) → set (set (padded 48 (stack ls ++ (p ∷ t ∷ v ∷ []))) (3 * length ls + 1) 6) (3 * length ls + 2) x ≡ stack ls ++ (p ∷ 6 ∷ x ∷ zeros (48 - (length (stack ls) + 3)))
  top_set x = rw (opened, ← stack-length ls, set_after, set_after)

module _ (n b c d g : ℕ) (l : Level) (ls : List Level) (s : Span) (few : length ls ≤ 15) (h : end_of l.union < 65536) where
  included-as : (t v : ℕ) → union-words l.union ≡ t ∷ v ∷ []
      → include_span s.first s.end (n ∷ b ∷ c ∷ d ∷ g ∷ suc (length ls) ∷ padded 48 (stack (l ∷ ls)))
      ≡ n ∷ b ∷ c ∷ d ∷ g ∷ suc (length ls) ∷ padded 48 (stack (record { place = l.place; union = Some (hull l.union s) } ∷ ls))
  unfolding include_span stack
  included-as t v e =
      let i1 : 3 + 3 * suc (length ls) + 1 ≡ suc (suc (suc (suc (suc (suc (3 * length ls + 1)))))) = omega arith in
      let i2 : 3 + 3 * suc (length ls) + 2 ≡ suc (suc (suc (suc (suc (suc (3 * length ls + 2)))))) = omega arith in
      rw (
        ne_eqb (suc (length ls)) 0 (λ (z : suc (length ls) ≡ 0). omega arith),
        e,
        i1,
        i2,
        top-tag ls l.place t v few,
        top-span ls l.place t v few,
        hulled l.union s h t v e,
        top_set ls l.place t v few,
        opened ls l.place 6 (span-word (hull l.union s)) few,
      )

  two : (u : Option Span) → (t : ℕ) × (v : ℕ) × (union-words u ≡ t ∷ v ∷ [])
  two None = (5, 0, refl)
  two (Some s) = (6, span-word s, refl)

  included : include_span s.first s.end (n ∷ b ∷ c ∷ d ∷ g ∷ suc (length ls) ∷ padded 48 (stack (l ∷ ls)))
      ≡ n ∷ b ∷ c ∷ d ∷ g ∷ suc (length ls) ∷ padded 48 (stack (record { place = l.place; union = Some (hull l.union s) } ∷ ls))
  included = included-as (two l.union).0 (two l.union).1 (two l.union).2

-- a fill's command: the state
module _ (s : Span) (cs : List Command) (c : Command) (f : List DepthFill) (d : Summary) where
  counted : length (cs ++ (c ∷ [])) ≡ length cs + 1
  counted = length-append cs (c ∷ [])

  stated : (ls : List Level) → Fine (record { commands = cs; fills = f; levels = ls; depth = d })
      → set (include_span s.first s.end (state-of (record { commands = cs; fills = f; levels = ls; depth = d }))) 0 (length cs + 1)
      ≡ state-of (record { commands = cs ++ (c ∷ []); fills = f; levels = include (Some s) ls; depth = d })
  unfolding include_span
  stated [] r = rw counted
  stated (l ∷ ls) r = rw (included (length cs) (length f) (first_of d.union) (end_of d.union) d.largest l ls s (omega (arith, r.few)) (head r.spans), counted)

-- a command simulates
four-words : (c : Command) → command_words c ≡ get_or (command_words c) 0 0 ∷ get_or (command_words c) 1 0 ∷ get_or (command_words c) 2 0 ∷ get_or (command_words c) 3 0 ∷ []
unfolding command_words
four-words (paint-fill s None i) = refl
four-words (paint-fill s (Some a) i) = refl
four-words (layer-fill s None i) = refl
four-words (layer-fill s (Some a) i) = refl
four-words (push-buf None) = refl
four-words (push-buf (Some s)) = refl
four-words pop-buf = refl

module _ (k j : ℕ) (r : Row) (o : Fine r) (c : Command) where
  added : (a : Option Span) → set (include-adds a (state-of r)) 0 (length r.commands + 1) ≡ state-of (record { commands = r.commands ++ (c ∷ []); fills = r.fills; levels = include a r.levels; depth = r.depth })
  added None = rw (length-append r.commands (c ∷ []))
  added (Some s) = stated s r.commands c r.fills r.depth r.levels o

  pub puts : encode k j (rules.put-command c r) ≡ put_command c (encode k j r)
  unfolding encode put_command rules.put-command
  puts = rw (added (rules.adds c), rendered k r.commands c _ _ _ _ (four-words c))

-- a PushBuf simulates
module _ (k j : ℕ) (r : Row) (few : length r.levels ≤ 15) where
  pushed-stack : (n : ℕ) → set (set (set (padded 48 (stack r.levels)) (3 * length r.levels) n) (3 * length r.levels + 1) 5) (3 * length r.levels + 2) 0 ≡ padded 48 (stack r.levels ++ (n ∷ 5 ∷ 0 ∷ []))
  pushed-stack n =
      rw (add-one, add-two)
      (stored-any 48 (stack r.levels) (n ∷ 5 ∷ 0 ∷ []) (3 * length r.levels) (sym (stack-length r.levels)) (λ (h : length (stack r.levels) < 48). omega (arith, stack-length r.levels)))

  pub pushes : encode k j (rules.put-push-buf r) ≡ put_buf (encode k j r)
  unfolding encode put_buf stack command_words rules.put-push-buf
  pushes =
      let m = length r.levels in
      let i0 : 3 + 3 * (length r.levels + 1) ≡ suc (suc (suc (suc (suc (suc (3 * length r.levels)))))) = omega arith in
      let i1 : suc (suc (suc (suc (suc (suc (3 * length r.levels)))))) + 1 ≡ suc (suc (suc (suc (suc (suc (3 * length r.levels + 1)))))) = omega arith in
      let i2 : suc (suc (suc (suc (suc (suc (3 * length r.levels)))))) + 2 ≡ suc (suc (suc (suc (suc (suc (3 * length r.levels + 2)))))) = omega arith in
      let l : length r.levels + 1 ≡ suc (length r.levels) = add-one (length r.levels) in
      rw (
        i0,
        i1,
        i2,
        pushed-stack (length r.commands),
        rendered k r.commands (push-buf None) 5 0 0 0 refl,
        length-append,
        l,
      )

-- depth fills
two-long : (f : DepthFill) → length (depth-words f) ≡ 2
unfolding depth-words
two-long f = refl

deep-length : (fs : List DepthFill) → length (join depth-words fs) ≡ 2 * length fs
deep-length [] = refl
deep-length (f ∷ fs) = length-append (depth-words f) (join depth-words fs) ∙ omega (arith, two-long f, deep-length fs)

deep_more : (fs : List DepthFill) (f : DepthFill) → join depth-words (fs ++ (f ∷ [])) ≡ join depth-words fs ++ depth-words f
deep_more [] f = append-nil (depth-words f)
deep_more (x ∷ fs) f = rw (deep_more fs f) (sym (append_assoc (depth-words x) (join depth-words fs) (depth-words f)))

deepened : (j : ℕ) (fs : List DepthFill) (f : DepthFill)
    → set (set (padded (2 * j) (join depth-words fs)) (2 * length fs) (span-word f.buckets)) (2 * length fs + 1) f.attribute ≡ padded (2 * j) (join depth-words (fs ++ (f ∷ [])))
unfolding depth-words
deepened j fs f =
    rw (deep_more fs f, add-one)
    (stored-any (2 * j) (join depth-words fs) (span-word f.buckets ∷ f.attribute ∷ []) (2 * length fs) (sym (deep-length fs)) (λ (h : length (join depth-words fs) < 2 * j). omega (arith, deep-length fs)))

-- a depth fill simulates
module _ (k j v : ℕ) (cs : List Command) (ls : List Level) (g : ℕ) (f : DepthFill) (id : ℕ) where
  abbrev row_of : Option Span → List DepthFill → Row
  row_of u fs = record { commands = cs; fills = fs; levels = ls; depth = record { union = u; largest = g } }

  least : (x : ℕ) → max 0 x ≡ x
  least x = omega arith

  deep-as : (u : Option Span) (fs : List DepthFill) → is_none u ≡ is-empty fs → encode k j (rules.put-depth-fill v f id (row_of u fs)) ≡ put_depth v f id (encode k j (row_of u fs))
  unfolding encode put_depth rules.put-depth-fill depth-words
  deep-as None [] e = rw (← deepened j [] f, least)
  deep-as None (x ∷ fs) e = never e
  deep-as (Some u) [] e = never (sym e)
  deep-as (Some u) (x ∷ fs) e = rw (← deepened j (x ∷ fs) f, ne_eqb (suc (length fs)) 0 (λ (z : suc (length fs) ≡ 0). omega arith), more)
    where
      more : suc (length (fs ++ (f ∷ []))) ≡ suc (length fs) + 1
      more = omega (arith, length-append fs (f ∷ []))

pub fills : (k j v : ℕ) (r : Row) → Fine r → (f : DepthFill) (id : ℕ) → encode k j (rules.put-depth-fill v f id r) ≡ put_depth v f id (encode k j r)
fills k j v r o f id = deep-as k j v r.commands r.levels r.depth.largest f id r.depth.union r.fills o.summary

-- a PopBuf simulates
two-words : (u : Option Span) → (t : ℕ) × (v : ℕ) × (union-words u ≡ t ∷ v ∷ [])
two-words None = (5, 0, refl)
two-words (Some s) = (6, span-word s, refl)

set-flat : (cs : List Command) (p : ℕ) (u : Option Span) (t v : ℕ) → union-words u ≡ t ∷ v ∷ [] → p < length cs → get_or cs p pop-buf ≡ push-buf None
    → set (set (join command_words cs) (4 * p) t) (4 * p + 1) v ≡ join command_words (set cs p (push-buf u))
unfolding command_words
set-flat [] p u t v e h q = absurd (omega arith)
set-flat (c ∷ cs) zero None t v e h q = rw (q, ← ap (λ (l : List ℕ). get_or l 0 0) e, ← ap (λ (l : List ℕ). get_or l 1 0) e)
set-flat (c ∷ cs) zero (Some s) t v e h q = rw (q, ← ap (λ (l : List ℕ). get_or l 0 0) e, ← ap (λ (l : List ℕ). get_or l 1 0) e)
set-flat (c ∷ cs) (suc p) u t v e h q =
    let i0 : 4 * suc p ≡ length (command_words c) + 4 * p = omega (arith, four c) in
    let i1 : length (command_words c) + 4 * p + 1 ≡ length (command_words c) + (4 * p + 1) = omega arith in
    rw (i0, i1, set_after (command_words c), set_after (command_words c), set-flat cs p u t v e (omega arith) q)

module _ (ls : List Level) (p t v : ℕ) (few : length ls ≤ 15) where
  top-place : get_or (padded 48 (stack ls ++ (p ∷ t ∷ v ∷ []))) (3 * length ls) 0 ≡ p
  top-place = rw (opened ls p t v few) (get_or_at (stack ls) p (t ∷ v ∷ zeros (48 - (length (stack ls) + 3))) 0 (3 * length ls) (stack-length ls))

  top-clear : set (set (set (padded 48 (stack ls ++ (p ∷ t ∷ v ∷ []))) (3 * length ls) 0) (3 * length ls + 1) 0) (3 * length ls + 2) 0 ≡ padded 48 (stack ls)
  top-clear =
      let h : length (stack ls) ≤ 48 = omega (arith, stack-length ls) in
      let z : 48 - length (stack ls) ≡ suc (suc (suc (48 - (length (stack ls) + 3)))) = omega (arith, stack-length ls) in
      rw (opened ls p t v few, padded-fits 48 (stack ls) h, set_at (stack ls) p (t ∷ v ∷ zeros (48 - (length (stack ls) + 3))) 0 (3 * length ls) (stack-length ls), ← stack-length ls, set_after, set_after, z)

module _ (k j : ℕ) (cs : List Command) (fs : List DepthFill) (d : Summary) where
  abbrev with-levels : List Level → Row
  with-levels ls = record { commands = cs; fills = fs; levels = ls; depth = d }

  ended-render : (p : ℕ) (u : Option Span) (t v : ℕ) → union-words u ≡ t ∷ v ∷ [] → p < length cs → get_or cs p pop-buf ≡ push-buf None
      → put4 (set (set (padded (4 * k) (join command_words cs)) (4 * p) t) (4 * p + 1) v) (length cs) 7 0 0 0 ≡ padded (4 * k) (join command_words (set cs p (push-buf u) ++ (pop-buf ∷ [])))
  unfolding command_words
  ended-render p u t v e h q =
      let a : 4 * p < length (join command_words cs) = omega (arith, flat-length cs) in
      let b : 4 * p + 1 < length (set (join command_words cs) (4 * p) t) = rw length-set (omega (arith, flat-length cs)) in
      rw (set-padded (4 * k) (join command_words cs) (4 * p) t a, set-padded (4 * k) (set (join command_words cs) (4 * p) t) (4 * p + 1) v b, set-flat cs p u t v e h q, ← length-set cs p (push-buf u))
      (rendered k (set cs p (push-buf u)) pop-buf 7 0 0 0 refl)

  ended-count : (p : ℕ) (u : Option Span) → length (set cs p (push-buf u) ++ (pop-buf ∷ [])) ≡ length cs + 1
  ended-count p u = length-append (set cs p (push-buf u)) (pop-buf ∷ []) ∙ omega (arith, length-set cs p (push-buf u))

  popped-as : (l : Level) (ls : List Level) → Fine (with-levels (l ∷ ls)) → (t v : ℕ) → union-words l.union ≡ t ∷ v ∷ []
      → encode k j (rules.pop-levels (l ∷ ls) (with-levels (l ∷ ls))) ≡ end_buf (encode k j (with-levels (l ∷ ls)))
  unfolding encode end_buf stack
  popped-as l ls o t v e =
      let few : length ls ≤ 15 = omega (arith, o.few) in
      let i0 : 3 + 3 * suc (length ls) ≡ suc (suc (suc (suc (suc (suc (3 * length ls)))))) = omega arith in
      let i1 : suc (suc (suc (suc (suc (suc (3 * length ls)))))) + 1 ≡ suc (suc (suc (suc (suc (suc (3 * length ls + 1)))))) = omega arith in
      let i2 : suc (suc (suc (suc (suc (suc (3 * length ls)))))) + 2 ≡ suc (suc (suc (suc (suc (suc (3 * length ls + 2)))))) = omega arith in
      let i3 : suc (length ls) - 1 ≡ length ls = omega arith in
      rw (
        ne_eqb (suc (length ls)) 0 (λ (z : suc (length ls) ≡ 0). omega arith),
        e,
        i0,
        i1,
        i2,
        i3,
        top-place ls l.place t v few,
        top-tag ls l.place t v few,
        top-span ls l.place t v few,
        top-clear ls l.place t v few,
        ended-render l.place l.union t v e o.places.0 o.places.1,
        ended-count l.place l.union,
      )

  popped : (ls : List Level) → Fine (with-levels ls) → encode k j (rules.pop-levels ls (with-levels ls)) ≡ end_buf (encode k j (with-levels ls))
  unfolding end_buf encode
  popped [] o = refl
  popped (l ∷ ls) o = popped-as l ls o (two-words l.union).0 (two-words l.union).1 (two-words l.union).2

pub pops : (k j : ℕ) (r : Row) → Fine r → encode k j (rules.put-pop-buf r) ≡ end_buf (encode k j r)
unfolding rules.put-pop-buf
pops k j r o = popped k j r.commands r.fills r.depth r.levels o

-- the innermost level's place, as it stands in the words
pub place-word : (k j : ℕ) (r : Row) (l : Level) (ls : List Level) → r.levels ≡ l ∷ ls → length ls ≤ 15 → word (3 + 3 * length r.levels) (encode k j r) ≡ l.place
unfolding encode stack
place-word k j r l ls e few =
    let i0 : 3 + 3 * suc (length ls) ≡ suc (suc (suc (suc (suc (suc (3 * length ls)))))) = omega arith in
    let u = two-words l.union in
    rw (e, i0, u.2) (top-place ls l.place u.0 u.1 few)
