-- Words and commands, both ways: what is written is read back, and what is read is written so.
use Rattle.std.proofs.Common.{◌≡◌, refl, sym, ap, ◌∙◌, Bool, true, false, ◌&&◌, cond, List, [], ◌∷◌, Option, None, Some, ℕ, ◌<◌, ◌+◌, ◌-◌, ◌*◌, ◌/◌, ◌%◌, arith, leb, eqb, get_or, leb-true, ltb-true, eqb-true, le-leb, lt-ltb}
use Rattle.rules.specs.Spans.{Span}
use Rattle.rules.specs.Commands.{Command, paint-fill, layer-fill, push-buf, pop-buf, DepthFill, span-word, command_words, depth-words}
use Rattle.cmd.specs.Reading.{word-span, good-span-word, good-alpha, only_if, by-tag, command_of, depth_fill_of}
use Rattle.cmd.specs.Good.{GoodSpan, GoodCommand, GoodDepthFill}
use Rattle.rules.proofs.All.{and_left, and_right, and_both}
use Rattle.cmd.proofs.Commands.{tag-1, tag-2, tag-3, tag-4, tag-5, tag-6, tag-7}

-- a span's word, there and back
div-span : (f e : ℕ) → e < 65536 → (f * 65536 + e) / 65536 ≡ f
div-span f e h = omega arith

mod-span : (f e : ℕ) → e < 65536 → (f * 65536 + e) % 65536 ≡ e
mod-span f e h = omega arith

pub span-there : (s : ℕ) → span-word (word-span s) ≡ s
span-there s = omega arith

pub span-back : (s : Span) → s.end < 65536 → word-span (span-word s) ≡ s
span-back s h = rw (div-span s.first s.end h, mod-span s.first s.end h)

-- a good span has a good word, and the other way round
pub good-word : (n : ℕ) (s : Span) → n < 65536 → GoodSpan n s → good-span-word n (span-word s) ≡ true
good-word n s h g =
    let e : s.end < 65536 = omega arith in
    rw (div-span s.first s.end e, mod-span s.first s.end e)
    (and_both _ _ (le-leb _ _ g.in_order) (le-leb _ _ g.in-limit))

pub good-span : (n s : ℕ) → good-span-word n s ≡ true → GoodSpan n (word-span s)
good-span n s h =
    record {
      in_order = leb-true _ _ (and_left _ _ h);
      in-limit = leb-true _ _ (and_right (leb (s / 65536) (s % 65536)) _ h);
    }

good-index : (a : ℕ) (s : Span) → s.end < 65536 → a + 16 * (s.end - s.first) < 4294967296 → good-alpha a (span-word s) ≡ true
good-index a s e h = rw (div-span s.first s.end e, mod-span s.first s.end e) (lt-ltb _ _ h)

-- the command that a list of four words stands for
abbrev pub read-list : List ℕ → Option Command
read-list ws = command_of (get_or ws 0 0) (get_or ws 1 0) (get_or ws 2 0) (get_or ws 3 0)

module _ (s : Span) (g : GoodSpan 8192 s) where
  narrow : s.end < 65536
  narrow = omega arith

  solid-back : (good-span-word 8192 (span-word s) && eqb 0 0) ≡ true
  solid-back = and_both _ _ (good-word 8192 s (omega arith) g) refl

  alpha-back : (a : ℕ) → a + 16 * (s.end - s.first) < 4294967296
      → (good-span-word 8192 (span-word s) && good-alpha a (span-word s)) ≡ true
  alpha-back a h = and_both _ _ (good-word 8192 s (omega arith) g) (good-index a s narrow h)

-- reading back what the words say gives the same command
pub reads-back : (k : Command) → GoodCommand k → read-list (command_words k) ≡ Some k
unfolding command_words
reads-back (paint-fill s None i) (g, h) =
    sym (tag-1 _ _ _ _ true refl (solid-back s g)) ∙ ap (λ (x : Span). Some (paint-fill x None i)) (span-back s (narrow s g))
reads-back (paint-fill s (Some a) i) (g, h) =
    sym (tag-2 _ _ _ _ true refl (alpha-back s g a h)) ∙ ap (λ (x : Span). Some (paint-fill x (Some a) i)) (span-back s (narrow s g))
reads-back (layer-fill s None i) (g, h) =
    sym (tag-3 _ _ _ _ true refl (solid-back s g)) ∙ ap (λ (x : Span). Some (layer-fill x None i)) (span-back s (narrow s g))
reads-back (layer-fill s (Some a) i) (g, h) =
    sym (tag-4 _ _ _ _ true refl (alpha-back s g a h)) ∙ ap (λ (x : Span). Some (layer-fill x (Some a) i)) (span-back s (narrow s g))
reads-back (push-buf None) g = sym (tag-5 _ _ _ _ true refl refl)
reads-back (push-buf (Some s)) g =
    sym (tag-6 _ _ _ _ true true refl (solid-back s g) refl) ∙ ap (λ (x : Span). Some (push-buf (Some x))) (span-back s (narrow s g))
reads-back pop-buf g = sym (tag-7 _ _ _ _ true refl refl)

-- what holds of each command that words can stand for holds of what was read
module _ (Q : ℕ → Command → Type 0) (k : Command) where
  Each : List (ℕ × Option Command) → Type 0
  Each [] = Unit
  Each (c ∷ cs) = (c.1 ≡ Some k → Q c.0 k) × Each cs

  by-test : (t n : ℕ) (x y : Option Command) (b : Bool)
      → eqb t n ≡ b → (x ≡ Some k → Q n k) → (y ≡ Some k → Q t k) → cond b x y ≡ Some k → Q t k
  by-test t n x y true q e more h = rw (eqb-true t n q) (e h)
  by-test t n x y false q e more h = more h

  found : (t : ℕ) (cs : List (ℕ × Option Command)) → Each cs → by-tag t cs ≡ Some k → Q t k
  unfolding Each
  found t [] e h = let z : ◌≡◌ {A = ℕ} 0 1 = cc in absurd (omega arith)
  found t (c ∷ cs) e h = by-test t c.0 c.1 (by-tag t cs) _ refl e.0 (found t cs e.1) h

  allowed : (t : ℕ) (b : Bool) (x : Command) → (b ≡ true → Q t x) → only_if b x ≡ Some k → Q t k
  allowed t true x q h = let e : k ≡ x = cc in rw e (q refl)
  allowed t false x q h = let z : ◌≡◌ {A = ℕ} 0 1 = cc in absurd (omega arith)

-- what words can stand for, by their tag
abbrev table : ℕ → ℕ → ℕ → List (ℕ × Option Command)
table s a i =
    (1, only_if (good-span-word 8192 s && eqb a 0) (paint-fill (word-span s) None i))
    ∷ (2, only_if (good-span-word 8192 s && good-alpha a s) (paint-fill (word-span s) (Some a) i))
    ∷ (3, only_if (good-span-word 8192 s && eqb a 0) (layer-fill (word-span s) None i))
    ∷ (4, only_if (good-span-word 8192 s && good-alpha a s) (layer-fill (word-span s) (Some a) i))
    ∷ (5, only_if (eqb s 0 && eqb a 0 && eqb i 0) (push-buf None))
    ∷ (6, only_if (good-span-word 8192 s && eqb a 0 && eqb i 0) (push-buf (Some (word-span s))))
    ∷ (7, only_if (eqb s 0 && eqb a 0 && eqb i 0) pop-buf)
    ∷ []

module _ (Q : ℕ → Command → Type 0) (s a i : ℕ)
    (q1 : (good-span-word 8192 s && eqb a 0) ≡ true → Q 1 (paint-fill (word-span s) None i))
    (q2 : (good-span-word 8192 s && good-alpha a s) ≡ true → Q 2 (paint-fill (word-span s) (Some a) i))
    (q3 : (good-span-word 8192 s && eqb a 0) ≡ true → Q 3 (layer-fill (word-span s) None i))
    (q4 : (good-span-word 8192 s && good-alpha a s) ≡ true → Q 4 (layer-fill (word-span s) (Some a) i))
    (q5 : (eqb s 0 && eqb a 0 && eqb i 0) ≡ true → Q 5 (push-buf None))
    (q6 : (good-span-word 8192 s && eqb a 0 && eqb i 0) ≡ true → Q 6 (push-buf (Some (word-span s))))
    (q7 : (eqb s 0 && eqb a 0 && eqb i 0) ≡ true → Q 7 pop-buf) where
  pub by-reading : (t : ℕ) (k : Command) → command_of t s a i ≡ Some k → Q t k
  unfolding command_of Each
  by-reading t k h =
      found Q k t (table s a i) (
        allowed Q k 1 _ _ q1,
        (
          allowed Q k 2 _ _ q2,
          (
            allowed Q k 3 _ _ q3,
            (allowed Q k 4 _ _ q4, (allowed Q k 5 _ _ q5, (allowed Q k 6 _ _ q6, (allowed Q k 7 _ _ q7, tt)))),
          ),
        ),
      )
      h

bare : (t s a i : ℕ) → (eqb s 0 && eqb a 0 && eqb i 0) ≡ true → ◌≡◌ {A = List ℕ} (t ∷ 0 ∷ 0 ∷ 0 ∷ []) (t ∷ s ∷ a ∷ i ∷ [])
bare t s a i h =
    rw (
      eqb-true s 0 (and_left _ (eqb a 0) (and_left _ (eqb i 0) h)),
      eqb-true a 0 (and_right (eqb s 0) _ (and_left _ (eqb i 0) h)),
      eqb-true i 0 (and_right (eqb s 0 && eqb a 0) _ h),
    )

-- the words of what was read are the words that were read
pub writes-back : (t s a i : ℕ) (k : Command) → command_of t s a i ≡ Some k → command_words k ≡ t ∷ s ∷ a ∷ i ∷ []
unfolding command_words
writes-back t s a i =
    by-reading (λ u k. command_words k ≡ u ∷ s ∷ a ∷ i ∷ []) s a i
    (λ h. rw (span-there s, eqb-true a 0 (and_right (good-span-word 8192 s) _ h)))
    (λ h. rw (span-there s))
    (λ h. rw (span-there s, eqb-true a 0 (and_right (good-span-word 8192 s) _ h)))
    (λ h. rw (span-there s))
    (λ h. bare 5 s a i h)
    (λ h.
    rw (
      span-there s,
      eqb-true a 0 (and_right (good-span-word 8192 s) _ (and_left _ (eqb i 0) h)),
      eqb-true i 0 (and_right (good-span-word 8192 s && eqb a 0) _ h),
    ))
    (λ h. bare 7 s a i h)
    t

-- what was read is good
pub reads-good : (t s a i : ℕ) (k : Command) → command_of t s a i ≡ Some k → GoodCommand k
reads-good t s a i =
    by-reading (λ u k. GoodCommand k) s a i
    (λ h. (good-span 8192 s (and_left _ (eqb a 0) h), tt))
    (λ h. (good-span 8192 s (and_left _ (good-alpha a s) h), ltb-true _ _ (and_right (good-span-word 8192 s) _ h)))
    (λ h. (good-span 8192 s (and_left _ (eqb a 0) h), tt))
    (λ h. (good-span 8192 s (and_left _ (good-alpha a s) h), ltb-true _ _ (and_right (good-span-word 8192 s) _ h)))
    (λ h. tt)
    (λ h. good-span 8192 s (and_left _ (eqb a 0) (and_left _ (eqb i 0) h)))
    (λ h. tt)
    t

-- depth fills, likewise
abbrev pub read-depth-list : ℕ → List ℕ → Option DepthFill
read-depth-list n ws = depth_fill_of n (get_or ws 0 0) (get_or ws 1 0)

pub depth-reads-back : (n : ℕ) (f : DepthFill) → n < 65536 → GoodDepthFill n f → read-depth-list n (depth-words f) ≡ Some f
unfolding depth-words depth_fill_of
depth-reads-back n f h g =
    rw (good-word n f.buckets h g)
    (ap (λ (x : Span). Some (record { buckets = x; attribute = f.attribute })) (span-back f.buckets (omega arith)))

depth-allowed : (b : Bool) (x f : DepthFill) → only_if b x ≡ Some f → (b ≡ true) × (f ≡ x)
depth-allowed true x f h = (refl, cc)
depth-allowed false x f h = let z : ◌≡◌ {A = ℕ} 0 1 = cc in absurd (omega arith)

pub depth-writes-back : (n s i : ℕ) (f : DepthFill) → depth_fill_of n s i ≡ Some f → depth-words f ≡ s ∷ i ∷ []
unfolding depth-words depth_fill_of
depth-writes-back n s i f h = let e = depth-allowed (good-span-word n s) _ f h in rw (e.1, span-there s)

pub depth-reads-good : (n s i : ℕ) (f : DepthFill) → depth_fill_of n s i ≡ Some f → GoodDepthFill n f
unfolding depth_fill_of
depth-reads-good n s i f h = let e = depth-allowed (good-span-word n s) _ f h in rw e.1 (good-span n s e.0)
