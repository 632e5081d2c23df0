-- A conversion, test by test.
use Rattle.std.proofs.Common.{ℕ, ◌≤◌, ◌<◌, arith, ◌≡◌, refl, sym, ◌∙◌, Bool, true, false, not, List, [], ◌∷◌, ◌++◌, length, drop, Option, None, Some, ltb, lt-ltb, le-ltb, ne_eqb}
use Rattle.std.proofs.Common.{Ok, Err}
use Rattle.sizes.specs.declared.edition.Edition.{Edition}
use Rattle.sizes.specs.declared.answers.Refusal.{Refusal}
use Rattle.sizes.specs.declared.answers.Refusal.TheVariants as refusal
use Rattle.rules.specs.Answers.{answer, settle, first_of, BadViewport, BadForm, BadRecord, BadOrder, NoRoom, HasPanels}
use Rattle.rules.specs.Boxes.{good_viewport}
use Rattle.rules.specs.Setups.{Mode, viewport-in}
use Rattle.rules.specs.Recording.{Recording, File, shape, parsed, recording, good-records, good-order}
use Rattle.rules.specs.Conversions.{judge-sections, conversion, convert-call, converted, file-of, all-kept}
use Rattle.rect.specs.declared.Rect.{Rect}
use Rattle.rect.specs.Rects.{box_of, seen}
use Rattle.rect.proofs.Snapping.{good-seen, bad-seen}
use Rattle.file.specs.Held.{recording_of}
use Rattle.file.specs.Judging.{judged}
use Rattle.convert.specs.Sections.{sections-or, sections_of, file-in, Formed}
use Rattle.convert.specs.Placed.{Placed, put_first}

-- the sections whose recording is known
by-sections : (o : Option (List (List (List ℕ)))) (r : Recording) → recording_of o ≡ Some r → (o ≡ Some (sections-or o)) × (recording (sections-or o) ≡ r)
by-sections None r h = let z : ◌≡◌ {A = ℕ} 0 1 = cc in absurd (omega arith)
by-sections (Some ss) r h = (refl, cc)

-- the first of some tests, where the first of those before one is known
by-three : (a b c : Bool) (n : ℕ) → (n ≡ 0 → ⊥) → n ≡ first_of ((a, BadRecord) ∷ (b, BadOrder) ∷ []) → first_of ((a, BadRecord) ∷ (b, BadOrder) ∷ (c, HasPanels) ∷ []) ≡ n
by-three true b c n z e = sym e
by-three false true c n z e = sym e
by-three false false c n z e = absurd (z e)

by-none : (a b c : Bool) → 0 ≡ first_of ((a, BadRecord) ∷ (b, BadOrder) ∷ []) → first_of ((a, BadRecord) ∷ (b, BadOrder) ∷ (c, HasPanels) ∷ []) ≡ first_of ((c, HasPanels) ∷ [])
by-none true b c e = absurd (omega (arith, e))
by-none false true c e = absurd (omega (arith, e))
by-none false false c e = refl

-- the viewport, as the code has seen it
module _ (m : Mode) (r : Recording) {b : Rect} (h : box_of b ≡ r.viewport) where
  pub seen-good : {v : Rect} → Ok v ≡ seen (viewport-in m (box_of b)) → good_viewport (viewport-in m r.viewport) ≡ true
  seen-good e = rw (← h) (good-seen (viewport-in m (box_of b)) _ e).0

  pub seen-bad : {v : Refusal} → Err v ≡ seen (viewport-in m (box_of b)) → (good_viewport (viewport-in m r.viewport) ≡ false) × (v ≡ refusal.BadViewport)
  seen-bad e = rw (← h) (bad-seen (viewport-in m (box_of b)) _ e)

-- refused, nothing is put
abbrev pub left : ℕ → List ℕ → Placed
left n out = record { number = n; count = 0; words = out }

module _ (m : Mode) (e : Edition) (f : File) where
  pub of-none : parsed f ≡ None → conversion m e f ≡ answer BadForm []
  unfolding conversion
  of-none h = rw (h, conversion)

  pub of-sections : (xs : List (List (List ℕ))) → parsed f ≡ Some xs → conversion m e f ≡ settle (judge-sections m e xs) [] (file-of e (converted (shape e) xs))
  unfolding conversion
  of-sections xs p = rw (p, conversion)

module _ (m : Mode) (e : Edition) (f : File) (out : List ℕ) where
  abbrev pub call : Placed
  call = put_first (convert-call m e (length out) f) out

  pub bad-form : parsed f ≡ None → left BadForm out ≡ call
  unfolding convert-call
  bad-form h =
      let z : ltb (length out) 0 ≡ false = le-ltb (length out) 0 (omega arith) in
      rw (of-none m e f h, z) refl

  module _ (r : Recording) (h : recording_of (parsed f) ≡ Some r) where
    abbrev ss : List (List (List ℕ))
    ss = sections_of f

    is-parsed : parsed f ≡ Some ss
    is-parsed = (by-sections (parsed f) r h).0

    pub formed : Formed f.edition f.words
    formed = record { parsed = is-parsed }

    same : recording ss ≡ r
    same = (by-sections (parsed f) r h).1

    judged-as : judge-sections m e ss
        ≡ first_of ((not (good_viewport (viewport-in m r.viewport)), BadViewport) ∷ (not (good-records r), BadRecord) ∷ (not (good-order r), BadOrder) ∷ (not (all-kept (shape e) ss), HasPanels) ∷ [])
    unfolding judge-sections
    judged-as = rw same

    refused : (n : ℕ) → (n ≡ 0 → ⊥) → judge-sections m e ss ≡ n → left n out ≡ call
    unfolding convert-call
    refused n z g =
        let w : ltb (length out) 0 ≡ false = le-ltb (length out) 0 (omega arith) in
        let a : conversion m e f ≡ answer n [] = of-sections m e f ss is-parsed ∙ rw (g, ne_eqb n 0 z) in
        rw (a, w) refl

    pub bad-viewport : good_viewport (viewport-in m r.viewport) ≡ false → left BadViewport out ≡ call
    bad-viewport g = refused 2 (λ z. omega arith) (judged-as ∙ rw g)

    module _ (v : good_viewport (viewport-in m r.viewport) ≡ true) where
      pub bad-records : (n : ℕ) → (n ≡ 0 → ⊥) → n ≡ judged r → left n out ≡ call
      bad-records n z g = refused n z (judged-as ∙ rw v (by-three (not (good-records r)) (not (good-order r)) (not (all-kept (shape e) ss)) n z g))

      module _ (g : 0 ≡ judged r) where
        judged-last : judge-sections m e ss ≡ first_of ((not (all-kept (shape e) ss), HasPanels) ∷ [])
        judged-last = judged-as ∙ rw v (by-none (not (good-records r)) (not (good-order r)) (not (all-kept (shape e) ss)) g)

        pub has-panels : all-kept (shape e) ss ≡ false → left HasPanels out ≡ call
        has-panels k = refused 15 (λ z. omega arith) (judged-last ∙ rw k)

        module _ (k : all-kept (shape e) ss ≡ true) where
          abbrev there : List ℕ
          there = file-in f.edition e f.words

          good : judge-sections m e ss ≡ 0
          good = judged-last ∙ rw k

          is-converted : conversion m e f ≡ answer 0 there
          is-converted = of-sections m e f ss is-parsed ∙ rw good

          pub no-room : length out < length there → left NoRoom out ≡ call
          unfolding convert-call
          no-room l = rw (is-converted, lt-ltb (length out) (length there) l) refl

          pub done : length there ≤ length out → (now : List ℕ) → now ≡ there ++ drop (length there) out → record { number = 0; count = length there; words = now } ≡ call
          unfolding convert-call
          done l now w = rw (w, is-converted, le-ltb (length out) (length there) l) refl
