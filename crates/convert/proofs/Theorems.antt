-- What conversions keep.
use Rattle.std.proofs.Common.{ℕ, arith, ◌≡◌, refl, sym, ap, ◌∙◌, Bool, true, false, not, List, [], ◌∷◌, length, Option, None, Some, option_map, le-ltb, eqb, eqb-true}
use borrow.Author.Tests.{eqb-false}
use Rattle.sizes.specs.declared.edition.Edition.{Edition}
use Rattle.sizes.specs.declared.edition.Edition.TheVariants.{One, Two}
use Rattle.rules.specs.Answers.{Answer, answer, settle, first_of, Done, BadViewport, BadRecord, BadOrder, HasPanels}
use Rattle.rules.specs.Boxes.{good_viewport}
use Rattle.rules.specs.Plans.{Step, Frame}
use Rattle.rules.specs.Setups.{Mode, viewport-in}
use Rattle.rules.specs.Recording.{Recording, File, in-edition, shape, parsed, recording, good-records, good-order}
use Rattle.rules.specs.Walk.{Place, play, play-records}
use Rattle.rules.specs.Calls.{record-call}
use Rattle.rules.specs.Conversions.{judge-sections, conversion, convert-call, converted, file-of, all-kept}
use Rattle.convert.specs.Theorems.{Valid, no-panels, Becomes, Room, ExactToTwo, ExactToOne, ThereAndBack, AlwaysBack, SameRecording, SamePlayed, SameScreen}
use Rattle.convert.proofs.Converting.{of-none, of-sections}
use Rattle.convert.proofs.Back.{parts, there-parsed, back-written, back-kept}
use Rattle.convert.proofs.Alike.{seven, recorded-alike, kept-in-two, kept-in-one}

-- four tests that all say no
record Four (a b c d : Bool) : Type 0 where
  first : a ≡ true
  second : b ≡ true
  third : c ≡ true
  fourth : d ≡ true

four : (a b c d : Bool) → first_of ((not a, BadViewport) ∷ (not b, BadRecord) ∷ (not c, BadOrder) ∷ (not d, HasPanels) ∷ []) ≡ 0 → Four a b c d
four true true true true h = record { first = refl; second = refl; third = refl; fourth = refl }
four true true true false h = absurd (omega (arith, h))
four true true false d h = absurd (omega (arith, h))
four true false c d h = absurd (omega (arith, h))
four false b c d h = absurd (omega (arith, h))

-- what is judged of sections
record Judged (m : Mode) (e : Edition) (ss : List (List (List ℕ))) : Type 0 where
  viewport : good_viewport (viewport-in m (recording ss).viewport) ≡ true
  records : good-records (recording ss) ≡ true
  order : good-order (recording ss) ≡ true
  kept : all-kept (shape e) ss ≡ true

module _ (m : Mode) (e : Edition) (ss : List (List (List ℕ))) where
  judged : judge-sections m e ss ≡ 0 → Judged m e ss
  unfolding judge-sections
  judged h =
      let r = recording ss in
      let f = four (good_viewport (viewport-in m r.viewport)) (good-records r) (good-order r) (all-kept (shape e) ss) h in
      record { viewport = f.first; records = f.second; order = f.third; kept = f.fourth }

  not-refused : Judged m e ss → judge-sections m e ss ≡ 0
  unfolding judge-sections
  not-refused j = rw (j.viewport, j.records, j.order, j.kept)

-- a conversion that is done
record Done-of (m : Mode) (e : Edition) (f : File) (vs : List ℕ) : Type 0 where
  sections : List (List (List ℕ))
  form : parsed f ≡ Some sections
  judged : Judged m e sections
  words : file-of e (converted (shape e) sections) ≡ vs

settled : (n : ℕ) (t : Bool) (xs vs : List ℕ) → eqb n 0 ≡ t → settle n [] xs ≡ answer 0 vs → (n ≡ 0) × (xs ≡ vs)
settled n true xs vs q h =
    let z = eqb-true n 0 q in
    let g : answer 0 xs ≡ answer 0 vs = rw z at h in
    (z, ap (λ (a : Answer (List ℕ)). a.value) g)
settled n false xs vs q h =
    let g : answer n [] ≡ answer 0 vs = rw q at h in
    let z : n ≡ 0 = ap (λ (a : Answer (List ℕ)). a.number) g in
    absurd (eqb-false n 0 q z)

module _ (m : Mode) (e : Edition) (f : File) (vs : List ℕ) where
  by-form : (o : Option (List (List (List ℕ)))) → parsed f ≡ o → conversion m e f ≡ answer Done vs → Done-of m e f vs
  by-form None p h =
      let z : ◌≡◌ {A = ℕ} 3 0 = ap (λ (a : Answer (List ℕ)). a.number) (sym (of-none m e f p) ∙ h) in
      absurd (omega arith)
  by-form (Some ss) p h =
      let s = settled (judge-sections m e ss) _ (file-of e (converted (shape e) ss)) vs refl (sym (of-sections m e f ss p) ∙ h) in
      record { sections = ss; form = p; judged = judged m e ss s.0; words = s.1 }

  opened : conversion m e f ≡ answer Done vs → Done-of m e f vs
  opened h = by-form _ refl h

-- .. and one whose number says so
pub by-number : (m : Mode) (e : Edition) (f : File) → (conversion m e f).number ≡ Done → conversion m e f ≡ answer Done (conversion m e f).value
by-number m e f h = ap (λ (n : ℕ). answer n (conversion m e f).value) h

-- what passes the tests is done
closed : (m : Mode) (e : Edition) (f : File) (ss : List (List (List ℕ))) → parsed f ≡ Some ss → Judged m e ss → conversion m e f ≡ answer Done (file-of e (converted (shape e) ss))
closed m e f ss p j = of-sections m e f ss p ∙ rw (not-refused m e ss j)

module _ (d e : Edition) (m : Mode) (ws vs : List ℕ) (h : Becomes m d e ws vs) where
  abbrev o : Done-of m e (in-edition d ws) vs
  o = opened m e (in-edition d ws) vs h

  abbrev there : List (List (List ℕ))
  there = converted (shape e) o.sections

  -- the sections of the converted file
  there-form : parsed (in-edition e vs) ≡ Some there
  there-form = rw o.words at (there-parsed d e ws o.sections o.form)

  same : recording there ≡ recording o.sections
  same = recorded-alike d e o.sections (seven d o.sections (parts d ws o.sections o.form).shape) o.judged.kept

  again : file-of d (converted (shape d) there) ≡ ws
  again = back-written d e ws o.sections o.form o.judged.kept

  back : (n : Mode) → (conversion n d (in-edition e vs)).number ≡ Done → Becomes n e d vs ws
  back n g =
      let p = opened n d (in-edition e vs) _ (by-number n d (in-edition e vs) g) in
      let q : ◌≡◌ {A = Option (List (List (List ℕ)))} (Some p.sections) (Some there) = sym p.form ∙ there-form in
      let s : p.sections ≡ there = cc in
      by-number n d (in-edition e vs) g ∙ ap (λ (v : List ℕ). answer 0 v) (sym p.words ∙ rw s again)

  always : Becomes m e d vs ws
  always =
      let j : Judged m d there =
      record {
        viewport = rw same o.judged.viewport;
        records = rw same o.judged.records;
        order = rw same o.judged.order;
        kept = back-kept d e ws o.sections o.form;
      } in
      closed m d (in-edition e vs) there there-form j ∙ ap (λ (v : List ℕ). answer 0 v) again

  recorded : option_map recording (parsed (in-edition e vs)) ≡ option_map recording (parsed (in-edition d ws))
  recorded = rw (there-form, o.form) (ap (λ (r : Recording). Some r) same)

  -- a recording call at any state, by any steps
  module _ (S : Type 0) (step : Step → S → Answer S) (fresh : Frame → S) (p : Place) (old : S) where
    by-sections : (f : File) (ss : List (List (List ℕ))) → parsed f ≡ Some ss → play S step fresh p old f ≡ play-records S step fresh p old (recording ss)
    unfolding play
    by-sections f ss q = rw (q, play)

    pub played : play S step fresh p old (in-edition e vs) ≡ play S step fresh p old (in-edition d ws)
    played = by-sections (in-edition e vs) there there-form ∙ rw same (sym (by-sections (in-edition d ws) o.sections o.form))

pub there-and-back : ThereAndBack
there-and-back d e m n ws vs h g = back d e m ws vs h n g

pub always-back : AlwaysBack
always-back d e m ws vs h = always d e m ws vs h

pub same-recording : SameRecording
same-recording d e m ws vs h = recorded d e m ws vs h

pub same-played : SamePlayed
unfolding record-call
same-played d e m ws vs h q a k = played d e m ws vs h _ _ _ _ _

pub same-screen : SameScreen
same-screen d e m ws vs h p old = played d e m ws vs h _ _ _ p old

-- Given room, the call is the conversion.
roomy : (m : Mode) (e : Edition) (f : File) (n : ℕ) → Room m e f n → convert-call m e n f ≡ conversion m e f
unfolding convert-call
roomy m e f n r = rw (le-ltb n (length (conversion m e f).value) r)

module _ (m : Mode) (e : Edition) (f : File) where
  abbrev valid-of : {vs : List ℕ} → Done-of m e f vs → Valid m f
  valid-of o = record { sections = o.sections; form = o.form; viewport = o.judged.viewport; records = o.judged.records; order = o.judged.order }

  done-of : (conversion m e f).number ≡ Done → Done-of m e f (conversion m e f).value
  done-of h = opened m e f _ (by-number m e f h)

  is-done : (v : Valid m f) → all-kept (shape e) v.sections ≡ true → (conversion m e f).number ≡ Done
  is-done v k =
      ap (λ (a : Answer (List ℕ)). a.number)
      (closed m e f v.sections v.form (record { viewport = v.viewport; records = v.records; order = v.order; kept = k }))

pub exact-to-two : ExactToTwo
exact-to-two m ws n r =
    let f = in-edition One ws in
    let s = roomy m Two f n r in (
      λ h. valid-of m Two f (done-of m Two f (rw s at h)),
      λ v. rw s (is-done m Two f v (kept-in-two v.sections (seven One v.sections (parts One ws v.sections v.form).shape))),
    )

pub exact-to-one : ExactToOne
exact-to-one m ws n r =
    let f = in-edition Two ws in
    let s = roomy m One f n r in
    let panels : (ss : List (List (List ℕ))) → parsed f ≡ Some ss → all-kept (shape One) ss ≡ no-panels (recording ss) =
    λ ss p. kept-in-one ss (seven Two ss (parts Two ws ss p).shape) in (
      λ h.
          let o = done-of m One f (rw s at h) in
          record { valid = valid-of m One f o; panels = sym (panels o.sections o.form) ∙ o.judged.kept },
      λ v. rw s (is-done m One f v.valid (panels v.valid.sections v.valid.form ∙ v.panels)),
    )
