-- How many words of each table a file's screen needs.
use Rattle.std.proofs.Common.{◌≡◌, refl, sym, ◌∙◌, ap, ℕ, arith, true, List, Option, None, Some, Ok, Err, length, take, drop, min, le_refl, take_all}
use Rattle.std.proofs.lemmas.List.{drop_all}
use Rattle.sizes.specs.declared.answers.Refusal.{Refusal}
use Rattle.rules.specs.Boxes.{Box, good_viewport}
use Rattle.rules.specs.Recording.{Recording, File, parsed, recording}
use Rattle.rules.specs.Setups.{Setup, frame, viewport-in}
use Rattle.rect.specs.declared.Rect.{Rect}
use Rattle.rect.specs.Rects.{box_of, rect-of, seen}
use Rattle.rect.proofs.Snapping.{good-seen, bad-seen}
use Rattle.screen.specs.declared.lent.Lengths.{Lengths}
use Rattle.screen.specs.Tables.{Tables, lengths, ScreenLent, screen_lent}
use Rattle.depth.proofs.Places.{by-half}
use Rattle.file.specs.Held.{recording_of}
use Rattle.walk.specs.Recorded.{recorded}
use Rattle.tally.specs.Recordings.{bucketed, recorded-left}
use Rattle.tally.specs.Parts.{lengths-for, no-words, of-viewport, of-form, needed-words, cut, put-over, at-most}

pub bad-form : (f : File) (q : Setup) → parsed f ≡ None → no-words ≡ needed-words f q
unfolding needed-words
bad-form f q e = rw e refl

by-form : (o : Option (List (List (List ℕ)))) (r : Recording) (q : Setup) → recording_of o ≡ Some r → of-form o q ≡ of-viewport (frame q r.viewport)
by-form None r q e = let z : ◌≡◌ {A = ℕ} 0 1 = cc in absurd (omega arith)
by-form (Some ss) r q e = let z : recording ss ≡ r = cc in ap (λ (x : Recording). of-viewport (frame q x.viewport)) z

module _ (f : File) (q : Setup) (r : Recording) (g : recording_of (parsed f) ≡ Some r) (v : Rect) (b : box_of v ≡ r.viewport) where
  abbrev pub box : Box
  box = viewport-in q.mode (box_of v)

  said : needed-words f q ≡ of-viewport (frame q (box_of v))
  unfolding needed-words
  said = by-form (parsed f) r q g ∙ ap (λ (x : Box). of-viewport (frame q x)) (sym b)

  pub bad-view : (e : Refusal) → seen box ≡ Err e → no-words ≡ needed-words f q
  bad-view e h = let z = (bad-seen box e (sym h)).0 in sym (said ∙ rw z refl)

  module _ (u : Rect) (h : seen box ≡ Ok u) where
    seen-as : (good_viewport box ≡ true) × (u ≡ rect-of box)
    seen-as = good-seen box u (sym h)

    pub its-box : box_of u ≡ box
    its-box = ap box_of seen-as.1

    pub good : good_viewport (box_of u) ≡ true
    good = rw its-box seen-as.0

    pub its-words : (n : Lengths) → n ≡ lengths-for (record { viewport = box_of u; c = q.c; d = q.d; width = q.width }) → n ≡ needed-words f q
    its-words n e = e ∙ ap (λ (b : Box). lengths-for (record { viewport = b; c = q.c; d = q.d; width = q.width })) its-box ∙ sym (said ∙ rw seen-as.0 refl)

-- The first words, as many as there are at most, are as many as are asked for; so are the words after them.
module _ {A : Type 0} (n : ℕ) (xs : List A) where
  take-most : take (min n (length xs)) xs ≡ take n xs
  take-most =
      by-half n (length xs)
      (λ l. let e : min n (length xs) ≡ n = omega arith in rw e refl)
      (λ l. let e : min n (length xs) ≡ length xs = omega arith in rw e (take_all (length xs) xs (le_refl (length xs)) ∙ sym (take_all n xs l)))

  drop-most : drop (min n (length xs)) xs ≡ drop n xs
  drop-most =
      by-half n (length xs)
      (λ l. let e : min n (length xs) ≡ n = omega arith in rw e refl)
      (λ l. let e : min n (length xs) ≡ length xs = omega arith in rw e (drop_all (length xs) xs (le_refl (length xs)) ∙ sym (drop_all n xs l)))

cut-most : (n : Lengths) (t : Tables) → cut (at-most n (lengths t)) t ≡ cut n t
cut-most n t = simp take-most

put-most : (n : Lengths) (u t : Tables) → put-over (at-most n (lengths t)) u t ≡ put-over n u t
put-most n u t = simp drop-most

-- A recording is bucketed into as many words as there are at most.
module _ (f : File) (q : Setup) (l : ScreenLent) (n : Lengths) (e : n ≡ at-most (needed-words f q) (lengths l.tables)) where
  pub as-bucketed : recorded f q (screen_lent l.screen (cut n l.tables)) ≡ bucketed f q l
  unfolding bucketed
  as-bucketed = ap (λ (t : Tables). recorded f q (screen_lent l.screen t)) (ap (λ (m : Lengths). cut m l.tables) e ∙ cut-most (needed-words f q) l.tables)

  pub as-left : (m : ScreenLent) → m ≡ (bucketed f q l).value → screen_lent m.screen (put-over n m.tables l.tables) ≡ recorded-left f q l
  as-left m h =
      ap (λ (m : ScreenLent). screen_lent m.screen (put-over n m.tables l.tables)) h
      ∙ ap (screen_lent (bucketed f q l).value.screen)
      (ap (λ (k : Lengths). put-over k (bucketed f q l).value.tables l.tables) e ∙ put-most (needed-words f q) (bucketed f q l).value.tables l.tables)
