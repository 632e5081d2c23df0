-- One section of a file, by the lists of sizes that the code holds.
use Rattle.std.proofs.Common.{ℕ, ◌+◌, ◌-◌, ◌*◌, ◌≤◌, ◌<◌, arith, ◌≡◌, refl, sym, ap, ◌∙◌, true, false, ◌&&◌, List, [], ◌∷◌, ◌++◌, length, get_or, take, drop, map, length-append}
use Rattle.std.proofs.Common.{set, append_assoc, append-nil, drop-drop, length-set, length-take-le}
use Rattle.std.proofs.lemmas.List.{length-map, take_more_set, drop-set-lt, take-append-drop}
use Rattle.std.proofs.Math.Seq.{take-append_seam, drop-append_seam}
use Rattle.std.proofs.lemmas.Slice.{take-put_mid, drop-put_mid}
use borrow.Rule.Slice.PartMut.{put_mid}
use Rattle.sizes.specs.declared.edition.Edition.{Edition}
use Rattle.rules.specs.Lists.{every}
use Rattle.rules.specs.Recording.{shape, records, in-edition}
use Rattle.rules.specs.Conversions.{keeps, all-kept, resized, converted, written}
use Rattle.convert.specs.Written.{joined}
use Rattle.convert.specs.Sections.{sections_of, sizes-of}
use Rattle.convert.proofs.Records.{records-part, records-count, resized-count}
use Rattle.convert.proofs.Standing.{Standing, next, size, shape-next, words-few}

module _ {e : Edition} (f : Edition) {ws : List ℕ} {k at : ℕ} {old new : List ℕ} (h : k < 7) (t : Standing e ws k at) (p : old ≡ sizes-of (shape e)) (q : new ≡ sizes-of (shape f)) where
  abbrev n : ℕ
  n = get_or ws at 0

  abbrev from : ℕ
  from = get_or old k 0

  abbrev to : ℕ
  to = get_or new k 0

  abbrev ss : List (List (List ℕ))
  ss = sections_of (in-edition e ws)

  abbrev rs : List (List ℕ)
  rs = records from n (drop (at + 1) ws)

  pub there : at < length ws
  there = (next e ws k at h t).there

  pub few : n ≤ 4096
  few = (next e ws k at h t).few

  pub ends : at + 1 + n * from ≤ length ws
  ends = rw p (next e ws k at h t).ends

  pub more : Standing e ws (k + 1) (at + 1 + n * from)
  more = rw p (next e ws k at h t).more

  pub more-counted : Standing e ws (k + 1) (at + (1 + n * from))
  more-counted = let a : at + 1 + n * from ≡ at + (1 + n * from) = omega arith in rw a at more

  left-next : drop k ss ≡ rs ∷ drop (k + 1) ss
  left-next = rw p (next e ws k at h t).here

  -- the section as it is cut out
  pub part : records from n (take (at + 1 + n * from - (at + 1)) (drop (at + 1) ws)) ≡ rs
  part = let g : at + 1 + n * from - (at + 1) ≡ n * from = omega arith in rw g (records-part from n (drop (at + 1) ws))

  pub kept-next : all-kept (drop k (shape f)) (drop k ss) ≡ (every (keeps to) rs && all-kept (drop (k + 1) (shape f)) (drop (k + 1) ss))
  unfolding all-kept
  kept-next = rw (shape-next f k h, left-next, q) refl

  -- what the test of the section says of all from here on
  pub kept-not : every (keeps to) (records from n (take (at + 1 + n * from - (at + 1)) (drop (at + 1) ws))) ≡ false → all-kept (drop k (shape f)) (drop k ss) ≡ false
  kept-not g = kept-next ∙ rw (rw part at g)

  pub kept-still : every (keeps to) (records from n (take (at + 1 + n * from - (at + 1)) (drop (at + 1) ws))) ≡ true
      → all-kept (drop (k + 1) (shape f)) (drop (k + 1) ss) ≡ all-kept (drop k (shape f)) (drop k ss)
  kept-still g = sym (kept-next ∙ rw (rw part at g))

  -- what is written from here on
  pub written-next : written (converted (drop k (shape f)) (drop k ss)) ≡ (n ∷ joined (map (resized to) rs)) ++ written (converted (drop (k + 1) (shape f)) (drop (k + 1) ss))
  unfolding converted
  written-next =
      let c : length (map (resized (size f k)) rs) ≡ n = length-map rs (resized (size f k)) ∙ records-count from n (drop (at + 1) ws) in
      let g : size f k ≡ to = rw q in
      rw (shape-next f k h, left-next, c) (ap (λ (m : ℕ). (n ∷ joined (map (resized m) rs)) ++ written (converted (drop (k + 1) (shape f)) (drop (k + 1) ss))) g)

  pub put-count : length (joined (map (resized to) rs)) ≡ n * to
  put-count = resized-count to rs ∙ rw (records-count from n (drop (at + 1) ws))

  -- how many words are counted, or still to come
  pub counted-next : (m all : ℕ) → m + length (written (converted (drop k (shape f)) (drop k ss))) ≡ all
      → m + (1 + n * to) + length (written (converted (drop (k + 1) (shape f)) (drop (k + 1) ss))) ≡ all
  counted-next m all g =
      let l = ap length written-next ∙ length-append (n ∷ joined (map (resized to) rs)) (written (converted (drop (k + 1) (shape f)) (drop (k + 1) ss))) in
      omega (arith, g, l, put-count)

  pub put-few : n * to ≤ 94208
  put-few = rw q (words-few f k n few)

  -- the section put, with its count before it
  module _ (put : ℕ) (out lent file : List ℕ) (i : put ≤ length out) (done : take put out ++ written (converted (drop k (shape f)) (drop k ss)) ≡ file) where
    pub room : length file ≤ length out → put + 1 + n * to ≤ length out
    room g =
        let a : length (take put out) ≡ put = length-take-le put out i in
        let l = ap length done in
        let m = length-append (take put out) (written (converted (drop k (shape f)) (drop k ss))) in
        let c = counted-next put (length file) (omega arith) in
        omega arith

    module _ (ys : List ℕ) (g : length file ≤ length out)
        (w : ys ≡ joined (map (resized to) (records from n (take (at + 1 + n * from - (at + 1)) (drop (at + 1) ws))))) where
      abbrev now : List ℕ
      now = put_mid (put + 1) (put + 1 + n * to - (put + 1)) (set out put n) ys

      long : length ys ≡ n * to
      long = rw (w, part) put-count

      pub put-done : take (put + 1 + n * to) now ++ written (converted (drop (k + 1) (shape f)) (drop (k + 1) ss)) ≡ file
      put-done =
          let r = room g in
          let s : length (set out put n) ≡ length out = length-set out put n in
          let a : take (put + 1 + n * to) now ≡ take (put + 1) (set out put n) ++ ys =
          take-put_mid (put + 1) (put + 1 + n * to - (put + 1)) (set out put n) ys (put + 1 + n * to) (omega (arith, long)) (omega arith) in
          let b : take (put + 1) (set out put n) ≡ take put out ++ (n ∷ []) = take_more_set out put n (omega arith) in
          let v : ys ≡ joined (map (resized to) rs) = rw part at w in
          rw (a, b, append_assoc (take put out ++ (n ∷ [])) ys, append_assoc (take put out) (n ∷ []), v) (rw written-next at done)

      pub put-stays : drop put out ≡ drop put lent → drop (put + 1 + n * to) now ≡ drop (put + 1 + n * to) lent
      put-stays e =
          let r = room g in
          let s : length (set out put n) ≡ length out = length-set out put n in
          let m : put + (1 + n * to) ≡ put + 1 + n * to = omega arith in
          let a = drop-put_mid (put + 1) (put + 1 + n * to - (put + 1)) (set out put n) ys (put + 1 + n * to) (omega arith) (omega arith) (omega (arith, long)) in
          let b = drop-set-lt (put + 1 + n * to) out put n (omega arith) in
          let c : drop (put + (1 + n * to)) out ≡ drop (put + (1 + n * to)) lent = rw (← drop-drop (1 + n * to) put out, ← drop-drop (1 + n * to) put lent, e) refl in
          a ∙ b ∙ rw m at c

-- nothing but the head is put
module _ (h out lent rest : List ℕ) (n : ℕ) (c : n ≡ length h) (e : out ≡ h ++ drop (length h) lent) where
  pub head-within : n ≤ length out
  head-within = rw (e, c) (omega (arith, length-append h (drop (length h) lent)))

  pub head-done : take n out ++ rest ≡ h ++ rest
  head-done = rw (e, c, take-append_seam h (drop (length h) lent)) refl

  pub head-stays : drop n out ≡ drop n lent
  head-stays = rw (e, c, drop-append_seam h (drop (length h) lent)) refl

-- all is put
pub all-put : (put : ℕ) (out lent file : List ℕ) → put ≤ length out → take put out ++ [] ≡ file → drop put out ≡ drop put lent → out ≡ file ++ drop (length file) lent
all-put put out lent file h g s =
    let a : take put out ≡ file = sym (append-nil (take put out)) ∙ g in
    let l : length file ≡ put = rw (← a) (length-take-le put out h) in
    rw (l, ← s, ← a) (sym (take-append-drop put out))
