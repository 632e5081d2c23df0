-- One file of a stream, and all of them: what is written, also where it ends early.
use Rattle.std.proofs.Common.{◌≡◌, ℕ, suc, ◌+◌, ◌-◌, ◌^◌, ◌<◌, ◌≤◌, min, Bool, true, false, List, [], ◌++◌, length, take, drop, drop-drop, take_all, length-take, Option, None, Some, Result, Ok, Err, IfErr, IfSome, IsSomeAnd, MatchBool, if◌then◌else◌, nat_lt, refl, sym, ap, subst, ◌∙◌, arith, leb, ◌∷◌, append_assoc, append-nil, length-append, take_at, le-ltb, lt-ltb, leb-true, leb-false}
use Rattle.std.proofs.lemmas.List.{take-append-drop}
use Rattle.std.proofs.KnownBytes.{Appends-trans, Appends-nil}
use Rattle.std.specs.Io.KnownBytes.{Appends}
use Rattle.text_programs.specs.Streams.{Takes, Skips, Item, short, word_at, first_item, after_item, front_printed, items, printed_from, stream_printed, PrintsFirst}
use Rattle.text_programs.specs.Failures.{Begins}
use Rattle.text_programs.proofs.Inputs.{items-end, items-none, items-more}
use Rattle.text_programs.proofs.Cut.{read-cut}
use Rattle.text_programs.proofs.Outputs.{nothing_begun}

-- a text and no more was written: that is a beginning of a longer one
pub begins_of : (a c : Option (List ℕ)) (x y : List ℕ) → Appends a c x → Begins a c (x ++ y)
begins_of a c x y p = (length x, subst (Appends a c) (sym (take_at x y (length x) refl)) p)

pub begins_all : (a c : Option (List ℕ)) (x : List ℕ) → Appends a c x → Begins a c x
begins_all a c x p = (length x, subst (Appends a c) (sym (take_all (length x) x (omega arith))) p)

-- a beginning of a text was written, or a text and then a beginning of another: that is a beginning of both
pub begins_more : (a c : Option (List ℕ)) (x y : List ℕ) → Begins a c x → Begins a c (x ++ y)
begins_more a c x y p =
    let n = p.0 in
    let all : take n x ++ (drop n x ++ y) ≡ x ++ y = sym (append_assoc (take n x) (drop n x) y) ∙ ap (λ t. t ++ y) (take-append-drop n x) in
    subst (Begins a c) all (begins_of a c (take n x) (drop n x ++ y) p.1)

-- a text, and then a beginning of another
pub begins_after : (a b c : Option (List ℕ)) (done front tail : List ℕ) → Appends a b done → Begins b c front → Begins a c (done ++ (front ++ tail))
begins_after a b c done front tail p q =
    let n = q.0 in
    let x = take n front in
    let whole : (done ++ x) ++ (drop n front ++ tail) ≡ done ++ (front ++ tail) =
    append_assoc done x (drop n front ++ tail) ∙ ap (λ t. done ++ t) (sym (append_assoc x (drop n front) tail) ∙ ap (λ t. t ++ tail) (take-append-drop n front)) in
    subst (Begins a c) whole (begins_of a c (done ++ x) (drop n front ++ tail) (Appends-trans a b c done x p q.1))

-- a whole head was read
headed : (k n : ℕ) (mid : Option (List ℕ)) (h bs : List ℕ) → k ≡ length h → n ≤ length h → (n < k → ⊥) → Takes k (Some bs) mid (take n h) → (k ≤ length bs) × (h ≡ take k bs)
headed k n mid h bs e f g t =
    let all : take n h ≡ h = take_all n h (omega (arith, e, f, g)) in
    let same : h ≡ take k bs = sym all ∙ t.0 in
    (omega (arith, length-take k bs, ap length same, e), same)

front_there : (one : ℕ → Item → List ℕ) (k i : ℕ) (bs : List ℕ) → k ≤ length bs → front_printed one k i bs ≡ one i (first_item k bs)
front_there one k i bs h = rw (le-ltb (length bs) k h)

module _ (one : ℕ → Item → List ℕ) (room : ℕ) (cut : (i : ℕ) (x : Item) → one i (short room x) ≡ one i x) (k i m n : ℕ) (mid rest : Option (List ℕ)) (h ts : List ℕ)
    (e : k ≡ length h) (f : n ≤ length h) (g : n < k → ⊥) (w : m ≡ min (word_at h 0) room) (read : Takes m mid rest ts) where
  item_read : (bs : List ℕ) → h ≡ take k bs → ts ≡ take m (drop k bs) → one i (record { head = h; file = ts }) ≡ one i (first_item k bs)
  item_read bs p t =
      ap (one i) (ap (λ fs. record { head = h; file = fs }) (t ∙ read-cut room m (word_at h 0) (drop k bs) w) ∙ ap (λ hs. record { head = hs; file = take room (take (word_at hs 0) (drop k bs)) }) p)
      ∙ cut i (first_item k bs)

  taken_of : (bs : List ℕ) → mid ≡ Some (drop k bs) → (ts ≡ take m (drop k bs)) × (rest ≡ Some (drop m (drop k bs)))
  taken_of bs p = subst (λ (o : Option (List ℕ)). Takes m o rest ts) p read

  -- a beginning of its answer was written
  pub front_begun : (known a b : Option (List ℕ)) → Takes k known mid (take n h) → Begins a b (one i (record { head = h; file = ts })) → IfSome known (λ bs. Begins a b (front_printed one k i bs))
  front_begun None a b t p = tt
  front_begun (Some bs) a b t p =
      let r = headed k n mid h bs e f g t in
      subst (Begins a b) (item_read bs r.1 (taken_of bs t.1).0 ∙ sym (front_there one k i bs r.0)) p

  -- its whole answer was, and the file is passed over
  pub front_done : (j : ℕ) (known new a b : Option (List ℕ)) → j ≡ word_at h 0 - room → Takes k known mid (take n h) → Appends a b (one i (record { head = h; file = ts })) → Skips j rest new
      → IfSome known (λ bs. (k ≤ length bs) × (new ≡ Some (after_item k bs)) × Appends a b (one i (first_item k bs)))
  front_done j None new a b q t p s = tt
  front_done j (Some bs) new a b q t p s =
      let r = headed k n mid h bs e f g t in
      let there = taken_of bs t.1 in
      let skipped : new ≡ Some (drop j (drop m (drop k bs))) = subst (λ (o : Option (List ℕ)). Skips j o new) there.1 s in
      let all : m + j ≡ word_at h 0 = omega (arith, w, q) in
      let over : drop j (drop m (drop k bs)) ≡ drop (word_at h 0) (drop k bs) = drop-drop j m (drop k bs) ∙ ap (λ x. drop x (drop k bs)) all in
      (r.0, skipped ∙ ap Some (over ∙ ap (λ hs. drop (word_at hs 0) (drop k bs)) r.1), subst (Appends a b) (item_read bs r.1 there.0) p)

printed_append : (one : ℕ → Item → List ℕ) (j n : ℕ) (xs ys : List Item) → n ≡ j + length xs → printed_from one j (xs ++ ys) ≡ printed_from one j xs ++ printed_from one n ys
printed_append one j n [] ys e =
    let same : j ≡ n = omega (arith, e) in
    ap (λ m. printed_from one m ys) same
printed_append one j n (x ∷ xs) ys e =
    ap (λ t. one j x ++ t) (printed_append one (suc j) n xs ys (omega (arith, e)))
    ∙ sym (append_assoc (one j x) (printed_from one (suc j) xs) (printed_from one n ys))

-- Of a stream: its first i files xs are answered, and those that are still to come
abbrev pub Written : (ℕ → Item → List ℕ) → ℕ → ℕ → Option (List ℕ) → Option (List ℕ) → Option (List ℕ) → Option (List ℕ) → Type 0
Written one k i known rest a b =
    IfSome known (λ stream. IsSomeAnd rest (λ bs. (xs : List Item) × Appends a b (printed_from one 0 xs) × (items k (2 ^ 64 - 1) stream ≡ xs ++ items k (2 ^ 64 - 1 - i) bs) × (length xs ≡ i)))

-- .. as text
abbrev Done : (ℕ → Item → List ℕ) → ℕ → ℕ → List ℕ → List ℕ → Option (List ℕ) → Option (List ℕ) → Type 0
Done one k i stream bs a b = (done : List ℕ) × Appends a b done × (stream_printed one k stream ≡ done ++ printed_from one i (items k (2 ^ 64 - 1 - i) bs))

as-done : (one : ℕ → Item → List ℕ) (k i : ℕ) (stream bs : List ℕ) (a b : Option (List ℕ))
    → ((xs : List Item) × Appends a b (printed_from one 0 xs) × (items k (2 ^ 64 - 1) stream ≡ xs ++ items k (2 ^ 64 - 1 - i) bs) × (length xs ≡ i)) → Done one k i stream bs a b
as-done one k i stream bs a b p =
    let text : stream_printed one k stream ≡ printed_from one 0 p.0 ++ printed_from one i (items k (2 ^ 64 - 1 - i) bs) =
    ap (printed_from one 0) p.2 ∙ printed_append one 0 i p.0 (items k (2 ^ 64 - 1 - i) bs) (omega (arith, p.3)) in
    (printed_from one 0 p.0, p.1, text)

from_there : (one : ℕ → Item → List ℕ) (k i : ℕ) (bs : List ℕ) → i < 2 ^ 64 - 1 → k ≤ length bs
    → printed_from one i (items k (2 ^ 64 - 1 - i) bs) ≡ one i (first_item k bs) ++ printed_from one (suc i) (items k (2 ^ 64 - 1 - (i + 1)) (after_item k bs))
from_there one k i bs h q =
    let M = 2 ^ 64 - 1 in
    let n : M - i ≡ suc (M - (i + 1)) = omega arith in
    ap (λ j. printed_from one i (items k j bs)) n ∙ ap (printed_from one i) (items-more k (M - (i + 1)) bs q)

module _ (one other : ℕ → Item → List ℕ) (same : (j : ℕ) (x : Item) → other j x ≡ one j x) (k i : ℕ) where
  pub one_more : (m : Bool) (known rest new a b c : Option (List ℕ)) (P : List ℕ → Type 0) → m ≡ true → i < 2 ^ 64 - 1 → Written one k i known rest a b
      → IfSome rest (λ bs. MatchBool m ((k ≤ length bs) × (new ≡ Some (after_item k bs)) × Appends b c (other i (first_item k bs))) (P bs))
      → Written one k (i + 1) known new a c
  one_more false known rest new a b c P e h p q = absurd cc
  one_more true None rest new a b c P e h p q = tt
  one_more true (Some stream) None new a b c P e h p q = absurd p
  one_more true (Some stream) (Some bs) new a b c P e h p q =
      let M = 2 ^ 64 - 1 in
      let x = first_item k bs in
      let n : M - i ≡ suc (M - (i + 1)) = omega arith in
      let rest : items k (M - i) bs ≡ x ∷ items k (M - (i + 1)) (after_item k bs) = ap (λ j. items k j bs) n ∙ items-more k (M - (i + 1)) bs q.0 in
      let all : items k M stream ≡ (p.0 ++ (x ∷ [])) ++ items k (M - (i + 1)) (after_item k bs) =
      p.2 ∙ ap (λ ys. p.0 ++ ys) rest ∙ sym (append_assoc p.0 (x ∷ []) (items k (M - (i + 1)) (after_item k bs))) in
      let text : printed_from one 0 (p.0 ++ (x ∷ [])) ≡ printed_from one 0 p.0 ++ one i x =
      printed_append one 0 i p.0 (x ∷ []) (omega (arith, p.3)) ∙ ap (λ t. printed_from one 0 p.0 ++ t) (append-nil (one i x)) in
      let wrote : Appends b c (one i x) = subst (Appends b c) (same i x) q.2 in
      let many : length (p.0 ++ (x ∷ [])) ≡ i + 1 = length-append p.0 (x ∷ []) ∙ ap (λ j. j + 1) p.3 in
      subst
      (λ (o : Option (List ℕ)). IsSomeAnd o (λ cs. (xs : List Item) × Appends a c (printed_from one 0 xs) × (items k (2 ^ 64 - 1) stream ≡ xs ++ items k (2 ^ 64 - 1 - (i + 1)) cs) × (length xs ≡ i + 1)))
      (sym q.1)
      (p.0 ++ (x ∷ []), subst (Appends a c) (sym text) (Appends-trans a b c (printed_from one 0 p.0) (one i x) p.1 wrote), all, many)

  front-same : (bs : List ℕ) → front_printed other k i bs ≡ front_printed one k i bs
  front-same bs = go (nat_lt (length bs) k)
    where
      go : (t : Bool) → (if t then [] else other i (first_item k bs)) ≡ (if t then [] else one i (first_item k bs))
      go true = refl
      go false = same i (first_item k bs)

  -- a file's answer ended early
  pub cut_off : (known rest a b c : Option (List ℕ)) → i < 2 ^ 64 - 1 → Written one k i known rest a b → IfSome rest (λ bs. Begins b c (front_printed other k i bs))
      → IfSome known (λ stream. Begins a c (stream_printed one k stream))
  cut_off None rest a b c h p q = tt
  cut_off (Some stream) None a b c h p q = absurd p
  cut_off (Some stream) (Some bs) a b c h p q = subst (Begins a c) (sym (done.2)) (go (leb k (length bs)) refl)
    where
      done : Done one k i stream bs a b
      done = as-done one k i stream bs a b p

      begun : Begins b c (front_printed one k i bs)
      begun = subst (Begins b c) (front-same bs) q

      go : (t : Bool) → leb k (length bs) ≡ t → Begins a c (done.0 ++ printed_from one i (items k (2 ^ 64 - 1 - i) bs))
      go true e =
          let le = leb-true _ _ e in
          subst (Begins a c) (ap (λ t. done.0 ++ t) (sym (from_there one k i bs h le)))
          (begins_after a b c done.0 (one i (first_item k bs)) _ done.1 (subst (Begins b c) (front_there one k i bs le) begun))
      go false e =
          let lt = leb-false _ _ e in
          let nothing : front_printed one k i bs ≡ [] = rw (lt-ltb (length bs) k lt) in
          let none_left : printed_from one i (items k (2 ^ 64 - 1 - i) bs) ≡ [] = ap (printed_from one i) (items-end k (2 ^ 64 - 1 - i) bs lt) in
          subst (Begins a c) (ap (λ t. done.0 ++ t) (sym none_left))
          (begins_after a b c done.0 [] [] done.1 (subst (Begins b c) nothing begun))

module _ (one : ℕ → Item → List ℕ) (k i : ℕ) where
  -- nothing is left
  all_done : (stream bs : List ℕ) (a b : Option (List ℕ)) → items k (2 ^ 64 - 1 - i) bs ≡ [] → (done : List ℕ) × Appends a b done × (stream_printed one k stream ≡ done ++ printed_from one i (items k (2 ^ 64 - 1 - i) bs))
      → Appends a b (stream_printed one k stream)
  all_done stream bs a b e p =
      subst (Appends a b) (sym (p.2 ∙ ap (λ (xs : List Item). p.0 ++ printed_from one i xs) e ∙ append-nil p.0)) p.1

  pub at_end : {O : Type 0} (contents : O → Option (List ℕ)) (x y : O) (m : Bool) (known rest a : Option (List ℕ)) (P : List ℕ → Type 0) → m ≡ false
      → Written one k i known rest a (contents x) → IfSome rest (λ bs. MatchBool m (P bs) ((length bs < k) × (y ≡ x)))
      → IfSome known (λ stream. Appends a (contents y) (stream_printed one k stream))
  at_end contents x y true known rest a P e p q = absurd cc
  at_end contents x y false None rest a P e p q = tt
  at_end contents x y false (Some stream) None a P e p q = absurd p
  at_end contents x y false (Some stream) (Some bs) a P e p q =
      subst (λ (o : Option (List ℕ)). Appends a o (stream_printed one k stream)) (ap contents (sym q.1)) (all_done stream bs a (contents x) (items-end k (2 ^ 64 - 1 - i) bs q.0) (as-done one k i stream bs a (contents x) p))

  pub all_counted : (known rest a b : Option (List ℕ)) → 2 ^ 64 - 1 ≤ i → Written one k i known rest a b → IfSome known (λ stream. Appends a b (stream_printed one k stream))
  all_counted None rest a b h p = tt
  all_counted (Some stream) None a b h p = absurd p
  all_counted (Some stream) (Some bs) a b h p =
      let n : 2 ^ 64 - 1 - i ≡ 0 = omega arith in
      all_done stream bs a b (ap (λ j. items k j bs) n ∙ items-none k bs) (as-done one k i stream bs a b p)

-- what was wholly written is begun
pub done_begun : (one : ℕ → Item → List ℕ) (k : ℕ) (known a b : Option (List ℕ)) → IfSome known (λ stream. Appends a b (stream_printed one k stream)) → IfSome known (λ stream. Begins a b (stream_printed one k stream))
done_begun one k None a b p = tt
done_begun one k (Some stream) a b p = begins_all a b (stream_printed one k stream) p

pub if_err : {T E P : Type 0} (r : Result T E) → P → IfErr r (λ _. P)
if_err (Ok x) p = tt
if_err (Err e) p = p

-- too few bytes were left, and nothing was printed
pub nothing_more : {P : Type 0} (k : ℕ) (known : Option (List ℕ)) → IfSome known (λ bs. length bs < k) → P → IfSome known (λ bs. (length bs < k) × P)
nothing_more k None h p = tt
nothing_more k (Some bs) h p = (h, p)

-- nothing was written where a call failed
pub none_begun : {T E : Type 0} (r : Result T E) (known a : Option (List ℕ)) (f : List ℕ → List ℕ) → IfErr r (λ _. IfSome known (λ bs. Begins a a (f bs)))
none_begun r known a f = if_err r (nothing_begun known a f)

-- .. none of a stream's files is answered
pub nothing_first : (one : ℕ → Item → List ℕ) (k : ℕ) (known a : Option (List ℕ)) → PrintsFirst one k known a a
nothing_first one k None a = tt
nothing_first one k (Some stream) a = ([], items k (2 ^ 64 - 1) stream, refl, Appends-nil a)
