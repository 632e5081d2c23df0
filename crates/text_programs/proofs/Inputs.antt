-- What reads take of an input whose bytes are known.
use Rattle.std.proofs.Common.{◌≡◌, ℕ, ◌+◌, ◌<◌, ◌≤◌, List, [], ◌++◌, length, take, drop, zero, suc, ◌∷◌, Option, Some, None, IfSome, refl, sym, ap, ◌∙◌, subst, arith, length-take-le, length-take, length-drop, drop-drop, drop_of_length-le, le-ltb, lt-ltb}
use Rattle.std.proofs.Math.Seq.{take-append-add}
use Rattle.std.proofs.lemmas.List.{take-append-le}
use Rattle.std.proofs.KnownBytes.{Consumes-trans}
use Rattle.std.specs.Io.KnownBytes.{Consumes, Keeps}
use borrow.Rule.Slice.PartMut.{put_mid}
use Rattle.text_programs.specs.Streams.{Takes, Skips, first_item, after_item, items}
use Rattle.text_programs.specs.Failures.{Loses}

-- n bytes were read into the end of a buffer whose first k had been read before
pub read_more : (a b c : Option (List ℕ)) (k m n : ℕ) (xs ys : List ℕ) → k ≤ length xs → n ≤ length ys → Consumes a b (take k xs) → Consumes b c (take n ys)
    → Consumes a c (take (k + n) (put_mid k m xs ys))
read_more a b c k m n xs ys h i p q = subst (Consumes a c) (sym joined) (Consumes-trans a b c _ _ p q)
  where
    joined : take (k + n) (put_mid k m xs ys) ≡ take k xs ++ take n ys
    joined = grind (arith, take-append-add, take-append-le, length-take-le)

-- what was taken was passed over
pub taken-skipped : (m n : ℕ) (a b : Option (List ℕ)) (ts : List ℕ) → n ≤ length ts → Takes m a b (take n ts) → Skips n a b
taken-skipped m n None b ts h t = tt
taken-skipped m n (Some bs) b ts h t =
    let taken : n ≡ length (take m bs) = sym (length-take-le n ts h) ∙ ap length t.0 in
    t.1 ∙ ap Some (dropped m bs ∙ ap (λ k. drop k bs) (sym taken))
  where
    dropped : (m : ℕ) (bs : List ℕ) → drop m bs ≡ drop (length (take m bs)) bs
    dropped m bs = grind (arith, length-take, drop_of_length-le)

pub skip_more : (i j k : ℕ) (a b c : Option (List ℕ)) → i ≡ j + k → Skips j a b → Skips k b c → Skips i a c
skip_more i j k None b c e p q = tt
skip_more i j k (Some bs) None c e p q = cc
skip_more i j k (Some bs) (Some cs) c e p q = grind (arith, drop-drop)

-- nothing was left to take, so that nothing is left to pass over
pub skip_end : (m n j k : ℕ) (z a b : Option (List ℕ)) (ts : List ℕ) → 0 < m → n ≡ 0 → Takes m a b (take n ts) → j ≤ k → Skips j z a → Skips k z b
skip_end m n j k None a b ts g e t i p = tt
skip_end m n j k (Some zs) None b ts g e t i p = cc
skip_end m n j k (Some zs) (Some bs) b ts g e t i p =
    let left : bs ≡ drop j zs = cc in
    let none : length bs ≡ 0 = omega (arith, length-take m bs, length-take n ts, ap length t.0) in
    let past : length zs ≤ k = omega (arith, length-drop j zs, ap length left) in
    t.1 ∙ ap Some (drop_of_length-le bs (omega arith) ∙ sym (drop_of_length-le zs past))

-- an input that a failed read left as it was, and that bytes were then read of
pub kept_consumes : (a b c : Option (List ℕ)) (bs : List ℕ) → Keeps a b → Consumes b c bs → Consumes a c bs
kept_consumes None b c bs k t = tt
kept_consumes (Some xs) None c bs k t = absurd k
kept_consumes (Some xs) (Some ys) None bs k t = absurd t
kept_consumes (Some xs) (Some ys) (Some zs) bs k t = sym k ∙ t

-- .. and more of it after that
pub gone_more : (n j m : ℕ) (a b c : Option (List ℕ)) → j + m ≤ n → Skips j a b → Loses m b c → Loses n a c
gone_more n j m a b c h p q = let few = q.1 in (j + q.0, omega arith, skip_more (j + q.0) j q.0 a b c refl p q.2)

-- too few bytes were left for k
pub short : (k n : ℕ) (a b : Option (List ℕ)) (ts : List ℕ) → n ≤ length ts → n < k → Takes k a b (take n ts) → IfSome a (λ bs. length bs < k)
short k n None b ts h i t = tt
short k n (Some bs) b ts h i t = omega (arith, length-take k bs, length-take n ts, ap length t.0)

-- .. so that no file is left in a stream
pub items-end : (k n : ℕ) (bs : List ℕ) → length bs < k → items k n bs ≡ []
unfolding items
items-end k zero bs h = refl
items-end k (suc n) bs h = rw (lt-ltb (length bs) k h)

pub items-none : (k : ℕ) (bs : List ℕ) → items k 0 bs ≡ []
unfolding items
items-none k bs = refl

pub items-more : (k n : ℕ) (bs : List ℕ) → k ≤ length bs → items k (suc n) bs ≡ first_item k bs ∷ items k n (after_item k bs)
unfolding items
items-more k n bs h = rw (le-ltb (length bs) k h)
