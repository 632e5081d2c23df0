-- The programs read at most one byte more than the longest file has.
use Rattle.std.proofs.Common.{◌≡◌, ℕ, ◌+◌, ◌<◌, true, List, length, take, take_all, take-take, min, arith, length-take, leb, refl, sym, ap, subst, ◌∙◌, Bool, false, Option, None, Some, IfSome, Result, Ok, Err, OnOk, leb-true, leb-false}
use Rattle.std.specs.Io.KnownBytes.{Appends}
use Rattle.text_programs.specs.Streams.{Takes}
use Rattle.text_programs.specs.Failures.{Begins}

-- what is the same of all files of more than n bytes is the same of a file that is cut after one byte more
pub cut-at : (n : ℕ) {A : Type 0} (f : List ℕ → A) → ((xs ys : List ℕ) → n < length xs → n < length ys → f xs ≡ f ys) → (fs : List ℕ) → f (take (n + 1) fs) ≡ f fs
cut-at n f same fs = go (leb (length fs) (n + 1)) refl
  where
    go : (b : Bool) → leb (length fs) (n + 1) ≡ b → f (take (n + 1) fs) ≡ f fs
    go true e = ap f (take_all _ fs (leb-true _ _ e))
    go false e = same _ fs (omega (arith, length-take (n + 1) fs, leb-false _ _ e)) (omega (arith, leb-false _ _ e))

pub cut : {A : Type 0} (f : List ℕ → A) → ((xs ys : List ℕ) → 65536 < length xs → 65536 < length ys → f xs ≡ f ys) → (fs : List ℕ) → f (take 65537 fs) ≡ f fs
cut f = cut-at 65536 f

-- .. of its first bytes, as many as are read of it
pub read-cut : (room m size : ℕ) (bs : List ℕ) → m ≡ min size room → take m bs ≡ take room (take size bs)
read-cut room m size bs e = go (leb size room) refl
  where
    go : (b : Bool) → leb size room ≡ b → take m bs ≡ take room (take size bs)
    go true h =
        let all : m ≡ size = omega (arith, leb-true _ _ h) in
        ap (λ k. take k bs) all ∙ sym (take_all room (take size bs) (omega (arith, length-take size bs, leb-true _ _ h)))
    go false h =
        let most : m ≡ room = omega (arith, leb-false _ _ h) in
        ap (λ k. take k bs) most ∙ sym (take-take room size bs (omega (arith, leb-false _ _ h)))

-- what is printed of the first bytes of an input is printed of all, and so is a beginning of it
module _ {room : ℕ} (f : List ℕ → List ℕ) (same : (fs : List ℕ) → f (take room fs) ≡ f fs) (n : ℕ) (e : n ≡ room) (old new : Option (List ℕ)) (ts : List ℕ) where
  of_whole : (mid : Option (List ℕ)) (fs : List ℕ) → Takes n (Some fs) mid ts → f ts ≡ f fs
  of_whole mid fs t = ap f (t.0 ∙ ap (λ k. take k fs) e) ∙ same fs

  pub read_done : {E : Type 0} (r : Result (Unit {0}) E) (known mid : Option (List ℕ)) → Takes n known mid ts → OnOk r (Appends old new (f ts)) → OnOk r (IfSome known (λ fs. Appends old new (f fs)))
  read_done (Err x) known mid t p = tt
  read_done (Ok x) None mid t p = tt
  read_done (Ok x) (Some fs) mid t p = subst (Appends old new) (of_whole mid fs t) p

  pub read_begun : (known mid : Option (List ℕ)) → Takes n known mid ts → Begins old new (f ts) → IfSome known (λ fs. Begins old new (f fs))
  read_begun None mid t p = tt
  read_begun (Some fs) mid t p = subst (Begins old new) (of_whole mid fs t) p
