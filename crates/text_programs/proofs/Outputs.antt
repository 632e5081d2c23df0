-- What is written of a text where its writing ends early.
use Rattle.std.proofs.Common.{◌≡◌, ℕ, ◌+◌, ◌-◌, ◌≤◌, List, ◌++◌, length, take, drop, take_all, length-drop, length-take-le, Option, Some, None, IfSome, sym, ap, ◌∙◌, subst, arith}
use Rattle.std.proofs.Math.Seq.{take-append-add}
use Rattle.std.proofs.lemmas.List.{take-append-drop}
use Rattle.std.proofs.KnownBytes.{Appends-trans, Appends-nil}
use Rattle.std.specs.Io.KnownBytes.{Appends, Keeps}
use Rattle.text_programs.specs.Failures.{Begins}

-- an output that a failed write left as it was, and that bytes were then written to
pub kept_appends : (a b c : Option (List ℕ)) (bs : List ℕ) → Keeps a b → Appends b c bs → Appends a c bs
kept_appends None b c bs k t = tt
kept_appends (Some xs) None c bs k t = absurd k
kept_appends (Some xs) (Some ys) None bs k t = absurd t
kept_appends (Some xs) (Some ys) (Some zs) bs k t = t ∙ ap (λ qs. qs ++ bs) k

-- n bytes were written of what was left of a text after its first k
pub write_more : (a b c : Option (List ℕ)) (k n : ℕ) (ts : List ℕ) → k ≤ length ts → n ≤ length (take (length ts - k) (drop k ts)) → Appends a b (take k ts)
    → Appends b c (take n (take (length ts - k) (drop k ts))) → (k + n ≤ length ts) × Appends a c (take (k + n) ts)
write_more a b c k n ts h i p q =
    let rest : take (length ts - k) (drop k ts) ≡ drop k ts = take_all (length ts - k) (drop k ts) (omega (arith, length-drop k ts)) in
    let few : n ≤ length (drop k ts) = rw rest at i in
    let joined : take (k + n) ts ≡ take k ts ++ take n (take (length ts - k) (drop k ts)) = rw rest split in
    (omega (arith, length-drop k ts), subst (Appends a c) (sym joined) (Appends-trans a b c _ _ p q))
  where
    split : take (k + n) ts ≡ take k ts ++ take n (drop k ts)
    split = let q = take-append-add (take k ts) (drop k ts) n in rw (length-take-le k ts h, take-append-drop k ts) at q

-- nothing was written, so that a beginning of any text was
pub nothing_begun : (known a : Option (List ℕ)) (f : List ℕ → List ℕ) → IfSome known (λ bs. Begins a a (f bs))
nothing_begun None a f = tt
nothing_begun (Some bs) a f = (0, Appends-nil a)
