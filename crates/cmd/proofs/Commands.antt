-- Reading a command's words, tag by tag.
use Rattle.std.proofs.Common.{◌≡◌, Bool, ◌&&◌, None, Some, ℕ, eqb}
use Rattle.rules.specs.Commands.{paint-fill, layer-fill, push-buf, pop-buf}
use Rattle.cmd.specs.Reading.{word-span, good-span-word, good-alpha, only_if, command_of}

module _ (t s a i : ℕ) where
  module _ (b : Bool) where
    pub tag-1 : t ≡ 1 → (good-span-word 8192 s && eqb a 0) ≡ b → only_if b (paint-fill (word-span s) None i) ≡ command_of t s a i
    unfolding command_of
    tag-1 p q = rw (p, q)

    pub tag-2 : t ≡ 2 → (good-span-word 8192 s && good-alpha a s) ≡ b → only_if b (paint-fill (word-span s) (Some a) i) ≡ command_of t s a i
    unfolding command_of
    tag-2 p q = rw (p, q)

    pub tag-3 : t ≡ 3 → (good-span-word 8192 s && eqb a 0) ≡ b → only_if b (layer-fill (word-span s) None i) ≡ command_of t s a i
    unfolding command_of
    tag-3 p q = rw (p, q)

    pub tag-4 : t ≡ 4 → (good-span-word 8192 s && good-alpha a s) ≡ b → only_if b (layer-fill (word-span s) (Some a) i) ≡ command_of t s a i
    unfolding command_of
    tag-4 p q = rw (p, q)

    pub tag-5 : t ≡ 5 → (eqb s 0 && eqb a 0 && eqb i 0) ≡ b → only_if b (push-buf None) ≡ command_of t s a i
    unfolding command_of
    tag-5 p q = rw (p, q)

    pub tag-6 : (d : Bool) → t ≡ 6 → (good-span-word 8192 s && eqb a 0) ≡ b → eqb i 0 ≡ d
        → only_if (b && d) (push-buf (Some (word-span s))) ≡ command_of t s a i
    unfolding command_of
    tag-6 d p q r = rw (p, q, r)

    pub tag-7 : t ≡ 7 → (eqb s 0 && eqb a 0 && eqb i 0) ≡ b → only_if b pop-buf ≡ command_of t s a i
    unfolding command_of
    tag-7 p q = rw (p, q)
