-- The place is twice the bucket's number, less its set digits, and one word more for each group above it.
use Rattle.std.proofs.Common.{◌≡◌, ◌∙◌, ap, sym, suc, arith}
use lib.Count.{ones}
use Rattle.rules.proofs.laws.Minima.{half-is}
use Rattle.std.proofs.lemmas.Nat.{ones_le_self}
use Rattle.depth.proofs.Places.{half-same, leaf-sum, leaf-within, ones-half}
use Rattle.depth.proofs.minima.place_of.Goals as goal

pub overflow_mul-result : goal.overflow_mul-result
overflow_mul-result c = let g = c.requires.group in let h = half-is g.0 in omega (arith, g.1, g.2, c.ranges.room.fits)

pub overflow_sub-result : goal.overflow_sub-result
overflow_sub-result c = let f = ones_le_self c.args.bucket in omega arith

pub overflow_sub-result-2 : goal.overflow_sub-result-2
overflow_sub-result-2 c = let g = c.requires.group in let o : ones c.args.room ≡ suc g.0 = ap ones g.1 ∙ ones-half g.0 in omega arith

pub overflow_add-result : goal.overflow_add-result
overflow_add-result c =
    let g = c.requires.group in
    let o : ones c.args.room ≡ suc g.0 = ap ones g.1 ∙ ones-half g.0 in
    let f = ones_le_self c.args.bucket in
    let s = leaf-sum g.0 c.args.bucket g.2 in
    let w = leaf-within g.0 c.args.bucket g.2 in
    omega (arith, g.1, c.ranges.room.fits)

pub returns : goal.returns
returns c = λ k e.
    let g = c.requires.group in
    let q = half-same g.0 k (sym g.1 ∙ e) in
    let o : ones c.args.room ≡ suc k = ap ones e ∙ ones-half k in
    let f = ones_le_self c.args.bucket in
    let s = leaf-sum k c.args.bucket (rw q at g.2) in
    omega arith
