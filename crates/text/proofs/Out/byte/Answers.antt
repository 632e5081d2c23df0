-- A byte is written where its place is among the bytes, and passed over where it is not.
use Rattle.std.proofs.Common.{◌≡◌, min, ◌+◌, rules}
use Rattle.std.proofs.Math.Nat.{min-eq_left}
use Rattle.std.proofs.lemmas.List.{set_past}
use Rattle.text.specs.Texts.{put}
use Rattle.text.proofs.Out.byte.Goals as goal

pub returns-then-self : goal.returns-then-self
unfolding put
returns-then-self c =
    let n : min (c.args.self.now.at + 1) 18446744073709551615 ≡ c.args.self.now.at + 1 = min-eq_left (search rules) in
    record { same = search rules; text = search (rules, n) }

pub returns-else-self : goal.returns-else-self
unfolding put
returns-else-self c =
    let e = set_past c.args.self.now.bytes.now c.args.self.now.at c.args.b c.if-self.false in
    record { same = search rules; text = search (rules, e) }
