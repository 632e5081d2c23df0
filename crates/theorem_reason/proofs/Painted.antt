-- Reasons beside painting: what the picture has a tile receive is what its reasons say.
use Rattle.std.proofs.Common.{sym, subst, List}
use Rattle.rules.specs.Painting.{Entry}
use Rattle.rules_picture.proofs.CompactedFollows.{compacted-picture}
use Rattle.theorem_reason.specs.Reasons.{Listed, Unlisted, Reason-painted}
use Rattle.theorem_reason.proofs.Reasons.{shown-exact, not-shown}

pub reason-painted : Reason-painted
reason-painted f xs k g b e ts r t h on fin a =
    let same = sym (compacted-picture f xs k b e ts r t h on fin) in
    record {
      shown = λ p q z. subst (λ (es : List Entry). Listed a p q es) same ((shown-exact f xs k.screen g b r t a p q).0 z);
      other = λ n. subst (λ (es : List Entry). Unlisted a es) same (not-shown f xs k.screen g b r t a n);
    }
