use Rattle.std.proofs.Common.{refl, sym, ◌∙◌, arith}
use Rattle.depth.proofs.Groups.{mended-next, mended-last}
use Rattle.depth.proofs.minima.mend_runs.Goals as goal

pub loop-n-init : goal.loop-n-init
loop-n-init c = λ k ws rs rest g e h m. refl

pub mend-requires : goal.mend-requires
mend-requires c =
    let some = c.requires.group (omega (arith, c.loop-n-test.true)) in
    let run = c.requires.runs _ c.loop-n-test.true in
    record { group = (some.0, c.loop-n.auto.minima ∙ some.1); range = (run.0, omega (arith, run.1, c.loop-n.auto.minima)) }

pub loop-n-preserved : goal.loop-n-preserved
loop-n-preserved c = λ k ws rs rest g e h m.
    let mended = c.mend.ensures k ws (c.loop-n.auto.minima ∙ g (omega (arith, c.loop-n-test.true))) (m _ c.loop-n-test.true) in
    sym (mended-next k _ _ ws _ rest rs _ (omega arith) e mended) ∙ c.loop-n.invariant k ws rs rest g e h m

pub returns : goal.returns
returns c = λ k ws rs rest g e h m. sym (mended-last k _ ws rs _ (omega arith)) ∙ c.loop-n.invariant k ws rs rest g e h m
