use Rattle.std.proofs.Common.{◌≡◌, ◌-◌, refl, sym, arith, ap, ◌∙◌}
use Rattle.tile.specs.Reading.{Mark, Search, mark_at, no-search, read, reason-by, reason-read}
use Rattle.tile.specs.Reasons.{asked_of, search-of}
use Rattle.tile.specs.Standings.{plain_mark}
use Rattle.tile.proofs.Lines.{read_count, turned, ended}
use Rattle.tile.proofs.Plain.{plain-read, plain-reason}
use Rattle.tile.proofs.reason.reason_of.Goals as goal

pub loop-i-init : goal.loop-i-init
loop-i-init c = let all : c.args.n - 0 ≡ c.args.n = omega arith in (omega arith, no-search, refl, rw all)

pub loop-i-preserved : goal.loop-i-preserved
loop-i-preserved c = let args = c.args in
    let asked = asked_of args.asked in
    let known = c.loop-i.invariant.1 in
    let line = mark_at args.lines.now c.loop-i.i in
    let one = c.read_line-search.ensures ∙ ap (λ (m : Mark). read asked m (search-of c.loop-i.search)) c.mark_at.ensures in (
      omega (arith, read_count asked (plain_mark line) (search-of c.loop-i.search), ap (λ (s : Search). s.count) one),
      read asked line known,
      one ∙ ap (read asked (plain_mark line)) c.loop-i.invariant.2 ∙ sym (plain-read asked line known),
      turned asked args.lines.now args.n c.loop-i.i known (omega arith) c.loop-i.invariant.3,
    )

pub returns : goal.returns
unfolding reason-read
returns c = let args = c.args in
    let known = c.loop-i.invariant.1 in
    c.reason_by.ensures
    ∙ ap reason-by c.loop-i.invariant.2 ∙ plain-reason known
    ∙ ap reason-by (ended (asked_of args.asked) args.lines.now args.n c.loop-i.i known (omega arith) c.loop-i.invariant.3)
