-- A good viewport has at most 512 rows, and few minima.
use Rattle.std.proofs.Common.{rules, arith}
use Rattle.screen.proofs.ScreenLaws.{few_rows}
use Rattle.host.proofs.Sized.{few-minima-of}
use Rattle.host.proofs.border.judge_lent.Goals as goal

pub is_good_rooms-requires : goal.is_good_rooms-requires
is_good_rooms-requires c = search (rules, few_rows)

pub overflow_mul-n-else-lent-n : goal.overflow_mul-n-else-lent-n
overflow_mul-n-else-lent-n c =
    let few = few-minima-of c.args.screen c.requires in
    rw (c.minima_room.ensures, c.rows-n.ensures, c.buckets-b.ensures) (omega (arith, few))
