-- A good viewport has few minima.
use Rattle.std.proofs.Common.{arith}
use Rattle.host.proofs.Sized.{few-minima-of}
use Rattle.host.proofs.lengths.put_lengths_of.Goals as goal

pub overflow_mul-n-4 : goal.overflow_mul-n-4
overflow_mul-n-4 c =
    let few = few-minima-of c.args.screen c.requires in
    rw (c.minima_room.ensures, c.rows-n.ensures, c.buckets-b.ensures) (omega (arith, few))
