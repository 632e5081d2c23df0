-- A filter layer's pixmap in a file, a picture's handle + 1 or 0 for none, and the choice that it says are the same both ways. Assumes nothing.
use Rattle.std.proofs.Common.{refl, None, Some, zero, suc}
use Rattle.rules.specs.Words.{PixmapsReadBack, PixmapsWrittenBack}

pub read_back : PixmapsReadBack
read_back None = refl
read_back (Some h) = refl

pub written_back : PixmapsWrittenBack
written_back zero = refl
written_back (suc h) = refl
