-- Texts that stand first, one after the other. Assumes nothing.
use Rattle.std.proofs.Common.{◌≡◌, refl, sym, List, ◌++◌, append_assoc, ℕ, ◌+◌, ◌≤◌, arith, length, take, drop, length-append, length-drop, take_at, drop_at, drop-drop}
use Rattle.text_files.specs.Programs.{first}
use Rattle.text_dump.specs.Dumped.{Part, after}

module _ (ts bs : List ℕ) where
  pub first_taken : take (length ts) (first ts bs) ≡ ts
  first_taken = take_at ts _ (length ts) refl

  pub first-dropped : drop (length ts) (first ts bs) ≡ drop (length ts) bs
  first-dropped = drop_at ts _ (length ts) refl

  pub first-long : length ts ≤ length bs → length (first ts bs) ≡ length bs
  first-long h = rw (length-append ts, length-drop) (omega arith)

  -- a text after a text
  pub first_two : (us : List ℕ) → take (length ts) (first ts bs) ++ first us (drop (length ts) (first ts bs)) ≡ first (ts ++ us) bs
  first_two us =
      rw (first_taken, first-dropped, drop-drop (length us) (length ts) bs, length-append ts us, append_assoc ts us)

-- what a part has written: the text stands first
pub record Says (ts bs : List ℕ) (q : Part) : Type 0 where
  pub count : q.count ≡ length ts
  pub bytes : q.bytes ≡ first ts bs

pub after-says : (ts us bs : List ℕ) (q : Part) → Says us (drop (length ts) (first ts bs)) q → Says (ts ++ us) bs (after (length ts) (first ts bs) q)
after-says ts us bs q h =
    record {
      count = rw h.count (sym (length-append ts us));
      bytes = rw h.bytes (first_two ts bs us);
    }

-- room for what is left
pub room-left : (ts us bs : List ℕ) → length (ts ++ us) ≤ length bs → length us ≤ length (drop (length ts) (first ts bs))
room-left ts us bs h =
    let k : length ts + length us ≤ length bs = rw (length-append ts us) at h in
    rw (first-dropped ts bs, length-drop) (omega arith)
