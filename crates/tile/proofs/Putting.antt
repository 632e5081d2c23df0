-- The entries of told lines, put in a list one line at a time. Assumes nothing.
use Rattle.std.proofs.Common.{◌≡◌, refl, sym, ap, ◌∙◌, true, false, List, [], ◌∷◌, ◌++◌, map, append-nil, ℕ, ◌+◌, ◌-◌, ◌*◌, ◌≤◌, ◌<◌, arith, length, length-append}
use Rattle.sizes.specs.Sizes.{piece-size}
use Rattle.cmd.specs.Attrs.{words-at}
use Rattle.cmd.specs.Pieces.{piece-words}
use Rattle.tile.specs.Listed.{line_at, lines-from, was-told, entry_of, piece-of, entries-laid, room-in}
use Rattle.tile.proofs.Told.{told-from, told_next, told-fewer}
use Rattle.tile.proofs.Laying.{list-long, next-entry}

module _ (ws : List ℕ) (t a : ℕ) (old : List ℕ) where
  -- the entries of the lines from a to i, k of them
  pub record PutTo (i k : ℕ) (list : List ℕ) : Type 0 where
    pub from : a ≤ i
    pub count : k ≡ length (told-from ws a i)
    pub entries : list ≡ entries-laid t (map entry_of (told-from ws a i)) old

  pub put-none : PutTo a 0 old
  unfolding lines-from
  put-none =
      let z : a - a ≡ 0 = omega arith in
      record { from = omega arith; count = rw z refl; entries = rw z refl }

  module _ (i k : ℕ) (list : List ℕ) (s : PutTo i k list) where
    module _ (u : was-told (line_at ws i) ≡ false) where
      none-more : told-from ws a (i + 1) ≡ told-from ws a i
      none-more = told_next ws a i s.from ∙ rw (u, append-nil (told-from ws a i)) refl

      pub put_same : PutTo (i + 1) k list
      put_same =
          record { from = omega (arith, s.from); count = s.count ∙ rw none-more refl; entries = s.entries ∙ rw none-more refl }

    module _ (u : was-told (line_at ws i) ≡ true) where
      one-more : told-from ws a (i + 1) ≡ told-from ws a i ++ line_at ws i ∷ []
      one-more = told_next ws a i s.from ∙ rw u refl

      counted : length (told-from ws a (i + 1)) ≡ k + 1
      counted = ap length one-more ∙ length-append (told-from ws a i) (line_at ws i ∷ []) ∙ rw (← s.count) refl

      module _ (n : ℕ) (h : i < n) (room : length (told-from ws a n) ≤ room-in old) where
        pub put-fits : piece-size * k + piece-size ≤ length list
        put-fits =
            let f = told-fewer ws a (i + 1) (omega (arith, s.from)) n (omega arith) in
            let long = list-long t (told-from ws a i) old (omega (arith, f, counted, s.count, room)) in
            omega (arith, f, counted, room, ap length s.entries, long)

      pub put_more : (new : List ℕ) → new ≡ words-at list (piece-size * k) (piece-words (piece-of t (entry_of (line_at ws i)))) → PutTo (i + 1) (k + 1) new
      put_more new e =
          record {
            from = omega (arith, s.from);
            count = sym counted;
            entries = e ∙ rw (s.entries, s.count, one-more) (next-entry t (told-from ws a i) old (line_at ws i));
          }
