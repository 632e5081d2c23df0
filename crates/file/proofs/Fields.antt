-- The fields of a record, as the code reads them.
use Rattle.std.proofs.Common.{ℕ, ◌+◌, add_assoc, ◌≡◌, List}
use Rattle.file.specs.Places.{clip_from, filter_from}
use Rattle.file.specs.Judging.{box_from}

module _ (ws : List ℕ) (p : ℕ) where
  pub clip-box : box_from ws (p + 8) ≡ (clip_from ws p).bounds
  unfolding box_from clip_from
  clip-box = simp add_assoc

  pub filter-box : box_from ws (p + 16) ≡ (filter_from ws p).dest
  unfolding box_from filter_from
  filter-box = simp add_assoc
