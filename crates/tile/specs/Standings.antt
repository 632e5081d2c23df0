-- How an attribute's step stands to the tile, as a word of its line.
use Rattle.std.specs.Prelude.{ℕ, cond, eqb, Option, None, Some, unwrap_or}
use Rattle.tile.specs.declared.steps.lines.Standing.{Standing}
use Rattle.tile.specs.declared.steps.lines.Standing.TheVariants.{NoSegment, CutAway, Untouched, Told, Hides}
use Rattle.tile.specs.Reading.{Mark}

abbrev pub standing_number : Standing → ℕ
standing_number NoSegment = 0
standing_number CutAway = 1
standing_number Untouched = 2
standing_number Told = 3
standing_number Hides = 4

-- the standing of a word; no other word is one
abbrev pub standing_in : ℕ → Option Standing
standing_in w =
    cond (eqb w 0) (Some NoSegment)
    (cond (eqb w 1) (Some CutAway) (cond (eqb w 2) (Some Untouched) (cond (eqb w 3) (Some Told) (cond (eqb w 4) (Some Hides) None))))

-- a word that is no standing goes for one that is told
abbrev pub plain_standing : ℕ → ℕ
plain_standing w = standing_number (unwrap_or (standing_in w) Told)

-- a mark, its standing read so
abbrev pub plain_mark : Mark → Mark
plain_mark m = record { layer = m.layer; attribute = m.attribute; standing = plain_standing m.standing; panel = m.panel }
