-- The code's reasons, questions, marks and searches as the definitions'.
use Rattle.rules_reason.specs.Reasons as rule
use Rattle.tile.specs.declared.reason.Reason.{Reason}
use Rattle.tile.specs.declared.reason.Reason.TheVariants as said
use Rattle.tile.specs.declared.reason.Asked.{Asked}
use Rattle.tile.specs.declared.reason.Mark.{Mark}
use Rattle.tile.specs.declared.reason.Search.{Search}
use Rattle.tile.specs.Reading as reading
use Rattle.tile.specs.Standings.{standing_number}

abbrev pub reason-of : Reason → rule.Reason
reason-of said.UnknownAttribute = rule.unknown-attribute
reason-of (said.NoSegment q) = rule.no-segment q
reason-of (said.CutAway q) = rule.cut-away q
reason-of (said.RowUntouched q) = rule.row-untouched q
reason-of (said.HiddenBy h) = rule.hidden-by h.attribute h.hider_panel h.panel
reason-of (said.ShownAt s) = rule.shown-at s.place s.panel

abbrev pub asked_of : Asked → rule.Asked
asked_of a = record { layer = a.layer; attribute = a.attribute }

abbrev pub mark_of : Mark → reading.Mark
mark_of m = record { layer = m.layer; attribute = m.attribute; standing = standing_number m.standing; panel = m.panel }

abbrev pub search-of : Search → reading.Search
search-of s =
    record {
      found = s.found;
      standing = standing_number s.standing;
      place = s.place;
      hidden = s.hidden;
      count = s.count;
      hider = record { attribute = s.hider; panel = s.hider_panel };
      panel = s.panel;
    }
