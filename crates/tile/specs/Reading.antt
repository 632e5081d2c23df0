-- A reason, read off the lines that were told of a tile: one pass over them.
use Rattle.std.specs.Prelude.{ℕ, zero, suc, ◌+◌, ◌*◌, Bool, true, false, ◌&&◌, not, cond, List, [], ◌∷◌, get_or, leb, eqb}
use Rattle.rules_reason.specs.Reasons.{Reason, unknown-attribute, no-segment, cut-away, row-untouched, shown-at, hidden, Hider, Asked}
use Rattle.sizes.specs.Sizes.{line-size}
use Rattle.tile.specs.Telling.{line-panel-at}

-- what a reason goes by of a line: layer (1) or draw (0), attribute, standing, panel
pub record Mark : Type 0 where
  pub layer : ℕ
  pub attribute : ℕ
  pub standing : ℕ
  pub panel : ℕ

unfoldable pub mark_at : List ℕ → ℕ → Mark
mark_at ws i =
    record {
      layer = get_or ws (line-size * i) 0;
      attribute = get_or ws (line-size * i + 1) 0;
      standing = get_or ws (line-size * i + 2) 0;
      panel = get_or ws (line-size * i + line-panel-at) 0;
    }

-- k lines from line i on
unfoldable pub marks : List ℕ → ℕ → ℕ → List Mark
marks ws i zero = []
marks ws i (suc k) = mark_at ws i ∷ marks ws (i + 1) k

-- What is known of the asked attribute after some lines. found: its line was there, with this standing, this panel and, where it was told, this place in
-- the tile's list; hidden: what hides it came later. count: how long the tile's list is so far; hider: the newest that hides
pub record Search : Type 0 where
  pub found : Bool
  pub standing : ℕ
  pub place : ℕ
  pub hidden : Bool
  pub count : ℕ
  pub hider : Hider
  pub panel : ℕ

abbrev pub no-search : Search
no-search =
    record {
      found = false;
      standing = 0;
      place = 0;
      hidden = false;
      count = 0;
      hider = record { attribute = 0; panel = 0 };
      panel = 0;
    }

abbrev pub is-asked : Asked → Mark → Bool
is-asked a m = eqb m.layer (cond a.layer 1 0) && eqb m.attribute a.attribute

abbrev pub is-told : Mark → Bool
is-told m = leb 3 m.standing

-- a line's attribute and panel, where it hides
abbrev pub hider-in : Mark → Hider
hider-in m = record { attribute = m.attribute; panel = m.panel }

-- a line that hides begins the tile's list anew
abbrev pub anew : Mark → Search → Search
anew m s =
    record {
      found = s.found;
      standing = s.standing;
      place = s.place;
      hidden = s.found;
      count = 0;
      hider = hider-in m;
      panel = s.panel;
    }

abbrev pub renewed : Mark → Search → Search
renewed m s = cond (eqb m.standing 4) (anew m s) s

-- the asked attribute's line, the first of them
abbrev pub found-now : Mark → Search → Search
found-now m s =
    record {
      found = true;
      standing = m.standing;
      place = s.count;
      hidden = false;
      count = s.count;
      hider = s.hider;
      panel = m.panel;
    }

abbrev pub met : Asked → Mark → Search → Search
met a m s = cond (is-asked a m && not s.found) (found-now m s) s

-- a line that was told is one more in the list
abbrev pub one_more : Search → Search
one_more s =
    record {
      found = s.found;
      standing = s.standing;
      place = s.place;
      hidden = s.hidden;
      count = s.count + 1;
      hider = s.hider;
      panel = s.panel;
    }

abbrev pub counted : Mark → Search → Search
counted m s = cond (is-told m) (one_more s) s

abbrev pub read : Asked → Mark → Search → Search
read a m s = counted m (met a m (renewed m s))

unfoldable pub read_all : Asked → Search → List Mark → Search
read_all a s [] = s
read_all a s (m ∷ ms) = read_all a (read a m s) ms

-- the first that holds
abbrev pub reason-by : Search → Reason
reason-by s =
    cond (not s.found) unknown-attribute
    (cond (eqb s.standing 0) (no-segment s.panel)
    (cond (eqb s.standing 1) (cut-away s.panel)
    (cond (eqb s.standing 2) (row-untouched s.panel)
    (cond s.hidden (hidden s.hider s.panel) (shown-at s.place s.panel)))))

-- the reason that the first n lines give
unfoldable pub reason-read : Asked → List ℕ → ℕ → Reason
reason-read a ws n = reason-by (read_all a no-search (marks ws 0 n))
