-- Where the sections of a recording file stand, and the records cut out there.
use Rattle.std.specs.Prelude.{ℕ, ◌+◌, ◌-◌, ◌*◌, ◌≤◌, ◌≡◌, Bool, true, false, ◌&&◌, List, [], ◌∷◌, length, get_or, drop, leb, ltb}
use Rattle.std.specs.Prelude.{Option, None, Some, Result, Ok, Err}
use Rattle.sizes.specs.Sizes.{most-records}
use Rattle.sizes.specs.Editions.{draw-size, layer-size}
use Rattle.sizes.specs.declared.edition.Edition.{Edition}
use Rattle.sizes.specs.declared.answers.Refusal.{Refusal}
use Rattle.sizes.specs.declared.answers.Refusal.TheVariants.{BadForm}
use Rattle.rules.specs.Recording.{shape, head, good-count, records, in-edition, parsed}
use Rattle.file.specs.declared.form.Section.{Section}
use Rattle.file.specs.declared.form.Layout.{Layout}

-- the section whose count stands at place p
abbrev pub section_from : List ℕ → ℕ → Section
section_from ws p = record { at = p + 1; count = get_or ws p 0 }

-- the place past a section of k words a record
abbrev pub past : ℕ → Section → ℕ
past k s = s.at + s.count * k

-- its count is good, and it lies within the words
unfoldable pub stands : ℕ → Bool → List ℕ → ℕ → Bool
stands k fixed ws p = ltb p (length ws) && (good-count fixed (get_or ws p 0) && leb (get_or ws p 0 * k) (length ws - (p + 1)))

abbrev pub found_if : Bool → Section → ℕ → Result (Section × ℕ) Refusal
found_if true s n = Ok (s, n)
found_if false s n = Err BadForm

abbrev pub section_at : ℕ → Bool → List ℕ → ℕ → Result (Section × ℕ) Refusal
section_at k fixed ws p = found_if (stands k fixed ws p) (section_from ws p) (past k (section_from ws p))

-- sections of a shape, one after the other from place p on
abbrev pub laid : List (ℕ × Bool) → List ℕ → ℕ → List Section
laid [] ws p = []
laid (s ∷ ss) ws p = section_from ws p ∷ laid ss ws (past s.0 (section_from ws p))

-- section i of a list of them
abbrev pub nth : List Section → ℕ → Section
nth xs i = get_or xs i (record { at = 0; count = 0 })

abbrev pub layout_of : Edition → List Section → Layout
layout_of e xs =
    record {
      edition = e;
      viewport = nth xs 0;
      paints = nth xs 1;
      segments = nth xs 2;
      draws = nth xs 3;
      layers = nth xs 4;
      nodes = nth xs 5;
      root = nth xs 6;
    }

-- the sections of a file, after its head
unfoldable pub layout : Edition → List ℕ → Layout
layout e ws = layout_of e (laid (shape e) ws (length (head e)))

abbrev pub formed : Option (List (List (List ℕ))) → Layout → Result Layout Refusal
formed None l = Err BadForm
formed (Some ss) l = Ok l

-- bad exactly where the rules find no sections
unfoldable pub form_of : Edition → List ℕ → Result Layout Refusal
form_of e ws = formed (parsed (in-edition e ws)) (layout e ws)

-- the records of a section, cut out of the words
abbrev pub cut : ℕ → List ℕ → Section → List (List ℕ)
cut k ws s = records k s.count (drop s.at ws)

unfoldable pub sections_at : Layout → List ℕ → List (List (List ℕ))
sections_at l ws =
    cut 4 ws l.viewport
    ∷ cut 4 ws l.paints
    ∷ cut 5 ws l.segments
    ∷ cut (draw-size l.edition) ws l.draws
    ∷ cut (layer-size l.edition) ws l.layers
    ∷ cut 3 ws l.nodes
    ∷ cut 2 ws l.root
    ∷ []

-- a section of k words a record lies within the words, and has at most 4,096 records
pub record Within (ws : List ℕ) (k : ℕ) (s : Section) : Type 0 where
  pub ends : s.at + s.count * k ≤ length ws
  pub few : s.count ≤ most-records

pub record Fits (ws : List ℕ) (l : Layout) : Type 0 where
  pub viewport : Within ws 4 l.viewport
  pub paints : Within ws 4 l.paints
  pub segments : Within ws 5 l.segments
  pub draws : Within ws (draw-size l.edition) l.draws
  pub layers : Within ws (layer-size l.edition) l.layers
  pub nodes : Within ws 3 l.nodes
  pub root : Within ws 2 l.root
  pub one-viewport : l.viewport.count ≡ 1
  pub one-root : l.root.count ≡ 1
