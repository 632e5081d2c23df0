-- The rules' recording that a file says.
use Rattle.std.specs.Prelude.{ℕ, ◌*◌, ◌<◌, ◌≡◌, List, length, get_or, Option, None, Some, Result, Ok, Err}
use Rattle.sizes.specs.declared.answers.Refusal.{Refusal}
use Rattle.sizes.specs.declared.answers.Refusal.TheVariants.{BadForm}
use Rattle.rules.specs.Recording as rule
use Rattle.rules.specs.Recording.{in-edition, parsed, recording}
use Rattle.file.specs.Layouts.{Fits}
use Rattle.rules.specs.Inputs as rules
use Rattle.rules.specs.Inputs.{Paint}
use Rattle.sizes.specs.declared.edition.Edition.{Edition}
use Rattle.sizes.specs.Editions.{draw-size}
use Rattle.inputs.specs.Inputs.{draw-of}
use Rattle.inputs.specs.Draws.{draw_at}
use Rattle.file.specs.Each.{each}
use Rattle.file.specs.Places.{paint_from, recorded}
use Rattle.file.specs.declared.recording.File.{File}
use Rattle.file.specs.declared.recording.Recording.{Recording}

-- the code's file as the rules'
abbrev pub file_of : File → rule.File
file_of f = in-edition f.edition f.words.now

abbrev pub held : Recording → rule.Recording
held r = recorded r.layout r.words.now

-- n paints of a list of its own, four words each
abbrev pub paints-in : List ℕ → ℕ → List Paint
paints-in ws n = each paint_from 4 ws 0 n

-- its sections lie within its words
abbrev pub FitsIn : Recording → Type 0
FitsIn r = Fits r.words.now r.layout

-- the recording of a file's sections, if it has any
abbrev pub recording_of : Option (List (List (List ℕ))) → Option rule.Recording
recording_of None = None
recording_of (Some ss) = Some (recording ss)

-- what is read of a file: its recording, or 3
abbrev pub HeldOf : rule.File → Result Recording Refusal → Type 0
HeldOf f (Ok r) = FitsIn r × (recording_of (parsed f) ≡ Some (held r))
HeldOf f (Err e) = (e ≡ BadForm) × (parsed f ≡ None)

-- the edition that its words are read in
abbrev pub edition-of : Recording → Edition
edition-of r = r.layout.edition

-- a list of its own of the recording's draws: which draw stands where
abbrev pub DrawsIn : Recording → List ℕ → Type 0
DrawsIn r ws =
    (i : ℕ) (d : rules.Draw) → i < length (held r).draws
    → draw-of (draw_at (edition-of r) ws (draw-size (edition-of r) * i)) ≡ get_or (held r).draws i d
