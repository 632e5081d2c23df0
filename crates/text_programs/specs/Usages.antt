-- What a program's usage says.
use Rattle.std.specs.Prelude.{ℕ, List, [], ◌∷◌, ◌++◌, codes, flat_map}
use Rattle.std.specs.Fmt.{decimal}
use Rattle.sizes.specs.Refusals.{number_of, refusal_text}
use Rattle.sizes.specs.declared.answers.Refusal.{Refusal}
use Rattle.sizes.specs.declared.answers.Refusal.TheVariants as refusal

-- in the order of their numbers
abbrev pub refusals : List Refusal
refusals =
    refusal.BadArena ∷ refusal.BadViewport ∷ refusal.BadForm ∷ refusal.BadRecord ∷ refusal.BadOrder ∷ refusal.Deep ∷ refusal.NoLayer ∷ refusal.Ids ∷ refusal.FullAttrs
    ∷ refusal.FullRow ∷ refusal.FullDepth ∷ refusal.BadRun ∷ refusal.Open ∷ refusal.NoRoom ∷ refusal.HasPanels ∷ []

-- what a refusal's number stands for
abbrev pub refusal_line : Refusal → List ℕ
refusal_line r = codes "  " ++ (decimal (number_of r) ++ (codes ": " ++ (refusal_text r ++ (10 ∷ []))))

abbrev pub refusal_lines : List ℕ
refusal_lines = flat_map refusal_line refusals

-- the options that every program has that asks for a screen
abbrev pub screen_lines : List ℕ
screen_lines =
    codes "  --snap       read the viewport in snapping mode\n  --width N    N pixels a depth bucket: 64, 128 or 256; without it 128\n  --edition N  files of edition N, 1 or 2; without it 1\n"

-- the options that every program has, and the line before the refusals
abbrev pub common_lines : List ℕ
common_lines =
    codes "  --help       print this; so does -h; no other argument may stand beside it\n  --version    print the version, and the kit that it is proved with; likewise alone\nwhat `refused N` stands for:\n"

-- a program's usage, given how it is called, the options of its own, and those of a screen if it asks for one
abbrev pub usage_text : List ℕ → List ℕ → List ℕ → List ℕ
usage_text calls own screen = calls ++ (own ++ (screen ++ (common_lines ++ refusal_lines)))
