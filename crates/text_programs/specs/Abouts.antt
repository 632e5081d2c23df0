-- What a program says of itself: its usage, its version.
use Rattle.std.specs.Prelude.{ℕ, List, ◌++◌, codes, Option, Some, None}
use Rattle.text_programs.specs.declared.about.About.{About}
use Rattle.text_programs.specs.declared.about.About.TheVariants.{Usage, Version}
use Rattle.text_programs.specs.Usages.{usage_text}

-- the repository's version
abbrev pub version : List ℕ
version = codes "0.3.0"

-- the kit that it is proved with: its name and the sum of its logic
abbrev pub kit : List ℕ
kit = codes "rattle-kit-13f dac8208d650f15bf"

-- a program's line about its version, given its name
abbrev pub version_text : List ℕ → List ℕ
version_text program = program ++ (codes " " ++ (version ++ (codes " " ++ (kit ++ codes "\n"))))

-- what it says, given its name, how it is called, the options of its own, and those of a screen if it asks for one
abbrev pub about_text : List ℕ → List ℕ → List ℕ → List ℕ → About → List ℕ
about_text program calls own screen Usage = usage_text calls own screen
about_text program calls own screen Version = version_text program

-- what is printed: what a program is asked to say of itself, else what it answers
abbrev pub said_or : Option About → (About → List ℕ) → List ℕ → List ℕ
said_or (Some a) said ts = said a
said_or None said ts = ts
