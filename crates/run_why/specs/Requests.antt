-- What is asked by the arguments after the options.
use Rattle.std.specs.Prelude.{ℕ, Bool, true, false, if◌then◌else◌, List, [], ◌∷◌, codes, ⊤, Option, Some, None, bytes_eq, option_map}
use Rattle.text_programs.specs.Arguments.{number_of, read_arguments}
use Rattle.text_tiles.specs.declared.arguments.Request.{Request}
use Rattle.text_tiles.specs.declared.arguments.Request.TheVariants.{File}
use Rattle.text_tiles.specs.Requests.{place_of, request_of, IsOfFile, IsOfStream}
use Rattle.text_why.specs.declared.Question.{Question}
use Rattle.text_why.specs.declared.Question.TheVariants.{Every, One}
use Rattle.run_why.specs.declared.arguments.Ask.{Ask}

-- whether an attribute's kind is that of the layers
abbrev pub kind_of : List ℕ → Option Bool
kind_of w = if bytes_eq w (codes "draw") then Some false else (if bytes_eq w (codes "layer") then Some true else None)

-- about one attribute, by its kind and its number
abbrev pub question_of : List ℕ → List ℕ → Option Question
question_of kind n = elim (kind_of kind) [ Some layer ↦ option_map (λ a. One (record { layer = layer; attribute = a })) (number_of n) | None ↦ None ]

abbrev pub ask : Question → Request → Ask
ask q r = record { request = r; question = q }

-- a question about one attribute stands after the tile; every attribute is asked about where nothing does, and in a stream
abbrev pub ask_of : List (List ℕ) → Option Ask
ask_of [] = None
ask_of (w ∷ []) = option_map (ask Every) (request_of (w ∷ []))
ask_of (row ∷ tile ∷ []) = option_map (ask Every) (request_of (row ∷ tile ∷ []))
ask_of (row ∷ tile ∷ kind ∷ []) = None
ask_of (row ∷ tile ∷ kind ∷ n ∷ []) = elim (question_of kind n) [ Some q ↦ option_map (λ p. ask q (File p)) (place_of row tile) | None ↦ None ]
ask_of (row ∷ tile ∷ kind ∷ n ∷ w ∷ ws) = None

-- one file is asked about, or nothing is asked; a stream is asked about
abbrev pub AsksOfFile : List (List ℕ) → Type 0
AsksOfFile args = elim (ask_of (read_arguments false args).others) [ Some a ↦ IsOfFile a.request | None ↦ ⊤ ]

abbrev pub AsksOfStream : List (List ℕ) → Type 0
AsksOfStream args = elim (ask_of (read_arguments false args).others) [ Some a ↦ IsOfStream a.request | None ↦ ⊥ ]
