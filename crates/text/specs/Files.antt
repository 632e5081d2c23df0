-- The text of a recording file: what `rowlist` prints of it, and what its words leave in the lent tables.
use Rattle.std.specs.Prelude.{Option, None, Some, Result, Ok, Err, ℕ, ◌*◌, ◌%◌, ◌≡◌, Bool, true, false, ◌&&◌, cond, List, length, replicate, leb, eqb, pos}
use Rattle.sizes.specs.Sizes.{file-bytes, program-rows, program-room, row-size, open-layer-table, opacity-count, paint-attr-table, layer-attr-table, filter-paint-table}
use Rattle.sizes.specs.declared.answers.Refusal.{Refusal}
use Rattle.sizes.specs.declared.edition.Edition.{Edition}
use Rattle.sizes.specs.declared.answers.Refusal.TheVariants as refusal
use Rattle.sizes.specs.Refusals.{number_of, answer_number}
use Rattle.rules.specs.Answers.{Answer, Done, BadViewport, BadForm}
use Rattle.rules.specs.Lists.{is_none}
use Rattle.rules.specs.Boxes.{good_viewport, rows_of}
use Rattle.rules.specs.Plans.{Frame, buckets-across}
use Rattle.rules.specs.Minima.{minima-room}
use Rattle.rules.specs.Setups.{Setup, frame}
use Rattle.rules.specs.Recording.{Recording, File, in-edition, parsed}
use Rattle.rules.specs.Lines as rule
use Rattle.row.specs.Words.{Words, words}
use Rattle.screen.specs.declared.Screen.{Screen}
use Rattle.screen.specs.Screens.{fresh-screen}
use Rattle.screen.specs.Depths.{depths}
use Rattle.screen.specs.Tables.{Tables, tables, float-0, ScreenLent, screen_lent}
use Rattle.file.specs.Held.{recording_of}
use Rattle.file.specs.Words.{words-in}
use Rattle.walk.specs.Recorded.{recorded}
use Rattle.text.specs.Listed.{TextOut, listed, refused-listed}
use Rattle.text.specs.declared.recording.FileText.{FileText}
use Rattle.text.specs.declared.recording.Size.{Size}

-- the screen before: no rows
abbrev pub nothing : Screen
nothing = fresh-screen rule.nothing

-- an answer's number, how many bytes are written, the screen
pub record Text : Type 0 where
  pub number : ℕ
  pub bytes : ℕ
  pub screen : Screen

abbrev pub file-text : ℕ → ℕ → Screen → Text
file-text n k s = record { number = n; bytes = k; screen = s }

abbrev pub text_of : FileText → Text
text_of x = file-text (answer_number x.answer) x.bytes x.screen

-- what a call leaves: its answer with the screen, and the lent bytes
pub record Showed : Type 0 where
  pub text : Text
  pub bytes : List ℕ

abbrev pub shows-as : Text → List ℕ → Showed
shows-as x bs = record { text = x; bytes = bs }

abbrev pub showed : FileText → List ℕ → Showed
showed x bs = shows-as (text_of x) bs

-- a refusal prints only its number
unfoldable pub refusing : ℕ → Screen → List ℕ → Showed
refusing n s bs = let o = refused-listed n bs in shows-as (file-text n o.answer.bytes s) o.bytes

-- a listed screen
abbrev pub shown-as : Screen → TextOut → Showed
shown-as s o = cond (eqb o.answer.number Done) (shows-as (file-text Done o.answer.bytes s) o.bytes) (refusing o.answer.number s o.bytes)

-- a screen's lines
unfoldable pub showing : Screen → Words → List ℕ → Showed
showing s w bs = shown-as s (listed s w bs)

-- .. and the tables of a file's screen
pub record FileOut : Type 0 where
  pub showed : Showed
  pub tables : Tables

abbrev pub file-out : Showed → Tables → FileOut
file-out x t = record { showed = x; tables = t }

-- what is shown of a recording call's answer
abbrev pub answered : Answer ScreenLent → List ℕ → FileOut
answered a bs =
    let s = a.value.screen in
    let t = a.value.tables in
    file-out (cond (eqb a.number Done) (showing s (words t.rows t.render t.fills) bs) (refusing a.number s bs)) t

-- a file, in tables of the lengths that its screen has
unfoldable pub recording-text : File → Setup → Tables → List ℕ → FileOut
recording-text f q t bs = answered (recorded f q (screen_lent nothing t)) bs

-- The file's own size: 3 for its form, 2 for its viewport or more than 32 rows.
abbrev pub size : ℕ → ℕ → Size
size r b = record { rows = r; buckets = b }

abbrev pub sized-if : Bool → Frame → Result Size Refusal
sized-if true f = Ok (size (rows_of f.viewport) (buckets-across f))
sized-if false f = Err refusal.BadViewport

abbrev pub is-shown : Frame → Bool
is-shown f = good_viewport f.viewport && leb (rows_of f.viewport) program-rows

abbrev pub sized : Option Recording → Setup → Result Size Refusal
sized None q = Err refusal.BadForm
sized (Some r) q = let f = frame q r.viewport in sized-if (is-shown f) f

unfoldable pub size_of : File → Setup → Result Size Refusal
size_of f q = sized (recording_of (parsed f)) q

-- with 64 commands and 64 depth fills a row: what the programs ask
pub record Usual (q : Setup) : Type 0 where
  pub c : q.c ≡ program-room
  pub d : q.d ≡ program-room

-- a file's bytes: at most 65,536, in whole words
abbrev pub good-bytes : ℕ → Bool
good-bytes n = leb n file-bytes && eqb (n % 4) 0

-- the size of the screen of a file of an edition: 3 for its bytes, then 3 and 2 of its words
unfoldable pub file-size : Edition → List ℕ → Setup → Result Size Refusal
file-size e fs q = cond (good-bytes (length fs)) (size_of (in-edition e (words-in fs)) q) (Err refusal.BadForm)

-- tables as long as a screen of such a size asks, with 64 commands and 64 depth fills a row
pub record Exact (z : Size) (t : Tables) : Type 0 where
  pub render : length t.render ≡ z.rows * (4 * program-room)
  pub fills : length t.fills ≡ z.rows * (2 * program-room)
  pub depth : length t.depth.words ≡ z.rows * z.buckets
  pub minima : length t.depth.minima ≡ z.rows * minima-room z.buckets
  pub rows : length t.rows ≡ z.rows * row-size
  pub painting : length t.painting ≡ z.rows * 2
  pub layers : length t.layers ≡ open-layer-table
  pub opacities : length t.opacities ≡ opacity-count
  pub paint-attrs : length t.paint-attrs ≡ paint-attr-table
  pub layer-attrs : length t.layer-attrs ≡ layer-attr-table
  pub filter-paints : length t.filter-paints ≡ filter-paint-table

-- .. and with nothing in them
abbrev pub blank : Size → Tables
blank z =
    tables (replicate (z.rows * (4 * program-room)) 0) (replicate (z.rows * (2 * program-room)) 0)
    (depths (replicate (z.rows * z.buckets) 0) (replicate (z.rows * minima-room z.buckets) 0))
    (replicate (z.rows * row-size) 0)
    (replicate (z.rows * 2) 0)
    (replicate open-layer-table 0)
    (replicate opacity-count float-0)
    (replicate paint-attr-table 0)
    (replicate layer-attr-table 0)
    (replicate filter-paint-table (pos 0))

-- what is printed of a file, by the size of its screen
abbrev pub sized-text : Result Size Refusal → File → Setup → List ℕ → Showed
sized-text (Ok z) ws q bs = (recording-text ws q (blank z) bs).showed
sized-text (Err r) ws q bs = refusing (number_of r) nothing bs

unfoldable pub bytes-text : Edition → List ℕ → Setup → List ℕ → Showed
bytes-text e fs q bs = sized-text (file-size e fs q) (in-edition e (words-in fs)) q bs

-- the number of a file that is refused because the width asked for is none: 3 for its words' form, then 2
unfoldable pub no-width-of : File → ℕ
no-width-of f = cond (is_none (parsed f)) BadForm BadViewport

-- .. and 3 for its bytes, as the rules say
unfoldable pub no-width-number : Edition → List ℕ → ℕ
no-width-number e fs = cond (rule.bad-form e fs) BadForm BadViewport
