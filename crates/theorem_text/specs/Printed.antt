-- The text of a recording's rows and of its painted rows is the rules' text of them.
use Rattle.std.specs.Prelude.{Ok, ℕ, suc, ◌*◌, ◌≤◌, ◌<◌, ◌≡◌, true, Bool, List, [], ◌∷◌, ◌++◌, length, get_or, drop}
use Rattle.sizes.specs.declared.edition.Edition.{Edition}
use Rattle.sizes.specs.declared.width.Width.{Width}
use Rattle.sizes.specs.Widths.{bucket-tiles}
use Rattle.rules.specs.Recording.{File}
use Rattle.rules.specs.Answers.{Answer, Done}
use Rattle.rules.specs.Boxes.{Box, rows_of, buckets-of}
use Rattle.rules.specs.Attributes.{Attrs, no-layer}
use Rattle.rules.specs.Rows.{Row, row-ops, fresh-row}
use Rattle.rules.specs.Plans.{Frame, bucket, buckets-across, Step}
use Rattle.rules.specs.Minima.{minima-room}
use Rattle.rules.specs.Steps.{Screen, reset, call}
use Rattle.rules.specs.Setups.{Setup}
use Rattle.rules.specs.Walk.{Place, play}
use Rattle.rules.specs.Painting.{paint-row}
use Rattle.rules.specs.Lines as rules
use Rattle.rules.specs.Lines.{rowlist-screen, rowlist-words, rowlist}
use Rattle.row.specs.Words.{words}
use Rattle.screen.specs.Depths.{Depths}
use Rattle.screen.specs.Tables.{Tables, ScreenLent}
use Rattle.file.specs.Words.{words-in}
use Rattle.paint.specs.Painting as paint
use Rattle.paint.specs.Stepping.{attributes}
use Rattle.text.specs.Listed.{screen-lines, text_of, listed, written, begun-with}
use Rattle.text.specs.Details.{Detail, attr-lines, painted-row, painted-lines, detail-lines}
use Rattle.text.specs.Bytes.{details-text}
use Rattle.text.specs.Pieces.{piece-list}
use Rattle.text.specs.Dumped.{RowOut, with-text, row-dumped, tables, attrs-text}
use Rattle.text.specs.declared.recording.Size.{Size}
use Rattle.text.specs.Files.{Showed, FileOut, size, size_of, sized-text, recording-text, bytes-text, Usual, Exact}
use Rattle.refine_steps.specs.Sound.{Sound}
use Rattle.refine_steps.specs.Lent.{lent_of}
use Rattle.refine_paint.specs.Fair.{FairRows}
use Rattle.theorem_picture.specs.Refined.{Refined}
use Rattle.theorem_picture.specs.Reached.{begin-at}
use Rattle.theorem_picture.specs.Standing.{Stands}
use Rattle.theorem_picture.specs.Rows.{row_out, row_at}
use Rattle.theorem_text.specs.Waits.{Waits, Whole}

-- Words that hold a sound screen with fair rows: their lines are the rules' lines of the screen, and `list_screen` writes their text wherever it
-- fits; 14 is its only refusal there.
pub record Listed (s : Screen Row) (l : ScreenLent) : Type 0 where
  pub lines : screen-lines l.screen (words l.tables.rows l.tables.render l.tables.fills) ≡ rules.screen-lines s
  pub text : (bs : List ℕ) → listed l.screen (words l.tables.rows l.tables.render l.tables.fills) bs ≡ written (text_of (rules.screen-lines s)) bs

abbrev pub HeldListed : Type 0
HeldListed = (s : Screen Row) (l : ScreenLent) → Refined s l → FairRows s → Listed s l

-- .. so it is at all reached words
abbrev pub ReachedListed : Type 0
ReachedListed = (f : Frame) (xs : List Step) (l : ScreenLent) (s : Stands f xs l) → Listed s.canvas.screen l

-- What is printed of a file of either edition is the rules' answer to it: its number, and the text of its lines, which fits.
pub record WordsListed (q : Setup) (file : File) (bs : List ℕ) (x : Showed) : Type 0 where
  pub number : x.text.number ≡ (rowlist-screen q file).number
  pub count : x.text.bytes ≡ length (text_of (rowlist-words q file))
  pub bytes : x.bytes ≡ text_of (rowlist-words q file) ++ drop (length (text_of (rowlist-words q file))) bs
  pub few : length (text_of (rowlist-words q file)) ≤ 264256

abbrev pub WordsPrinted : Type 0
WordsPrinted = (q : Setup) → Usual q → (file : File) (bs : List ℕ) → 264256 ≤ length bs → WordsListed q file bs (sized-text (size_of file q) file q bs)

-- What `rowlist` writes of a file's bytes into its buffers is the text of the rules' own `rowlist` of these bytes, in either edition, refusals too; it fits.
pub record FileListed (e : Edition) (q : Setup) (fs : List ℕ) (bs : List ℕ) : Type 0 where
  pub count : (bytes-text e fs q bs).text.bytes ≡ length (text_of (rowlist e q fs))
  pub bytes : (bytes-text e fs q bs).bytes ≡ text_of (rowlist e q fs) ++ drop (length (text_of (rowlist e q fs))) bs
  pub few : length (text_of (rowlist e q fs)) ≤ 264256

abbrev pub FilePrinted : Type 0
FilePrinted = (e : Edition) (q : Setup) → Usual q → (fs bs : List ℕ) → 264256 ≤ length bs → FileListed e q fs bs

-- Tables of one size print the same, in any setup: no text tells what they held before.
abbrev pub TablesUntold : Type 0
TablesUntold =
    (z : Size) (t u : Tables) → Exact z t → Exact z u → (file : File) (q : Setup) (bs : List ℕ)
    → (recording-text file q t bs).showed ≡ (recording-text file q u bs).showed

-- A file in tables of the size of its screen: an accepted one leaves words that hold the rules' screen of it.
pub record Left (s : Screen Row) (z : Size) (o : FileOut) : Type 0 where
  pub viewport : Box
  pub width : Width
  pub size : z ≡ size (rows_of viewport) (buckets-of (bucket-tiles width) viewport)
  pub few : rows_of viewport ≤ 32
  pub fair : FairRows s
  pub frame : s.state.frame ≡ record { viewport = viewport; c = 64; d = 64; width = width }
  pub words : ScreenLent
  pub refined : Refined s words
  pub screen : o.showed.text.screen ≡ words.screen
  pub tables : o.tables ≡ words.tables

pub record Leaves (a : Answer (Screen Row)) (z : Size) (o : FileOut) : Type 0 where
  pub number : o.showed.text.number ≡ a.number
  pub left : a.number ≡ Done → Left a.value z o

abbrev pub WordsLeave : Type 0
WordsLeave =
    (q : Setup) → Usual q → (file : File) (z : Size) → Ok z ≡ size_of file q → (t : Tables) → Exact z t
    → (bs : List ℕ) → 264256 ≤ length bs → Leaves (rowlist-screen q file) z (recording-text file q t bs)

-- The words of bytes are words, ..
abbrev pub WordsSmall : Type 0
WordsSmall = (bs : List ℕ) → ((i : ℕ) → get_or bs i 0 < 256) → (i : ℕ) → get_or (words-in bs) i 0 < 4294967296

-- .. and a done play of words leaves no layer open, and opacities that are patterns of 32 bits.
pub record Ended (s : Screen Row) : Type 0 where
  pub closed : s.state.layers ≡ []
  pub small : (i : ℕ) → i < length s.state.attrs.layers → (get_or s.state.attrs.layers i no-layer).opacity < 4294967296

abbrev pub PlayEnded : Type 0
PlayEnded =
    (p : Place) (old : Screen Row) (file : File) → ((i : ℕ) → get_or file.words i 0 < 4294967296)
    → (play (Screen Row) (call Row row-ops) (reset fresh-row) p old file).number ≡ Done
    → Ended (play (Screen Row) (call Row row-ops) (reset fresh-row) p old file).value

-- At the words of a sound screen whose layer attributes' opacities are such patterns, the text of the attributes is that of the rules' lines.
abbrev pub AttrsPrinted : Type 0
AttrsPrinted =
    (v : Bool) (s : Screen Row) → Sound s → ((i : ℕ) → i < length s.state.attrs.layers → (get_or s.state.attrs.layers i no-layer).opacity < 4294967296)
    → (b : Bool) (depth : Depths) (painting : List ℕ) → let l = lent_of s b depth painting in
    attrs-text v l.screen (tables l.tables.paint-attrs l.tables.layer-attrs l.tables.opacities l.tables.filter-paints) ≡ details-text v (attr-lines s.state.attrs)

-- The rules' text of the details is that of the attributes, then that of each row, in their order.
abbrev pub DetailsParts : Type 0
DetailsParts =
    (v : Bool) (s : Screen Row)
    → details-text v (detail-lines s)
    ≡ details-text v (attr-lines s.state.attrs) ++ details-text v (painted-lines (bucket s.state.frame) s.state.attrs (buckets-across s.state.frame) 0 s.rows)

abbrev pub RowsParts : Type 0
RowsParts =
    (v : Bool) (w : ℕ) (a : Attrs) (n i : ℕ) (r : Row) (rs : List Row)
    → details-text v (painted-lines w a n i (r ∷ rs)) ≡ details-text v (painted-row i (paint-row w a n r)) ++ details-text v (painted-lines w a n (suc i) rs)

-- Once painting has begun at reached words, every row waits, ..
abbrev pub ReachedWaits : Type 0
ReachedWaits =
    (f : Frame) (xs : List Step) (l : ScreenLent) (s : Stands f xs l) → (begin-at l).number ≡ Done → (r : ℕ) → r < rows_of f.viewport
    → Waits s.canvas.screen r (begin-at l).value

-- .. so it is at all words that hold a sound screen with fair rows and no layer open: painting begins there, ..
pub record Begun (s : Screen Row) (l : ScreenLent) : Type 0 where
  pub accepted : (begin-at l).number ≡ Done
  pub waits : (r : ℕ) → r < length s.rows → Waits s r (begin-at l).value

abbrev pub HeldBegun : Type 0
HeldBegun =
    (s : Screen Row) → Sound s → FairRows s → s.state.layers ≡ [] → (b : Bool) (depth : Depths) (painting : List ℕ)
    → length depth.words ≡ rows_of s.state.frame.viewport * buckets-across s.state.frame
    → length depth.minima ≡ rows_of s.state.frame.viewport * minima-room (buckets-across s.state.frame)
    → length painting ≡ rows_of s.state.frame.viewport * 2
    → Begun s (lent_of s b depth painting)

-- .. and a row still waits after another one was painted.
abbrev pub OthersWait : Type 0
OthersWait = (s : Screen Row) (r : ℕ) (m : ScreenLent) → Waits s r m → (i : ℕ) (list : List ℕ) → (i ≡ r → ⊥) → Waits s r (row_at i list m)

-- the rules' lines of row r, painted to its end from its first step
abbrev pub row-details : Screen Row → ℕ → List Detail
row-details s r = painted-row r (paint-row (bucket s.state.frame) s.state.attrs (buckets-across s.state.frame) (get_or s.rows r fresh-row))

-- what `row_text` does at the words m
abbrev pub dumped-at : Bool → ℕ → List ℕ → List ℕ → ScreenLent → RowOut
dumped-at v r list bs m =
    row-dumped v m.screen r (attributes m.tables.paint-attrs m.tables.layer-attrs)
    (paint.words_lent m.tables.rows m.tables.render m.tables.fills m.tables.depth m.tables.painting list)
    bs

-- The text that `row_text` writes of a row that waits is that of the rules' own lines of the row.
abbrev pub WaitingPrinted : Type 0
WaitingPrinted =
    (v : Bool) (s : Screen Row) (r : ℕ) (m : ScreenLent) → Waits s r m → (list bs : List ℕ)
    → (row_out r list m).answer.number ≡ Done → (row_out r list m).answer.finished ≡ true → (row_out r list m).answer.pieces ≤ 65536
    → dumped-at v r list bs m ≡ with-text (row_out r list m) (written (details-text v (row-details s r)) bs)

-- On the programs' screens a row that waits is painted to its end in the list that it is lent, and the text is written wherever it fits.
pub record Dumped (s : Screen Row) (r : ℕ) (m : ScreenLent) (list : List ℕ) : Type 0 where
  pub whole : Whole (row_out r list m)
  pub text : (v : Bool) (bs : List ℕ) → length (details-text v (row-details s r)) ≤ length bs
      → dumped-at v r list bs m ≡ with-text (row_out r list m) (begun-with (details-text v (row-details s r)) bs)

abbrev pub RowWhole : Type 0
RowWhole =
    (s : Screen Row) (r : ℕ) (m : ScreenLent) → Waits s r m → length (get_or s.rows r fresh-row).commands ≤ 64 → buckets-across s.state.frame ≤ 64
    → (list : List ℕ) → piece-list ≤ length list → Dumped s r m list
