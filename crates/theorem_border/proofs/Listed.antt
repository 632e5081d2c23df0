-- What `coarse_list_tile` lists of an accepted recording is what the tile receives by painting. Assumes nothing.
use Rattle.std.proofs.Common.{ℕ, ◌+◌, ◌/◌, ◌<◌, ◌≡◌, refl, sym, ap, ◌∙◌, subst, arith, Bool, true, false, cond, List, [], ◌∷◌, map, length, get_or, replicate, Result, Ok, Err, leb, ltb, eqb, eqb-true, leb-false}
use Rattle.std.proofs.lemmas.Bool.{lt-leb}
use borrow.Author.Tests.{eqb-false}
use lib.ListN.{length-map}
use Rattle.sizes.specs.Sizes.{line-table}
use Rattle.sizes.specs.declared.answers.Refusal.{Refusal}
use Rattle.sizes.specs.declared.answers.Refusal.TheVariants.{BadRecord}
use Rattle.sizes.specs.declared.width.Width.{Width}
use Rattle.sizes.specs.Widths.{width_of}
use Rattle.rules.specs.Answers.{Answer, first_of, Done, BadRun, NoRoom}
use Rattle.rules.specs.Boxes.{Box, width, rows_of, good_viewport}
use Rattle.rules.specs.Plans.{Frame, bucket}
use Rattle.rules.specs.Setups.{Setup, frame}
use Rattle.rules.specs.Recording.{Recording, File}
use Rattle.rules.specs.Painting.{Entry, received}
use Rattle.rules.specs.Plain.{plain}
use Rattle.rules.proofs.All.{or_left, or_right}
use Rattle.rules.proofs.laws.Answers.{settle-number, settle-done}
use Rattle.rules_reason.specs.Answers.{off-screen}
use Rattle.rules_reason.specs.TileList.{roomless-frame, judge-roomless, or-else, judge-list}
use Rattle.rules_picture.specs.Turns.{from}
use Rattle.rules_picture.specs.Recorded.{history, Readable, said}
use Rattle.screen.specs.Tables.{ScreenLent}
use Rattle.cmd.specs.Pieces.{laid}
use Rattle.walk.specs.Recorded.{recorded-in, recorded}
use Rattle.walk.proofs.Accepted.{good-frame, records-judged}
use Rattle.tile.specs.Telling.{Telling}
use Rattle.tile.specs.Explained.{told_of}
use Rattle.tile.specs.Listed.{entries-read, piece-of, told-somewhere, tile-told, list-told, listed-over, room-in}
use Rattle.refine_file.specs.Played.{place}
use Rattle.refine_tile.proofs.Walked as walked
use Rattle.refine_tile.proofs.Entries.{entries-plain}
use Rattle.theorem_picture.specs.Turns.{pieces-in}
use Rattle.theorem_picture.proofs.Pieces.{pieces-back}
use Rattle.theorem_picture.proofs.Recorded.{recorded-taken}
use Rattle.host.specs.declared.state.SetupWords.{SetupWords}
use Rattle.host.specs.Asked.{FileWords, mode-at, asked-at, asked_setup}
use Rattle.host.specs.Border.{unasked_number}
use Rattle.host.specs.TileList.{list_setup, tile-list-left, tile_list_in, tile_list_asked, tile_list_call}
use Rattle.host.proofs.ScreenAsked.{as-asked}
use Rattle.host.proofs.TileLists.{tile_list_told}
use Rattle.theorem_border.specs.Hosted.{Host, Asks, Says, Call, place as at-host, recording-at, begin-at}
use Rattle.theorem_border.specs.Border.{log, finished, Accepted}
use Rattle.theorem_border.specs.Held.{host-of}
use Rattle.theorem_border.specs.TileLists.{ListReceived, ListRoom}
use Rattle.theorem_border.proofs.Holds.{alone-hosted}
use Rattle.theorem_border.proofs.Words.{hosted, recording_on, Known, nothing, these, known, recording-never}
use Rattle.theorem_border.proofs.Recorded.{recording-accepted}
use Rattle.theorem_border.proofs.Border.{border-picture}

-- a number that is done is so by each of its parts
both-done : (n m : ℕ) → or-else n m ≡ Done → (n ≡ Done) × (m ≡ Done)
both-done n m = go (eqb n Done) refl
  where
    go : (b : Bool) → eqb n Done ≡ b → cond b m n ≡ Done → (n ≡ Done) × (m ≡ Done)
    go true y e = (eqb-true n Done y, e)
    go false y e = absurd (eqb-false n Done y e)

on_screen : (off few : Bool) → first_of ((off, BadRun) ∷ (few, NoRoom) ∷ []) ≡ Done → off ≡ false
on_screen false few e = refl
on_screen true few e = absurd (omega arith)

-- a tile of an accepted recording
module _ (ws : File) (q : Setup) (l : ScreenLent) (z : (recorded ws q l).number ≡ Done) (s : Readable ws) (row tile room : ℕ) where
  abbrev r : Recording
  r = said s

  abbrev f : Frame
  f = frame q r.viewport

  abbrev g : Frame
  g = roomless-frame q.mode q.width r.viewport

  abbrev list : Answer (List Entry)
  list = list-told q.mode q.width ws row tile room

  abbrev story : Answer Telling
  story = told-somewhere g r row tile

  abbrev entries : List Entry
  entries = entries-read story.value.lines (story.value.paints + story.value.layers)

  abbrev own-list : List Entry
  own-list = plain (bucket f) f.viewport row tile (history (place q l) r)

  abbrev number : ℕ
  number = or-else (judge-roomless g r) (or-else story.number (judge-list g row tile room entries))

  there : list ≡ tile-told g r row tile room
  unfolding list-told
  there = rw s.formed

  accepted : (recorded-in r q l).number ≡ Done
  unfolding recorded
  accepted = rw s.formed at z

  view : good_viewport f.viewport ≡ true
  view = good-frame r q l accepted

  judged-done : judge-roomless g r ≡ Done
  judged-done = rw view (records-judged r q l accepted)

  list-number : list.number ≡ number
  unfolding tile-told
  list-number = ap (λ (a : Answer (List Entry)). a.number) there ∙ settle-number number [] entries

  list-value : number ≡ Done → list.value ≡ entries
  unfolding tile-told
  list-value e = ap (λ (a : Answer (List Entry)). a.value) there ∙ settle-done number [] entries e

  -- on the screen the story is the tile's own: it is told to its end, and its entries are those of the recording's history
  module _ (on : off-screen f.viewport row tile ≡ false) where
    story-done : story.number ≡ Done
    unfolding told_of
    story-done = rw on (walked.tile-told (bucket f) f r row tile (replicate line-table 0) view (recorded-taken ws q l s z).walks).0

    entries-own : entries ≡ own-list
    unfolding told_of
    entries-own =
        rw on
        (entries-plain (bucket f) f.viewport row tile _ (replicate line-table 0) _
        (walked.tile-told (bucket f) f r row tile (replicate line-table 0) view (recorded-taken ws q l s z).walks).1)

    pub listed-number : list.number ≡ cond (ltb room (length own-list)) NoRoom Done
    listed-number = list-number ∙ rw (judged-done, story-done, entries-own, on)

  -- where it is listed, it is on the screen
  pub listed-plain : list.number ≡ Done → (off-screen f.viewport row tile ≡ false) × (list.value ≡ own-list)
  listed-plain d =
      let e = sym list-number ∙ d in
      let told = both-done (judge-roomless g r) (or-else story.number (judge-list g row tile room entries)) e in
      let on = on_screen (off-screen g.viewport row tile) (ltb room (length entries)) (both-done story.number (judge-list g row tile room entries) told.1).1 in
      (on, list-value e ∙ entries-own on)

-- a setup's mode and width alone
abbrev bare : Setup → Setup
bare q = record { c = 0; d = 0; mode = q.mode; width = q.width }

abbrev bared : Result Setup Refusal → Result Setup Refusal
bared (Ok q) = Ok (bare q)
bared (Err x) = Err x

bare-asked : (o : Result Width Refusal) (w : SetupWords) → bared (asked-at o w) ≡ asked-at o (list_setup w.mode w.width)
bare-asked (Err x) w = refl
bare-asked (Ok v) w = go (leb w.mode 1)
  where
    q : Setup
    q = record { c = w.c; d = w.d; mode = mode-at w.mode; width = v }

    go : (b : Bool) → bared (cond b (Ok q) (Err BadRecord)) ≡ cond b (Ok (bare q)) (Err BadRecord)
    go true = refl
    go false = refl

asks-bare : (w : SetupWords) (q : Setup) → Asks w q → Ok (bare q) ≡ asked_setup (list_setup w.mode w.width)
unfolding asked_setup
asks-bare w q a = ap bared a ∙ bare-asked (width_of w.width) w

module _ (row tile : ℕ) (list n : List ℕ) where
  -- asked for the mode and the width of a setup, in the edition that is told
  list-in : (f : FileWords) (file : File) → Says f file → (w : SetupWords) (q : Setup) → Asks w q
      → tile_list_in file q row tile list n ≡ tile_list_call f w.mode w.width row tile list n
  unfolding tile_list_in tile_list_asked
  list-in f file y w q a =
      tile_list_told f w.mode w.width row tile list n file y
      (as-asked (asked_setup (list_setup w.mode w.width)) (unasked_number file) (list, n)
      (λ (q : Setup). tile_list_in file q row tile list n) (bare q) (asks-bare w q a))

  -- what is listed is read back from the list
  list-back : (a : Answer (List Entry)) → a.number ≡ Done
      → let b = tile-list-left n (listed-over tile a list) in pieces-in (get_or b.value.1 0 0) b.value.0 ≡ map (piece-of tile) a.value
  list-back a e =
      rw e
      (subst (λ (k : ℕ). pieces-in k (laid (map (piece-of tile) a.value) list) ≡ map (piece-of tile) a.value) (length-map a.value (piece-of tile))
      (pieces-back (map (piece-of tile) a.value) list))

  in-back : (file : File) (q : Setup) → (tile_list_in file q row tile list n).number ≡ Done
      → let b = tile_list_in file q row tile list n in
      pieces-in (get_or b.value.1 0 0) b.value.0 ≡ map (piece-of tile) (list-told q.mode q.width file row tile (room-in list)).value
  unfolding tile_list_in
  in-back file q e = list-back (list-told q.mode q.width file row tile (room-in list)) e

  in-told : (file : File) (q : Setup) → (tile_list_in file q row tile list n).number ≡ (list-told q.mode q.width file row tile (room-in list)).number
  unfolding tile_list_in
  in-told file q = refl

-- at the border, of a recording that is accepted
module _ (told : FileWords) (w : SetupWords) (h : Host) (d : (recording-at told w h).number ≡ Done) (m : Accepted told w h)
    (cs : List Call) (row tile : ℕ) (list n : List ℕ) where
  abbrev after : Host
  after = (begin-at (recording-at told w h).value).value

  abbrev entries-had : List Entry
  entries-had = received tile (from row (log cs after))

  abbrev call : Answer (List ℕ × List ℕ)
  call = tile_list_call told w.mode w.width row tile list n

  abbrev inner : Answer (List ℕ × List ℕ)
  inner = tile_list_in m.file m.setup row tile list n

  abbrev v : Box
  v = (frame m.setup (said m.words).viewport).viewport

  called : inner ≡ call
  called = list-in row tile list n told m.file m.says w m.setup m.asks

  taken : (l : ScreenLent) → h ≡ host-of l → (recorded m.file m.setup l).number ≡ Done
  taken l s =
      let k : recording-at told w h ≡ hosted (recorded m.file m.setup l) = ap (recording-at told w) s ∙ recording_on w m.setup m.asks l told m.file m.says in
      sym (ap (λ (a : Answer Host). a.number) k) ∙ d

  had : row < rows_of v → tile < width v / 4 → finished row cs after ≡ true
      → entries-had ≡ plain (bucket (frame m.setup (said m.words).viewport)) v row tile (history (at-host m.setup h) (said m.words))
  had = border-picture _ _ _ (alone-hosted _ _ _ m.hosted) m.begins cs row tile

  received-of : Known h → finished row cs after ≡ true → call.number ≡ Done → pieces-in (get_or call.value.1 0 0) call.value.0 ≡ map (piece-of tile) entries-had
  received-of (nothing x) fin e = absurd (recording-never h x w m.setup m.asks told m.file m.says d)
  received-of (these l s) fin e =
      let y = ap (λ (a : Answer (List ℕ × List ℕ)). a.number) called ∙ e in
      let es = listed-plain m.file m.setup l (taken l s) m.words row tile (room-in list) (sym (in-told row tile list n m.file m.setup) ∙ y) in
      let there = leb-false (rows_of v) row (or_left (leb (rows_of v) row) (leb (width v / 4) tile) es.0) in
      let across = leb-false (width v / 4) tile (or_right (leb (rows_of v) row) (leb (width v / 4) tile) es.0) in
      ap (λ (b : Answer (List ℕ × List ℕ)). pieces-in (get_or b.value.1 0 0) b.value.0) (sym called)
      ∙ in-back row tile list n m.file m.setup y
      ∙ ap (map (piece-of tile)) (es.1 ∙ sym (had there across fin))

  room-of : Known h → row < rows_of v → tile < width v / 4 → finished row cs after ≡ true
      → call.number ≡ cond (ltb (room-in list) (length entries-had)) NoRoom Done
  room-of (nothing x) there across fin = absurd (recording-never h x w m.setup m.asks told m.file m.says d)
  room-of (these l s) there across fin =
      let on : off-screen v row tile ≡ false = rw (lt-leb (rows_of v) row there, lt-leb (width v / 4) tile across) in
      ap (λ (a : Answer (List ℕ × List ℕ)). a.number) (sym called)
      ∙ in-told row tile list n m.file m.setup
      ∙ listed-number m.file m.setup l (taken l s) m.words row tile (room-in list) on
      ∙ ap (λ (es : List Entry). cond (ltb (room-in list) (length es)) NoRoom Done) (sym (had there across fin))

pub list-received : ListReceived
list-received told w h d cs row tile fin list n e = received-of told w h d (recording-accepted told w h d) cs row tile list n (known h) fin e

pub list-room : ListRoom
list-room told w h d m cs row tile there across fin list n = room-of told w h d m cs row tile list n (known h) there across fin
