-- A tile's list at the words. Assumes nothing.
use Rattle.std.proofs.Common.{ℕ, zero, suc, ◌+◌, ◌-◌, ◌*◌, ◌≤◌, arith, ◌≡◌, refl, sym, ap, ◌∙◌, subst, Bool, true, false, not, cond, List, [], ◌∷◌, map, Option, None, Some}
use Rattle.std.proofs.Common.{length, take, take_at, drop, drop_at, length-append, length-drop, replicate, ltb, eqb, eqb-true, eq-eqb, ltb-true, ltb-false, lt-ltb, le-leb}
use lib.ListN.{length-map}
use Rattle.sizes.specs.Sizes.{piece-size, line-table}
use Rattle.sizes.specs.declared.width.Width.{Width}
use Rattle.rules.specs.Lists.{some_of, such, join}
use Rattle.rules.specs.Answers.{Answer, settle, first_of, Done, BadViewport, BadRecord, BadOrder, Deep, Ids, FullAttrs, BadRun, NoRoom}
use Rattle.rules.specs.Spans.{span, covers, moved}
use Rattle.rules.specs.Boxes.{good_viewport}
use Rattle.rules.specs.Inputs.{few-paints}
use Rattle.rules.specs.Plans.{Frame, bucket}
use Rattle.rules.specs.Setups.{Mode, Setup, frame}
use Rattle.rules.specs.Recording.{Recording, File, parsed, recording, good-records, good-order}
use Rattle.rules.specs.Roomless.{roomless}
use Rattle.rules.specs.Painting.{Piece, Entry, received}
use Rattle.rules.proofs.All.{never}
use Rattle.rules.proofs.laws.Answers.{settle-number}
use Rattle.rules_picture.specs.Recorded.{history, Readable, said}
use Rattle.rules_picture.proofs.Cases.{by}
use Rattle.rules_picture.proofs.Roomless.{roomless-done}
use Rattle.rules_reason.specs.Answers.{off-screen}
use Rattle.rules_reason.specs.TileList.{roomless-frame, judge-roomless, or-else, entries-of, judge-list, tile-listed, tile-list, most-entries}
use Rattle.screen.specs.Tables.{ScreenLent}
use Rattle.cmd.specs.Pieces.{piece-words, laid}
use Rattle.file.proofs.Laws.{sound}
use Rattle.walk.specs.Recorded.{recorded-in, recorded}
use Rattle.walk.proofs.Accepted.{good-frame, records-judged}
use Rattle.refine_file.specs.Played.{place}
use Rattle.tile.specs.Telling.{Line}
use Rattle.tile.specs.Listed.{lines-from, listed-lines, was-told, line-hides, entries-read, piece-of, in-room, told-somewhere, tile-told, told-in, list-told, listed-over, room-in}
use Rattle.tile.specs.Explained.{told_of}
use Rattle.refine_tile.proofs.Owned.{paints-few}
use Rattle.refine_tile.proofs.ListRules.{retells, list-rules}
use Rattle.theorem_picture.specs.Reached.{begin-at}
use Rattle.rules_picture.specs.Turns.{from}
use Rattle.theorem_picture.specs.Turns.{pieces-in, log}
use Rattle.theorem_picture.proofs.Pieces.{pieces-back}
use Rattle.theorem_picture.proofs.Picture.{picture}
use Rattle.theorem_picture.proofs.Reached.{alone-reached}
use Rattle.theorem_picture.proofs.Recorded.{taken-reached, taken-begins, recorded-taken}
use Rattle.theorem_reason.specs.Lists.{ListLeft, List-is-plain, Recorded-roomless, List-received, list-numbers, List-without-room, call-left}
use Rattle.theorem_reason.proofs.Explained.{there-on}
use Rattle.theorem_reason.proofs.Frames.{frames-same}
use Rattle.theorem_reason.proofs.Counted.{Told-number, told-number}

-- What every answer of a list is: one of its numbers; refused, there is no entry; there is room for its entries.
record Fine (room : ℕ) (a : Answer (List Entry)) : Type 0 where
  number : some_of (eqb a.number) list-numbers ≡ true
  refused : (a.number ≡ Done → ⊥) → a.value ≡ []
  fits : length a.value ≤ room

abbrev Among : ℕ → Type 0
Among n = some_of (eqb n) list-numbers ≡ true

-- its three judgements, one after the other
records-among : (a b c : Bool) → Among (first_of ((not a, BadViewport) ∷ (not b, BadRecord) ∷ (not c, BadOrder) ∷ []))
records-among false b c = refl
records-among true false c = refl
records-among true true false = refl
records-among true true true = refl

list-among : (a b : Bool) → Among (first_of ((a, BadRun) ∷ (b, NoRoom) ∷ []))
list-among true b = refl
list-among false true = refl
list-among false false = refl

else-among : (n m : ℕ) → Among n → Among m → Among (or-else n m)
else-among n m p q = by (eqb n Done) (λ y. rw y q) (λ y. rw y p)

-- the story's numbers are among them, and 14 is none of those
told-among : (n : ℕ) → Told-number n → Among n
told-among n p =
    by (eqb n Done)
    (λ a. rw (eqb-true n Done a))
    (λ a. by (eqb n Deep)
    (λ b. rw (eqb-true n Deep b))
    (λ b. by (eqb n Ids)
    (λ c. rw (eqb-true n Ids c))
    (λ c. by (eqb n FullAttrs)
    (λ d. rw (eqb-true n FullAttrs d))
    (λ d. never (sym (rw (a, b, c, d) at p))))))

else-done : (n m : ℕ) → or-else n m ≡ Done → m ≡ Done
else-done n m e = by (eqb n Done) (λ y. rw y at e) (λ y. let z : n ≡ Done = rw y at e in never (sym (eq-eqb n Done z) ∙ y))

list-done : (a b : Bool) → first_of ((a, BadRun) ∷ (b, NoRoom) ∷ []) ≡ Done → b ≡ false
list-done true b e = absurd (omega arith)
list-done false true e = absurd (omega arith)
list-done false false e = refl

answer-fine : (j n : ℕ) (off : Bool) (room : ℕ) (es : List Entry) → Among j → Among n
    → Fine room (settle (or-else j (or-else n (first_of ((off, BadRun) ∷ (ltb room (length es), NoRoom) ∷ [])))) [] es)
answer-fine j n off room es p q =
    let k = first_of ((off, BadRun) ∷ (ltb room (length es), NoRoom) ∷ []) in
    let m = or-else j (or-else n k) in
    let fits : m ≡ Done → length es ≤ room = λ e. ltb-false room (length es) (list-done off (ltb room (length es)) (else-done n k (else-done j (or-else n k) e))) in
    let none : 0 ≤ room = omega arith in
    record {
      number = subst Among (sym (settle-number m [] es)) (else-among j (or-else n k) p (else-among n k q (list-among off (ltb room (length es)))));
      refused = λ z. by (eqb m Done) (λ y. absurd (z (settle-number m [] es ∙ eqb-true m Done y))) (λ y. rw y);
      fits = by (eqb m Done) (λ y. rw y (fits (eqb-true m Done y))) (λ y. rw y none);
    }

told-fine : (m : Mode) (w : Width) (f : File) (row tile room : ℕ) → Fine room (list-told m w f row tile room)
unfolding list-told tile-told told_of
told-fine m w f row tile room = go (parsed f)
  where
    go : (o : Option (List (List (List ℕ)))) → Fine room (told-in m w o row tile room)
    go None = record { number = refl; refused = λ z. refl; fits = omega arith }
    go (Some ss) =
        let r = recording ss in
        let g = roomless-frame m w r.viewport in
        let off = off-screen g.viewport row tile in
        let a = told-somewhere g r row tile in
        answer-fine (judge-roomless g r) a.number off room (entries-read a.value.lines (a.value.paints + a.value.layers))
        (records-among (good_viewport g.viewport) (good-records r) (good-order r))
        (told-among a.number (told-number (bucket g) g.viewport (cond off 0 row) (cond off 0 tile) r (replicate line-table 0)))

-- the words of pieces
pieces-long : (ps : List Piece) → length (join piece-words ps) ≡ piece-size * length ps
pieces-long [] = refl
pieces-long (p ∷ ps) = let h = pieces-long ps in omega arith

module _ (tile : ℕ) (es : List Entry) (old : List ℕ) where
  abbrev pieces : List Piece
  pieces = map (piece-of tile) es

  words-long : length (join piece-words pieces) ≡ piece-size * length es
  words-long = pieces-long pieces ∙ ap (λ (n : ℕ). piece-size * n) (length-map es (piece-of tile))

  words-laid : take (piece-size * length es) (laid pieces old) ≡ join piece-words pieces
  words-laid = take_at (join piece-words pieces) _ (piece-size * length es) words-long

  rest-kept : drop (piece-size * length es) (laid pieces old) ≡ drop (piece-size * length es) old
  rest-kept = drop_at (join piece-words pieces) _ (piece-size * length es) words-long ∙ ap (λ (n : ℕ). drop n old) words-long

  laid-long : length es ≤ room-in old → length (laid pieces old) ≡ length old
  laid-long h = let n = words-long in rw (length-append, length-drop) (omega arith)

  read-back : pieces-in (length es) (laid pieces old) ≡ pieces
  read-back = ap (λ (n : ℕ). pieces-in n (laid pieces old)) (sym (length-map es (piece-of tile))) ∙ pieces-back pieces old

list-left : (tile : ℕ) (a : Answer (List Entry)) (old : List ℕ) → Fine (room-in old) a → ListLeft tile a old (listed-over tile a old)
list-left tile a old f =
    record {
      number = refl;
      count = refl;
      words = words-laid tile a.value old;
      entries = read-back tile a.value old;
      rest = rest-kept tile a.value old;
      long = laid-long tile a.value old f.fits;
      refused = λ z.
          let e = f.refused z in
          (ap (λ (es : List Entry). length es) e, ap (λ (es : List Entry). laid (map (piece-of tile) es) old) e);
    }

pub list-is-plain : List-is-plain
list-is-plain m w f row tile list =
    let e = list-rules m w f row tile (room-in list) in
    (e, subst (λ (a : Answer (List Entry)). ListLeft tile a list (call-left m w f row tile list)) e (list-left tile _ list (told-fine m w f row tile (room-in list))))

-- an accepted recording
module _ (ws : File) (q : Setup) (l : ScreenLent) (z : (recorded ws q l).number ≡ Done) (s : Readable ws) where
  abbrev r : Recording
  r = said s

  abbrev f : Frame
  f = frame q r.viewport

  abbrev bare : Frame
  bare = roomless-frame q.mode q.width r.viewport

  same-walk : ((roomless bare r).number ≡ Done) × ((roomless bare r).value.log ≡ history (place q l) r)
  same-walk =
      let d = roomless-done f r (recorded-taken ws q l s z).walks in
      let g = frames-same f bare refl refl r in
      (sym g.0 ∙ d.0, sym (g.1 d.0) ∙ d.1)

  accepted : (recorded-in r q l).number ≡ Done
  unfolding recorded
  accepted = rw s.formed at z

  judged : judge-roomless bare r ≡ Done
  judged = let k = sound r (records-judged r q l accepted) in rw (good-frame r q l accepted, k.records, k.order)

pub recorded-roomless : Recorded-roomless
recorded-roomless ws q l z s = same-walk ws q l z s

-- a tile's list, where nothing but its room can refuse it
list-in-room : (j n : ℕ) (off : Bool) (room : ℕ) (es : List Entry) → j ≡ Done → n ≡ Done → off ≡ false
    → settle (or-else j (or-else n (first_of ((off, BadRun) ∷ (ltb room (length es), NoRoom) ∷ [])))) [] es ≡ in-room room es
list-in-room j n off room es a b c = rw (a, b, c) (by (ltb room (length es)) (λ y. rw y) (λ y. rw y))

in-room-done : (room : ℕ) (es : List Entry) → (in-room room es).number ≡ Done → (in-room room es).value ≡ es
in-room-done room es e = by (ltb room (length es)) (λ y. let z : ◌≡◌ {A = ℕ} NoRoom Done = rw y at e in absurd (omega arith)) (λ y. rw y)

-- what a tile receives of entries as pieces of itself
alpha-kept : (a : Option ℕ) (t : ℕ) → moved a (t - t) ≡ a
alpha-kept None t = refl
alpha-kept (Some a) t = ap (λ (n : ℕ). Some n) (omega arith)

received-back : (t : ℕ) (es : List Entry) → received t (map (piece-of t) es) ≡ es
unfolding received
received-back t [] = refl
received-back t (e ∷ es) =
    let c : covers (span t (suc t)) t ≡ true = rw (le-leb t t (omega arith), lt-ltb t (suc t) (omega arith)) in
    rw (c, alpha-kept e.alpha t, received-back t es)

pub list-received : List-received
unfolding tile-list tile-listed
list-received ws q l z s row tile h k ts fin =
    let t = recorded-taken ws q l s z in
    let m = (recorded ws q l).value in
    let g = frame q (said s).viewport in
    let bare = roomless-frame q.mode q.width (said s).viewport in
    let es = received tile (from row (log ts (begin-at m).value)) in
    let walk = same-walk ws q l z s in
    let shown : es ≡ entries-of g row tile (history (place q l) (said s)) =
    picture g (history (place q l) (said s)) m (alone-reached _ _ _ (taken-reached ws s q l t)) (taken-begins ws s q l t) ts row tile h k fin in
    let same : entries-of bare row tile (roomless bare (said s)).value.log ≡ es = ap (entries-of bare row tile) walk.1 ∙ sym shown in
    let answers : (room : ℕ) → tile-list q.mode q.width ws row tile room ≡ in-room room es =
    λ room. rw s.formed
    (list-in-room (judge-roomless bare (said s)) (roomless bare (said s)).number (off-screen bare.viewport row tile) room _ (judged ws q l z s) walk.0 (there-on bare.viewport row tile h k)
    ∙ ap (in-room room) same) in
    record {
      answer = answers;
      pieces = λ list e.
          let a = list-told q.mode q.width ws row tile (room-in list) in
          let is : a ≡ in-room (room-in list) es = list-rules q.mode q.width ws row tile (room-in list) ∙ answers (room-in list) in
          let v : a.value ≡ es = ap (λ (x : Answer (List Entry)). x.value) is ∙ in-room-done (room-in list) es (sym (ap (λ (x : Answer (List Entry)). x.number) is) ∙ e) in
          ap (received tile) (read-back tile a.value list) ∙ received-back tile a.value ∙ v;
    }

-- so many lines have at most so many entries
such-few : {A : Type 0} (p : A → Bool) (xs : List A) → length (such p xs) ≤ length xs
such-few p [] = omega arith
such-few p (x ∷ xs) = let h = such-few p xs in by (p x) (λ y. rw y (omega arith)) (λ y. rw y (omega arith))

listed-few : (ls : List Line) → length (listed-lines ls) ≤ length ls
unfolding listed-lines
listed-few [] = omega arith
listed-few (l ∷ ls) =
    let h = listed-few ls in
    by (some_of line-hides ls) (λ y. rw y (omega arith)) (λ y. rw y (such-few was-told (l ∷ ls)))

lines-count : (ws : List ℕ) (i n : ℕ) → length (lines-from ws i n) ≡ n
unfolding lines-from
lines-count ws i zero = refl
lines-count ws i (suc n) = ap (λ (k : ℕ). suc k) (lines-count ws (i + 1) n)

entries-few : (ws : List ℕ) (n : ℕ) → length (entries-read ws n) ≤ n
entries-few ws n = let h = listed-few (lines-from ws 0 n) in let c = lines-count ws 0 n in rw length-map (omega arith)

-- 14 is a number of the list's room alone
records-no-room : (a b c : Bool) → first_of ((not a, BadViewport) ∷ (not b, BadRecord) ∷ (not c, BadOrder) ∷ []) ≡ NoRoom → ⊥
records-no-room false b c e = omega arith
records-no-room true false c e = omega arith
records-no-room true true false e = omega arith
records-no-room true true true e = omega arith

told-no-room : (n : ℕ) → Told-number n → n ≡ NoRoom → ⊥
told-no-room n p e = never (sym (rw e at p))

list-no-room : (a b : Bool) → first_of ((a, BadRun) ∷ (b, NoRoom) ∷ []) ≡ NoRoom → (a ≡ false) × (b ≡ true)
list-no-room true b e = absurd (omega arith)
list-no-room false true e = (refl, refl)
list-no-room false false e = absurd (omega arith)

else-other : (n m k : ℕ) → (n ≡ k → ⊥) → or-else n m ≡ k → (n ≡ Done) × (m ≡ k)
else-other n m k h e = by (eqb n Done) (λ y. (eqb-true n Done y, rw y at e)) (λ y. absurd (h (rw y at e)))

module _ (f : Frame) (r : Recording) (few : few-paints (length r.paints) ≡ true) (row tile room : ℕ) (roomy : most-entries ≤ room) where
  tile-roomy : (tile-told f r row tile room).number ≡ NoRoom → ⊥
  unfolding tile-told
  tile-roomy e =
      let j = judge-roomless f r in
      let a = told-somewhere f r row tile in
      let es = entries-read a.value.lines (a.value.paints + a.value.layers) in
      let off = off-screen f.viewport row tile in
      let k = judge-list f row tile room es in
      let n : or-else j (or-else a.number k) ≡ NoRoom = sym (settle-number (or-else j (or-else a.number k)) [] es) ∙ e in
      let (d, p) = else-other j (or-else a.number k) NoRoom (records-no-room (good_viewport f.viewport) (good-records r) (good-order r)) n in
      let u : Told-number a.number = unfold told_of in told-number (bucket f) f.viewport _ _ r (replicate line-table 0) in
      let (b, p') = else-other a.number k NoRoom (told-no-room a.number u) p in
      let (on, full) = list-no-room off (ltb room (length es)) p' in
      let x = retells f r few d (cond off 0 row) (cond off 0 tile) in
      let t = x.retold (sym x.number ∙ b) in
      let h = entries-few a.value.lines (a.value.paints + a.value.layers) in
      let g = ltb-true room (length es) full in
      let y = t.few-paints in
      let z = t.few-layers in
      omega arith

list-roomy : (m : Mode) (w : Width) (f : File) (row tile room : ℕ) → most-entries ≤ room → (list-told m w f row tile room).number ≡ NoRoom → ⊥
unfolding list-told
list-roomy m w f row tile room h = go (parsed f) refl
  where
    go : (o : Option (List (List (List ℕ)))) → parsed f ≡ o → (told-in m w o row tile room).number ≡ NoRoom → ⊥
    go None e z = omega arith
    go (Some ss) e z = let r = recording ss in tile-roomy (roomless-frame m w r.viewport) r (paints-few f ss e) row tile room h z

pub list-without-room : List-without-room
list-without-room =
    record {
      frames = frames-same;
      numbers = λ m w f row tile room. (told-fine m w f row tile room).number;
      roomy = list-roomy;
    }
