-- Runs that `coarse_visible_runs` lists in words of a call's own, and the same runs written as spans. The words have room for as many runs
-- as any row has, so that they are listed as in a list of spans. Assumes nothing.
use Rattle.std.proofs.Common.{◌≡◌, refl, sym, ap, ◌∙◌, Bool, true, false, ◌&&◌, cond, List, [], ◌∷◌, ◌++◌, append_assoc, Option, None, Some, ℕ, zero, suc, ◌*◌, ◌/◌, ◌≤◌, min, not-suc-le-zero}
use Rattle.std.proofs.Common.{le_of_suc-le-suc, arith, length, get_or, take, drop, length-append, take-append-drop, length-take-le, ltb, eqb, eq-eqb, ltb-true}
use Rattle.sizes.specs.Sizes.{bucket-end, state-size}
use Rattle.sizes.specs.Widths.{bucket-tiles}
use Rattle.rules.proofs.All.{both}
use Rattle.rules.specs.Answers.{Answer, answer, settle, first_of, BadRecord, BadRun, NoRoom}
use Rattle.rules.specs.Spans.{Span, bad-range}
use Rattle.rules.specs.Depth.{visible-runs, visible_answer}
use Rattle.span.specs.declared.TileSpan.{TileSpan}
use Rattle.depth.specs.Listing as words
use Rattle.depth.specs.Listing.{numbers, over}
use Rattle.depth.proofs.Filling.{length-numbers}
use Rattle.depth.specs.Spans.{with-spans}
use Rattle.depth.specs.SpanLists as spans
use Rattle.depth.proofs.Laws.{as-listed}
use Rattle.depth.proofs.Finding.{in-room, roomy}
use Rattle.screen.specs.declared.Screen.{Screen}
use Rattle.paint.specs.Judging.{wide, runs_number}
use Rattle.paint.specs.Stepping.{part}
use Rattle.paint.specs.DirectRuns.{or-runs, visible-of}
use Rattle.host.specs.State.{screen-at, screen_of, before_4, refused_at, at_held}
use Rattle.host.specs.Painting.{runs-left, visible_call}
use Rattle.depth.specs.SpanLists.{own_words}
use Rattle.host.specs.Spans.{runs_of, spans-left, spans_call, found_left, found_call}

-- a part of some words, with what is after it
drop-part : (k m : ℕ) (z : List ℕ) → k ≤ m → drop k (take m z) ++ drop m z ≡ drop k z
drop-part zero m z h = take-append-drop m z
drop-part (suc k) zero z h = absurd (not-suc-le-zero h)
drop-part (suc k) (suc m) [] h = refl
drop-part (suc k) (suc m) (x ∷ z) h = drop-part k m z (le_of_suc-le-suc h)

-- numbers over the part are numbers over them all
over-part : (ns : List ℕ) (m : ℕ) (z : List ℕ) → length ns ≤ m → over ns (take m z) ++ drop m z ≡ over ns z
over-part ns m z h = append_assoc ns (drop (length ns) (take m z)) (drop m z) ∙ ap (λ (y : List ℕ). ns ++ y) (drop-part (length ns) m z h)

-- the border refuses by a number that is not 0
refuses : (st : List ℕ) (f : Screen → ℕ) → refused_at st f ≡ 0 → ⊥
unfolding refused_at before_4
refuses st f = go (eqb (length st) state-size) (ltb 0 n && ltb n BadRecord) refl
  where
    n : ℕ
    n = f (screen-at st)

    go : (long early : Bool) → ltb 0 n && ltb n BadRecord ≡ early → cond long (cond early n BadRecord) BadRecord ≡ 0 → ⊥
    go false early q e = omega arith
    go true false q e = omega arith
    go true true q e = omega (arith, ltb-true 0 n (both (ltb 0 n) (ltb n BadRecord) q).0)

-- a refusal lists nothing
refused_none : (w : ℕ) (bs : List ℕ) (id : ℕ) (t : Span) (n : ℕ) → ((visible_answer w bs id t n).number ≡ 0 → ⊥) → (visible_answer w bs id t n).value ≡ []
unfolding visible_answer
refused_none w bs id t n = go (bad-range 8192 t) (ltb n (length rs))
  where
    rs : List Span
    rs = visible-runs w bs id t

    go : (bad short : Bool) → let a = settle (first_of ((bad, BadRun) ∷ (short, NoRoom) ∷ [])) [] rs in (a.number ≡ 0 → ⊥) → a.value ≡ []
    go true short h = refl
    go false true h = refl
    go false false h = absurd (h refl)

module _ (s : Screen) (r : ℕ) (d : List ℕ) (t : Span) (id : ℕ) where
  abbrev bs : List ℕ
  bs = part (wide s) r d

  abbrev tiles-each : ℕ
  tiles-each = bucket-tiles s.width

  no_more : (n : ℕ) → length (runs_of s r d t id n).value ≤ n
  no_more n = go (eqb (runs_number s r (length d)) 0)
    where
      go : (b : Bool) → length (cond b (visible_answer tiles-each bs id t n) (answer (runs_number s r (length d)) [])).value ≤ n
      go true = in-room tiles-each bs id t n
      go false = omega arith

  none-refused : (n : ℕ) → ((runs_of s r d t id n).number ≡ 0 → ⊥) → (runs_of s r d t id n).value ≡ []
  none-refused n = go (eqb (runs_number s r (length d)) 0)
    where
      go : (b : Bool) → let a = cond b (visible_answer tiles-each bs id t n) (answer (runs_number s r (length d)) []) in (a.number ≡ 0 → ⊥) → a.value ≡ []
      go true h = refused_none tiles-each bs id t n h
      go false h = refl

  -- in the first m words, as in a list of `room` spans
  same_runs : (room m : ℕ) (ws : List ℕ) → m ≡ 2 * min room (bucket-end / 2) → length ws ≡ m → runs_of s r d t id (length ws / 2) ≡ runs_of s r d t id room
  same_runs room m ws k l =
      let half : length ws / 2 ≡ min room (bucket-end / 2) = omega (arith, k, l) in
      ap (runs_of s r d t id) half ∙ ap (or-runs (runs_number s r (length d))) (roomy s.width bs id t room)

-- what is found: the words' answer n, the m words that are lent and as they are left, and the results
module _ (r : ℕ) (t : Span) (id : ℕ) (st d : List ℕ) (room : ℕ) (c : List ℕ) (n m : ℕ) (ws c' : List ℕ) (k : m ≡ 2 * min room (bucket-end / 2))
    (e : answer n (ws, c') ≡ visible_call r t id st d (take m own_words) c) where
  abbrev lent : List ℕ
  lent = take m own_words

  same-lent : (s : Screen) → runs_of s r d t id (length lent / 2) ≡ runs_of s r d t id room
  same-lent s = same_runs s r d t id room m lent k (length-take-le m own_words (omega (arith, k)))

  abbrev Here : Option Screen → Type 0
  Here h = answer n (ws, c') ≡ at_held h st (lent, c) (λ (s : Screen). runs-left c (words.listing (runs_of s r d t id (length lent / 2)) lent))

  abbrev There : Option Screen → ℕ → Type 0
  There h count =
      answer n (count, ws ++ drop m own_words, c')
      ≡ at_held h st (0, own_words, c) (λ (s : Screen). found_left c (words.listing (runs_of s r d t id room) own_words))

  from : Here (screen_of (eqb (length c) 1) st)
  unfolding visible_call visible-of
  from = e

  -- where the words stand for no screen
  none : Here None → There None 0
  unfolding words.listing refused_at
  none h =
      let w : ws ++ drop m own_words ≡ own_words = ap (λ (a : Answer (List ℕ × List ℕ)). a.value.0 ++ drop m own_words) h ∙ take-append-drop m own_words in
      rw w (ap (λ (a : Answer (List ℕ × List ℕ)). answer a.number (0, own_words, a.value.1)) (rw (same-lent (screen-at st)) at h))

  -- at a screen
  module _ (s : Screen) where
    abbrev x : Answer (List Span)
    x = runs_of s r d t id room

    listed : Here (Some s) → answer n (ws, c') ≡ runs-left c (words.listing x lent)
    listed h = rw (same-lent s) at h

    short : length (numbers x.value) ≤ m
    short =
        let l : length (runs_of s r d t id (length lent / 2)).value ≤ length lent / 2 = no_more s r d t id (length lent / 2) in
        let l' : length x.value ≤ length lent / 2 = rw (same-lent s) at l in
        omega (arith, length-numbers x.value, l', k, length-take-le m own_words (omega (arith, k)))

    all_words : Here (Some s) → ws ++ drop m own_words ≡ over (numbers x.value) own_words
    unfolding words.listing
    all_words h = ap (λ (a : Answer (List ℕ × List ℕ)). a.value.0 ++ drop m own_words) (listed h) ∙ over-part (numbers x.value) m own_words short

    counted : Here (Some s) → There (Some s) (length x.value)
    unfolding words.listing
    counted h = rw (all_words h) (ap (λ (a : Answer (List ℕ × List ℕ)). answer a.number (length x.value, over (numbers x.value) own_words, a.value.1)) (listed h))

    its-number : Here (Some s) → n ≡ x.number
    unfolding words.listing
    its-number h = ap (λ (a : Answer (List ℕ × List ℕ)). a.number) (listed h)

    its-count : Here (Some s) → n ≡ 0 → get_or c' 0 0 ≡ length x.value
    unfolding words.listing
    its-count h z =
        ap (λ (a : Answer (List ℕ × List ℕ)). get_or a.value.1 0 0) (listed h)
        ∙ rw (eq-eqb x.number 0 (sym (its-number h) ∙ z))

  pub found_none : (n ≡ 0 → ⊥) → answer n (0, ws ++ drop m own_words, c') ≡ found_call r t id st d room c
  unfolding found_call
  found_none z = go (screen_of (eqb (length c) 1) st) from
    where
      go : (h : Option Screen) → Here h → There h 0
      go None h = none h
      go (Some s) h =
          let v : (runs_of s r d t id room).value ≡ [] = none-refused s r d t id room (λ q. z (its-number s h ∙ q)) in
          rw (ap length v) at (counted s h)

  pub found_some : n ≡ 0 → answer n (get_or c' 0 0, ws ++ drop m own_words, c') ≡ found_call r t id st d room c
  unfolding found_call
  found_some z = go (screen_of (eqb (length c) 1) st) from
    where
      go : (h : Option Screen) → Here h → There h (get_or c' 0 0)
      go None h = absurd (refuses st _ (sym (ap (λ (a : Answer (List ℕ × List ℕ)). a.number) h) ∙ z))
      go (Some s) h = rw (its-count s h z) (counted s h)

-- What is found is written to a list l: k runs, in the words ws.
module _ (r : ℕ) (t : Span) (id : ℕ) (st d : List ℕ) (l : List TileSpan) (n k : ℕ) (ws c c' : List ℕ) (e : answer n (k, ws, c') ≡ found_call r t id st d (length l) c) where
  abbrev Found_at : Option Screen → Type 0
  Found_at h = answer n (k, ws, c') ≡ at_held h st (0, own_words, c) (λ (s : Screen). found_left c (words.listing (runs_of s r d t id (length l)) own_words))

  found : Found_at (screen_of (eqb (length c) 1) st)
  unfolding found_call
  found = e

  module _ (s : Screen) (h : Found_at (Some s)) where
    abbrev v : List Span
    v = (runs_of s r d t id (length l)).value

    as_many : k ≡ length v
    unfolding words.listing
    as_many = ap (λ (a : Answer (ℕ × List ℕ × List ℕ)). a.value.0) h

    as-words : ws ≡ over (numbers v) own_words
    unfolding words.listing
    as-words = ap (λ (a : Answer (ℕ × List ℕ × List ℕ)). a.value.1) h

    room : length v ≤ length l
    room = no_more s r d t id (length l)

    enough : k * 2 ≤ length ws
    enough = omega (arith, as_many, ap length as-words, length-append (numbers v) (drop (length (numbers v)) own_words), length-numbers v)

    written : with-spans ws k l ≡ (spans.listing (runs_of s r d t id (length l)) l).spans
    unfolding spans.listing
    written = rw (as-words, as_many) (as-listed v own_words l room)

  pub found-fits : (k ≤ length l) × (k * 2 ≤ length ws)
  found-fits = go (screen_of (eqb (length c) 1) st) found
    where
      go : (h : Option Screen) → Found_at h → (k ≤ length l) × (k * 2 ≤ length ws)
      go None h = let z : k ≡ 0 = ap (λ (a : Answer (ℕ × List ℕ × List ℕ)). a.value.0) h in (omega (arith, z), omega (arith, z))
      go (Some s) h = (omega (arith, as_many s h, room s h), enough s h)

  pub spans-written : answer n (with-spans ws k l, c') ≡ spans_call r t id st d l c
  unfolding spans_call words.listing spans.listing with-spans
  spans-written = go (screen_of (eqb (length c) 1) st) found
    where
      go : (h : Option Screen) → Found_at h → answer n (with-spans ws k l, c') ≡ at_held h st (l, c) (λ (s : Screen). spans-left c (spans.listing (runs_of s r d t id (length l)) l))
      go None h =
          let z : k ≡ 0 = ap (λ (a : Answer (ℕ × List ℕ × List ℕ)). a.value.0) h in
          rw z (ap (λ (a : Answer (ℕ × List ℕ × List ℕ)). answer a.number (l, a.value.2)) h)
      go (Some s) h = rw (written s h) (ap (λ (a : Answer (ℕ × List ℕ × List ℕ)). answer a.number ((spans.listing (runs_of s r d t id (length l)) l).spans, a.value.2)) h)
