-- Where enough words are lent a recording's figures are its file's own, and in a program's tables those in `rowlist`'s place. Assumes nothing.
use Rattle.std.proofs.Common.{◌≡◌, refl, sym, ap, ◌∙◌, Bool, true, false, cond, List, Option, None, Some, Ok, ℕ, ◌*◌, ◌≤◌, arith, min, leb, eq-eqb, le-ltb, leb-true}
use Rattle.sizes.specs.Sizes.{most-rows, program-rows, row-size}
use Rattle.rules.specs.Boxes.{good_viewport, rows_of}
use Rattle.rules.specs.Rows.{Row, fresh-row}
use Rattle.rules.specs.Plans.{Frame, buckets-across}
use Rattle.rules.specs.Steps as rule
use Rattle.rules.specs.Steps.{reset, call}
use Rattle.rules.specs.Recording.{Recording, File, parsed, recording, box-in}
use Rattle.rules.specs.Setups.{Setup, frame}
use Rattle.rules.specs.Walk.{Place, Arenas, needed, judge-records}
use Rattle.rules.specs.Lines as rules
use Rattle.rules.specs.Lines.{rowlist-place}
use Rattle.rules.proofs.All.{and_left, and_right}
use Rattle.rules_picture.proofs.Cases.{by}
use Rattle.rules_picture.proofs.Recorded.{play-some}
use Rattle.rules_figures.specs.Figures.{Figures, one-refused}
use Rattle.rules_figures.specs.Recordings.{of-answer, of-sections, of-file}
use Rattle.screen.specs.declared.lent.Lengths.{Lengths}
use Rattle.screen.specs.declared.Screen.{Screen}
use Rattle.screen.specs.Judging.{good-tables, arenas}
use Rattle.screen.specs.Tables.{Tables, lengths, screen_lent}
use Rattle.file.specs.Held.{recording_of}
use Rattle.tally.specs.Parts.{lengths-for, of-viewport, of-form, needed-words, at-most}
use Rattle.tally.specs.Recordings.{recorded-figures}
use Rattle.text.specs.declared.recording.Size.{Size}
use Rattle.text.specs.Files.{size, is-shown, sized-if, sized, size_of, Usual, Exact}
use Rattle.refine_text.proofs.Files.{refused-view, same-play, place_view}
use Rattle.refine_tally.specs.Lent.{lent-place, has-tables, figures-in, lent-figures, Enough, own-place}
use Rattle.refine_tally.proofs.Recorded.{figures-counted}

least : (n m : ℕ) → n ≤ m → min n m ≡ n
least n m h = omega arith

first-are : (n m : Lengths) → Enough n m → at-most n m ≡ n
first-are n m h =
    rw (
      least n.render_cmds m.render_cmds h.render,
      least n.depth_cmds m.depth_cmds h.fills,
      least n.depth m.depth h.depth,
      least n.rows m.rows h.rows,
      least n.painting m.painting h.painting,
      least n.layers m.layers h.layers,
      least n.opacities m.opacities h.opacities,
      least n.paint_attrs m.paint_attrs h.paint_attrs,
      least n.layer_attrs m.layer_attrs h.layer_attrs,
      least n.filter_paints m.filter_paints h.filter_paints,
      least n.minima m.minima h.minima,
    )
    refl

abbrev old : rule.Screen Row
old = reset fresh-row rules.nothing

cond-same : {A : Type 0} (b : Bool) (x : A) → cond b x x ≡ x
cond-same true x = refl
cond-same false x = refl

-- a file of good form
module _ (f : File) (q : Setup) (ss : List (List (List ℕ))) (e : parsed f ≡ Some ss) where
  abbrev r : Recording
  r = recording ss

  abbrev its : Frame
  its = frame q r.viewport

  -- so many rows, and such arenas
  abbrev in-place : ℕ → Arenas → Place
  in-place m a = record { limit = m; setup = q; arenas = a }

  -- its play depends on them only by what is judged
  same-figures : (m k : ℕ) (a b : Arenas) → judge-records (in-place m a) r ≡ judge-records (in-place k b) r
      → of-sections (in-place m a) f (Some ss) ≡ of-sections (in-place k b) f (Some ss)
  same-figures m k a b j =
      ap (of-answer (in-place m a) r) (play-some (in-place m a) old f ss e ∙ same-play m k q a b old r j ∙ sym (play-some (in-place k b) old f ss e))

  -- a bad viewport is refused wherever it is
  no-view : good_viewport its.viewport ≡ false → (m : ℕ) (a : Arenas) → of-sections (in-place m a) f (Some ss) ≡ one-refused
  unfolding judge-records
  no-view g m a =
      let p = in-place m a in
      let j : judge-records p r ≡ 2 = rw g refl in
      rw (play-some p old f ss e, refused-view p old r j) refl

  -- in exactly such words
  abbrev figures-by : Lengths → Figures
  figures-by m = cond (has-tables (Some ss) q m) (of-sections (lent-place q m) f (Some ss)) one-refused

  module _ (n : Lengths) (h : Enough (of-viewport its) n) where
    bad : good_viewport its.viewport ≡ false → figures-by (at-most (of-viewport its) n) ≡ of-sections (own-place q f) f (Some ss)
    bad g =
        rw (no-view g most-rows (arenas (at-most (of-viewport its) n)), no-view g most-rows (needed (frame q (box-in f))))
        (cond-same (has-tables (Some ss) q (at-most (of-viewport its) n)) one-refused)

    tables-good : good-tables (rows_of its.viewport) (lengths-for its) ≡ true
    tables-good = rw (eq-eqb (rows_of its.viewport * row-size) (rows_of its.viewport * row-size) refl, eq-eqb (rows_of its.viewport * 2) (rows_of its.viewport * 2) refl) refl

    good : good_viewport its.viewport ≡ true → figures-by (at-most (of-viewport its) n) ≡ of-sections (own-place q f) f (Some ss)
    good g =
        let i : at-most (of-viewport its) n ≡ lengths-for its = first-are (of-viewport its) n h ∙ rw g refl in
        ap figures-by i ∙ rw (tables-good, place_view f ss e) refl

pub enough-counted : (f : File) (q : Setup) (n : Lengths) → Enough (needed-words f q) n → lent-figures f q n ≡ of-file (own-place q f) f
unfolding figures-in of-file needed-words
enough-counted f q n h = go (parsed f) refl h
  where
    go : (o : Option (List (List (List ℕ)))) → parsed f ≡ o → Enough (of-form o q) n
        → cond (has-tables o q (at-most (of-form o q) n)) (of-sections (lent-place q (at-most (of-form o q) n)) f o) one-refused ≡ of-sections (own-place q f) f o
    go None e k = refl
    go (Some ss) e k = by (good_viewport (frame q (recording ss).viewport).viewport) (good f q ss e n k) (bad f q ss e n k)

-- A file whose screen a program's tables are lent for: they are as long as its screen asks.
module _ (q : Setup) (u : Usual q) (f : File) {z : Size} (t : Tables) (k : Exact z t) where
  abbrev by-size : Option (List (List (List ℕ))) → Type 0
  by-size o = Enough (of-form o q) (lengths t) × (of-sections (own-place q f) f o ≡ of-sections (rowlist-place q f) f o)

  module _ (ss : List (List (List ℕ))) (e : parsed f ≡ Some ss) where
    abbrev screen-frame : Frame
    screen-frame = frame q (recording ss).viewport

    -- of as many rows as a program has at most
    few-rows : good_viewport screen-frame.viewport ≡ true → rows_of screen-frame.viewport ≤ program-rows → of-sections (own-place q f) f (Some ss) ≡ of-sections (rowlist-place q f) f (Some ss)
    unfolding judge-records
    few-rows g l =
        same-figures f q ss e most-rows program-rows (needed (frame q (box-in f))) (needed (frame q (box-in f)))
        (rw (le-ltb program-rows (rows_of screen-frame.viewport) l, le-ltb most-rows (rows_of screen-frame.viewport) (omega (arith, l))) refl)

    enough-there : good_viewport screen-frame.viewport ≡ true → z ≡ size (rows_of screen-frame.viewport) (buckets-across screen-frame) → Enough (of-form (Some ss) q) (lengths t)
    enough-there g y = rw g (
        record {
          render = rw (u.c, k.render, y) (omega arith);
          fills = rw (u.d, k.fills, y) (omega arith);
          depth = rw (k.depth, y) (omega arith);
          minima = rw (k.minima, y) (omega arith);
          rows = rw (k.rows, y) (omega arith);
          painting = rw (k.painting, y) (omega arith);
          layers = rw k.layers (omega arith);
          opacities = rw k.opacities (omega arith);
          paint_attrs = rw k.paint-attrs (omega arith);
          layer_attrs = rw k.layer-attrs (omega arith);
          filter_paints = rw k.filter-paints (omega arith);
        })

    shown : (b : Bool) → is-shown screen-frame ≡ b → Ok z ≡ sized-if b screen-frame → by-size (Some ss)
    shown false s i = cc
    shown true s i =
        let g = and_left (good_viewport screen-frame.viewport) (leb (rows_of screen-frame.viewport) program-rows) s in
        let l : rows_of screen-frame.viewport ≤ program-rows = leb-true _ _ (and_right (good_viewport screen-frame.viewport) (leb (rows_of screen-frame.viewport) program-rows) s) in
        let y : z ≡ size (rows_of screen-frame.viewport) (buckets-across screen-frame) = cc in
        (enough-there g y, few-rows g l)

  sized-so : (o : Option (List (List (List ℕ)))) → parsed f ≡ o → Ok z ≡ sized (recording_of o) q → by-size o
  sized-so None e i = cc
  sized-so (Some ss) e i = shown ss e (is-shown (frame q (recording ss).viewport)) refl i

  pub rowlist-counted : Ok z ≡ size_of f q → (s : Screen) → recorded-figures f q (screen_lent s t) ≡ of-file (rowlist-place q f) f
  unfolding of-file needed-words size_of
  rowlist-counted i s =
      let g = sized-so (parsed f) refl i in
      figures-counted f q (screen_lent s t) ∙ enough-counted f q (lengths t) g.0 ∙ g.1
