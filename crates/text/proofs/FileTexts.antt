-- What is shown of a screen, of a file, and of a refusal. Assumes nothing.
use Rattle.std.proofs.Common.{◌≡◌, refl, sym, ap, ◌∙◌, Option, None, Some, Ok, Err, pos, ℤ, Float, Bool, true, false, List, ℕ, ◌≤◌, ◌<◌, eqb, le-leb, eq-eqb, ne_eqb}
use lib.ListN.{length-replicate}
use borrow.Author.Tests.{lt-leb}
use Rattle.sizes.specs.declared.answers.Refusal.{Refusal}
use Rattle.sizes.specs.declared.edition.Edition.{Edition}
use Rattle.sizes.specs.declared.answers.Refusal.TheVariants as refusal
use Rattle.sizes.specs.Refusals.{number_of}
use Rattle.sizes.specs.Widths.{bucket-tiles}
use Rattle.rules.specs.Answers.{Answer, answer, settle}
use Rattle.rules.specs.Boxes.{Box, good_viewport, rows_of, buckets-of}
use Rattle.rules.specs.Setups.{Setup, frame, viewport-in}
use Rattle.rules.specs.Recording.{Recording, File, in-edition, parsed, recording}
use Rattle.rules.specs.Walk.{go_on, ◌then◌}
use Rattle.rect.specs.declared.Rect.{Rect}
use Rattle.rect.specs.Rects.{box_of, seen}
use Rattle.rect.proofs.Snapping.{good-seen, bad-seen}
use Rattle.row.specs.Words.{Words, words}
use Rattle.screen.specs.declared.Screen.{Screen}
use Rattle.screen.specs.declared.lent.Lent.{Lent}
use Rattle.screen.specs.declared.lent.Lengths.{Lengths}
use Rattle.screen.specs.Lent.{tables_in, SameLent}
use Rattle.screen.specs.Screens.{fresh-screen}
use Rattle.screen.specs.Judging.{judged_reset}
use Rattle.screen.specs.Tables.{Tables, lengths, float-0, cleared, ScreenLent, screen_lent, reset_to}
use Rattle.screen.proofs.ScreenLaws.{few-buckets}
use Rattle.screen.proofs.Zeros.{same-cleared}
use Rattle.file.specs.Held.{recording_of}
use Rattle.file.specs.Words.{words-in}
use Rattle.walk.specs.Recorded.{played, recorded-in, of-sections, recorded}
use Rattle.text.specs.Listed.{Listing, TextOut, text-out, listed, refused-listed}
use Rattle.text.specs.declared.recording.Size.{Size}
use Rattle.text.specs.Files.{nothing, Showed, shows-as, file-text, refusing, showing, file-out, FileOut, answered, recording-text}
use Rattle.text.specs.Files.{size, size_of, file-size, Exact, blank, bytes-text}

module _ (n : ℕ) (s : Screen) (bs : List ℕ) {r : Listing} {cs : List ℕ} where
  pub refused_as : text-out r cs ≡ refused-listed n bs → shows-as (file-text n r.bytes s) cs ≡ refusing n s bs
  unfolding refusing
  refused_as e = ap (λ (o : TextOut). shows-as (file-text n o.answer.bytes s) o.bytes) e

module _ (s : Screen) (w : Words) (bs : List ℕ) {r : Listing} {cs : List ℕ} (e : text-out r cs ≡ listed s w bs) where
  pub show-refused : {x : Showed} → (r.number ≡ 0 → ⊥) → x ≡ refusing r.number s cs → x ≡ showing s w bs
  unfolding showing
  show-refused h g = g ∙ rw (← e, ne_eqb r.number 0 h)

  pub show-done : r.number ≡ 0 → shows-as (file-text 0 r.bytes s) cs ≡ showing s w bs
  unfolding showing
  show-done h = rw (← e, eq-eqb r.number 0 h)

module _ (ws : File) (q : Setup) (t : Tables) (bs : List ℕ) {o : Screen} (p : o ≡ nothing) {s : Screen} {u : Tables} {n : ℕ}
    (e : answer n (screen_lent s u) ≡ recorded ws q (screen_lent o t)) where
  same : answer n (screen_lent s u) ≡ recorded ws q (screen_lent nothing t)
  same = rw p at e

  module _ {x : Showed} where
    pub text-refused : (n ≡ 0 → ⊥) → x ≡ refusing n s bs → file-out x u ≡ recording-text ws q t bs
    unfolding recording-text
    text-refused h g = rw (← same, ne_eqb n 0 h) (ap (λ (y : Showed). file-out y u) g)

    pub text-shown : n ≡ 0 → x ≡ showing s (words u.rows u.render u.fills) bs → file-out x u ≡ recording-text ws q t bs
    unfolding recording-text
    text-shown h g = rw (← same, eq-eqb n 0 h) (ap (λ (y : Showed). file-out y u) g)

-- a file's size
module _ (ws : File) (q : Setup) where
  pub bad-form : {r : Refusal} → (r ≡ refusal.BadForm) × (parsed ws ≡ None) → Err r ≡ size_of ws q
  unfolding size_of
  bad-form e = rw (e.0, e.1)

  module _ {y : Recording} (e : recording_of (parsed ws) ≡ Some y) {b : Box} (i : b ≡ y.viewport) where
    pub bad-viewport : {r : Refusal} → Err r ≡ seen (viewport-in q.mode b) → Err r ≡ size_of ws q
    unfolding size_of
    bad-viewport h = let p = bad-seen _ _ h in rw (e, ← i, p.0, p.1)

    -- of r, the viewport that the screen has
    module _ {r : Rect} (h : Ok r ≡ seen (viewport-in q.mode b)) where
      held : box_of r ≡ (frame q y.viewport).viewport
      held = ap box_of (good-seen _ _ h).1 ∙ ap (viewport-in q.mode) i

      is-good : good_viewport (box_of r) ≡ true
      is-good = ap (λ (v : Rect). good_viewport (box_of v)) (good-seen _ _ h).1 ∙ (good-seen _ _ h).0

      pub many-rows : {m : ℕ} → m ≡ rows_of (box_of r) → 32 < m → Err refusal.BadViewport ≡ size_of ws q
      unfolding size_of
      many-rows j g = rw (e, ← held, is-good, lt-leb (rows_of (box_of r)) 32 (rw j at g))

      pub good-size : {m n : ℕ} → m ≡ rows_of (box_of r) → n ≡ buckets-of (bucket-tiles q.width) (box_of r) → m ≤ 32 → Ok (size m n) ≡ size_of ws q
      unfolding size_of
      good-size j k g = rw (e, ← held, is-good, le-leb (rows_of (box_of r)) 32 (rw j at g), j, k)

      pub few : {n : ℕ} → n ≡ buckets-of (bucket-tiles q.width) (box_of r) → n ≤ 64
      few k = rw k (few-buckets (box_of r) is-good q.width)

-- Tables that are as long print the same: no text tells what they held before.
module _ (ws : File) (q : Setup) (t u : Tables) (e : lengths t ≡ lengths u) (bs : List ℕ) where
  -- after a reset that answers n
  started : ℕ → Tables → ScreenLent → (ScreenLent → Answer ScreenLent) → Answer ScreenLent
  started n x fresh g = let a = settle n (screen_lent nothing x) fresh in go_on (eqb a.number 0) a g

  done-start : (n : ℕ) → eqb n 0 ≡ true → (v : Tables) (x : ScreenLent) (g : ScreenLent → Answer ScreenLent) → started n v x g ≡ g x
  unfolding started
  done-start n i v x g =
      let a : settle n (screen_lent nothing v) x ≡ answer 0 x = rw i in
      ap (λ (y : Answer ScreenLent). go_on (eqb y.number 0) y g) a

  refused-start : (n : ℕ) → eqb n 0 ≡ false → (v : Tables) (x : ScreenLent) (g : ScreenLent → Answer ScreenLent) → (answered (started n v x g) bs).showed ≡ refusing n nothing bs
  unfolding started
  refused-start n i v x g =
      let a : settle n (screen_lent nothing v) x ≡ answer n (screen_lent nothing v) = rw i in
      let b : go_on (eqb n 0) (answer n (screen_lent nothing v)) g ≡ answer n (screen_lent nothing v) = rw i in
      let c : (answered (answer n (screen_lent nothing v)) bs).showed ≡ refusing n nothing bs = rw i in
      ap (λ (y : Answer ScreenLent). (answered (go_on (eqb y.number 0) y g) bs).showed) a ∙ ap (λ (y : Answer ScreenLent). (answered y bs).showed) b ∙ c

  same-start : (n : ℕ) (x y : ScreenLent) (g : ScreenLent → Answer ScreenLent) → x ≡ y → (answered (started n t x g) bs).showed ≡ (answered (started n u y g) bs).showed
  same-start n x y g h = go (eqb n 0) refl
    where
      go : (b : Bool) → eqb n 0 ≡ b → (answered (started n t x g) bs).showed ≡ (answered (started n u y g) bs).showed
      go true i = ap (λ (z : Answer ScreenLent). (answered z bs).showed) (done-start n i t x g ∙ ap g h ∙ sym (done-start n i u y g))
      go false i = refused-start n i t x g ∙ sym (refused-start n i u y g)

  pub same_text : (recording-text ws q t bs).showed ≡ (recording-text ws q u bs).showed
  unfolding recording-text recorded recorded-in ◌then◌ reset_to started
  same_text = go (parsed ws)
    where
      go : (o : Option (List (List (List ℕ)))) → (answered (of-sections o q (screen_lent nothing t)) bs).showed ≡ (answered (of-sections o q (screen_lent nothing u)) bs).showed
      go None = refl
      go (Some ss) =
          let r = recording ss in
          let f = frame q r.viewport in
          rw e (same-start (judged_reset f (lengths u)) (screen_lent (fresh-screen f) (cleared f t)) (screen_lent (fresh-screen f) (cleared f u)) (played r) (ap (screen_lent (fresh-screen f)) (same-cleared f t u e)))

-- .. as tables of one size are
pub exact-same : {z : Size} (t u : Tables) → Exact z t → Exact z u → (ws : File) (q : Setup) (bs : List ℕ) → (recording-text ws q t bs).showed ≡ (recording-text ws q u bs).showed
exact-same t u h g ws q bs =
    same_text ws q t u
    (rw (
      h.render,
      h.fills,
      h.depth,
      h.minima,
      h.rows,
      h.painting,
      h.layers,
      h.opacities,
      h.paint-attrs,
      h.layer-attrs,
      h.filter-paints,
      g.render,
      g.fills,
      g.depth,
      g.minima,
      g.rows,
      g.painting,
      g.layers,
      g.opacities,
      g.paint-attrs,
      g.layer-attrs,
      g.filter-paints,
    ) refl)
    bs

-- blank tables are
pub blank_exact : (z : Size) → Exact z (blank z)
blank_exact z =
    record {
      render = length-replicate {A = ℕ} _ 0;
      fills = length-replicate {A = ℕ} _ 0;
      depth = length-replicate {A = ℕ} _ 0;
      minima = length-replicate {A = ℕ} _ 0;
      rows = length-replicate {A = ℕ} _ 0;
      painting = length-replicate {A = ℕ} _ 0;
      layers = length-replicate {A = ℕ} _ 0;
      opacities = length-replicate {A = Float} _ float-0;
      paint-attrs = length-replicate {A = ℕ} _ 0;
      layer-attrs = length-replicate {A = ℕ} _ 0;
      filter-paints = length-replicate {A = ℤ} _ (pos 0);
    }

-- a file's bytes, by the size of its screen
module _ (e : Edition) (fs : List ℕ) (q : Setup) (bs : List ℕ) where
  pub sized-shown : {z : Size} {t : Tables} {x : Showed} {u : Tables} → Ok z ≡ file-size e fs q → Exact z t → file-out x u ≡ recording-text (in-edition e (words-in fs)) q t bs → x ≡ bytes-text e fs q bs
  unfolding bytes-text
  sized-shown {z} {t} i h g =
      rw (← i) (ap (λ (o : FileOut). o.showed) g ∙ exact-same t (blank z) h (blank_exact z) (in-edition e (words-in fs)) q bs)

  pub refused-shown : {r : Refusal} {s : Screen} {x : Showed} → Err r ≡ file-size e fs q → s ≡ nothing → x ≡ refusing (number_of r) s bs → x ≡ bytes-text e fs q bs
  unfolding bytes-text
  refused-shown i p g = rw (← i) (rw p at g)

-- the same slices are as long as they were
pub exact_kept : {z : Size} (a b : Lent) → SameLent a b → Exact z (tables_in a) → Exact z (tables_in b)
exact_kept a b s h =
    record {
      render = ap (λ (n : Lengths). n.render_cmds) s.long ∙ h.render;
      fills = ap (λ (n : Lengths). n.depth_cmds) s.long ∙ h.fills;
      depth = ap (λ (n : Lengths). n.depth) s.long ∙ h.depth;
      minima = ap (λ (n : Lengths). n.minima) s.long ∙ h.minima;
      rows = ap (λ (n : Lengths). n.rows) s.long ∙ h.rows;
      painting = ap (λ (n : Lengths). n.painting) s.long ∙ h.painting;
      layers = ap (λ (n : Lengths). n.layers) s.long ∙ h.layers;
      opacities = ap (λ (n : Lengths). n.opacities) s.long ∙ h.opacities;
      paint-attrs = ap (λ (n : Lengths). n.paint_attrs) s.long ∙ h.paint-attrs;
      layer-attrs = ap (λ (n : Lengths). n.layer_attrs) s.long ∙ h.layer-attrs;
      filter-paints = ap (λ (n : Lengths). n.filter_paints) s.long ∙ h.filter-paints;
    }
