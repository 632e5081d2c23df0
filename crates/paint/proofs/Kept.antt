-- What is refused alters nothing: each painting call leaves every word that it was lent as it was. Assumes nothing.
use Rattle.std.proofs.Common.{◌≡◌, refl, Bool, true, false, cond, not, ◌||◌, List, [], ◌∷◌, Option, None, Some, ℕ, zero, suc, ◌+◌, ◌*◌, ◌/◌, arith, length, eqb, ltb, ne_eqb, eqb-true}
use borrow.Rule.Slice.PartMut.{put_same}
use Rattle.sizes.specs.Sizes.{piece-size}
use Rattle.sizes.specs.Widths.{bucket-tiles}
use Rattle.rules.specs.Answers.{Answer, answer, settle, first_of, Done, BadArena, BadRun, NoRoom}
use Rattle.rules.specs.Spans.{Span, bad-range}
use Rattle.rules.specs.Painting as rules
use Rattle.rules.specs.Depth.{listed, unset-runs, visible-runs, write-runs, unset_answer, visible_answer, write_answer, write-after, written}
use Rattle.rules.proofs.All.{and_left}
use Rattle.rules.proofs.laws.Answers.{settle-kept}
use Rattle.screen.specs.declared.Screen.{Screen}
use Rattle.depth.specs.Listing.{OutWrite, numbers, listing, writing}
use Rattle.rules.specs.Minima.{minima-room, halvings, mended-runs, minima-after}
use Rattle.screen.specs.Depths.{Depths, depths}
use Rattle.paint.specs.Painting.{RowLent, StepOut, attrs-at, next-step, next-minima, settled, painted-row, out, refused, left}
use Rattle.paint.specs.Judging.{wide, runs_number, write_number}
use Rattle.paint.specs.Stepping.{Attributes, part, depth-part, own, in_place, number, row_step, stepped}
use Rattle.paint.specs.Running.{goes_on, ended, one_more, run, most, standing, own-step, call_step, row-painted}
use Rattle.paint.specs.OwnRow.{own-number, own-run, own-row-painted}
use Rattle.paint.specs.DirectRuns.{Wrote, or-runs, unset-of, visible-of, write-of, write-in-place}

abbrev pub Refused : {A : Type 0} → Answer A → Type 0
Refused a = a.number ≡ Done → ⊥

pub unsettled : {A : Type 0} (n : ℕ) (x y : A) → Refused (settle n x y) → (settle n x y).value ≡ x
unsettled n x y q = settle-kept n x y (ne_eqb _ Done q)

-- Runs: a refusal lists none.
abbrev pub Bare : Answer (List Span) → Type 0
Bare a = Refused a → a.value ≡ []

bare-listed : (bad : Bool) (n : ℕ) (rs : List Span) → Bare (listed bad n rs)
bare-listed bad n rs = unsettled (first_of ((bad, BadRun) ∷ (ltb n (length rs), NoRoom) ∷ [])) [] rs

bare-or : (n : ℕ) (a : Answer (List Span)) → Bare a → Bare (or-runs n a)
bare-or n a k = by (eqb n Done)
  where
    by : (b : Bool) → Bare (cond b a (answer n []))
    by true q = k q
    by false q = refl

list-kept : (a : Answer (List Span)) (l : List ℕ) → Bare a → ((listing a l).number ≡ Done → ⊥) → (listing a l).list ≡ l
unfolding listing numbers
list-kept a l k q = rw (k q)

module _ (s : Screen) (r : ℕ) (d : List ℕ) (t : Span) where
  abbrev mine : List ℕ
  mine = part (wide s) r d

  -- what a row's visible runs are, or the number of the refusal
  pub bare-visible : (id n : ℕ) → Bare (or-runs (runs_number s r (length d)) (visible_answer (bucket-tiles s.width) mine id t n))
  unfolding visible_answer
  bare-visible id n = bare-or (runs_number s r (length d)) (visible_answer (bucket-tiles s.width) mine id t n) (bare-listed (bad-range 8192 t) n (visible-runs (bucket-tiles s.width) mine id t))

  pub unset-kept : (l : List ℕ) → ((unset-of s r d t l).number ≡ Done → ⊥) → (unset-of s r d t l).list ≡ l
  unfolding unset-of unset_answer
  unset-kept l =
      list-kept (or-runs (runs_number s r (length d)) (unset_answer (bucket-tiles s.width) mine t (length l / 2))) l
      (bare-or (runs_number s r (length d)) (unset_answer (bucket-tiles s.width) mine t (length l / 2)) (bare-listed (bad-range 8192 t) (length l / 2) (unset-runs (bucket-tiles s.width) mine t)))

  pub visible-kept : (id : ℕ) (l : List ℕ) → ((visible-of s r d t id l).number ≡ Done → ⊥) → (visible-of s r d t id l).list ≡ l
  unfolding visible-of
  visible-kept id l = list-kept (or-runs (runs_number s r (length d)) (visible_answer (bucket-tiles s.width) mine id t (length l / 2))) l (bare-visible id (length l / 2))

-- Writing. A refusal puts the row's own parts back, and leaves the screen.
module _ (s : Screen) (r : ℕ) (d : Depths) (t : Span) where
  abbrev own-part : Depths
  own-part = depth-part (wide s) r d

  abbrev after_write : Depths → Answer (List Span) → List ℕ → Wrote
  after_write w a l =
      write-in-place s r d
      (record { listed = listing a l; depth = cond (eqb a.number Done) w.words own-part.words; minima = cond (eqb a.number Done) w.minima own-part.minima })

  abbrev Unwritten : List ℕ → Wrote → Type 0
  Unwritten l o = (o.listed.list ≡ l) × (o.screen ≡ s) × (o.depth ≡ d)

  after-kept : (w : Depths) (l : List ℕ) (a : Answer (List Span)) → Bare a → ((after_write w a l).listed.number ≡ Done → ⊥) → Unwritten l (after_write w a l)
  unfolding listing numbers
  after-kept w l a k q = (rw (k q), rw (ne_eqb _ _ q), rw (ne_eqb _ _ q, put_same (r * wide s) (wide s) d.words, put_same (r * minima-room (wide s)) (minima-room (wide s)) d.minima))

  module _ (id : ℕ) (l : List ℕ) where
    abbrev count-of : ℕ
    count-of = write_number s r (length d.words) (length d.minima)

    abbrev when-not : ℕ → Wrote
    when-not n = record { listed = listing (answer n []) l; screen = s; depth = d }

    -- of the row's own parts, the minima of the right length or not
    abbrev mended-part : Depths
    mended-part =
        depths (written own-part.words id t)
        (mended-runs (halvings (length own-part.words)) own-part.minima (written own-part.words id t) (write-runs own-part.words t))

    abbrev fits : OutWrite
    fits =
        record {
          listed = listing (write_answer own-part.words id t (length l / 2)) l;
          depth = write-after own-part.words id t (length l / 2);
          minima = minima-after own-part.minima own-part.words id t (length l / 2);
        }

    abbrev unfit : OutWrite
    unfit = record { listed = listing (answer BadArena []) l; depth = own-part.words; minima = own-part.minima }

    part-kept : (b : Bool) → ((write-in-place s r d (cond b fits unfit)).listed.number ≡ Done → ⊥) → Unwritten l (write-in-place s r d (cond b fits unfit))
    unfolding write_answer write-after minima-after listing numbers
    part-kept true q =
        after-kept mended-part l (write_answer own-part.words id t (length l / 2))
        (bare-listed (bad-range (length own-part.words) t || eqb id 0) (length l / 2) (write-runs own-part.words t)) q
    part-kept false q = (refl, refl, rw (put_same (r * wide s) (wide s) d.words, put_same (r * minima-room (wide s)) (minima-room (wide s)) d.minima))

    pub write-kept : ((write-of s r d id t l).listed.number ≡ Done → ⊥) → Unwritten l (write-of s r d id t l)
    unfolding write-of listing numbers
    write-kept q = by (eqb count-of Done) q
      where
        by : (b : Bool) → ((cond b (write-in-place s r d (writing own-part.words own-part.minima id t l)) (when-not count-of)).listed.number ≡ Done → ⊥)
            → Unwritten l (cond b (write-in-place s r d (writing own-part.words own-part.minima id t l)) (when-not count-of))
        by true q = part-kept (eqb (length own-part.minima) (minima-room (length own-part.words))) q
        by false q = (refl, refl, refl)

-- A painting step. What it leaves of the depth words and minima d, the painting words p and the list l
abbrev pub AsLent : StepOut → Depths → List ℕ → List ℕ → Type 0
AsLent o d p l = (o.depth ≡ d) × (o.painting ≡ p) × (o.list ≡ l)

row_kept : (o : Option rules.Painted) (ms : List ℕ) (d : Depths) (p l : List ℕ) → ((settled o ms d p l).answer.number ≡ Done → ⊥) → AsLent (settled o ms d p l) d p l
unfolding settled
row_kept None ms d p l q = (refl, refl, refl)
row_kept (Some o) ms d p l q = by (ltb (length l / piece-size) (length o.pieces)) q
  where
    by : (b : Bool) → ((cond b (out (refused NoRoom) d p l) (left o ms l)).answer.number ≡ Done → ⊥) → AsLent (cond b (out (refused NoRoom) d p l) (left o ms l)) d p l
    by true q = (refl, refl, refl)
    by false q = absurd (q refl)

module _ (s : Screen) (r : ℕ) (a : Attributes) (l : RowLent) where
  placed-kept : (x : StepOut) → AsLent x (depth-part (wide s) r l.depth) (part 2 r l.painting) l.list → AsLent (in_place s r l x) l.depth l.painting l.list
  placed-kept x k = (rw (k.0, put_same (r * wide s) (wide s) l.depth.words, put_same (r * minima-room (wide s)) (minima-room (wide s)) l.depth.minima), rw (k.1, put_same (r * 2) 2 l.painting), k.2)

  pub step-kept : ((stepped s r a l).answer.number ≡ Done → ⊥) → AsLent (stepped s r a l) l.depth l.painting l.list
  unfolding stepped row_step painted-row
  step-kept = by (eqb (number s r a l) Done)
    where
      by : (b : Bool) → ((cond b (row_step s r a l) (out (refused (number s r a l)) l.depth l.painting l.list)).answer.number ≡ Done → ⊥)
          → AsLent (cond b (row_step s r a l) (out (refused (number s r a l)) l.depth l.painting l.list)) l.depth l.painting l.list
      by true q =
          placed-kept (painted-row (bucket-tiles s.width) (attrs-at a.paints s.paint_attrs a.layers s.layer_attrs) (own s r l))
          (row_kept (next-step (bucket-tiles s.width) (attrs-at a.paints s.paint_attrs a.layers s.layer_attrs) (own s r l))
          (next-minima (attrs-at a.paints s.paint_attrs a.layers s.layer_attrs) (own s r l)) (depth-part (wide s) r l.depth) (part 2 r l.painting) l.list q)
      by false q = (refl, refl, refl)

-- A row's steps. After one that is done the call is not refused, ..
pub gone-on : (o : StepOut) → goes_on o.answer ≡ true → o.answer.number ≡ Done
gone-on o e = eqb-true o.answer.number Done (and_left (eqb o.answer.number Done) (not o.answer.finished) e)

late : (k : ℕ) (o : StepOut) → (k ≡ 0 → ⊥) → (ended k o).answer.number ≡ Done
late k o h = rw (ne_eqb k 0 h)

module _ (step : Depths → List ℕ → List ℕ → StepOut) where
  pub on-done : (f k : ℕ) (g : StepOut) → g.answer.number ≡ Done → (run step f (k + 1) g).answer.number ≡ Done
  unfolding run
  on-done zero k g e = e
  on-done (suc f) k g e = by (goes_on (one_more step g).answer) refl (on-done f (k + 1) (one_more step g))
    where
      by : (b : Bool) → goes_on (one_more step g).answer ≡ b → ((one_more step g).answer.number ≡ Done → (run step f (k + 1 + 1) (one_more step g)).answer.number ≡ Done)
          → (cond b (run step f (k + 1 + 1) (one_more step g)) (ended (k + 1) (one_more step g))).answer.number ≡ Done
      by true i more = more (gone-on (one_more step g) i)
      by false i more = late (k + 1) (one_more step g) (λ z. omega (arith, z))

-- .. and a refused first step leaves what it was lent.
module _ (step : Depths → List ℕ → List ℕ → StepOut) (d : Depths) (p l : List ℕ) (keeps : ((step d p l).answer.number ≡ Done → ⊥) → AsLent (step d p l) d p l) where
  abbrev first : StepOut
  first = one_more step (standing d p l)

  first-kept : (first.answer.number ≡ Done → ⊥) → AsLent first d p l
  unfolding one_more
  first-kept q = keeps q

  run-kept : (f : ℕ) → ((run step f 0 (standing d p l)).answer.number ≡ Done → ⊥) → AsLent (run step f 0 (standing d p l)) d p l
  unfolding run
  run-kept zero q = (refl, refl, refl)
  run-kept (suc f) q = by (goes_on first.answer) refl q
    where
      by : (b : Bool) → goes_on first.answer ≡ b → ((cond b (run step f 1 first) (ended 0 first)).answer.number ≡ Done → ⊥) → AsLent (cond b (run step f 1 first) (ended 0 first)) d p l
      by true i q = absurd (q (on-done step f 0 first (gone-on first i)))
      by false i q = first-kept q

pub row-kept : (s : Screen) (r : ℕ) (a : Attributes) (l : RowLent) → ((row-painted s r a l).answer.number ≡ Done → ⊥)
    → AsLent (row-painted s r a l) l.depth l.painting l.list
unfolding row-painted
row-kept s r a l = run-kept (call_step s r a l.state l.render l.fills) l.depth l.painting l.list (step-kept s r a l) most

pub own-kept : (s : Screen) (a : Attributes) (l : RowLent) → ((own-row-painted s a l).answer.number ≡ Done → ⊥)
    → AsLent (own-row-painted s a l) l.depth l.painting l.list
unfolding own-row-painted painted-row
own-kept s a l = by (eqb (own-number s a l) Done)
  where
    by : (b : Bool) → ((cond b (own-run s a l) (out (refused (own-number s a l)) l.depth l.painting l.list)).answer.number ≡ Done → ⊥)
        → AsLent (cond b (own-run s a l) (out (refused (own-number s a l)) l.depth l.painting l.list)) l.depth l.painting l.list
    by true q =
        run-kept (own-step (bucket-tiles s.width) (attrs-at a.paints s.paint_attrs a.layers s.layer_attrs) l.state l.render l.fills) l.depth l.painting l.list
        (row_kept (next-step (bucket-tiles s.width) (attrs-at a.paints s.paint_attrs a.layers s.layer_attrs) l)
        (next-minima (attrs-at a.paints s.paint_attrs a.layers s.layer_attrs) l) l.depth l.painting l.list) most q
    by false q = (refl, refl, refl)
