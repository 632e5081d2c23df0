-- A done building call, whatever words it was lent, is the step that these words say; and every step of the rules is such a call. A list that
-- is no number of whole records is refused, and the calls read no more of a list than what it says. Assumes nothing.
use Rattle.std.proofs.Common.{ℕ, zero, suc, ◌+◌, ◌*◌, ◌/◌, ◌%◌, arith, ◌≡◌, refl, sym, ap, ◌∙◌, Bool, true, false, ◌&&◌, not, cond, List, [], ◌∷◌, eqb, length, get_or, eqb-true}
use borrow.Author.Tests.{eqb-false}
use Rattle.sizes.specs.Sizes.{paint-attr-table, layer-attr-table, open-layer-table, opacity-count}
use Rattle.rules.specs.Lists.{join}
use Rattle.rules.specs.Answers.{first_of, Done, BadRecord}
use Rattle.rules.specs.Words.{paint-words, segment-words}
use Rattle.rules.specs.Inputs.{Props}
use Rattle.rules.specs.Plans.{Plan, a-push}
use Rattle.rules.specs.Steps.{Screen, refusal, done}
use Rattle.rules.proofs.All.{both, never}
use Rattle.row.specs.Words.{Words, word-ops}
use Rattle.row.specs.Building.{step_number}
use Rattle.rect.specs.Rects.{box_of}
use Rattle.segments.specs.Segs.{segs, segs-of}
use Rattle.screen.specs.declared.Screen as shown
use Rattle.screen.specs.Judging.{judged}
use Rattle.screen.specs.Tables.{ScreenLent}
use Rattle.screen.specs.declared.layers.LayerProps.{LayerProps}
use Rattle.inputs.specs.declared.Draw.{Draw}
use Rattle.fill.specs.Fills as fills
use Rattle.fill.specs.Fills.{paints, paints-of, filled, fill_number, fill_done, first_number}
use Rattle.layers.specs.Push as push
use Rattle.layers.specs.Push.{pushed, push-number}
use Rattle.pop.specs.Pop as pop
use Rattle.pop.specs.Pop.{popped, first, number-after, number, good_lengths, good-open}
use Rattle.layers.specs.Filter as filter
use Rattle.layers.specs.Filter.{FilterGiven, filtered, filter-number}
use Rattle.walk.specs.Reading.{props_in}
use Rattle.rules.proofs.laws.Answers.{settle-number, settle-kept}
use Rattle.walk.specs.Steps.{rows_words, fill-part, fill-into, push-part, push-into, pop-part, pop-into, filter-part, filter-into, with_value, call_at}
use Rattle.walk.proofs.Calls.{same-fill, same-pop}
use Rattle.walk.proofs.Lists.{paints-words-length, segments-words-length, paints-said, segments-said}
use Rattle.theorem_picture.specs.Calls.{fill-at, push_at, pop-at, filter-at, fill-said, pop-said, filter-said}

-- a done step has passed its first tests
first_done : (k : ℕ) (g : Bool) (p : Plan) (s : Screen Words) → step_number k g p s ≡ Done → k ≡ Done
unfolding step_number
first_done k g p s e = go (eqb k Done) refl e
  where
    go : (b : Bool) → eqb k Done ≡ b → cond b (cond g (refusal Words word-ops p (done Words word-ops p s)) BadRecord) k ≡ Done → k ≡ Done
    go true q z = eqb-true k Done q
    go false q z = z

-- .. which are what the screen says, then a test of lengths
tested : (n : ℕ) (g : Bool) → cond (eqb n Done) (cond g Done BadRecord) n ≡ Done → g ≡ true
tested n g e = go (eqb n Done) refl e
  where
    inner : (c : Bool) → cond c Done BadRecord ≡ Done → c ≡ true
    inner true z = refl
    inner false z = absurd (omega arith)

    go : (b : Bool) → eqb n Done ≡ b → cond b (cond g Done BadRecord) n ≡ Done → g ≡ true
    go true q z = inner g z
    go false q z = absurd (eqb-false n Done q z)

tested-second : (n : ℕ) (g h : Bool) → first_of ((not (eqb n Done), n) ∷ (not g, BadRecord) ∷ (not h, BadRecord) ∷ []) ≡ Done → g ≡ true
tested-second n g h e = go (eqb n Done) refl g e
  where
    go : (b : Bool) → eqb n Done ≡ b → (c : Bool) → first_of ((not b, n) ∷ (not c, BadRecord) ∷ (not h, BadRecord) ∷ []) ≡ Done → c ≡ true
    go true q true z = refl
    go true q false z = absurd (omega arith)
    go false q c z = absurd (eqb-false n Done q z)

-- how many records are read
paints-count : (ws : List ℕ) (i k : ℕ) → length (paints ws i k) ≡ k
unfolding paints
paints-count ws i zero = refl
paints-count ws i (suc k) = rw (paints-count ws (i + 1) k)

segs-count : (ws : List ℕ) (i k : ℕ) → length (segs ws i k) ≡ k
unfolding segs
segs-count ws i zero = refl
segs-count ws i (suc k) = rw (segs-count ws (i + 1) k)

-- words of whole records are as many as those that say the same records
paints-long : (ps : List ℕ) → length ps % 4 ≡ 0 → length ps ≡ length (join paint-words (paints-of ps))
paints-long ps h = rw (paints-words-length (paints-of ps), paints-count ps 0 (length ps / 4)) (omega (arith, h))

segs-long : (ss : List ℕ) → length ss % 5 ≡ 0 → length ss ≡ length (join segment-words (segs-of ss))
segs-long ss h = rw (segments-words-length (segs-of ss), segs-count ss 0 (length ss / 5)) (omega (arith, h))

-- a done fill is lent whole records
module _ (l : fills.FillLent) (ps ss : List ℕ) (d : Draw) where
  fill-lists : (filled l ps ss d).number ≡ Done → (length ps % 4 ≡ 0) × (length ss % 5 ≡ 0)
  unfolding fill_number first_number
  fill-lists e =
      let n = sym (settle-number (fill_number l ps ss d) l (fill_done l ps ss d)) ∙ e in
      let w = l.words in
      let g = tested (judged l.screen (length w.state) (length w.render) (length w.fills)) _ (first_done _ _ _ _ n) in
      let a = both (eqb (length l.paint-attrs) paint-attr-table && eqb (length ps % 4) 0) (eqb (length ss % 5) 0) g in
      (eqb-true _ _ (both (eqb (length l.paint-attrs) paint-attr-table) (eqb (length ps % 4) 0) a.0).1, eqb-true _ _ a.1)

-- a fill that is lent whole records is the step, refused or done
pub fill-whole : (ps ss : List ℕ) (d : Draw) (l : ScreenLent) → length ps % 4 ≡ 0 → length ss % 5 ≡ 0 → fill-at ps ss d l ≡ call_at (fill-said ps ss d) l
unfolding fill-at call_at
fill-whole ps ss d l p s =
    ap (with_value (fill-into l.tables))
    (same-fill (fill-part l) ps (join paint-words (paints-of ps)) ss (join segment-words (segs-of ss)) d
    (sym (paints-said (paints-of ps))) (paints-long ps p) (sym (segments-said (segs-of ss))) (segs-long ss s))

pub fill-steps : (ps ss : List ℕ) (d : Draw) (l : ScreenLent) → (fill-at ps ss d l).number ≡ Done → fill-at ps ss d l ≡ call_at (fill-said ps ss d) l
fill-steps ps ss d l e =
    let h = fill-lists (fill-part l) ps ss d (unfold fill-at in e) in
    fill-whole ps ss d l h.0 h.1

-- the shift words are read by no rule
module _ (ps qs : List ℕ) (f : (i : ℕ) → get_or ps (4 * i) 0 ≡ get_or qs (4 * i) 0) (h : (i : ℕ) → get_or ps (4 * i + 1) 0 ≡ get_or qs (4 * i + 1) 0) where
  same-paints : (i k : ℕ) → paints ps i k ≡ paints qs i k
  unfolding paints
  same-paints i zero = refl
  same-paints i (suc k) = rw (f i, h i, same-paints (i + 1) k)

  pub shifts-free : length ps ≡ length qs → (ss : List ℕ) (d : Draw) → fill-said ps ss d ≡ fill-said qs ss d
  shifts-free e ss d = rw (e, same-paints 0 (length qs / 4))

-- a push is the step whose properties it is given
pub push-steps : (p : LayerProps) (q : Props) → p ≡ props_in q → (l : ScreenLent) → push_at p l ≡ call_at (a-push q) l
unfolding push_at call_at
push-steps p q e l = rw e

-- a done pop is lent whole records
module _ (n : ℕ) (s u : shown.Screen) (l m : pop.PopLent) where
  pop-number : (cond (eqb n Done) (pop.out Done s l) (pop.out n u m)).number ≡ n
  pop-number = go (eqb n Done) refl
    where
      go : (b : Bool) → eqb n Done ≡ b → (cond b (pop.out Done s l) (pop.out n u m)).number ≡ n
      go true q = sym (eqb-true n Done q)
      go false q = refl

  pop-same : eqb (cond (eqb n Done) (pop.out Done s l) (pop.out n u m)).number Done ≡ false → cond (eqb n Done) (pop.out Done s l) (pop.out n u m) ≡ pop.out n u m
  pop-same = go (eqb n Done)
    where
      go : (b : Bool) → eqb (cond b (pop.out Done s l) (pop.out n u m)).number Done ≡ false → cond b (pop.out Done s l) (pop.out n u m) ≡ pop.out n u m
      go true e = never e
      go false e = refl

pop-list : (l : ScreenLent) (ss : List ℕ) → (popped l.screen (pop-part l) ss).number ≡ Done → length ss % 5 ≡ 0
unfolding popped number-after first good_lengths
pop-list l ss e =
    let w = rows_words l.tables in
    let n = sym (pop-number (number l.screen (pop-part l) ss) _ _ _ _) ∙ e in
    let g = tested-second (judged l.screen (length w.state) (length w.render) (length w.fills)) _ (good-open (box_of l.screen.viewport) l.tables.layers l.screen.layers) (first_done _ _ _ _ n) in
    eqb-true _ _ (both (eqb (length l.tables.layers) open-layer-table && eqb (length l.tables.opacities) opacity-count && eqb (length l.tables.layer-attrs) layer-attr-table) (eqb (length ss % 5) 0) g).1

pub pop-whole : (ss : List ℕ) (l : ScreenLent) → length ss % 5 ≡ 0 → pop-at ss l ≡ call_at (pop-said ss) l
unfolding pop-at call_at
pop-whole ss l h =
    ap (pop-into l.tables)
    (same-pop l.screen (pop-part l) ss (join segment-words (segs-of ss)) (sym (segments-said (segs-of ss))) (segs-long ss h))

pub pop-steps : (ss : List ℕ) (l : ScreenLent) → (pop-at ss l).number ≡ Done → pop-at ss l ≡ call_at (pop-said ss) l
pop-steps ss l e = pop-whole ss l (pop-list l ss (unfold pop-at in e))

-- a filter fill is lent no list
pub filter_steps : (g : FilterGiven) (l : ScreenLent) → filter-at g l ≡ call_at (filter-said g) l
unfolding filter-at call_at
filter_steps g l = refl

-- What is refused alters no word, whatever was lent.
module _ (l : ScreenLent) where
  pub fill-kept : (ps ss : List ℕ) (d : Draw) → eqb (fill-at ps ss d l).number Done ≡ false → (fill-at ps ss d l).value ≡ l
  unfolding fill-at
  fill-kept ps ss d e = ap (fill-into l.tables) (settle-kept (fill_number (fill-part l) ps ss d) (fill-part l) (fill_done (fill-part l) ps ss d) e)

  pub push_kept : (p : LayerProps) → eqb (push_at p l).number Done ≡ false → (push_at p l).value ≡ l
  unfolding push_at pushed
  push_kept p e = ap (push-into l.tables) (settle-kept (push-number p (push-part l)) (push-part l) (push.after p (push-part l)) e)

  pub pop_kept : (ss : List ℕ) → eqb (pop-at ss l).number Done ≡ false → (pop-at ss l).value ≡ l
  unfolding pop-at popped
  pop_kept ss e =
      ap (λ (o : pop.PopOut). (pop-into l.tables o).value) (pop-same (number l.screen (pop-part l) ss) _ _ _ _ e)

  pub filter-kept : (g : FilterGiven) → eqb (filter-at g l).number Done ≡ false → (filter-at g l).value ≡ l
  unfolding filter-at filtered
  filter-kept g e =
      ap (filter-into l.tables) (settle-kept (filter-number g (filter-part l)) (filter-part l) (filter.after g (filter-part l)) e)
