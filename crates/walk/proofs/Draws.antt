-- A run of draws: a list of fills on a part of what is lent is the run on the whole.
use Rattle.std.proofs.Common.{ℕ, zero, suc, ◌+◌, ◌-◌, ◌*◌, ◌/◌, ◌≤◌, ◌<◌, ◌≡◌, refl, sym, ap, ◌∙◌, arith, Bool, true, false, cond, List, [], length, get_or, eqb, eqb-true, eq-eqb, le-leb}
use Rattle.sizes.specs.declared.edition.Edition.{Edition}
use Rattle.sizes.specs.Editions.{draw-size}
use Rattle.rules.specs.Lists.{slice, every}
use Rattle.rules.specs.Spans.{good-range}
use Rattle.rules.specs.Segments.{good-segment, ordered, judge-segments}
use Rattle.rules.proofs.All.{both}
use Rattle.rules.specs.Answers.{Answer, answer}
use Rattle.rules.specs.Inputs as rule
use Rattle.rules.specs.Inputs.{draw-segments, good-fill}
use Rattle.rules.specs.Recording.{Recording, draw-rec, good-records, good-order, good-clip-order}
use Rattle.segments.specs.Segs.{segs, segs-of}
use Rattle.file.proofs.Laws.{record-facts, good-draw-at}
use Rattle.file.proofs.Counted.{every-getD}
use Rattle.file.proofs.Listed.{range-judged}
use Rattle.rules.specs.Walk.{◌then◌, each, go_on}
use Rattle.screen.specs.Tables.{ScreenLent}
use Rattle.inputs.specs.declared.Draw.{Draw}
use Rattle.inputs.specs.Inputs.{draw-of}
use Rattle.inputs.specs.Draws.{draw_at}
use Rattle.fill.specs.Fills.{FillLent, filled, paints-of}
use Rattle.fill.specs.Named.{KnownDraw}
use Rattle.fill.proofs.Inputs.{draw-facts}
use Rattle.fill.specs.Lists.{FillsOut, draws_in, fills_in_order}
use Rattle.fill.proofs.DoneOnes.{in-order-each}
use Rattle.walk.specs.Reading.{draw_in}
use Rattle.walk.specs.Steps.{fill-part, fill-into, with_value, draw_step}
use Rattle.walk.proofs.Calls.{fill_step}
use Rattle.walk.proofs.Lists.{Lent, paints-lent, same_filled}
use Rattle.walk.proofs.Runs.{ended, refused, turned}

abbrev pub some-draw : rule.Draw
some-draw = draw-rec []

module _ (r : Recording) (e : Edition) (ws ps ss : List ℕ) (k : Lent r ps ss)
    (there : (i : ℕ) (d : rule.Draw) → i < length r.draws → draw-of (draw_at e ws (draw-size e * i)) ≡ get_or r.draws i d) where
  abbrev one : Draw → FillLent → Answer FillLent
  one d x = filled x ps ss d

  -- of a recording whose records are good and whose lists are in order each draw is known
  module _ (few : length r.paints ≤ 4096) (good : good-records r ≡ true) (order : good-order r ≡ true) where
    draw-order : (i : ℕ) {d : rule.Draw} → i < length r.draws → d ≡ get_or r.draws i some-draw → ordered (draw-segments r.segments d) ≡ true
    unfolding good-order
    draw-order i h q =
        let o = both (every (λ (d : rule.Draw). ordered (draw-segments r.segments d)) r.draws) (every (good-clip-order r) r.layers) order in
        rw q (every-getD (λ (d : rule.Draw). ordered (draw-segments r.segments d)) r.draws i some-draw h o.0)

    draw-good : (i : ℕ) {d : rule.Draw} → i < length r.draws → d ≡ get_or r.draws i some-draw → good-fill r.paints r.segments d ≡ true
    draw-good i h q = rw (q, le-leb (length r.paints) 4096 few) (good-draw-at r good i some-draw h)

    pub known : (i : ℕ) → i < length r.draws → KnownDraw ps ss (draw_at e ws (draw-size e * i))
    known i h =
        let x = draw_at e ws (draw-size e * i) in
        let q = there i some-draw h in
        let f : good-fill (paints-of ps) (segs-of ss) (draw-of x) ≡ true = rw (paints-lent r ps k.paints k.paints-long, k.segments) (draw-good i h q) in
        let y = draw-facts ps ss x f in
        let g : good-range x.start x.end (length ss / 5) ≡ true = rw (le-leb x.start x.end y.range, le-leb x.end (length ss / 5) y.ends) refl in
        let s : every good-segment (segs-of ss) ≡ true = rw k.segments (record-facts r good).segments in
        let o : ordered (slice x.start x.end (segs-of ss)) ≡ true = rw k.segments (draw-order i h q) in
        record { fill = f; list = eqb-true (judge-segments false (segs ss x.start (x.end - x.start))) 0 (range-judged ss x.start x.end g s ∙ o) }

  -- the fill of draw i is the recording's step
  one-step : (i : ℕ) (l : ScreenLent) → i < length r.draws
      → let a = one (draw_at e ws (draw-size e * i)) (fill-part l) in answer a.number (fill-into l.tables a.value) ≡ draw_step r (get_or r.draws i some-draw) l
  one-step i l h =
      fill_step l _ r (get_or r.draws i some-draw) _
      (same_filled r (fill-part l) ps ss k (ap draw_in (there i some-draw h)))

  run : (n i b : ℕ) (l : ScreenLent) → b ≡ i + n → b ≤ length r.draws
      → with_value (fill-into l.tables) (each one (draws_in e ws i n) (fill-part l)) ≡ each (draw_step r) (slice i b r.draws) l
  unfolding each draws_in ◌then◌
  run zero i b l h q = sym (ended (draw_step r) r.draws i b l (omega arith))
  run (suc n) i b l h q = go (eqb a.number 0) refl (λ y. run n (i + 1) b y (omega arith) q)
    where
      a : Answer FillLent
      a = one (draw_at e ws (draw-size e * i)) (fill-part l)

      go : (t : Bool) → eqb a.number 0 ≡ t
          → ((y : ScreenLent) → with_value (fill-into y.tables) (each one (draws_in e ws (i + 1) n) (fill-part y)) ≡ each (draw_step r) (slice (i + 1) b r.draws) y)
          → with_value (fill-into l.tables) (go_on t a (each one (draws_in e ws (i + 1) n))) ≡ each (draw_step r) (slice i b r.draws) l
      go true z m = m (fill-into l.tables a.value) ∙ sym (turned (draw_step r) r.draws i b l some-draw (omega arith) q _ _ (one-step i l (omega arith)) (eqb-true a.number 0 z))
      go false z m =
          refused (draw_step r) r.draws i b l some-draw (omega arith) q _ _ (one-step i l (omega arith))
          (λ y. let w : ◌≡◌ {A = ℕ} 1 0 = ap (λ (x : Bool). cond x 0 1) (sym z ∙ eq-eqb a.number 0 y) in omega arith)

  -- what the list of fills gave
  pub walked : (i b : ℕ) (l : ScreenLent) → i ≤ b → b ≤ length r.draws → (o : FillsOut) → o ≡ fills_in_order ps ss (draws_in e ws i (b - i)) (fill-part l)
      → answer o.number (fill-into l.tables o.value) ≡ each (draw_step r) (slice i b r.draws) l
  walked i b l h q o w =
      ap (λ (x : FillsOut). answer x.number (fill-into l.tables x.value)) w
      ∙ ap (with_value (fill-into l.tables)) (in-order-each ps ss (draws_in e ws i (b - i)) (fill-part l))
      ∙ run (b - i) i b l (omega arith) q
