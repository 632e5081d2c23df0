-- What a fill's puts do to a screen's rows of words. Assumes nothing.
use Rattle.std.proofs.Common.{◌≡◌, refl, sym, ap, ◌∙◌, Bool, true, false, List, [], ◌∷◌, ◌++◌, Option, None, Some, ℕ, ◌+◌, ◌-◌, ◌*◌, ◌≤◌, ◌<◌, arith, length, get_or}
use Rattle.rules.specs.Lists.{join, change}
use Rattle.rules.specs.Segments.{Segment, Cut, good-segment, cut_in}
use Rattle.rules.specs.Plans.{Put, on, draw-act, draw-puts}
use Rattle.rules.specs.Steps.{do-puts}
use Rattle.rules.proofs.laws.Changes.{change-same, change-at, puts-append}
use Rattle.rules.specs.Spans.{Span}
use Rattle.rules.specs.Commands.{paint-fill}
use Rattle.rules.proofs.All.{never}
use Rattle.sizes.specs.Widths.{bucket-tiles}
use Rattle.row.specs.Words.{Words, words, word, put_command, word-ops, Room, Grown}
use Rattle.row.proofs.WordsLaws.{room-first, grown-refl}
use Rattle.row.specs.Acts.{ensured, acted, unsplit, drawn}
use Rattle.row.proofs.ActsLaws.{drawn-alpha, drawn_plain, drawn-sound, Sound, sound-trans, room_after, acted-sound}
use Rattle.row.specs.Arena.{nowhere, Sizes, sizes, cut, lay, Long}
use Rattle.row.proofs.RowsLaws.{cut-length, lay-cut}
use Rattle.row.specs.Cmds.{Short}
use Rattle.segments.specs.Segs.{seg-at, segs, origin, bounds}
use Rattle.segments.proofs.Laws.{segs-end, segs-first, good-first, good-rest, landed}
use Rattle.fill.specs.declared.rows.FillJob.{FillJob}
use Rattle.fill.specs.Filling.{draws, puts_of, one-put, puts, done, Roomy, none-put, one_more, Fits, FillReady}

-- one command, on a row that has its layers
module _ (v n : ℕ) (s : Span) (i id : ℕ) (w : Words) (h : word 5 w ≡ n) where
  all_there : ensured n w ≡ w
  all_there = let z : n - word 5 w ≡ 0 = omega arith in rw z

  pub drawn-once : (e : Bool) (a : Option ℕ) → unsplit e a ≡ true → drawn v n e s a i id w ≡ put_command (paint-fill s a i) w
  drawn-once e (Some a) u = drawn-alpha v n s i id w e a ∙ ap (put_command (paint-fill s (Some a) i)) all_there
  drawn-once false None u = drawn_plain v n s i id w ∙ ap (put_command (paint-fill s None i)) all_there
  drawn-once true None u = never (sym u)

-- drawing grows a row that has room for it
pub draws-grow : (j : FillJob) (s : Span) (a : Option ℕ) (w : Words) → j.layers ≤ 16 → Room w (draws j s a w) → Grown w (draws j s a w)
draws-grow j s a w m r = (drawn-sound (bucket-tiles j.width) j.layers j.attr j.id s w r.state r.levels m j.eligible a).grown

-- one segment
module _ (j : FillJob) (g : Segment) (rs : List Words) where
  pub one_none : [] ≡ cut_in (origin j.scene) (bounds j.scene) g → done j (puts_of j (cut_in (origin j.scene) (bounds j.scene) g)) rs ≡ rs
  unfolding do-puts draw-puts
  one_none e = rw (← e)

  module _ (k : Cut) (e : k ∷ [] ≡ cut_in (origin j.scene) (bounds j.scene) g) where
    pub one-some : done j (puts_of j (cut_in (origin j.scene) (bounds j.scene) g)) rs ≡ change (draws j k.stretch.tiles k.stretch.alpha) k.row rs
    unfolding do-puts draw-puts
    one-some = rw (← e)

    room_of : Roomy (on (draw-act j.eligible j.attr j.id k.stretch.tiles k.stretch.alpha) k.row ∷ []) rs (change (draws j k.stretch.tiles k.stretch.alpha) k.row rs)
        → k.row < length rs → Room (get_or rs k.row nowhere) (draws j k.stretch.tiles k.stretch.alpha (get_or rs k.row nowhere))
    room_of (one_more r m) h = rw (change-same (draws j k.stretch.tiles k.stretch.alpha) k.row rs nowhere h) at r

    pub one-room : k.row < length rs → Roomy (puts_of j (cut_in (origin j.scene) (bounds j.scene) g)) rs (done j (puts_of j (cut_in (origin j.scene) (bounds j.scene) g)) rs)
        → Room (get_or rs k.row nowhere) (draws j k.stretch.tiles k.stretch.alpha (get_or rs k.row nowhere))
    unfolding draw-puts
    one-room h m = room_of (rw (one-some, ← e) at m) h

-- what is left of a good segment lies on a row, which has room for it
pub on-its-row : (j : FillJob) (n : ℕ) (w : Words) (g : Segment) (k : Cut) → Fits j n w → k ∷ [] ≡ cut_in (origin j.scene) (bounds j.scene) g → good-segment g ≡ true
    → Roomy (puts_of j (cut_in (origin j.scene) (bounds j.scene) g)) (cut (sizes j.c j.d) n w) (done j (puts_of j (cut_in (origin j.scene) (bounds j.scene) g)) (cut (sizes j.c j.d) n w))
    → Fits j n w × (k.row < n) × Short k.stretch.tiles × Room (get_or (cut (sizes j.c j.d) n w) k.row nowhere) (draws j k.stretch.tiles k.stretch.alpha (get_or (cut (sizes j.c j.d) n w) k.row nowhere))
on-its-row j n w g k o e t m =
    let l = landed (origin j.scene) (bounds j.scene) g k t o.starts e in
    let h : k.row < n = omega (arith, l.row, o.bottom) in
    (o, h, (omega (arith, l.order, l.ends), l.ends), one-room j g (cut (sizes j.c j.d) n w) k e (rw (cut-length (sizes j.c j.d) n w) h) m)

-- many segments
roomy-first : (ps qs : List Put) {rs ts : List Words} → Roomy (ps ++ qs) rs ts → Roomy ps rs ts
roomy-first [] qs a = none-put
roomy-first (p ∷ ps) qs (one_more r a) = one_more r (roomy-first ps qs a)

roomy-rest : (ps qs : List Put) {rs ts : List Words} → Roomy (ps ++ qs) rs ts → Roomy qs rs ts
roomy-rest [] qs a = a
roomy-rest (p ∷ ps) qs (one_more r a) = roomy-rest ps qs a

roomy-by : {rs ts rs' ts' : List Words} → ((x : ℕ) → Room (get_or rs x nowhere) (get_or ts x nowhere) → Room (get_or rs' x nowhere) (get_or ts' x nowhere)) → {ps : List Put} → Roomy ps rs ts → Roomy ps rs' ts'
roomy-by f none-put = none-put
roomy-by f (one_more {p = p} r a) = one_more (f p.row r) (roomy-by f a)

pub puts-join : (j : FillJob) (ks ls : List Cut) → puts_of j (ks ++ ls) ≡ puts_of j ks ++ puts_of j ls
unfolding draw-puts
puts-join j [] ls = refl
puts-join j (k ∷ ks) ls = ap (λ (t : List Put). on (draw-act j.eligible j.attr j.id k.stretch.tiles k.stretch.alpha) k.row ∷ t) (puts-join j ks ls)

module _ (j : FillJob) (m : j.layers ≤ 16) where
  pub done-append : (ps qs : List Put) (rs : List Words) → done j (ps ++ qs) rs ≡ done j qs (done j ps rs)
  done-append ps qs rs = puts-append Words word-ops (bucket-tiles j.width) j.layers ps qs rs

  -- a row that is sound stays so through any puts
  pub done-sound : (ps : List Put) (rs : List Words) (x : ℕ) → length (get_or rs x nowhere).state ≡ 54 → word 5 (get_or rs x nowhere) ≤ 16 → Sound (get_or rs x nowhere) (get_or (done j ps rs) x nowhere)
  unfolding do-puts
  done-sound [] rs x l k = record { grown = grown-refl (get_or rs x nowhere); levels = k }
  done-sound (p ∷ ps) rs x l k =
      let f : Words → Words = acted (bucket-tiles j.width) j.layers p.act in
      let s : Sound (get_or rs x nowhere) (get_or (change f p.row rs) x nowhere) =
      change-at (λ (u : Words). Sound (get_or rs x nowhere) u) f p.row x rs nowhere
      (record { grown = grown-refl (get_or rs x nowhere); levels = k })
      (acted-sound (bucket-tiles j.width) j.layers (get_or rs x nowhere) l k m p.act) in
      sound-trans s (done-sound ps (change f p.row rs) x (s.grown.state ∙ l) s.levels)

  -- room for all puts is room for the first, and after them for the rest
  pub room-one : (ps qs : List Put) (rs : List Words) → Roomy (ps ++ qs) rs (done j (ps ++ qs) rs) → Roomy ps rs (done j ps rs)
  room-one ps qs rs a =
      roomy-by
      (λ x r.
      let s = done-sound ps rs x r.state r.levels in
      let t = done-sound qs (done j ps rs) x (s.grown.state ∙ r.state) s.levels in
      room-first t.grown (rw (done-append ps qs rs) at r))
      (roomy-first ps qs a)

  pub room-more : (ps qs : List Put) (rs : List Words) → Roomy (ps ++ qs) rs (done j (ps ++ qs) rs) → Roomy qs (done j ps rs) (done j qs (done j ps rs))
  room-more ps qs rs a =
      roomy-by (λ x r. room_after (done-sound ps rs x r.state r.levels) (rw (done-append ps qs rs) at r)) (roomy-rest ps qs a)

-- the loop over the segments from a to b, at segment i, on its way from the words w₀
pub record Filling (j : FillJob) (n : ℕ) (ws : List ℕ) (a b : ℕ) (w₀ : Words) (i : ℕ) (w : Words) : Type 0 where
  pub rest : FillReady j n ws i b w
  pub all : done j (puts j ws i (b - i)) (cut (sizes j.c j.d) n w) ≡ done j (puts j ws a (b - a)) (cut (sizes j.c j.d) n w₀)

module _ {j : FillJob} {n : ℕ} {ws : List ℕ} {a b : ℕ} {w₀ : Words} {i : ℕ} {w : Words} (v : Filling j n ws a b w₀ i w) where
  pub filled : b ≤ i → w ≡ lay (done j (puts j ws a (b - a)) (cut (sizes j.c j.d) n w₀))
  unfolding do-puts draw-puts
  filled h =
      let e : cut (sizes j.c j.d) n w ≡ done j (puts j ws a (b - a)) (cut (sizes j.c j.d) n w₀) = rw (segs-end ws i b h) at v.all in
      sym (lay-cut (sizes j.c j.d) n w v.rest.fits.arenas.long) ∙ ap lay e

  module _ (h : i < b) where
    split-puts : puts j ws i (b - i) ≡ one-put j ws i ++ puts j ws (i + 1) (b - (i + 1))
    split-puts = rw (segs-first ws i b h) (puts-join j (cut_in (origin j.scene) (bounds j.scene) (seg-at ws i)) (join (cut_in (origin j.scene) (bounds j.scene)) (segs ws (i + 1) (b - (i + 1)))))

    split-room : Roomy (one-put j ws i ++ puts j ws (i + 1) (b - (i + 1))) (cut (sizes j.c j.d) n w) (done j (one-put j ws i ++ puts j ws (i + 1) (b - (i + 1))) (cut (sizes j.c j.d) n w))
    split-room = rw split-puts at v.rest.room

    pub good-here : good-segment (seg-at ws i) ≡ true
    good-here = good-first ws i b h v.rest.good

    pub room-here : Roomy (one-put j ws i) (cut (sizes j.c j.d) n w) (done j (one-put j ws i) (cut (sizes j.c j.d) n w))
    room-here = room-one j v.rest.fits.layers (one-put j ws i) (puts j ws (i + 1) (b - (i + 1))) (cut (sizes j.c j.d) n w) split-room

    pub again : (u : Words) → Long (sizes j.c j.d) n u → cut (sizes j.c j.d) n u ≡ done j (one-put j ws i) (cut (sizes j.c j.d) n w) → Filling j n ws a b w₀ (i + 1) u
    again u l e =
        let o = v.rest.fits in
        record {
          rest =
              record {
                fits = record { arenas = record { rows = o.arenas.rows; c = o.arenas.c; d = o.arenas.d; long = l }; layers = o.layers; starts = o.starts; bottom = o.bottom };
                before = omega arith;
                within = v.rest.within;
                good = good-rest ws i b h v.rest.good;
                room = rw e (room-more j o.layers (one-put j ws i) (puts j ws (i + 1) (b - (i + 1))) (cut (sizes j.c j.d) n w) split-room);
              };
          all = rw e (sym (done-append j o.layers (one-put j ws i) (puts j ws (i + 1) (b - (i + 1))) (cut (sizes j.c j.d) n w)) ∙ (rw split-puts at v.all));
        }

-- a list of one segment
module _ {j : FillJob} {n : ℕ} {ws : List ℕ} {i : ℕ} {w : Words} (v : FillReady j n ws i (i + 1) w) where
  sets-off : Filling j n ws i (i + 1) w i w
  sets-off = record { rest = v; all = refl }

  pub alone-asks : (5 * i + 5 ≤ length ws) × (good-segment (seg-at ws i) ≡ true)
  alone-asks = (omega (arith, v.within), good-here sets-off (omega arith))

  pub alone-room : Roomy (one-put j ws i) (cut (sizes j.c j.d) n w) (done j (one-put j ws i) (cut (sizes j.c j.d) n w))
  alone-room = room-here sets-off (omega arith)

  pub alone-done : (u : Words) → Long (sizes j.c j.d) n u → cut (sizes j.c j.d) n u ≡ done j (one-put j ws i) (cut (sizes j.c j.d) n w)
      → u ≡ lay (done j (puts j ws i (i + 1 - i)) (cut (sizes j.c j.d) n w))
  alone-done u l e = filled (again sets-off (omega arith) u l e) (omega arith)

pub long_after : {k : Sizes} {n : ℕ} {w : Words} (x y z : List ℕ) → Long k n w → length x ≡ length w.state → length y ≡ length w.render → length z ≡ length w.fills → Long k n (words x y z)
long_after x y z l p q r = record { state = p ∙ l.state; render = q ∙ l.render; fills = r ∙ l.fills }
