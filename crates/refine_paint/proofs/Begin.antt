-- Beginning to paint at the words of a canvas is the rules' beginning. Assumes nothing.
use Rattle.std.proofs.Common.{◌≡◌, refl, sym, ap, ◌∙◌, Bool, true, false, ◌&&◌, not, cond, List, [], ◌∷◌, ◌++◌, ℕ, zero, suc, ◌*◌, arith, eqb, length, replicate, length-append, eq-eqb, ne_eqb}
use Rattle.rules.specs.Lists.{join, is-empty}
use Rattle.rules.specs.Answers.{first_of, answer, settle, Done, Open, BadArena, BadViewport, BadRecord}
use Rattle.rules.specs.Boxes as boxes
use Rattle.rules.specs.Rows.{Row}
use Rattle.rules.specs.Plans.{buckets-across, Layer}
use Rattle.rules.specs.Steps as rule
use Rattle.rules.specs.Painting.{Painter, begin}
use Rattle.rules.specs.Calls as calls
use Rattle.rules.specs.Calls.{begin-call, blank}
use Rattle.rules.specs.Minima.{minima-room}
use Rattle.rules.proofs.All.{All, nil, cons, all_map}
use Rattle.rules.proofs.laws.Minima.{length-summary}
use Rattle.row.proofs.RowsLaws.{one_more}
use Rattle.screen.specs.Screens.{good_screen}
use Rattle.screen.specs.Judging as screens
use Rattle.screen.specs.Depths as lent
use Rattle.screen.specs.Depths.{Depths, blank-minima}
use Rattle.refine_steps.specs.Sound.{Sound}
use Rattle.refine_steps.specs.Lent.{screen-of, rows_of}
use Rattle.refine_steps.proofs.Judged.{judged-done}
use Rattle.refine_steps.proofs.Tables.{replicate-add}
use Rattle.paint.specs.Judging.{judged, depths-long, begin_number}
use Rattle.paint.specs.Beginning.{canvas, beginning}
use Rattle.refine_paint.specs.Canvases.{buckets-in, minima-in, standing-in, depth-of, painting-of, canvas-of, WholeCanvas}

good-by : (a b c g : Bool) → first_of ((not a, BadViewport) ∷ (not b, BadArena) ∷ (not (c && g), BadRecord) ∷ []) ≡ 0 → g ≡ true
good-by false b c g e = absurd (omega arith)
good-by true false c g e = absurd (omega arith)
good-by true true false g e = absurd (omega arith)
good-by true true true false e = absurd (omega arith)
good-by true true true true e = refl

screen-good : (s : rule.Screen Row) → Sound s → (b : Bool) → good_screen (screen-of s.state b) ≡ true
unfolding screens.judged
screen-good s h b =
    let v = s.state.frame.viewport in
    good-by (boxes.good_viewport v) (screens.good-rooms (boxes.rows_of v) s.state.frame.c s.state.frame.d (length (rows_of s).render) (length (rows_of s).fills))
    (eqb (length (rows_of s).state) (boxes.rows_of v * 54)) (good_screen (screen-of s.state b)) (judged-done s h b)

-- 2, 1 and 4, where what is lent is long enough
pub judged-0 : (s : rule.Screen Row) → Sound s → (b x y : Bool) → x ≡ true → y ≡ true → judged (screen-of s.state b) x y ≡ 0
unfolding judged
judged-0 s h b x y p q = rw (h.viewport, h.c-room, h.d-room, p, q, screen-good s h b)

-- k words each
pub join-long : (f : Painter → List ℕ) (k : ℕ) {ps : List Painter} → All (λ (p : Painter). length (f p) ≡ k) ps → length (join f ps) ≡ length ps * k
join-long f k nil = sym (zero-times k)
  where
    zero-times : (k : ℕ) → 0 * k ≡ 0
    zero-times k = omega arith
join-long f k (cons {x = p} {xs = ps} e es) = length-append (f p) (join f ps) ∙ rw (e, join-long f k es, one_more (length ps) k)

blank-buckets : (n m : ℕ) → join buckets-in (replicate m (begin n)) ≡ replicate (m * n) 0
blank-buckets n zero = ap (λ (j : ℕ). replicate j 0) (zero-times n)
  where
    zero-times : (k : ℕ) → 0 ≡ 0 * k
    zero-times k = omega arith
blank-buckets n (suc m) = rw (blank-buckets n m, replicate-add {A = ℕ} n (m * n) 0, one_more m n)

blank-summaries : (n m : ℕ) → join minima-in (replicate m (begin n)) ≡ blank-minima m n
unfolding blank-minima
blank-summaries n zero = refl
blank-summaries n (suc m) = ap (λ (ws : List ℕ). minima-in (begin n) ++ ws) (blank-summaries n m)

-- painters that begin have words that are 0, with the minima of such words
pub blank-depth : (n m : ℕ) (d : Depths) → length d.words ≡ m * n → lent.blank m n d ≡ depth-of (replicate m (begin n))
blank-depth n m d e = rw (e, blank-buckets n m, blank-summaries n m)

pub blank-painting : (n m : ℕ) → painting-of (replicate m (begin n)) ≡ replicate (m * 2) 0
blank-painting n zero = refl
blank-painting n (suc m) =
    let z : suc m * 2 ≡ suc (suc (m * 2)) = omega arith in
    rw (z, blank-painting n m)

pub all-standing : (ps : List Painter) → All (λ (p : Painter). length (standing-in p) ≡ 2) ps
all-standing [] = nil
all-standing (p ∷ ps) = cons refl (all-standing ps)

module _ (k : calls.Canvas) (w : WholeCanvas k) where
  abbrev s : rule.Screen Row
  s = k.screen

  abbrev n : ℕ
  n = buckets-across s.state.frame

  pub depth-long : length (depth-of k.painters).words ≡ boxes.rows_of s.state.frame.viewport * n
  depth-long = join-long buckets-in n w.wide ∙ ap (λ (m : ℕ). m * n) (w.count ∙ w.sound.count)

  pub all-summaries : All (λ (p : Painter). length (minima-in p) ≡ minima-room n) k.painters
  all-summaries = all_map (λ p e. length-summary p.buckets ∙ ap minima-room e) w.wide

  pub minima-long : length (depth-of k.painters).minima ≡ boxes.rows_of s.state.frame.viewport * minima-room n
  minima-long = join-long minima-in (minima-room n) all-summaries ∙ ap (λ (m : ℕ). m * minima-room n) (w.count ∙ w.sound.count)

  pub depths-judged : depths-long (screen-of s.state k.begun) (length (depth-of k.painters).words) (length (depth-of k.painters).minima) ≡ true
  depths-judged = let e = eq-eqb _ _ depth-long in let f = eq-eqb _ _ minima-long in rw (e, f)

  pub painting-long : length (painting-of k.painters) ≡ boxes.rows_of s.state.frame.viewport * 2
  painting-long = join-long standing-in 2 (all-standing k.painters) ∙ ap (λ (m : ℕ). m * 2) (w.count ∙ w.sound.count)

  -- the call at the words: the rules' number, the words of the rules' canvas
  pub begin-by : beginning (canvas-of k) ≡ answer (begin-call k).number (canvas-of (begin-call k).value)
  unfolding beginning begin_number begin-call
  begin-by =
      let j = judged-0 s w.sound k.begun _ _ depths-judged (eq-eqb _ _ painting-long) in
      rw j (go s.state.layers)
    where
      same-depth : lent.blank (boxes.rows_of s.state.frame.viewport) n (depth-of k.painters) ≡ depth-of (blank s)
      same-depth = rw (← w.sound.count) (blank-depth n (length s.rows) (depth-of k.painters) (rw w.sound.count depth-long))

      same-painting : replicate (length (painting-of k.painters)) 0 ≡ painting-of (blank s)
      same-painting = rw (painting-long, blank-painting n (length s.rows), w.sound.count)

      go : (ls : List Layer)
          → settle (cond (eqb (length ls) 0) Done Open) (canvas-of k) (canvas (screen-of s.state true) (lent.blank (boxes.rows_of s.state.frame.viewport) n (depth-of k.painters)) (replicate (length (painting-of k.painters)) 0))
          ≡ answer (settle (cond (is-empty ls) Done Open) k (record { screen = s; begun = true; painters = blank s })).number
          (canvas-of (settle (cond (is-empty ls) Done Open) k (record { screen = s; begun = true; painters = blank s })).value)
      go [] = rw (same-depth, same-painting)
      go (l ∷ ls) = rw (ne_eqb (suc (length ls)) 0 (λ e. omega arith))
