-- Where the rules' walk of a recording is done, so is its walk with room for everything, by the same steps.
use Rattle.std.proofs.Common.{ℕ, zero, suc, ◌-◌, arith, ◌≡◌, refl, sym, ◌∙◌, ap, false, Option, None, Some, List, [], ◌∷◌, map, length, replicate, le-ltb, eq-eqb}
use mathlib.Core.List.{foldl}
use Rattle.rules.specs.Lists.{change, times}
use Rattle.rules.specs.Answers.{Answer, answer, settle, Done}
use Rattle.rules.specs.Spans.{Span}
use Rattle.rules.specs.Boxes.{rows_of}
use Rattle.rules.specs.Split.{Part, regular, buckets, split}
use Rattle.rules.specs.Commands.{Command, paint-fill, layer-fill}
use Rattle.rules.specs.Rows.{Row, Level, row-ops, fresh-row, include, adds, put-command, put-push-buf, pop-levels, put-pop-buf, put-depth-fill}
use Rattle.rules.specs.Plans.{bucket, Step, Act, paint, opaque, touch, close, pop, Put, Plan, plan}
use Rattle.rules.specs.Steps.{Screen, reset, put-part, ensure, do-act, do-puts, done, row-passes, passes, refusal, perform, touched, call}
use Rattle.rules.specs.Logged.{Logged, logged-call, walk-logged}
use Rattle.rules.specs.Roomless.{buffers-alone}
use Rattle.rules.proofs.laws.Answers.{settle-number}
use Rattle.rules.proofs.Follows.{Agrees, walk-agrees}
use Rattle.rules_picture.specs.Roomless.{Roomless-done}
use Rattle.rules_picture.proofs.Stepped.{call-done}
use Rattle.rules_picture.proofs.Limits.{Limits, limit, call-limits}

-- the open buffers of a row
abbrev levels : Row → ℕ
levels r = length r.levels

include-length : (o : Option Span) (ls : List Level) → length (include o ls) ≡ length ls
include-length None ls = refl
include-length (Some s) [] = refl
include-length (Some s) (l ∷ ls) = refl

put-levels : (c : Command) (r : Row) → levels (put-command c r) ≡ levels r
unfolding put-command
put-levels c r = include-length (adds c) r.levels

pushes-levels : (k : ℕ) (r : Row) → levels (times k put-push-buf r) ≡ times k (λ n. suc n) (levels r)
unfolding put-push-buf
pushes-levels zero r = refl
pushes-levels (suc k) r = pushes-levels k (put-push-buf r)

pop-levels-less : (ls : List Level) (r : Row) → length r.levels ≡ length ls → levels (pop-levels ls r) ≡ length ls - 1
pop-levels-less [] r e = e
pop-levels-less (l ∷ ls) r e = omega arith

module _ (w n : ℕ) where
  parts-levels : (i id : ℕ) (ps : List Part) (r : Row) → levels (foldl (put-part Row row-ops w i id) r ps) ≡ foldl (put-part ℕ buffers-alone w i id) (levels r) ps
  unfolding put-command put-depth-fill
  parts-levels i id [] r = refl
  parts-levels i id (regular s ∷ ps) r = parts-levels i id ps _ ∙ ap (λ (m : ℕ). foldl (put-part ℕ buffers-alone w i id) m ps) (put-levels (paint-fill s None i) r)
  parts-levels i id (buckets b ∷ ps) r = parts-levels i id ps _

  act-levels : (a : Act) (r : Row) → levels (do-act Row row-ops w n a r) ≡ do-act ℕ buffers-alone w n a (levels r)
  unfolding do-act put-pop-buf
  act-levels (paint s a i) r = put-levels (paint-fill s a i) (ensure Row row-ops n r) ∙ pushes-levels (n - levels r) r
  act-levels (opaque s i id) r = parts-levels i id (split w s) (ensure Row row-ops n r) ∙ ap (λ (m : ℕ). foldl (put-part ℕ buffers-alone w i id) m (split w s)) (pushes-levels (n - levels r) r)
  act-levels touch r = pushes-levels (n - levels r) r
  act-levels (close s a i) r = put-levels (layer-fill s a i) r
  act-levels pop r = pop-levels-less r.levels r refl

  change-levels : (a : Act) (i : ℕ) (rs : List Row) → map levels (change (do-act Row row-ops w n a) i rs) ≡ change (do-act ℕ buffers-alone w n a) i (map levels rs)
  change-levels a i [] = refl
  change-levels a zero (r ∷ rs) = ap (λ (m : ℕ). m ∷ map levels rs) (act-levels a r)
  change-levels a (suc i) (r ∷ rs) = ap (λ (ms : List ℕ). levels r ∷ ms) (change-levels a i rs)

  puts-levels : (ps : List Put) (rs : List Row) → map levels (do-puts Row row-ops w n ps rs) ≡ do-puts ℕ buffers-alone w n ps (map levels rs)
  unfolding do-puts
  puts-levels [] rs = refl
  puts-levels (p ∷ ps) rs = puts-levels ps _ ∙ ap (do-puts ℕ buffers-alone w n ps) (change-levels p.act p.row rs)

touched-levels : (n i : ℕ) (rs : List Row) → touched Row row-ops n i rs ≡ touched ℕ buffers-alone n i (map levels rs)
unfolding touched
touched-levels n i [] = refl
touched-levels n i (r ∷ rs) = rw (touched-levels n (suc i) rs)

-- a row of these is never full
never-full : (n : ℕ) (ps : List Put) (rs : List ℕ) → passes ℕ buffers-alone (λ (m : ℕ). 0) n ps rs ≡ false
unfolding passes
never-full n [] rs = refl
never-full n (p ∷ ps) rs = rw (one p.row rs, never-full n ps rs)
  where
    one : (i : ℕ) (rs : List ℕ) → row-passes ℕ buffers-alone (λ (m : ℕ). 0) n i rs ≡ false
    one i [] = refl
    one zero (r ∷ rs) = le-ltb n 0 (omega arith)
    one (suc i) (r ∷ rs) = one i rs

-- a screen with its open buffers alone
abbrev small : Screen Row → Screen ℕ
small s = record { state = s.state; rows = map levels s.rows }

done-small : (p : Plan) (s : Screen Row) → done ℕ buffers-alone p (small s) ≡ small (done Row row-ops p s)
unfolding done
done-small p s = rw (puts-levels (bucket s.state.frame) (length p.layers) p.puts s.rows)

-- the limits alone refuse here what is not refused for its own inputs
refused-by : (p : Plan) (t : Screen ℕ) → refusal ℕ buffers-alone p t ≡ limit p
unfolding refusal
refused-by p t = rw (never-full t.state.frame.c p.puts t.rows, never-full t.state.frame.d p.puts t.rows)

not-refused : (p : Plan) (t : Screen ℕ) → p.refused ≡ Done → Limits p → refusal ℕ buffers-alone p t ≡ Done
not-refused p t e l = refused-by p t ∙ rw (eq-eqb p.refused Done e, l.deep, l.ids, l.attrs)

-- a call here
pub call-settled : (x : Step) (s : Screen ℕ) → let p = plan x (touched ℕ buffers-alone (length s.state.layers) 0 s.rows) s.state in
    call ℕ buffers-alone x s ≡ settle (limit p) s (done ℕ buffers-alone p s)
unfolding call perform
call-settled x s =
    let p = plan x (touched ℕ buffers-alone (length s.state.layers) 0 s.rows) s.state in
    rw (refused-by p (done ℕ buffers-alone p s))

pub call-limit : (x : Step) (s : Screen ℕ) → (call ℕ buffers-alone x s).number ≡ limit (plan x (touched ℕ buffers-alone (length s.state.layers) 0 s.rows) s.state)
call-limit x s =
    let p = plan x (touched ℕ buffers-alone (length s.state.layers) 0 s.rows) s.state in
    ap (λ (a : Answer (Screen ℕ)). a.number) (call-settled x s) ∙ settle-number (limit p) s (done ℕ buffers-alone p s)

performed : (x : Step) (s : Screen ℕ) (p : Plan) → plan x (touched ℕ buffers-alone (length s.state.layers) 0 s.rows) s.state ≡ p
    → refusal ℕ buffers-alone p (done ℕ buffers-alone p s) ≡ Done → call ℕ buffers-alone x s ≡ answer Done (done ℕ buffers-alone p s)
unfolding call perform
performed x s p e n = rw (e, n)

call-small : (x : Step) (s : Screen Row) → (call Row row-ops x s).number ≡ Done → call ℕ buffers-alone x (small s) ≡ answer Done (small (call Row row-ops x s).value)
call-small x s e =
    let js = touched Row row-ops (length s.state.layers) 0 s.rows in
    let p = plan x js s.state in
    let d = call-done x s e in
    let same : plan x (touched ℕ buffers-alone (length s.state.layers) 0 (map levels s.rows)) s.state ≡ p = ap (λ (is : List ℕ). plan x is s.state) (sym (touched-levels (length s.state.layers) 0 s.rows)) in
    performed x (small s) p same (not-refused p (done ℕ buffers-alone p (small s)) d.0 (call-limits row-ops x s e))
    ∙ ap (λ (u : Screen ℕ). answer Done u) (done-small p s)
    ∙ ap (λ (u : Screen Row). answer Done (small u)) (sym d.1)

abbrev small-log : Logged Row → Logged ℕ
small-log s = record { screen = small s.screen; log = s.log }

step-small : (x : Step) → Agrees (λ (n : ℕ). n ≡ Done) refl (λ (s : Logged Row) (t : Logged ℕ). t ≡ small-log s) (logged-call Row row-ops x) (logged-call ℕ buffers-alone x)
unfolding logged-call
step-small x s t h =
    record {
      number = λ e. rw (h, call-small x s.screen e) (sym e);
      value = λ e. rw (h, call-small x s.screen e);
    }

rows-small : (n : ℕ) → map levels (replicate n fresh-row) ≡ replicate n 0
rows-small zero = refl
rows-small (suc n) = ap (λ (ms : List ℕ). 0 ∷ ms) (rows-small n)

pub roomless-done : Roomless-done
unfolding walk-logged reset
roomless-done f r e =
    let start : Logged Row = record { screen = reset fresh-row f; log = [] } in
    let a = walk-agrees (λ (n : ℕ). n ≡ Done) refl (λ (s : Logged Row) (t : Logged ℕ). t ≡ small-log s) (logged-call Row row-ops) (logged-call ℕ buffers-alone) step-small r
    start (record { screen = reset 0 f; log = [] }) (rw (rows-small (rows_of f.viewport))) in
    (a.number e ∙ e, ap (λ (t : Logged ℕ). t.log) (a.value e))
