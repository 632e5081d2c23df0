-- A closing layer's rows (rules 9 and 10): which are touched, what is judged of them (answers 4 and 10), and what the doing half requires.
use Rattle.std.specs.Prelude.{ℕ, ◌+◌, ◌-◌, ◌*◌, ◌≤◌, ◌<◌, Bool, true, false, ◌&&◌, ◌||◌, cond, ◌≡◌, List, [], ◌∷◌, ◌++◌, length, get_or, leb, ltb, eqb}
use Rattle.std.specs.Prelude.{Option}
use Rattle.sizes.specs.Sizes.{tile-end, most-layers, most-room, row-size, renders-at, depths-at, levels-at, level-at}
use Rattle.rules.specs.Lists.{every, some_of, keep, join, range}
use Rattle.rules.specs.Answers.{Done, BadRecord, FullRow}
use Rattle.rules.specs.Boxes.{rows_of}
use Rattle.rules.specs.Spans.{Span}
use Rattle.rules.specs.Segments.{Segment, good-segment, Cut, cut_in}
use Rattle.rules.specs.Commands.{layer-fill}
use Rattle.rules.specs.Plans.{Frame, bucket, Put, close-puts}
use Rattle.rules.specs.Steps.{do-puts}
use Rattle.rules.proofs.All.{All}
use Rattle.row.specs.Words.{Words, word, word-ops, put_command, end_buf, Room, Ends}
use Rattle.row.specs.Arena.{nowhere}
use Rattle.row.specs.Building.{rows_at, Whole, good_row}
use Rattle.row.specs.declared.room.Limits.{Limits}
use Rattle.row.specs.Room.{limits, Counted as Hand}
use Rattle.screen.specs.declared.Screen.{Screen}
use Rattle.segments.specs.declared.Scene.{Scene}
use Rattle.segments.specs.Segs.{segs, origin, bounds, Starts}

-- row i
abbrev pub row_of : List Words → ℕ → Words
row_of rs i = get_or rs i nowhere

-- rule 10: those of some rows that have the PushBuf of the innermost of n open layers
unfoldable pub touched-in : ℕ → List Words → List ℕ → List ℕ
touched-in n rs [] = []
touched-in n rs (i ∷ is) = keep (eqb (word levels-at (row_of rs i)) n) i (touched-in n rs is)

-- answer 4: a row of the layer's box, n layers being open, with room for c commands and d depth fills. It has at most n levels. With n it
-- is touched: its record is good, and its PushBuf, which has no span yet, stands where the record says
unfoldable pub good-pop : ℕ → ℕ → ℕ → Words → Bool
good-pop c d n w =
    cond (eqb (word levels-at w) n) (good_row c d n w.state && eqb (get_or w.render (4 * word (level-at n) w) 0) 5) (ltb (word levels-at w) n)

unfoldable pub good-pops : ℕ → ℕ → ℕ → List Words → List ℕ → Bool
good-pops c d n rs is = every (λ (i : ℕ). good-pop c d n (row_of rs i)) is

-- answer 10: k commands more take one of some rows past c
unfoldable pub full_by : ℕ → ℕ → List Words → List ℕ → Bool
full_by c k rs is = some_of (λ (i : ℕ). ltb c (word renders-at (row_of rs i) + k)) is

-- 4 for one of some rows, then 10 if k commands more take a touched one past c
unfoldable pub pops-number : ℕ → ℕ → ℕ → ℕ → List Words → List ℕ → ℕ
pops-number c d n k rs is = cond (good-pops c d n rs is) (cond (full_by c k rs (touched-in n rs is)) FullRow Done) BadRecord

-- a row by its record s: touched, and full with k commands more
abbrev pub full-pop : ℕ → ℕ → ℕ → List ℕ → Bool
full-pop c n k s = eqb (get_or s levels-at 0) n && ltb c (get_or s renders-at 0 + k)

-- .. which has no more depth fills than d, if it is touched
abbrev pub ShallowRow : ℕ → ℕ → List ℕ → Type 0
ShallowRow d n s = get_or s levels-at 0 ≡ n → get_or s depths-at 0 ≤ d

-- the commands of row i so far, if it is the row before `next`, else those that stand there
abbrev pub so_far : List Words → ℕ → ℕ → ℕ → ℕ
so_far rs next m i = cond (eqb (i + 1) next) m (word renders-at (row_of rs i))

-- answer 10, as cut segments run that are ordered by row: a LayerFill for each in a touched row, and room for the row's PopBuf
unfoldable pub runs-full : ℕ → List ℕ → List Words → ℕ → ℕ → List Cut → Bool
runs-full c touched rs next m [] = false
runs-full c touched rs next m (k ∷ ks) =
    let more = so_far rs next m k.row + 1 in
    cond (some_of (eqb k.row) touched) (ltb c (more + 1) || runs-full c touched rs (k.row + 1) more ks)
    (runs-full c touched rs next m ks)

-- puts, done without limits; a bucket has v tiles, and m layers are open afterwards
abbrev pub done-puts : ℕ → ℕ → List Put → List Words → List Words
done-puts v m ps rs = do-puts Words word-ops v m ps rs

-- each row that is put on has room for what all the puts make of it
abbrev pub Roomy : ℕ → ℕ → List Put → List Words → Type 0
Roomy v m ps rs = All (λ (p : Put). Room (row_of rs p.row) (row_of (done-puts v m ps rs) p.row)) ps

-- a row with room for a LayerFill, and one with a level to end and room for its PopBuf
abbrev pub Fillable : Span → Option ℕ → ℕ → Words → Type 0
Fillable s a i w = Room w (put_command (layer-fill s a i) w)

abbrev pub Poppable : Words → Type 0
Poppable w = Ends w × Room w (end_buf w)

-- a fact of each of some rows
abbrev pub Each : (Words → Type 0) → List Words → List ℕ → Type 0
Each P rs is = All (λ (i : ℕ). P (row_of rs i)) is

-- row r of the words is touched, and lies in the box
abbrev pub touched-word : ℕ → ℕ → ℕ → List ℕ → ℕ → Bool
touched-word a b n s r = leb a r && ltb r b && eqb (get_or s (r * row-size + levels-at) 0) n

-- the LayerFills of a clip's segments, attribute i, in the scene e
abbrev pub clip-puts : ℕ → List ℕ → Scene → List Segment → List Put
clip-puts i touched e ss = close-puts i touched (join (cut_in (origin e) (bounds e)) ss)

-- what closing by the segments from i to j requires: n layers are open, the attribute is k
pub record Clips (f : Frame) (n k : ℕ) (ws : List ℕ) (i j : ℕ) (e : Scene) (a b : ℕ) (w : Words) : Type 0 where
  pub whole : Whole f w
  pub layers : n ≤ most-layers
  pub bottom : b ≤ rows_of f.viewport
  pub starts : Starts (origin e) (bounds e)
  pub before : i ≤ j
  pub within : 5 * j ≤ length ws
  pub good : every good-segment (segs ws i (j - i)) ≡ true
  pub room : Roomy (bucket f) (n - 1) (clip-puts k (touched-in n (rows_at f w) (range a b)) e (segs ws i (j - i))) (rows_at f w)

-- what its rows have room for: each touched one gets a PopBuf
abbrev pub pop-limits : Screen → Limits
pop-limits s = limits s.c s.d s.layers 1

-- answer 10 as cut segments run, from the hand h on, in which the PopBuf is counted
abbrev pub runs_on : ℕ → List ℕ → List Words → Hand → List Cut → Bool
runs_on c touched rs h ks = runs-full c touched rs (cond (eqb h.row tile-end) 0 (h.row + 1)) (h.renders - 1) ks

-- no row was full so far; the row at hand has its PopBuf
pub record Clean (d : ℕ) (h : Hand) : Type 0 where
  pub renders : h.renders ≤ most-room
  pub depths : h.depths ≤ d
  pub code : h.code ≡ Done
  pub popped : h.row < tile-end → 1 ≤ h.renders

-- the hand u after a segment whose cut is cs, before the cuts that follow
pub record Counted (c d : ℕ) (touched : List ℕ) (rs : List Words) (h : Hand) (cs : List Cut) (u : Hand) : Type 0 where
  pub runs : (ks : List Cut) → runs_on c touched rs h (cs ++ ks) ≡ (eqb u.code FullRow || runs_on c touched rs u ks)
  pub clean : eqb u.code FullRow ≡ false → Clean d u
