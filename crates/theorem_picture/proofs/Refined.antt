-- The refinement's own results, as the statements say them. Assumes nothing.
use Prim.{tt}
use Rattle.std.proofs.Common.{ℕ, List, [], ◌∷◌}
use Rattle.rules.specs.Rows.{Row}
use Rattle.rules.specs.Plans.{Act, paint, opaque, touch, close, pop, Put}
use Rattle.rules.specs.Steps.{Screen}
use Rattle.rules.specs.Spans.{Span}
use Rattle.rules.proofs.All.{All, nil, cons}
use Rattle.rules.proofs.laws.Maps.{ActOk, paints, splits, touches, closes, pops, PutOk}
use Rattle.rules.proofs.laws.Bounds.{BoundedSpan}
use Rattle.screen.specs.Tables.{ScreenLent}
use Rattle.refine_row.specs.Encode.{Fine}
use Rattle.refine_row.proofs.Refines.{refined}
use Rattle.refine_layers.proofs.Rows.{touched-own}
use Rattle.refine_steps.proofs.Refined.{Refines, stepped, step-refines, reset-refines}
use Rattle.refine_steps.proofs.Walks.{walk-refines}
use Rattle.refine_paint.proofs.Painted.{reset-whole, step-whole}
use Rattle.refine_paint.proofs.Whole.{begin-whole, paint-whole}
use Rattle.refine_paint.proofs.Runs.{write-whole}
use Rattle.refine_file.specs.Played.{Outcome, unaltered, made}
use Rattle.refine_file.proofs.Laws.{file-plays}
use Rattle.refine_compact.proofs.Whole.{compact-whole}
use Rattle.theorem_picture.specs.Refined.{Bounded, BoundedAct, BoundedPuts, FineRows, RowsRefined, TouchedOwn, StepRefined, Refined, ResetRefined, StepsAgree, WalksAgree, FilePlays, WholeKept}

-- the rows
bounded-span : (s : Span) → Bounded s → BoundedSpan s
bounded-span s b = record { first = b.0; end = b.1 }

bounded-act : (a : Act) → BoundedAct a → ActOk BoundedSpan a
bounded-act (paint s a i) b = paints (bounded-span s b)
bounded-act (opaque s i id) b = splits (bounded-span s b)
bounded-act touch b = touches
bounded-act (close s a i) b = closes (bounded-span s b)
bounded-act pop b = pops

bounded-puts : (ps : List Put) → BoundedPuts ps → All (PutOk BoundedSpan) ps
bounded-puts [] b = nil
bounded-puts (p ∷ ps) b = cons (record { act = bounded-act p.act b.0 }) (bounded-puts ps b.1)

fine-all : (rows : List Row) → FineRows rows → All Fine rows
fine-all [] f = nil
fine-all (r ∷ rs) f = cons f.0 (fine-all rs f.1)

fine-rows : {rows : List Row} → All Fine rows → FineRows rows
fine-rows nil = tt
fine-rows (cons p a) = (p, fine-rows a)

pub rows-refined : RowsRefined
rows-refined c d v n m ps o rows f = let a = refined c d v n m ps (bounded-puts ps o) rows (fine-all rows f) in (a.0, fine-rows a.1)

-- the steps, the walks and the files
there : {s : Screen Row} {l : ScreenLent} → Refined s l → Refines s l
there r = record { sound = r.sound; holds = r.holds }

back : {s : Screen Row} {l : ScreenLent} → Refines s l → Refined s l
back r = record { sound = r.sound; holds = r.holds }

pub reset-refined : ResetRefined
reset-refined f l z = let a = reset-refines f l z in (a.number, back a.value)

pub steps-agree : StepsAgree
steps-agree x s l r = let a = step-refines x s l (there r) in record { number = a.number; value = back a.value }

pub walks-agree : WalksAgree
walks-agree r s l h = let a = walk-refines r s l (there h) in record { number = a.number; value = λ e. back (a.value e) }

outcome : {n : ℕ} {s s' : Screen Row} {l l' : ScreenLent} → Outcome Refines n s l s' l' → Outcome Refined n s l s' l'
outcome (unaltered n s l) = unaltered n s l
outcome (made h) = made (back h)

pub file-refined : FilePlays
file-refined ws q l old fit = let a = file-plays ws q l old fit in record { number = a.number; value = outcome a.value }

pub touched-rows : TouchedOwn
touched-rows = touched-own

pub step-refined : StepRefined
step-refined = stepped

pub whole-kept : WholeKept
whole-kept =
    record {
      resets = reset-whole;
      steps = step-whole;
      begins = λ k w. begin-whole k w;
      paints = λ k w i room. paint-whole k w i room;
      writes = λ k w i id t room. write-whole k w i id t room;
      compacts = λ k w i. compact-whole k w i;
    }
