-- The printed texts, as the statements say them. Assumes nothing.
use Rattle.std.proofs.Common.{ap, List, [], ◌∷◌, ℕ, zero, suc, ◌<◌, arith, get_or}
use Rattle.rules.specs.Attributes.{LayerAttr, no-layer}
use Rattle.rules.specs.Rows.{Row}
use Rattle.rules.specs.Steps.{Screen}
use Rattle.rules.proofs.All.{All, nil, cons}
use Rattle.screen.specs.Tables.{ScreenLent}
use Rattle.refine_steps.proofs.Refined.{Refines}
use Rattle.refine_paint.specs.Fair.{FairRows}
use Rattle.refine_paint.specs.Canvases.{depth-of, painting-of}
use Rattle.refine_text.proofs.Printed.{lines-held, listed-held}
use Rattle.rules.specs.Lines.{rowlist-words}
use Rattle.refine_text.proofs.Files.{words-print, words-leave, file-printed, file-few}
use Rattle.theorem_text.specs.Printed.{Listed, HeldListed, ReachedListed, WordsPrinted, FilePrinted, WordsLeave, WordsSmall, PlayEnded, HeldBegun, RowWhole}
use Rattle.theorem_text.proofs.Small.{Word, words_small}
use Rattle.theorem_text.proofs.Played.{play-ended}
use Rattle.theorem_text.proofs.Begun.{begin-accepted, all-wait}
use Rattle.theorem_text.proofs.Full.{row-whole, row_written}

listed-by : {s : Screen Row} {l : ScreenLent} → Refines s l → FairRows s → Listed s l
listed-by h f = record { lines = lines-held h f; text = λ bs. listed-held h f bs }

pub held-listed : HeldListed
held-listed s l r f = listed-by (record { sound = r.sound; holds = r.holds }) f

pub reached-listed : ReachedListed
reached-listed f xs l s =
    let k = s.canvas in
    listed-by
    (record { sound = s.whole.sound; holds = record { begun = k.begun; depth = depth-of k.painters; painting = painting-of k.painters; same = s.same } })
    s.whole.fair

pub words-text : WordsPrinted
unfolding rowlist-words
words-text q u file bs room =
    let e = words-print q u file bs room in
    record {
      number = e.number;
      count = ap (λ (x : ℕ × List ℕ). x.0) e.shows;
      bytes = ap (λ (x : ℕ × List ℕ). x.1) e.shows;
      few = e.few;
    }

pub file-text : FilePrinted
file-text e q u fs bs room =
    let p = file-printed e q u fs bs room in
    record {
      count = ap (λ (x : ℕ × List ℕ). x.0) p;
      bytes = ap (λ (x : ℕ × List ℕ). x.1) p;
      few = file-few e q u fs bs room;
    }

pub words-left : WordsLeave
words-left q u file z e t h bs room =
    let a = words-leave q u file bs room e t h in
    record {
      number = a.prints.number;
      left = λ i.
          let l = a.left i in
          record {
            viewport = l.viewport;
            width = l.width;
            size = l.size;
            few = l.few;
            fair = l.kept.fair;
            frame = l.kept.frame;
            words = l.words;
            refined = record { sound = l.refines.sound; holds = l.refines.holds };
            screen = l.screen;
            tables = l.tables;
          };
    }

-- every element of a list, by its place
at : {A : Type 0} {P : A → Type 0} {xs : List A} (d : A) → P d → All P xs → (i : ℕ) → P (get_or xs i d)
at d z nil i = z
at d z (cons p a) zero = p
at d z (cons p a) (suc i) = at d z a i

all-words : (ws : List ℕ) → ((i : ℕ) → get_or ws i 0 < 4294967296) → All Word ws
all-words [] h = nil
all-words (w ∷ ws) h = cons (h 0) (all-words ws (λ i. h (suc i)))

pub words-below : WordsSmall
words-below bs byte i = at 0 (omega arith) (words_small bs byte) i

pub played-ended : PlayEnded
played-ended p old ws small e =
    let a = play-ended p old ws (all-words ws.words small) e in
    record {
      closed = a.closed;
      small = λ i h. at {P = λ (a : LayerAttr). Word a.opacity} no-layer (omega arith) a.small.attrs i;
    }

pub held-begun : HeldBegun
held-begun s sound fair closed b de pa hd hm hp =
    record { accepted = begin-accepted s sound fair closed b de pa hd hm hp; waits = all-wait s sound fair closed b de pa hd hm hp }

pub rows-whole : RowWhole
rows-whole s r m h few narrow list long =
    record { whole = row-whole h few narrow list long; text = λ v bs fits. row_written h few narrow list long v bs fits }
