-- Beginning and painting steps keep a canvas whole, so that each next step at its words is the rules'. Assumes nothing.
use Rattle.std.proofs.Common.{◌≡◌, refl, ◌∙◌, Bool, true, false, not, cond, List, [], ◌∷◌, ℕ, zero, suc, ◌<◌, leb, ltb, eqb, length, get_or, set, length-set, get_or-set_same, get_or-set_other, leb-false, eqb-true}
use lib.ListN.{length-replicate, get_or-replicate}
use borrow.Author.Tests.{eqb-false}
use Rattle.rules.specs.Lists.{is-empty}
use Rattle.rules.specs.Answers.{settle, first_of, Done, BadRun, Open, NoRoom}
use Rattle.rules.specs.Rows.{fresh-row}
use Rattle.rules.specs.Plans.{buckets-across}
use Rattle.rules.specs.Painting.{Painter, Painted, begin, paint-step}
use Rattle.rules.specs.Calls.{Canvas, bucket-on, paints-on, given, begin-call, paint-call, blank, with-painter}
use Rattle.rules.proofs.All.{All, nil, cons, all_replicate, and_right}
use Rattle.refine_paint.specs.Painters.{Going}
use Rattle.refine_paint.specs.Canvases.{WholeCanvas}
use Rattle.refine_paint.proofs.Kept.{fine-at}
use Rattle.refine_paint.proofs.Painters.{begin-going, step-going}

pub all_set : {P : Painter → Type 0} {ps : List Painter} (i : ℕ) (x : Painter) → P x → All P ps → All P (set ps i x)
all_set i x p nil = nil
all_set zero x p (cons q a) = cons p a
all_set (suc i) x p (cons q a) = cons q (all_set i x p a)

module _ (k : Canvas) (w : WholeCanvas k) where
  abbrev n : ℕ
  n = buckets-across k.screen.state.frame

  pub begin-whole : WholeCanvas (begin-call k).value
  unfolding begin-call
  begin-whole = go (is-empty k.screen.state.layers) refl
    where
      begun-now : is-empty k.screen.state.layers ≡ true → WholeCanvas (record { screen = k.screen; begun = true; painters = blank k.screen })
      begun-now none_open =
          record {
            sound = w.sound;
            fair = w.fair;
            count = length-replicate (length k.screen.rows) (begin n);
            wide = all_replicate (length k.screen.rows) (begin n) (length-replicate n 0);
            closed = λ e. none_open;
            going = λ e i h.
                rw (get_or-replicate (length k.screen.rows) i (begin n) (begin 0) h)
                (begin-going k.screen.state.attrs n (get_or k.screen.rows i fresh-row) (fine-at w.sound.built.fine i) (w.fair i));
          }

      go : (b : Bool) → is-empty k.screen.state.layers ≡ b → WholeCanvas (settle (cond b Done Open) k (record { screen = k.screen; begun = true; painters = blank k.screen })).value
      go true e = begun-now e
      go false e = w

  module _ (i : ℕ) where
    abbrev o : Painted
    o = paint-step (bucket-on k) k.screen.state.attrs (get_or k.screen.rows i fresh-row) (get_or k.painters i (begin 0))

    step-on : k.begun ≡ true → i < length k.screen.rows → WholeCanvas (with-painter k k.begun i o.painter)
    step-on b h =
        let g = step-going k.screen.state.attrs n (get_or k.screen.rows i fresh-row) (fine-at w.sound.built.fine i) (w.fair i) (get_or k.painters i (begin 0)) (w.going b i h) in
        record {
          sound = w.sound;
          fair = w.fair;
          count = length-set k.painters i o.painter ∙ w.count;
          wide = all_set i o.painter g.wide w.wide;
          closed = w.closed;
          going = λ e j l. go g j l (eqb j i) refl;
        }
      where
        there : i < length k.painters
        there = rw w.count h

        go : Going (bucket-on k) n (get_or k.screen.rows i fresh-row) o.painter → (j : ℕ) → j < length k.screen.rows → (t : Bool) → eqb j i ≡ t
            → Going (bucket-on k) n (get_or k.screen.rows j fresh-row) (get_or (set k.painters i o.painter) j (begin 0))
        go g j l true e = rw (eqb-true j i e, get_or-set_same k.painters i o.painter (begin 0) there) g
        go g j l false e = rw (get_or-set_other k.painters i j o.painter (begin 0) (eqb-false j i e)) (w.going b j l)

    pub paint-whole : (m : ℕ) → WholeCanvas (paint-call i m k).value.canvas
    unfolding paint-call
    paint-whole m = go (leb (length k.screen.rows) i) (paints-on k) (ltb m (length o.pieces)) refl refl
      where
        go : (t b u : Bool) → leb (length k.screen.rows) i ≡ t → paints-on k ≡ b
            → WholeCanvas
            (settle (first_of ((t, BadRun) ∷ (not b, Open) ∷ (u, NoRoom) ∷ []))
            (given (record { finished = false; pieces = []; painter = get_or k.painters i (begin 0) }) k)
            (given o (with-painter k k.begun i o.painter))
            ).value.canvas
        go true b u e f = w
        go false false u e f = w
        go false true true e f = w
        go false true false e f = step-on (and_right (is-empty k.screen.state.layers) k.begun f) (leb-false _ _ e)
