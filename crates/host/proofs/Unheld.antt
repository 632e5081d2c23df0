-- Where the host's words stand for no screen, each call gives what the judge that it asks first says at the border.
use Rattle.std.proofs.Common.{◌≡◌, true, List, None, ℕ, length, leb, eqb, ℤ}
use lib.Ieee.{Float}
use Rattle.rules.specs.Recording.{File}
use Rattle.rules.specs.Answers.{answer}
use Rattle.rules.specs.Spans.{Span}
use Rattle.rules.specs.Setups.{Setup, frame}
use Rattle.rect.specs.declared.Rect.{Rect}
use Rattle.rect.specs.Rects.{box_of}
use Rattle.row.specs.Words.{Words}
use Rattle.screen.specs.declared.Screen.{Screen}
use Rattle.screen.specs.Judging.{judged, arenas}
use Rattle.screen.specs.Tables.{Tables, lengths, screen_lent, reset_to}
use Rattle.reuse.specs.Used.{judged_used, used_reset}
use Rattle.screen.specs.Depths.{Depths}
use Rattle.walk.specs.Recorded.{recorded}
use Rattle.inputs.specs.declared.Draw.{Draw}
use Rattle.fill.specs.Fills as fills
use Rattle.fill.specs.Fills.{filled}
use Rattle.screen.specs.declared.layers.LayerProps.{LayerProps}
use Rattle.layers.specs.Push as push
use Rattle.layers.specs.Push.{pushed}
use Rattle.pop.specs.Pop as pop
use Rattle.pop.specs.Pop.{popped}
use Rattle.layers.specs.Filter as filter
use Rattle.layers.specs.Filter.{FilterGiven, filtered}
use Rattle.paint.specs.Painting as paint
use Rattle.paint.specs.Judging.{begin_number, runs_number, write_number, hidden_number, skip_number}
use Rattle.paint.specs.Beginning.{canvas, beginning}
use Rattle.paint.specs.Stepping.{Attributes, number, stepped}
use Rattle.paint.specs.DirectRuns.{unset-of, visible-of, write-of, hidden-of-row, skip-of-row}
use Rattle.paint.specs.Running.{row-painted}
use Rattle.paint.specs.OwnRow.{own-number, own-row-painted}
use Rattle.host.specs.State.{screen_of, refused_at}
use Rattle.host.proofs.Words.{refused-on}
use Rattle.host.specs.Border.{arenas_number, file_number}
use Rattle.host.specs.Building.{tables-left, reset_in, used_call, recording_in, fill-left, fill_call, push-left, push_call, pop-left, pop_call, filter-left, filter_call}
use Rattle.host.specs.Results.{skip-left}
use Rattle.host.specs.Painting.{begin-left, begin_call, step_left, step_call, row_call, own_row_call, runs-left, unset_call, visible_call, write-left, write_call, hidden_call, skip_call}
use Rattle.host.proofs.Early.{fill-early, push-early, filter-early, pop-early, begin-early, step-is-early, row-is-early, own-is-early, unset-early, visible-early, write-early, hidden-early, skip-early, reset-early, used-early, recorded-is-early}

module _ (st : List ℕ) (n : ℕ) where
  pub reset_unheld : (v : Rect) (q : Setup) (t : Tables) → None ≡ screen_of true st
      → n ≡ refused_at st (λ (s : Screen). arenas_number (frame q (box_of v)) (arenas (lengths t))) → answer n (st, t) ≡ reset_in v q st t
  unfolding reset_in
  reset_unheld v q t h e =
      refused-on (screen_of true st) st (st, t) (λ (s : Screen). tables-left (reset_to (frame q (box_of v)) (screen_lent s t)))
      (λ (s : Screen). arenas_number (frame q (box_of v)) (arenas (lengths t))) n h e
      (λ (s : Screen). reset-early (frame q (box_of v)) (screen_lent s t))

  pub used_unheld : (t : Tables) → None ≡ screen_of true st → n ≡ refused_at st (λ (s : Screen). judged_used s (lengths t)) → answer n (st, t) ≡ used_call st t
  unfolding used_call
  used_unheld t h e =
      refused-on (screen_of true st) st (st, t) (λ (s : Screen). tables-left (used_reset (screen_lent s t))) (λ (s : Screen). judged_used s (lengths t)) n h e
      (λ (s : Screen). used-early (screen_lent s t))

  pub recording_unheld : (file : File) (q : Setup) (t : Tables) → None ≡ screen_of true st
      → n ≡ refused_at st (λ (s : Screen). file_number file q (arenas (lengths t))) → answer n (st, t) ≡ recording_in file q st t
  unfolding recording_in
  recording_unheld file q t h e =
      refused-on (screen_of true st) st (st, t) (λ (s : Screen). tables-left (recorded file q (screen_lent s t)))
      (λ (s : Screen). file_number file q (arenas (lengths t))) n h e
      (λ (s : Screen). recorded-is-early file q (screen_lent s t))

  pub fill_unheld : (ps ss : List ℕ) (d : Draw) (w : Words) (pas : List ℕ) → None ≡ screen_of true st
      → n ≡ refused_at st (λ (s : Screen). judged s (length w.state) (length w.render) (length w.fills)) → answer n (st, w, pas) ≡ fill_call ps ss d st w pas
  unfolding fill_call
  fill_unheld ps ss d w pas h q =
      refused-on (screen_of true st) st (st, w, pas) (λ (s : Screen). fill-left (filled (fills.fill_lent s w pas) ps ss d))
      (λ (s : Screen). judged s (length w.state) (length w.render) (length w.fills)) n h q (λ (s : Screen). fill-early (fills.fill_lent s w pas) ps ss d)

  pub push_unheld : (flag : ℕ) (p : LayerProps) (w : Words) (ls : List ℕ) (os : List Float) → None ≡ screen_of (leb flag 1) st
      → n ≡ refused_at st (λ (s : Screen). judged s (length w.state) (length w.render) (length w.fills)) → answer n (st, w, ls, os) ≡ push_call flag p st w ls os
  unfolding push_call
  push_unheld flag p w ls os h q =
      refused-on (screen_of (leb flag 1) st) st (st, w, ls, os) (λ (s : Screen). push-left (pushed p (push.push_lent s w ls os)))
      (λ (s : Screen). judged s (length w.state) (length w.render) (length w.fills)) n h q (λ (s : Screen). push-early p (push.push_lent s w ls os))

  pub pop_unheld : (ss : List ℕ) (l : pop.PopLent) → None ≡ screen_of true st
      → n ≡ refused_at st (λ (s : Screen). judged s (length l.words.state) (length l.words.render) (length l.words.fills)) → answer n (st, l) ≡ pop_call ss st l
  unfolding pop_call
  pop_unheld ss l h q =
      refused-on (screen_of true st) st (st, l) (λ (s : Screen). pop-left (popped s l ss))
      (λ (s : Screen). judged s (length l.words.state) (length l.words.render) (length l.words.fills)) n h q (λ (s : Screen). pop-early s l ss)

  pub filter_unheld : (flag : ℕ) (g : FilterGiven) (w : Words) (pas : List ℕ) (fps : List ℤ) → None ≡ screen_of (leb flag 1) st
      → n ≡ refused_at st (λ (s : Screen). judged s (length w.state) (length w.render) (length w.fills)) → answer n (st, w, pas, fps) ≡ filter_call flag g st w pas fps
  unfolding filter_call
  filter_unheld flag g w pas fps h q =
      refused-on (screen_of (leb flag 1) st) st (st, w, pas, fps) (λ (s : Screen). filter-left (filtered g (filter.filter_lent s w pas fps)))
      (λ (s : Screen). judged s (length w.state) (length w.render) (length w.fills)) n h q (λ (s : Screen). filter-early g (filter.filter_lent s w pas fps))

  pub begin_unheld : (d : Depths) (p : List ℕ) → None ≡ screen_of true st → n ≡ refused_at st (λ (s : Screen). begin_number s (length d.words) (length d.minima) (length p)) → answer n (st, d, p) ≡ begin_call st d p
  unfolding begin_call
  begin_unheld d p h q =
      refused-on (screen_of true st) st (st, d, p) (λ (s : Screen). begin-left (beginning (canvas s d p)))
      (λ (s : Screen). begin_number s (length d.words) (length d.minima) (length p)) n h q
      (λ (s : Screen). begin-early (canvas s d p))

  pub own_unheld : (a : Attributes) (l : paint.RowLent) (res : List ℕ) → None ≡ screen_of (eqb (length res) 2) st → n ≡ refused_at st (λ (s : Screen). own-number s a l)
      → answer n (l.depth, l.painting, l.list, res) ≡ own_row_call a st l res
  unfolding own_row_call
  own_unheld a l res h q =
      refused-on (screen_of (eqb (length res) 2) st) st (l.depth, l.painting, l.list, res) (λ (s : Screen). step_left res (own-row-painted s a l)) (λ (s : Screen). own-number s a l) n h q
      (λ (s : Screen). own-is-early s a l)

  module _ (r : ℕ) where
    pub step_unheld : (a : Attributes) (l : paint.RowLent) (res : List ℕ) → None ≡ screen_of (eqb (length res) 2) st → n ≡ refused_at st (λ (s : Screen). number s r a l)
        → answer n (l.depth, l.painting, l.list, res) ≡ step_call r a st l res
    unfolding step_call
    step_unheld a l res h q =
        refused-on (screen_of (eqb (length res) 2) st) st (l.depth, l.painting, l.list, res) (λ (s : Screen). step_left res (stepped s r a l)) (λ (s : Screen). number s r a l) n h q
        (λ (s : Screen). step-is-early s r a l)

    pub row_unheld : (a : Attributes) (l : paint.RowLent) (res : List ℕ) → None ≡ screen_of (eqb (length res) 2) st → n ≡ refused_at st (λ (s : Screen). number s r a l)
        → answer n (l.depth, l.painting, l.list, res) ≡ row_call r a st l res
    unfolding row_call
    row_unheld a l res h q =
        refused-on (screen_of (eqb (length res) 2) st) st (l.depth, l.painting, l.list, res) (λ (s : Screen). step_left res (row-painted s r a l)) (λ (s : Screen). number s r a l) n h q
        (λ (s : Screen). row-is-early s r a l)

    pub unset_unheld : (t : Span) (d l c : List ℕ) → None ≡ screen_of (eqb (length c) 1) st → n ≡ refused_at st (λ (s : Screen). runs_number s r (length d))
        → answer n (l, c) ≡ unset_call r t st d l c
    unfolding unset_call
    unset_unheld t d l c h q =
        refused-on (screen_of (eqb (length c) 1) st) st (l, c) (λ (s : Screen). runs-left c (unset-of s r d t l)) (λ (s : Screen). runs_number s r (length d)) n h q
        (λ (s : Screen). unset-early s r d t l)

    pub visible_unheld : (t : Span) (id : ℕ) (d l c : List ℕ) → None ≡ screen_of (eqb (length c) 1) st → n ≡ refused_at st (λ (s : Screen). runs_number s r (length d))
        → answer n (l, c) ≡ visible_call r t id st d l c
    unfolding visible_call
    visible_unheld t id d l c h q =
        refused-on (screen_of (eqb (length c) 1) st) st (l, c) (λ (s : Screen). runs-left c (visible-of s r d t id l)) (λ (s : Screen). runs_number s r (length d)) n h q
        (λ (s : Screen). visible-early s r d t id l)

    pub write_unheld : (t : Span) (id : ℕ) (d : Depths) (l c : List ℕ) → None ≡ screen_of (eqb (length c) 1) st
        → n ≡ refused_at st (λ (s : Screen). write_number s r (length d.words) (length d.minima))
        → answer n (st, d, l, c) ≡ write_call r t id st d l c
    unfolding write_call
    write_unheld t id d l c h q =
        refused-on (screen_of (eqb (length c) 1) st) st (st, d, l, c) (λ (s : Screen). write-left c (write-of s r d id t l))
        (λ (s : Screen). write_number s r (length d.words) (length d.minima)) n h q
        (λ (s : Screen). write-early s r d t id l)

    pub hidden_unheld : (t : Span) (id : ℕ) (ms old : List ℕ) → None ≡ screen_of (eqb (length old) 1) st → n ≡ refused_at st (λ (s : Screen). hidden_number s r (length ms))
        → answer n old ≡ hidden_call r t id st ms old
    unfolding hidden_call
    hidden_unheld t id ms old h q =
        refused-on (screen_of (eqb (length old) 1) st) st old (λ (s : Screen). skip-left old (hidden-of-row s r ms t id)) (λ (s : Screen). hidden_number s r (length ms)) n h q
        (λ (s : Screen). hidden-early s r ms t id)

    pub skip_unheld : (t : Span) (id : ℕ) (rows old : List ℕ) → None ≡ screen_of (eqb (length old) 1) st → n ≡ refused_at st (λ (s : Screen). skip_number s r (length rows))
        → answer n old ≡ skip_call r t id st rows old
    unfolding skip_call
    skip_unheld t id rows old h q =
        refused-on (screen_of (eqb (length old) 1) st) st old (λ (s : Screen). skip-left old (skip-of-row s r rows t id)) (λ (s : Screen). skip_number s r (length rows)) n h q
        (λ (s : Screen). skip-early s r rows t id)
