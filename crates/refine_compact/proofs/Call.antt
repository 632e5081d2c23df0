-- The call at the words of a canvas is the rules' call. Assumes nothing.
use Rattle.std.proofs.Common.{◌≡◌, refl, ap, ◌∙◌, Bool, true, false, cond, [], ℕ, ◌<◌, arith, leb, length, get_or, eq-eqb, leb-false}
use Rattle.rules.specs.Lists.{is-empty}
use Rattle.rules.specs.Answers.{answer, Done, BadRun, Open}
use Rattle.rules.specs.Attributes.{Attrs}
use Rattle.rules.specs.Rows.{Row, fresh-row}
use Rattle.rules.specs.Plans.{bucket, buckets-across}
use Rattle.rules.specs.Steps as rule
use Rattle.rules.specs.Calls.{Canvas}
use Rattle.rules.specs.Compacted.{compact, compact-screen, compact-call}
use Rattle.row.specs.Words.{Words}
use Rattle.row.specs.Arena.{sizes, row_at}
use Rattle.screen.proofs.ScreenLaws.{few-buckets}
use Rattle.refine_row.specs.Encode.{encode}
use Rattle.refine_steps.specs.Lent.{screen-of, rows_of}
use Rattle.refine_paint.specs.Canvases.{WholeCanvas, attributes-of}
use Rattle.refine_paint.proofs.Kept.{own-words}
use Rattle.refine_paint.proofs.Begin.{judged-0}
use Rattle.refine_paint.proofs.Step.{holds, row_number, none_open, long, paints-long, layers-long}
use Rattle.paint.specs.Painting.{attrs-at}
use Rattle.paint.specs.StoredCmds.{stored-long}
use Rattle.paint.proofs.ByRules.{held}
use Rattle.compact.specs.Row.{compact-words}
use Rattle.compact.specs.Call.{tables-long, compact_number, Stored, stored, closed-in, row-compacted, ended, compacting}
use Rattle.refine_compact.proofs.Rows.{words-compacted, put-back}

-- a canvas of the rules as its screen and the words of its rows
abbrev pub stored-of : Canvas → Stored
stored-of k = stored (screen-of k.screen.state k.begun) (rows_of k.screen)

module _ (k : Canvas) (w : WholeCanvas k) (i : ℕ) where
  abbrev s : rule.Screen Row
  s = k.screen

  number : compact_number (screen-of s.state k.begun) i (rows_of s) (attributes-of s) ≡ cond (leb (length s.rows) i) BadRun (cond (is-empty s.state.layers) Done Open)
  unfolding compact_number
  number =
      let g = long k w i [] in
      let e1 = eq-eqb _ _ g.render in
      let e2 = eq-eqb _ _ g.fills in
      let e3 = eq-eqb _ _ g.state in
      let e4 = eq-eqb _ _ (paints-long k w i []) in
      let e5 = eq-eqb _ _ (layers-long k w i []) in
      let x : stored-long (screen-of s.state k.begun) (length (rows_of s).render) (length (rows_of s).fills) ≡ true = rw (e1, e2) refl in
      let y : tables-long (screen-of s.state k.begun) (length (rows_of s).state) (length (attributes-of s).paints) (length (attributes-of s).layers) ≡ true = rw (e3, e4, e5) refl in
      rw (judged-0 s w.sound k.begun _ _ x y, ← w.sound.count, none_open s.state.layers) (row_number (leb (length s.rows) i) (is-empty s.state.layers))

  -- a row that is there, where no layer is open
  module _ (h : i < length s.rows) where
    abbrev r : Row
    r = get_or s.rows i fresh-row

    abbrev n : ℕ
    n = buckets-across s.state.frame

    abbrev v : ℕ
    v = bucket s.state.frame

    abbrev read : Attrs
    read = attrs-at (attributes-of s).paints (length s.state.attrs.paints) (attributes-of s).layers (length s.state.attrs.layers)

    abbrev c : ℕ
    c = s.state.frame.c

    abbrev d : ℕ
    d = s.state.frame.d

    own : compact-words v n read (row_at (sizes c d) i (rows_of s)) ≡ answer Done (encode c d (compact v n s.state.attrs r))
    own =
        ap (compact-words v n read) (own-words s i h)
        ∙ words-compacted v n c d s.state.attrs r (omega (arith, few-buckets s.state.frame.viewport w.sound.viewport s.state.frame.width)) (w.sound.rows i) (w.fair i) read (held s.state.attrs _ _ _ _ (holds s))

    fills-stay : (encode c d (compact v n s.state.attrs r)).fills ≡ (encode c d r).fills
    unfolding encode
    fills-stay = refl

    row-is : row-compacted (screen-of s.state k.begun) i read (rows_of s) ≡ answer Done (rows_of (compact-screen i s))
    row-is =
        ap (closed-in c i (rows_of s)) own
        ∙ ap (λ (ws : Words). answer Done ws) (put-back s i h (compact v n s.state.attrs r) fills-stay)

  abbrev Same : Type 0
  Same = compacting i (attributes-of s) (stored-of k) ≡ answer (compact-call i k).number (stored-of (compact-call i k).value)

  missing : leb (length s.rows) i ≡ true → Same
  unfolding compacting compact-call
  missing e = rw (number, e) refl

  layer-open : leb (length s.rows) i ≡ false → is-empty s.state.layers ≡ false → Same
  unfolding compacting compact-call
  layer-open e f = rw (number, e, f) refl

  closed : leb (length s.rows) i ≡ false → is-empty s.state.layers ≡ true → Same
  unfolding compacting compact-call
  closed e f = rw (number, e, f) (ap (ended (screen-of s.state k.begun)) (row-is (leb-false _ _ e)))

  -- the call: the rules' number, and the words of the rules' canvas
  pub compact-by : compacting i (attributes-of s) (stored-of k) ≡ answer (compact-call i k).number (stored-of (compact-call i k).value)
  compact-by = go (leb (length s.rows) i) (is-empty s.state.layers) refl refl
    where
      go : (t b : Bool) → leb (length s.rows) i ≡ t → is-empty s.state.layers ≡ b → Same
      go true b e f = missing e
      go false false e f = layer-open e f
      go false true e f = closed e f
