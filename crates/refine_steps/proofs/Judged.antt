-- A sound screen's words pass what is judged first (answers 2, 1 and 4). Assumes nothing.
use Rattle.std.proofs.Common.{◌≡◌, refl, Bool, true, ◌||◌, List, [], ◌∷◌, map, ltb, length, le-leb, eq-eqb, ltb-false}
use Rattle.rules.specs.Boxes.{Box, whole}
use Rattle.rules.specs.Boxes as boxes
use Rattle.rules.specs.Rows.{Row}
use Rattle.rules.specs.Plans.{Layer, clip-box}
use Rattle.rules.specs.Steps as rule
use Rattle.rules.proofs.All.{All, neither}
use Rattle.row.specs.Arena.{sizes, Long}
use Rattle.row.specs.Building.{rows_at}
use Rattle.refine_row.specs.Encode.{encode}
use Rattle.refine_row.proofs.Screens.{cut-screen, screen-long}
use Rattle.rect.specs.Rects.{same-box}
use Rattle.screen.specs.Screens.{good_clip, good_screen}
use Rattle.screen.specs.Judging.{judged}
use Rattle.screen.proofs.ScreenLaws as screens
use Rattle.refine_steps.specs.Sound.{Good, Sound}
use Rattle.refine_steps.specs.Lent.{screen-of, rows_of}
use Rattle.refine_steps.proofs.Kept.{clip-good}

module _ (s : rule.Screen Row) (h : Sound s) where
  -- the rows that are cut out of the words
  pub rows_cut : rows_at s.state.frame (rows_of s) ≡ map (encode s.state.frame.c s.state.frame.d) s.rows
  rows_cut = rw (← h.count) (cut-screen s.state.frame.c s.state.frame.d s.rows)

  pub rows_long : Long (sizes s.state.frame.c s.state.frame.d) (boxes.rows_of s.state.frame.viewport) (rows_of s)
  rows_long = rw (← h.count) (screen-long s.state.frame.c s.state.frame.d s.rows)

  same-itself : (a : Box) → same-box a a ≡ true
  same-itself a = rw (eq-eqb a.x0 a.x0 refl, eq-eqb a.y0 a.y0 refl, eq-eqb a.x1 a.x1 refl, eq-eqb a.y1 a.y1 refl)

  clip-is-good : (v : Box) (ls : List Layer) → boxes.good_viewport v ≡ true → All (Good v) ls → good_clip v (clip-box v ls) (length ls) ≡ true
  unfolding good_clip
  clip-is-good v [] g a = same-itself (whole v)
  clip-is-good v (l ∷ ls) g a = screens.clip-good v l.bounds (length ls) (clip-good v g (l ∷ ls) a)

  pub screen-good : (b : Bool) → good_screen (screen-of s.state b) ≡ true
  unfolding good_screen
  screen-good b =
      let f1 = ltb 1024 (length s.state.attrs.paints) in
      let f2 = ltb 1024 (length s.state.attrs.layers) in
      let f3 = ltb 256 (length s.state.attrs.filters) in
      let k = neither (f1 || f2) f3 h.attrs in
      let j = neither f1 f2 k.0 in
      rw (
        le-leb _ _ h.some_id,
        le-leb _ _ h.ids,
        le-leb _ _ (ltb-false 1024 (length s.state.attrs.paints) j.0),
        le-leb _ _ (ltb-false 1024 (length s.state.attrs.layers) j.1),
        le-leb _ _ (ltb-false 256 (length s.state.attrs.filters) k.1),
        le-leb _ _ h.deep,
      )
      (clip-is-good s.state.frame.viewport s.state.layers h.viewport h.layers)

  -- 2, 1 and 4 for the screen's numbers and the rows' words
  pub judged-done : (b : Bool) → judged (screen-of s.state b) (length (rows_of s).state) (length (rows_of s).render) (length (rows_of s).fills) ≡ 0
  unfolding judged
  judged-done b =
      rw (
        h.viewport,
        h.c-room,
        h.d-room,
        eq-eqb _ _ rows_long.render,
        eq-eqb _ _ rows_long.fills,
        eq-eqb _ _ rows_long.state,
        screen-good b,
      )
