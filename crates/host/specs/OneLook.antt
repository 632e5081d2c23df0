-- What one look at a host's words sees, of a call that paints and of those that build; and the words that a building call leaves as they were.
use Rattle.std.specs.Prelude.{ℕ, ◌≡◌, ◌≤◌, ◌<◌, ◌-◌, ◌*◌, Bool, true, ◌&&◌, cond, List, Some, length, leb, eqb}
use Rattle.sizes.specs.Sizes.{most-attrs, most-filters, most-width, row-size, scene-end}
use Rattle.rules.specs.Boxes.{Box, box, good_viewport}
use Rattle.rules.specs.Walk.{good-room}
use Rattle.rect.specs.Rects.{same-box}
use Rattle.screen.specs.declared.Screen.{Screen}
use Rattle.screen.specs.declared.lent.Lent.{Lent}
use Rattle.screen.specs.Screens.{in-tiles}
use Rattle.screen.specs.Judging as screen
use Rattle.fill.specs.Fills.{fill_lent, first-of-lent}
use Rattle.layers.specs.Push.{lent-number, push_lent}
use Rattle.layers.specs.Filter.{first-number, filter_lent}
use Rattle.paint.specs.declared.canvas.stored.Stored.{Stored}
use Rattle.paint.specs.Judging.{wide}
use Rattle.host.specs.declared.state.Corners.{Corners}
use Rattle.host.specs.declared.state.StateWords.{StateWords}
use Rattle.host.specs.declared.layer.PropsWords.{PropsWords}
use Rattle.host.specs.declared.layer.FilterWords.{FilterWords}
use Rattle.host.specs.State.{width_word, screen-at, screen_of}
use Rattle.host.specs.Held.{words_in, rect_of}
use Rattle.host.specs.Lent.{rows_in}
use Rattle.host.specs.Border.{step-judged}

abbrev pub corner-box : Corners → Box
corner-box c = box c.x0 c.y0 c.x1 c.y1

-- from a to b, where a lies in the scene and the side is not wider than a viewport
abbrev pub Side : ℕ → ℕ → ℕ → Type 0
Side a b n = a < scene-end → n ≤ most-width → (a ≤ b) × (n ≡ b - a)

-- a good viewport, so wide and high
pub record Viewed (v : Corners) (w h : ℕ) : Type 0 where
  pub good : good_viewport (corner-box v) ≡ true
  pub across : w ≡ v.x1 - v.x0
  pub down : h ≡ v.y1 - v.y0

-- room in a row; the next id and the counts within their limits
pub record Counted (s : StateWords) : Type 0 where
  pub c : good-room s.c ≡ true
  pub d : good-room s.d ≡ true
  pub counts :
      (leb 1 s.next_draw_id
      && leb s.next_draw_id 1048577
      && leb s.paint_attrs most-attrs
      && leb s.layer_attrs most-attrs
      && leb s.filter_paints most-filters)
      ≡ true

-- the clip box in force, in a viewport so wide and high
abbrev pub clip-in : StateWords → ℕ → ℕ → Bool
clip-in s w h =
    let b = corner-box s.clip in
    cond (eqb s.layers 0) (same-box b (box 0 0 w h)) (in-tiles b && leb b.x0 32768 && leb b.y0 32768 && leb b.x1 w && leb b.y1 h)

-- the lengths of the words of n rows
abbrev pub rows-long : ℕ → StateWords → ℕ → ℕ → ℕ → Bool
rows-long n s rows render fills = eqb render (n * (4 * s.c)) && eqb fills (n * (2 * s.d)) && eqb rows (n * row-size)

-- a painting step is not refused by its judge, the words stand for a screen, and a row of it has b buckets
abbrev pub Sure : StateWords → ℕ → Stored → ℕ → ℕ → ℕ → ℕ → Type 0
Sure w row t depth minima painting b =
    (step-judged t row depth minima painting (screen-at (words_in w)) ≡ 0)
    × (Some (screen-at (words_in w)) ≡ screen_of true (words_in w))
    × (b ≡ wide (screen-at (words_in w)))

-- the words stand for a screen that the judge of building steps passes, with so many words of rows
abbrev pub Built : StateWords → ℕ → ℕ → ℕ → Type 0
Built w rows render fills =
    (screen.judged (screen-at (words_in w)) rows render fills ≡ 0) × (Some (screen-at (words_in w)) ≡ screen_of true (words_in w))

-- .. of what is lent
abbrev pub BuiltFor : StateWords → Lent → Type 0
BuiltFor w t = Built w (length t.rows.now) (length t.render_cmds.now) (length t.depth_cmds.now)

-- .. and what a push is lent besides has its lengths, its flag is one
abbrev pub PushSure : StateWords → Lent → PropsWords → Type 0
PushSure w t p =
    (lent-number (push_lent (screen-at (words_in w)) (rows_in t) t.layers.now t.opacities.now) ≡ 0)
    × (Some (screen-at (words_in w)) ≡ screen_of (leb p.flag 1) (words_in w))

-- .. and what a filter fill is lent
abbrev pub FilterSure : StateWords → Lent → FilterWords → Type 0
FilterSure w t f =
    (first-number (filter_lent (screen-at (words_in w)) (rows_in t) t.paint_attrs.now t.filter_paints.now) ≡ 0)
    × (Some (screen-at (words_in w)) ≡ screen_of (leb f.has_pixmap 1) (words_in w))

-- .. and what a fill is lent, with its lists
abbrev pub FillSure : StateWords → Lent → List ℕ → List ℕ → Type 0
FillSure w t ps ss =
    (first-of-lent (fill_lent (screen-at (words_in w)) (rows_in t) t.paint_attrs.now) ps ss ≡ 0)
    × (Some (screen-at (words_in w)) ≡ screen_of true (words_in w))

-- what no building step changes of a screen
pub record Framed (w : StateWords) (s : Screen) : Type 0 where
  pub viewport : rect_of w.viewport ≡ s.viewport
  pub c : w.c ≡ s.c
  pub d : w.d ≡ s.d
  pub width : w.width ≡ width_word s.width

-- .. nor a push, a fill, a filter fill
pub record PushLeaves (w : StateWords) (s : Screen) : Type 0 where
  pub frame : Framed w s
  pub next : w.next_draw_id ≡ s.next_draw_id
  pub paints : w.paint_attrs ≡ s.paint_attrs
  pub layer-attrs : w.layer_attrs ≡ s.layer_attrs
  pub filters : w.filter_paints ≡ s.filter_paints

pub record FillLeaves (w : StateWords) (s : Screen) : Type 0 where
  pub frame : Framed w s
  pub clip : rect_of w.clip ≡ s.clip_bbox
  pub layer-attrs : w.layer_attrs ≡ s.layer_attrs
  pub filters : w.filter_paints ≡ s.filter_paints
  pub layers : w.layers ≡ s.layers

pub record FilterLeaves (w : StateWords) (s : Screen) : Type 0 where
  pub frame : Framed w s
  pub clip : rect_of w.clip ≡ s.clip_bbox
  pub layer-attrs : w.layer_attrs ≡ s.layer_attrs
  pub layers : w.layers ≡ s.layers
