-- The picture, about the rules: a row painted to its end alone, and rows painted by turns.
use Rattle.std.proofs.Common.{ℕ, ◌/◌, ◌<◌, arith, ◌≡◌, refl, sym, ◌∙◌, ap, false, List, [], ◌∷◌, append-nil, length, get_or, replicate}
use lib.ListN.{get_or-replicate, length-replicate}
use Rattle.rules.specs.Lists.{some_of}
use Rattle.rules.specs.Boxes.{Box, width, rows_of}
use Rattle.rules.specs.Attributes.{Attrs}
use Rattle.rules.specs.Rows.{Row, row-ops, fresh-row}
use Rattle.rules.specs.Painting.{received, paint-row}
use Rattle.rules.specs.Plans.{Frame, bucket, buckets-across, Step}
use Rattle.rules.specs.Steps.{Screen, reset, done, touched, call}
use Rattle.rules.specs.Plain.{Told, shown, Story, untold, tell-step, tell-steps, plain}
use Rattle.rules.proofs.All.{neither}
use Rattle.rules.proofs.laws.Widths.{bucket-some}
use Rattle.rules_picture.specs.Built.{Built, no_step, then}
use Rattle.rules_picture.specs.Turns.{Picture}
use Rattle.rules_picture.proofs.Buckets.{touched-end}
use Rattle.rules_picture.proofs.Shape.{none_open}
use Rattle.rules_picture.proofs.Summed.{Summed}
use Rattle.rules_picture.proofs.Holds.{holds-fresh, holds-picture}
use Rattle.rules_picture.proofs.Grown.{Grown}
use Rattle.rules_picture.proofs.Follows.{Leads, Follows}
use Rattle.rules_picture.proofs.Stepped.{call-done, call-frame, step_follows, step-leads}
use Rattle.rules_picture.proofs.Turns.{finished-gave}

-- a built screen has the frame of the screen that it was built from
pub built-frame : {xs : List Step} {s u : Screen Row} → Built xs s u → u.state.frame ≡ s.state.frame
built-frame no_step = refl
built-frame (then {x = x} {s = s} e b) = built-frame b ∙ call-frame row-ops x s

module _ (w t : ℕ) (v : Box) (row : ℕ) where
  -- the attributes of a built screen begin with those of each screen on the way
  pub built-leads : {xs : List Step} {s u : Screen Row} → Built xs s u → Leads w u.state.attrs t v row s.state.attrs
  unfolding done
  built-leads {u = u} no_step =
      record { paints-more = []; paints = sym (append-nil u.state.attrs.paints); layers-more = []; layers = sym (append-nil u.state.attrs.layers) }
  built-leads {u = u} (then {x = x} {s = s} e b) =
      let l : Leads w u.state.attrs t v row (call Row row-ops x s).value.state.attrs = built-leads b in
      let js = touched Row row-ops (length s.state.layers) 0 s.rows in
      step-leads w u.state.attrs t v row x js s.state
      (rw (ap (λ (k : Screen Row). k.state.attrs) (call-done x s e).1) at l)

  built-follows : 0 < w → {xs : List Step} {s u : Screen Row} → Built xs s u → (o : Story) → Follows w u.state.attrs t v row o s
      → Follows w u.state.attrs t v row (tell-steps w v row t xs o) u
  unfolding tell-steps done
  built-follows pos no_step o f = f
  built-follows pos {u = u} (then {x = x} {s = s} e b) o f =
      let (j, q) = call-done x s e in
      let l : Leads w u.state.attrs t v row (call Row row-ops x s).value.state.attrs = built-leads b in
      let g = step_follows w u.state.attrs t v row pos x o s f j (rw (ap (λ (k : Screen Row). k.state.attrs) q) at l) in
      built-follows pos b (tell-step w v row t x o) (rw q g)

-- a reset screen and the beginning of the story
pub reset-follows : (attrs : Attrs) (t row : ℕ) (f : Frame) → row < rows_of f.viewport → Follows (bucket f) attrs t f.viewport row untold (reset fresh-row f)
unfolding reset
reset-follows attrs t row f h =
    let e : get_or (replicate (rows_of f.viewport) fresh-row) row fresh-row ≡ fresh-row = get_or-replicate (rows_of f.viewport) row fresh-row fresh-row h in
    let g : Grown (bucket f) attrs t f.viewport row [] 1 [] fresh-row = record { holds = holds-fresh (bucket f) attrs t; shape = none_open } in
    record {
      view = refl;
      wide = refl;
      next = refl;
      first = omega arith;
      paints = refl;
      layers = refl;
      opened = refl;
      there = rw (length-replicate {A = Row} (rows_of f.viewport) fresh-row) h;
      grown = rw e g;
    }

-- Take a screen built from its reset by done steps xs.
module _ (f : Frame) (xs : List Step) (u : Screen Row) (b : Built xs (reset fresh-row f) u) where
  -- it follows the story of each tile, at the frame's own width
  pub follows : (row t : ℕ) → row < rows_of f.viewport
      → Follows (bucket f) u.state.attrs t f.viewport row (tell-steps (bucket f) f.viewport row t xs untold) u
  follows row t h = built-follows (bucket f) t f.viewport row (bucket-some f.width) b untold (reset-follows u.state.attrs t row f h)

  -- A row painted to its end over n buckets has given each of its tiles exactly what plain draw order gives it, in that order and at
  -- that nesting, less what came before the newest eligible solid segment that covers the tile's whole bucket; where there is none,
  -- everything.
  pub row-picture : (row t n : ℕ) → row < rows_of f.viewport → t / bucket f < n
      → received t (paint-row (bucket f) u.state.attrs n (get_or u.rows row fresh-row)) ≡ plain (bucket f) f.viewport row t xs
  unfolding plain
  row-picture row t n h on =
      holds-picture (bucket f) u.state.attrs t (bucket-some f.width) n on _ _ (get_or u.rows row fresh-row) (follows row t h).grown.holds

  -- .. for the tiles of the screen, over the buckets that painting has
  pub screen-picture : (row t : ℕ) → row < rows_of f.viewport → t < width f.viewport / 4
      → received t (paint-row (bucket f) u.state.attrs (buckets-across f) (get_or u.rows row fresh-row)) ≡ plain (bucket f) f.viewport row t xs
  screen-picture row t h on = row-picture row t (buckets-across f) h (touched-end (bucket f) (bucket-some f.width) t (width f.viewport / 4) on)

  -- it has the frame of its reset, and the rows of that
  pub built-on : (row : ℕ) → row < rows_of f.viewport → (u.state.frame ≡ f) × (row < length u.rows)
  unfolding reset
  built-on row h = (built-frame b, (follows row 0 h).there)

  -- and each row's summary includes the row's depth fills
  pub built-summed : (row : ℕ) → row < rows_of f.viewport → Summed (bucket f) u.state.attrs (get_or u.rows row fresh-row)
  built-summed row h = (follows row 0 h).grown.holds.summed

-- The picture, about the rules, for rows painted by turns.
pub picture : Picture
picture f xs k b e ts r t h on fin =
    let (v, there) = built-on f xs k.screen b r h in
    let row = get_or k.screen.rows r fresh-row in
    ap (received t) (finished-gave ts k r e there fin)
    ∙ ap (λ (g : Frame). received t (paint-row (bucket g) k.screen.state.attrs (buckets-across g) row)) v
    ∙ screen-picture f xs k.screen b r t h on

-- where nothing hides, everything is shown
pub all_shown : (ts : List Told) → some_of (λ (u : Told). u.hides) ts ≡ false → shown ts ≡ ts
unfolding shown
all_shown [] e = refl
all_shown (t ∷ ts) e = let h = neither t.hides (some_of (λ (u : Told). u.hides) ts) e in rw h.1
