-- Each number of a recording's figures is below 2^31: at most 512 rows of 1,024 tiles, of which each is told of at most 2,048 fills.
use Rattle.std.proofs.Common.{ℕ, suc, ◌+◌, ◌-◌, ◌/◌, ◌≤◌, ◌<◌, arith, ◌≡◌, Bool, true, false, List, [], ◌∷◌, length, get_or}
use Rattle.sizes.specs.Sizes.{most-room}
use Rattle.rules.specs.Lists.{such, keep}
use Rattle.rules.specs.Boxes.{width, rows_of}
use Rattle.rules.specs.Spans.{covers}
use Rattle.rules.specs.Commands.{Command, paint-fill, layer-fill, push-buf, pop-buf, DepthFill}
use Rattle.rules.specs.Attributes.{Attrs}
use Rattle.rules.specs.Rows.{Row, fresh-row}
use Rattle.rules.specs.Plans.{Frame, bucket, Step}
use Rattle.rules.specs.Steps.{Screen}
use Rattle.rules.specs.Plain.{Told}
use Rattle.rules.proofs.laws.Viewports.{view}
use Rattle.rules_picture.proofs.Shown.{hides-of}
use Rattle.rules_picture.proofs.Held.{stays}
use Rattle.rules_picture.proofs.Rows.{told-fills, told-commands}
use Rattle.rules_picture.proofs.Picture.{follows}
use Rattle.rules_figures.specs.Figures.{sum-to, told-at, asked, commands-held, fills-held, figures}
use Rattle.rules_figures.specs.Accounted.{Left, Small, Figures-small}
use Rattle.rules_figures.proofs.Tallies.{sum-most, sum-listed}
use Rattle.rules_figures.proofs.Screens.{rows-are}
use Rattle.rules_figures.proofs.Asked.{asked-accounted}
use Rattle.rules_figures.proofs.Counted.{counted}
use Rattle.rules_figures.proofs.Newer.{such-all, such-parted}
use Rattle.rules_figures.proofs.Roomed.{rows-fit}

keep-most : (b : Bool) (k : Told) (ks : List Told) (n : ℕ) → length ks ≤ n → length (keep b k ks) ≤ suc n
keep-most true k ks n h = omega arith
keep-most false k ks n h = omega arith

module _ (w : ℕ) (a : Attrs) (t : ℕ) where
  fills-most : (fs : List DepthFill) → length (told-fills w a t fs) ≤ length fs
  fills-most [] = omega arith
  fills-most (f ∷ fs) = keep-most (covers f.buckets (t / w)) _ (told-fills w a t fs) (length fs) (fills-most fs)

  commands-most : (n : ℕ) (cs : List Command) → length (told-commands w a t n cs) ≤ length cs
  unfolding told-commands
  commands-most n [] = omega arith
  commands-most n (paint-fill s x i ∷ cs) = keep-most (covers s t) _ (told-commands w a t n cs) (length cs) (commands-most n cs)
  commands-most n (layer-fill s x i ∷ cs) = keep-most (covers s t) _ (told-commands w a t n cs) (length cs) (commands-most n cs)
  commands-most n (push-buf s ∷ cs) = let h = commands-most (n + 1) cs in omega arith
  commands-most n (pop-buf ∷ cs) = let h = commands-most (n - 1) cs in omega arith

module _ (f : Frame) (xs : List Step) (u : Screen Row) (l : Left f xs u) (c : f.c ≤ most-room) (d : f.d ≤ most-room) where
  told-most : (row t : ℕ) → row < rows_of f.viewport → length (told-at f xs row t) ≤ 2048
  told-most row t h =
      let r = get_or u.rows row fresh-row in
      let (m, n) = rows-fit f xs u l.built row (rw (rows-are f l.built) h) in
      let i = fills-most (bucket f) u.state.attrs t r.fills in
      let j = commands-most (bucket f) u.state.attrs t 0 r.commands in
      let e : length (told-at f xs row t) ≡ length (told-fills (bucket f) u.state.attrs t r.fills) + length (told-commands (bucket f) u.state.attrs t 0 r.commands) =
      rw (← counted f xs u l.built row t h, ← (follows f xs u l.built row t h).grown.holds.hidden) (parted (told-at f xs row t)) in
      omega arith
    where
      parted : (ts : List Told) → length ts ≡ length (such hides-of ts) + length (such stays ts)
      parted ts = rw (such-all ts, such-all (such hides-of ts), such-all (such stays ts)) at (such-parted hides-of (λ (k : Told). true) ts)

  asked-most : asked f xs ≤ 1073741824
  unfolding asked
  asked-most =
      let v = view f.viewport l.view in
      let wide = v.wide in
      let high = v.high in
      let across = width f.viewport / 4 in
      let n = rows_of f.viewport in
      let s = sum-most n 2097152 (λ row. sum-to across (λ t. length (told-at f xs row t)))
      (λ row h. let k = sum-most across 2048 (λ t. length (told-at f xs row t)) (λ t p. told-most row t h) in omega arith) in
      omega arith

  commands-small : commands-held u ≤ 524288
  commands-small =
      let high = (view f.viewport l.view).high in
      let e = sum-listed (λ (r : Row). length r.commands) fresh-row u.rows in
      let s = sum-most (length u.rows) 1024 (λ i. length (get_or u.rows i fresh-row).commands) (λ i h. let k = (rows-fit f xs u l.built i h).0 in omega arith) in
      let n = rows-are f l.built in
      omega arith

  fills-small : fills-held u ≤ 524288
  fills-small =
      let high = (view f.viewport l.view).high in
      let e = sum-listed (λ (r : Row). length r.fills) fresh-row u.rows in
      let s = sum-most (length u.rows) 1024 (λ i. length (get_or u.rows i fresh-row).fills) (λ i h. let k = (rows-fit f xs u l.built i h).1 in omega arith) in
      let n = rows-are f l.built in
      omega arith

  -- what is painted or hidden was asked for
  small : Small (figures f xs u)
  small =
      let a = asked-most in
      let e = asked-accounted f xs u l in
      let m = commands-small in
      let n = fills-small in
      record { asked = omega arith; painted = omega arith; hidden = omega arith; commands = omega arith; fills = omega arith; refused = omega arith }

pub figures-small : Figures-small
figures-small f xs u l c d = small f xs u l c d
