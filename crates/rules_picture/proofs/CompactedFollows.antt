-- A compacted row still holds what the tile is told: so the picture holds over histories in which rows are compacted.
use Rattle.std.proofs.Common.{ℕ, zero, suc, ◌+◌, ◌-◌, ◌/◌, ◌≤◌, ◌<◌, arith, ◌≡◌, refl, sym, ◌∙◌, ap, subst, Bool, true, false, ◌&&◌, Option, List, [], ◌∷◌, ◌++◌, map, append-nil, length, length-set, replicate}
use Rattle.std.proofs.Common.{set, get_or, get_or-set_same, get_or-set_other, leb, ltb, eqb, eqb-true, ltb-true, ltb-false}
use lib.ListN.{get_or-append, length-replicate}
use borrow.Author.Tests.{eqb-false}
use Rattle.rules.specs.Lists.{such, is-empty}
use Rattle.rules.specs.Boxes.{Box, width, rows_of}
use Rattle.rules.specs.Spans.{Span, covers}
use Rattle.rules.specs.Commands.{Command, paint-fill, layer-fill, push-buf, pop-buf, DepthFill}
use Rattle.rules.specs.Attributes.{PaintAttr, LayerAttr, Attrs, no-paint, no-layer}
use Rattle.rules.specs.Rows.{Row, row-ops, fresh-row}
use Rattle.rules.specs.Plans.{Frame, bucket, buckets-across, Step, plan}
use Rattle.rules.specs.Steps.{Screen, reset, done, touched, call}
use Rattle.rules.specs.Depth.{visible-runs, is-visible, can_skip}
use Rattle.rules.specs.Painting.{paint-id, layer-id, paint-panel, layer-panel, received, paint-row}
use Rattle.rules.specs.Plain.{Told, Story, OpenLayer, untold, tell-step, tell-steps, plain}
use Rattle.rules.specs.Compacted.{newest-ids, is-hidden, a-fill, a-buffer, Removes, nothing, one-more, kept, passed, turned-round, compacted, compact, compact-screen}
use Rattle.rules.proofs.All.{All, nil, cons, head, tail, all_append, all_first, all_rest, all-at, never}
use Rattle.rules.proofs.laws.Changes.{puts-length}
use Rattle.rules.proofs.laws.Widths.{bucket-some}
use Rattle.rules_picture.specs.Built.{Built}
use Rattle.rules_picture.specs.Built as built
use Rattle.rules_picture.specs.Compacted.{Kept-up, no_step, then, tidied, Compacted-picture, Compacted-skip}
use Rattle.rules_picture.proofs.Cases.{by}
use Rattle.rules_picture.proofs.Buckets.{touched-end}
use Rattle.rules_picture.proofs.Newest.{after-length, holds-newest}
use Rattle.rules_picture.proofs.Pieces.{fill-received}
use Rattle.rules_picture.proofs.Rows.{no-older, told-fills, told-commands, newest-told}
use Rattle.rules_picture.proofs.Acted.{nest, Pushed}
use Rattle.rules_picture.proofs.Shown.{newest-hide}
use Rattle.rules_picture.proofs.Shape.{Shape, shape-most}
use Rattle.rules_picture.proofs.Holds.{holds-picture}
use Rattle.rules_picture.proofs.Grown.{Grown}
use Rattle.rules_picture.proofs.Follows.{layer-in, Leads, Follows}
use Rattle.rules_picture.proofs.Stepped.{call-done, call-frame, step_follows, step-leads}
use Rattle.rules_picture.proofs.Picture.{reset-follows}
use Rattle.rules_picture.proofs.Turns.{finished-gave, painted-screen}
use Rattle.rules_picture.proofs.Skip.{said-yes, words-painted, skip-newest}
use Rattle.rules_picture.specs.Turns.{painted}
use Rattle.rules_picture.proofs.Compacted.{removed-one-by-one}
use Rattle.rules_picture.proofs.CompactedPieces.{words-after}
use Rattle.rules_picture.proofs.Ranged.{all_set, Names, Ranged, AllRanged, reset-ranged, step-ranged}

none-in : {A : Type 0} (xs : List A) → is-empty xs ≡ true → xs ≡ []
none-in [] e = refl
none-in (x ∷ xs) e = never (sym e)

-- What removals leave, of facts of each command and of the nesting.
module _ {P : Command → Type 0} (w : ℕ) (a : Attrs) (bs : List ℕ) where
  pub removes-all : {cs ds : List Command} → Removes w a bs cs ds → All P cs → All P ds
  removes-all nothing h = h
  removes-all (one-more (a-fill front back c e) xs) h = removes-all xs (all_append (all_first front (c ∷ back) h) (tail (all_rest front (c ∷ back) h)))
  removes-all (one-more (a-buffer front back s) xs) h =
      removes-all xs (all_append (all_first front (push-buf s ∷ pop-buf ∷ back) h) (tail (tail (all_rest front (push-buf s ∷ pop-buf ∷ back) h))))

module _ (w : ℕ) (a : Attrs) (bs : List ℕ) where
  nest-front : (front ds es : List Command) → ((m : ℕ) → nest m ds ≡ nest m es) → (n : ℕ) → nest n (front ++ ds) ≡ nest n (front ++ es)
  unfolding nest
  nest-front [] ds es h n = h n
  nest-front (paint-fill s x i ∷ front) ds es h n = nest-front front ds es h n
  nest-front (layer-fill s x i ∷ front) ds es h n = nest-front front ds es h n
  nest-front (push-buf s ∷ front) ds es h n = nest-front front ds es h (n + 1)
  nest-front (pop-buf ∷ front) ds es h n = nest-front front ds es h (n - 1)

  nest-hidden : (n : ℕ) (c : Command) (cs : List Command) → is-hidden w a bs c ≡ true → nest n cs ≡ nest n (c ∷ cs)
  unfolding nest
  nest-hidden n (paint-fill s x i) cs e = refl
  nest-hidden n (layer-fill s x i) cs e = refl
  nest-hidden n (push-buf s) cs e = never (sym e)
  nest-hidden n pop-buf cs e = never (sym e)

  nest-cancelled : (n : ℕ) (s : Option Span) (cs : List Command) → nest n cs ≡ nest n (push-buf s ∷ pop-buf ∷ cs)
  unfolding nest
  nest-cancelled n s cs = let e : n + 1 - 1 ≡ n = omega arith in rw e

  removes-nest : {cs ds : List Command} → Removes w a bs cs ds → nest 0 ds ≡ nest 0 cs
  removes-nest nothing = refl
  removes-nest (one-more (a-fill front back c e) xs) = removes-nest xs ∙ nest-front front back (c ∷ back) (λ m. nest-hidden m c back e) 0
  removes-nest (one-more (a-buffer front back s) xs) = removes-nest xs ∙ nest-front front back (push-buf s ∷ pop-buf ∷ back) (λ m. nest-cancelled m s back) 0

-- What the tile is told of a row's commands, and sees.
module _ (w : ℕ) (a : Attrs) (t n : ℕ) (pos : 0 < w) (on : t / w < n) (fs : List DepthFill) where
  abbrev pub words : List ℕ
  words = newest-ids a n fs

  -- the word of the tile's bucket
  abbrev pub word : ℕ
  word = newest-hide (told-fills w a t fs)

  words-long : length words ≡ n
  words-long = ap length (words-after w a n fs) ∙ after-length (paint-id a) fs (replicate n 0) ∙ length-replicate {A = ℕ} n 0

  word-is : get_or words (t / w) 0 ≡ word
  word-is = ap (λ (xs : List ℕ). get_or xs (t / w) 0) (words-after w a n fs) ∙ holds-newest (paint-id a) fs n (t / w) on ∙ newest-told w a t fs

  abbrev Sees : ℕ → List Command → List Told
  Sees m cs = such (no-older word) (told-commands w a t m cs)

  -- a fill of which nothing is visible shows the tile nothing
  pub hides-tile : (l : Bool) (id i q : ℕ) (s : Span) (x : Option ℕ) (m : ℕ) → is-empty (visible-runs w words id s) ≡ true → (covers s t && leb word id) ≡ false
  unfolding received
  hides-tile l id i q s x m e =
      let len : t / w < length words = rw words-long on in
      let k = fill-received w pos t a words len l id i q s x m in
      let g = rw (none-in (visible-runs w words id s) e, word-is) at k in
      by (covers s t && leb word id)
      (λ y. never (sym (ap is-empty (sym (rw y at g)))))
      (λ y. y)

  sees-hidden : (m : ℕ) (c : Command) (cs : List Command) → is-hidden w a words c ≡ true → Sees m cs ≡ Sees m (c ∷ cs)
  unfolding told-commands
  sees-hidden m (paint-fill s x i) cs e =
      let h = hides-tile false (paint-id a i) i (paint-panel a i) s x m e in
      by (covers s t) (λ y. let l : leb word (paint-id a i) ≡ false = rw y at h in rw (y, l)) (λ z. rw z)
  sees-hidden m (layer-fill s x i) cs e =
      let h = hides-tile true (layer-id a i) i (layer-panel a i) s x m e in
      by (covers s t) (λ y. let l : leb word (layer-id a i) ≡ false = rw y at h in rw (y, l)) (λ z. rw z)
  sees-hidden m (push-buf s) cs e = never (sym e)
  sees-hidden m pop-buf cs e = never (sym e)

  sees-cancelled : (m : ℕ) (s : Option Span) (cs : List Command) → Sees m cs ≡ Sees m (push-buf s ∷ pop-buf ∷ cs)
  unfolding told-commands
  sees-cancelled m s cs = let e : m + 1 - 1 ≡ m = omega arith in rw e

  sees-front : (front ds es : List Command) → ((m : ℕ) → Sees m ds ≡ Sees m es) → (m : ℕ) → Sees m (front ++ ds) ≡ Sees m (front ++ es)
  unfolding told-commands
  sees-front [] ds es h m = h m
  sees-front (paint-fill s x i ∷ front) ds es h m = by (covers s t) (λ y. rw (y, sees-front front ds es h m)) (λ z. rw (z, sees-front front ds es h m))
  sees-front (layer-fill s x i ∷ front) ds es h m = by (covers s t) (λ y. rw (y, sees-front front ds es h m)) (λ z. rw (z, sees-front front ds es h m))
  sees-front (push-buf s ∷ front) ds es h m = sees-front front ds es h (m + 1)
  sees-front (pop-buf ∷ front) ds es h m = sees-front front ds es h (m - 1)

  removes-seen : {cs ds : List Command} → Removes w a words cs ds → Sees 0 ds ≡ Sees 0 cs
  removes-seen nothing = refl
  removes-seen (one-more (a-fill front back c e) xs) = removes-seen xs ∙ sees-front front back (c ∷ back) (λ m. sees-hidden m c back e) 0
  removes-seen (one-more (a-buffer front back s) xs) = removes-seen xs ∙ sees-front front back (push-buf s ∷ pop-buf ∷ back) (λ m. sees-cancelled m s back) 0

-- Each entry that the tile is still told of it was told before.
module _ (P : Told → Type 0) (w : ℕ) (a : Attrs) (t : ℕ) (bs : List ℕ) where
  abbrev Tells : ℕ → List Command → Type 0
  Tells m cs = All P (told-commands w a t m cs)

  tells-front : (front ds es : List Command) → ((m : ℕ) → Tells m ds → Tells m es) → (m : ℕ) → Tells m (front ++ ds) → Tells m (front ++ es)
  unfolding told-commands
  tells-front [] ds es h m g = h m g
  tells-front (paint-fill s x i ∷ front) ds es h m g =
      by (covers s t) (λ y. rw y (let k = rw y at g in cons (head k) (tells-front front ds es h m (tail k)))) (λ z. rw z (tells-front front ds es h m (rw z at g)))
  tells-front (layer-fill s x i ∷ front) ds es h m g =
      by (covers s t) (λ y. rw y (let k = rw y at g in cons (head k) (tells-front front ds es h m (tail k)))) (λ z. rw z (tells-front front ds es h m (rw z at g)))
  tells-front (push-buf s ∷ front) ds es h m g = tells-front front ds es h (m + 1) g
  tells-front (pop-buf ∷ front) ds es h m g = tells-front front ds es h (m - 1) g

  tells-hidden : (m : ℕ) (c : Command) (cs : List Command) → is-hidden w a bs c ≡ true → Tells m (c ∷ cs) → Tells m cs
  unfolding told-commands
  tells-hidden m (paint-fill s x i) cs e g = by (covers s t) (λ y. let k = rw y at g in tail k) (λ z. rw z at g)
  tells-hidden m (layer-fill s x i) cs e g = by (covers s t) (λ y. let k = rw y at g in tail k) (λ z. rw z at g)
  tells-hidden m (push-buf s) cs e g = never (sym e)
  tells-hidden m pop-buf cs e g = never (sym e)

  tells-cancelled : (m : ℕ) (s : Option Span) (cs : List Command) → Tells m (push-buf s ∷ pop-buf ∷ cs) → Tells m cs
  unfolding told-commands
  tells-cancelled m s cs g = let e : m + 1 - 1 ≡ m = omega arith in rw e at g

  removes-told : {cs ds : List Command} → Removes w a bs cs ds → Tells 0 cs → Tells 0 ds
  removes-told nothing g = g
  removes-told (one-more (a-fill front back c e) xs) g = removes-told xs (tells-front front (c ∷ back) back (λ m. tells-hidden m c back e) 0 g)
  removes-told (one-more (a-buffer front back s) xs) g = removes-told xs (tells-front front (push-buf s ∷ pop-buf ∷ back) back (λ m. tells-cancelled m s back) 0 g)

-- A row that names attributes of the shorter tables is compacted alike by the longer ones.
module _ (w n : ℕ) (a c : Attrs) (t : ℕ) (v : Box) (row : ℕ) (l : Leads w c t v row a) where
  paint-alike : (i : ℕ) → i < length a.paints → paint-id a i ≡ paint-id c i
  paint-alike i h =
      ap (λ (x : PaintAttr). x.id) (sym (ap (λ (xs : List PaintAttr). get_or xs i no-paint) l.paints ∙ get_or-append a.paints l.paints-more no-paint i h))

  layer-alike : (i : ℕ) → i < length a.layers → layer-id a i ≡ layer-id c i
  layer-alike i h =
      ap (λ (x : LayerAttr). x.id) (sym (ap (λ (xs : List LayerAttr). get_or xs i no-layer) l.layers ∙ get_or-append a.layers l.layers-more no-layer i h))

  newest-alike : {fs : List DepthFill} → All (λ (f : DepthFill). f.attribute < length a.paints) fs → newest-ids a n fs ≡ newest-ids c n fs
  newest-alike nil = refl
  newest-alike (cons {x = f} {xs = fs} h g) = rw (newest-alike g, paint-alike f.attribute h)

  kept-alike : (bs : List ℕ) (x : Command) → Names (length a.paints) (length a.layers) x → (st : List Command) → kept w a bs x st ≡ kept w c bs x st
  kept-alike bs (paint-fill s x i) h st = rw (paint-alike i h)
  kept-alike bs (layer-fill s x i) h st = rw (layer-alike i h)
  kept-alike bs (push-buf s) h st = refl
  kept-alike bs pop-buf h [] = refl
  kept-alike bs pop-buf h (paint-fill s x i ∷ st) = refl
  kept-alike bs pop-buf h (layer-fill s x i ∷ st) = refl
  kept-alike bs pop-buf h (push-buf s ∷ st) = refl
  kept-alike bs pop-buf h (pop-buf ∷ st) = refl

  passed-alike : (bs : List ℕ) {cs : List Command} → All (Names (length a.paints) (length a.layers)) cs → (st : List Command) → passed w a bs st cs ≡ passed w c bs st cs
  passed-alike bs nil st = refl
  passed-alike bs (cons {x = x} {xs = cs} h g) st = ap (λ (ys : List Command). passed w a bs ys cs) (kept-alike bs x h st) ∙ passed-alike bs g (kept w c bs x st)

  compacted-alike : (r : Row) → Ranged (length a.paints) (length a.layers) r → compacted w n a r ≡ compacted w n c r
  unfolding compacted
  compacted-alike r g =
      ap (λ (xs : List Command). turned-round xs [])
      (passed-alike (newest-ids a n r.fills) g.commands [] ∙ ap (λ (bs : List ℕ). passed w c bs [] r.commands) (newest-alike g.fills))

compact-ranged : (w n : ℕ) (a : Attrs) (p l : ℕ) (r : Row) → Ranged p l r → Ranged p l (compact w n a r)
compact-ranged w n a p l r g = record { commands = removes-all w a (newest-ids a n r.fills) (removed-one-by-one w n a r) g.commands; fills = g.fills }

pub screen-ranged : (i : ℕ) (s : Screen Row) → AllRanged s → AllRanged (compact-screen i s)
screen-ranged i s g =
    let p = length s.state.attrs.paints in
    let l = length s.state.attrs.layers in
    let r : Ranged p l (get_or s.rows i fresh-row) = by (ltb i (length s.rows))
    (λ y. all-at g i fresh-row (ltb-true i (length s.rows) y))
    (λ n. past s.rows i (ltb-false i (length s.rows) n)) in
    all_set g i _ (compact-ranged (bucket s.state.frame) (buckets-across s.state.frame) s.state.attrs p l (get_or s.rows i fresh-row) r)
  where
    past : {p l : ℕ} (xs : List Row) (i : ℕ) → length xs ≤ i → Ranged p l (get_or xs i fresh-row)
    past [] i h = record { commands = nil; fills = nil }
    past (x ∷ xs) zero h = absurd (omega arith)
    past (x ∷ xs) (suc i) h = past xs i (omega arith)

module _ (w : ℕ) (c : Attrs) (t n : ℕ) (v : Box) (row : ℕ) (pos : 0 < w) (on : t / w < n) where
  pub no-levels : {ls : List OpenLayer} {m : ℕ} → ls ≡ [] → Shape ls m → m ≡ 0
  no-levels e s = let h = shape-most (rw e at s) in omega arith

  none-of : {A : Type 0} (xs : List A) → length xs ≡ 0 → xs ≡ []
  none-of [] e = refl
  none-of (x ∷ xs) e = absurd (omega arith)

  -- with no layer open, the compacted row holds the entries that the row holds
  compact-grows : {ts : List Told} {next : ℕ} {ls : List OpenLayer} {r : Row} → ls ≡ [] → Grown w c t v row ts next ls r → Grown w c t v row ts next ls (compact w n c r)
  compact-grows {next = next} {r = r} e g =
      let h = g.holds in
      let x = removed-one-by-one w n c r in
      let bs = newest-ids c n r.fills in
      let none : r.levels ≡ [] = none-of r.levels (no-levels e g.shape) in
      let pushed : All (Pushed (compacted w n c r)) r.levels = rw none nil in
      record {
        holds = record {
          hidden = h.hidden;
          open_told = h.open_told ∙ sym (removes-seen w c t n pos on r.fills x);
          older = removes-told (λ (u : Told). u.id < next) w c t bs x h.older;
          rising = h.rising;
          below = h.below;
          numbered = h.numbered;
          summed = h.summed;
          sound = record { nested = removes-nest w c bs x ∙ h.sound.nested; pushed = pushed };
        };
        shape = g.shape;
      }

  -- what holds of a row, and of it compacted, holds of it on the compacted screen
  pub row-compacted : (P : Row → Type 0) (i : ℕ) (s : Screen Row) → bucket s.state.frame ≡ w → buckets-across s.state.frame ≡ n → Leads w c t v row s.state.attrs → AllRanged s
      → row < length s.rows → P (get_or s.rows row fresh-row) → P (compact w n c (get_or s.rows row fresh-row)) → P (get_or (compact-screen i s).rows row fresh-row)
  row-compacted P i s d e l g h old new =
      let a = s.state.attrs in
      let q = compact (bucket s.state.frame) (buckets-across s.state.frame) a (get_or s.rows i fresh-row) in
      by (eqb row i)
      (λ y.
      let k = eqb-true row i y in
      let r = get_or s.rows row fresh-row in
      let same : compact (bucket s.state.frame) (buckets-across s.state.frame) a r ≡ compact w n c r =
      ap (λ (m : ℕ). compact m (buckets-across s.state.frame) a r) d
      ∙ ap (λ (m : ℕ). compact w m a r) e
      ∙ ap (λ (cs : List Command). record { commands = cs; fills = r.fills; levels = r.levels; depth = r.depth })
      (compacted-alike w n a c t v row l r (all-at g row fresh-row h)) in
      let at : get_or (set s.rows i q) row fresh-row ≡ compact w n c r =
      rw (← k) (get_or-set_same s.rows row (compact (bucket s.state.frame) (buckets-across s.state.frame) a r) fresh-row h ∙ same) in
      subst P (sym at) new)
      (λ m. rw (get_or-set_other s.rows i row q fresh-row (eqb-false row i m)) old)

  -- a screen on which no layer is open follows a story that has none open
  pub none-open : {o : Story} {s : Screen Row} → s.state.layers ≡ [] → Follows w c t v row o s → o.open-layers ≡ []
  none-open {o = o} z f = map-none o.open-layers (sym f.opened ∙ z)
    where
      map-none : (ls : List OpenLayer) → map layer-in ls ≡ [] → ls ≡ []
      map-none [] y = refl
      map-none (x ∷ xs) y = never (sym (ap is-empty y))

  pub compact-follows : (i : ℕ) (o : Story) (s : Screen Row) → buckets-across s.state.frame ≡ n → s.state.layers ≡ [] → Leads w c t v row s.state.attrs → AllRanged s
      → Follows w c t v row o s → Follows w c t v row o (compact-screen i s)
  compact-follows i o s e z l g f =
      let q = compact (bucket s.state.frame) (buckets-across s.state.frame) s.state.attrs (get_or s.rows i fresh-row) in
      record {
        view = f.view;
        wide = f.wide;
        next = f.next;
        first = f.first;
        paints = f.paints;
        layers = f.layers;
        opened = f.opened;
        there = rw (length-set s.rows i q) f.there;
        grown = row-compacted (λ (r : Row). Grown w c t v row o.told o.next o.open-layers r) i s f.wide e l g f.there f.grown (compact-grows (none-open z f) f.grown);
      }

-- Histories with rows compacted between their steps: one with none is such, and frames, attributes and stories go on as without.
pub built-kept : {xs : List Step} {s u : Screen Row} → Built xs s u → Kept-up xs s u
built-kept built.no_step = no_step
built-kept (built.then e b) = then e (built-kept b)

pub kept-frame : {xs : List Step} {s u : Screen Row} → Kept-up xs s u → u.state.frame ≡ s.state.frame
kept-frame no_step = refl
kept-frame (then {x = x} {s = s} e b) = kept-frame b ∙ call-frame row-ops x s
kept-frame (tidied i z b) = kept-frame b

pub kept-rows : {xs : List Step} {s u : Screen Row} → Kept-up xs s u → length u.rows ≡ length s.rows
unfolding done
kept-rows no_step = refl
kept-rows (then {x = x} {s = s} e b) =
    let js = touched Row row-ops (length s.state.layers) 0 s.rows in
    let p = plan x js s.state in
    kept-rows b ∙ ap (λ (k : Screen Row). length k.rows) (call-done x s e).1 ∙ puts-length Row row-ops (bucket s.state.frame) (length p.layers) p.puts s.rows
kept-rows (tidied {s = s} i z b) =
    kept-rows b ∙ length-set s.rows i (compact (bucket s.state.frame) (buckets-across s.state.frame) s.state.attrs (get_or s.rows i fresh-row))

pub kept-append : {xs ys : List Step} {s u v : Screen Row} → Kept-up xs s u → Kept-up ys u v → Kept-up (xs ++ ys) s v
kept-append no_step b = b
kept-append (then e a) b = then e (kept-append a b)
kept-append (tidied i z a) b = tidied i z (kept-append a b)

module _ (w t : ℕ) (v : Box) (row : ℕ) where
  pub kept-leads : {xs : List Step} {s u : Screen Row} → Kept-up xs s u → Leads w u.state.attrs t v row s.state.attrs
  unfolding done
  kept-leads {u = u} no_step =
      record { paints-more = []; paints = sym (append-nil u.state.attrs.paints); layers-more = []; layers = sym (append-nil u.state.attrs.layers) }
  kept-leads {u = u} (then {x = x} {s = s} e b) =
      let l : Leads w u.state.attrs t v row (call Row row-ops x s).value.state.attrs = kept-leads b in
      let js = touched Row row-ops (length s.state.layers) 0 s.rows in
      step-leads w u.state.attrs t v row x js s.state
      (rw (ap (λ (k : Screen Row). k.state.attrs) (call-done x s e).1) at l)
  kept-leads (tidied i z b) = kept-leads b

  kept-follows : 0 < w → {xs : List Step} {s u : Screen Row} → Kept-up xs s u → t / w < buckets-across s.state.frame → AllRanged s
      → (o : Story) → Follows w u.state.attrs t v row o s → Follows w u.state.attrs t v row (tell-steps w v row t xs o) u
  unfolding tell-steps done
  kept-follows pos no_step on a o f = f
  kept-follows pos {u = u} (then {x = x} {s = s} e b) on a o f =
      let (j, q) = call-done x s e in
      let l : Leads w u.state.attrs t v row (call Row row-ops x s).value.state.attrs = kept-leads b in
      let g = step_follows w u.state.attrs t v row pos x o s f j (rw (ap (λ (k : Screen Row). k.state.attrs) q) at l) in
      kept-follows pos b (rw (call-frame row-ops x s) on) (step-ranged x s e a) (tell-step w v row t x o) (rw q g)
  kept-follows pos {u = u} (tidied {s = s} i z b) on a o f =
      kept-follows pos b on (screen-ranged i s a) o
      (compact-follows w u.state.attrs t (buckets-across s.state.frame) v row pos on i o s refl z (kept-leads b) a f)

-- A screen built so follows the story of each of its tiles, ..
pub follows-kept : (f : Frame) (xs : List Step) (u : Screen Row) → Kept-up xs (reset fresh-row f) u → (row t : ℕ) → row < rows_of f.viewport → t / bucket f < buckets-across f
    → Follows (bucket f) u.state.attrs t f.viewport row (tell-steps (bucket f) f.viewport row t xs untold) u
unfolding reset
follows-kept f xs u b row t h on =
    kept-follows (bucket f) t f.viewport row (bucket-some f.width) b on (reset-ranged f) untold (reset-follows u.state.attrs t row f h)

-- .. has the frame of its reset, and the rows of that, ..
pub kept-on : (f : Frame) (xs : List Step) (u : Screen Row) → Kept-up xs (reset fresh-row f) u → (row : ℕ) → row < rows_of f.viewport → (u.state.frame ≡ f) × (row < length u.rows)
unfolding reset
kept-on f xs u b row h = let k = kept-rows b in (kept-frame b, rw (k, length-replicate {A = Row} (rows_of f.viewport) fresh-row) h)

-- .. so the picture holds of it.
pub compacted-picture : Compacted-picture
unfolding reset plain
compacted-picture f xs k b e ts r t h on fin =
    let w = bucket f in
    let v = kept-frame b in
    let near : t / w < buckets-across f = touched-end w (bucket-some f.width) t (width f.viewport / 4) on in
    let g = follows-kept f xs k.screen b r t h near in
    let row = get_or k.screen.rows r fresh-row in
    ap (received t) (finished-gave ts k r e g.there fin)
    ∙ ap (λ (x : Frame). received t (paint-row (bucket x) k.screen.state.attrs (buckets-across x) row)) v
    ∙ holds-picture w k.screen.state.attrs t (bucket-some f.width) (buckets-across f) near _ _ row g.grown.holds

-- The depth summary stays, and so does what can_skip says.
pub compacted-skip : Compacted-skip
unfolding reset
compacted-skip f xs k b e ts r h fp s id can t c on =
    let w = bucket f in
    let a = k.screen.state.attrs in
    let v : k.screen.state.frame ≡ f = kept-frame b in
    let near : t / w < buckets-across f = touched-end w (bucket-some f.width) t (width f.viewport / 4) on in
    let g = follows-kept f xs k.screen b r t h near in
    let there : t / w < buckets-across k.screen.state.frame = rw v near in
    let row = get_or k.screen.rows r fresh-row in
    let y : can_skip row.depth s id ≡ true = rw (painted-screen ts k e) at (said-yes r s id (painted ts k).canvas can) in
    ap (is-visible id) (words-painted k e ts r g.there fp (t / w) there)
    ∙ skip-newest w a (bucket-some f.width) row g.grown.holds.summed s id y t c
