-- A row's pieces are those of its depth fills, and of its commands against the depth words after them: what is taken out of a row gives none.
use Rattle.std.proofs.Common.{ℕ, zero, suc, ◌+◌, ◌-◌, ◌≤◌, ◌<◌, zero-add, le_refl, add-zero, suc-add, arith, ◌≡◌, refl, sym, ◌∙◌, ap, true, false, Option, List, [], ◌∷◌, ◌++◌, map, append_assoc}
use Rattle.std.proofs.Common.{length, drop, replicate, lt-ltb}
use Rattle.rules.specs.Lists.{is-empty}
use Rattle.rules.specs.Spans.{Span}
use Rattle.rules.specs.Commands.{Command, paint-fill, layer-fill, push-buf, pop-buf, DepthFill}
use Rattle.rules.specs.Attributes.{Attrs}
use Rattle.rules.specs.Rows.{Row}
use Rattle.rules.specs.Depth.{visible-runs, written}
use Rattle.rules.specs.Painting.{Piece, fill-piece, Painter, Painted, begin, paint-id, layer-id, paint-panel, layer-panel, paint-depth, paint-when, paint-fill-runs, paint-command, paint-step, paint-steps, paint-row}
use Rattle.rules.specs.Compacted.{newest-ids, is-hidden, Removed, a-fill, a-buffer, Removes, nothing, one-more, compacted, compact}
use Rattle.rules.proofs.All.{never}
use Rattle.rules_picture.specs.Compacted.{Compacted-same}
use Rattle.rules_picture.proofs.Newest.{depth-after, painter-after, stands}
use Rattle.rules_picture.proofs.Rows.{drop_head, command-next}
use Rattle.rules_picture.proofs.Turns.{painter-on}
use Rattle.rules_picture.proofs.Skip.{on-after}
use Rattle.rules_picture.proofs.Compacted.{removed-one-by-one}

-- against the depth words bs, with n buffers open
module _ (w : ℕ) (a : Attrs) (bs : List ℕ) where
  unfoldable pub command-pieces : ℕ → List Command → List Piece
  command-pieces n [] = []
  command-pieces n (paint-fill s x i ∷ cs) = map (fill-piece w a false i (paint-panel a i) s x n) (visible-runs w bs (paint-id a i) s) ++ command-pieces n cs
  command-pieces n (layer-fill s x i ∷ cs) = map (fill-piece w a true i (layer-panel a i) s x n) (visible-runs w bs (layer-id a i) s) ++ command-pieces n cs
  command-pieces n (push-buf s ∷ cs) = command-pieces (n + 1) cs
  command-pieces n (pop-buf ∷ cs) = command-pieces (n - 1) cs

  empty-runs : {A : Type 0} (xs : List A) → is-empty xs ≡ true → xs ≡ []
  empty-runs [] e = refl
  empty-runs (x ∷ xs) e = never (sym e)

  hidden-gives : (n : ℕ) (c : Command) (cs : List Command) → is-hidden w a bs c ≡ true → command-pieces n (c ∷ cs) ≡ command-pieces n cs
  unfolding command-pieces
  hidden-gives n (paint-fill s x i) cs e = rw (empty-runs (visible-runs w bs (paint-id a i) s) e)
  hidden-gives n (layer-fill s x i) cs e = rw (empty-runs (visible-runs w bs (layer-id a i) s) e)
  hidden-gives n (push-buf s) cs e = never (sym e)
  hidden-gives n pop-buf cs e = never (sym e)

  cancelled : (n : ℕ) (s : Option Span) (cs : List Command) → command-pieces n (push-buf s ∷ pop-buf ∷ cs) ≡ command-pieces n cs
  unfolding command-pieces
  cancelled n s cs = let e : n + 1 - 1 ≡ n = omega arith in rw e

  pieces-after-front : (front ds es : List Command) → ((m : ℕ) → command-pieces m ds ≡ command-pieces m es) → (n : ℕ) → command-pieces n (front ++ ds) ≡ command-pieces n (front ++ es)
  unfolding command-pieces
  pieces-after-front [] ds es h n = h n
  pieces-after-front (paint-fill s x i ∷ front) ds es h n = rw (pieces-after-front front ds es h n)
  pieces-after-front (layer-fill s x i ∷ front) ds es h n = rw (pieces-after-front front ds es h n)
  pieces-after-front (push-buf s ∷ front) ds es h n = pieces-after-front front ds es h (n + 1)
  pieces-after-front (pop-buf ∷ front) ds es h n = pieces-after-front front ds es h (n - 1)

  removed-pieces : {cs ds : List Command} → Removed w a bs cs ds → command-pieces 0 ds ≡ command-pieces 0 cs
  removed-pieces (a-fill front back c e) = pieces-after-front front back (c ∷ back) (λ m. sym (hidden-gives m c back e)) 0
  removed-pieces (a-buffer front back s) = pieces-after-front front back (push-buf s ∷ pop-buf ∷ back) (λ m. sym (cancelled m s back)) 0

  removes-pieces : {cs ds : List Command} → Removes w a bs cs ds → command-pieces 0 ds ≡ command-pieces 0 cs
  removes-pieces nothing = refl
  removes-pieces (one-more x xs) = removes-pieces xs ∙ removed-pieces x

module _ (w : ℕ) (a : Attrs) where
  -- the steps of a row, first j and then k
  steps-append : (j k : ℕ) (r : Row) (p : Painter) → paint-steps w a (j + k) r p ≡ paint-steps w a j r p ++ paint-steps w a k r (painter-on w a j r p)
  unfolding paint-steps painter-on
  steps-append zero k r p = rw (zero-add k)
  steps-append (suc j) k r p =
      let o = paint-step w a r p in
      rw (suc-add j k) (ap (λ (ps : List Piece). o.pieces ++ ps) (steps-append j k r o.painter) ∙ sym (append_assoc o.pieces (paint-steps w a j r o.painter) _))

  -- depth fills paint alike whatever commands come after them
  abbrev among : List Command → Row → Row
  among cs r = record { commands = cs; fills = r.fills; levels = r.levels; depth = r.depth }

  depth-next : (r : Row) (p : Painter) → p.steps < length r.fills → (cs : List Command)
      → (paint-step w a (among cs r) p ≡ paint-step w a r p) × ((paint-step w a r p).painter.steps ≡ p.steps + 1)
  unfolding paint-step paint-when paint-depth
  depth-next r p h cs = let e = lt-ltb p.steps (length r.fills) h in rw e (refl, refl)

  fills-alike : (k : ℕ) (r : Row) (cs : List Command) (p : Painter) → p.steps + k ≤ length r.fills → paint-steps w a k (among cs r) p ≡ paint-steps w a k r p
  unfolding paint-steps
  fills-alike zero r cs p h = refl
  fills-alike (suc k) r cs p h =
      let (e, s) = depth-next r p (omega arith) cs in
      let o = paint-step w a r p in
      ap (λ (x : Painted). x.pieces ++ paint-steps w a k (among cs r) x.painter) e
      ∙ ap (λ (ps : List Piece). o.pieces ++ ps) (fills-alike k r cs o.painter (omega arith))

  module _ (r : Row) where
    command-gives : (c : Command) (cs : List Command) (p : Painter)
        → ((m : ℕ) → paint-steps w a (length cs) r (record { buckets = p.buckets; steps = p.steps + 1; nesting = m }) ≡ command-pieces w a p.buckets m cs)
        → (paint-command w a c p).pieces ++ paint-steps w a (length cs) r (paint-command w a c p).painter ≡ command-pieces w a p.buckets p.nesting (c ∷ cs)
    unfolding paint-command paint-fill-runs command-pieces
    command-gives (paint-fill s x i) cs p ih = rw (ih p.nesting)
    command-gives (layer-fill s x i) cs p ih = rw (ih p.nesting)
    command-gives (push-buf s) cs p ih = ih (p.nesting + 1)
    command-gives pop-buf cs p ih = ih (p.nesting - 1)

    -- the commands from the jth on
    commands-give : (cs : List Command) (j : ℕ) (p : Painter) → drop j r.commands ≡ cs → p.steps ≡ length r.fills + j
        → paint-steps w a (length cs) r p ≡ command-pieces w a p.buckets p.nesting cs
    unfolding paint-steps command-pieces
    commands-give [] j p e s = refl
    commands-give (c ∷ cs) j p e s =
        let (at, rest, h) = drop_head j r.commands c cs e in
        let q : paint-step w a r p ≡ paint-command w a c p = command-next w a r p j s h ∙ ap (λ (x : Command). paint-command w a x p) at in
        ap (λ (o : Painted). o.pieces ++ paint-steps w a (length cs) r o.painter) q
        ∙ command-gives c cs p (λ m. commands-give cs (suc j) (record { buckets = p.buckets; steps = p.steps + 1; nesting = m }) rest (omega arith))

  -- the newest ids are the depth words after the fills
  pub words-after : (n : ℕ) (fs : List DepthFill) → newest-ids a n fs ≡ depth-after (paint-id a) fs (replicate n 0)
  unfolding depth-after
  words-after n [] = refl
  words-after n (f ∷ fs) = ap (λ (bs : List ℕ). written bs (paint-id a f.attribute) f.buckets) (words-after n fs)

  first-is : (n : ℕ) (r : Row) → painter-after w a r n 0 ≡ begin n
  unfolding painter-after
  first-is n r = refl

  row-pieces : (n : ℕ) (r : Row) → paint-row w a n r ≡ paint-steps w a (length r.fills) r (begin n) ++ command-pieces w a (newest-ids a n r.fills) 0 r.commands
  unfolding paint-row
  row-pieces n r =
      let m = length r.fills in
      let s = stands w a r n m (le_refl m) in
      let z : m - m ≡ 0 = omega arith in
      let at : painter-on w a m r (begin n) ≡ painter-after w a r n m =
      ap (painter-on w a m r) (sym (first-is n r)) ∙ on-after w a r n 0 m ∙ ap (painter-after w a r n) (zero-add m) in
      let p = painter-after w a r n m in
      let words : p.buckets ≡ newest-ids a n r.fills = s.buckets ∙ rw z (sym (words-after n r.fills)) in
      steps-append m (length r.commands) r (begin n)
      ∙ ap (λ (x : Painter). paint-steps w a m r (begin n) ++ paint-steps w a (length r.commands) r x) at
      ∙ ap (λ (ps : List Piece). paint-steps w a m r (begin n) ++ ps) (commands-give r r.commands 0 p refl (s.steps ∙ sym (add-zero m)) ∙ rw (words, s.nesting))

-- A compacted row gives the pieces that it gave before.
pub compacted-same : Compacted-same
compacted-same w n a r =
    row-pieces w a n (compact w n a r)
    ∙ ap (λ (ps : List Piece). ps ++ command-pieces w a (newest-ids a n r.fills) 0 (compacted w n a r)) (fills-alike w a (length r.fills) r (compacted w n a r) (begin n) (omega arith))
    ∙ ap (λ (ps : List Piece). paint-steps w a (length r.fills) r (begin n) ++ ps) (removes-pieces w a (newest-ids a n r.fills) (removed-one-by-one w n a r))
    ∙ sym (row-pieces w a n r)
