-- Taking commands out of a row, one removal at a time: the pass with a stack is a chain of them, and leaves none to be made.
use Rattle.std.proofs.Common.{ℕ, zero, suc, ◌≤◌, arith, ◌≡◌, refl, sym, ◌∙◌, ap, Bool, true, false, ◌&&◌, not, Option, List, [], ◌∷◌, ◌++◌, append_assoc, length, length-append}
use Rattle.rules.specs.Lists.{is-empty}
use Rattle.rules.specs.Spans.{Span}
use Rattle.rules.specs.Commands.{Command, paint-fill, layer-fill, push-buf, pop-buf}
use Rattle.rules.specs.Attributes.{Attrs}
use Rattle.rules.specs.Rows.{Row}
use Rattle.rules.specs.Depth.{visible-runs}
use Rattle.rules.specs.Painting.{paint-id, layer-id}
use Rattle.rules.specs.Compacted.{newest-ids, is-hidden, Removed, a-fill, a-buffer, Removes, nothing, one-more, kept, passed, turned-round, compacted}
use Rattle.rules.proofs.All.{and_left, and_right, and_both, never}
use Rattle.rules_picture.specs.Compacted.{balanced, Removals, Twice-once, Compacted-balanced, Less-room}
use Rattle.rules_picture.proofs.Cases.{by}

-- The pass is a chain of single removals.
module _ (w : ℕ) (a : Attrs) (bs : List ℕ) where
  round-append : (st ds : List Command) → turned-round st ds ≡ turned-round st [] ++ ds
  round-append [] ds = refl
  round-append (c ∷ st) ds =
      round-append st (c ∷ ds)
      ∙ sym (append_assoc (turned-round st []) (c ∷ []) ds)
      ∙ ap (λ (xs : List Command). xs ++ ds) (sym (round-append st (c ∷ [])))

  fill-removed : (st cs : List Command) (c : Command) → is-hidden w a bs c ≡ true → Removed w a bs (turned-round st (c ∷ cs)) (turned-round st cs)
  fill-removed st cs c e = rw (round-append st (c ∷ cs), round-append st cs) (a-fill (turned-round st []) cs c e)

  buffer-removed : (st cs : List Command) (s : Option Span) → Removed w a bs (turned-round st (push-buf s ∷ pop-buf ∷ cs)) (turned-round st cs)
  buffer-removed st cs s = rw (round-append st (push-buf s ∷ pop-buf ∷ cs), round-append st cs) (a-buffer (turned-round st []) cs s)

  kept-removes : (c : Command) (st cs : List Command) {es : List Command} → Removes w a bs (turned-round (kept w a bs c st) cs) es → Removes w a bs (turned-round st (c ∷ cs)) es
  kept-removes (paint-fill s x i) st cs r = by (is-empty (visible-runs w bs (paint-id a i) s))
      (λ y. one-more (fill-removed st cs (paint-fill s x i) y) (rw y at r))
      (λ z. rw z at r)
  kept-removes (layer-fill s x i) st cs r = by (is-empty (visible-runs w bs (layer-id a i) s))
      (λ y. one-more (fill-removed st cs (layer-fill s x i) y) (rw y at r))
      (λ z. rw z at r)
  kept-removes (push-buf s) st cs r = r
  kept-removes pop-buf [] cs r = r
  kept-removes pop-buf (paint-fill s x i ∷ st) cs r = r
  kept-removes pop-buf (layer-fill s x i ∷ st) cs r = r
  kept-removes pop-buf (push-buf s ∷ st) cs r = one-more (buffer-removed st cs s) r
  kept-removes pop-buf (pop-buf ∷ st) cs r = r

  pass-removes : (cs st : List Command) → Removes w a bs (turned-round st cs) (turned-round (passed w a bs st cs) [])
  pass-removes [] st = nothing
  pass-removes (c ∷ cs) st = kept-removes c st cs (pass-removes cs (kept w a bs c st))

pub removed-one-by-one : (w n : ℕ) (a : Attrs) (r : Row) → Removes w a (newest-ids a n r.fills) r.commands (compacted w n a r)
unfolding compacted
removed-one-by-one w n a r = pass-removes w a (newest-ids a n r.fills) r.commands []

-- Nothing is left to be removed. The stack, the newest first: no fill that is hidden, and no PopBuf right after a PushBuf.
module _ (w : ℕ) (a : Attrs) (bs : List ℕ) where
  abbrev fits : Command → List Command → Bool
  fits (paint-fill s x i) st = true
  fits (layer-fill s x i) st = true
  fits (push-buf s) st = true
  fits pop-buf [] = true
  fits pop-buf (paint-fill s x i ∷ st) = true
  fits pop-buf (layer-fill s x i ∷ st) = true
  fits pop-buf (push-buf s ∷ st) = false
  fits pop-buf (pop-buf ∷ st) = true

  abbrev tidy : List Command → Bool
  tidy [] = true
  tidy (c ∷ st) = not (is-hidden w a bs c) && fits c st && tidy st

  kept-tidy : (c : Command) (st : List Command) → tidy st ≡ true → tidy (kept w a bs c st) ≡ true
  kept-tidy (paint-fill s x i) st h = by (is-empty (visible-runs w bs (paint-id a i) s)) (λ y. rw y h) (λ z. rw z (let q : not (is-hidden w a bs (paint-fill s x i)) ≡ true = ap not z in and_both _ _ (and_both _ _ q refl) h))
  kept-tidy (layer-fill s x i) st h = by (is-empty (visible-runs w bs (layer-id a i) s)) (λ y. rw y h) (λ z. rw z (let q : not (is-hidden w a bs (layer-fill s x i)) ≡ true = ap not z in and_both _ _ (and_both _ _ q refl) h))
  kept-tidy (push-buf s) st h = h
  kept-tidy pop-buf [] h = refl
  kept-tidy pop-buf (paint-fill s x i ∷ st) h = h
  kept-tidy pop-buf (layer-fill s x i ∷ st) h = h
  kept-tidy pop-buf (push-buf s ∷ st) h = h
  kept-tidy pop-buf (pop-buf ∷ st) h = h

  passed-tidy : (cs st : List Command) → tidy st ≡ true → tidy (passed w a bs st cs) ≡ true
  passed-tidy [] st h = h
  passed-tidy (c ∷ cs) st h = passed-tidy cs (kept w a bs c st) (kept-tidy c st h)

  -- turned round twice
  twice : (st ds : List Command) → turned-round (turned-round st ds) [] ≡ turned-round ds st
  twice [] ds = refl
  twice (c ∷ st) ds = twice st (c ∷ ds)

  round-front : (front ys ds : List Command) → turned-round (front ++ ys) ds ≡ turned-round ys (turned-round front ds)
  round-front [] ys ds = refl
  round-front (c ∷ front) ys ds = round-front front ys (c ∷ ds)

  tidy-under : (back xs : List Command) → tidy (turned-round back xs) ≡ true → tidy xs ≡ true
  tidy-under [] xs h = h
  tidy-under (c ∷ back) xs h = and_right (not (is-hidden w a bs c) && fits c xs) (tidy xs) (tidy-under back (c ∷ xs) h)

  -- a list that is tidy when turned round
  none-left : {es ds : List Command} → tidy (turned-round es []) ≡ true → Removed w a bs es ds → ⊥
  none-left h (a-fill front back c e) =
      let k = tidy-under back (c ∷ turned-round front []) (rw (round-front front (c ∷ back) []) at h) in
      let n = and_left (not (is-hidden w a bs c)) (fits c (turned-round front [])) (and_left _ (tidy (turned-round front [])) k) in
      never (sym (rw e at n))
  none-left h (a-buffer front back s) =
      let k = tidy-under back (pop-buf ∷ push-buf s ∷ turned-round front []) (rw (round-front front (push-buf s ∷ pop-buf ∷ back) []) at h) in
      never (sym k)

pub removals : Removals
unfolding compacted
removals w n a r =
    let bs = newest-ids a n r.fills in
    let st = passed w a bs [] r.commands in
    let t : tidy w a bs (turned-round (turned-round st []) []) ≡ true = rw (twice w a bs st []) (passed-tidy w a bs r.commands [] refl) in
    (removed-one-by-one w n a r, λ ds x. none-left w a bs t x)

-- So a second pass keeps all.
module _ (w : ℕ) (a : Attrs) (bs : List ℕ) where
  shown-fill : (c : Command) (st : List Command) → tidy w a bs (c ∷ st) ≡ true → is-hidden w a bs c ≡ true → ⊥
  shown-fill c st h e =
      let n = and_left (not (is-hidden w a bs c)) (fits w a bs c st) (and_left _ (tidy w a bs st) h) in
      never (sym (rw e at n))

  kept-same : (c : Command) (st : List Command) → tidy w a bs (c ∷ st) ≡ true → kept w a bs c st ≡ c ∷ st
  kept-same (paint-fill s x i) st h = by (is-empty (visible-runs w bs (paint-id a i) s)) (λ y. absurd (shown-fill (paint-fill s x i) st h y)) (λ z. rw z)
  kept-same (layer-fill s x i) st h = by (is-empty (visible-runs w bs (layer-id a i) s)) (λ y. absurd (shown-fill (layer-fill s x i) st h y)) (λ z. rw z)
  kept-same (push-buf s) st h = refl
  kept-same pop-buf [] h = refl
  kept-same pop-buf (paint-fill s x i ∷ st) h = refl
  kept-same pop-buf (layer-fill s x i ∷ st) h = refl
  kept-same pop-buf (push-buf s ∷ st) h = never (sym h)
  kept-same pop-buf (pop-buf ∷ st) h = refl

  pass-same : (es st : List Command) → tidy w a bs (turned-round es st) ≡ true → passed w a bs st es ≡ turned-round es st
  pass-same [] st h = refl
  pass-same (c ∷ es) st h = rw (kept-same c st (tidy-under w a bs es (c ∷ st) h)) (pass-same es (c ∷ st) h)

pub twice-once : Twice-once
unfolding compacted
twice-once w n a r =
    let bs = newest-ids a n r.fills in
    let st = passed w a bs [] r.commands in
    let back : turned-round (turned-round st []) [] ≡ st = twice w a bs st [] in
    let t : tidy w a bs (turned-round (turned-round st []) []) ≡ true = rw back (passed-tidy w a bs r.commands [] refl) in
    let e : turned-round (passed w a bs [] (turned-round st [])) [] ≡ turned-round st [] =
    ap (λ (xs : List Command). turned-round xs []) (pass-same w a bs (turned-round st []) [] t ∙ back) in
    rw e

-- What a removal keeps, a chain of them keeps, and so does the pass.
module _ (w : ℕ) (a : Attrs) (bs : List ℕ) where
  -- a hidden command is a fill, which no buffer feels
  balanced-fill : (n : ℕ) (c : Command) (cs : List Command) → is-hidden w a bs c ≡ true → balanced n (c ∷ cs) ≡ balanced n cs
  balanced-fill n (paint-fill s x i) cs e = refl
  balanced-fill n (layer-fill s x i) cs e = refl
  balanced-fill n (push-buf s) cs e = never (sym e)
  balanced-fill n pop-buf cs e = never (sym e)

  balanced-after : (front ds es : List Command) → ((m : ℕ) → balanced m ds ≡ balanced m es) → (n : ℕ) → balanced n (front ++ ds) ≡ balanced n (front ++ es)
  balanced-after [] ds es h n = h n
  balanced-after (paint-fill s x i ∷ front) ds es h n = balanced-after front ds es h n
  balanced-after (layer-fill s x i ∷ front) ds es h n = balanced-after front ds es h n
  balanced-after (push-buf s ∷ front) ds es h n = balanced-after front ds es h (suc n)
  balanced-after (pop-buf ∷ front) ds es h zero = refl
  balanced-after (pop-buf ∷ front) ds es h (suc n) = balanced-after front ds es h n

  removed-balanced : {cs ds : List Command} → Removed w a bs cs ds → balanced 0 ds ≡ balanced 0 cs
  removed-balanced (a-fill front back c e) = balanced-after front back (c ∷ back) (λ m. sym (balanced-fill m c back e)) 0
  removed-balanced (a-buffer front back s) = balanced-after front back (push-buf s ∷ pop-buf ∷ back) (λ m. refl) 0

  removes-balanced : {cs ds : List Command} → Removes w a bs cs ds → balanced 0 ds ≡ balanced 0 cs
  removes-balanced nothing = refl
  removes-balanced (one-more x xs) = removes-balanced xs ∙ removed-balanced x

  removed-shorter : {cs ds : List Command} → Removed w a bs cs ds → length ds ≤ length cs
  removed-shorter (a-fill front back c e) = rw (length-append front back, length-append front (c ∷ back)) (omega arith)
  removed-shorter (a-buffer front back s) = rw (length-append front back, length-append front (push-buf s ∷ pop-buf ∷ back)) (omega arith)

  removes-shorter : {cs ds : List Command} → Removes w a bs cs ds → length ds ≤ length cs
  removes-shorter nothing = omega arith
  removes-shorter (one-more x xs) = let h = removed-shorter x in let k = removes-shorter xs in omega arith

pub compacted-balanced : Compacted-balanced
compacted-balanced w n a r = removes-balanced w a (newest-ids a n r.fills) (removed-one-by-one w n a r)

pub less-room : Less-room
less-room w n a r = removes-shorter w a (newest-ids a n r.fills) (removed-one-by-one w n a r)
