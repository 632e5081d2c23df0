-- A row painted to its end, and what comes of it at the tile t: the newest depth fill that covers its bucket, then the commands no older.
use Rattle.std.proofs.Common.{ℕ, zero, suc, ◌+◌, ◌-◌, ◌/◌, ◌≤◌, ◌<◌, zero-add, suc-add, add-zero, add-suc, le_refl, arith, ◌≡◌, refl, sym, ◌∙◌, ap, Bool, true, false, ◌&&◌, cond, Option, List, [], ◌∷◌, ◌++◌, map, length}
use Rattle.std.proofs.Common.{get_or, drop, replicate, leb, ltb, lt-ltb, le-ltb}
use lib.ListN.{length-replicate}
use Rattle.rules.specs.Spans.{Span, covers, moved}
use Rattle.rules.specs.Commands.{Command, paint-fill, layer-fill, push-buf, pop-buf}
use Rattle.rules.specs.Attributes.{Attrs}
use Rattle.rules.specs.Rows.{Row}
use Rattle.rules.specs.Depth.{visible-runs}
use Rattle.rules.specs.Painting.{fill-piece, Painter, Painted, Entry, begin, paint-id, layer-id, paint-panel, layer-panel, received, paint-fill-runs, paint-command, paint-step}
use Rattle.rules.proofs.All.{All}
use Rattle.rules_picture.specs.Colours.{Colours, filled, closed, dropped, drawn-one, drawn, nested, step-drawn}
use Rattle.rules_picture.specs.StoredColours.{commands-drawn}
use Rattle.rules_picture.proofs.Cases.{by}
use Rattle.rules_picture.proofs.Newest.{after-length, painter-after, stands, painted-newest}
use Rattle.rules_picture.proofs.Shown.{newest-hide, hider}
use Rattle.rules_picture.proofs.Pieces.{received-append, fill-received}
use Rattle.rules_picture.proofs.Rows.{entry-told, told-fills, Numbered, newest-told, pieces-after, fills-received, drop_head, command-next}

module _ {B : Type 0} (c : Colours B) where
  pub drawn-append : (es ds : List Entry) (bs : List B) → drawn c (es ++ ds) bs ≡ drawn c ds (drawn c es bs)
  unfolding drawn
  drawn-append [] ds bs = refl
  drawn-append (e ∷ es) ds bs = drawn-append es ds (drawn-one c e.layer e.attribute e.alpha bs)

  pub filled-long : (i : ℕ) (a : Option ℕ) (bs : List B) → length (filled c i a bs) ≡ length bs
  filled-long i a [] = refl
  filled-long i a (b ∷ bs) = refl

  pub closed-long : (i : ℕ) (a : Option ℕ) (bs : List B) → length (closed c i a bs) ≡ length bs
  closed-long i a [] = refl
  closed-long i a (b ∷ []) = refl
  closed-long i a (b ∷ d ∷ bs) = refl

  pub one-long : (l : Bool) (i : ℕ) (a : Option ℕ) (bs : List B) → length (drawn-one c l i a bs) ≡ length bs
  one-long false i a bs = filled-long i a bs
  one-long true i a bs = closed-long i a bs

  pub drawn-long : (es : List Entry) (bs : List B) → length (drawn c es bs) ≡ length bs
  unfolding drawn
  drawn-long [] bs = refl
  drawn-long (e ∷ es) bs = drawn-long es (drawn-one c e.layer e.attribute e.alpha bs) ∙ one-long e.layer e.attribute e.alpha bs

  pub dropped-one : (bs : List B) → length bs ≡ 1 → dropped c bs ≡ bs
  dropped-one [] e = absurd (omega arith)
  dropped-one (b ∷ []) e = refl
  dropped-one (b ∷ d ∷ bs) e = absurd (omega arith)

  pub dropped-long : (n : ℕ) (bs : List B) → length bs ≡ suc (suc n) → length (dropped c bs) ≡ suc n
  dropped-long n [] e = absurd (omega arith)
  dropped-long n (b ∷ []) e = absurd (omega arith)
  dropped-long n (b ∷ d ∷ bs) e = omega arith

  module _ (w : ℕ) (attrs : Attrs) (t : ℕ) where
    -- k steps of a row
    unfoldable pub steps-drawn : ℕ → Row → Painter → List B → List B
    steps-drawn zero r p bs = bs
    steps-drawn (suc k) r p bs = let o = paint-step w attrs r p in steps-drawn k r o.painter (step-drawn c t p o bs)

    pub same-nesting : (n : ℕ) (bs : List B) → nested c n n bs ≡ bs
    same-nesting n bs = let e : ltb n n ≡ false = le-ltb n n (le_refl n) in rw e

    module _ (pos : 0 < w) (r : Row) (n : ℕ) (on : t / w < n) where
      -- the depth fills change no nesting
      after-fills : (bs : List B) (m k : ℕ) → k ≤ length r.fills
          → steps-drawn (k + m) r (begin n) bs ≡ steps-drawn m r (painter-after w attrs r n k) (drawn c (received t (pieces-after w attrs t pos r n on k)) bs)
      unfolding painter-after pieces-after received drawn steps-drawn
      after-fills bs m zero h = ap (λ j. steps-drawn j r (begin n) bs) (zero-add m)
      after-fills bs m (suc k) h =
          let s = stands w attrs r n k (omega arith) in
          let u = stands w attrs r n (suc k) h in
          let p = painter-after w attrs r n k in
          let o = paint-step w attrs r p in
          let es = received t (pieces-after w attrs t pos r n on k) in
          let m1 : o.painter.nesting ≡ 0 = u.nesting in
          let same : step-drawn c t p o (drawn c es bs) ≡ drawn c (received t (pieces-after w attrs t pos r n on k ++ o.pieces)) bs =
          rw (s.nesting, m1)
          (sym (drawn-append es (received t o.pieces) bs) ∙ ap (λ (ds : List Entry). drawn c ds bs) (sym (received-append t (pieces-after w attrs t pos r n on k) o.pieces))) in
          ap (λ j. steps-drawn j r (begin n) bs) (suc-add k m ∙ sym (add-suc k m))
          ∙ after-fills bs (suc m) k (omega arith)
          ∙ ap (steps-drawn m r o.painter) same

      -- the commands cs from the painter p on, by the word of the tile's bucket
      abbrev Come : ℕ → List Command → Painter → List B → Type 0
      Come b cs p bs = steps-drawn (length cs) r p bs ≡ commands-drawn c (paint-id attrs) (layer-id attrs) t b cs bs

      fill-comes : (cs : List Command) (ws : List ℕ) (k m : ℕ) → t / w < length ws → (l : Bool) (id i q : ℕ) (sp : Span) (a : Option ℕ) (bs : List B)
          → drawn c (received t (map (fill-piece w attrs l i q sp a m) (visible-runs w ws id sp))) bs
          ≡ cond (covers sp t && leb (get_or ws (t / w) 0) id) (drawn-one c l i (moved a (t - sp.first)) bs) bs
      unfolding drawn
      fill-comes cs ws k m len l id i q sp a bs =
          ap (λ (es : List Entry). drawn c es bs) (fill-received w pos t attrs ws len l id i q sp a m)
          ∙ by (covers sp t && leb (get_or ws (t / w) 0) id) (λ y. rw y) (λ z. rw z)

      command-comes : (d : Command) (cs : List Command) (ws : List ℕ) (k m : ℕ) → t / w < length ws → (bs : List B) → length bs ≡ suc m
          → ((j : ℕ) (ds : List B) → length ds ≡ suc j → Come (get_or ws (t / w) 0) cs (record { buckets = ws; steps = k + 1; nesting = j }) ds)
          → steps-drawn (length cs) r (paint-command w attrs d (record { buckets = ws; steps = k; nesting = m })).painter
          (step-drawn c t (record { buckets = ws; steps = k; nesting = m }) (paint-command w attrs d (record { buckets = ws; steps = k; nesting = m })) bs)
          ≡ commands-drawn c (paint-id attrs) (layer-id attrs) t (get_or ws (t / w) 0) (d ∷ cs) bs
      unfolding paint-command paint-fill-runs commands-drawn received drawn
      command-comes (paint-fill sp a i) cs ws k m len bs long ih =
          let f = fill-comes cs ws k m len false (paint-id attrs i) i (paint-panel attrs i) sp a bs in
          let e = same-nesting m (drawn c (received t (map (fill-piece w attrs false i (paint-panel attrs i) sp a m) (visible-runs w ws (paint-id attrs i) sp))) bs) ∙ f in
          let g = cond (covers sp t && leb (get_or ws (t / w) 0) (paint-id attrs i)) (filled c i (moved a (t - sp.first)) bs) bs in
          let n1 : length g ≡ suc m = by (covers sp t && leb (get_or ws (t / w) 0) (paint-id attrs i)) (λ y. rw y (filled-long i (moved a (t - sp.first)) bs ∙ long)) (λ z. rw z long) in
          ap (steps-drawn (length cs) r (record { buckets = ws; steps = k + 1; nesting = m })) e ∙ ih m g n1
      command-comes (layer-fill sp a i) cs ws k m len bs long ih =
          let f = fill-comes cs ws k m len true (layer-id attrs i) i (layer-panel attrs i) sp a bs in
          let e = same-nesting m (drawn c (received t (map (fill-piece w attrs true i (layer-panel attrs i) sp a m) (visible-runs w ws (layer-id attrs i) sp))) bs) ∙ f in
          let g = cond (covers sp t && leb (get_or ws (t / w) 0) (layer-id attrs i)) (closed c i (moved a (t - sp.first)) bs) bs in
          let n1 : length g ≡ suc m = by (covers sp t && leb (get_or ws (t / w) 0) (layer-id attrs i)) (λ y. rw y (closed-long i (moved a (t - sp.first)) bs ∙ long)) (λ z. rw z long) in
          ap (steps-drawn (length cs) r (record { buckets = ws; steps = k + 1; nesting = m })) e ∙ ih m g n1
      command-comes (push-buf sp) cs ws k m len bs long ih =
          let up : ltb m (m + 1) ≡ true = lt-ltb m (m + 1) (omega arith) in
          let e : nested c m (m + 1) bs ≡ c.blank ∷ bs = rw up in
          ap (steps-drawn (length cs) r (record { buckets = ws; steps = k + 1; nesting = m + 1 })) e ∙ ih (m + 1) (c.blank ∷ bs) (omega arith)
      command-comes pop-buf cs ws k zero len bs long ih =
          let e : nested c 0 (0 - 1) bs ≡ dropped c bs = sym (dropped-one bs long) in
          ap (steps-drawn (length cs) r (record { buckets = ws; steps = k + 1; nesting = 0 })) e ∙ ih 0 (dropped c bs) (ap length (dropped-one bs long) ∙ long)
      command-comes pop-buf cs ws k (suc m) len bs long ih =
          let z : suc m - 1 ≡ m = omega arith in
          let up : ltb (suc m) m ≡ false = le-ltb (suc m) m (omega arith) in
          let down : ltb m (suc m) ≡ true = lt-ltb m (suc m) (omega arith) in
          let e : nested c (suc m) (suc m - 1) bs ≡ dropped c bs = rw (z, up, down) in
          ap (steps-drawn (length cs) r (record { buckets = ws; steps = k + 1; nesting = suc m - 1 })) e
          ∙ ih (suc m - 1) (dropped c bs) (dropped-long m bs long ∙ ap suc (sym z))

      commands-come : (cs : List Command) (j : ℕ) (p : Painter) (bs : List B) → drop j r.commands ≡ cs → p.steps ≡ length r.fills + j → t / w < length p.buckets → length bs ≡ suc p.nesting
          → Come (get_or p.buckets (t / w) 0) cs p bs
      unfolding steps-drawn commands-drawn
      commands-come [] j p bs e s len long = refl
      commands-come (d ∷ cs) j p bs e s len long =
          let (at, rest, h) = drop_head j r.commands d cs e in
          let q : paint-step w attrs r p ≡ paint-command w attrs d p = command-next w attrs r p j s h ∙ ap (λ (x : Command). paint-command w attrs x p) at in
          ap (λ (o : Painted). steps-drawn (length cs) r o.painter (step-drawn c t p o bs)) q
          ∙ command-comes d cs p.buckets p.steps p.nesting len bs long
          (λ m ds l. commands-come cs (suc j) (record { buckets = p.buckets; steps = p.steps + 1; nesting = m }) ds rest (omega arith) len l)

      -- A row painted to its end, on one buffer.
      pub row-comes : All (Numbered w attrs t) r.fills → (x : B)
          → steps-drawn (length r.fills + length r.commands) r (begin n) (x ∷ [])
          ≡ commands-drawn c (paint-id attrs) (layer-id attrs) t (newest-hide (told-fills w attrs t r.fills)) r.commands (drawn c (map entry-told (hider (told-fills w attrs t r.fills))) (x ∷ []))
      row-comes a x =
          let f = length r.fills in
          let s = stands w attrs r n f (le_refl f) in
          let z : f - f ≡ 0 = omega arith in
          let p = painter-after w attrs r n f in
          let len : t / w < length p.buckets = rw (s.buckets, after-length (paint-id attrs) (drop (f - f) r.fills) (replicate n 0), length-replicate {A = ℕ} n 0) on in
          let word : get_or p.buckets (t / w) 0 ≡ newest-hide (told-fills w attrs t r.fills) = painted-newest w attrs r n (t / w) on ∙ newest-told w attrs t r.fills in
          let got : received t (pieces-after w attrs t pos r n on f) ≡ map entry-told (hider (told-fills w attrs t r.fills)) =
          fills-received w attrs t pos r n on a f (le_refl f) ∙ ap (λ j. map entry-told (hider (told-fills w attrs t (drop j r.fills)))) z in
          let bs = drawn c (received t (pieces-after w attrs t pos r n on f)) (x ∷ []) in
          let long : length bs ≡ suc p.nesting = drawn-long (received t (pieces-after w attrs t pos r n on f)) (x ∷ []) ∙ ap suc (sym s.nesting) in
          after-fills (x ∷ []) (length r.commands) f (le_refl f)
          ∙ commands-come r.commands 0 p bs refl (s.steps ∙ sym (add-zero f)) len long
          ∙ ap (λ b. commands-drawn c (paint-id attrs) (layer-id attrs) t b r.commands bs) word
          ∙ ap (λ (es : List Entry). commands-drawn c (paint-id attrs) (layer-id attrs) t (newest-hide (told-fills w attrs t r.fills)) r.commands (drawn c es (x ∷ []))) got
