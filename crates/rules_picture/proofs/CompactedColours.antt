-- What is taken out of a row comes to nothing, whatever the colours are: a fill that the tile does not see, and a buffer opened and dropped.
use Rattle.std.proofs.Common.{ℕ, ◌-◌, ◌/◌, ◌<◌, arith, ◌≡◌, refl, sym, ◌∙◌, ap, Bool, true, false, ◌&&◌, cond, Option, List, [], ◌∷◌, ◌++◌, length, leb}
use Rattle.rules.specs.Boxes.{Box}
use Rattle.rules.specs.Spans.{Span, covers, moved}
use Rattle.rules.specs.Commands.{Command, paint-fill, layer-fill, push-buf, pop-buf, DepthFill}
use Rattle.rules.specs.Attributes.{Attrs}
use Rattle.rules.specs.Rows.{Row}
use Rattle.rules.specs.Painting.{paint-id, layer-id, paint-panel, layer-panel}
use Rattle.rules.specs.Plain.{OpenLayer}
use Rattle.rules.specs.Compacted.{newest-ids, is-hidden, Removed, a-fill, a-buffer, Removes, nothing, one-more, compact}
use Rattle.rules.proofs.All.{never}
use Rattle.rules_picture.specs.Colours.{Colours, filled, closed, dropped, drawn}
use Rattle.rules_picture.specs.StoredColours.{commands-drawn}
use Rattle.rules_picture.proofs.Shown.{hider}
use Rattle.rules_picture.proofs.Rows.{told-fills}
use Rattle.rules_picture.proofs.Comes.{filled-long, closed-long, drawn-long}
use Rattle.rules_picture.proofs.Changes.{lifted, buffers-only}
use Rattle.rules_picture.proofs.Stacked.{entries, come, Stacked}
use Rattle.rules_picture.proofs.Compacted.{removed-one-by-one}
use Rattle.rules_picture.proofs.CompactedFollows.{words, word, hides-tile}

-- Commands done to a stack of buffers one after the other, G for each: what G leaves as it was may be taken out.
module _ {B : Type 0} (w : ℕ) (a : Attrs) (ws : List ℕ) (F : List Command → List B → List B) (G : Command → List B → List B)
    (each : (x : Command) (cs : List Command) (bs : List B) → F (x ∷ cs) bs ≡ F cs (G x bs))
    (some : (x : Command) (bs : List B) → 0 < length bs → 0 < length (G x bs)) where
  abbrev Same : List Command → List Command → Type 0
  Same ds es = (bs : List B) → 0 < length bs → F ds bs ≡ F es bs

  after-front : (front ds es : List Command) → Same ds es → Same (front ++ ds) (front ++ es)
  after-front [] ds es h bs p = h bs p
  after-front (x ∷ front) ds es h bs p =
      each x (front ++ ds) bs ∙ after-front front ds es h (G x bs) (some x bs p) ∙ sym (each x (front ++ es) bs)

  module _ (fill : (x : Command) (bs : List B) → is-hidden w a ws x ≡ true → G x bs ≡ bs)
      (buffer : (s : Option Span) (bs : List B) → 0 < length bs → G pop-buf (G (push-buf s) bs) ≡ bs) where
    removed-same : {cs ds : List Command} → Removed w a ws cs ds → Same ds cs
    removed-same (a-fill front back x e) =
        after-front front back (x ∷ back) (λ bs p. ap (F back) (sym (fill x bs e)) ∙ sym (each x back bs))
    removed-same (a-buffer front back s) =
        after-front front back (push-buf s ∷ pop-buf ∷ back)
        (λ bs p. ap (F back) (sym (buffer s bs p)) ∙ sym (each pop-buf back (G (push-buf s) bs)) ∙ sym (each (push-buf s) (pop-buf ∷ back) bs))

    pub removes-same : {cs ds : List Command} → Removes w a ws cs ds → (bs : List B) → 0 < length bs → F ds bs ≡ F cs bs
    removes-same nothing bs p = refl
    removes-same (one-more x xs) bs p = removes-same xs bs p ∙ removed-same x bs p

module _ {B : Type 0} (c : Colours B) where
  -- a buffer opened and dropped
  top-off : (bs : List B) → 0 < length bs → dropped c (c.blank ∷ bs) ≡ bs
  top-off [] p = absurd (omega arith)
  top-off (b ∷ bs) p = refl

  dropped-some : (bs : List B) → 0 < length bs → 0 < length (dropped c bs)
  dropped-some [] p = p
  dropped-some (b ∷ []) p = p
  dropped-some (b ∷ d ∷ bs) p = omega arith

  some-if : (b : Bool) (xs bs : List B) → length xs ≡ length bs → 0 < length bs → 0 < length (cond b xs bs)
  some-if true xs bs e p = rw e p
  some-if false xs bs e p = p

  -- no fill
  abbrev buffer-one : Command → List B → List B
  buffer-one (paint-fill s x i) bs = bs
  buffer-one (layer-fill s x i) bs = bs
  buffer-one (push-buf s) bs = c.blank ∷ bs
  buffer-one pop-buf bs = dropped c bs

  buffer-each : (x : Command) (cs : List Command) (bs : List B) → buffers-only c (x ∷ cs) bs ≡ buffers-only c cs (buffer-one x bs)
  unfolding buffers-only
  buffer-each (paint-fill s x i) cs bs = refl
  buffer-each (layer-fill s x i) cs bs = refl
  buffer-each (push-buf s) cs bs = refl
  buffer-each pop-buf cs bs = refl

  buffer-some : (x : Command) (bs : List B) → 0 < length bs → 0 < length (buffer-one x bs)
  buffer-some (paint-fill s x i) bs p = p
  buffer-some (layer-fill s x i) bs p = p
  buffer-some (push-buf s) bs p = omega arith
  buffer-some pop-buf bs p = dropped-some bs p

  module _ (w : ℕ) (a : Attrs) (ws : List ℕ) where
    buffer-fill : (x : Command) (bs : List B) → is-hidden w a ws x ≡ true → buffer-one x bs ≡ bs
    buffer-fill (paint-fill s x i) bs e = refl
    buffer-fill (layer-fill s x i) bs e = refl
    buffer-fill (push-buf s) bs e = never (sym e)
    buffer-fill pop-buf bs e = never (sym e)

    removes-buffers : {cs ds : List Command} → Removes w a ws cs ds → (bs : List B) → 0 < length bs → buffers-only c ds bs ≡ buffers-only c cs bs
    removes-buffers = removes-same w a ws (buffers-only c) buffer-one buffer-each buffer-some buffer-fill (λ s bs p. top-off bs p)

  -- Fills that are no older than the word of the tile's bucket.
  module _ (w : ℕ) (a : Attrs) (t n : ℕ) (pos : 0 < w) (on : t / w < n) (fs : List DepthFill) where
    abbrev b : ℕ
    b = word w a t n pos on fs

    abbrev command-one : Command → List B → List B
    command-one (paint-fill s x i) bs = cond (covers s t && leb b (paint-id a i)) (filled c i (moved x (t - s.first)) bs) bs
    command-one (layer-fill s x i) bs = cond (covers s t && leb b (layer-id a i)) (closed c i (moved x (t - s.first)) bs) bs
    command-one (push-buf s) bs = c.blank ∷ bs
    command-one pop-buf bs = dropped c bs

    abbrev All-drawn : List Command → List B → List B
    All-drawn = commands-drawn c (paint-id a) (layer-id a) t b

    command-each : (x : Command) (cs : List Command) (bs : List B) → All-drawn (x ∷ cs) bs ≡ All-drawn cs (command-one x bs)
    unfolding commands-drawn
    command-each (paint-fill s x i) cs bs = refl
    command-each (layer-fill s x i) cs bs = refl
    command-each (push-buf s) cs bs = refl
    command-each pop-buf cs bs = refl

    command-some : (x : Command) (bs : List B) → 0 < length bs → 0 < length (command-one x bs)
    command-some (paint-fill s x i) bs p = some-if (covers s t && leb b (paint-id a i)) _ bs (filled-long c i (moved x (t - s.first)) bs) p
    command-some (layer-fill s x i) bs p = some-if (covers s t && leb b (layer-id a i)) _ bs (closed-long c i (moved x (t - s.first)) bs) p
    command-some (push-buf s) bs p = omega arith
    command-some pop-buf bs p = dropped-some bs p

    command-fill : (x : Command) (bs : List B) → is-hidden w a (words w a t n pos on fs) x ≡ true → command-one x bs ≡ bs
    command-fill (paint-fill s x i) bs e = rw (hides-tile w a t n pos on fs false (paint-id a i) i (paint-panel a i) s x 0 e) refl
    command-fill (layer-fill s x i) bs e = rw (hides-tile w a t n pos on fs true (layer-id a i) i (layer-panel a i) s x 0 e) refl
    command-fill (push-buf s) bs e = never (sym e)
    command-fill pop-buf bs e = never (sym e)

    removes-drawn : {cs ds : List Command} → Removes w a (words w a t n pos on fs) cs ds → (bs : List B) → 0 < length bs → All-drawn ds bs ≡ All-drawn cs bs
    removes-drawn = removes-same w a (words w a t n pos on fs) All-drawn command-one command-each command-some command-fill (λ s bs p. top-off bs p)

  -- So a compacted row comes to what the row comes to.
  module _ (w : ℕ) (a : Attrs) (t n : ℕ) (pos : 0 < w) (on : t / w < n) (v : Box) (row : ℕ) (r : Row) where
    compact-comes : come c w a t v row (compact w n a r) ≡ come c w a t v row r
    compact-comes =
        removes-drawn w a t n pos on r.fills (removed-one-by-one w n a r) (drawn c (entries (hider (told-fills w a t r.fills))) (c.blank ∷ []))
        (rw (drawn-long c (entries (hider (told-fills w a t r.fills))) (c.blank ∷ [])) (omega arith))

    pub compact-stacks : {ls : List OpenLayer} {bs : List B} → Stacked c w a t v row ls r bs → Stacked c w a t v row ls (compact w n a r) bs
    compact-stacks {ls = ls} s = record {
      idle = λ x. removes-buffers w a (newest-ids a n r.fills) (removed-one-by-one w n a r) (x ∷ []) (omega arith) ∙ s.idle x;
      same = s.same ∙ ap (lifted c (length ls - length r.levels)) (sym compact-comes);
      long = s.long;
    }
