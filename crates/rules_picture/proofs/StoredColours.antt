-- The newest depth fill over a tile's bucket is the newest that hides; so what a row's stored commands come to is what plain draw order comes to.
use Rattle.std.proofs.Common.{ℕ, ◌-◌, ◌/◌, ◌<◌, ◌≡◌, refl, sym, ◌∙◌, ap, Bool, true, false, ◌&&◌, cond, List, [], ◌∷◌, map, get_or, leb}
use Rattle.rules.specs.Lists.{some_of}
use Rattle.rules.specs.Boxes.{width}
use Rattle.rules.specs.Spans.{covers, moved}
use Rattle.rules.specs.Commands.{Command, paint-fill, layer-fill, push-buf, pop-buf, DepthFill}
use Rattle.rules.specs.Attributes.{Attrs}
use Rattle.rules.specs.Rows.{Row, fresh-row}
use Rattle.rules.specs.Plans.{bucket, buckets-across}
use Rattle.rules.specs.Painting.{paint-id, layer-id}
use Rattle.rules.specs.Plain.{Told, untold}
use Rattle.rules.proofs.All.{All, cons, never}
use Rattle.rules.proofs.laws.Widths.{bucket-some}
use Rattle.rules_picture.specs.Turns.{painted}
use Rattle.rules_picture.specs.Colours.{Colours, filled, closed, drawn}
use Rattle.rules_picture.specs.StoredColours.{newest-over, newest-id, depth-drawn, commands-drawn, stored-drawn, SameStored, WordNewest}
use Rattle.rules_picture.proofs.Cases.{by}
use Rattle.rules_picture.proofs.Buckets.{touched-end}
use Rattle.rules_picture.proofs.Shown.{hides-of, newest-hide, hider, write-past}
use Rattle.rules_picture.proofs.Rows.{entry-told, fill-told, told-fills, Numbered, newest-told}
use Rattle.rules_picture.proofs.Skip.{words-painted, finished-fills}
use Rattle.rules_picture.specs.Compacted.{Compacted-newest, Compacted-stored}
use Rattle.rules_picture.proofs.CompactedFollows.{built-kept, kept-on, follows-kept}
use Rattle.rules_picture.proofs.SamePicture.{plain-comes}
use Rattle.rules_picture.proofs.Inside.{inside-fair, untold-boxed}

module _ (w : ℕ) (attrs : Attrs) (t : ℕ) where
  abbrev over : List DepthFill → Bool
  over fs = some_of (λ (g : DepthFill). covers g.buckets (t / w)) fs

  some-told : (fs : List DepthFill) → some_of hides-of (told-fills w attrs t fs) ≡ over fs
  some-told [] = refl
  some-told (f ∷ fs) = by (covers f.buckets (t / w)) (λ y. rw y) (λ n. rw n (some-told fs))

  none-over : (fs : List DepthFill) → over fs ≡ false → newest-over (t / w) fs ≡ []
  unfolding newest-over
  none-over [] e = refl
  none-over (f ∷ fs) e = by (covers f.buckets (t / w)) (λ y. never (rw y at e)) (λ n. let k = rw n at e in rw (n, k))

  fills-hider : (fs : List DepthFill) → hider (told-fills w attrs t fs) ≡ map (fill-told w attrs t) (newest-over (t / w) fs)
  unfolding newest-over hider
  fills-hider [] = refl
  fills-hider (f ∷ fs) = by (covers f.buckets (t / w))
      (λ y. by (over fs)
      (λ s. let q = some-told fs ∙ s in rw (y, s, q) (fills-hider fs))
      (λ s. let q = some-told fs ∙ s in rw (y, s, q)))
      (λ n. by (over fs)
      (λ s. rw (n, s) (fills-hider fs))
      (λ s. rw (n, s) (fills-hider fs ∙ ap (map (fill-told w attrs t)) (none-over fs s))))

  some-numbered : (fs : List DepthFill) → All (Numbered w attrs t) fs → over fs ≡ true → 0 < newest-id (paint-id attrs) (newest-over (t / w) fs)
  unfolding newest-over
  some-numbered [] a e = never (sym e)
  some-numbered (f ∷ fs) (cons p a) e = by (over fs)
      (λ s. rw s (some-numbered fs a s))
      (λ s. by (covers f.buckets (t / w)) (λ y. rw (s, y) p) (λ n. never (sym (rw (n, s) at e))))

  pub fills-id : (fs : List DepthFill) → All (Numbered w attrs t) fs → newest-hide (told-fills w attrs t fs) ≡ newest-id (paint-id attrs) (newest-over (t / w) fs)
  unfolding newest-over newest-hide
  fills-id [] a = refl
  fills-id (f ∷ fs) (cons p a) =
      let ih = fills-id fs a in
      by (covers f.buckets (t / w))
      (λ y. by (over fs)
      (λ s. rw (y, s, ih) (write-past (paint-id attrs f.attribute) (newest-id (paint-id attrs) (newest-over (t / w) fs)) (some-numbered fs a s)))
      (λ s. let q = none-over fs s in let z : newest-hide (told-fills w attrs t fs) ≡ 0 = ih ∙ ap (newest-id (paint-id attrs)) q in rw (y, s, z)))
      (λ n. by (over fs)
      (λ s. rw (n, s) ih)
      (λ s. let q = none-over fs s in rw (n, s) (ih ∙ ap (newest-id (paint-id attrs)) q)))

  module _ {B : Type 0} (c : Colours B) where
    depth-entries : (ds : List DepthFill) (bs : List B) → drawn c (map entry-told (map (fill-told w attrs t) ds)) bs ≡ depth-drawn c ds bs
    unfolding drawn
    depth-entries [] bs = refl
    depth-entries (d ∷ ds) bs = depth-entries ds _

    stored-comes : (r : Row) → All (Numbered w attrs t) r.fills → (bs : List B)
        → commands-drawn c (paint-id attrs) (layer-id attrs) t (newest-hide (told-fills w attrs t r.fills)) r.commands (drawn c (map entry-told (hider (told-fills w attrs t r.fills))) bs) ≡ stored-drawn c (paint-id attrs) (layer-id attrs) t w r.fills r.commands bs
    stored-comes r a bs =
        let ds = newest-over (t / w) r.fills in
        ap (λ (i : ℕ). commands-drawn c (paint-id attrs) (layer-id attrs) t i r.commands (drawn c (map entry-told (hider (told-fills w attrs t r.fills))) bs)) (fills-id r.fills a)
        ∙ ap (λ (us : List Told). commands-drawn c (paint-id attrs) (layer-id attrs) t (newest-id (paint-id attrs) ds) r.commands (drawn c (map entry-told us) bs)) (fills-hider r.fills)
        ∙ ap (commands-drawn c (paint-id attrs) (layer-id attrs) t (newest-id (paint-id attrs) ds) r.commands) (depth-entries ds bs)

-- ids that are the same
module _ {B : Type 0} (c : Colours B) (t : ℕ) {p q l m : ℕ → ℕ} (same-paints : (i : ℕ) → p i ≡ q i) (same-layers : (i : ℕ) → l i ≡ m i) where
  commands-alike : (b : ℕ) (cs : List Command) (bs : List B) → commands-drawn c p l t b cs bs ≡ commands-drawn c q m t b cs bs
  unfolding commands-drawn
  commands-alike b [] bs = refl
  commands-alike b (paint-fill s a i ∷ cs) bs =
      ap (λ (j : ℕ). commands-drawn c p l t b cs (cond (covers s t && leb b j) (filled c i (moved a (t - s.first)) bs) bs)) (same-paints i) ∙ commands-alike b cs _
  commands-alike b (layer-fill s a i ∷ cs) bs =
      ap (λ (j : ℕ). commands-drawn c p l t b cs (cond (covers s t && leb b j) (closed c i (moved a (t - s.first)) bs) bs)) (same-layers i) ∙ commands-alike b cs _
  commands-alike b (push-buf s ∷ cs) bs = commands-alike b cs _
  commands-alike b (pop-buf ∷ cs) bs = commands-alike b cs _

  newest-alike : (ds : List DepthFill) → newest-id p ds ≡ newest-id q ds
  newest-alike [] = refl
  newest-alike (d ∷ ds) = same-paints d.attribute

  pub stored-alike : (w : ℕ) (fs : List DepthFill) (cs : List Command) (bs : List B) → stored-drawn c p l t w fs cs bs ≡ stored-drawn c q m t w fs cs bs
  stored-alike w fs cs bs =
      let ds = newest-over (t / w) fs in
      ap (λ (b : ℕ). commands-drawn c p l t b cs (depth-drawn c ds bs)) (newest-alike ds) ∙ commands-alike (newest-id q ds) cs (depth-drawn c ds bs)

pub kept-stored : {B : Type 0} → Compacted-stored B
kept-stored c f xs k b e r t h on op g =
    let w = bucket f in
    let a = k.screen.state.attrs in
    let near : t / w < buckets-across f = touched-end w (bucket-some f.width) t (width f.viewport / 4) on in
    let n = (follows-kept f xs k.screen b r t h near).grown.holds.numbered in
    sym (stored-comes w a t c (get_or k.screen.rows r fresh-row) n (c.blank ∷ []))
    ∙ sym (plain-comes c _ f xs k b e r t h near op (inside-fair c w t f.viewport r a g xs untold (untold-boxed w f.viewport r t)))

pub same-stored : {B : Type 0} → SameStored B
same-stored c f xs k b = kept-stored c f xs k (built-kept b)

pub kept-newest : Compacted-newest
kept-newest f xs k b e ts r t h on fin =
    let w = bucket f in
    let a = k.screen.state.attrs in
    let row = get_or k.screen.rows r fresh-row in
    let (v, there) = kept-on f xs k.screen b r h in
    let near : t / w < buckets-across f = touched-end w (bucket-some f.width) t (width f.viewport / 4) on in
    words-painted k e ts r there (finished-fills (painted ts k).canvas r fin) (t / w) (rw v near)
    ∙ newest-told w a t row.fills
    ∙ fills-id w a t row.fills (follows-kept f xs k.screen b r t h near).grown.holds.numbered

pub word-newest : WordNewest
word-newest f xs k b = kept-newest f xs k (built-kept b)
