-- The story of a tile is refused with no number below 4, so that before the border's own 4 come just the recording's 3, 2 and 1.
use Rattle.std.proofs.Common.{length, ℕ, zero, suc, arith, ◌≡◌, refl, ◌∙◌, Bool, true, false, cond, ◌||◌, ◌&&◌, not, List, [], ◌∷◌, Option, None, Some, eqb, leb, ltb}
use Rattle.sizes.specs.Sizes.{most-layers, most-attrs, most-filters, last-id}
use Rattle.rules.specs.Lists.{slice, is-empty}
use Rattle.rules.specs.Answers.{Answer, settle, Done, NoLayer, first_of, Deep, Ids, FullAttrs}
use Rattle.rules.specs.Boxes.{Box}
use Rattle.rules.specs.Segments.{Segment}
use Rattle.rules.specs.Setups.{Setup, frame}
use Rattle.rules.specs.Inputs.{Draw, Props, Filter}
use Rattle.rules.specs.Plans.{Frame, bucket, Layer, Step, a-fill, a-push, a-pop, a-filter, filter-box, draws-nothing, clip-box}
use Rattle.rules.specs.Recording.{Recording, LayerRec, Node, File, parsed, recording}
use Rattle.rules.specs.Walk.{◌then◌, go_on, when, each, walk-filter, walk-node, walk-nodes, walk-layer, walk-all}
use Rattle.rules.proofs.All.{nil, cons}
use Rattle.rules.proofs.laws.Answers.{settle-number}
use Rattle.rules_reason.specs.Reasons.{Asked}
use Rattle.rules_picture.proofs.Cases.{by}
use Rattle.rules_picture.proofs.Walked.{Late, late-done, first-late}
use Rattle.screen.specs.Judging as judging
use Rattle.screen.specs.Tables.{ScreenLent, lengths}
use Rattle.walk.specs.Recorded.{recorded-in, of-sections, recorded}
use Rattle.tile.specs.Telling.{Telling, tell-fill, tell-push, tell-pop, tell-filter, tell-at}
use Rattle.rules_reason.specs.Answers.{off-screen}
use Rattle.tile.specs.Explained.{no-reason, told_of, explained-of, explained-in, explained}
use Rattle.host.specs.State.{before_4}
use Rattle.host.specs.Border.{file_number}
use Rattle.host.proofs.Early.{after, recorded-is-early}

settle-late : {S : Type 0} (n : ℕ) (s t : S) → Late n → Late (settle n s t).number
settle-late n s t h = rw (settle-number n s t) h

ids-late : {S : Type 0} (a b : Bool) (s t : S) → Late (settle (first_of ((a, Ids) ∷ (b, FullAttrs) ∷ [])) s t).number
ids-late a b s t =
    settle-late (first_of ((a, Ids) ∷ (b, FullAttrs) ∷ [])) s t (first-late ((a, Ids) ∷ (b, FullAttrs) ∷ []) (cons (omega arith) (cons (omega arith) nil)))

deep-late : {S : Type 0} (a : Bool) (s t : S) → Late (settle (first_of ((a, Deep) ∷ [])) s t).number
deep-late a s t = settle-late (first_of ((a, Deep) ∷ [])) s t (first-late ((a, Deep) ∷ []) (cons (omega arith) nil))

-- a walk whose steps are late
module _ {S : Type 0} where
  then-late : (f g : S → Answer S) → ((s : S) → Late (f s).number) → ((s : S) → Late (g s).number) → (s : S) → Late ((f then g) s).number
  unfolding ◌then◌
  then-late f g p q s = go (eqb (f s).number Done)
    where
      go : (b : Bool) → Late (go_on b (f s) g).number
      go true = q (f s).value
      go false = p s

  when-late : (b : Bool) (f : S → Answer S) → ((s : S) → Late (f s).number) → (s : S) → Late (when b f s).number
  unfolding when
  when-late true f h s = h s
  when-late false f h s = late-done

  each-late : {A : Type 0} (f : A → S → Answer S) → ((x : A) (s : S) → Late (f x s).number) → (xs : List A) (s : S) → Late (each f xs s).number
  unfolding each
  each-late f h [] s = late-done
  each-late f h (x ∷ xs) s = then-late (f x) (each f xs) (h x) (each-late f h xs) s

module _ (S : Type 0) (step : Step → S → Answer S) (h : (x : Step) (s : S) → Late (step x s).number) (r : Recording) where
  filter-late : (l : LayerRec) (s : S) → Late (walk-filter S step r l s).number
  unfolding walk-filter
  filter-late l s = then-late _ _ (then-late _ _ (when-late _ _ (h _)) (h _)) (when-late _ _ (h _)) s

  nodes-late : (walk : LayerRec → S → Answer S) → ((l : LayerRec) (s : S) → Late (walk l s).number) → (a b : ℕ) (s : S) → Late (walk-nodes S step r walk a b s).number
  unfolding walk-nodes walk-node
  nodes-late walk k a b s =
      each-late (walk-node S step r walk) (λ (n : Node). then-late _ _ (each-late _ (λ (d : Draw). h _) _) (when-late _ _ (k _))) (slice a b r.nodes) s

  layer-late : (d : ℕ) (l : LayerRec) (s : S) → Late (walk-layer S step r d l s).number
  unfolding walk-layer
  layer-late zero l s = then-late _ _ (when-late _ _ (h _)) (when-late _ _ (filter-late l)) s
  layer-late (suc d) l s =
      then-late _ _ (when-late _ _ (then-late _ _ (then-late _ _ (h _) (nodes-late (walk-layer S step r d) (layer-late d) l.start l.end)) (h _))) (when-late _ _ (filter-late l)) s

  walk-late : (s : S) → Late (walk-all S step r s).number
  unfolding walk-all
  walk-late = nodes-late (walk-layer S step r most-layers) (layer-late most-layers) r.start r.end

module _ (w : ℕ) (v : Box) (row tile : ℕ) where
  pop-late : (ls : List Layer) (ss : List Segment) (t : Telling) → Late (tell-pop w v row tile ls ss t).number
  unfolding tell-pop
  pop-late [] ss t = settle-late NoLayer t t (λ e. omega arith)
  pop-late (l ∷ ls) ss t = ids-late (ltb last-id t.next) (leb most-attrs t.layers) t _

  fill-late : (own : List Segment) (e : Bool) (q : ℕ) (t : Telling) → Late (tell-fill w v row tile own e q t).number
  unfolding tell-fill
  fill-late own e q t = ids-late (ltb last-id t.next) (not (is-empty own) && leb most-attrs t.paints) t _

  push-late : (p : Props) (t : Telling) → Late (tell-push w v row tile p t).number
  unfolding tell-push
  push-late p t = deep-late (leb most-layers (length t.opened)) t _

  picture-late : (f : Filter) (q : ℕ) (t : Telling) → Late (tell-filter w v row tile f q t).number
  unfolding tell-filter
  picture-late f q t = by (draws-nothing f (filter-box v (clip-box v t.opened) f))
      (λ y. rw y late-done)
      (λ n. rw n (ids-late (ltb last-id t.next) (leb most-attrs t.paints || leb most-filters t.filters) t _))

  step-late : (x : Step) (t : Telling) → Late (tell-at w v row tile x t).number
  unfolding tell-at
  step-late (a-fill ps ss d) t = fill-late _ _ _ t
  step-late (a-push p) t = push-late p t
  step-late (a-pop ss) t = pop-late t.opened ss t
  step-late (a-filter n f q) t = picture-late f q t

-- the call after an accepted recording, on a screen of the frame f
module _ (row tile : ℕ) (a : Asked) (l : ScreenLent) where
  module _ (f : Frame) (r : Recording) where
    told-late : Late (told_of (bucket f) f.viewport r row tile).number
    unfolding told_of
    told-late = walk-late Telling (tell-at (bucket f) f.viewport row tile) (step-late (bucket f) f.viewport row tile) r _

    explained-late : Late (explained-of f r row tile a l).number
    unfolding explained-of
    explained-late = by (off-screen f.viewport row tile)
        (λ y. rw y (λ e. omega arith))
        (λ n. rw n (by (eqb (told_of (bucket f) f.viewport r row tile).number Done) (λ y. rw y late-done) (λ z. rw z told-late)))

  then-early : (q : Setup) (old : ScreenLent) (ss : List (List (List ℕ)))
      → let b = recorded-in (recording ss) q old in
      before_4 b.number ≡ before_4 (cond (eqb b.number Done) (explained-in q (Some ss) row tile a l) (no-reason b.number b.value)).number
  then-early q old ss = by (eqb (recorded-in (recording ss) q old).number Done)
      (λ y. rw y (rw y at (after (recorded-in (recording ss) q old).number _ (explained-late (frame q (recording ss).viewport) (recording ss)))))
      (λ n. rw n)

pub explained-is-early : (ws : File) (q : Setup) (row tile : ℕ) (a : Asked) (l : ScreenLent)
    → before_4 (file_number ws q (judging.arenas (lengths l.tables))) ≡ before_4 (explained ws q row tile a l).number
unfolding explained recorded
explained-is-early ws q row tile a l = recorded-is-early ws q l ∙ go (parsed ws)
  where
    go : (o : Option (List (List (List ℕ))))
        → let b = of-sections o q l in
        before_4 b.number ≡ before_4 (cond (eqb b.number Done) (explained-in q o row tile a b.value) (no-reason b.number b.value)).number
    go None = refl
    go (Some ss) = then-early row tile a (recorded-in (recording ss) q l).value q l ss
