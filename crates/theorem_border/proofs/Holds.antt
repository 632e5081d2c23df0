-- A host's words are those of a screen that the calls have reached, by the same steps. Assumes nothing.
use Rattle.std.proofs.Common.{ℕ, ◌≡◌, refl, sym, ap, ◌∙◌, Bool, true, false, List, [], Option, None, Some, eqb, eqb-true}
use borrow.Author.Tests.{eqb-false}
use Rattle.rules.specs.Answers.{Answer, Done}
use Rattle.rules.specs.Spans.{Span}
use Rattle.rules.specs.Plans.{Frame, Step}
use Rattle.rules.specs.Setups.{Setup, frame}
use Rattle.rules.specs.Recording.{recording, File}
use Rattle.rules.specs.Walk.{frame-of}
use Rattle.rect.specs.declared.Rect.{Rect}
use Rattle.rect.specs.Rects.{box_of}
use Rattle.screen.specs.Tables.{ScreenLent, reset_to}
use Rattle.walk.specs.Recorded.{recorded}
use Rattle.host.specs.declared.state.SetupWords.{SetupWords}
use Rattle.host.specs.Building.{props, filter-in, picture}
use Rattle.rules_picture.specs.Recorded.{history, Readable, said}
use Rattle.rules_picture.proofs.Cases.{by}
use Rattle.host.specs.State.{screen-words}
use Rattle.host.specs.Painting.{write_call}
use Rattle.compact.specs.Lent as compacting
use Rattle.theorem_picture.specs.Calls as calls
use Rattle.theorem_picture.specs.Rows as rows
use Rattle.theorem_picture.specs.Reached as reached
use Rattle.theorem_picture.specs.Reached.{ReachedBy, ReachedAlone}
use Rattle.theorem_picture.proofs.Reached.{alone-reached}
use Rattle.theorem_picture.proofs.Rows.{row-reached}
use Rattle.theorem_picture.proofs.Recorded.{recorded-reached}
use Rattle.layers.specs.Filter.{given}
use Rattle.theorem_border.specs.Held.{host-of, HoldsBy}
use Rattle.host.specs.Asked.{FileWords}
use Rattle.theorem_border.specs.Hosted.{Host, Asks, Says, HostedBy, Hosted, AloneHosted, by-reset, by-recording, by-fill, by-push, by-pop, by-filter, by-begin, by-paint, by-write, by-compact}
use Rattle.theorem_border.specs.Hosted.{Call, one-step, whole_row, place, reset-at, recording-at, fill-at, push_at, pop-at, filter-at, begin-at, paint-out, paint-at, write-at, compact-at}
use Rattle.theorem_border.proofs.Words.{hosted, reset-on, recording_on, Known, nothing, these, known, reset-never, recording-never, fill_on, push-on, pop-on, filter-on, begin-on, compact-on, call-of, paint-done, paint-kept, write_done, write_kept}

-- a call at the border that is a call at the words
made : {c : Bool} {f : Frame} {ys : List Step} (a : Answer Host) (b : Answer ScreenLent) → a ≡ hosted b → ReachedBy c f ys b.value → HoldsBy c f ys a.value
made a b q r = record { words = b.value; reached = r; same = ap (λ (x : Answer Host). x.value) q }

number_of : (a : Answer Host) (b : Answer ScreenLent) → a ≡ hosted b → a.number ≡ Done → b.number ≡ Done
number_of a b q e = sym (ap (λ (x : Answer Host). x.number) q) ∙ e

-- words have one recording
parts_in : Option (List (List (List ℕ))) → List (List (List ℕ))
parts_in None = []
parts_in (Some ss) = ss

pub said-once : {ws : File} (w v : Readable ws) → said w ≡ said v
unfolding parts_in
said-once w v = ap (λ (o : Option (List (List (List ℕ)))). recording (parts_in o)) (sym w.formed ∙ v.formed)

module _ {b : Bool} {f : Frame} {xs : List Step} {h : Host} (z : HoldsBy b f xs h) where
  abbrev l : ScreenLent
  l = z.words

  paint-reached : (c : Call) → ReachedBy b f xs (rows.after_call (call-of c) l)
  paint-reached (one-step t) = reached.by-paint t.row t.list z.reached
  paint-reached (whole_row t) = row-reached t.row t.list z.reached

  -- the words after a painting call, done or refused
  pub paint-holds : (c : Call) → HoldsBy b f xs (paint-at c h)
  paint-holds c =
      by (eqb (paint-out c (host-of l)).number Done)
      (λ y. record { words = rows.after_call (call-of c) l; reached = paint-reached c; same = ap (paint-at c) z.same ∙ paint-done c l (eqb-true _ _ y) })
      (λ n. record { words = l; reached = z.reached; same = ap (paint-at c) z.same ∙ paint-kept c (host-of l) (eqb-false _ _ n) })

  write-holds : (i id : ℕ) (t : Span) (list count : List ℕ) → HoldsBy b f xs (write-at i id t list count h)
  write-holds i id t list count =
      by (eqb (write_call i t id (screen-words l.screen) l.tables.depth list count).number Done)
      (λ y. record {
        words = reached.write-at i id t list l;
        reached = reached.by-write i id t list z.reached;
        same = ap (write-at i id t list count) z.same ∙ write_done i id t list count l (eqb-true _ _ y);
      })
      (λ n. record { words = l; reached = z.reached; same = ap (write-at i id t list count) z.same ∙ write_kept i id t list count l (eqb-false _ _ n) })

reset-holds : (c : Bool) (v : Rect) (w : SetupWords) (q : Setup) (h : Host) → Asks w q → (reset-at v w h).number ≡ Done → Known h
    → HoldsBy c (frame q (box_of v)) [] (reset-at v w h).value
reset-holds c v w q h a e (nothing n) = absurd (reset-never h n w q a v e)
reset-holds c v w q h a e (these l s) =
    let k = ap (reset-at v w) s ∙ reset-on w q a l v in
    let f = frame q (box_of v) in
    made _ (reset_to f l) k (reached.by-reset f l (number_of _ (reset_to f l) k e))

-- calls by the steps alone are calls in which rows may be compacted, and calls in which none is
either : (c : Bool) (f : Frame) (xs : List Step) (l : ScreenLent) → ReachedAlone f xs l → ReachedBy c f xs l
either true f xs l r = alone-reached f xs l r
either false f xs l r = r

recording-holds : (c : Bool) (f : FileWords) (file : File) (w : SetupWords) (q : Setup) (h : Host) (r : Readable file) → Says f file → Asks w q
    → (recording-at f w h).number ≡ Done → Known h → HoldsBy c (frame-of (place q h) (said r)) (history (place q h) (said r)) (recording-at f w h).value
recording-holds c f file w q h r y a e (nothing n) = absurd (recording-never h n w q a f file y e)
recording-holds c f file w q h r y a e (these l s) =
    let k = ap (recording-at f w) s ∙ recording_on w q a l f file y in
    let z = recorded-reached file q l (number_of _ (recorded file q l) k e) in
    made _ (recorded file q l) k (rw (s, said-once r z.words) (either c _ _ _ z.reached))

-- Whatever calls a host has made, its words are those of a screen reached by the same steps.
pub holds : {c : Bool} {f : Frame} {xs : List Step} {h : Host} → HostedBy c f xs h → HoldsBy c f xs h
holds {c = c} (by-reset v w q h a e) = reset-holds c v w q h a e (known h)
holds {c = c} (by-recording f file w q h r y a e) = recording-holds c f file w q h r y a e (known h)
holds (by-fill ps ss d r e) =
    let z = holds r in
    let q = ap (fill-at ps ss d) z.same ∙ fill_on z.words ps ss d in
    made _ (calls.fill-at ps ss d z.words) q (reached.by-fill ps ss d z.reached (number_of _ (calls.fill-at ps ss d z.words) q e))
holds (by-push mix compose opacity mask flag clip panel r e) =
    let z = holds r in
    let F : Host → Answer Host = push_at mix compose opacity mask flag clip panel in
    let q = ap F z.same ∙ push-on z.words mix compose opacity mask flag clip panel (sym (ap (λ (x : Host). (F x).number) z.same) ∙ e) in
    made _ (calls.push_at (props mix compose opacity mask flag clip panel) z.words) q
    (reached.by-push (props mix compose opacity mask flag clip panel) _ refl z.reached (number_of _ (calls.push_at (props mix compose opacity mask flag clip panel) z.words) q e))
holds (by-pop ss r e) =
    let z = holds r in
    let q = ap (pop-at ss) z.same ∙ pop-on z.words ss in
    made _ (calls.pop-at ss z.words) q (reached.by-pop ss z.reached (number_of _ (calls.pop-at ss z.words) q e))
holds (by-filter dest x y flag m n g r e) =
    let z = holds r in
    let F : Host → Answer Host = filter-at dest x y flag m n g in
    let after = calls.filter-at (given (filter-in dest x y (picture flag m)) n g) z.words in
    let q = ap F z.same ∙ filter-on z.words dest x y flag m n g (sym (ap (λ (x : Host). (F x).number) z.same) ∙ e) in
    made _ after q (reached.by-filter (given (filter-in dest x y (picture flag m)) n g) z.reached (number_of _ after q e))
holds (by-begin r) =
    let z = holds r in
    made _ (reached.begin-at z.words) (ap begin-at z.same ∙ begin-on z.words) (reached.by-begin z.reached)
holds (by-paint c r) = paint-holds (holds r) c
holds (by-write i id t list count r) = write-holds (holds r) i id t list count
holds (by-compact i r) =
    let z = holds r in
    made _ (compacting.compact-at i z.words) (ap (compact-at i) z.same ∙ compact-on z.words i) (reached.by-compact i z.reached)

-- Calls among which no row is compacted are calls.
pub alone-hosted : AloneHosted
alone-hosted f xs h r = go refl r
  where
    go : {c : Bool} {f : Frame} {xs : List Step} {h : Host} → c ≡ false → HostedBy c f xs h → Hosted f xs h
    go n (by-reset v w q h a e) = by-reset v w q h a e
    go n (by-recording f file w q h r y a e) = by-recording f file w q h r y a e
    go n (by-fill ps ss d r e) = by-fill ps ss d (go n r) e
    go n (by-push mix compose opacity mask flag clip panel r e) = by-push mix compose opacity mask flag clip panel (go n r) e
    go n (by-pop ss r e) = by-pop ss (go n r) e
    go n (by-filter dest x y flag m k g r e) = by-filter dest x y flag m k g (go n r) e
    go n (by-begin r) = by-begin (go n r)
    go n (by-paint c r) = by-paint c (go n r)
    go n (by-write i id t list count r) = by-write i id t list count (go n r)
    go n (by-compact i r) = by-compact i r
