-- A reason's panels are those of the attributes: each account has the panel of the attribute that its step adds, and attributes are only added.
use Rattle.std.proofs.Common.{ℕ, arith, ◌≡◌, refl, sym, ◌∙◌, ap, subst, Bool, true, false, ◌&&◌, Option, None, Some, List, [], ◌∷◌, ◌++◌, map, append_assoc, length, get_or}
use lib.Seq.{get_or-append_seam}
use Rattle.rules.specs.Lists.{keep, is-empty}
use Rattle.rules.specs.Answers.{Done}
use Rattle.rules.specs.Boxes.{Box}
use Rattle.rules.specs.Segments.{Segment}
use Rattle.rules.specs.Inputs.{Paint, Draw, draw-segments, Filter}
use Rattle.rules.specs.Attributes.{LayerAttr, no-layer, Attrs}
use Rattle.rules.specs.Rows.{Row, row-ops}
use Rattle.rules.specs.Plans.{bucket, Layer, State, Step, a-fill, a-push, a-pop, a-filter, box_of, filter-box, draws-nothing, plan-fill, plan-pop, plan-filter-in, plan-filter, plan}
use Rattle.rules.specs.Steps.{Screen, done, touched, call}
use Rattle.rules.specs.Painting.{paint-panel, layer-panel}
use Rattle.rules.specs.Plain.{Told, OpenLayer, Story, untold, box-now, tell-step, tell-steps, shown}
use Rattle.rules.proofs.All.{All, nil, cons, all_append}
use Rattle.rules_picture.specs.Compacted.{Kept-up, no_step, then, tidied}
use Rattle.rules_picture.proofs.Cases.{by}
use Rattle.rules_picture.proofs.CompactedFollows.{kept-leads}
use Rattle.rules_picture.proofs.Follows.{layer-in, Leads, new-paint}
use Rattle.rules_picture.proofs.Stepped.{call-done}
use Rattle.rules_reason.specs.Reasons.{Asked, Account, account-fill, account-pop, account-filter, account-step, accounts, account-of, place_of, placed, because, reason}
use Rattle.refine_tile.proofs.Numbers.{told-all, accounts-told}
use Rattle.refine_tile.proofs.Stories.{Stands, filter-planned, step-stands, done-state, reset-stands}
use Rattle.theorem_reason.specs.Reasons.{Newest, newest, older, TellsOwn, panel-in, panel-at, Panel-true}
use Rattle.theorem_reason.proofs.Places.{kind-is, place-all, account-found}
use Rattle.theorem_reason.proofs.Reasons.{told-exact, hidden-exact}

-- an account's panel is that of its attribute
abbrev Has : Attrs → Account → Type 0
Has t k = panel-at k.layer k.attribute t ≡ k.panel

module _ (w : ℕ) (v : Box) (row tile : ℕ) (t : Attrs) where
  -- the attributes t begin with these
  abbrev Begins : Attrs → Type 0
  Begins a = Leads w t tile v row a

  new-layer : (ls : List LayerAttr) (x : LayerAttr) (more : List LayerAttr) → t.layers ≡ (ls ++ (x ∷ [])) ++ more → layer-panel t (length ls) ≡ x.panel
  new-layer ls x more e =
      ap (λ (xs : List LayerAttr). (get_or xs (length ls) no-layer).panel) (e ∙ append_assoc ls (x ∷ []) more)
      ∙ ap (λ (y : LayerAttr). y.panel) (get_or-append_seam ls x more no-layer)

  fill-has : (ps : List Paint) (ss : List Segment) (d : Draw) (o : Story) (s : State) → Stands v o s → Begins (plan-fill ps ss d s).attrs
      → All (Has t) (account-fill w v row tile ps ss d o)
  unfolding plan-fill
  fill-has ps ss d o s h l = by (is-empty (draw-segments ss d))
      (λ y. rw y nil)
      (λ n.
      let k = rw n at l in
      rw n (cons (rw h.paints at (new-paint w t tile v row s.attrs.paints _ k.paints-more k.paints).panel-is) nil))

  pop-has : (ls : List OpenLayer) (ms : List Layer) (ss : List Segment) (js : List ℕ) (o : Story) (s : State) → Stands v o s → ms ≡ map layer-in ls
      → Begins (plan-pop ms ss js s).attrs → All (Has t) (account-pop w v row tile ls ss o)
  unfolding plan-pop
  pop-has [] ms ss js o s h e l = nil
  pop-has (y ∷ ls) ms ss js o s h e l =
      let k : Begins (plan-pop (layer-in y ∷ map layer-in ls) ss js s).attrs = rw e at l in
      cons (rw h.layers at (new-layer s.attrs.layers _ k.layers-more k.layers)) nil

  filter-has : (n : ℕ) (f : Filter) (q : ℕ) (o : Story) (s : State) → Stands v o s → (plan-filter n f q s).refused ≡ Done → Begins (plan-filter n f q s).attrs
      → All (Has t) (account-filter w v row tile f q o)
  unfolding plan-filter-in
  filter-has n f q o s h j l =
      let b = filter-box v (box-now v o.open-layers) f in
      let e : filter-box s.frame.viewport (box_of s) f ≡ b = rw (h.view, h.opened) in
      let p = filter-planned n f q s b e j in
      by (draws-nothing f b)
      (λ y. rw y nil)
      (λ m.
      let z : plan-filter n f q s ≡ plan-filter-in b n f q s = p ∙ rw m in
      let k : Begins (plan-filter-in b n f q s).attrs = rw z at l in
      rw m (cons (rw h.paints at (new-paint w t tile v row s.attrs.paints _ k.paints-more k.paints).panel-is) nil))

  step-has : (x : Step) (js : List ℕ) (o : Story) (s : State) → Stands v o s → (plan x js s).refused ≡ Done → Begins (plan x js s).attrs
      → All (Has t) (account-step w v row tile x o)
  unfolding plan account-step
  step-has (a-fill ps ss d) js o s h j l = fill-has ps ss d o s h l
  step-has (a-push p) js o s h j l = nil
  step-has (a-pop ss) js o s h j l = pop-has o.open-layers s.layers ss js o s h h.opened l
  step-has (a-filter n f q) js o s h j l = filter-has n f q o s h j l

module _ (w : ℕ) (v : Box) (row tile : ℕ) where
  kept-has : {xs : List Step} {s u : Screen Row} → Kept-up xs s u → (o : Story) → Stands v o s.state → All (Has u.state.attrs) (accounts w v row tile xs o)
  unfolding accounts done
  kept-has no_step o h = nil
  kept-has {u = u} ((then) {x = x} {s = s} e b) o h =
      let js = touched Row row-ops (length s.state.layers) 0 s.rows in
      let (j, q) = call-done x s e in
      let l : Begins w v row tile u.state.attrs (call Row row-ops x s).value.state.attrs = kept-leads w tile v row b in
      let k = (step-stands w v row tile x js o s.state h j).1 in
      all_append (step-has w v row tile u.state.attrs x js o s.state h j (rw (ap (λ (y : Screen Row). y.state.attrs) q) at l))
      (kept-has b (tell-step w v row tile x o) (rw (q, done-state row-ops (plan x js s.state) s) k))
  kept-has (tidied i z b) o h = kept-has b o h

-- an entry has the panel of its attribute
abbrev HasEntry : Attrs → Told → Type 0
HasEntry t e = panel-at e.entry.layer e.entry.attribute t ≡ e.entry.panel

module _ (t : Attrs) where
  told-has : {ks : List Account} → All (Has t) ks → All TellsOwn ks → All (HasEntry t) (told-all ks)
  told-has nil nil = nil
  told-has (cons {x = k} p ps) (cons o os) = all_append (subst (All (HasEntry t)) (sym o.told) (kept (k.covered && k.kept && k.touched))) (told-has ps os)
    where
      kept : (b : Bool) → All (HasEntry t) (keep b o.entry [])
      kept true = cons {x = o.entry} (rw (o.layer, o.attribute, o.panel) p) nil
      kept false = nil

  newest-has : {ts : List Told} {h b : ℕ} → Newest ts h b → All (HasEntry t) ts → paint-panel t h ≡ b
  newest-has (newest e d a) (cons p ps) = rw d at p
  newest-has (older n) (cons p ps) = newest-has n ps

-- the reason of an attribute that there is ends in its account's panel
placed-panel : (o : Option ℕ) (ts : List Told) (q : ℕ) → panel-in (placed o ts q) ≡ Some q
placed-panel None ts q = refl
placed-panel (Some n) ts q = refl

because-panel : (a : Asked) (k : Account) (ts : List Told) → panel-in (because a (Some k) ts) ≡ Some k.panel
unfolding because
because-panel a k ts = by k.covered
    (λ c. by k.kept
    (λ m. by k.touched (λ t. rw (c, m, t) (placed-panel (place_of a 0 (shown ts)) ts k.panel)) (λ t. rw (c, m, t)))
    (λ m. rw (c, m)))
    (λ c. rw c)

module _ (w : ℕ) (v : Box) (row tile : ℕ) (xs : List Step) (a : Asked) where
  abbrev asked : Option Account
  asked = account-of a (accounts w v row tile xs untold)

  reason-none : asked ≡ None → panel-in (reason w v row tile xs a) ≡ None
  unfolding reason because
  reason-none e = rw e

  reason-some : (k : Account) → asked ≡ Some k → panel-in (reason w v row tile xs a) ≡ Some k.panel
  unfolding reason
  reason-some k e = rw e (because-panel a k (tell-steps w v row tile xs untold).told)

pub panel-true : Panel-true
panel-true f xs u g b row tile a =
    record {
      own = λ q e. own q (asked w v row tile xs a) refl e;
      hider = λ h c q e. newest-has u.state.attrs ((hidden-exact f xs u g b row tile a h c q).0 e).hider entries;
    }
  where
    w : ℕ
    w = bucket f

    v : Box
    v = f.viewport

    has : All (Has u.state.attrs) (accounts (bucket f) f.viewport row tile xs untold)
    has = kept-has (bucket f) f.viewport row tile b untold (reset-stands f)

    entries : All (HasEntry u.state.attrs) (tell-steps (bucket f) f.viewport row tile xs untold).told
    entries =
        subst (All (HasEntry u.state.attrs)) (sym (accounts-told (bucket f) f.viewport row tile xs))
        (told-has u.state.attrs has (told-exact f xs u g b row tile a))

    own : (q : ℕ) (o : Option Account) → asked (bucket f) f.viewport row tile xs a ≡ o
        → panel-in (reason (bucket f) f.viewport row tile xs a) ≡ Some q → panel-at a.layer a.attribute u.state.attrs ≡ q
    own q None e z =
        let y : ◌≡◌ {A = Option ℕ} None (Some q) = sym (reason-none (bucket f) f.viewport row tile xs a e) ∙ z in
        let x : ◌≡◌ {A = ℕ} 0 1 = cc in
        absurd (omega arith)
    own q (Some k) e z =
        let s = account-found a (accounts (bucket f) f.viewport row tile xs untold) k e in
        let (p, i) = kind-is k.layer a.layer k.attribute a.attribute s.of in
        let y : ◌≡◌ {A = Option ℕ} (Some k.panel) (Some q) = sym (reason-some (bucket f) f.viewport row tile xs a k e) ∙ z in
        let x : k.panel ≡ q = cc in
        (rw (p, i) at (place-all has s.at)) ∙ x
