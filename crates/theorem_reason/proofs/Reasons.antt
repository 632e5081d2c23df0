-- The reason that is given is the first that holds, and no other is.
use Rattle.std.proofs.Common.{ℕ, zero, suc, ◌≤◌, ◌<◌, zero-add, arith, ◌≡◌, refl, sym, ◌∙◌, ap, subst, Bool, true, false, ◌&&◌, cond, Option, None, Some, List, [], ◌∷◌, map, length, ltb, ltb-true, ltb-false}
use mathlib.Core.Logic.{◌↔◌}
use Rattle.std.specs.Prelude.{unwrap_or}
use Rattle.rules.specs.Lists.{is-empty, is_none}
use Rattle.rules.specs.Spans.{covers, solid-tiles}
use Rattle.rules.specs.Boxes.{Box, span_of, good_viewport}
use Rattle.rules.specs.Segments.{Segment, Cut}
use Rattle.rules.specs.Inputs.{draw-segments, draw-paint, Filter}
use Rattle.rules.specs.Rows.{Row, fresh-row, row-ops}
use Rattle.rules.specs.Plans.{Frame, bucket, Step, a-fill, a-push, a-pop, a-filter, eligible, filter-box, draws-nothing}
use Rattle.rules.specs.Steps.{Screen, reset}
use Rattle.rules.specs.Painting.{Entry}
use Rattle.rules.specs.Plain.{Told, OpenLayer, Story, untold, box-now, here, in_rows, closers, tell, tell-pop, tell-filter, tell-step, tell-steps, shown, plain}
use Rattle.rules.proofs.All.{All, nil, cons, all_append, all-if, never, and_left, and_both}
use Rattle.rules_picture.specs.Compacted.{Kept-up, no_step, then, tidied}
use Rattle.rules_picture.proofs.Cases.{by}
use Rattle.rules_picture.proofs.Picture.{all_shown}
use Rattle.rules_reason.specs.Reasons.{Reason, unknown-attribute, no-segment, cut-away, row-untouched, hidden-by, shown-at, Asked, Account, accounts, account-of, place_of, Hider, newest-hider, hidden as hidden-for, because, reason}
use Rattle.tile.specs.Telling.{Line}
use Rattle.tile.specs.Listed.{entry_of}
use Rattle.refine_tile.specs.Retold.{tells, Say, said, says}
use Rattle.refine_tile.proofs.Inside as fits
use Rattle.refine_tile.proofs.Inside.{Fitting, inside-none}
use Rattle.refine_tile.proofs.Lines.{steps-say}
use Rattle.refine_tile.proofs.Stories.{Stands, call-stands, reset-stands}
use Rattle.refine_tile.proofs.Walked.{even}
use Rattle.refine_tile.proofs.Numbers.{told-all, accounts-numbered, accounts-told, Once, numbered-once}
use Rattle.refine_tile.proofs.Shows.{hiding, Unnamed}
use Rattle.theorem_reason.specs.Reasons.{Place, EntryOf, Listed, Unlisted, attributes, Reckoned, Hidden, Holds, unknown, uncovered, cut, untouched, hidden, listed, rank, First, TellsOwn, Told-exact, Reason-true, Unknown-exact, Shown-exact, Hidden-exact}
use Rattle.theorem_reason.proofs.Places.{kind-is, kind-yes, place-all, entry_in, place-entry, place-told, shown-told, Drawn, newest-is, newest-only, named, naming, unlisted}
use Rattle.theorem_reason.proofs.Places.{place_found, place-missing, Lone, lone-shown, place-lone, Fair, fair, told_lone, Paneled, told-panels, account-found, account-lone, none_told, untold-by, told-by-it, numbered_below, numbered-above}

-- the entries that hide are draws'
module _ (w : ℕ) (v : Box) (row tile : ℕ) where
  tell-drawn : (l : Bool) (i q n id : ℕ) (e : Bool) (ks : List Cut) → (e ≡ true → l ≡ false) → All Drawn (tell w v row tile l i q n id e ks)
  tell-drawn l i q n id e [] f = nil
  tell-drawn l i q n id e (k ∷ ks) f = by (covers k.stretch.tiles tile)
      (λ y. rw y (cons (λ h. f (and_left e (is_none k.stretch.alpha) (and_left (e && is_none k.stretch.alpha) _ h))) (tell-drawn l i q n id e ks f)))
      (λ z. rw z (tell-drawn l i q n id e ks f))

  pop-drawn : (ls : List OpenLayer) (ss : List Segment) (o : Story) → All Drawn o.told → All Drawn (tell-pop w v row tile ls ss o).told
  pop-drawn [] ss o d = d
  pop-drawn (l ∷ ls) ss o d =
      let ks = closers w v row tile l.layer.props.clip l.layer.bounds ls ss in
      all_append d (all-if l.touched (tell-drawn true o.layers l.layer.props.panel (length o.open-layers) o.next false ks (λ e. never (sym e))) nil)

  filter-drawn : (f : Filter) (q : ℕ) (o : Story) → All Drawn o.told → All Drawn (tell-filter w v row tile f q o).told
  filter-drawn f q o d =
      let b = filter-box v (box-now v o.open-layers) f in
      let ks : List Cut = cond (in_rows w v row tile b) (record { row = row; stretch = solid-tiles (span_of b) } ∷ []) [] in
      by (draws-nothing f b)
      (λ y. rw y d)
      (λ n. rw n (all_append d (tell-drawn false o.paints q (length o.open-layers) o.next false ks (λ e. refl))))

  step-drawn : (x : Step) (o : Story) → All Drawn o.told → All Drawn (tell-step w v row tile x o).told
  unfolding tell-step
  step-drawn (a-fill ps ss d) o h =
      let e = eligible (is-empty o.open-layers) (draw-paint ps d) d in
      let ks = here w v row tile o.open-layers (draw-segments ss d) in
      all_append h (tell-drawn false o.paints d.panel (length o.open-layers) o.next e ks (λ y. refl))
  step-drawn (a-push p) o h = h
  step-drawn (a-pop ss) o h = pop-drawn o.open-layers ss o h
  step-drawn (a-filter n f q) o h = filter-drawn f q o h

  steps-drawn : (xs : List Step) (o : Story) → All Drawn o.told → All Drawn (tell-steps w v row tile xs o).told
  unfolding tell-steps
  steps-drawn [] o h = h
  steps-drawn (x ∷ xs) o h = steps-drawn xs (tell-step w v row tile x o) (step-drawn x o h)

-- of an account that tells, and one that doesn't
told-parts : (c k t : Bool) → (c && k && t) ≡ true → (c ≡ true) × (k ≡ true) × (t ≡ true)
told-parts true true true e = (refl, refl, refl)
told-parts true true false e = never (sym e)
told-parts true false t e = never (sym e)
told-parts false k t e = never (sym e)

-- what is known of the account, if there is one
abbrev covered_of : Option Account → Bool
covered_of None = true
covered_of (Some k) = k.covered

abbrev kept_of : Option Account → Bool
kept_of None = true
kept_of (Some k) = k.kept

abbrev touched-of : Option Account → Bool
touched-of None = true
touched-of (Some k) = k.touched

abbrev panel-of : Option Account → ℕ
panel-of None = 0
panel-of (Some k) = k.panel

module _ (w : ℕ) (v : Box) (row tile : ℕ) (xs : List Step) (a : Asked) (fairs : All (Fair a) (accounts w v row tile xs untold)) where
  abbrev ks : List Account
  ks = accounts w v row tile xs untold

  abbrev ts : List Told
  ts = (tell-steps w v row tile xs untold).told

  abbrev asked : Option Account
  asked = account-of a ks

  abbrev where-shown : Option ℕ
  where-shown = place_of a 0 (shown ts)

  same-told : ts ≡ told-all ks
  same-told = accounts-told w v row tile xs

  one-account : Once a ks
  one-account = numbered-once a (accounts-numbered w v row tile xs)

  one_entry : Lone a ts
  one_entry = subst (λ (us : List Told). Lone a us) (sym same-told) (told_lone a fairs one-account)

  -- the account
  abbrev reckoned : (k : Account) → asked ≡ Some k → Reckoned w v row tile xs a
  reckoned k e =
      let r = account-found a ks k e in
      let (p, q) = kind-is k.layer a.layer k.attribute a.attribute r.of in
      record { place = r.place; account = k; at = r.at; of = record { layer = p; attribute = q } }

  is-reckoned : (r : Reckoned w v row tile xs a) → asked ≡ Some r.account
  is-reckoned r =
      account-lone a one-account r.at
      (kind-yes r.account.layer a.layer r.account.attribute a.attribute r.of.layer r.of.attribute)

  above : asked ≡ None → attributes w v row tile xs a ≤ a.attribute
  above e = numbered-above a (accounts-numbered w v row tile xs) e

  below : (k : Account) → asked ≡ Some k → a.attribute < attributes w v row tile xs a
  below k e = let r = account-found a ks k e in numbered_below a (accounts-numbered w v row tile xs) r.at r.of

  -- the entries of the asked attribute have its account's panel
  panels : (k : Account) → asked ≡ Some k → All (Paneled a k.panel) ts
  panels k e = subst (λ (us : List Told). All (Paneled a k.panel) us) (sym same-told) (told-panels a k fairs one-account e)

  -- the tile's list
  is-listed : (p : ℕ) → where-shown ≡ Some p → (q : ℕ) × Listed a p q (plain w v row tile xs)
  unfolding plain
  is-listed p e =
      let r = place_found a 0 p (shown ts) e in
      let i : r.place ≡ p = sym (r.is ∙ zero-add r.place) in (
        r.told.entry.panel,
        record {
          entry = r.told.entry;
          at = subst (λ (n : ℕ). Place n (map entry_in (shown ts)) r.told.entry) i (place-entry r.at);
          of = named a r.told r.of;
          panel = refl;
        },
      )

  listed_at : (p q : ℕ) → Listed a p q (plain w v row tile xs) → where-shown ≡ Some p
  unfolding plain
  listed_at p q l =
      let r = place-told (shown ts) l.at in
      let e : EntryOf a r.told.entry = subst (λ (x : Entry). EntryOf a x) (sym r.is) l.of in
      place-lone a 0 (lone-shown a one_entry) r.at (naming a r.told e) ∙ ap (λ (n : ℕ). Some n) (zero-add p)

  listed-panel : (k : Account) → asked ≡ Some k → (p q : ℕ) → Listed a p q (plain w v row tile xs) → k.panel ≡ q
  unfolding plain
  listed-panel k y p q l =
      let r = place-told (shown ts) l.at in
      let e : EntryOf a r.told.entry = subst (λ (x : Entry). EntryOf a x) (sym r.is) l.of in
      let (m, at) = shown-told ts r.at in
      sym (place-all (panels k y) at (naming a r.told e)) ∙ ap (λ (x : Entry). x.panel) r.is ∙ l.panel

  is-unlisted : where-shown ≡ None → Unlisted a (plain w v row tile xs)
  unfolding plain
  is-unlisted e = unlisted a (place-missing a 0 (shown ts) e)

  unlisted-at : Unlisted a (plain w v row tile xs) → where-shown ≡ None
  unlisted-at u = go where-shown refl
    where
      go : (o : Option ℕ) → where-shown ≡ o → where-shown ≡ None
      go None e = e
      go (Some p) e = let (q, l) = is-listed p e in absurd (place-all u l.at l.of)

  -- an entry is told exactly by an account that tells
  record Teller : Type 0 where
    account : Account
    is : asked ≡ Some account
    does : tells account ≡ true

  teller : {n : ℕ} (t : Told) → Place n ts t → EntryOf a t.entry → Teller
  teller t p e = go asked refl
    where
      unnamed : Unnamed a ts → ⊥
      unnamed u = never (sym (naming a t e) ∙ place-all u p)

      go : (o : Option Account) → asked ≡ o → Teller
      go None q = absurd (unnamed (subst (λ (us : List Told). Unnamed a us) (sym same-told) (none_told a fairs q)))
      go (Some k) q = by (tells k)
          (λ y. record { account = k; is = q; does = y })
          (λ n. absurd (unnamed (subst (λ (us : List Told). Unnamed a us) (sym same-told) (untold-by a k fairs one-account q n))))

  listed-teller : (p q : ℕ) → Listed a p q (plain w v row tile xs) → Teller
  unfolding plain
  listed-teller p q l =
      let r = place-told (shown ts) l.at in
      let e : EntryOf a r.told.entry = subst (λ (x : Entry). EntryOf a x) (sym r.is) l.of in
      let (m, at) = shown-told ts r.at in
      teller r.told at e

  -- told, and not in the list: something hides it
  is_hidden : (k : Account) → asked ≡ Some k → tells k ≡ true → where-shown ≡ None
      → Hidden w v row tile xs a (newest-hider ts).attribute (newest-hider ts).panel k.panel
  is_hidden k e y n =
      let r = told-by-it a k fairs e y in
      let p : Place r.place ts r.told = subst (λ (us : List Told). Place r.place us r.told) (sym same-told) r.at in
      let h : hiding ts ≡ true = by (hiding ts) (λ z. z)
      (λ z.
      let u : Unnamed a ts = subst (λ (us : List Told). Unnamed a us) (all_shown ts z) (place-missing a 0 (shown ts) n) in
      never (sym r.of ∙ place-all u p)) in
      record {
        place = r.place;
        told = r.told;
        at = p;
        of = named a r.told r.of;
        panel = place-all (panels k e) p r.of;
        gone = is-unlisted n;
        hider = newest-is ts (steps-drawn w v row tile xs untold nil) h;
      }

  -- the reason by what is known
  gives-unknown : asked ≡ None → reason w v row tile xs a ≡ unknown-attribute
  unfolding reason because
  gives-unknown e = rw e

  gives-uncovered : (k : Account) → asked ≡ Some k → k.covered ≡ false → reason w v row tile xs a ≡ no-segment k.panel
  unfolding reason because
  gives-uncovered k e c = rw (e, c)

  gives_cut : (k : Account) → asked ≡ Some k → k.covered ≡ true → k.kept ≡ false → reason w v row tile xs a ≡ cut-away k.panel
  unfolding reason because
  gives_cut k e c m = rw (e, c, m)

  gives-untouched : (k : Account) → asked ≡ Some k → k.covered ≡ true → k.kept ≡ true → k.touched ≡ false → reason w v row tile xs a ≡ row-untouched k.panel
  unfolding reason because
  gives-untouched k e c m t = rw (e, c, m, t)

  gives-hidden : (k : Account) → asked ≡ Some k → tells k ≡ true → where-shown ≡ None → reason w v row tile xs a ≡ hidden-for (newest-hider ts) k.panel
  unfolding reason because
  gives-hidden k e y n = let (c, m, t) = told-parts k.covered k.kept k.touched y in rw (e, c, m, t, n)

  gives-shown : (k : Account) → asked ≡ Some k → tells k ≡ true → (p : ℕ) → where-shown ≡ Some p → reason w v row tile xs a ≡ shown-at p k.panel
  unfolding reason because
  gives-shown k e y p n = let (c, m, t) = told-parts k.covered k.kept k.touched y in rw (e, c, m, t, n)

  -- what each reason that holds says
  abbrev True : Reason → Type 0
  True r = Holds w v row tile xs a r

  is-unknown : True unknown-attribute → asked ≡ None
  is-unknown (unknown le) = go asked refl
    where
      go : (o : Option Account) → asked ≡ o → asked ≡ None
      go None e = e
      go (Some k) e = let h = below k e in absurd (omega arith)

  is-uncovered : {q : ℕ} → True (no-segment q) → covered_of asked ≡ false
  is-uncovered (uncovered r e) = ap covered_of (is-reckoned r) ∙ e

  is_cut : {q : ℕ} → True (cut-away q) → kept_of asked ≡ false
  is_cut (cut r e) = ap kept_of (is-reckoned r) ∙ e

  is-untouched : {q : ℕ} → True (row-untouched q) → touched-of asked ≡ false
  is-untouched (untouched r e) = ap touched-of (is-reckoned r) ∙ e

  hides-it : {h b q : ℕ} → True (hidden-by h b q) → Hidden w v row tile xs a h b q
  hides-it (hidden x) = x

  lists-it : {p q : ℕ} → True (shown-at p q) → Listed a p q (plain w v row tile xs)
  lists-it (listed x) = x

  -- .. and its panel
  uncovered-panel : {q : ℕ} → True (no-segment q) → panel-of asked ≡ q
  uncovered-panel (uncovered r e) = ap panel-of (is-reckoned r)

  cut-panel : {q : ℕ} → True (cut-away q) → panel-of asked ≡ q
  cut-panel (cut r e) = ap panel-of (is-reckoned r)

  untouched-panel : {q : ℕ} → True (row-untouched q) → panel-of asked ≡ q
  untouched-panel (untouched r e) = ap panel-of (is-reckoned r)

  hidden-panel : {h b q : ℕ} (x : Hidden w v row tile xs a h b q) → (teller x.told x.at x.of).account.panel ≡ q
  hidden-panel x =
      let t = teller x.told x.at x.of in
      sym (place-all (panels t.account t.is) x.at (naming a x.told x.of)) ∙ x.panel

  shown-panel : {p q : ℕ} (l : Listed a p q (plain w v row tile xs)) → (listed-teller p q l).account.panel ≡ q
  shown-panel {p} {q} l = let t = listed-teller p q l in listed-panel t.account t.is p q l

  -- none of the first n holds
  none_before : (n : ℕ) → (0 < n → asked ≡ None → ⊥) → (1 < n → covered_of asked ≡ false → ⊥) → (2 < n → kept_of asked ≡ false → ⊥) → (3 < n → touched-of asked ≡ false → ⊥)
      → (4 < n → where-shown ≡ None → ⊥) → n ≤ 5 → (s : Reason) → rank s < n → True s → ⊥
  unfolding rank
  none_before n a₀ a₁ a₂ a₃ a₄ le unknown-attribute l h = a₀ l (is-unknown h)
  none_before n a₀ a₁ a₂ a₃ a₄ le (no-segment q) l h = a₁ l (is-uncovered h)
  none_before n a₀ a₁ a₂ a₃ a₄ le (cut-away q) l h = a₂ l (is_cut h)
  none_before n a₀ a₁ a₂ a₃ a₄ le (row-untouched q) l h = a₃ l (is-untouched h)
  none_before n a₀ a₁ a₂ a₃ a₄ le (hidden-by i b q) l h = a₄ l (unlisted-at (hides-it h).gone)
  none_before n a₀ a₁ a₂ a₃ a₄ le (shown-at p q) l h = omega arith

  abbrev Earliest : Reason → Type 0
  Earliest r = First w v row tile xs a r

  there-is : (k : Account) → asked ≡ Some k → asked ≡ None → ⊥
  there-is k e n = let q : ◌≡◌ {A = Option Account} (Some k) None = sym e ∙ n in let z : ◌≡◌ {A = ℕ} 0 1 = cc in omega arith

  first-unknown : asked ≡ None → Earliest unknown-attribute
  unfolding rank
  first-unknown e = record { holds = unknown (above e); earlier = λ s l h. absurd (omega arith) }

  module _ (k : Account) (e : asked ≡ Some k) where
    covers-it : k.covered ≡ true → covered_of asked ≡ false → ⊥
    covers-it c n = never (sym c ∙ sym (ap covered_of e) ∙ n)

    keeps-it : k.kept ≡ true → kept_of asked ≡ false → ⊥
    keeps-it c n = never (sym c ∙ sym (ap kept_of e) ∙ n)

    touches-it : k.touched ≡ true → touched-of asked ≡ false → ⊥
    touches-it c n = never (sym c ∙ sym (ap touched-of e) ∙ n)

    first-uncovered : k.covered ≡ false → Earliest (no-segment k.panel)
    unfolding rank
    first-uncovered c =
        record {
          holds = uncovered (reckoned k e) c;
          earlier = none_before 1 (λ l. there-is k e) (λ l. absurd (omega arith)) (λ l. absurd (omega arith)) (λ l. absurd (omega arith)) (λ l. absurd (omega arith)) (omega arith);
        }

    first-cut : k.covered ≡ true → k.kept ≡ false → Earliest (cut-away k.panel)
    unfolding rank
    first-cut c m =
        record {
          holds = cut (reckoned k e) m;
          earlier = none_before 2 (λ l. there-is k e) (λ l. covers-it c) (λ l. absurd (omega arith)) (λ l. absurd (omega arith)) (λ l. absurd (omega arith)) (omega arith);
        }

    first-untouched : k.covered ≡ true → k.kept ≡ true → k.touched ≡ false → Earliest (row-untouched k.panel)
    unfolding rank
    first-untouched c m t =
        record {
          holds = untouched (reckoned k e) t;
          earlier = none_before 3 (λ l. there-is k e) (λ l. covers-it c) (λ l. keeps-it m) (λ l. absurd (omega arith)) (λ l. absurd (omega arith)) (omega arith);
        }

    first-hidden : tells k ≡ true → where-shown ≡ None → Earliest (hidden-for (newest-hider ts) k.panel)
    unfolding rank
    first-hidden y n =
        let (c, m, t) = told-parts k.covered k.kept k.touched y in
        record {
          holds = hidden (is_hidden k e y n);
          earlier = none_before 4 (λ l. there-is k e) (λ l. covers-it c) (λ l. keeps-it m) (λ l. touches-it t) (λ l. absurd (omega arith)) (omega arith);
        }

    first-shown : tells k ≡ true → (p : ℕ) → where-shown ≡ Some p → Earliest (shown-at p k.panel)
    unfolding rank
    first-shown y p n =
        let (c, m, t) = told-parts k.covered k.kept k.touched y in
        let (q, l) = is-listed p n in
        record {
          holds = listed (subst (λ (i : ℕ). Listed a p i (plain w v row tile xs)) (sym (listed-panel k e p q l)) l);
          earlier = none_before 5 (λ l. there-is k e) (λ l. covers-it c) (λ l. keeps-it m) (λ l. touches-it t)
              (λ l z. let q : ◌≡◌ {A = Option ℕ} (Some p) None = sym n ∙ z in let x : ◌≡◌ {A = ℕ} 0 1 = cc in omega arith) (omega arith);
        }

    first-told : tells k ≡ true → (o : Option ℕ) → where-shown ≡ o → Earliest (reason w v row tile xs a)
    first-told y None n = subst Earliest (sym (gives-hidden k e y n)) (first-hidden y n)
    first-told y (Some p) n = subst Earliest (sym (gives-shown k e y p n)) (first-shown y p n)

    first-known : Earliest (reason w v row tile xs a)
    first-known = by k.covered
        (λ c. by k.kept
        (λ m. by k.touched
        (λ t. first-told (and_both _ _ (and_both _ _ c m) t) where-shown refl)
        (λ t. subst Earliest (sym (gives-untouched k e c m t)) (first-untouched c m t)))
        (λ m. subst Earliest (sym (gives_cut k e c m)) (first-cut c m)))
        (λ c. subst Earliest (sym (gives-uncovered k e c)) (first-uncovered c))

  is-first : Earliest (reason w v row tile xs a)
  is-first = go asked refl
    where
      go : (o : Option Account) → asked ≡ o → Earliest (reason w v row tile xs a)
      go None e = subst Earliest (sym (gives-unknown e)) (first-unknown e)
      go (Some k) e = first-known k e

  -- a reason that holds, by its place in the order
  abbrev by_rank : ℕ → Reason
  by_rank zero = unknown-attribute
  by_rank (suc zero) = no-segment (panel-of asked)
  by_rank (suc (suc zero)) = cut-away (panel-of asked)
  by_rank (suc (suc (suc zero))) = row-untouched (panel-of asked)
  by_rank (suc (suc (suc (suc zero)))) = hidden-for (newest-hider ts) (panel-of asked)
  by_rank (suc (suc (suc (suc (suc n))))) = shown-at (unwrap_or where-shown 0) (panel-of asked)

  ranked : (r : Reason) → True r → r ≡ by_rank (rank r)
  unfolding rank
  ranked unknown-attribute h = refl
  ranked (no-segment q) h = ap no-segment (sym (uncovered-panel h))
  ranked (cut-away q) h = ap cut-away (sym (cut-panel h))
  ranked (row-untouched q) h = ap row-untouched (sym (untouched-panel h))
  ranked (hidden-by i b q) h =
      let x = hides-it h in
      let t = teller x.told x.at x.of in
      ap (hidden-by i b) (sym (ap panel-of t.is ∙ hidden-panel x)) ∙ ap (λ (y : Hider). hidden-for y (panel-of asked)) (sym (newest-only x.hider))
  ranked (shown-at p q) h =
      let l = lists-it h in
      let t = listed-teller p q l in
      ap (shown-at p) (sym (ap panel-of t.is ∙ shown-panel l)) ∙ ap (λ (o : Option ℕ). shown-at (unwrap_or o 0) (panel-of asked)) (sym (listed_at p q l))

  is-only : (r : Reason) → Earliest r → r ≡ reason w v row tile xs a
  is-only r f =
      let s = reason w v row tile xs a in
      by (ltb (rank r) (rank s))
      (λ y. absurd (is-first.earlier r (ltb-true (rank r) (rank s) y) f.holds))
      (λ n. by (ltb (rank s) (rank r))
      (λ y. absurd (f.earlier s (ltb-true (rank s) (rank r) y) is-first.holds))
      (λ m.
      let p = ltb-false (rank r) (rank s) n in
      let q = ltb-false (rank s) (rank r) m in
      let e : rank r ≡ rank s = omega arith in
      ranked r f.holds ∙ ap by_rank e ∙ sym (ranked s is-first.holds)))

  true-at : {r : Reason} → reason w v row tile xs a ≡ r → True r
  true-at e = subst True e is-first.holds

  exact-unknown : (reason w v row tile xs a ≡ unknown-attribute) ↔ (attributes w v row tile xs a ≤ a.attribute)
  exact-unknown = (λ e. below-it (true-at e), λ le. gives-unknown (is-unknown (unknown le)))
    where
      below-it : True unknown-attribute → attributes w v row tile xs a ≤ a.attribute
      below-it (unknown le) = le

  exact-shown : (p q : ℕ) → (reason w v row tile xs a ≡ shown-at p q) ↔ Listed a p q (plain w v row tile xs)
  exact-shown p q = (
    λ e. lists-it (true-at e),
    λ l. let t = listed-teller p q l in gives-shown t.account t.is t.does p (listed_at p q l) ∙ ap (shown-at p) (shown-panel l),
  )

  exact-hidden : (h b q : ℕ) → (reason w v row tile xs a ≡ hidden-by h b q) ↔ Hidden w v row tile xs a h b q
  exact-hidden h b q = (
    λ e. hides-it (true-at e),
    λ x.
        let t = teller x.told x.at x.of in
        gives-hidden t.account t.is t.does (unlisted-at x.gone)
        ∙ ap (λ (y : Hider). hidden-for y t.account.panel) (newest-only x.hider)
        ∙ ap (hidden-by h b) (hidden-panel x),
  )

-- the steps of a history fit one after the other, and rows compacted between them change no state
kept-fits : (w : ℕ) (v : Box) (row tile : ℕ) {xs : List Step} {s u : Screen Row} → Kept-up xs s u → (o : Story) → Stands v o s.state → Fitting w v row tile xs o
kept-fits w v row tile no_step o h = fits.no_step
kept-fits w v row tile ((then) {x = x} {s = s} e b) o h =
    let (f, k) = call-stands w v row tile row-ops x o s h e in
    fits.and_then f (kept-fits w v row tile b (tell-step w v row tile x o) k)
kept-fits w v row tile (tidied i z b) o h = kept-fits w v row tile b o h

-- the accounts of a screen built so tell what they say
fairs : (f : Frame) (xs : List Step) (u : Screen Row) → good_viewport f.viewport ≡ true → Kept-up xs (reset fresh-row f) u
    → (row tile : ℕ) (a : Asked) → All (Fair a) (accounts (bucket f) f.viewport row tile xs untold)
fairs f xs u g b row tile a =
    let v = f.viewport in
    fair a (steps-say (bucket f) v row tile (even v g) (kept-fits (bucket f) v row tile b untold (reset-stands f)) (inside-none v row))

pub told-exact : Told-exact
told-exact f xs u g b row tile a =
    let v = f.viewport in
    own (steps-say (bucket f) v row tile (even v g) (kept-fits (bucket f) v row tile b untold (reset-stands f)) (inside-none v row))
  where
    own : {ks : List Account} {ls : List Line} → Say ks ls → All TellsOwn ks
    own said = nil
    own (says {k = k} {l = l} s r) =
        cons {x = k} (record { entry = record { entry = entry_of l; id = s.id; hides = s.hides }; layer = s.layer; attribute = s.attribute; panel = s.panel; told = s.told }) (own r)

pub reason-true : Reason-true
reason-true f xs u g b row tile a =
    let h = fairs f xs u g b row tile a in
    (is-first (bucket f) f.viewport row tile xs a h, is-only (bucket f) f.viewport row tile xs a h)

pub unknown-exact : Unknown-exact
unknown-exact f xs u g b row tile a = exact-unknown (bucket f) f.viewport row tile xs a (fairs f xs u g b row tile a)

pub shown-exact : Shown-exact
shown-exact f xs u g b row tile a = exact-shown (bucket f) f.viewport row tile xs a (fairs f xs u g b row tile a)

pub hidden-exact : Hidden-exact
hidden-exact f xs u g b row tile a = exact-hidden (bucket f) f.viewport row tile xs a (fairs f xs u g b row tile a)

-- where the reason is none of shown-at, the tile's list has no entry of the attribute
pub not-shown : (f : Frame) (xs : List Step) (u : Screen Row) → good_viewport f.viewport ≡ true → Kept-up xs (reset fresh-row f) u
    → (row tile : ℕ) (a : Asked) → ((p q : ℕ) → reason (bucket f) f.viewport row tile xs a ≡ shown-at p q → ⊥) → Unlisted a (plain (bucket f) f.viewport row tile xs)
not-shown f xs u g b row tile a n = go (where-shown (bucket f) v row tile xs a h) refl
  where
    v : Box
    v = f.viewport

    h : All (Fair a) (accounts (bucket f) f.viewport row tile xs untold)
    h = fairs f xs u g b row tile a

    go : (o : Option ℕ) → where-shown (bucket f) f.viewport row tile xs a h ≡ o → Unlisted a (plain (bucket f) f.viewport row tile xs)
    go None e = is-unlisted (bucket f) f.viewport row tile xs a h e
    go (Some p) e =
        let (q, l) = is-listed (bucket f) f.viewport row tile xs a h p e in
        absurd (n p q ((exact-shown (bucket f) f.viewport row tile xs a h p q).1 l))
