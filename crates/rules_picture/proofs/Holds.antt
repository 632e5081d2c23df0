-- What a row holds for the tile t after some steps, and how it grows with one step.
use Rattle.std.proofs.Common.{ℕ, ◌+◌, ◌/◌, ◌≤◌, ◌<◌, arith, ◌≡◌, refl, sym, ◌∙◌, ap, Bool, List, [], ◌∷◌, ◌++◌, map, append-nil, true, leb, le-leb, leb-true}
use Rattle.rules.specs.Lists.{such}
use Rattle.rules.specs.Boxes.{Box}
use Rattle.rules.specs.Spans.{covers}
use Rattle.rules.specs.Segments.{Cut}
use Rattle.rules.specs.Attributes.{Attrs}
use Rattle.rules.specs.Rows.{Row, fresh-row}
use Rattle.rules.specs.Painting.{received, paint-row}
use Rattle.rules.specs.Plain.{Told, shown, tell}
use Rattle.rules.proofs.All.{All, nil, cons, all_map, all_append, all-mapped}
use Rattle.rules_picture.proofs.Cases.{by}
use Rattle.rules_picture.proofs.Shown.{Rising, all_told, told-next, hides-of, newest-hide, newest-below, newest-last, all-such}
use Rattle.rules_picture.proofs.Held.{stays, newest-over, seen, held-picture}
use Rattle.rules_picture.proofs.Rows.{entry-told, no-older, told-fills, told-commands, Numbered}
use Rattle.rules_picture.proofs.Summed.{Summed}
use Rattle.rules_picture.proofs.Acted.{Sound, Adds, nest}
use Rattle.rules_picture.proofs.Listed.{such-append}
use Rattle.rules_picture.proofs.Single.{Single, nothing, one}

-- one more entry, newer than all
rising-append : {n : ℕ} {ts : List Told} (m : ℕ) (u : Told) → Rising n ts → All (λ (x : Told). x.id < m) ts → n < m → u.id ≡ m → Rising n (ts ++ (u ∷ []))
rising-append {n} m u all_told nil h e = let k : n < u.id = omega arith in told-next k all_told
rising-append m u (told-next k r) (cons p a) h e = told-next k (rising-append m u r a p e)

single-map : {A B : Type 0} (f : A → B) {xs : List A} → Single xs → Single (map f xs)
single-map f nothing = nothing
single-map f (one x) = one (f x)

-- what is told of cuts of which at most one covers the tile
pub single-told : (w : ℕ) (v : Box) (row t : ℕ) (l : Bool) (i q n id : ℕ) (e : Bool) (ks : List Cut) → Single (such (λ (k : Cut). covers k.stretch.tiles t) ks)
    → Single (tell w v row t l i q n id e ks)
single-told w v row t l i q n id e ks s = single-map _ s

pub told-ids : (w : ℕ) (v : Box) (row t : ℕ) (l : Bool) (i q n id : ℕ) (e : Bool) (ks : List Cut) → All (λ (u : Told). u.id ≡ id) (tell w v row t l i q n id e ks)
told-ids w v row t l i q n id e ks = all-mapped _ (λ (k : Cut). refl) (such (λ (k : Cut). covers k.stretch.tiles t) ks)

-- the older test lets all through that the newer one does
pub newer-such : (b c : ℕ) → b ≤ c → (ts : List Told) → such (no-older c) ts ≡ such (no-older c) (such (no-older b) ts)
newer-such b c h [] = refl
newer-such b c h (u ∷ ts) = by (leb c u.id)
    (λ y. let k = leb-true c u.id y in let z : leb b u.id ≡ true = le-leb b u.id (omega arith) in rw (z, y, newer-such b c h ts))
    (λ n. rw n (by (leb b u.id)
    (λ y. rw (y, n) (newer-such b c h ts))
    (λ m. rw m (newer-such b c h ts))))

-- a newer entry that hides is the newest
newest-grows : (fs : List Told) (next : ℕ) → newest-hide fs < next → {us : List Told} → Single us → All (λ (u : Told). u.id ≡ next) us
    → newest-hide fs ≤ newest-hide (fs ++ such hides-of us)
newest-grows fs next k nothing i = rw (append-nil fs) (omega arith)
newest-grows fs next k (one u) (cons e i) = by u.hides
    (λ y. let l = newest-last fs u y (omega arith) in let m : such hides-of (u ∷ []) ≡ u ∷ [] = rw y in rw (m, l) (omega arith))
    (λ n. let m : such hides-of (u ∷ []) ≡ [] = rw n in rw (m, append-nil fs) (omega arith))

module _ (w : ℕ) (attrs : Attrs) (t : ℕ) where
  -- the row holds the entries ts, whose ids are below `next`
  pub record Holds (ts : List Told) (next : ℕ) (r : Row) : Type 0 where
    pub hidden : such hides-of ts ≡ told-fills w attrs t r.fills
    pub open_told : seen w attrs t r (such stays ts) ≡ seen w attrs t r (told-commands w attrs t 0 r.commands)
    pub older : All (λ (u : Told). u.id < next) (told-commands w attrs t 0 r.commands)
    pub rising : Rising 0 ts
    pub below : All (λ (u : Told). u.id < next) ts
    pub numbered : All (Numbered w attrs t) r.fills
    pub summed : Summed w attrs r
    pub sound : Sound r

  pub holds-fresh : Holds [] 1 fresh-row
  unfolding told-commands nest
  holds-fresh = record { hidden = refl; open_told = refl; older = nil; rising = all_told; below = nil; numbered = nil; summed = nil; sound = record { nested = refl; pushed = nil } }

  -- a step that tells the tile nothing
  pub holds-still : {ts : List Told} {next m : ℕ} {r q : Row} → Holds ts next r → Adds w attrs t [] [] m r q → (later : ℕ) → next ≤ later → Holds ts later q
  holds-still {next = next} h a later le = record {
    hidden = h.hidden ∙ sym (append-nil _) ∙ sym a.fills;
    open_told = rw (a.fills ∙ append-nil _, a.commands ∙ append-nil _) h.open_told;
    older = rw (a.commands ∙ append-nil _) (all_map (λ (u : Told) (p : u.id < next). omega arith) h.older);
    rising = h.rising;
    below = all_map (λ (u : Told) (p : u.id < next). omega arith) h.below;
    numbered = a.numbered h.numbered;
    summed = a.summed h.summed;
    sound = a.sound;
  }

  rises : {ts new : List Told} {next : ℕ} → Rising 0 ts → All (λ (u : Told). u.id < next) ts → 0 < next → Single new → All (λ (u : Told). u.id ≡ next) new → Rising 0 (ts ++ new)
  rises {ts = ts} r b pos nothing a = rw (append-nil ts) r
  rises {next = next} r b pos (one u) (cons e a) = rising-append next u r b pos e

  -- what was seen is seen so far as the newer fill lets it be
  still-seen : (ts new : List Told) (r q : Row) → seen w attrs t r (such stays ts) ≡ seen w attrs t r (told-commands w attrs t 0 r.commands)
      → told-commands w attrs t 0 q.commands ≡ told-commands w attrs t 0 r.commands ++ such stays new → newest-over w attrs t r ≤ newest-over w attrs t q
      → seen w attrs t q (such stays (ts ++ new)) ≡ seen w attrs t q (told-commands w attrs t 0 q.commands)
  still-seen ts new r q e a h =
      let b = newest-over w attrs t r in
      let c = newest-over w attrs t q in
      let cs = told-commands w attrs t 0 r.commands in
      let us = such stays new in
      let same : such (no-older c) (such stays ts) ≡ such (no-older c) cs =
      newer-such b c h (such stays ts) ∙ ap (such (no-older c)) e ∙ sym (newer-such b c h cs) in
      ap (such (no-older c)) (such-append stays ts new)
      ∙ such-append (no-older c) (such stays ts) us
      ∙ ap (λ (xs : List Told). xs ++ such (no-older c) us) same
      ∙ sym (such-append (no-older c) cs us)
      ∙ ap (such (no-older c)) (sym a)

  -- the newest depth fill only gets newer
  grows : {ts new : List Told} {next m : ℕ} {r q : Row} → Holds ts next r → 0 < next → Single new → All (λ (u : Told). u.id ≡ next) new
      → Adds w attrs t (such stays new) (such hides-of new) m r q → newest-over w attrs t r ≤ newest-over w attrs t q
  grows {ts} {new} {next} {r = r} h pos s ids a =
      let fs = told-fills w attrs t r.fills in
      rw a.fills (newest-grows fs next (newest-below next fs pos (rw h.hidden at (all-such hides-of h.below))) s ids)

  -- a step that tells the tile of one entry at most, with the next id
  pub holds-told : {ts new : List Told} {next m : ℕ} {r q : Row} → Holds ts next r → 0 < next → Single new → All (λ (u : Told). u.id ≡ next) new
      → Adds w attrs t (such stays new) (such hides-of new) m r q → Holds (ts ++ new) (next + 1) q
  holds-told {ts} {new} {next} {r = r} {q = q} h pos s ids a = record {
    hidden = such-append hides-of ts new ∙ ap (λ (us : List Told). us ++ such hides-of new) h.hidden ∙ sym a.fills;
    open_told = still-seen ts new r q h.open_told a.commands (grows h pos s ids a);
    older = rw a.commands (all_append (all_map (λ (u : Told) (p : u.id < next). omega arith) h.older) (all_map (λ (u : Told) (p : u.id ≡ next). omega arith) (all-such stays ids)));
    rising = rises h.rising h.below pos s ids;
    below = all_append (all_map (λ (u : Told) (p : u.id < next). omega arith) h.below) (all_map (λ (u : Told) (p : u.id ≡ next). omega arith) ids);
    numbered = a.numbered h.numbered;
    summed = a.summed h.summed;
    sound = a.sound;
  }

  -- a row painted to its end gives the tile what plain draw order leaves of the entries it holds
  pub holds-picture : 0 < w → (n : ℕ) → t / w < n → (ts : List Told) (next : ℕ) (r : Row) → Holds ts next r
      → received t (paint-row w attrs n r) ≡ map entry-told (shown ts)
  holds-picture pos n on ts next r h =
      held-picture w attrs t pos n on ts r (record { hidden = h.hidden; open_told = h.open_told; rising = h.rising; numbered = h.numbered })
