-- A row that holds a list of entries as its depth fills and its commands gives, painted, what plain draw order leaves of it.
use Rattle.std.proofs.Common.{ℕ, ◌/◌, ◌<◌, ◌≡◌, refl, sym, ◌∙◌, ap, Bool, false, not, List, [], ◌∷◌, ◌++◌, map, leb}
use Rattle.rules.specs.Lists.{such, keep, some_of}
use Rattle.rules.specs.Attributes.{Attrs}
use Rattle.rules.specs.Rows.{Row}
use Rattle.rules.specs.Painting.{received, paint-row}
use Rattle.rules.specs.Plain.{Told, shown}
use Rattle.rules.proofs.All.{All, never}
use Rattle.rules_picture.proofs.Cases.{by}
use Rattle.rules_picture.proofs.Newest.{write-zero}
use Rattle.rules_picture.proofs.Shown.{Rising, hides-of, newest-hide, hider, passes, two-passes-show}
use Rattle.rules_picture.proofs.Rows.{entry-told, no-older, told-fills, told-commands, Numbered, row-received}

abbrev pub stays : Told → Bool
stays u = not u.hides

some-such : (ts : List Told) → some_of hides-of (such hides-of ts) ≡ some_of hides-of ts
some-such [] = refl
some-such (t ∷ ts) = by t.hides (λ y. rw y) (λ n. rw n (some-such ts))

no-hider : (ts : List Told) → some_of hides-of ts ≡ false → hider ts ≡ []
unfolding hider
no-hider [] e = refl
no-hider (t ∷ ts) e = by t.hides
    (λ y. never (rw y at e))
    (λ n. let q : some_of hides-of ts ≡ false = rw n at e in rw (q, n))

-- both passes look at the entries that hide apart from the others
hider-such : (ts : List Told) → hider ts ≡ hider (such hides-of ts)
unfolding hider
hider-such [] = refl
hider-such (t ∷ ts) = by t.hides
    (λ y. rw (y, some-such ts, hider-such ts))
    (λ n. rw n (by (some_of hides-of ts)
    (λ y. rw y (hider-such ts))
    (λ m. rw m (sym (no-hider ts m) ∙ hider-such ts))))

newest-such : (ts : List Told) → newest-hide ts ≡ newest-hide (such hides-of ts)
unfolding newest-hide
newest-such [] = refl
newest-such (t ∷ ts) = by t.hides
    (λ y. rw (y, newest-such ts))
    (λ n. rw n (write-zero (newest-hide ts) ∙ newest-such ts))

passes-such : (b : ℕ) (ts : List Told) → such (passes b) ts ≡ such (no-older b) (such stays ts)
passes-such b [] = refl
passes-such b (t ∷ ts) = by t.hides
    (λ y. rw y (passes-such b ts))
    (λ n. rw n (ap (λ (us : List Told). keep (leb b t.id) (record { entry = t.entry; id = t.id; hides = false }) us) (passes-such b ts)))

module _ (w : ℕ) (attrs : Attrs) (t : ℕ) where
  -- the newest depth fill over the tile's bucket, by its id, or 0
  abbrev pub newest-over : Row → ℕ
  newest-over r = newest-hide (told-fills w attrs t r.fills)

  -- what is no older than that
  abbrev pub seen : Row → List Told → List Told
  seen r ts = such (no-older (newest-over r)) ts

  -- the row holds the entries ts: those that hide as its depth fills, and as its commands those of the others that are seen
  pub record Held (ts : List Told) (r : Row) : Type 0 where
    pub hidden : such hides-of ts ≡ told-fills w attrs t r.fills
    pub open_told : seen r (such stays ts) ≡ seen r (told-commands w attrs t 0 r.commands)
    pub rising : Rising 0 ts
    pub numbered : All (Numbered w attrs t) r.fills

  -- painted to its end, it gives the tile what plain draw order leaves: all but what came before the newest entry that hides
  pub held-picture : 0 < w → (n : ℕ) → t / w < n → (ts : List Told) (r : Row) → Held ts r
      → received t (paint-row w attrs n r) ≡ map entry-told (shown ts)
  held-picture pos n on ts r h =
      let fs = told-fills w attrs t r.fills in
      let e : hider fs ++ such (no-older (newest-hide fs)) (told-commands w attrs t 0 r.commands) ≡ shown ts =
      rw (← h.open_told, ← h.hidden, ← hider-such ts, ← newest-such ts, ← passes-such (newest-hide ts) ts) (two-passes-show h.rising) in
      row-received w attrs t pos r n on h.numbered ∙ ap (map entry-told) e
