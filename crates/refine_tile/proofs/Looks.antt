-- One pass over the segments of a list finds what the rules say of them: whether one covers the tile, what is left of them in the row, and the one entry.
use Rattle.std.proofs.Common.{ℕ, ◌+◌, ◌-◌, ◌/◌, ◌≤◌, ◌<◌, arith, ◌≡◌, refl, sym, ◌∙◌, ap, subst, Bool, true, false, ◌&&◌, ◌||◌, not, Option, None, Some, List, [], ◌∷◌, ◌++◌, map, leb, ltb, eqb, leb-true, ltb-true, eqb-true, eq-eqb, ne_eqb}
use borrow.Author.Tests.{eqb-false}
use Rattle.rules.specs.Lists.{such, keep, some_of, is-empty, is_none, join}
use Rattle.rules.specs.Boxes.{Box, scene-tiles}
use Rattle.rules.specs.Spans.{span, covers, Stretch, shifted, moved, common, meeting, cut_at, cut_to}
use Rattle.rules.specs.Segments.{Segment, good-segment, ordered, Cut, stretch-of, cut_in, cuts}
use Rattle.rules.specs.Painting.{Entry}
use Rattle.rules.specs.Plain.{Told, tell}
use Rattle.rules.proofs.All.{All, nil, cons, head, never, and_left, and_right, and_both}
use Rattle.rules_picture.proofs.Cases.{by, covers-yes, covers_low, covers_high}
use Rattle.rules_picture.proofs.Listed.{such-append}
use Rattle.rules_picture.proofs.Single.{Single, nothing, one, single}
use Rattle.rules_reason.specs.Reasons.{covering, keeping}
use Rattle.tile.specs.Telling.{Look, no-look, is_whole, noticed, notice, cover, see, look, in_row}
use Rattle.refine_tile.proofs.Rows.{Even, row-yes}

or-false : (b : Bool) → (b || false) ≡ b
or-false true = refl
or-false false = refl

or-true : (b : Bool) → (b || true) ≡ true
or-true true = refl
or-true false = refl

or_assoc : (a b c : Bool) → ((a || b) || c) ≡ (a || (b || c))
or_assoc true b c = refl
or_assoc false b c = refl

pub and-implied : (a b : Bool) → (b ≡ true → a ≡ true) → (a && b) ≡ b
and-implied true b f = refl
and-implied false true f = f refl
and-implied false false f = refl

some-append : {A : Type 0} (p : A → Bool) (xs ys : List A) → some_of p (xs ++ ys) ≡ (some_of p xs || some_of p ys)
some-append p [] ys = refl
some-append p (x ∷ xs) ys = rw (some-append p xs ys) (sym (or_assoc (p x) (some_of p xs) (some_of p ys)))

empty-append : {A : Type 0} (xs ys : List A) → not (is-empty (xs ++ ys)) ≡ (not (is-empty xs) || not (is-empty ys))
empty-append [] ys = refl
empty-append (x ∷ xs) ys = refl

such-all : {A : Type 0} (p : A → Bool) (xs : List A) → All (λ (x : A). p x ≡ true) (such p xs)
such-all p [] = nil
such-all p (x ∷ xs) = by (p x) (λ y. rw y (cons y (such-all p xs))) (λ n. rw n (such-all p xs))

none-moved : (a : Option ℕ) (n : ℕ) → is_none (moved a n) ≡ is_none a
none-moved None n = refl
none-moved (Some a) n = refl

-- a look with another value of `covered`
abbrev covered-as : Bool → Look → Look
covered-as b k = record { covered = b; reached = k.reached; kept = k.kept; alpha = k.alpha; whole = k.whole }

module _ (w : ℕ) (v : Box) (row tile : ℕ) where
  -- what is left in the row, seen one after another
  abbrev seen : Look → List Cut → Look
  seen k [] = k
  seen k (x ∷ xs) = seen (noticed w tile k x.stretch) xs

  noticed-as : (b : Bool) (k : Look) (s : Stretch) → noticed w tile (covered-as b k) s ≡ covered-as b (noticed w tile k s)
  noticed-as b k s = by (covers s.tiles tile) (λ y. rw y) (λ n. rw n)

  seen_as : (b : Bool) (k : Look) (xs : List Cut) → seen (covered-as b k) xs ≡ covered-as b (seen k xs)
  seen_as b k [] = refl
  seen_as b k (x ∷ xs) = rw (noticed-as b k x.stretch) (seen_as b (noticed w tile k x.stretch) xs)

  seen-append : (k : Look) (xs ys : List Cut) → seen k (xs ++ ys) ≡ seen (seen k xs) ys
  seen-append k [] ys = refl
  seen-append k (x ∷ xs) ys = seen-append (noticed w tile k x.stretch) xs ys

  seen-reached : (k : Look) (xs : List Cut) → (seen k xs).reached ≡ (not (is-empty xs) || k.reached)
  seen-reached k [] = refl
  seen-reached k (x ∷ xs) =
      seen-reached (noticed w tile k x.stretch) xs
      ∙ by (covers x.stretch.tiles tile) (λ y. rw y (or-true (not (is-empty xs)))) (λ n. rw n (or-true (not (is-empty xs))))

  abbrev pub kept-cuts : List Cut → List Cut
  kept-cuts ks = such (keeping w v row tile) ks

  -- those that don't cover the tile leave what is said of it
  record Alike (j k : Look) : Type 0 where
    kept : j.kept ≡ k.kept
    alpha : j.alpha ≡ k.alpha
    whole : j.whole ≡ k.whole

  alike-noticed : (j k : Look) (s : Stretch) → covers s.tiles tile ≡ true → Alike (noticed w tile j s) (noticed w tile k s)
  alike-noticed j k s y = rw y (record { kept = refl; alpha = refl; whole = refl })

  alike-passed : (j k : Look) (s : Stretch) → covers s.tiles tile ≡ false → Alike j k → Alike (noticed w tile j s) k
  alike-passed j k s n a = rw n (record { kept = a.kept; alpha = a.alpha; whole = a.whole })

  seen-kept : (j k : Look) (xs : List Cut) → Alike j k → Alike (seen j xs) (seen k (kept-cuts xs))
  seen-kept j k [] a = a
  seen-kept j k (x ∷ xs) a =
      let ahead = noticed w tile j x.stretch in
      by (covers x.stretch.tiles tile)
      (λ y.
      subst (λ (b : Bool). Alike (seen ahead xs) (seen k (keep b x (kept-cuts xs)))) (sym y)
      (seen-kept ahead (noticed w tile k x.stretch) xs (alike-noticed j k x.stretch y)))
      (λ n.
      subst (λ (b : Bool). Alike (seen ahead xs) (seen k (keep b x (kept-cuts xs)))) (sym n)
      (seen-kept ahead k xs (alike-passed j k x.stretch n a)))

  seen-some : (k : Look) (xs : List Cut) → (seen k xs).kept ≡ (some_of (keeping w v row tile) xs || k.kept)
  seen-some k [] = refl
  seen-some k (x ∷ xs) =
      seen-some (noticed w tile k x.stretch) xs ∙ by (covers x.stretch.tiles tile) (λ y. rw y (or-true (some_of (keeping w v row tile) xs))) (λ n. rw n)

  module _ (c : Box) where
    -- what is left of a segment is nothing, or one cut of its row, in the clip box and among its tiles
    pub data Cuts (s : Segment) : List Cut → Type 0 where
      gone : Cuts s []
      left : (k : Cut) → k.row ≡ s.row - v.y0 / 4 → (v.y0 + c.y0) / 4 ≤ s.row → s.row < (v.y0 + c.y1) / 4
          → (keeping w v row tile k ≡ true → covers (span s.first s.end) (tile + v.x0 / 4) ≡ true) → Cuts s (k ∷ [])

    cut-cases : (s : Segment) → Cuts s (cut_in v (scene-tiles v c) s)
    unfolding cut_in cut_to meeting scene-tiles
    cut-cases s =
        let low = (v.x0 + c.x0) / 4 in
        let m = common (span s.first s.end) (span low ((v.x0 + c.x1) / 4)) in
        let k : Cut = record { row = s.row - v.y0 / 4; stretch = shifted (v.x0 / 4) (cut_at (stretch-of s) m) } in
        by (leb ((v.y0 + c.y0) / 4) s.row && ltb s.row ((v.y0 + c.y1) / 4))
        (λ y.
        let top = leb-true ((v.y0 + c.y0) / 4) s.row (and_left _ _ y) in
        let bottom = ltb-true s.row ((v.y0 + c.y1) / 4) (and_right (leb ((v.y0 + c.y0) / 4) s.row) _ y) in
        by (ltb m.first m.end)
        (λ z.
        rw (y, z)
        (left k refl top bottom
        (λ h.
        let p = covers_low k.stretch.tiles tile h in
        let q = covers_high k.stretch.tiles tile h in
        covers-yes (span s.first s.end) (tile + v.x0 / 4) (omega arith) (omega arith))))
        (λ n. rw (y, n) gone))
        (λ n. rw n gone)

    abbrev here_of : List Cut → List Cut
    here_of ks = such (λ (k : Cut). eqb k.row row) ks

    -- the cuts of a segment in the tile's row: all, or none if it is a segment of another row
    own_row : (s : Segment) {ks : List Cut} → Cuts s ks → eqb s.row (row + v.y0 / 4) ≡ true → here_of ks ≡ ks
    own_row s gone y = refl
    own_row s (left k e a b f) y =
        let z = eqb-true s.row (row + v.y0 / 4) y in
        rw (eq-eqb k.row row (omega arith))

    other_row : (s : Segment) {ks : List Cut} → Cuts s ks → eqb s.row (row + v.y0 / 4) ≡ false → here_of ks ≡ []
    other_row s gone n = refl
    other_row s (left k e a b f) n =
        let z = eqb-false s.row (row + v.y0 / 4) n in
        rw (ne_eqb k.row row (λ q. z (omega arith)))

    notice-seen : (s : Segment) (k : Look) {ks : List Cut} → Cuts s ks → notice w v row tile k ks ≡ seen k ks
    notice-seen s k gone = refl
    notice-seen s k (left x e a b f) = refl

    see-seen : (k : Look) (s : Segment)
        → see w v row tile c k s ≡ covered-as (k.covered || covering w v row tile s) (seen k (here_of (cut_in v (scene-tiles v c) s)))
    see-seen k s = by (eqb s.row (row + v.y0 / 4))
        (λ y.
        rw (y, own_row s (cut-cases s) y, notice-seen s (cover w v row tile k s) (cut-cases s))
        (seen_as (k.covered || covers (span s.first s.end) (tile + v.x0 / 4)) k (cut_in v (scene-tiles v c) s)))
        (λ n. rw (n, other_row s (cut-cases s) n, or-false k.covered))

    look-seen : (k : Look) (ss : List Segment)
        → look w v row tile c k ss ≡ covered-as (k.covered || some_of (covering w v row tile) ss) (seen k (here_of (cuts v c ss)))
    unfolding look cuts
    look-seen k [] = rw (or-false k.covered)
    look-seen k (s ∷ ss) =
        let own = here_of (cut_in v (scene-tiles v c) s) in
        let more = here_of (join (cut_in v (scene-tiles v c)) ss) in
        let b = k.covered || covering w v row tile s in
        rw (such-append (λ (x : Cut). eqb x.row row) (cut_in v (scene-tiles v c) s) (join (cut_in v (scene-tiles v c)) ss))
        (look-seen (see w v row tile c k s) ss
        ∙ rw (see-seen k s, seen_as b (seen k own) more, seen-append k own more, or_assoc k.covered (covering w v row tile s) (some_of (covering w v row tile) ss)))

    -- a cut that covers the tile is of a segment that covers it
    cut-covers : (s : Segment) {ks : List Cut} → Cuts s ks → some_of (keeping w v row tile) (here_of ks) ≡ true → covering w v row tile s ≡ true
    cut-covers s gone e = never (sym e)
    cut-covers s (left k q a b f) e = by (eqb s.row (row + v.y0 / 4))
        (λ y.
        let same = own_row s (left k q a b f) y in
        let g : (keeping w v row tile k || false) ≡ true = rw same at e in
        and_both _ _ y (f (sym (or-false (keeping w v row tile k)) ∙ g)))
        (λ n. let None = other_row s (left k q a b f) n in never (sym (rw None at e)))

    pub kept-covered : (ss : List Segment) → some_of (keeping w v row tile) (here_of (cuts v c ss)) ≡ true → some_of (covering w v row tile) ss ≡ true
    unfolding cuts
    kept-covered [] e = e
    kept-covered (s ∷ ss) e =
        let own = here_of (cut_in v (scene-tiles v c) s) in
        let more = here_of (join (cut_in v (scene-tiles v c)) ss) in
        let both = such-append (λ (x : Cut). eqb x.row row) (cut_in v (scene-tiles v c) s) (join (cut_in v (scene-tiles v c)) ss) in
        let g : (some_of (keeping w v row tile) own || some_of (keeping w v row tile) more) ≡ true =
        sym (ap (λ (ks : List Cut). some_of (keeping w v row tile) ks) both ∙ some-append (keeping w v row tile) own more) ∙ e in
        by (some_of (keeping w v row tile) own)
        (λ y. rw (cut-covers s (cut-cases s) y))
        (λ n. let k : some_of (keeping w v row tile) more ≡ true = rw n at g in rw (kept-covered ss k) (or-true (covering w v row tile s)))

    -- what is left in the row lies in the clip box
    cut_inside : Even v → (s : Segment) {ks : List Cut} → Cuts s ks → not (is-empty (here_of ks)) ≡ true → in_row c row ≡ true
    cut_inside ev s gone e = never (sym e)
    cut_inside ev s (left k q a b f) e = by (eqb s.row (row + v.y0 / 4))
        (λ y.
        let z = eqb-true s.row (row + v.y0 / 4) y in
        let t = ev.top in
        row-yes c row (omega arith) (omega arith))
        (λ n. let None = other_row s (left k q a b f) n in never (sym (rw None at e)))

    pub reached-inside : Even v → (ss : List Segment) → not (is-empty (here_of (cuts v c ss))) ≡ true → in_row c row ≡ true
    unfolding cuts
    reached-inside ev [] e = never (sym e)
    reached-inside ev (s ∷ ss) e =
        let own = here_of (cut_in v (scene-tiles v c) s) in
        let more = here_of (join (cut_in v (scene-tiles v c)) ss) in
        let both = such-append (λ (x : Cut). eqb x.row row) (cut_in v (scene-tiles v c) s) (join (cut_in v (scene-tiles v c)) ss) in
        let g : (not (is-empty own) || not (is-empty more)) ≡ true = sym (ap (λ (ks : List Cut). not (is-empty ks)) both ∙ empty-append own more) ∙ e in
        by (not (is-empty own))
        (λ y. cut_inside ev s (cut-cases s) y)
        (λ n. let k : not (is-empty more) ≡ true = rw n at g in reached-inside ev ss k)

    -- an entry of attribute i of panel q, with an alpha index
    abbrev entry-with : Bool → ℕ → ℕ → ℕ → Option ℕ → Entry
    entry-with l i q n a = record { layer = l; attribute = i; alpha = a; nesting = n; panel = q }

    -- the entry of the one cut that covers the tile, as the look k has it
    abbrev pub told_of : Bool → ℕ → ℕ → ℕ → ℕ → Bool → Look → Told
    told_of l i q n id e k =
        record { entry = entry-with l i q n k.alpha; id = id; hides = e && is_none k.alpha && k.whole }

    told-seen : (l : Bool) (i q n id : ℕ) (e : Bool) (ks : List Cut) → Single (kept-cuts ks)
        → tell w v row tile l i q n id e ks ≡ keep (some_of (keeping w v row tile) ks) (told_of l i q n id e (seen no-look ks)) []
    told-seen l i q n id e ks s =
        let a = seen-kept no-look no-look ks (record { kept = refl; alpha = refl; whole = refl }) in
        let k = sym (seen-some no-look ks ∙ or-false (some_of (keeping w v row tile) ks)) in
        go (kept-cuts ks) s (such-all (keeping w v row tile) ks) (k ∙ a.kept) a.alpha a.whole
      where
        go : (xs : List Cut) → Single xs → All (λ (x : Cut). keeping w v row tile x ≡ true) xs
            → some_of (keeping w v row tile) ks ≡ (seen no-look xs).kept → (seen no-look ks).alpha ≡ (seen no-look xs).alpha → (seen no-look ks).whole ≡ (seen no-look xs).whole
            → map
            (λ (k : Cut). record {
              entry = entry-with l i q n (moved k.stretch.alpha (tile - k.stretch.tiles.first));
              id = id;
              hides = e && is_none k.stretch.alpha && is_whole w tile k.stretch.tiles;
            })
            xs
            ≡ keep (some_of (keeping w v row tile) ks) (told_of l i q n id e (seen no-look ks)) []
        go xs nothing a k p h = rw k
        go xs (one x) a k p h = let y = head a in rw (k, p, h, y, none-moved x.stretch.alpha (tile - x.stretch.tiles.first))

    -- the look over a judged list, and what the rules say
    pub record Looked (ss : List Segment) (k : Look) : Type 0 where
      pub covered : k.covered ≡ some_of (covering w v row tile) ss
      pub reached : k.reached ≡ not (is-empty (here_of (cuts v c ss)))
      pub kept : k.kept ≡ some_of (keeping w v row tile) (here_of (cuts v c ss))
      pub told : (l : Bool) (i q n id : ℕ) (e : Bool) → tell w v row tile l i q n id e (here_of (cuts v c ss)) ≡ keep (k.covered && k.kept) (told_of l i q n id e k) []

    pub looked : (ss : List Segment) → All (λ (s : Segment). good-segment s ≡ true) ss → ordered ss ≡ true → Looked ss (look w v row tile c no-look ss)
    looked ss g o =
        let ks = here_of (cuts v c ss) in
        let e = look-seen no-look ss in
        let kept : (look w v row tile c no-look ss).kept ≡ some_of (keeping w v row tile) ks = rw e (seen-some no-look ks ∙ or-false (some_of (keeping w v row tile) ks)) in
        record {
          covered = rw e;
          reached = rw e (seen-reached no-look ks ∙ or-false (not (is-empty ks)));
          kept = kept;
          told = λ l i q n id f. rw e
              (told-seen l i q n id f ks (single v c row tile ss g o)
              ∙ rw (and-implied (some_of (covering w v row tile) ss) (seen no-look ks).kept (λ y. kept-covered ss (sym (seen-some no-look ks ∙ or-false (some_of (keeping w v row tile) ks)) ∙ y)), seen-some no-look ks, or-false (some_of (keeping w v row tile) ks)));
        }
