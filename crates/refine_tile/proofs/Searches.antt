-- A reason read off the lines in one pass is the first that holds of the accounts that the lines say.
use Rattle.std.proofs.Common.{ℕ, ◌+◌, ◌*◌, add-zero, zero-add, arith, ◌≡◌, refl, sym, ◌∙◌, ap, subst, Bool, true, false, ◌&&◌, not, cond, Option, None, Some, List, [], ◌∷◌, ◌++◌, map, append-nil}
use Rattle.std.proofs.Common.{append_assoc, length, get_or, length-append, get_or-append-add, leb, eqb}
use mathlib.Core.Bool.{beq}
use Rattle.sizes.specs.Sizes.{line-size}
use Rattle.rules.specs.Lists.{keep}
use Rattle.rules.specs.Plain.{Told, shown}
use Rattle.rules.proofs.All.{All, nil, cons, head, tail, all_append, never}
use Rattle.rules_picture.proofs.Cases.{by}
use Rattle.rules_reason.specs.Reasons.{Reason, no-segment, cut-away, row-untouched, shown-at, Asked, Account, account-of, place_of, hider-of, newest-hider, hidden, placed, because}
use Rattle.tile.specs.Telling.{Line, standing-of, alpha-words, after-alpha, line-words, line-panel-at}
use Rattle.tile.specs.Reading.{Mark, mark_at, marks, Search, no-search, is-asked, is-told, hider-in, anew, met, one_more, read, read_all, reason-by, reason-read}
use Rattle.tile.specs.Listed.{entry_of}
use Rattle.refine_tile.specs.Retold.{tells, Says, Say, said, says, flat}
use Rattle.refine_tile.proofs.Tells.{line-length}
use Rattle.refine_tile.proofs.Numbers.{told-all, asks, Once, once}
use Rattle.refine_tile.proofs.Shows.{hiding, hiding-yes, hiding-same, shown-anew, shown-more, hider-anew, hider-more, shown-all, names, Unnamed, place-first, place_none, place-last}

-- what a reason goes by of a line
abbrev mark_of : Line → Mark
mark_of l = record { layer = cond l.layer 1 0; attribute = l.attribute; standing = l.standing; panel = l.panel }

panel-word : (l : Line) (back : List ℕ) → get_or (line-words l ++ back) line-panel-at 0 ≡ l.panel
panel-word l back = go l.alpha
  where
    go : (a : Option ℕ) → get_or ((cond l.layer 1 0 ∷ l.attribute ∷ l.standing ∷ alpha-words a (after-alpha l)) ++ back) line-panel-at 0 ≡ l.panel
    go None = refl
    go (Some n) = refl

mark-seen : (front : List ℕ) (i : ℕ) (l : Line) (back : List ℕ) → length front ≡ line-size * i → mark_at (front ++ (line-words l ++ back)) i ≡ mark_of l
unfolding mark_at
mark-seen front i l back e =
    let at : (n : ℕ) → get_or (front ++ (line-words l ++ back)) (line-size * i + n) 0 ≡ get_or (line-words l ++ back) n 0 =
    λ n. ap (λ (k : ℕ). get_or (front ++ (line-words l ++ back)) (k + n) 0) (sym e) ∙ get_or-append-add front (line-words l ++ back) n 0 in
    let first : get_or (front ++ (line-words l ++ back)) (line-size * i) 0 ≡ cond l.layer 1 0 = ap (λ (k : ℕ). get_or (front ++ (line-words l ++ back)) k 0) (sym (add-zero (line-size * i))) ∙ at 0 in
    rw (first, at 1, at 2, at line-panel-at, panel-word l back)

marks-seen : (front : List ℕ) (i : ℕ) (ls : List Line) (back : List ℕ) → length front ≡ line-size * i → marks (front ++ (flat ls ++ back)) i (length ls) ≡ map mark_of ls
unfolding marks
marks-seen front i [] back e = refl
marks-seen front i (l ∷ ls) back e =
    let words = line-words l in
    let split : front ++ ((words ++ flat ls) ++ back) ≡ front ++ (words ++ (flat ls ++ back)) = ap (λ (x : List ℕ). front ++ x) (append_assoc words (flat ls) back) in
    let shift : front ++ (words ++ (flat ls ++ back)) ≡ (front ++ words) ++ (flat ls ++ back) = sym (append_assoc front words (flat ls ++ back)) in
    let n : length (front ++ words) ≡ line-size * (i + 1) = rw (length-append, line-length l, e) (omega arith) in
    ap (λ (x : List ℕ). mark_at x i ∷ marks x (i + 1) (length ls)) split
    ∙ ap (λ (m : Mark). m ∷ marks (front ++ (words ++ (flat ls ++ back))) (i + 1) (length ls)) (mark-seen front i l (flat ls ++ back) e)
    ∙ ap (λ (x : List ℕ). mark_of l ∷ marks x (i + 1) (length ls)) shift
    ∙ ap (λ (ms : List Mark). mark_of l ∷ ms) (marks-seen (front ++ words) (i + 1) ls back n)

-- the lines from the start on
pub marks-said : (ls : List Line) (back : List ℕ) → marks (flat ls ++ back) 0 (length ls) ≡ map mark_of ls
marks-said ls back = marks-seen [] 0 ls back refl

-- a standing says whether something was told, and whether it hides
pub standing-told : (c k t h : Bool) → leb 3 (standing-of c k t h) ≡ (c && k && t)
standing-told true true true true = refl
standing-told true true true false = refl
standing-told true true false h = refl
standing-told true false t h = refl
standing-told false k t h = refl

pub standing-hides : (c k t h : Bool) → eqb (standing-of c k t h) 4 ≡ (c && k && t && h)
standing-hides true true true true = refl
standing-hides true true true false = refl
standing-hides true true false h = refl
standing-hides true false t h = refl
standing-hides false k t h = refl

asked-kind : (x y : Bool) → eqb (cond x 1 0) (cond y 1 0) ≡ beq x y
asked-kind true true = refl
asked-kind true false = refl
asked-kind false true = refl
asked-kind false false = refl

module _ (a : Asked) where
  asked-same : (k : Account) (l : Line) → Says k l → is-asked a (mark_of l) ≡ asks a k
  asked-same k l s = rw (asked-kind l.layer a.layer, s.layer, s.attribute)

  -- where an entry of the asked attribute is now
  data Where (ts : List Told) (s : Search) : Type 0 where
    in_list : s.hidden ≡ false → place_of a 0 (shown ts) ≡ Some s.place → Where ts s
    gone : s.hidden ≡ true → place_of a 0 (shown ts) ≡ None → hiding ts ≡ true → Where ts s

  -- the asked attribute's account, if it was there
  data Found : Option Account → List Told → Search → Type 0 where
    not_there : {ts : List Told} {s : Search} → s.found ≡ false → Unnamed a ts → Found None ts s
    there : {ts : List Told} {s : Search} (k : Account) (h : Bool) → s.found ≡ true → s.standing ≡ standing-of k.covered k.kept k.touched h
        → s.panel ≡ k.panel → (tells k ≡ true → Where ts s) → Found (Some k) ts s

  -- the search after the accounts js, with entries ts
  record Knows (o : Option Account) (ts : List Told) (s : Search) : Type 0 where
    count : s.count ≡ length (shown ts)
    hider : hiding ts ≡ true → s.hider ≡ newest-hider ts
    found : Found o ts s

  -- of two the first is known
  abbrev known : Option Account → Account → Option Account
  known (Some j) k = Some j
  known None k = cond (asks a k) (Some k) None

  -- an account that tells nothing
  skipped : (k : Account) (h : Bool) (m : Mark) (o : Option Account) (ts : List Told) (s : Search) → m.standing ≡ standing-of k.covered k.kept k.touched h → m.panel ≡ k.panel → tells k ≡ false
      → is-asked a m ≡ asks a k → Knows o ts s → (s.found ≡ true → asks a k ≡ false) → Knows (known o k) ts (met a m s)
  skipped k h m o ts s st pn n q w free = go o w.found
    where
      go : (p : Option Account) → Found p ts s → Knows (known p k) ts (met a m s)
      go p (there j g f e l x) =
          rw (q, free f) (record { count = w.count; hider = w.hider; found = there j g f e l x })
      go p (not_there f un) = by (asks a k)
          (λ y. rw (q, y, f) (record { count = w.count; hider = w.hider; found = there k h refl st pn (λ z. never (sym z ∙ n)) }))
          (λ z. rw (q, z) (record { count = w.count; hider = w.hider; found = not_there f un }))

  -- one that tells an entry which hides nothing
  added : (k : Account) (h : Bool) (m : Mark) (u : Told) (o : Option Account) (ts : List Told) (s : Search) → m.standing ≡ standing-of k.covered k.kept k.touched h
      → m.panel ≡ k.panel → u.hides ≡ false → names a u ≡ asks a k → is-asked a m ≡ asks a k → Knows o ts s → (s.found ≡ true → asks a k ≡ false)
      → Knows (known o k) (ts ++ (u ∷ [])) (one_more (met a m s))
  added k h m u o ts s st pn nh nm q w free =
      go o w.found
    where
      count-more : s.count + 1 ≡ length (shown (ts ++ (u ∷ [])))
      count-more = rw (shown-more ts u nh, length-append, w.count)

      hider-same : hiding (ts ++ (u ∷ [])) ≡ true → s.hider ≡ newest-hider (ts ++ (u ∷ []))
      hider-same y = let z = sym (hiding-same ts u nh) ∙ y in w.hider z ∙ sym (hider-more ts u nh z)

      stays : asks a k ≡ false → Where ts s → Where (ts ++ (u ∷ [])) (one_more s)
      stays n (in_list e p) = in_list e (rw (shown-more ts u nh) (place-first a 0 s.place (shown ts) u p))
      stays n (gone e p y) = gone e (rw (shown-more ts u nh) (place_none a 0 (shown ts) u p (nm ∙ n))) (hiding-same ts u nh ∙ y)

      new-place : Unnamed a ts → asks a k ≡ true → place_of a 0 (shown (ts ++ (u ∷ []))) ≡ Some s.count
      new-place un y = rw (shown-more ts u nh) (place-last a 0 (shown ts) u (shown-all ts un) (nm ∙ y) ∙ ap (λ (i : ℕ). Some i) (zero-add (length (shown ts)) ∙ sym w.count))

      go : (p : Option Account) → Found p ts s → Knows (known p k) (ts ++ (u ∷ [])) (one_more (met a m s))
      go p (there j g f e l x) =
          rw (q, free f) (record { count = count-more; hider = hider-same; found = there j g f e l (λ z. stays (free f) (x z)) })
      go p (not_there f un) = by (asks a k)
          (λ y. rw (q, y, f) (record { count = count-more; hider = hider-same; found = there k h refl st pn (λ z. in_list refl (new-place un y)) }))
          (λ z. rw (q, z) (record { count = count-more; hider = hider-same; found = not_there f (all_append un (cons (nm ∙ z) nil)) }))

  -- one that tells an entry which hides what came before
  begun-anew : (k : Account) (h : Bool) (m : Mark) (u : Told) (o : Option Account) (ts : List Told) (s : Search) → m.standing ≡ standing-of k.covered k.kept k.touched h
      → m.panel ≡ k.panel → u.hides ≡ true → hider-in m ≡ hider-of u → names a u ≡ asks a k → is-asked a m ≡ asks a k → Knows o ts s → (s.found ≡ true → asks a k ≡ false)
      → Knows (known o k) (ts ++ (u ∷ [])) (one_more (met a m (anew m s)))
  unfolding place_of
  begun-anew k h m u o ts s st pn yh at nm q w free =
      go o w.found
    where
      alone : ◌≡◌ {A = ℕ} 1 (length (shown (ts ++ (u ∷ []))))
      alone = rw (shown-anew ts u yh)

      newest : hiding (ts ++ (u ∷ [])) ≡ true → hider-in m ≡ newest-hider (ts ++ (u ∷ []))
      newest y = at ∙ sym (hider-anew ts u yh)

      one_place : place_of a 0 (shown (ts ++ (u ∷ []))) ≡ cond (asks a k) (Some 0) None
      one_place = rw (shown-anew ts u yh, ← nm)

      go : (p : Option Account) → Found p ts s → Knows (known p k) (ts ++ (u ∷ [])) (one_more (met a m (anew m s)))
      go p (there j g f e l x) =
          let p : place_of a 0 (shown (ts ++ (u ∷ []))) ≡ None = one_place ∙ rw (free f) in
          rw (q, free f) (record { count = alone; hider = newest; found = there j g f e l (λ z. gone f p (hiding-yes ts u yh)) })
      go p (not_there f un) = by (asks a k)
          (λ y.
          let p : place_of a 0 (shown (ts ++ (u ∷ []))) ≡ Some 0 = one_place ∙ rw y in
          rw (q, y, f) (record { count = alone; hider = newest; found = there k h refl st pn (λ z. in_list refl p) }))
          (λ z. rw (q, z) (record { count = alone; hider = newest; found = not_there f (all_append un (cons (nm ∙ z) nil)) }))

  -- a line read, by what it tells
  read-skipped : (m : Mark) (s : Search) → is-told m ≡ false → eqb m.standing 4 ≡ false → read a m s ≡ met a m s
  read-skipped m s t h = rw (t, h)

  read-added : (m : Mark) (s : Search) → is-told m ≡ true → eqb m.standing 4 ≡ false → read a m s ≡ one_more (met a m s)
  read-added m s t h = rw (t, h)

  read-hidden : (m : Mark) (s : Search) → is-told m ≡ true → eqb m.standing 4 ≡ true → read a m s ≡ one_more (met a m (anew m s))
  read-hidden m s t h = rw (t, h)

  -- one line more
  one-read : (k : Account) (l : Line) → Says k l → (o : Option Account) (ts : List Told) (s : Search) → Knows o ts s → (s.found ≡ true → asks a k ≡ false)
      → Knows (known o k) (ts ++ k.told) (read a (mark_of l) s)
  one-read k l y o ts s w free =
      let m = mark_of l in
      let u : Told = record { entry = entry_of l; id = y.id; hides = y.hides } in
      let q = asked-same k l y in
      let nm : names a u ≡ asks a k = rw (y.layer, y.attribute) in
      let told : is-told m ≡ tells k = ap (leb 3) y.standing ∙ standing-told k.covered k.kept k.touched y.hides in
      let hides : eqb l.standing 4 ≡ (tells k && y.hides) = ap (λ (n : ℕ). eqb n 4) y.standing ∙ standing-hides k.covered k.kept k.touched y.hides in
      by (tells k)
      (λ t.
      let one : k.told ≡ u ∷ [] = y.told ∙ ap (λ (b : Bool). keep b u []) t in
      by y.hides
      (λ h. so-told one (read-hidden m s (told ∙ t) (hides ∙ rw (t, h))) (begun-anew k y.hides m u o ts s y.standing y.panel h refl nm q w free))
      (λ h. so-told one (read-added m s (told ∙ t) (hides ∙ rw (t, h))) (added k y.hides m u o ts s y.standing y.panel h nm q w free)))
      (λ n.
      let empty : k.told ≡ [] = y.told ∙ ap (λ (b : Bool). keep b u []) n in
      so-told empty (read-skipped m s (told ∙ n) (hides ∙ rw n)) (rw (append-nil ts) (skipped k y.hides m o ts s y.standing y.panel n q w free)))
    where
      so-told : {t : Search} {us : List Told} → k.told ≡ us → read a (mark_of l) s ≡ t → Knows (known o k) (ts ++ us) t → Knows (known o k) (ts ++ k.told) (read a (mark_of l) s)
      so-told {us = us} e f z =
          subst (λ (xs : List Told). Knows (known o k) (ts ++ xs) (read a (mark_of l) s)) (sym e)
          (subst (λ (t : Search). Knows (known o k) (ts ++ us) t) (sym f) z)

  abbrev known-all : Option Account → List Account → Option Account
  known-all o [] = o
  known-all o (k ∷ ks) = known-all (known o k) ks

  known_some : (j : Account) (ks : List Account) → known-all (Some j) ks ≡ Some j
  known_some j [] = refl
  known_some j (k ∷ ks) = known_some j ks

  known-none : (ks : List Account) → known-all None ks ≡ account-of a ks
  unfolding account-of
  known-none [] = refl
  known-none (k ∷ ks) = by (asks a k) (λ y. rw y (known_some k ks)) (λ n. rw n (known-none ks))

  -- what was found is found, and so is what is asked about
  read_found : (m : Mark) (s : Search) → (read a m s).found ≡ true → s.found ≡ false → is-asked a m ≡ true
  read_found m s e f = by (is-asked a m) (λ y. y) (λ n. never (sym e ∙ unasked n ∙ f))
    where
      unasked : is-asked a m ≡ false → (read a m s).found ≡ s.found
      unasked n = by (is-told m)
          (λ t. by (eqb m.standing 4) (λ h. rw (n, t, h)) (λ h. rw (n, t, h)))
          (λ t. by (eqb m.standing 4) (λ h. rw (n, t, h)) (λ h. rw (n, t, h)))

  reads : {ks : List Account} {ls : List Line} → Say ks ls → Once a ks → (o : Option Account) (ts : List Told) (s : Search) → Knows o ts s
      → (s.found ≡ true → All (λ (k : Account). asks a k ≡ false) ks) → Knows (known-all o ks) (ts ++ told-all ks) (read_all a s (map mark_of ls))
  unfolding read_all
  reads said x o ts s w free = rw (append-nil ts) w
  reads (says {k = k} {l = l} {ks = ks} y r) (once f x) o ts s w free =
      let t = one-read k l y o ts s w (λ e. head (free e)) in
      let more : (read a (mark_of l) s).found ≡ true → All (λ (j : Account). asks a j ≡ false) ks =
      λ e. by s.found (λ z. tail (free z)) (λ n. f (sym (asked-same k l y) ∙ read_found (mark_of l) s e n)) in
      rw (← append_assoc ts k.told (told-all ks)) (reads r x (known o k) (ts ++ k.told) (read a (mark_of l) s) t more)

  -- after all lines: the first reason that holds
  by-standing : (c k t h : Bool) (q : ℕ) (x y : Reason) → ((c && k && t) ≡ true → x ≡ y)
      → cond (eqb (standing-of c k t h) 0) (no-segment q) (cond (eqb (standing-of c k t h) 1) (cut-away q) (cond (eqb (standing-of c k t h) 2) (row-untouched q) x))
      ≡ cond (not c) (no-segment q) (cond (not k) (cut-away q) (cond (not t) (row-untouched q) y))
  by-standing true true true true q x y f = f refl
  by-standing true true true false q x y f = f refl
  by-standing true true false h q x y f = refl
  by-standing true false t h q x y f = refl
  by-standing false k t h q x y f = refl

  where-placed : (ts : List Told) (s : Search) (q : ℕ) → (hiding ts ≡ true → s.hider ≡ newest-hider ts) → Where ts s
      → cond s.hidden (hidden s.hider q) (shown-at s.place q) ≡ placed (place_of a 0 (shown ts)) ts q
  where-placed ts s q h (in_list e p) = rw (e, p)
  where-placed ts s q h (gone e p y) = rw (e, p, h y)

  reason-knows : (o : Option Account) (ts : List Told) (s : Search) → Knows o ts s → reason-by s ≡ because a o ts
  unfolding because
  reason-knows o ts s w = go w.found
    where
      go : {p : Option Account} → Found p ts s → reason-by s ≡ because a p ts
      go (not_there f un) = rw f
      go (there k h f st pn x) = rw (f, st, pn)
          (by-standing k.covered k.kept k.touched h k.panel (cond s.hidden (hidden s.hider k.panel) (shown-at s.place k.panel)) (placed (place_of a 0 (shown ts)) ts k.panel)
          (λ y. where-placed ts s k.panel w.hider (x y)))

  pub reason-said : {ks : List Account} {ls : List Line} → Say ks ls → Once a ks → (back : List ℕ)
      → reason-read a (flat ls ++ back) (length ls) ≡ because a (account-of a ks) (told-all ks)
  unfolding reason-read shown
  reason-said {ks} {ls} y x back = rw (marks-said ls back)
      (reason-knows (known-all None ks) (told-all ks) (read_all a no-search (map mark_of ls)) (reads y x None [] no-search begun (λ e. never (sym e))) ∙ rw (known-none ks))
    where
      begun : Knows None [] no-search
      begun = record { count = refl; hider = λ e. never (sym e); found = not_there refl nil }
