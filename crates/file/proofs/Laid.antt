-- The sections that the rules find after the head are those of the layout; and what the code has found so far.
use Rattle.std.proofs.Common.{ℕ, ◌+◌, ◌-◌, ◌*◌, ◌≤◌, ◌<◌, add-one, arith, ◌≡◌, refl, sym, ap, ◌∙◌, Bool, true, false, ◌&&◌, cond, List, [], ◌∷◌, ◌++◌, append_assoc, append-nil, Option, None, Some}
use Rattle.std.proofs.Common.{option_map, Result, Ok, Err, length, get_or, drop, length-drop, drop-cons, drop-drop, leb, ltb, eqb, lt-ltb, eq-eqb, ne_eqb, ltb-true, ltb-false, leb-true, eqb-true}
use lib.Seq.{drop-length}
use Rattle.sizes.specs.Editions.{draw-size, layer-size}
use Rattle.sizes.specs.declared.edition.Edition.{Edition}
use Rattle.rules.specs.Recording.{shape, head, starts, good-count, records, sections, in-edition, parsed}
use Rattle.file.specs.declared.form.Section.{Section}
use Rattle.file.specs.declared.form.Layout.{Layout}
use Rattle.sizes.specs.declared.answers.Refusal.{Refusal}
use Rattle.sizes.specs.declared.answers.Refusal.TheVariants.{BadForm}
use Rattle.rules.proofs.All.{both}
use Rattle.file.specs.Layouts.{section_from, past, stands, found_if, section_at, laid, layout_of, layout, formed, form_of, cut, sections_at, Within, Fits}

-- every section stands, and the words end there
unfoldable pub fits : List (ℕ × Bool) → List ℕ → ℕ → Bool
fits [] ws p = eqb p (length ws)
fits (s ∷ ss) ws p = stands s.0 s.1 ws p && fits ss ws (past s.0 (section_from ws p))

-- the records of each
cuts : List (ℕ × Bool) → List ℕ → List Section → List (List (List ℕ))
cuts [] ws xs = []
cuts (s ∷ ss) ws [] = []
cuts (s ∷ ss) ws (x ∷ xs) = cut s.0 ws x ∷ cuts ss ws xs

abbrev whole : List (ℕ × Bool) → List ℕ → ℕ → Option (List (List (List ℕ)))
whole ss ws p = cond (fits ss ws p) (Some (cuts ss ws (laid ss ws p))) None

picked : (t : Bool) (x y : Option (List (List (List ℕ)))) → elim t [ true ↦ x | false ↦ y ] ≡ cond t x y
picked true x y = refl
picked false x y = refl

-- one section, by the tests of its count and its room
module _ (k : ℕ) (fixed : Bool) (ss : List (ℕ × Bool)) (ws : List ℕ) (p : ℕ) where
  abbrev count : ℕ
  count = get_or ws p 0

  counted : p < length ws → drop p ws ≡ count ∷ drop (p + 1) ws
  counted h = rw (add-one p) (drop-cons ws p 0 h)

  opened : sections ((k, fixed) ∷ ss) (count ∷ drop (p + 1) ws)
      ≡ cond (good-count fixed count && leb (count * k) (length (drop (p + 1) ws)))
      (option_map (λ xs. records k count (drop (p + 1) ws) ∷ xs) (sections ss (drop (count * k) (drop (p + 1) ws)))) None
  unfolding sections
  opened = picked (good-count fixed count && leb (count * k) (length (drop (p + 1) ws))) _ _

  -- the sections from here on: this one, then the rest, if it stands
  here : p < length ws
      → sections ((k, fixed) ∷ ss) (drop p ws)
      ≡ cond (good-count fixed count && leb (count * k) (length ws - (p + 1)))
      (option_map (λ xs. cut k ws (section_from ws p) ∷ xs) (sections ss (drop (past k (section_from ws p)) ws))) None
  here h = rw (counted h, opened, length-drop (p + 1) ws, drop-drop (count * k) (p + 1) ws)

-- the sections of a shape from place p on are those laid there, or none
module _ (ws : List ℕ) where
  by_end : (p : ℕ) (t : Bool) → p ≤ length ws → ltb p (length ws) ≡ t → sections [] (drop p ws) ≡ whole [] ws p
  unfolding sections fits cuts
  by_end p true h q =
      let l = ltb-true p (length ws) q in
      rw (counted 0 true [] ws p l, ne_eqb p (length ws) (λ e. omega arith))
  by_end p false h q =
      let e : p ≡ length ws = omega (arith, ltb-false p (length ws) q) in
      rw (e, drop-length ws, eq-eqb (length ws) (length ws) refl)

  consed : (t : Bool) (x : List (List ℕ)) (xs : List (List (List ℕ)))
      → option_map (λ ys. x ∷ ys) (cond t (Some xs) None) ≡ cond t (Some (x ∷ xs)) None
  consed true x xs = refl
  consed false x xs = refl

  module _ (k : ℕ) (fixed : Bool) (ss : List (ℕ × Bool)) (p : ℕ) where
    abbrev room : Bool
    room = good-count fixed (get_or ws p 0) && leb (get_or ws p 0 * k) (length ws - (p + 1))

    ends : room ≡ true → p < length ws → past k (section_from ws p) ≤ length ws
    ends q h =
        let e = both (good-count fixed (get_or ws p 0)) (leb (get_or ws p 0 * k) (length ws - (p + 1))) q in
        omega (arith, leb-true (get_or ws p 0 * k) (length ws - (p + 1)) e.1)

    by-room : (t : Bool) → p < length ws → room ≡ t
        → (past k (section_from ws p) ≤ length ws → sections ss (drop (past k (section_from ws p)) ws) ≡ whole ss ws (past k (section_from ws p)))
        → sections ((k, fixed) ∷ ss) (drop p ws) ≡ whole ((k, fixed) ∷ ss) ws p
    unfolding fits cuts stands
    by-room true h q more =
        rw (here k fixed ss ws p h, lt-ltb p (length ws) h, q, more (ends q h))
        (consed (fits ss ws (past k (section_from ws p))) _ _)
    by-room false h q more = rw (here k fixed ss ws p h, lt-ltb p (length ws) h, q)

    by_place : (t : Bool) → p ≤ length ws → ltb p (length ws) ≡ t
        → (past k (section_from ws p) ≤ length ws → sections ss (drop (past k (section_from ws p)) ws) ≡ whole ss ws (past k (section_from ws p)))
        → sections ((k, fixed) ∷ ss) (drop p ws) ≡ whole ((k, fixed) ∷ ss) ws p
    unfolding fits cuts stands sections
    by_place true h q more = by-room _ (ltb-true p (length ws) q) refl more
    by_place false h q more =
        let e : p ≡ length ws = omega (arith, ltb-false p (length ws) q) in
        rw (q, ap (λ (n : ℕ). drop n ws) e ∙ drop-length ws)

  agree : (ss : List (ℕ × Bool)) (p : ℕ) → p ≤ length ws → sections ss (drop p ws) ≡ whole ss ws p
  agree [] p h = by_end p _ h refl
  agree (s ∷ ss) p h = by_place s.0 s.1 ss p _ h refl (agree ss (past s.0 (section_from ws p)))

starts-long : (hs ws : List ℕ) → starts hs ws ≡ true → length hs ≤ length ws
starts-long [] ws q = omega arith
starts-long (h ∷ hs) [] q = absurd (never q)
  where
    never : (false ≡ true) → ⊥
    never z = let y : ◌≡◌ {A = ℕ} 0 1 = ap (λ (b : Bool). cond b 1 0) z in omega arith
starts-long (h ∷ hs) (w ∷ ws) q = let more = starts-long hs ws (both (eqb w h) (starts hs ws) q).1 in omega arith

-- where the words do not start with the head, there are no sections
module _ (e : Edition) (ws : List ℕ) where
  abbrev first : ℕ
  first = length (head e)

  headless : starts (head e) ws ≡ false → parsed (in-edition e ws) ≡ None
  unfolding parsed
  headless q = rw q

  pub unheaded : starts (head e) ws ≡ false → Err BadForm ≡ form_of e ws
  unfolding form_of
  unheaded q = rw (headless q)

  module _ (h : starts (head e) ws ≡ true) where
    all : parsed (in-edition e ws) ≡ whole (shape e) ws first
    unfolding parsed
    all = rw (h, agree ws (shape e) first (starts-long (head e) ws h))

    by_fits : (t : Bool) → fits (shape e) ws first ≡ t → form_of e ws ≡ cond t (Ok (layout e ws)) (Err BadForm)
    unfolding form_of
    by_fits true q = rw (all, q)
    by_fits false q = rw (all, q)

found-yes : (t : Bool) (s x : Section) (n m : ℕ) → Ok (s, n) ≡ found_if t x m → (t ≡ true) × ((s ≡ x) × (n ≡ m))
found-yes true s x n m e = let p : (s, n) ≡ (x, m) = cc in (refl, (ap (λ (q : Section × ℕ). q.0) p, ap (λ (q : Section × ℕ). q.1) p))
found-yes false s x n m e = let z : ◌≡◌ {A = ℕ} 0 1 = cc in absurd (omega arith)

found-no : {r : Refusal} (t : Bool) (x : Section) (m : ℕ) → Err r ≡ found_if t x m → (t ≡ false) × (r ≡ BadForm)
found-no true x m e = let z : ◌≡◌ {A = ℕ} 0 1 = cc in absurd (omega arith)
found-no false x m e = (refl, cc)

-- what is found so far: the sections xs; the shape ss is still to come at place n
pub record Upto (e : Edition) (ws : List ℕ) (ss : List (ℕ × Bool)) (xs : List Section) (n : ℕ) : Type 0 where
  pub headed : starts (head e) ws ≡ true
  pub same : fits (shape e) ws (length (head e)) ≡ fits ss ws n
  pub places : laid (shape e) ws (length (head e)) ≡ xs ++ laid ss ws n

pub begin : (e : Edition) (ws : List ℕ) → starts (head e) ws ≡ true → Upto e ws (shape e) [] (length (head e))
begin e ws h = record { headed = h; same = refl; places = refl }

module _ {e : Edition} {ws : List ℕ} {k : ℕ} {fixed : Bool} {ss : List (ℕ × Bool)} {xs : List Section} {p : ℕ} (u : Upto e ws ((k, fixed) ∷ ss) xs p) where
  pub more : {s : Section} {n : ℕ} → Ok (s, n) ≡ section_at k fixed ws p → Upto e ws ss (xs ++ (s ∷ [])) n
  unfolding fits
  more {s} {n} g =
      let f = found-yes (stands k fixed ws p) _ _ _ _ g in
      record {
        headed = u.headed;
        same = u.same ∙ rw (f.0, ← f.1.1);
        places = u.places ∙ rw (append_assoc, ← f.1.0, ← f.1.1);
      }

  pub lacking : {r : Refusal} → Err r ≡ section_at k fixed ws p → Err r ≡ form_of e ws
  unfolding fits
  lacking g =
      let f = found-no (stands k fixed ws p) _ _ g in
      rw f.1 (sym (by_fits e ws u.headed false (u.same ∙ rw f.0)))

module _ {e : Edition} {ws : List ℕ} {xs : List Section} {n : ℕ} (u : Upto e ws [] xs n) where
  pub longer : (length ws ≡ n → ⊥) → Err BadForm ≡ form_of e ws
  unfolding fits
  longer h = sym (by_fits e ws u.headed false (u.same ∙ ne_eqb n (length ws) (λ g. h (sym g))))

  pub exact : length ws ≡ n → Ok (layout_of e xs) ≡ form_of e ws
  unfolding fits layout
  exact h =
      sym
      (by_fits e ws u.headed true (u.same ∙ eq-eqb n (length ws) (sym h))
      ∙ ap (λ (l : List Section). Ok (layout_of e l)) (u.places ∙ append-nil xs))

no-sections : {r : Refusal} (o : Option (List (List (List ℕ)))) (l : Layout) → Err r ≡ formed o l → (r ≡ BadForm) × (o ≡ None)
no-sections None l e = (cc, refl)
no-sections (Some xs) l e = let z : ◌≡◌ {A = ℕ} 0 1 = cc in absurd (omega arith)

-- what callers learn: the sections are those of the layout, and each lies within the words
pub record GoodForm (e : Edition) (ws : List ℕ) (l : Layout) : Type 0 where
  pub same : parsed (in-edition e ws) ≡ Some (sections_at l ws)
  pub fits : Fits ws l

few : (fixed : Bool) (n : ℕ) → good-count fixed n ≡ true → n ≤ 4096
few true n q = let e = eqb-true n 1 q in omega arith
few false n q = leb-true n 4096 q

module _ (ws : List ℕ) where
  within : (k : ℕ) (fixed : Bool) (p : ℕ) → stands k fixed ws p ≡ true → Within ws k (section_from ws p)
  unfolding stands
  within k fixed p q =
      let n = get_or ws p 0 in
      let h = both (ltb p (length ws)) (room ws k fixed [] p) q in
      let g = both (good-count fixed n) (leb (n * k) (length ws - (p + 1))) h.1 in
      record { ends = ends ws k fixed [] p h.1 (ltb-true p (length ws) h.0); few = few fixed n g.0 }

  single : (k p : ℕ) → stands k true ws p ≡ true → get_or ws p 0 ≡ 1
  unfolding stands
  single k p q =
      let n = get_or ws p 0 in
      let h = both (ltb p (length ws)) (room ws k true [] p) q in
      let g = both (eqb n 1) (leb (n * k) (length ws - (p + 1))) h.1 in
      eqb-true n 1 g.0

module _ (e : Edition) (ws : List ℕ) (h : starts (head e) ws ≡ true) where
  fitting : fits (shape e) ws (first e ws) ≡ true → GoodForm e ws (layout e ws)
  unfolding fits cuts layout sections_at
  fitting q =
      let v = both (stands 4 true ws (first e ws)) _ q in
      let p = both (stands 4 false ws _) _ v.1 in
      let s = both (stands 5 false ws _) _ p.1 in
      let d = both (stands (draw-size e) false ws _) _ s.1 in
      let y = both (stands (layer-size e) false ws _) _ d.1 in
      let n = both (stands 3 false ws _) _ y.1 in
      let r = both (stands 2 true ws _) _ n.1 in
      record {
        same = all e ws h ∙ rw q;
        fits =
            record {
              viewport = within ws 4 true _ v.0;
              paints = within ws 4 false _ p.0;
              segments = within ws 5 false _ s.0;
              draws = within ws (draw-size e) false _ d.0;
              layers = within ws (layer-size e) false _ y.0;
              nodes = within ws 3 false _ n.0;
              root = within ws 2 true _ r.0;
              one-viewport = single ws 4 _ v.0;
              one-root = single ws 2 _ r.0;
            };
      }

  by_form : (t : Bool) → fits (shape e) ws (first e ws) ≡ t → (l : Layout) → Ok l ≡ cond t (Ok (layout e ws)) (Err BadForm) → GoodForm e ws l
  by_form true q l g =
      let same : l ≡ layout e ws = cc in
      rw same (fitting q)
  by_form false q l g = let z : ◌≡◌ {A = ℕ} 0 1 = cc in absurd (omega arith)

  good_headed : (l : Layout) → Ok l ≡ form_of e ws → GoodForm e ws l
  good_headed l g = by_form _ refl l (g ∙ by_fits e ws h _ refl)

module _ (e : Edition) (ws : List ℕ) where
  by_head : (t : Bool) → starts (head e) ws ≡ t → (l : Layout) → Ok l ≡ form_of e ws → GoodForm e ws l
  by_head true q l g = good_headed e ws q l g
  by_head false q l g =
      let y : ◌≡◌ {A = Result Layout Refusal} (Ok l) (Err BadForm) = g ∙ sym (unheaded e ws q) in
      let z : ◌≡◌ {A = ℕ} 0 1 = cc in
      absurd (omega arith)

  pub good-form : (l : Layout) → Ok l ≡ form_of e ws → GoodForm e ws l
  good-form l g = by_head _ refl l g

  pub bad-form : {r : Refusal} → Err r ≡ form_of e ws → (r ≡ BadForm) × (parsed (in-edition e ws) ≡ None)
  unfolding form_of
  bad-form g = no-sections (parsed (in-edition e ws)) (layout e ws) g
