-- The lines of recordings, written one after the other, and their totals.
use Rattle.std.proofs.Common.{◌≡◌, ℕ, zero, suc, ◌+◌, ◌*◌, ◌<◌, ◌≤◌, List, [], ◌∷◌, ◌++◌, append_assoc, append-nil, length, map, take, drop, get_or, take_all, length-take, Option, Result, Ok, Err, OnOk, sym, ap, subst, ◌∙◌, arith}
use Rattle.std.proofs.lemmas.List.{take_more, drop_more, map-append, length-map, take-append-drop}
use Rattle.std.specs.Io.KnownBytes.{Appends}
use Rattle.std.proofs.KnownBytes.{Appends-trans}
use Rattle.rules.proofs.All.{All, cons}
use Rattle.rules_figures.specs.Figures as rule
use Rattle.rules_figures.specs.Figures.{nothing, plus, total}
use Rattle.rules_figures.proofs.Totals.{total-more}
use Rattle.rules_figures.specs.Lines.{recording-line, total-line, lines-from, all-lines}
use Rattle.text_programs.specs.Failures.{Begins}
use Rattle.text_programs.proofs.Streaming.{begins_after}
use Rattle.tally.specs.declared.counts.Figures.{Figures}
use Rattle.tally.specs.Counts.{figures-of, Within}
use Rattle.run_figures.specs.Counting.{first-figures}

lines-join : (j n : ℕ) (gs hs : List rule.Figures) → n ≡ j + length gs → lines-from j (gs ++ hs) ≡ lines-from j gs ++ lines-from n hs
lines-join j n [] hs e =
    let same : j ≡ n = omega (arith, e) in
    ap (λ m. lines-from m hs) same
lines-join j n (g ∷ gs) hs e =
    ap (λ t. recording-line j g ++ t) (lines-join (suc j) n gs hs (omega (arith, e)))
    ∙ sym (append_assoc (recording-line j g) (lines-from (suc j) gs) (lines-from n hs))

-- none is more than n
pub within-nothing : Within 0 nothing
within-nothing = record { asked = omega arith; painted = omega arith; hidden = omega arith; commands = omega arith; fills = omega arith; refused = omega arith }

pub within-more : (i n : ℕ) (a b : rule.Figures) → Within (i * n) a → Within n b → Within ((i + 1) * n) (plus a b)
within-more i n a b h g =
    let e : (i + 1) * n ≡ i * n + n = omega arith in
    rw e
    (record {
      asked = omega (arith, h.asked, g.asked);
      painted = omega (arith, h.painted, g.painted);
      hidden = omega (arith, h.hidden, g.hidden);
      commands = omega (arith, h.commands, g.commands);
      fills = omega (arith, h.fills, g.fills);
      refused = omega (arith, h.refused, g.refused);
    })

-- one of those of which something holds
pub all-here : (P : rule.Figures → Type 0) (fs : List Figures) (i : ℕ) (d : Figures) → All P (map figures-of fs) → i < length fs → P (figures-of (get_or fs i d))
all-here P [] i d a h = absurd (omega arith)
all-here P (f ∷ fs) zero d (cons p a) h = p
all-here P (f ∷ fs) (suc i) d (cons p a) h = all-here P fs i d a (omega arith)

-- Of the figures fs: the first i are written, and added up; the next is f.
module _ (fs : List Figures) (i : ℕ) (d : Figures) (h : i < length fs) where
  abbrev next : rule.Figures
  next = figures-of (get_or fs i d)

  abbrev done : List rule.Figures
  done = first-figures i fs

  first-next : first-figures (i + 1) fs ≡ done ++ (next ∷ [])
  first-next = ap (map figures-of) (take_more fs i d h) ∙ map-append figures-of (take i fs) (get_or fs i d ∷ [])

  first-long : i ≡ 0 + length done
  first-long = omega (arith, length-map (take i fs) figures-of, length-take i fs, h)

  pub total-next : {t u : rule.Figures} → t ≡ total done → u ≡ plus t next → u ≡ total (first-figures (i + 1) fs)
  total-next e g = g ∙ ap (λ (x : rule.Figures). plus x next) e ∙ sym (ap total first-next ∙ total-more done next)

  pub lines-next : (a b c : Option (List ℕ)) → Appends a b (lines-from 0 done) → Appends b c (recording-line i next) → Appends a c (lines-from 0 (first-figures (i + 1) fs))
  lines-next a b c p q =
      let e : lines-from 0 (first-figures (i + 1) fs) ≡ lines-from 0 done ++ recording-line i next =
      ap (lines-from 0) first-next ∙ lines-join 0 i done (next ∷ []) first-long ∙ ap (λ t. lines-from 0 done ++ t) (append-nil (recording-line i next)) in
      subst (Appends a c) (sym e) (Appends-trans a b c _ _ p q)

  -- what is written of it ends early
  pub lines-begun : (a b c : Option (List ℕ)) → Appends a b (lines-from 0 done) → Begins b c (recording-line i next) → Begins a c (all-lines (map figures-of fs))
  lines-begun a b c p q =
      let rest = map figures-of (drop (i + 1) fs) in
      let last = total-line (total (map figures-of fs)) in
      let all : map figures-of fs ≡ done ++ (next ∷ rest) =
      ap (map figures-of) (sym (take-append-drop i fs)) ∙ map-append figures-of (take i fs) (drop i fs) ∙ ap (λ xs. done ++ map figures-of xs) (drop_more fs i d h) in
      let e : all-lines (map figures-of fs) ≡ lines-from 0 done ++ (recording-line i next ++ (lines-from (suc i) rest ++ last)) =
      ap (λ t. t ++ last) (ap (lines-from 0) all ∙ lines-join 0 i done (next ∷ rest) first-long)
      ∙ append_assoc (lines-from 0 done) (recording-line i next ++ lines-from (suc i) rest) last
      ∙ ap (λ t. lines-from 0 done ++ t) (append_assoc (recording-line i next) (lines-from (suc i) rest) last) in
      subst (Begins a c) (sym e) (begins_after a b c (lines-from 0 done) (recording-line i next) (lines-from (suc i) rest ++ last) p q)

-- all are written, and then the last line
module _ (fs : List Figures) (i : ℕ) (h : length fs ≤ i) {t : rule.Figures} (e : t ≡ total (first-figures i fs)) (a b c : Option (List ℕ)) (p : Appends a b (lines-from 0 (first-figures i fs))) where
  all-done : first-figures i fs ≡ map figures-of fs
  all-done = ap (map figures-of) (take_all i fs h)

  lines-done : Appends a b (lines-from 0 (map figures-of fs))
  lines-done = subst (λ (gs : List rule.Figures). Appends a b (lines-from 0 gs)) all-done p

  total-done : total-line t ≡ total-line (total (map figures-of fs))
  total-done = ap total-line (e ∙ ap total all-done)

  pub all-written : {E : Type 0} (r : Result (Unit {0}) E) → OnOk r (Appends b c (total-line t)) → OnOk r (Appends a c (all-lines (map figures-of fs)))
  all-written (Ok x) q = Appends-trans a b c _ _ lines-done (subst (Appends b c) total-done q)
  all-written (Err x) q = tt

  pub all-begun : Begins b c (total-line t) → Begins a c (all-lines (map figures-of fs))
  all-begun q =
      let last = total-line (total (map figures-of fs)) in
      let whole : lines-from 0 (map figures-of fs) ++ (last ++ []) ≡ all-lines (map figures-of fs) = ap (λ ts. lines-from 0 (map figures-of fs) ++ ts) (append-nil last) in
      subst (Begins a c) whole (begins_after a b c (lines-from 0 (map figures-of fs)) last [] lines-done (subst (Begins b c) total-done q))
