-- The lines that were told of a tile are read back, and those that are listed say the tile's list.
use Rattle.std.proofs.Common.{ℕ, ◌+◌, ◌*◌, add-zero, arith, ◌≡◌, refl, sym, ◌∙◌, ap, Bool, true, false, cond, Option, None, Some, List, [], ◌∷◌, ◌++◌, map}
use Rattle.std.proofs.Common.{append_assoc, length, get_or, drop, length-append, get_or-append-add, eqb}
use Rattle.sizes.specs.Sizes.{line-size}
use Rattle.rules.specs.Lists.{some_of, such}
use Rattle.rules.specs.Boxes.{Box}
use Rattle.rules.specs.Plans.{Step}
use Rattle.rules.specs.Painting.{Entry}
use Rattle.rules.specs.Plain.{Told, shown, plain}
use Rattle.rules_picture.proofs.Cases.{by}
use Rattle.rules_picture.proofs.Shown.{hides-of}
use Rattle.rules_picture.proofs.Picture.{all_shown}
use Rattle.rules_reason.specs.Reasons.{Account}
use Rattle.tile.specs.Telling.{Telling, Line, standing-of, line-words}
use Rattle.tile.specs.Standings.{plain_standing}
use Rattle.tile.specs.Listed.{alpha-read, line_at, lines-from, was-told, line-hides, listed-lines, entry_of, entries-read}
use Rattle.refine_tile.specs.Retold.{tells, Says, Say, said, says, flat, Retold}
use Rattle.refine_tile.proofs.Lines.{say-length}
use Rattle.refine_tile.proofs.Tells.{line-length}
use Rattle.refine_tile.proofs.Numbers.{told-all, accounts-told}
use Rattle.refine_tile.proofs.Searches.{standing-told, standing-hides}

-- a standing is one of five
standing-plain : (c k t h : Bool) → plain_standing (standing-of c k t h) ≡ standing-of c k t h
standing-plain true true true true = refl
standing-plain true true true false = refl
standing-plain true true false h = refl
standing-plain true false t h = refl
standing-plain false k t h = refl

layer-word : (b : Bool) → eqb (cond b 1 0) 1 ≡ b
layer-word true = refl
layer-word false = refl

-- the words of a line, with others behind them
abbrev word-of : Line → List ℕ → ℕ → ℕ
word-of l back n = get_or (line-words l ++ back) n 0

-- those past the standing
record Tail (l : Line) (back : List ℕ) : Type 0 where
  alpha : alpha-read (word-of l back 3) (word-of l back 4) ≡ l.alpha
  nesting : word-of l back 5 ≡ l.nesting
  panel : word-of l back 6 ≡ l.panel

tail-words : (l : Line) (back : List ℕ) → Tail l back
tail-words l back = go l.alpha refl
  where
    go : (a : Option ℕ) → l.alpha ≡ a → Tail l back
    go None e = record { alpha = rw e; nesting = rw e; panel = rw e }
    go (Some n) e = record { alpha = rw e; nesting = rw e; panel = rw e }

line-seen : (front : List ℕ) (i : ℕ) (k : Account) (l : Line) (back : List ℕ) → Says k l → length front ≡ line-size * i → line_at (front ++ (line-words l ++ back)) i ≡ l
unfolding line_at
line-seen front i k l back s e =
    let at : (n : ℕ) → get_or (front ++ (line-words l ++ back)) (line-size * i + n) 0 ≡ word-of l back n =
    λ n. ap (λ (k : ℕ). get_or (front ++ (line-words l ++ back)) (k + n) 0) (sym e) ∙ get_or-append-add front (line-words l ++ back) n 0 in
    let first : get_or (front ++ (line-words l ++ back)) (line-size * i) 0 ≡ cond l.layer 1 0 = ap (λ (k : ℕ). get_or (front ++ (line-words l ++ back)) k 0) (sym (add-zero (line-size * i))) ∙ at 0 in
    let t = tail-words l back in
    let st : plain_standing l.standing ≡ l.standing = rw s.standing (standing-plain k.covered k.kept k.touched s.hides) in
    rw (first, at 1, at 2, at 3, at 4, at 5, at 6, t.alpha, t.nesting, t.panel, layer-word l.layer, st)

lines-seen : (front : List ℕ) (i : ℕ) {ks : List Account} {ls : List Line} (back : List ℕ) → Say ks ls → length front ≡ line-size * i
    → lines-from (front ++ (flat ls ++ back)) i (length ls) ≡ ls
unfolding lines-from
lines-seen front i back said e = refl
lines-seen front i back (says {k = k} {l = l} {ks = ks} {ls = ls} s r) e =
    let words = line-words l in
    let split : front ++ ((words ++ flat ls) ++ back) ≡ front ++ (words ++ (flat ls ++ back)) = ap (λ (x : List ℕ). front ++ x) (append_assoc words (flat ls) back) in
    let shift : front ++ (words ++ (flat ls ++ back)) ≡ (front ++ words) ++ (flat ls ++ back) = sym (append_assoc front words (flat ls ++ back)) in
    let n : length (front ++ words) ≡ line-size * (i + 1) = rw (length-append, line-length l, e) (omega arith) in
    ap (λ (x : List ℕ). line_at x i ∷ lines-from x (i + 1) (length ls)) split
    ∙ ap (λ (m : Line). m ∷ lines-from (front ++ (words ++ (flat ls ++ back))) (i + 1) (length ls)) (line-seen front i k l (flat ls ++ back) s e)
    ∙ ap (λ (x : List ℕ). l ∷ lines-from x (i + 1) (length ls)) shift
    ∙ ap (λ (ms : List Line). l ∷ ms) (lines-seen (front ++ words) (i + 1) back r n)

-- lines that say accounts, read back from the start on
pub lines-said : {ks : List Account} {ls : List Line} (back : List ℕ) → Say ks ls → lines-from (flat ls ++ back) 0 (length ls) ≡ ls
lines-said back s = lines-seen [] 0 back s refl

abbrev entry-in : Told → Entry
entry-in t = t.entry

-- some entry hides exactly if some line does
hides-said : {ks : List Account} {ls : List Line} → Say ks ls → some_of hides-of (told-all ks) ≡ some_of line-hides ls
hides-said said = refl
hides-said (says {k = k} {l = l} {ks = ks} {ls = ls} s r) =
    by (tells k)
    (λ y. rw (s.told, s.standing, standing-hides k.covered k.kept k.touched s.hides, y, hides-said r))
    (λ n. rw (s.told, s.standing, standing-hides k.covered k.kept k.touched s.hides, n, hides-said r))

-- what is told, all of it
all-said : {ks : List Account} {ls : List Line} → Say ks ls → map entry-in (told-all ks) ≡ map entry_of (such was-told ls)
all-said said = refl
all-said (says {k = k} {l = l} {ks = ks} {ls = ls} s r) =
    by (tells k)
    (λ y. rw (s.told, s.standing, standing-told k.covered k.kept k.touched s.hides, y, all-said r))
    (λ n. rw (s.told, s.standing, standing-told k.covered k.kept k.touched s.hides, n, all-said r))

shown-said : {ks : List Account} {ls : List Line} → Say ks ls → map entry-in (shown (told-all ks)) ≡ map entry_of (listed-lines ls)
unfolding shown listed-lines
shown-said said = refl
shown-said (says {k = k} {l = l} {ks = ks} {ls = ls} s r) =
    by (some_of line-hides ls)
    (λ z.
    let h = hides-said r ∙ z in
    by (tells k)
    (λ y. rw (s.told, y, h, z, shown-said r))
    (λ n. rw (s.told, n, z, shown-said r)))
    (λ z.
    let h = hides-said r ∙ z in
    by (tells k)
    (λ y. rw (s.told, s.standing, standing-told k.covered k.kept k.touched s.hides, y, h, z, all-said r))
    (λ n. rw (s.told, s.standing, standing-told k.covered k.kept k.touched s.hides, n, z) (ap (map entry-in) (all_shown (told-all ks) h) ∙ all-said r)))

-- of steps that were retold, the entries that are read off the lines are the tile's list
pub entries-plain : (w : ℕ) (v : Box) (row tile : ℕ) (xs : List Step) (ws : List ℕ) (t : Telling) → Retold w v row tile xs ws t
    → entries-read t.lines (t.paints + t.layers) ≡ plain w v row tile xs
unfolding plain
entries-plain w v row tile xs ws t h =
    let n : t.paints + t.layers ≡ length h.all_said = h.count ∙ sym (say-length h.say) in
    rw (h.lines, n, lines-said (drop (line-size * length h.all_said) ws) h.say, accounts-told w v row tile xs) (sym (shown-said h.say))
