-- The lines of pieces that entries were laid as are the entries' lines.
use Rattle.std.proofs.Common.{◌≡◌, ℕ, zero, suc, ◌+◌, ◌*◌, ◌≤◌, refl, sym, ap, ◌∙◌, arith, Bool, true, false, List, [], ◌∷◌, ◌++◌, map, Option, None, Some, length, drop, drop-drop}
use Rattle.sizes.specs.Sizes.{piece-size}
use Rattle.rules.specs.Lists.{join}
use Rattle.rules.specs.Painting.{Entry}
use Rattle.rules_reason.specs.TileList.{entry-bytes}
use Rattle.cmd.specs.Pieces.{piece-words}
use Rattle.tile.specs.Listed.{piece-of}
use Rattle.text.specs.Places.{joined}
use Rattle.text.specs.Bytes.{piece-room, detail-bytes, details-text}
use Rattle.text.specs.Details.{Detail}
use Rattle.text.specs.Pieces.{piece_of, piece-at, pieces-at}
use Rattle.text.proofs.Lengths.{join-few}
use Rattle.text.proofs.DetailsLengths.{p-few, l-few}

-- an entry as a piece's words, and what stands after them
abbrev laid-first : ℕ → Entry → List ℕ → List ℕ
laid-first t e ws = piece-words (piece-of t e) ++ ws

line-first : (t : ℕ) (e : Entry) (ws : List ℕ) → detail-bytes true (piece-at (laid-first t e ws) 0) ≡ entry-bytes t e
unfolding detail-bytes piece-at entry-bytes
line-first t e ws = go e.layer e.alpha
  where
    of : Bool → Option ℕ → Entry
    of b x = record { layer = b; attribute = e.attribute; alpha = x; nesting = e.nesting; panel = e.panel }

    go : (b : Bool) (x : Option ℕ) → detail-bytes true (piece-at (laid-first t (of b x) ws) 0) ≡ entry-bytes t (of b x)
    go true None = refl
    go true (Some a) = refl
    go false None = refl
    go false (Some a) = refl

-- the first of a list's pieces apart
first-apart : (f : ℕ → Detail) (n : ℕ) → joined (λ (k : ℕ). f k ∷ []) (suc n) ≡ f 0 ∷ joined (λ (k : ℕ). f (suc k) ∷ []) n
unfolding joined
first-apart f zero = refl
first-apart f (suc n) = ap (λ ds. ds ++ (f (suc n) ∷ [])) (first-apart f n)

joined-same : (f g : ℕ → Detail) → ((k : ℕ) → f k ≡ g k) → (n : ℕ) → joined (λ (k : ℕ). f k ∷ []) n ≡ joined (λ (k : ℕ). g k ∷ []) n
unfolding joined
joined-same f g same zero = refl
joined-same f g same (suc n) = rw (joined-same f g same n, same n)

next-piece : (ws : List ℕ) (k : ℕ) → piece-at ws (suc k) ≡ piece-at (drop 7 ws) k
unfolding piece-at
next-piece ws k =
    let e : 7 * suc k ≡ 7 + 7 * k = omega arith in
    ap piece_of (ap (λ j. drop j ws) e ∙ sym (drop-drop (7 * k) 7 ws))

pieces-first : (ws : List ℕ) (n : ℕ) → pieces-at ws (suc n) ≡ piece-at ws 0 ∷ pieces-at (drop 7 ws) n
pieces-first ws n = first-apart (piece-at ws) n ∙ ap (λ ds. piece-at ws 0 ∷ ds) (joined-same (λ k. piece-at ws (suc k)) (piece-at (drop 7 ws)) (next-piece ws) n)

-- entries as pieces' words
abbrev pub words-laid : ℕ → List Entry → List ℕ
words-laid t es = join piece-words (map (piece-of t) es)

no-lines : (ws : List ℕ) → details-text true (pieces-at ws 0) ≡ []
unfolding joined
no-lines ws = refl

pub lines-laid : (t : ℕ) (es : List Entry) (rest : List ℕ) → details-text true (pieces-at (words-laid t es ++ rest) (length es)) ≡ join (entry-bytes t) es
lines-laid t [] rest = no-lines rest
lines-laid t (e ∷ es) rest =
    let more = words-laid t es ++ rest in
    ap (details-text true) (pieces-first (laid-first t e more) (length es)) ∙ rw (line-first t e more, lines-laid t es rest)

pub words-long : (t : ℕ) (es : List Entry) → length (words-laid t es) ≡ piece-size * length es
words-long t [] = refl
words-long t (e ∷ es) = omega (arith, words-long t es)

entry-few : (t : ℕ) (e : Entry) → length (entry-bytes t e) ≤ piece-room
unfolding entry-bytes detail-bytes
entry-few t e = go e.layer
  where
    go : (b : Bool) → length (entry-bytes t (record { layer = b; attribute = e.attribute; alpha = e.alpha; nesting = e.nesting; panel = e.panel })) ≤ piece-room
    go true = l-few true e.attribute t (suc t) e.alpha e.nesting e.panel
    go false = p-few true e.attribute t (suc t) e.alpha e.nesting e.panel

pub entries-few : (t : ℕ) (es : List Entry) → length (join (entry-bytes t) es) ≤ length es * piece-room
entries-few t es = join-few (entry-bytes t) piece-room (entry-few t) es
