-- Words as bytes: how the loop puts them, and how many there are.
use Rattle.std.proofs.Common.{ℕ, ◌+◌, ◌*◌, ◌<◌, ◌≤◌, ◌≡◌, refl, sym, ap, ◌∙◌, arith, List, [], ◌∷◌, ◌++◌, append_assoc, append-nil, length, get_or, take, drop, take_all, take_at, drop_at, drop-drop, length-append, length-take, length-drop}
use Rattle.std.proofs.lemmas.List.{take_more}
use Rattle.rules.specs.Lines.{word-bytes, bytes-of}

pub bytes-joined : (xs ys : List ℕ) → bytes-of (xs ++ ys) ≡ bytes-of xs ++ bytes-of ys
bytes-joined [] ys = refl
bytes-joined (x ∷ xs) ys = ap (λ t. word-bytes x ++ t) (bytes-joined xs ys)

pub bytes-long : (ws : List ℕ) → length (bytes-of ws) ≡ 4 * length ws
bytes-long [] = refl
bytes-long (w ∷ ws) = omega (arith, bytes-long ws)

-- the bytes of the first i words, and what stood after them
abbrev pub Put : List ℕ → List ℕ → ℕ → List ℕ → Type 0
Put ws old i now = now ≡ bytes-of (take i ws) ++ drop (4 * i) old

module _ (ws old : List ℕ) where
  pub put_next : (i : ℕ) (now next : List ℕ) → i < length ws → Put ws old i now
      → next ≡ take (4 * i) now ++ (word-bytes (get_or ws i 0) ++ drop (4 * i + 4) now) → Put ws old (i + 1) next
  put_next i now next h p e =
      let n : length (bytes-of (take i ws)) ≡ 4 * i = bytes-long (take i ws) ∙ (omega (arith, length-take i ws, h)) in
      let w = word-bytes (get_or ws i 0) in
      let front : take (4 * i) now ≡ bytes-of (take i ws) = ap (take (4 * i)) p ∙ take_at _ _ (4 * i) n in
      let rest : drop (4 * i) now ≡ drop (4 * i) old = ap (drop (4 * i)) p ∙ drop_at _ _ (4 * i) n in
      let four : 4 * (i + 1) ≡ 4 * i + 4 = omega arith in
      let tail : drop (4 * i + 4) now ≡ drop (4 * (i + 1)) old = sym (drop-drop 4 (4 * i) now) ∙ ap (drop 4) rest ∙ drop-drop 4 (4 * i) old ∙ ap (λ k. drop k old) (sym four) in
      let more : bytes-of (take (i + 1) ws) ≡ bytes-of (take i ws) ++ w =
      ap (λ xs. bytes-of xs) (take_more ws i 0 h) ∙ bytes-joined (take i ws) (get_or ws i 0 ∷ []) ∙ ap (λ t. bytes-of (take i ws) ++ t) (append-nil w) in
      e ∙ ap (λ t. t ++ (w ++ drop (4 * i + 4) now)) front ∙ ap (λ t. bytes-of (take i ws) ++ (w ++ t)) tail
      ∙ sym (append_assoc (bytes-of (take i ws)) w (drop (4 * (i + 1)) old))
      ∙ ap (λ t. t ++ drop (4 * (i + 1)) old) (sym more)

  pub put_all : (i : ℕ) (now : List ℕ) → length ws ≤ i → i ≤ length ws → Put ws old i now → now ≡ bytes-of ws ++ drop (4 * length ws) old
  put_all i now h k p =
      let same : i ≡ length ws = omega arith in
      p ∙ ap (λ j. bytes-of (take j ws) ++ drop (4 * j) old) same ∙ ap (λ xs. bytes-of xs ++ drop (4 * length ws) old) (take_all (length ws) ws (omega arith))

-- four bytes put at a place change no length
pub next-long : (w i : ℕ) (now next : List ℕ) → next ≡ take (4 * i) now ++ (word-bytes w ++ drop (4 * i + 4) now) → 4 * i + 4 ≤ length now → length next ≡ length now
next-long w i now next e h =
    ap length e ∙ length-append (take (4 * i) now) (word-bytes w ++ drop (4 * i + 4) now)
    ∙ omega (arith, h, length-take (4 * i) now, length-drop (4 * i + 4) now)
