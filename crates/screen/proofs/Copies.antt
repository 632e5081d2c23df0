-- Copies of a row's minima, one behind the other, made by copying what is there. Assumes nothing.
use Rattle.std.proofs.Common.{◌≡◌, refl, sym, ap, ◌∙◌, List, [], ◌++◌, append_assoc, ℕ, zero, suc, ◌+◌, ◌-◌, ◌*◌, min, ◌≤◌, ◌<◌, zero-add, suc-add, zero-mul, suc-mul, add-mul, mul-le-mul_right, arith, length, length-append, length-take-le, length-drop, drop-drop, take_at, drop_at, replicate, take, drop}
use Rattle.std.proofs.lemmas.List.{take-append-drop, append-nil, take-replicate, drop-replicate, replicate-append-replicate}
use lib.ListN.{length-replicate}
use Rattle.rules.specs.Lists.{join}
use Rattle.rules.specs.Minima.{size, half, minima, halvings, summary, minima-room}
use Rattle.rules.proofs.laws.Minima.{half-is, length-summary}
use Rattle.depth.proofs.Groups.{no-words, room-of-some, summary-of-some}
use Rattle.depth.proofs.Mending.{topped-same}
use Rattle.depth.proofs.Places.{by-half}
use Rattle.screen.specs.Depths.{blank-minima}

-- n copies of a list
unfoldable pub copies : ℕ → List ℕ → List ℕ
copies zero ws = []
copies (suc n) ws = ws ++ copies n ws

module _ (ws : List ℕ) where
  -- how many words they are
  copies-long : (n : ℕ) → length (copies n ws) ≡ n * length ws
  unfolding copies
  copies-long zero = sym (zero-mul (length ws))
  copies-long (suc n) = length-append ws (copies n ws) ∙ (let i = copies-long n in let s = suc-mul n (length ws) in omega arith)

  -- n of them before m
  copies-add : (n m : ℕ) → copies (n + m) ws ≡ copies n ws ++ copies m ws
  unfolding copies
  copies-add zero m = ap (λ (k : ℕ). copies k ws) (zero-add m)
  copies-add (suc n) m =
      ap (λ (k : ℕ). copies k ws) (suc-add n m)
      ∙ ap (λ (r : List ℕ). ws ++ r) (copies-add n m) ∙ sym (append_assoc ws (copies n ws) (copies m ws))

  -- the first of them
  copies-first : (n m : ℕ) → n ≤ m → take (n * length ws) (copies m ws) ≡ copies n ws
  copies-first n m h =
      let d : n + (m - n) ≡ m = omega arith in
      ap (λ (k : ℕ). take (n * length ws) (copies k ws)) (sym d)
      ∙ ap (take (n * length ws)) (copies-add n (m - n))
      ∙ take_at (copies n ws) (copies (m - n) ws) (n * length ws) (copies-long n)

-- copies of what f makes of one thing
pub join-copies : {A : Type 0} (f : A → List ℕ) (x : A) (n : ℕ) → join f (replicate n x) ≡ copies n (f x)
unfolding copies
join-copies f x zero = refl
join-copies f x (suc n) = ap (λ (r : List ℕ). f x ++ r) (join-copies f x n)

-- one copy is no longer than some
mul-some : (n k : ℕ) → 0 < n → k ≤ n * k
mul-some zero k h = absurd (omega arith)
mul-some (suc n) k h = let s = suc-mul n k in omega arith

-- the words before place `done` are copies of the first `room`, those behind it are as they were
pub record Copied (n room : ℕ) (old : List ℕ) (done : ℕ) (now : List ℕ) : Type 0 where
  pub made : ℕ
  pub left : ℕ
  pub all : made + left ≡ n
  pub some : 0 < made
  pub done-is : done ≡ made * room
  pub words : now ≡ copies made (take room old) ++ drop done old

module _ (n room : ℕ) (old : List ℕ) (some : 0 < n) (long : length old ≡ n * room) where
  -- the first is there
  pub copied-first : Copied n room old room old
  unfolding copies
  copied-first =
      let o = suc-mul 0 room in
      let z = zero-mul room in
      record {
        made = 1;
        left = n - 1;
        all = omega arith;
        some = omega arith;
        done-is = omega arith;
        words = rw (append-nil (take room old)) (sym (take-append-drop room old));
      }

  one-long : length (take room old) ≡ room
  one-long = let m = mul-some n room some in length-take-le room old (omega arith)

  module _ (done : ℕ) (now : List ℕ) (m : Copied n room old done now) where
    -- how many words are made and left
    parts : n * room ≡ m.made * room + m.left * room
    parts = ap (λ (k : ℕ). k * room) (sym m.all) ∙ add-mul m.made m.left room

    pub done-some : 0 < room → 0 < done
    done-some h = let k = mul-some m.made room m.some in let d = m.done-is in omega arith

    -- all of them, where no word is behind it
    pub copied-last : 0 < room → length old ≤ done → now ≡ join (take {A = ℕ} room) (replicate n old)
    copied-last h g =
        let p = parts in
        let d = m.done-is in
        let z : m.left ≡ 0 = by-half 0 m.left (λ s. let k = mul-some m.left room s in absurd (omega arith)) (λ s. omega arith) in
        let q : m.made ≡ n = (let a = m.all in omega arith) in
        let e = no-words (drop done old) (let f = length-drop done old in omega arith) in
        m.words ∙ rw (e, q, append-nil (copies n (take room old))) (sym (join-copies (take {A = ℕ} room) old n))

    -- one turn: `part` is what is copied
    module _ (front back part : List ℕ) (more : ℕ) (split : now ≡ front ++ back) (front-long : length front ≡ done)
        (least : more ≡ min (length front) (length back)) (copy : part ≡ take more front) where
      front-is : front ≡ copies m.made (take room old)
      front-is =
          let c = copies-long (take room old) m.made in
          let o = ap (λ (k : ℕ). m.made * k) one-long in
          let d = m.done-is in
          sym (take_at front back done front-long) ∙ ap (take done) (sym split ∙ m.words)
          ∙ take_at (copies m.made (take room old)) (drop done old) done (omega arith)

      back-is : back ≡ drop done old
      back-is =
          let c = copies-long (take room old) m.made in
          let o = ap (λ (k : ℕ). m.made * k) one-long in
          let d = m.done-is in
          sym (drop_at front back done front-long) ∙ ap (drop done) (sym split ∙ m.words)
          ∙ drop_at (copies m.made (take room old)) (drop done old) done (omega arith)

      back-long : length back ≡ m.left * room
      back-long = let p = parts in let d = m.done-is in let f = length-drop done old in ap length back-is ∙ omega arith

      -- e copies more, e being at most as many as are made
      more-made : (e : ℕ) → e ≤ m.made → e ≤ m.left → more ≡ e * room → Copied n room old (done + more) (front ++ (part ++ drop more back))
      more-made e h g q =
          let d = m.done-is in
          let a = m.all in
          let s = m.some in
          let copied : part ≡ copies e (take room old) =
          copy ∙ rw (front-is, q) (ap (λ (k : ℕ). take (e * k) (copies m.made (take room old))) (sym one-long) ∙ copies-first (take room old) e m.made h)
          in
          let rest : drop more back ≡ drop (done + more) old = ap (drop more) back-is ∙ drop-drop more done old in
          record {
            made = m.made + e;
            left = m.left - e;
            all = omega arith;
            some = omega arith;
            done-is = let t = add-mul m.made e room in omega arith;
            words = rw (rest, copied, front-is)
                (sym (append_assoc (copies m.made (take room old)) (copies e (take room old)) (drop (done + more) old))
                ∙ ap (λ (r : List ℕ). r ++ drop (done + more) old) (sym (copies-add (take room old) m.made e)));
          }

      pub copied-next : Copied n room old (done + more) (front ++ (part ++ drop more back))
      copied-next =
          let d = m.done-is in
          let b = back-long in
          by-half m.made m.left
          (λ l. let h : m.made ≤ m.left = omega arith in let k = mul-le-mul_right room h in more-made m.made (omega arith) (omega arith) (omega arith))
          (λ l. let k = mul-le-mul_right room l in more-made m.left l (omega arith) (omega arith))

-- fewer words are left after each turn
pub fewer-left : (front back part : List ℕ) (done more all : ℕ) → length front ≡ done → length back + done ≡ all
    → more ≡ min (length front) (length back) → part ≡ take more front → 0 < done → done < all
    → length (front ++ (part ++ drop more back)) - (done + more) < all - done
fewer-left front back part done more all f b least copy some h =
    let a = length-append front (part ++ drop more back) in
    let c = length-append part (drop more back) in
    let d = length-drop more back in
    let t = length-take-le more front (omega arith) in
    let p = ap length copy in
    omega arith

-- a row has copies of its words where they are some
pub some-copies : (n m room long : ℕ) → 0 < m → 0 < room → long ≡ m * room → long ≡ n * room → 0 < n
some-copies zero m room long h g e q = let k = mul-some m room h in let z = zero-mul room in absurd (omega arith)
some-copies (suc n) m room long h g e q = omega arith

-- a row's minima where all its words are 0 and no group has a place past them
whole-zero : (k : ℕ) → minima k (replicate (size k) 0) ≡ replicate (half k) 0
unfolding minima size half
whole-zero zero = refl
whole-zero (suc k) =
    let z : ℕ = 0 in
    let d : size k + size k - size k ≡ size k = omega arith in
    rw (take-replicate (size k) (size k + size k) z (omega arith), drop-replicate (size k) (size k + size k) z, d, whole-zero k) (topped-same k 0)

row-zero : (b : ℕ) → minima-room b + 1 ≡ 2 * b → summary (replicate b 0) ≡ replicate (minima-room b) 0
row-zero b e =
    let z : ℕ = 0 in
    let r = room-of-some b (some-of b e) in
    let f = half-is (halvings b) in
    let s : size (halvings b) ≡ b = omega arith in
    let l = length-replicate b z in
    sym (summary-of-some (replicate b 0) (rw l (some-of b e)))
    ∙ rw (l, r) (ap (λ (n : ℕ). minima (halvings b) (replicate n 0)) (sym s) ∙ whole-zero (halvings b))
  where
    some-of : (b : ℕ) → minima-room b + 1 ≡ 2 * b → 0 < b
    some-of b e = omega arith

-- .. or there are none
row-none : summary (replicate 0 0) ≡ replicate (minima-room 0) 0
unfolding summary minima-room
row-none = refl

module _ (n b : ℕ) where
  rows-zero : summary (replicate b 0) ≡ replicate (minima-room b) 0 → (r : ℕ) → blank-minima r b ≡ replicate (r * minima-room b) 0
  unfolding blank-minima
  rows-zero e zero = ap (λ (k : ℕ). replicate k 0) (sym (zero-mul (minima-room b)))
  rows-zero e (suc r) =
      let z : ℕ = 0 in
      let q : minima-room b + r * minima-room b ≡ suc r * minima-room b = (let s = suc-mul r (minima-room b) in omega arith) in
      rw (e, rows-zero e r) (replicate-append-replicate (minima-room b) (r * minima-room b) z ∙ ap (λ (k : ℕ). replicate k 0) q)

  module _ (old new : List ℕ) (long : length old ≡ n * minima-room b) (zero : new ≡ replicate (length old) 0) where
    -- what the rows' minima are where all are 0: there is no row, no bucket, or no place past a row's last bucket
    pub all-zero-rows : n ≡ 0 → new ≡ blank-minima n b
    unfolding blank-minima
    all-zero-rows e = let z = zero-mul (minima-room b) in let l : length old ≡ 0 = long ∙ rw e z in zero ∙ rw (l, e) refl

    pub all-zero-none : b ≡ 0 → new ≡ blank-minima n b
    all-zero-none e = zero ∙ rw long (sym (rows-zero (rw e row-none) n))

    pub all-zero : minima-room b + 1 ≡ 2 * b → new ≡ blank-minima n b
    all-zero e = zero ∙ rw long (sym (rows-zero (row-zero b e) n))

  -- the first row's minima are made, and copied
  module _ (words made old new : List ℕ) (many : ℕ) (some : 0 < n) (few : many ≡ n * b) (zero : words ≡ replicate many 0)
      (first : made ≡ summary (take b words)) where
    made-is : made ≡ summary (replicate b 0)
    made-is =
        let z : ℕ = 0 in
        let m = mul-some n b some in
        first ∙ ap summary (ap (take b) zero ∙ take-replicate b many z (omega arith))

    made-long : length made ≡ minima-room b
    made-long = ap length made-is ∙ length-summary (replicate b 0) ∙ ap minima-room (length-replicate {A = ℕ} b 0)

    pub row-first : length old ≡ n * minima-room b → length (made ++ drop (minima-room b) old) ≡ n * minima-room b
    row-first l =
        let m = mul-some n (minima-room b) some in
        let a = length-append made (drop (minima-room b) old) in
        let d = length-drop (minima-room b) old in
        let g = made-long in
        omega arith

    pub rows-copied : new ≡ join (take {A = ℕ} (minima-room b)) (replicate n (made ++ drop (minima-room b) old)) → new ≡ blank-minima n b
    unfolding blank-minima
    rows-copied e =
        e ∙ join-copies (take {A = ℕ} (minima-room b)) (made ++ drop (minima-room b) old) n
        ∙ ap (copies n) (take_at made (drop (minima-room b) old) (minima-room b) made-long ∙ made-is)
        ∙ sym (join-copies summary (replicate b 0) n)
