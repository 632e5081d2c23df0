-- A screen's rows as its words have them, and room for a run of puts. Assumes nothing.
use Rattle.std.proofs.Common.{◌≡◌, sym, ap, ◌∙◌, List, [], ◌∷◌, ◌++◌, ℕ, ◌+◌, ◌-◌, ◌*◌, ◌≤◌, ◌<◌, arith, eqb, length, get_or, take, drop, get_or-take, get_or-drop}
use Rattle.std.proofs.lemmas.Bool.Decides.{nat_tests}
use Rattle.rules.specs.Lists.{some_of, change, range}
use Rattle.rules.specs.Plans.{Put}
use Rattle.rules.specs.Steps.{do-puts}
use Rattle.rules.proofs.All.{All, all_map, all_first, all_rest}
use Rattle.rules.proofs.laws.Changes.{change-at, puts-append}
use Rattle.row.specs.Words.{Words, words, word, word-ops, Room}
use Rattle.row.proofs.WordsLaws.{grown-refl, room-first}
use Rattle.row.specs.Acts.{acted}
use Rattle.row.proofs.ActsLaws.{Sound, sound-trans, room_after, acted-sound}
use Rattle.row.specs.Arena.{nowhere, sizes, cut, row_at, Arenas}
use Rattle.row.proofs.RowsLaws.{cut-length, cut_at, at-state}
use Rattle.pop.specs.Closing.{row_of, touched-in, touched-word, done-puts, Roomy}
use Rattle.pop.proofs.Touched.{below, above, inside, all-range, all-touched}
use Rattle.pop.proofs.Closed.{Records}

module _ {cs ds rows : ℕ} {w : Words} (o : Arenas cs ds rows w) where
  pub rows-count : length (cut (sizes cs ds) rows w) ≡ rows
  rows-count = cut-length (sizes cs ds) rows w

  pub row_is : (r : ℕ) → r < rows → row_of (cut (sizes cs ds) rows w) r ≡ row_at (sizes cs ds) r w
  row_is r h = cut_at (sizes cs ds) rows r w nowhere h

  pub records : Records (cut (sizes cs ds) rows w)
  records x h =
      let g : x < rows = rw rows-count at h in
      ap (λ (u : Words). length u.state) (row_is x g) ∙ at-state (sizes cs ds) rows x w o.long g

  part-word : (s : List ℕ) (a i : ℕ) → i < 54 → get_or (take 54 (drop a s)) i 0 ≡ get_or s (a + i) 0
  part-word s a i h = rw (get_or-take, get_or-drop)

  -- word i of row r's record
  pub row_word : (r i : ℕ) → r < rows → i < 54 → get_or w.state (r * 54 + i) 0 ≡ word i (row_of (cut (sizes cs ds) rows w) r)
  row_word r i h g = sym (ap (word i) (row_is r h) ∙ part-word w.state (r * 54) i g)

  -- a test of words is the rules' test
  pub touched-is : (a b n r : ℕ) → b ≤ rows → touched-word a b n w.state r ≡ some_of (eqb r) (touched-in n (cut (sizes cs ds) rows w) (range a b))
  touched-is a b n r h =
      let rs = cut (sizes cs ds) rows w in
      let low = below n rs (b - a) a r in
      let high = above n rs a b r in
      let here = inside n rs a b r in
      let read = row_word r 5 in
      grind (arith, nat_tests)

  pub touched-inside : (a b n : ℕ) → b ≤ rows → All (λ (x : ℕ). x < length (cut (sizes cs ds) rows w)) (touched-in n (cut (sizes cs ds) rows w) (range a b))
  touched-inside a b n h =
      all_map (λ (x : ℕ) (p : ((a ≤ x) × (x < b)) × (word 5 (row_of (cut (sizes cs ds) rows w) x) ≡ n)). low x p.0.1) (all-touched n (cut (sizes cs ds) rows w) (all-range a b))
    where
      low : (x : ℕ) → x < b → x < length (cut (sizes cs ds) rows w)
      low x g = rw rows-count (omega arith)

pub long_after : {cs ds rows : ℕ} {w : Words} (x y z : List ℕ) → Arenas cs ds rows w → length x ≡ length w.state → length y ≡ length w.render → length z ≡ length w.fills → Arenas cs ds rows (words x y z)
long_after x y z o p q r =
    record { rows = o.rows; c = o.c; d = o.d; long = record { state = p ∙ o.long.state; render = q ∙ o.long.render; fills = r ∙ o.long.fills } }

module _ (v m : ℕ) (h : m ≤ 16) where
  -- a row that is sound stays so through any puts
  pub done-sound : (ps : List Put) (rs : List Words) (x : ℕ) → length (row_of rs x).state ≡ 54 → word 5 (row_of rs x) ≤ 16 → Sound (row_of rs x) (row_of (done-puts v m ps rs) x)
  unfolding do-puts
  done-sound [] rs x l k = record { grown = grown-refl (row_of rs x); levels = k }
  done-sound (p ∷ ps) rs x l k =
      let f : Words → Words = acted v m p.act in
      let s : Sound (row_of rs x) (row_of (change f p.row rs) x) =
      change-at (λ (u : Words). Sound (row_of rs x) u) f p.row x rs nowhere
      (record { grown = grown-refl (row_of rs x); levels = k })
      (acted-sound v m (row_of rs x) l k h p.act) in
      sound-trans s (done-sound ps (change f p.row rs) x (s.grown.state ∙ l) s.levels)

  -- room for all puts is room for the first, and after them for the rest
  pub room-one : (ps qs : List Put) (rs : List Words) → Roomy v m (ps ++ qs) rs → Roomy v m ps rs
  room-one ps qs rs a =
      all_map
      (λ (p : Put) (r : Room (row_of rs p.row) (row_of (done-puts v m (ps ++ qs) rs) p.row)).
      let s = done-sound ps rs p.row r.state r.levels in
      let t = done-sound qs (done-puts v m ps rs) p.row (s.grown.state ∙ r.state) s.levels in
      room-first t.grown (rw (puts-append Words word-ops v m ps qs rs) at r))
      (all_first ps qs a)

  pub room-more : (ps qs : List Put) (rs : List Words) → Roomy v m (ps ++ qs) rs → Roomy v m qs (done-puts v m ps rs)
  room-more ps qs rs a =
      all_map
      (λ (p : Put) (r : Room (row_of rs p.row) (row_of (done-puts v m (ps ++ qs) rs) p.row)).
      room_after (done-sound ps rs p.row r.state r.levels) (rw (puts-append Words word-ops v m ps qs rs) at r))
      (all_rest ps qs a)
