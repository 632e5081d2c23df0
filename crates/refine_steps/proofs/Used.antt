-- On a sound screen's words a reset of what is used is a reset: past what the screen and its rows' records count, every word is 0. Assumes nothing.
use Rattle.std.proofs.Common.{◌≡◌, refl, sym, ap, ◌∙◌, Bool, true, false, eqb, eqb-true, None, Some, append-nil, Float, List, [], ◌∷◌, ◌++◌, map, ℕ, zero, suc, ◌+◌, ◌-◌, ◌*◌, min, ◌≤◌, zero-mul, suc-mul, arith, pos, length, get_or, take, drop, replicate, length-append, take_at, drop_at}
use lib.ListN.{length-replicate}
use Rattle.std.proofs.Math.ListN.{drop_of_length-le}
use Rattle.sizes.specs.Sizes.{row-size, renders-at, depths-at, open-layer-size, paint-attr-size, layer-attr-size, filter-paint-size, open-layer-table, paint-attr-table, layer-attr-table, filter-paint-table}
use Rattle.rules.specs.Answers.{settle}
use Rattle.rules.specs.Lists.{join}
use Rattle.rules.specs.Boxes as boxes
use Rattle.rules.specs.Commands.{Command, paint-fill, layer-fill, push-buf, pop-buf, DepthFill, command_words, depth-words}
use Rattle.rules.specs.Rows.{Row}
use Rattle.rules.specs.Plans.{State}
use Rattle.rules.specs.Steps.{Screen}
use Rattle.screen.specs.Attributes.{paint-attr-words}
use Rattle.layers.specs.Filter.{filter-paint-words}
use Rattle.row.specs.Arena.{lay}
use Rattle.screen.specs.Screens.{fresh-screen}
use Rattle.screen.specs.Depths.{Depths}
use Rattle.screen.specs.Judging.{judged_reset}
use Rattle.screen.specs.Tables.{zeros, lengths, float-0, Tables, ScreenLent, screen_lent, cleared, reset_to}
use Rattle.reuse.specs.Used.{first-cleared, rows-cleared, used-cleared, judged_used, used_reset}
use Rattle.refine_row.specs.Encode.{padded, encode}
use Rattle.refine_row.proofs.Pads.{padded-fits, padded-length}
use Rattle.refine_row.proofs.Screens.{encode-sized}
use Rattle.refine_steps.specs.Sound.{Sound}
use Rattle.refine_steps.specs.Lent.{table, layers-words, layers-opacities, attr-words, attr-opacity, rows_of, lent_of}
use Rattle.refine_steps.proofs.Tables.{replicate-add, table-length, join-length}
use Rattle.refine_steps.proofs.Steps.{layers-length, opacities-count, map-length, few-attrs}
use Rattle.refine_steps.proofs.Judged.{screen-good, rows_long}

module _ {A : Type 0} (z : A) where
  -- what is there is cleared, and what stands behind it is z
  before : (n : ℕ) (xs : List A) → first-cleared z (length xs) (xs ++ replicate n z) ≡ replicate (length xs + n) z
  before n xs =
      let l = length-append xs (replicate n z) in
      let r = length-replicate n z in
      let m : min (length xs) (length (xs ++ replicate n z)) ≡ length xs = omega arith in
      rw (m, drop_at xs (replicate n z) (length xs) refl) (replicate-add (length xs) n z)

  table-cleared : (m n : ℕ) (xs : List A) → m ≡ length xs → length xs ≤ n → first-cleared z m (table z n xs) ≡ replicate n z
  unfolding table
  table-cleared m n xs e h = let s : length xs + (n - length xs) ≡ n = omega arith in rw e (before (n - length xs) xs) ∙ ap (λ (k : ℕ). replicate k z) s

  -- .. are as many z as it has entries
  table-zero : (m n : ℕ) (xs : List A) → m ≡ length xs → length xs ≤ n → first-cleared z m (table z n xs) ≡ zeros z (table z n xs)
  table-zero m n xs e h = table-cleared m n xs e h ∙ sym (ap (λ (k : ℕ). replicate k z) (table-length z n xs h))

-- words that fill a row's part, or pass it
row-cleared : (n m : ℕ) (xs : List ℕ) → m ≡ length xs → first-cleared 0 m (padded n xs) ≡ replicate n 0
row-cleared n m xs e = go (length xs - n) refl
  where
    go : (k : ℕ) → length xs - n ≡ k → first-cleared 0 m (padded n xs) ≡ replicate n 0
    go zero q =
        let h : length xs ≤ n = omega arith in
        let s : length xs + (n - length xs) ≡ n = omega arith in
        ap (first-cleared 0 m) (padded-fits n xs h) ∙ rw e (before 0 (n - length xs) xs) ∙ ap (λ (i : ℕ). replicate i 0) s
    go (suc k) q =
        let w : min m (length (padded n xs)) ≡ n = omega (arith, padded-length n xs) in
        rw (w, drop_of_length-le (padded n xs) {i = m} (omega (arith, padded-length n xs)), append-nil) refl

-- one more row
module _ (size each k n : ℕ) (st sts ws wss : List ℕ) where
  more-rows : length st ≡ row-size → length ws ≡ size → first-cleared 0 (each * get_or st k 0) ws ≡ replicate size 0 → get_or (st ++ sts) k 0 ≡ get_or st k 0
      → rows-cleared size each k n sts wss ≡ replicate (n * size) 0 → rows-cleared size each k (suc n) (st ++ sts) (ws ++ wss) ≡ replicate (suc n * size) 0
  unfolding rows-cleared
  more-rows a b e g h =
      let s : size + n * size ≡ suc n * size = let q = suc-mul n size in omega arith in
      rw (g, take_at ws wss size b, drop_at st sts row-size a, drop_at ws wss size b, e, h) (replicate-add size (n * size) 0) ∙ ap (λ (i : ℕ). replicate i 0) s

-- a command has four words, a depth fill two
command-long : (c : Command) → length (command_words c) ≡ 4
unfolding command_words
command-long (paint-fill s None i) = refl
command-long (paint-fill s (Some a) i) = refl
command-long (layer-fill s None i) = refl
command-long (layer-fill s (Some a) i) = refl
command-long (push-buf None) = refl
command-long (push-buf (Some s)) = refl
command-long pop-buf = refl

fill-long : (f : DepthFill) → length (depth-words f) ≡ 2
unfolding depth-words
fill-long f = refl

module _ (c d : ℕ) where
  commands-cleared : (rs : List Row)
      → rows-cleared (4 * c) 4 renders-at (length rs) (lay (map (encode c d) rs)).state (lay (map (encode c d) rs)).render ≡ replicate (length rs * (4 * c)) 0
  unfolding rows-cleared lay encode
  commands-cleared [] = rw (zero-mul (4 * c)) refl
  commands-cleared (r ∷ rs) =
      let z = encode-sized c d r in
      more-rows (4 * c) 4 renders-at (length rs) (encode c d r).state _ (encode c d r).render _ z.state z.render
      (row-cleared (4 * c) (4 * length r.commands) (join command_words r.commands) (sym (join-length command_words 4 command-long r.commands))) refl (commands-cleared rs)

  fills-cleared : (rs : List Row)
      → rows-cleared (2 * d) 2 depths-at (length rs) (lay (map (encode c d) rs)).state (lay (map (encode c d) rs)).fills ≡ replicate (length rs * (2 * d)) 0
  unfolding rows-cleared lay encode
  fills-cleared [] = rw (zero-mul (2 * d)) refl
  fills-cleared (r ∷ rs) =
      let z = encode-sized c d r in
      more-rows (2 * d) 2 depths-at (length rs) (encode c d r).state _ (encode c d r).fills _ z.state z.fills
      (row-cleared (2 * d) (2 * length r.fills) (join depth-words r.fills) (sym (join-length depth-words 2 fill-long r.fills))) refl (fills-cleared rs)

module _ (s : Screen Row) (h : Sound s) (b : Bool) (depth : Depths) (p : List ℕ) where
  abbrev st : State
  st = s.state

  abbrev l : ScreenLent
  l = lent_of s b depth p

  few : (length st.attrs.paints ≤ 1024) × (length st.attrs.layers ≤ 1024) × (length st.attrs.filters ≤ 256)
  few = few-attrs s h b depth p

  commands-zero : rows-cleared (4 * st.frame.c) 4 renders-at (boxes.rows_of st.frame.viewport) (rows_of s).state (rows_of s).render ≡ zeros 0 (rows_of s).render
  commands-zero =
      ap (λ (i : ℕ). rows-cleared (4 * st.frame.c) 4 renders-at i (rows_of s).state (rows_of s).render) (sym h.count)
      ∙ commands-cleared st.frame.c st.frame.d s.rows
      ∙ ap (λ (i : ℕ). replicate i 0) (ap (λ (i : ℕ). i * (4 * st.frame.c)) h.count ∙ sym (rows_long s h).render)

  fills-zero : rows-cleared (2 * st.frame.d) 2 depths-at (boxes.rows_of st.frame.viewport) (rows_of s).state (rows_of s).fills ≡ zeros 0 (rows_of s).fills
  fills-zero =
      ap (λ (i : ℕ). rows-cleared (2 * st.frame.d) 2 depths-at i (rows_of s).state (rows_of s).fills) (sym h.count)
      ∙ fills-cleared st.frame.c st.frame.d s.rows
      ∙ ap (λ (i : ℕ). replicate i 0) (ap (λ (i : ℕ). i * (2 * st.frame.d)) h.count ∙ sym (rows_long s h).fills)

  abbrev opacities-open : List Float
  opacities-open = table float-0 16 (layers-opacities st.layers)

  abbrev opacities-closed : List Float
  opacities-closed = table float-0 1024 (map attr-opacity st.attrs.layers)

  open-long : length opacities-open ≡ 16
  open-long = table-length float-0 16 (layers-opacities st.layers) (omega (arith, opacities-count st.layers, h.deep))

  closed-few : length (map attr-opacity st.attrs.layers) ≤ 1024
  closed-few = omega (arith, map-length attr-opacity st.attrs.layers, few.1)

  closed-long : length opacities-closed ≡ 1024
  closed-long = table-length float-0 1024 (map attr-opacity st.attrs.layers) closed-few

  opacities-zero : first-cleared float-0 (length st.layers) (take 16 (opacities-open ++ opacities-closed))
      ++ first-cleared float-0 (length st.attrs.layers) (drop 16 (opacities-open ++ opacities-closed)) ≡ zeros float-0 (opacities-open ++ opacities-closed)
  opacities-zero =
      let n : length (opacities-open ++ opacities-closed) ≡ 16 + 1024 = length-append opacities-open opacities-closed ∙ omega (arith, open-long, closed-long) in
      rw (
        take_at opacities-open opacities-closed 16 open-long,
        drop_at opacities-open opacities-closed 16 open-long,
        table-cleared float-0 (length st.layers) 16 (layers-opacities st.layers) (sym (opacities-count st.layers)) (omega (arith, opacities-count st.layers, h.deep)),
        table-cleared float-0 (length st.attrs.layers) 1024 (map attr-opacity st.attrs.layers) (sym (map-length attr-opacity st.attrs.layers)) closed-few,
        n,
      )
      (replicate-add 16 1024 float-0)

  all-cleared : used-cleared l.screen l.tables ≡ cleared st.frame l.tables
  unfolding lent_of
  all-cleared =
      rw (
        commands-zero,
        fills-zero,
        table-zero 0 (open-layer-size * length st.layers) open-layer-table (layers-words st.layers) (sym (layers-length st.layers)) (omega (arith, layers-length st.layers, h.deep)),
        opacities-zero,
        table-zero 0 (paint-attr-size * length st.attrs.paints) paint-attr-table (join paint-attr-words st.attrs.paints)
            (sym (join-length paint-attr-words paint-attr-size (λ a. refl) st.attrs.paints))
            (omega (arith, join-length paint-attr-words paint-attr-size (λ a. refl) st.attrs.paints, few.0)),
        table-zero 0 (layer-attr-size * length st.attrs.layers) layer-attr-table (join attr-words st.attrs.layers)
            (sym (join-length attr-words layer-attr-size (λ a. refl) st.attrs.layers))
            (omega (arith, join-length attr-words layer-attr-size (λ a. refl) st.attrs.layers, few.1)),
        table-zero (pos 0) (filter-paint-size * length st.attrs.filters) filter-paint-table (join filter-paint-words st.attrs.filters)
            (sym (join-length filter-paint-words filter-paint-size (λ a. refl) st.attrs.filters))
            (omega (arith, join-length filter-paint-words filter-paint-size (λ a. refl) st.attrs.filters, few.2)),
      )
      refl

  -- .. and is judged as one
  judged-alike : judged_used l.screen (lengths l.tables) ≡ judged_reset st.frame (lengths l.tables)
  unfolding judged_used lent_of
  judged-alike = go (eqb (judged_reset st.frame (lengths l.tables)) 0) refl
    where
      go : (t : Bool) → eqb (judged_reset st.frame (lengths l.tables)) 0 ≡ t → judged_used l.screen (lengths l.tables) ≡ judged_reset st.frame (lengths l.tables)
      go true e = rw (e, screen-good s h b) (sym (eqb-true _ _ e))
      go false e = rw e refl

  -- a reset of what is used is a reset to the screen's frame
  pub used-resets : used_reset l ≡ reset_to st.frame l
  unfolding used_reset reset_to lent_of
  used-resets =
      ap (λ (n : ℕ). settle n l (screen_lent (fresh-screen st.frame) (used-cleared l.screen l.tables))) judged-alike
      ∙ ap (λ (t : Tables). settle (judged_reset st.frame (lengths l.tables)) l (screen_lent (fresh-screen st.frame) t)) all-cleared
