-- What one option at the front of the arguments chooses.
use Rattle.std.proofs.Common.{◌≡◌, ◌≢◌, ℕ, Bool, true, false, ◌&&◌, List, [], ◌∷◌, codes, bytes_eq, cond, Some, None, refl}
use Rattle.std.proofs.lemmas.Slice.Eq.{bytes_eq-Decides}
use Rattle.rules.specs.Setups.{snapping}
use Rattle.text_programs.specs.Arguments.{number_of, Choice, with_word, with_number, arguments, arguments_after}

-- a text that is not another
other : (w v : List ℕ) → w ≢ v → bytes_eq w v ≡ false
other w v differ = go (bytes_eq w v) refl
  where
    go : (b : Bool) → bytes_eq w v ≡ b → b ≡ false
    go true e = absurd (differ ((bytes_eq-Decides w v).0 e))
    go false e = refl

module _ (known : Bool) (c : Choice) where
  one_word : (w : List ℕ) (ws : List (List ℕ)) {d : Choice} → with_word known c w ≡ Some d → arguments_after known c (w ∷ ws) ≡ arguments_after known d ws
  one_word w [] e = rw (e, arguments_after)
  one_word w (n ∷ ws) e = rw (e, arguments_after)

  no_option : (w : List ℕ) (ws : List (List ℕ)) → with_word known c w ≡ None → ((n : List ℕ) → with_number c w n ≡ None) → arguments_after known c (w ∷ ws) ≡ arguments c (w ∷ ws)
  no_option w [] e f = rw (e, arguments_after)
  no_option w (n ∷ ws) e f = rw (e, f n, arguments_after)

  pub snapped : {ts : List (List ℕ)} (w : List ℕ) (ws : List (List ℕ)) → ts ≡ w ∷ ws → w ≡ codes "--snap"
      → arguments_after known c ts ≡ arguments_after known (record c { mode = snapping }) ws
  snapped w ws e h = rw e (one_word w ws (rw h))

  pub with_panels : {ts : List (List ℕ)} (w : List ℕ) (ws : List (List ℕ)) → ts ≡ w ∷ ws → w ≡ codes "--panels" → known ≡ true
      → arguments_after known c ts ≡ arguments_after known (record c { panels = true }) ws
  with_panels w ws e h k = rw e (one_word w ws (rw (h, k)))

  no_word : (known : Bool) {w : List ℕ} → w ≡ codes "--width" → with_word known c w ≡ None
  no_word true h = rw h
  no_word false h = rw h

  other_word : (known : Bool) {w : List ℕ} → w ≡ codes "--edition" → with_word known c w ≡ None
  other_word true h = rw h
  other_word false h = rw h

  pub widened : {ts : List (List ℕ)} (w n : List ℕ) (ws : List (List ℕ)) → ts ≡ w ∷ n ∷ ws → w ≡ codes "--width" → {p : ℕ} → number_of n ≡ Some p
      → arguments_after known c ts ≡ arguments_after known (record c { pixels = p }) ws
  widened w n ws e h g = rw (e, arguments_after, no_word known h, h, g)

  pub in_edition : {ts : List (List ℕ)} (w n : List ℕ) (ws : List (List ℕ)) → ts ≡ w ∷ n ∷ ws → w ≡ codes "--edition" → {k : ℕ} → number_of n ≡ Some k
      → arguments_after known c ts ≡ arguments_after known (record c { edition = k }) ws
  in_edition w n ws e h g = rw (e, arguments_after, other_word known h, h, g)

  -- `--panels` where it is none
  pub unknown : {ts : List (List ℕ)} (w : List ℕ) (ws : List (List ℕ)) → ts ≡ w ∷ ws → w ≡ codes "--panels" → known ≡ false → arguments_after known c ts ≡ arguments c ts
  unknown w ws e h k = rw e (no_option w ws (rw (h, k)) (λ n. rw h))

  pub ended : {ts : List (List ℕ)} (w : List ℕ) (ws : List (List ℕ)) → ts ≡ w ∷ ws → w ≢ codes "--snap" → w ≢ codes "--panels" → w ≢ codes "--width"
      → w ≢ codes "--edition" → arguments_after known c ts ≡ arguments c ts
  ended w ws e snap panels width edition =
      let no_word : with_word known c w ≡ None = rw (other w (codes "--snap") snap, other w (codes "--panels") panels) (last known) in
      rw e (no_option w ws no_word (λ n. rw (other w (codes "--width") width, other w (codes "--edition") edition)))
    where
      last : (b : Bool) → cond (b && false) (Some (record c { panels = true })) None ≡ None
      last true = refl
      last false = refl
