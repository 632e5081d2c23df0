-- Laws of the table of open layers, for this crate and its callers. Assumes nothing.
use Rattle.std.proofs.Common.{◌≡◌, refl, sym, ap, ◌∙◌, Bool, true, false, List, ◌++◌, Option, None, Some, ℕ, ◌≤◌, ◌<◌, ◌+◌, ◌-◌, ◌*◌, ◌%◌, arith, leb, ltb, eqb, length, get_or, replicate, take, drop}
use Rattle.std.proofs.Common.{append_assoc, length-drop, length-take-le, eq-eqb, leb-true, leb-false}
use borrow.Rule.Slice.PartMut.{put_mid}
use Rattle.std.proofs.lemmas.List.{drop-drop}
use lib.Ieee.{Float, binary32, is_nan}
use lib.Ieee.Bits.{nan_bits_above}
use Rattle.sizes.specs.Sizes.{most-layers, open-layer-size, open-layer-table}
use Rattle.rules.specs.Inputs.{Clip}
use Rattle.rules.specs.Plans.{Layer}
use Rattle.cmd.specs.Attrs.{words-at}
use Rattle.cmd.proofs.Tables.{at-inside, at-below, at_after}
use Rattle.screen.specs.Layers.{good-pattern, layer-words, no_words, layer-word, clip-in, layer-at, open_at}

-- the words of a layer all 0
n_words : (at n : ℕ) → at + n - at ≡ n
n_words at n = omega arith

part-length : (xs : List ℕ) (at n : ℕ) → at + n ≤ length xs → length (take (at + n - at) (drop at xs)) ≡ n
part-length xs at n h = rw (n_words at n) (length-take-le n (drop at xs) (omega (arith, length-drop at xs)))

pub dropped : (xs ys : List ℕ) (at : ℕ) → at + open-layer-size ≤ length xs → ys ≡ replicate (length (take (at + open-layer-size - at) (drop at xs))) 0
    → put_mid at (at + open-layer-size - at) xs ys ≡ words-at xs at no_words
dropped xs ys at h e =
    rw (e, part-length xs at open-layer-size h, n_words at open-layer-size)
    (sym (append_assoc (take at xs) no_words _) ∙ ap (λ (t : List ℕ). take at xs ++ no_words ++ t) (drop-drop open-layer-size at xs))

-- what the table keeps of a layer: all but its opacity
abbrev pub kept : Layer → Option Clip → Layer
kept l o = record { props = record { blend = l.props.blend; opacity = 0; mask = l.props.mask; clip = o; panel = l.props.panel }; bounds = l.bounds }

-- how many words every layer has
pub words-length : (l : Layer) (nan : ℕ) → length (layer-words l nan) ≡ open-layer-size
words-length l nan = by l.props.clip
  where
    by : (o : Option Clip) → length (layer-words (kept l o) nan) ≡ open-layer-size
    by None = refl
    by (Some c) = refl

-- the words ws of layer k stored
module _ (t : List ℕ) (k : ℕ) (h : k < most-layers) (l : length t ≡ open-layer-table) (ws : List ℕ) (m : length ws ≡ open-layer-size) where
  fits : open-layer-size * k + length ws ≤ length t
  fits = omega arith

  -- are read back
  pub same_word : (i : ℕ) → i < open-layer-size → layer-word (words-at t (open-layer-size * k) ws) k i ≡ get_or ws i 0
  same_word i g = at-inside t (open-layer-size * k) ws fits 0 i (omega arith)

  -- and another layer's stay
  module _ (j : ℕ) (n : j ≡ k → ⊥) where
    pub other_word : (i : ℕ) → i < open-layer-size → layer-word (words-at t (open-layer-size * k) ws) j i ≡ layer-word t j i
    other_word i g = by (leb j k) refl
      where
        by : (b : Bool) → leb j k ≡ b → layer-word (words-at t (open-layer-size * k) ws) j i ≡ layer-word t j i
        by true e = at-below t (open-layer-size * k) ws fits 0 (open-layer-size * j + i) (omega (arith, leb-true j k e))
        by false e = at_after t (open-layer-size * k) ws fits 0 (open-layer-size * j + i) (omega (arith, leb-false j k e))

-- a layer that was put is read back
module _ (t : List ℕ) (k : ℕ) (h : k < most-layers) (e : length t ≡ open-layer-table) (l : Layer) (nan : ℕ) where
  back : (o : Option Clip) (i : ℕ) → i < open-layer-size → layer-word (words-at t (open-layer-size * k) (layer-words (kept l o) nan)) k i ≡ get_or (layer-words (kept l o) nan) i 0
  back o = same_word t k h e (layer-words (kept l o) nan) (words-length (kept l o) nan)

  with-clip : (o : Option Clip) → layer-at (words-at t (open-layer-size * k) (layer-words (kept l o) nan)) k ≡ kept l o
  with-clip None =
      rw (
        back None 0 (omega arith),
        back None 1 (omega arith),
        back None 2 (omega arith),
        back None 3 (omega arith),
        back None 11 (omega arith),
        back None 12 (omega arith),
        back None 13 (omega arith),
        back None 14 (omega arith),
        back None 16 (omega arith),
      )
  with-clip (Some c) =
      rw (
        back (Some c) 0 (omega arith),
        back (Some c) 1 (omega arith),
        back (Some c) 2 (omega arith),
        back (Some c) 3 (omega arith),
        back (Some c) 4 (omega arith),
        back (Some c) 5 (omega arith),
        back (Some c) 6 (omega arith),
        back (Some c) 7 (omega arith),
        back (Some c) 8 (omega arith),
        back (Some c) 9 (omega arith),
        back (Some c) 10 (omega arith),
        back (Some c) 11 (omega arith),
        back (Some c) 12 (omega arith),
        back (Some c) 13 (omega arith),
        back (Some c) 14 (omega arith),
        back (Some c) 16 (omega arith),
      )

  pub layer-back : layer-at (words-at t (open-layer-size * k) (layer-words l nan)) k ≡ kept l l.props.clip
  layer-back = with-clip l.props.clip

  nan-word : (o : Option Clip) → get_or (layer-words (kept l o) nan) 15 0 ≡ nan
  nan-word None = refl
  nan-word (Some c) = refl

  pub nan-back : (open_at (words-at t (open-layer-size * k) (layer-words l nan)) k).nan ≡ nan
  nan-back = back l.props.clip 15 (omega arith) ∙ nan-word l.props.clip

-- what a pop reads is the rules' layer
module _ (t : List ℕ) (k : ℕ) where
  pub without-clip : (open_at t k).flag ≡ 0 → (layer-at t k).props.clip ≡ None
  without-clip f = rw (eq-eqb _ _ f)

  pub has-clip : (open_at t k).flag ≡ 1 → (layer-at t k).props.clip ≡ Some (clip-in t k)
  has-clip f = rw f

-- the two ways through the test of a pattern
module _ (o : Float) (n : ℕ) where
  pub nan_pattern : is_nan o ≡ true → ltb 2139095040 (n % 2147483648) ≡ good-pattern o n
  nan_pattern h = rw h (sym (nan_bits_above binary32 n))

  pub plain_pattern : is_nan o ≡ false → eqb n 0 ≡ good-pattern o n
  plain_pattern h = rw h
