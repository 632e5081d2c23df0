-- Open layers read back from their words. Assumes nothing.
use Rattle.std.proofs.Common.{◌≡◌, refl, sym, ap, subst, ◌∙◌, Bool, true, ◌&&◌, List, [], ◌∷◌, ◌++◌, map, append_assoc, Option, None, Some, ℕ, suc, ◌+◌, ◌*◌, leb, length, get_or, get_or-append-add, le-leb, eq-eqb}
use Rattle.sizes.specs.Sizes.{open-layer-size}
use Rattle.rules.specs.Boxes.{Box, good_viewport, good-box}
use Rattle.rules.specs.Blends.{good-blend}
use Rattle.rules.specs.Inputs.{Clip, good-handle, good-thread, good-panel, all-good, good-props}
use Rattle.rules.specs.Plans.{Layer, clip-box}
use Rattle.rules.proofs.All.{All, cons, both}
use Rattle.screen.proofs.ScreenLaws as screens
use Rattle.screen.specs.declared.layers.OpenLayer.{OpenLayer}
use Rattle.screen.specs.Layers.{layer-words, layer-at, open_at, good_layer, good_own_box}
use Rattle.screen.proofs.LayersLaws.{kept}
use Rattle.pop.specs.Pop.{layers-in, good-open}
use Rattle.walk.specs.Reading.{pattern_of}
use Rattle.refine_steps.specs.Sound.{Good}
use Rattle.refine_steps.specs.Lent.{open-words, layers-words}
use Rattle.refine_steps.proofs.Kept.{clip-good}
use Rattle.refine_steps.proofs.Steps.{layers-length}

-- a layer without its opacity, which stands apart
abbrev pub bare : Layer → Layer
bare l = kept l l.props.clip

module _ (xs ys : List ℕ) (k : ℕ) (e : length xs ≡ open-layer-size * k) where
  word-there : (i : ℕ) → get_or (xs ++ ys) (open-layer-size * k + i) 0 ≡ get_or ys i 0
  word-there i = rw (← e, get_or-append-add)

  layer-there : layer-at (xs ++ ys) k ≡ layer-at ys 0
  layer-there = simp word-there

  open-there : open_at (xs ++ ys) k ≡ open_at ys 0
  open-there = simp word-there

-- layer k of some words
module _ (l : Layer) (n : ℕ) (rest : List ℕ) where
  layer-read : layer-at (layer-words l n ++ rest) 0 ≡ bare l
  layer-read = go l.props.clip
    where
      go : (c : Option Clip) → layer-at (layer-words (kept l c) n ++ rest) 0 ≡ kept l c
      go None = refl
      go (Some c) = refl

  nan-read : (open_at (layer-words l n ++ rest) 0).nan ≡ n
  nan-read = go l.props.clip
    where
      go : (c : Option Clip) → (open_at (layer-words (kept l c) n ++ rest) 0).nan ≡ n
      go None = refl
      go (Some c) = refl

  open-read : good-props l.props ≡ true → good_layer (open_at (layer-words l n ++ rest) 0) ≡ true
  unfolding good_layer
  open-read g =
      let h3 = both (good-blend l.props.blend && good-handle l.props.mask && all-good l.props.clip) (good-panel l.props.panel) g in
      let h2 = both (good-blend l.props.blend && good-handle l.props.mask) (all-good l.props.clip) h3.0 in
      let h1 = both (good-blend l.props.blend) (good-handle l.props.mask) h2.0 in
      go l.props.clip h1.0 h1.1 h2.1 h3.1
    where
      go : (c : Option Clip) → good-blend l.props.blend ≡ true → good-handle l.props.mask ≡ true → all-good c ≡ true → good-panel l.props.panel ≡ true → good_layer (open_at (layer-words (kept l c) n ++ rest) 0) ≡ true
      go None p q r s = rw (p, q, s)
      go (Some c) p q r s =
          let k2 = both (good-box c.bounds && leb c.start c.end) (good-thread c.thread) r in
          let k1 = both (good-box c.bounds) (leb c.start c.end) k2.0 in
          rw (p, q, k1.1, k2.1, s)

-- all the open layers
pub layers-read : (ls : List Layer) (rest : List ℕ) → layers-in (layers-words ls ++ rest) (length ls) ≡ map bare ls
unfolding layers-in layers-words
layers-read [] rest = refl
layers-read (l ∷ ls) rest =
    let split : layers-words (l ∷ ls) ++ rest ≡ layers-words ls ++ (open-words l ++ rest) =
    append_assoc (layers-words ls) (open-words l) rest in
    subst (λ (ws : List ℕ). layers-in ws (length (l ∷ ls)) ≡ map bare (l ∷ ls)) (sym split)
    (rw (layer-there (layers-words ls) (open-words l ++ rest) (length ls) (layers-length ls), layer-read l (pattern_of l.props.opacity) rest, layers-read ls (open-words l ++ rest)))

own-good : (v b : Box) → screens.Clip v b → good_own_box v b ≡ true
unfolding good_own_box
own-good v b k =
    rw (
      eq-eqb _ _ k.x0-by-4,
      eq-eqb _ _ k.y0-by-4,
      eq-eqb _ _ k.x1-by-4,
      eq-eqb _ _ k.y1-by-4,
      le-leb _ _ k.left,
      le-leb _ _ k.top,
      le-leb _ _ k.right,
      le-leb _ _ k.bottom,
    )

pub bare-clip : (v : Box) (ls : List Layer) → clip-box v (map bare ls) ≡ clip-box v ls
bare-clip v [] = refl
bare-clip v (l ∷ ls) = refl

pub bare-length : (ls : List Layer) → length (map bare ls) ≡ length ls
bare-length [] = refl
bare-length (l ∷ ls) = ap suc (bare-length ls)

all_three : (a b c : Bool) → a ≡ true → b ≡ true → c ≡ true → (a && b && c) ≡ true
all_three a b c p q r = rw (p, q, r)

-- what a pop reads of the layers is good
pub layers-good : (v : Box) (ls : List Layer) → good_viewport v ≡ true → All (Good v) ls → (rest : List ℕ) → good-open v (layers-words ls ++ rest) (length ls) ≡ true
unfolding good-open layers-words
layers-good v [] g a rest = refl
layers-good v (l ∷ ls) g (cons h hs) rest =
    let e = layers-length ls in
    let t = layers-words ls ++ (open-words l ++ rest) in
    rw (append_assoc (layers-words ls) (open-words l) rest)
    (all_three (good_layer (open_at t (length ls))) (good_own_box v (layer-at t (length ls)).bounds) (good_own_box v (clip-box v (layers-in t (length ls))))
    (ap good_layer (open-there (layers-words ls) (open-words l ++ rest) (length ls) e) ∙ open-read l (pattern_of l.props.opacity) rest h.props)
    (ap (λ (x : Layer). good_own_box v x.bounds) (layer-there (layers-words ls) (open-words l ++ rest) (length ls) e ∙ layer-read l (pattern_of l.props.opacity) rest) ∙ own-good v l.bounds h.bounds)
    (ap (λ (x : List Layer). good_own_box v (clip-box v x)) (layers-read ls (open-words l ++ rest)) ∙ ap (good_own_box v) (bare-clip v ls) ∙ own-good v (clip-box v ls) (clip-good v g ls hs)))

-- the NaN pattern of the innermost
pub nan-there : (l : Layer) (ls : List Layer) (rest : List ℕ) → (open_at (layers-words (l ∷ ls) ++ rest) (length ls)).nan ≡ pattern_of l.props.opacity
unfolding layers-words
nan-there l ls rest =
    rw (append_assoc (layers-words ls) (open-words l) rest)
    (ap (λ (x : OpenLayer). x.nan) (open-there (layers-words ls) (open-words l ++ rest) (length ls) (layers-length ls)) ∙ nan-read l (pattern_of l.props.opacity) rest)
