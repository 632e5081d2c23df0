-- Fills added one after the other.
use Rattle.std.proofs.Common.{◌≡◌, refl, sym, ◌∙◌, ap, subst, ℕ, ◌+◌, ◌-◌, ◌*◌, ◌≤◌, ◌<◌, arith, Bool, true, false, List, [], ◌∷◌, Option, None, Some, option_map}
use Rattle.sizes.specs.Sizes.{tile-end}
use Rattle.sizes.specs.declared.width.Width.{Width}
use Rattle.sizes.specs.Widths.{bucket-tiles}
use Rattle.rules.specs.Attributes.{Attrs}
use Rattle.rules.specs.Commands.{Command, paint-fill, layer-fill, push-buf, pop-buf, DepthFill}
use Rattle.rules.proofs.laws.Widths.{each}
use Rattle.rules_figures.specs.Figures as rule
use Rattle.rules_figures.specs.RowFigures.{a-fill, depth-fills, command-fills, tiles-painted, tiles-hidden}
use Rattle.span.specs.Spans.{tiles}
use Rattle.span.specs.declared.TileSpan.{TileSpan}
use Rattle.compact.specs.declared.commands.Kind.{Kind}
use Rattle.compact.specs.declared.commands.Kind.TheVariants.{Fill, Push, Pop}
use Rattle.compact.specs.Passing.{kind-of, GoodKind}
use Rattle.cmd.specs.Good.{GoodCommand, GoodDepthFill}
use Rattle.cmd.specs.Reading.{only_if}
use Rattle.paint.specs.Painting.{good-paint}
use Rattle.compact.specs.Reading.{all-from, names-good, good-command, good-fill}
use Rattle.compact.proofs.Froms.{first-read, all-read}
use Rattle.tally.specs.Counts.{Within, depth-kind, with-fill, with-fills, with-kind}
use Rattle.tally.proofs.Sums.{painted-few, hidden-few}

pub within-more : {n m : ℕ} {g : rule.Figures} → n ≤ m → Within n g → Within m g
within-more h i = record {
  asked = let a = i.asked in omega arith;
  painted = let a = i.painted in omega arith;
  hidden = let a = i.hidden in omega arith;
  commands = let a = i.commands in omega arith;
  fills = let a = i.fills in omega arith;
  refused = let a = i.refused in omega arith;
}

-- nothing is within any number
pub none-within : {n : ℕ} → Within n rule.nothing
none-within = record {
  asked = omega arith;
  painted = omega arith;
  hidden = omega arith;
  commands = omega arith;
  fills = omega arith;
  refused = omega arith;
}

-- What is read is in order and within its limits.
kind-good : (a : Attrs) (c : Command) → GoodCommand c → GoodKind (kind-of a c)
kind-good a (paint-fill s x i) g = (g.0.in_order, g.0.in-limit)
kind-good a (layer-fill s x i) g = (g.0.in_order, g.0.in-limit)
kind-good a (push-buf s) g = tt
kind-good a pop-buf g = tt

only-some : {A B : Type 0} (b : Bool) (f : A → B) (x : A) (y : B) → option_map f (only_if b x) ≡ Some y → f x ≡ y
only-some true f x y e = cc
only-some false f x y e = let z : ◌≡◌ {A = ℕ} 0 1 = cc in absurd (omega arith)

pub look-good : (a : Attrs) (o : Option Command) (d : Kind) → option_map (kind-of a) (good-command a o) ≡ Some d
    → ((c : Command) → o ≡ Some c → GoodCommand c) → GoodKind d
look-good a None d e g = let z : ◌≡◌ {A = ℕ} 0 1 = cc in absurd (omega arith)
look-good a (Some c) d e g = rw (only-some (names-good a c) (kind-of a) c d e) at (kind-good a c (g c refl))

pub depth-good : (w : Width) (a : Attrs) (n : ℕ) (o : Option DepthFill) (d : Kind) → n ≤ 64
    → option_map (depth-kind (bucket-tiles w) a) (good-fill a o) ≡ Some d
    → ((f : DepthFill) → o ≡ Some f → GoodDepthFill n f) → GoodKind d
depth-good w a n None d h e g = let z : ◌≡◌ {A = ℕ} 0 1 = cc in absurd (omega arith)
depth-good w a n (Some f) d h e g =
    let i = g f refl in
    let p = i.in_order in
    let q = i.in-limit in
    let k : GoodKind (depth-kind (bucket-tiles w) a f) = spread w f.buckets.first f.buckets.end p (omega arith) in
    subst GoodKind (only-some (good-paint a f.attribute) (depth-kind (bucket-tiles w) a) f d e) k
  where
    spread : (w : Width) (x y : ℕ) → x ≤ y → y ≤ 64 → (x * bucket-tiles w ≤ y * bucket-tiles w) × (y * bucket-tiles w ≤ tile-end)
    spread w =
        each (λ m. (x y : ℕ) → x ≤ y → y ≤ 64 → (x * m ≤ y * m) × (y * m ≤ tile-end))
        (λ x y p q. (omega arith, omega arith)) (λ x y p q. (omega arith, omega arith)) (λ x y p q. (omega arith, omega arith)) w

module _ (w : Width) (bs : List ℕ) where
  -- a fill adds no more tiles than a span has
  pub fill-within : (n : ℕ) (s : TileSpan) (id : ℕ) (g : rule.Figures) → s.end ≤ tile-end → Within n g
      → Within (n + tile-end) (with-fill (bucket-tiles w) bs (a-fill (tiles s) id) g)
  unfolding tiles-painted tiles-hidden
  fill-within n s id g h i =
      let p = painted-few w bs id (tiles s) (s.end - s.first) in
      let q = hidden-few w bs id (tiles s) (s.end - s.first) in
      record {
        asked = let a = i.asked in omega arith;
        painted = let a = i.painted in omega arith;
        hidden = let a = i.hidden in omega arith;
        commands = let a = i.commands in omega arith;
        fills = let a = i.fills in omega arith;
        refused = let a = i.refused in omega arith;
      }

  pub kind-within : (n : ℕ) (k : Kind) (g : rule.Figures) → GoodKind k → Within n g → Within (n + tile-end) (with-kind (bucket-tiles w) bs k g)
  kind-within n (Fill s id) g h i = fill-within n s id g h.1 i
  kind-within n Push g h i = within-more (omega arith) i
  kind-within n Pop g h i = within-more (omega arith) i

  abbrev pub with-all : {A : Type 0} → (A → Kind) → List A → rule.Figures → rule.Figures
  with-all kind [] g = g
  with-all kind (x ∷ xs) g = with-all kind xs (with-kind (bucket-tiles w) bs (kind x) g)

  -- What is read at places one after the other, as kinds, and added to what there is at the start.
  module _ {A : Type 0} (f : ℕ → Option A) (kind : A → Kind) (count : ℕ) (start : rule.Figures) where
    -- with those before place k added, the others are still to be
    pub record Going (xs : List A) (k : ℕ) (g : rule.Figures) : Type 0 where
      pub rest : List A
      pub left : all-from f k (count - k) ≡ Some rest
      pub same : with-all kind rest g ≡ with-all kind xs start

    at-first : (xs : List A) → all-from f 0 count ≡ Some xs → Going xs 0 start
    at-first xs e = let z : count - 0 ≡ count = omega arith in record { rest = xs; left = rw z e; same = refl }

    -- .. and at most a span's tiles are added for each, to at most n
    pub record Added (n k : ℕ) (g : rule.Figures) : Type 0 where
      pub far : k ≤ count
      pub few : Within (n + k * tile-end) g
      pub going : (xs : List A) → all-from f 0 count ≡ Some xs → Going xs k g

    pub added-none : (n : ℕ) → Within n start → Added n 0 start
    added-none n i = record { far = omega arith; few = within-more (omega arith) i; going = at-first }

    module _ {n k : ℕ} {g : rule.Figures} (i : Added n k g) where
      module _ (h : k < count) {r : Option Kind} (e : r ≡ option_map kind (f k)) where
        one-more : (x : Kind) → r ≡ Some x → (xs : List A) → Going xs k g → Going xs (k + 1) (with-kind (bucket-tiles w) bs x g)
        one-more x y xs j =
            let p = first-read f count k j.rest h j.left in
            let z : kind p.first ≡ x = (let q = rw p.read at (sym e ∙ y) in cc) in
            let s : with-all kind p.rest (with-kind (bucket-tiles w) bs (kind p.first) g) ≡ with-all kind xs start =
            ap (λ (ys : List A). with-all kind ys g) (sym p.whole) ∙ j.same in
            record { rest = p.rest; left = p.more; same = ap (λ (y : Kind). with-all kind p.rest (with-kind (bucket-tiles w) bs y g)) (sym z) ∙ s }

        none-missing : r ≡ None → (xs : List A) → Going xs k g → {B : Type 0} → B
        none-missing y xs j =
            let p = first-read f count k j.rest h j.left in
            let z : ◌≡◌ {A = ℕ} 0 1 = (let q = rw p.read at (sym e ∙ y) in cc) in absurd (omega arith)

        -- the next is added, where there is one
        pub added-next : (x : Kind) → r ≡ Some x → GoodKind x → Added n (k + 1) (with-kind (bucket-tiles w) bs x g)
        added-next x y q =
            record {
              far = omega arith;
              few = within-more (omega arith) (kind-within (n + k * tile-end) x g q i.few);
              going = λ xs a. one-more x y xs (i.going xs a);
            }

        pub added-nothing : r ≡ None → Added n (k + 1) g
        added-nothing y = record { far = omega arith; few = within-more (omega arith) i.few; going = λ xs a. none-missing y xs (i.going xs a) }

      pub added-all : count ≤ k → (xs : List A) → all-from f 0 count ≡ Some xs → g ≡ with-all kind xs start
      added-all h xs a =
          let j = i.going xs a in
          let z = all-read f count k j.rest h j.left in
          rw z at j.same

  pub depths-added : (a : Attrs) (fs : List DepthFill) (g : rule.Figures)
      → with-all (depth-kind (bucket-tiles w) a) fs g ≡ with-fills (bucket-tiles w) bs (depth-fills (bucket-tiles w) a fs) g
  depths-added a [] g = refl
  depths-added a (x ∷ fs) g = depths-added a fs _

  pub commands-added : (a : Attrs) (cs : List Command) (g : rule.Figures)
      → with-all (kind-of a) cs g ≡ with-fills (bucket-tiles w) bs (command-fills (bucket-tiles w) a cs) g
  commands-added a [] g = refl
  commands-added a (paint-fill s x i ∷ cs) g = commands-added a cs _
  commands-added a (layer-fill s x i ∷ cs) g = commands-added a cs _
  commands-added a (push-buf s ∷ cs) g = commands-added a cs g
  commands-added a (pop-buf ∷ cs) g = commands-added a cs g
