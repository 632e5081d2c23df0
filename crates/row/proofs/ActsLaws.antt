-- What the acts do to a row of words. Assumes nothing.
use Rattle.std.proofs.Common.{◌≡◌, refl, sym, ap, ◌∙◌, Bool, true, false, ◌&&◌, not, cond, List, [], ◌∷◌, Option, None, Some, Result, Ok, Err, ℕ, zero, suc, ◌+◌, ◌-◌, ◌/◌, ◌≤◌, ◌<◌, arith, leb, ltb, length, le-leb, leb-false}
use mathlib.Core.List.{foldl}
use Rattle.rules.specs.Lists.{times, keep}
use Rattle.rules.specs.Answers.{Answer, answer}
use Rattle.rules.specs.Spans.{Span, span, bad-range}
use Rattle.rules.specs.Split.{Part, regular, buckets, split, split_answer, raised, lowered}
use Rattle.rules.specs.Plans.{Act, paint, opaque, touch, close, pop, draw-act}
use Rattle.rules.specs.Steps.{do-act, put-part}
use Rattle.rules.specs.Commands.{Command, paint-fill, layer-fill, DepthFill}
use Rattle.rules.proofs.All.{never, All, nil, cons, head, tail, all-if, all_keep}
use Rattle.span.specs.Spans.{tiles, buckets as bucket-span}
use Rattle.span.specs.declared.TileSpan.{TileSpan}
use Rattle.span.specs.declared.BucketRange.{BucketRange}
use Rattle.sizes.specs.declared.width.Width.{Width}
use Rattle.sizes.specs.declared.answers.Refusal.{Refusal}
use Rattle.sizes.specs.Widths.{bucket-tiles}
use Rattle.rules.proofs.laws.Widths.{below-small, raised-short, raised-least, lowered-most}
use Rattle.depth.specs.declared.split.Split.{Split}
use Rattle.depth.specs.declared.split.Split.TheVariants.{Whole, Opaque}
use Rattle.depth.specs.Answers.{beside, split_of}
use Rattle.row.specs.Cmds.{Short}
use Rattle.row.specs.Words.{Words, word, put_command, put_buf, end_buf, put_depth, word-ops, Room, Grown}
use Rattle.row.proofs.WordsLaws.{cmd-grown, cmd-levels, buf-grown, buf-levels, fill-grown, fill-levels, end-grown, end-levels, grown-refl, grown-trans, room-first, room-rest}
use Rattle.row.specs.Acts.{ensured, acted, parted, ShortEdge, edged, unsplit, drawn}

-- w' is w grown, and its levels are at most 16
pub record Sound (w w' : Words) : Type 0 where
  pub grown : Grown w w'
  pub levels : word 5 w' ≤ 16

pub sound-trans : {u v w : Words} → Sound u v → Sound v w → Sound u w
sound-trans g h = record { grown = grown-trans g.grown h.grown; levels = h.levels }

-- room for a whole run is room for what is left after its first part
pub room_after : {u v w : Words} → Sound u v → Room u w → Room v w
room_after g r = room-rest g.grown g.levels r

module _ (w : Words) (l : length w.state ≡ 54) (k : word 5 w ≤ 16) where
  pub cmd-sound : (c : Command) → Sound w (put_command c w)
  cmd-sound c = record { grown = cmd-grown w l c; levels = omega (arith, cmd-levels w l c) }

  pub fill-sound : (v : ℕ) (f : DepthFill) (id : ℕ) → Sound w (put_depth v f id w)
  fill-sound v f id = record { grown = fill-grown w l v f id; levels = omega (arith, fill-levels w l v f id) }

  pub end-sound : Sound w (end_buf w)
  end-sound = record { grown = end-grown w l; levels = omega (arith, end-levels w l) }

  pub same-sound : Sound w w
  same-sound = record { grown = grown-refl w; levels = k }

  pub edge-sound : (e : Option TileSpan) (i : ℕ) → Sound w (edged e i w)
  edge-sound None i = same-sound
  edge-sound (Some s) i = cmd-sound (paint-fill (tiles s) None i)

state-long : {w w' : Words} → Sound w w' → length w.state ≡ 54 → length w'.state ≡ 54
state-long s l = s.grown.state ∙ l

-- rule 5
one_less : (n k : ℕ) → k < n → n - k ≡ suc (n - (k + 1))
one_less n k h = omega arith

buf-sound : (w : Words) → length w.state ≡ 54 → word 5 w ≤ 15 → Sound w (put_buf w)
buf-sound w l h = record { grown = buf-grown w l h; levels = omega (arith, buf-levels w l h) }

layers-sound : (j : ℕ) (w : Words) → length w.state ≡ 54 → word 5 w + j ≤ 16 → Sound w (times j put_buf w)
layers-sound zero w l h = same-sound w l (omega arith)
layers-sound (suc j) w l h =
    let s : Sound w (put_buf w) = buf-sound w l (omega arith) in
    sound-trans s (layers-sound j (put_buf w) (state-long s l) (omega (arith, buf-levels w l (omega arith))))

pub ensured-sound : (n : ℕ) (w : Words) → n ≤ 16 → length w.state ≡ 54 → word 5 w ≤ 16 → Sound w (ensured n w)
ensured-sound n w m l k = layers-sound (n - word 5 w) w l (omega arith)

-- the loop over the layers that a row lacks, at level k of n, on its way to t
pub record Layering (n : ℕ) (t s : Words) (k : ℕ) (w : Words) : Type 0 where
  pub level : k ≡ word 5 w
  pub grown : Grown s w
  pub room : Room w t
  pub rest : times (n - k) put_buf w ≡ t

module _ {n k : ℕ} {s t w : Words} (v : Layering n t s k w) where
  module _ (m : n ≤ 16) (h : k < n) where
    next : times (n - (k + 1)) put_buf (put_buf w) ≡ t
    next = rw (one_less n k h) at v.rest

    own : Sound w (put_buf w)
    own = buf-sound w v.room.state (omega (arith, v.level))

    pub layers_room : Room w (put_buf w)
    layers_room =
        let g : Sound (put_buf w) (times (n - (k + 1)) put_buf (put_buf w)) =
        layers-sound (n - (k + 1)) (put_buf w) (state-long own v.room.state) (omega (arith, buf-levels w v.room.state (omega (arith, v.level)), v.level)) in
        room-first (rw next at g.grown) v.room

    pub layers_again : {u : Words} → u ≡ put_buf w → Layering n t s (k + 1) u
    layers_again e =
        rw e
        (record {
          level = omega (arith, buf-levels w v.room.state (omega (arith, v.level)), v.level);
          grown = grown-trans v.grown own.grown;
          room = room_after own v.room;
          rest = next;
        })

-- rule 7
abbrev deep : Span → ℕ → DepthFill
deep s i = record { buckets = s; attribute = i }

module _ (v i id : ℕ) where
  part_sound : (w : Words) → length w.state ≡ 54 → word 5 w ≤ 16 → (p : Part) → Sound w (put-part Words word-ops v i id w p)
  part_sound w l k (regular s) = cmd-sound w l k (paint-fill s None i)
  part_sound w l k (buckets s) = fill-sound w l k v (record { buckets = s; attribute = i }) id

  parts-sound : (ps : List Part) (w : Words) → length w.state ≡ 54 → word 5 w ≤ 16 → Sound w (foldl (put-part Words word-ops v i id) w ps)
  parts-sound [] w l k = same-sound w l k
  parts-sound (p ∷ ps) w l k =
      let s : Sound w (put-part Words word-ops v i id w p) = part_sound w l k p in
      sound-trans s (parts-sound ps (put-part Words word-ops v i id w p) (state-long s l) s.levels)

-- what the split of a span says of its parts
abbrev ShortPart : Part → Type 0
ShortPart (regular s) = Short s
ShortPart (buckets s) = Short s

parts-short : (width : Width) (s : Span) → Short s → All ShortPart (split (bucket-tiles width) s)
unfolding split
parts-short width s h =
    let a = raised (bucket-tiles width) s.first in
    let b = lowered (bucket-tiles width) s.end in
    let low : a ≤ 8192 = raised-short width s.first h.0 in
    let high : b ≤ s.end = lowered-most width s.end in
    all-if (leb b a) (cons h nil)
    (all_keep (ltb s.first a) (regular (span s.first a)) (h.0, low)
    (cons (omega (arith, below-small width a), omega (arith, below-small width b)) (all_keep (ltb b s.end) (regular (span b s.end)) (omega arith, h.1) nil)))

told-by : (v : ℕ) (s : Span) (ps : List Part) (t : Bool) → answer 0 ps ≡ cond t (answer 12 []) (answer 0 (split v s)) → split v s ≡ ps
told-by v s ps true e = let z : ◌≡◌ {A = ℕ} 0 12 = ap (λ (x : Answer (List Part)). x.number) e in absurd (omega arith)
told-by v s ps false e = sym (ap (λ (x : Answer (List Part)). x.value) e)

split-told : (v : ℕ) (s : Span) (ps : List Part) → answer 0 ps ≡ split_answer v s → split v s ≡ ps
unfolding split_answer
split-told v s ps e = told-by v s ps (bad-range 8192 s) e

some-parts : (t c d : Bool) (x y z v : Part) → 1 ≤ length (cond t (x ∷ []) (keep c y (z ∷ keep d v [])))
some-parts true c d x y z v = omega arith
some-parts false true d x y z v = omega arith
some-parts false false d x y z v = omega arith

split-some : (v : ℕ) (s : Span) → 1 ≤ length (split v s)
unfolding split
split-some v s =
    let a = raised v s.first in
    let b = lowered v s.end in
    some-parts (leb b a) (ltb s.first a) (ltb b s.end) (regular s) (regular (span s.first a)) (buckets (span (a / v) (b / v))) (regular (span b s.end))

-- a span that is refused starts after its end
backwards : (v : ℕ) (s : Span) → s.end ≤ 8192 → (b c : Bool) → leb s.first s.end ≡ b → leb s.end 8192 ≡ c
    → {n : ℕ} → answer n [] ≡ cond (not (b && c)) (answer 12 []) (answer 0 (split v s)) → s.end ≤ s.first
backwards v s h false c p q e = omega (arith, leb-false s.first s.end p)
backwards v s h true false p q e = absurd (omega (arith, leb-false s.end 8192 q))
backwards v s h true true p q e =
    let z : ◌≡◌ {A = ℕ} 0 (length (split v s)) = ap (λ (x : Answer (List Part)). length x.value) e in
    absurd (omega (arith, split-some v s))

refused-back : (v : ℕ) (s : Span) → s.end ≤ 8192 → {n : ℕ} → answer n [] ≡ split_answer v s → s.end ≤ s.first
unfolding split_answer
refused-back v s h e = backwards v s h _ _ refl refl e

-- by what the code finds of a span's split: its parts are short, they come to the whole, and each has room
module _ (width : Width) (i id : ℕ) (s : Span) (h : Short s) (w : Words) (o : Room w (parted (bucket-tiles width) i id s w)) {r : Result Split Refusal} (e : split_of r ≡ split_answer (bucket-tiles width) s) where
  pub refused_is : {x : Refusal} → r ≡ Err x → parted (bucket-tiles width) i id s w ≡ put_command (paint-fill s None i) w
  unfolding split
  refused_is t =
      rw (le-leb (lowered (bucket-tiles width) s.end) (raised (bucket-tiles width) s.first) (omega (
        arith,
        refused-back (bucket-tiles width) s h.1 (ap split_of (sym t) ∙ e),
        raised-least width s.first,
        lowered-most width s.end,
      )))

  pub refused_asks : {x : Refusal} → r ≡ Err x → Short s × Room w (put_command (paint-fill s None i) w)
  refused_asks t = (h, rw (refused_is t) at o)

  module _ {p : Split} (g : r ≡ Ok p) where
    module _ (u : TileSpan) (t : p ≡ Whole u) where
      only : split (bucket-tiles width) s ≡ regular (tiles u) ∷ []
      only = split-told (bucket-tiles width) s (regular (tiles u) ∷ []) (ap split_of (sym (g ∙ ap Ok t)) ∙ e)

      pub whole_is : parted (bucket-tiles width) i id s w ≡ put_command (paint-fill (tiles u) None i) w
      whole_is = ap (λ (ps : List Part). foldl (put-part Words word-ops (bucket-tiles width) i id) w ps) only

      pub whole_asks : Short (tiles u) × Room w (put_command (paint-fill (tiles u) None i) w)
      whole_asks = (head (rw only at (parts-short width s h)), rw whole_is at o)

    module _ (a : Option TileSpan) (b : BucketRange) (c : Option TileSpan) (t : p ≡ Opaque a b c) where
      three : split (bucket-tiles width) s ≡ beside a (buckets (bucket-span b) ∷ beside c [])
      three = split-told (bucket-tiles width) s (beside a (buckets (bucket-span b) ∷ beside c [])) (ap split_of (sym (g ∙ ap Ok t)) ∙ e)

      abbrev mid : Words
      mid = put_depth (bucket-tiles width) (deep (bucket-span b) i) id (edged a i w)

      folded : (x y : Option TileSpan) → foldl (put-part Words word-ops (bucket-tiles width) i id) w (beside x (buckets (bucket-span b) ∷ beside y []))
          ≡ edged y i (put_depth (bucket-tiles width) (deep (bucket-span b) i) id (edged x i w))
      folded None None = refl
      folded None (Some v) = refl
      folded (Some u) None = refl
      folded (Some u) (Some v) = refl

      pieces_are : parted (bucket-tiles width) i id s w ≡ edged c i mid
      pieces_are = ap (λ (ps : List Part). foldl (put-part Words word-ops (bucket-tiles width) i id) w ps) three ∙ folded a c

      all_short : (x y : Option TileSpan) → All ShortPart (beside x (buckets (bucket-span b) ∷ beside y [])) → ShortEdge x × Short (bucket-span b) × ShortEdge y
      all_short None None k = (tt, head k, tt)
      all_short None (Some v) k = (tt, head k, head (tail k))
      all_short (Some u) None k = (head k, head (tail k), tt)
      all_short (Some u) (Some v) k = (head k, head (tail k), head (tail (tail k)))

      short : ShortEdge a × Short (bucket-span b) × ShortEdge c
      short = all_short a c (rw three at (parts-short width s h))

      room : Room w (edged c i mid)
      room = rw pieces_are at o

      s1 : Sound w (edged a i w)
      s1 = edge-sound w o.state o.levels a i

      s2 : Sound (edged a i w) mid
      s2 = fill-sound (edged a i w) (state-long s1 o.state) s1.levels (bucket-tiles width) (deep (bucket-span b) i) id

      s3 : Sound mid (edged c i mid)
      s3 = edge-sound mid (state-long (sound-trans s1 s2) o.state) s2.levels c i

      pub before_asks : ShortEdge a × Room w (edged a i w)
      before_asks = (short.0, room-first (sound-trans s2 s3).grown room)

      module _ {u : Words} (f : u ≡ edged a i w) where
        pub buckets_ask : Short (bucket-span b) × Room u (put_depth (bucket-tiles width) (deep (bucket-span b) i) id u)
        buckets_ask = (short.1, rw f (room-first s3.grown (room_after s1 room)))

        module _ {v : Words} (q : v ≡ put_depth (bucket-tiles width) (deep (bucket-span b) i) id u) where
          pub after_asks : ShortEdge c × Room v (edged c i v)
          after_asks = (short.2, rw (q, f) (room_after (sound-trans s1 s2) room))

          pub pieces_done : {x : Words} → x ≡ edged c i v → x ≡ parted (bucket-tiles width) i id s w
          pieces_done k = rw (k, q, f) (sym pieces_are)

-- rules 5 to 7
module _ (v n : ℕ) (s : Span) (i id : ℕ) (w : Words) where
  pub drawn-alpha : (e : Bool) (a : ℕ) → drawn v n e s (Some a) i id w ≡ put_command (paint-fill s (Some a) i) (ensured n w)
  unfolding do-act draw-act
  drawn-alpha true a = refl
  drawn-alpha false a = refl

  pub drawn-parts : drawn v n true s None i id w ≡ parted v i id s (ensured n w)
  unfolding do-act draw-act
  drawn-parts = refl

  pub drawn_plain : drawn v n false s None i id w ≡ put_command (paint-fill s None i) (ensured n w)
  unfolding do-act draw-act
  drawn_plain = refl

  drawn-one : (e : Bool) (a : Option ℕ) → unsplit e a ≡ true → drawn v n e s a i id w ≡ put_command (paint-fill s a i) (ensured n w)
  drawn-one e (Some a) t = drawn-alpha e a
  drawn-one false None t = drawn_plain
  drawn-one true None t = never (sym t)

  drawn-split : (e : Bool) (a : Option ℕ) → unsplit e a ≡ false → drawn v n e s a i id w ≡ parted v i id s (ensured n w)
  drawn-split e (Some a) t = never t
  drawn-split false None t = never t
  drawn-split true None t = drawn-parts

module _ (v n i id : ℕ) (s : Span) (w : Words) (l : length w.state ≡ 54) (k : word 5 w ≤ 16) (m : n ≤ 16) where
  layered : Sound w (ensured n w)
  layered = ensured-sound n w m l k

  -- the act after its layers
  drawn-after : (e : Bool) (a : Option ℕ) → Sound (ensured n w) (drawn v n e s a i id w)
  unfolding do-act draw-act
  drawn-after true None = parts-sound v i id (split v s) (ensured n w) (state-long layered l) layered.levels
  drawn-after true (Some a) = cmd-sound (ensured n w) (state-long layered l) layered.levels (paint-fill s (Some a) i)
  drawn-after false None = cmd-sound (ensured n w) (state-long layered l) layered.levels (paint-fill s None i)
  drawn-after false (Some a) = cmd-sound (ensured n w) (state-long layered l) layered.levels (paint-fill s (Some a) i)

  -- its layers have room
  pub first_room : (e : Bool) (a : Option ℕ) → Room w (drawn v n e s a i id w) → Room w (ensured n w)
  first_room e a r = room-first (drawn-after e a).grown r

  pub drawn-sound : (e : Bool) (a : Option ℕ) → Sound w (drawn v n e s a i id w)
  drawn-sound e a = sound-trans layered (drawn-after e a)

-- a draw that is not eligible puts one command
pub plain-unsplit : (a : Option ℕ) → unsplit false a ≡ true
plain-unsplit None = refl
plain-unsplit (Some a) = refl

-- after the layers, at u, the rest has room
pub layers-then : (n : ℕ) {u w t : Words} → n ≤ 16 → u ≡ ensured n w → Room w t → Room u t
layers-then n {u} {w} m e r = rw e (room_after (ensured-sound n w m r.state r.levels) r)

-- rule 6: one command, or the parts, at u after the layers
module _ (v n i id : ℕ) (s : Span) (e : Bool) (a : Option ℕ) (w : Words) {u : Words} (l : u ≡ ensured n w) where
  module _ (t : unsplit e a ≡ true) where
    pub one_asks : n ≤ 16 → Room w (drawn v n e s a i id w) → Room u (put_command (paint-fill s a i) u)
    one_asks m r = rw l (rw l at (layers-then n m l (rw (drawn-one v n s i id w e a t) at r)))

    pub one_done : {x : Words} → x ≡ put_command (paint-fill s a i) u → x ≡ drawn v n e s a i id w
    one_done q = q ∙ rw l (sym (drawn-one v n s i id w e a t))

  module _ (t : unsplit e a ≡ false) where
    pub parts_ask : n ≤ 16 → Room w (drawn v n e s a i id w) → Room u (parted v i id s u)
    parts_ask m r = rw l (rw l at (layers-then n m l (rw (drawn-split v n s i id w e a t) at r)))

    pub parts_done : {x : Words} → x ≡ parted v i id s u → x ≡ drawn v n e s a i id w
    parts_done q = q ∙ rw l (sym (drawn-split v n s i id w e a t))

-- any act
pub acted-sound : (v n : ℕ) (w : Words) → length w.state ≡ 54 → word 5 w ≤ 16 → n ≤ 16 → (a : Act) → Sound w (acted v n a w)
unfolding do-act draw-act
acted-sound v n w l k m (paint s a i) = drawn-sound v n i 0 s w l k m false a
acted-sound v n w l k m (opaque s i id) = drawn-sound v n i id s w l k m true None
acted-sound v n w l k m touch = ensured-sound n w m l k
acted-sound v n w l k m (close s a i) = cmd-sound w l k (layer-fill s a i)
acted-sound v n w l k m pop = end-sound w l k

-- the acts that are one operation, or rule 5 alone
module _ (v n : ℕ) (w : Words) where
  pub touch_is : acted v n touch w ≡ ensured n w
  unfolding do-act
  touch_is = refl

  -- rule 11: a filter's row is a solid fill that is not eligible
  pub paint-is : (s : Span) (i id : ℕ) → acted v n (paint s None i) w ≡ drawn v n false s None i id w
  unfolding draw-act
  paint-is s i id = refl
