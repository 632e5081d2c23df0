-- Each bound of the rules on both sides of its edge, and each leaf rule that says yes or no.
use Rattle.std.specs.Prelude.{ℕ, ◌≡◌, Bool, true, false, not, cond, List, [], ◌∷◌, Option, None, Some}
use Rattle.rules.specs.Lists.{every}
use Rattle.rules.specs.Boxes.{box, good-box, good-dest, good_viewport, empty-box}
use Rattle.rules.specs.Spans.{span, covers, bad-range, good-range}
use Rattle.rules.specs.Blends.{Blend, default-blend, good-blend, is-default, destructive}
use Rattle.rules.specs.Segments.{good-segment, follows, ordered}
use Rattle.rules.specs.Inputs.{Clip, Props, good-handle, good-thread, good-panel, good-paint, few-paints, good-draw, good-clip, good-props, needs-buffer, good-pixmap, good-filter}
use Rattle.rules.specs.Depth.{Summary, no-depth, included, can_skip, is-visible}
use Rattle.rules.specs.Recording.{good-count, pixmap-of}
use Rattle.rules.specs.Walk.{good-room}
use Rattle.rules.specs.Lines.{too_long}
use Rattle.rules.specs.cases.Samples.{solid, alpha, opaque-paint, any-draw, any-props, full, filter, pictureless, blend, clip}

-- a draw with paint 0 and everything in bounds, changed in one field
abbrev pub drawn-for : ℕ → ℕ → ℕ → ℕ → ℕ → Blend → ℕ → Bool
drawn-for q th a b p bl m =
    good-draw (opaque-paint ∷ record { opaque = 2; handle = 0 } ∷ []) (solid 0 0 1 ∷ solid 0 1 2 ∷ [])
    (any-draw th a b p bl m q)

abbrev pub drawn : ℕ → ℕ → ℕ → ℕ → Blend → ℕ → Bool
drawn = drawn-for 0

-- a layer's properties
abbrev pub props : Blend → ℕ → ℕ → Option Clip → Props
props b o m c = any-props b o m c 0

-- two depth fills, the newer one with the smaller id
abbrev pub two-fills : Summary
two-fills = included (included no-depth (span 64 96) 9) (span 128 160) 5

-- a test, and what it has to say
pub record Tested : Type 0 where
  pub got : Bool
  pub due : Bool

infixl 70 ◌is◌
abbrev pub ◌is◌ : Bool → Bool → Tested
◌is◌ a b = record { got = a; due = b }

abbrev pub right : Tested → Bool
right t = cond t.due t.got (not t.got)

abbrev pub edges : List Tested
edges =
    -- the viewport
    good_viewport (box 0 0 4096 2048) is true
    ∷ good_viewport (box 0 0 4100 2048) is false
    ∷ good_viewport (box 0 0 4096 2052) is false
    ∷ good_viewport (box 28672 30720 32768 32768) is true
    ∷ good_viewport (box 28676 30720 32772 32768) is false
    ∷ good_viewport (box 28672 30724 32768 32772) is false
    ∷ good_viewport (box 4 0 0 4) is false
    ∷ good_viewport (box 0 4 4 0) is false
    ∷ good_viewport (box 4 4 4 4) is true
    -- a clip's box is a multiple of 4 at each end; a dest box in x alone
    ∷ good-box (box 4 8 12 16) is true
    ∷ good-box (box 5 8 12 16) is false
    ∷ good-box (box 4 9 12 16) is false
    ∷ good-box (box 4 8 13 16) is false
    ∷ good-box (box 4 8 12 17) is false
    ∷ good-dest (box 4 9 12 17) is true
    ∷ good-dest (box 5 9 12 17) is false
    ∷ good-dest (box 4 9 13 17) is false
    ∷ good-dest (box 4 17 12 9) is false
    ∷ good-dest (box 0 0 32768 32768) is true
    ∷ good-dest (box 0 0 32772 32768) is false
    ∷ good-dest (box 0 0 32768 32769) is false
    ∷ empty-box (box 0 0 4 4) is false
    ∷ empty-box (box 4 0 4 4) is true
    ∷ empty-box (box 0 4 4 4) is true
    ∷ empty-box (box 8 0 4 4) is true
    -- how many paints are lent
    ∷ few-paints 4096 is true
    ∷ few-paints 4097 is false
    -- blends
    ∷ good-blend (blend 15 13) is true
    ∷ good-blend (blend 16 13) is false
    ∷ good-blend (blend 15 14) is false
    ∷ is-default (blend 0 3) is true
    ∷ is-default (blend 1 3) is false
    ∷ is-default (blend 0 2) is false
    ∷ is-default (blend 0 4) is false
    ∷ destructive 0 is true
    ∷ destructive 1 is true
    ∷ destructive 2 is false
    ∷ destructive 3 is false
    ∷ destructive 4 is false
    ∷ destructive 5 is true
    ∷ destructive 6 is true
    ∷ destructive 7 is true
    ∷ destructive 8 is false
    ∷ destructive 9 is false
    ∷ destructive 10 is true
    ∷ destructive 11 is false
    ∷ destructive 12 is false
    ∷ destructive 13 is false
    -- handles, threads, ranges, paints
    ∷ good-handle 2147483647 is true
    ∷ good-handle 2147483648 is false
    ∷ good-thread 255 is true
    ∷ good-thread 256 is false
    ∷ good-panel 255 is true
    ∷ good-panel 256 is false
    ∷ good-range 3 3 3 is true
    ∷ good-range 3 4 3 is false
    ∷ good-range 3 2 3 is false
    ∷ good-paint (record { opaque = 1; handle = 2147483647 }) is true
    ∷ good-paint (record { opaque = 2; handle = 0 }) is false
    ∷ good-paint (record { opaque = 0; handle = 2147483648 }) is false
    -- segments
    ∷ good-segment (solid 8191 8191 8192) is true
    ∷ good-segment (solid 8192 0 1) is false
    ∷ good-segment (solid 0 8192 8193) is false
    ∷ good-segment (solid 0 5 5) is false
    ∷ good-segment (record { kind = 0; row = 0; first = 0; end = 1; alpha = 1 }) is false
    ∷ good-segment (record { kind = 2; row = 0; first = 0; end = 1; alpha = 1 }) is false
    ∷ good-segment (alpha 0 0 1 4294967279) is true
    ∷ good-segment (alpha 0 0 1 4294967280) is false
    ∷ good-segment (alpha 0 10 20 4294967135) is true
    ∷ good-segment (alpha 0 10 20 4294967136) is false
    ∷ follows (solid 3 5 9) (solid 3 9 10) is true
    ∷ follows (solid 3 5 9) (solid 3 8 10) is false
    ∷ follows (solid 3 5 9) (solid 4 0 1) is true
    ∷ follows (solid 3 5 9) (solid 2 9 10) is false
    ∷ ordered (solid 0 0 1 ∷ solid 0 1 2 ∷ solid 0 2 3 ∷ []) is true
    ∷ ordered (solid 0 0 1 ∷ solid 0 1 3 ∷ solid 0 2 3 ∷ []) is false
    -- draws: panel, then thread, range, paint, blend, mask
    ∷ drawn-for 255 0 0 2 0 default-blend 0 is true
    ∷ drawn-for 256 0 0 2 0 default-blend 0 is false
    ∷ drawn 255 0 2 0 default-blend 0 is true
    ∷ drawn 256 0 2 0 default-blend 0 is false
    ∷ drawn 0 2 2 0 default-blend 0 is true
    ∷ drawn 0 0 3 0 default-blend 0 is false
    ∷ drawn 0 2 1 0 default-blend 0 is false
    ∷ drawn 0 0 2 1 default-blend 0 is false
    ∷ drawn 0 0 2 2 default-blend 0 is false
    ∷ drawn 0 0 2 0 (blend 0 14) 0 is false
    ∷ drawn 0 0 2 0 default-blend 2147483648 is false
    -- clips and layers
    ∷ good-clip (clip (box 0 0 4 4) 2 2 255) is true
    ∷ good-clip (clip (box 0 0 4 2) 2 2 255) is false
    ∷ good-clip (clip (box 0 0 4 4) 2 1 255) is false
    ∷ good-clip (clip (box 0 0 4 4) 2 2 256) is false
    ∷ good-props (props default-blend 0 2147483647 None) is true
    ∷ good-props (props (blend 16 0) 0 0 None) is false
    ∷ good-props (props default-blend 0 2147483648 None) is false
    ∷ good-props (props default-blend 0 0 (Some (clip (box 0 0 4 4) 2 1 0))) is false
    -- what makes a filter layer need a buffer: blend, opacity, mask, clip
    ∷ needs-buffer (props default-blend full 0 None) is false
    ∷ needs-buffer (props (blend 1 3) full 0 None) is true
    ∷ needs-buffer (props (blend 0 4) full 0 None) is true
    ∷ needs-buffer (props default-blend 1065353215 0 None) is true
    ∷ needs-buffer (props default-blend 1065353217 0 None) is true
    ∷ needs-buffer (props default-blend full 1 None) is true
    ∷ needs-buffer (props default-blend full 0 (Some (clip (box 0 0 4 4) 0 0 0))) is true
    -- a picture's handle, its word in a file, and filters
    ∷ good-pixmap None is true
    ∷ good-pixmap (Some 0) is true
    ∷ good-pixmap (pixmap-of 2147483648) is true
    ∷ good-pixmap (pixmap-of 2147483649) is false
    ∷ good-filter (filter 2147483647 (box 0 1 4 3) 32768 32768) is true
    ∷ good-filter (filter 2147483648 (box 0 1 4 3) 0 0) is false
    ∷ good-filter (filter 1 (box 0 1 4 3) 32769 0) is false
    ∷ good-filter (filter 1 (box 0 1 4 3) 0 32769) is false
    ∷ good-filter (filter 1 (box 0 3 4 1) 0 0) is false
    ∷ good-filter (pictureless (box 0 1 4 3) 32768 32768) is true
    ∷ good-filter (pictureless (box 0 1 4 3) 32769 0) is false
    ∷ good-filter (pictureless (box 0 3 4 1) 0 0) is false
    -- limits of counts, of C and D, and of rowlist's file
    ∷ good-count false 0 is true
    ∷ good-count false 4096 is true
    ∷ good-count false 4097 is false
    ∷ good-count true 0 is false
    ∷ good-count true 1 is true
    ∷ good-count true 2 is false
    ∷ good-room 0 is false
    ∷ good-room 1 is true
    ∷ good-room 1024 is true
    ∷ good-room 1025 is false
    ∷ too_long 65536 is false
    ∷ too_long 65537 is true
    -- ranges of runs, splits and can_skip; spans
    ∷ bad-range 8192 (span 8192 8192) is false
    ∷ bad-range 8192 (span 8192 8193) is true
    ∷ bad-range 8192 (span 6 5) is true
    ∷ covers (span 3 5) 2 is false
    ∷ covers (span 3 5) 3 is true
    ∷ covers (span 3 5) 4 is true
    ∷ covers (span 3 5) 5 is false
    -- can_skip: the largest id counts and not the last, the largest itself may skip, and what lies outside the hull may
    ∷ can_skip two-fills (span 64 65) 9 is true
    ∷ can_skip two-fills (span 64 65) 8 is false
    ∷ can_skip two-fills (span 100 101) 8 is false
    ∷ can_skip two-fills (span 159 170) 8 is false
    ∷ can_skip two-fills (span 160 170) 8 is true
    ∷ can_skip two-fills (span 60 64) 8 is true
    ∷ can_skip two-fills (span 60 65) 8 is false
    ∷ can_skip no-depth (span 0 1) 0 is true
    ∷ is-visible 7 7 is true
    ∷ is-visible 7 8 is false
    ∷ []

abbrev pub EdgesHold : Type 0
EdgesHold = every right edges ≡ true
