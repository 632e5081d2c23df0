-- The bytes of what `rowdump` prints after the lines of `rowlist`, with panels or without.
use Rattle.std.specs.Prelude.{ℕ, Bool, true, false, List, [], ◌∷◌, ◌++◌, codes}
use Rattle.rules.specs.Lists.{join}
use Rattle.rules.specs.Lines.{number, alpha-bytes}
use Rattle.text.specs.Details.{Detail, paint-attributes, A, layer-attributes, Y, filter-paints, F, painted, p, l}
use Rattle.text.specs.Texts.{signed}

-- the words "paint attributes", "layer attributes", "filter paints", "painted", " pieces"
abbrev pub paint-text : List ℕ
paint-text = codes "paint attributes"

abbrev pub layer-text : List ℕ
layer-text = codes "layer attributes"

abbrev pub filter-text : List ℕ
filter-text = codes "filter paints"

abbrev pub painted-text : List ℕ
painted-text = codes "painted"

abbrev pub pieces-text : List ℕ
pieces-text = codes " pieces"

-- a line has at most so many bytes, and a row's or a piece's so many
abbrev pub detail-room : ℕ
detail-room = 112

abbrev pub piece-room : ℕ
piece-room = 72

-- a panel stands last, where panels are shown
abbrev pub panel-bytes : Bool → ℕ → List ℕ
panel-bytes true q = number q
panel-bytes false q = []

-- what a p and an l have in common
abbrev pub piece_bytes : ℕ → ℕ → ℕ → List ℕ → ℕ → List ℕ → List ℕ
piece_bytes a first end alpha n panel = number a ++ (number first ++ (number end ++ (alpha ++ (number n ++ panel))))

-- a line without its line feed; v: panels are shown
abbrev pub detail-line : Bool → Detail → List ℕ
detail-line v (paint-attributes n) = paint-text ++ number n
detail-line v (A a b c d e f x y q) =
    65 ∷ (number a ++ (number b ++ (number c ++ (number d ++ (number e ++ (number f ++ (number x ++ (number y ++ panel-bytes v q))))))))
detail-line v (layer-attributes n) = layer-text ++ number n
detail-line v (Y a b c d e f q) =
    89 ∷ (number a ++ (number b ++ (number c ++ (number d ++ (number e ++ (number f ++ panel-bytes v q))))))
detail-line v (filter-paints n) = filter-text ++ number n
detail-line v (F a b x y) = 70 ∷ (number a ++ (number b ++ (signed x ++ signed y)))
detail-line v (painted r n) = painted-text ++ (number r ++ (pieces-text ++ number n))
detail-line v (p a f e x n q) = 112 ∷ piece_bytes a f e (alpha-bytes x) n (panel-bytes v q)
detail-line v (l a f e x n q) = 108 ∷ piece_bytes a f e (alpha-bytes x) n (panel-bytes v q)

-- each line ends in a line feed
unfoldable pub detail-bytes : Bool → Detail → List ℕ
detail-bytes v d = detail-line v d ++ (10 ∷ [])

abbrev pub details-text : Bool → List Detail → List ℕ
details-text v ds = join (detail-bytes v) ds
