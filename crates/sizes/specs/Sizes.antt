-- Every size, limit, table length and place of a field, once, as definitions and contracts name it. `src/lib.rt` has the same for code.
use Rattle.std.specs.Prelude.{ℕ, ◌+◌, ◌-◌, ◌*◌, ◌/◌}
use Rattle.sizes.specs.declared.width.Width.TheVariants.{W64}
use Rattle.sizes.specs.Widths.{bucket-tiles}

-- tiles in a depth bucket of the narrowest width
abbrev pub narrowest : ℕ
narrowest = bucket-tiles W64

-- tile numbers and row numbers are below this, the end of a span is at most this
abbrev pub tile-end : ℕ
tile-end = 8192

-- the same for buckets, at any width
abbrev pub bucket-end : ℕ
bucket-end = tile-end / narrowest

-- a tile in pixels: how wide and how high
abbrev pub tile-width : ℕ
tile-width = 4

abbrev pub tile-height : ℕ
tile-height = 4

-- pixels of the scene: the ends of boxes are at most this
abbrev pub scene-end : ℕ
scene-end = tile-end * tile-width

-- alpha values of one tile
abbrev pub tile-alphas : ℕ
tile-alphas = 16

-- a viewport's width and height in pixels, and its rows
abbrev pub most-width : ℕ
most-width = 4096

abbrev pub most-height : ℕ
most-height = 2048

abbrev pub most-rows : ℕ
most-rows = 512

-- runs in a row of the widest viewport, at any width
abbrev pub most-runs : ℕ
most-runs = most-width / 4 / narrowest / 2

-- C and D: commands and depth fills that a row has room for
abbrev pub most-room : ℕ
most-room = 1024

-- layers open at once
abbrev pub most-layers : ℕ
most-layers = 16

-- attributes of paints and of layers, and paints of filter fills
abbrev pub most-attrs : ℕ
most-attrs = 1024

abbrev pub most-filters : ℕ
most-filters = 256

-- thread numbers and handles are below these; ids go up to the last
abbrev pub thread-end : ℕ
thread-end = 256

abbrev pub handle-end : ℕ
handle-end = 2147483648

abbrev pub last-id : ℕ
last-id = 1048576

-- panel numbers are below this
abbrev pub panel-end : ℕ
panel-end = 256

-- records in a section of a recording file, a file's bytes, and those of a file of which no rows are kept
abbrev pub most-records : ℕ
most-records = 4096

abbrev pub file-bytes : ℕ
file-bytes = 65536

abbrev pub long-file-bytes : ℕ
long-file-bytes = 1048576

-- A row's record: how many commands and depth fills, the depth summary's first tile, end and largest id, how many levels, then
-- three words for each level from 1 on.
abbrev pub renders-at : ℕ
renders-at = 0

abbrev pub depths-at : ℕ
depths-at = 1

abbrev pub first-at : ℕ
first-at = 2

abbrev pub end-at : ℕ
end-at = 3

abbrev pub largest-at : ℕ
largest-at = 4

abbrev pub levels-at : ℕ
levels-at = 5

abbrev pub level-at : ℕ → ℕ
level-at k = 3 + 3 * k

abbrev pub row-size : ℕ
row-size = level-at (most-layers + 1)

-- the words of one record of each table, and of the whole table
abbrev pub open-layer-size : ℕ
open-layer-size = 17

abbrev pub open-layer-table : ℕ
open-layer-table = most-layers * open-layer-size

abbrev pub paint-attr-size : ℕ
paint-attr-size = 9

-- where its id and its panel stand
abbrev pub paint-id-at : ℕ
paint-id-at = 4

abbrev pub paint-panel-at : ℕ
paint-panel-at = 8

abbrev pub paint-attr-table : ℕ
paint-attr-table = most-attrs * paint-attr-size

abbrev pub layer-attr-size : ℕ
layer-attr-size = 7

abbrev pub layer-id-at : ℕ
layer-id-at = 3

abbrev pub layer-panel-at : ℕ
layer-panel-at = 6

abbrev pub layer-attr-table : ℕ
layer-attr-table = most-attrs * layer-attr-size

abbrev pub filter-paint-size : ℕ
filter-paint-size = 4

abbrev pub filter-paint-table : ℕ
filter-paint-table = most-filters * filter-paint-size

-- opacities: those of the open layers, then those of the layer attributes
abbrev pub opacity-count : ℕ
opacity-count = most-layers + most-attrs

-- the words of one painted piece
abbrev pub piece-size : ℕ
piece-size = 7

-- the words of one attribute's line in the story of a tile, and of the lines of all attributes
abbrev pub line-size : ℕ
line-size = 7

abbrev pub line-table : ℕ
line-table = line-size * (most-attrs + most-attrs)

-- a host's words of a screen's numbers
abbrev pub state-size : ℕ
state-size = 17

-- The programs' screens: rows, buckets in a row, and C and D; their tables.
abbrev pub program-rows : ℕ
program-rows = 32

abbrev pub program-buckets : ℕ
program-buckets = most-width / 4 / narrowest

abbrev pub program-room : ℕ
program-room = 64

abbrev pub program-render : ℕ
program-render = program-rows * (4 * program-room)

abbrev pub program-fills : ℕ
program-fills = program-rows * (2 * program-room)

abbrev pub program-depth : ℕ
program-depth = program-rows * program-buckets

abbrev pub program-minima : ℕ
program-minima = program-rows * (2 * program-buckets - 1)

abbrev pub program-records : ℕ
program-records = program-rows * row-size

abbrev pub program-painting : ℕ
program-painting = program-rows * 2
