-- What `info` prints of a pyramid.
use Rattle.std.specs.Prelude.{ℕ, List, ◌++◌, length, codes, slice_index}
use Rattle.std.specs.Fmt.{decimal}
use Rattle.std.specs.List.{enumerate_from, flat_map}
use Rattle.cell_grid.specs.declared.kind.Kind.{Kind}
use Rattle.cell_grid.specs.declared.kind.Kind.TheVariants.{U8, U16, U32, U64}
use Rattle.cell_grid.specs.declared.level.Level.{Level}
use Rattle.cell_grid.specs.Pyramid.{cells_in, cells_of}
use Rattle.run_report.specs.declared.info.Described.{Described}
use Rattle.run_report.specs.Words.{◌␣◌, line}

abbrev pub kind_text : Kind → List ℕ
kind_text U8 = codes "uint8"
kind_text U16 = codes "uint16"
kind_text U32 = codes "uint32"
kind_text U64 = codes "uint64"

-- three numbers, x first
unfoldable pub three_text : List ℕ → List ℕ
three_text sides = decimal (slice_index sides 0) ␣ decimal (slice_index sides 1) ␣ decimal (slice_index sides 2)

-- the line of a level, without its end
abbrev pub line_text : ℕ → Kind → List ℕ → List ℕ → List ℕ → ℕ → List ℕ
line_text number kind size cell factor cells =
    (codes "level" ␣ decimal number ␣ codes "kind" ␣ kind_text kind ␣ codes "size" ␣ three_text size) ␣
    (codes "cell" ␣ three_text cell ␣ codes "factor" ␣ three_text factor ␣ codes "cells" ␣ decimal cells)

abbrev pub described_text : Described → List ℕ
described_text d = line_text d.number d.kind d.size d.cell d.factor d.cells

-- a level, by its number and its count of cells
abbrev pub level_text : ℕ → Level → ℕ → List ℕ
level_text number l cells = line_text number l.kind l.extent.dims l.extent.cell l.factor cells

abbrev pub numbered_line : ℕ × Level → List ℕ
numbered_line numbered = line (level_text numbered.0 numbered.1 (cells_in numbered.1))

abbrev pub counts_line : List Level → List ℕ
counts_line levels = line (codes "levels" ␣ decimal (length levels) ␣ codes "cells" ␣ decimal (cells_of levels))

-- a line for the counts of levels and cells, and a line for each level
abbrev pub info_text : List Level → List ℕ
info_text levels = counts_line levels ++ flat_map numbered_line (enumerate_from 0 levels)
