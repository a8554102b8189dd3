use Rattle.std.proofs.Common.{◌<◌, ◌^◌, ℕ, List, take, slice_index, subst}
use Rattle.voxel_box.specs.Box.{volume}
use Rattle.cell_grid.specs.Kind.{bytes_of}
use Rattle.cell_grid.specs.Pyramid.{kind_of}
use Rattle.cell_file.proofs.FitLemmas.{good_fits}
use Rattle.cell_file.proofs.Widths.{fits_greatest}
use Rattle.cell_file.proofs.decide.read.Goals as goal

pub returns-in-Ok-clause-fits : goal.returns-in-Ok-clause-fits
returns-in-Ok-clause-fits c = λ i.
    let kind = kind_of c.args.geometry.now c.args.cell in
    let fits = good_fits c.width-width.result c.sides-need.result c.full-full.result c.args.bytes.now _ c.in-Ok.ensures.good i in
    let bytes = subst (λ (w : ℕ). slice_index (take (volume c.sides-need.result) c.read_block.new.out) i < 256 ^ w) c.width-width.ensures.bytes fits in
    fits_greatest kind _ (subst (λ (s : List ℕ). slice_index (take (volume s) c.read_block.new.out) i < 256 ^ bytes_of kind) c.sides-need.ensures.sides bytes)
