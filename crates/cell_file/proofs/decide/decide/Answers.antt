use Rattle.std.proofs.Common.{◌≡◌, ◌≤◌, ℕ, List, take, replicate, slice_index, sym, subst}
use Rattle.cell_grid.specs.Kind.{greatest_of}
use Rattle.cell_grid.specs.Pyramid.{kind_of, voxels_of}
use Rattle.cell_file.proofs.FitLemmas.{zeros_fit}
use Rattle.cell_file.proofs.decide.decide.Goals as goal

pub returns-in-Missing-clause-fits : goal.returns-in-Missing-clause-fits
returns-in-Missing-clause-fits c = λ i.
    let most = greatest_of (kind_of c.args.geometry.now c.args.cell) in
    let zeros = subst (λ (n : ℕ). take n c.clear.new.out ≡ replicate n 0) c.voxels.ensures.voxels c.clear.ensures.zeros in
    subst (λ (vs : List ℕ). slice_index vs i ≤ most) (sym zeros) (zeros_fit (voxels_of c.args.geometry.now c.args.cell) i most)
