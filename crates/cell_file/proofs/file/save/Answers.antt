use Rattle.std.proofs.Common.{◌≡◌, ◌∙◌, ◌+◌, ◌*◌, ◌≤◌, [], ◌∷◌, List, ℕ, length, take, slice_index, refl, ap, subst, arith}
use Rattle.voxel_box.specs.Box.{volume, AreWithin}
use Rattle.cell_grid.specs.declared.level.Level.{Level}
use Rattle.cell_grid.specs.Pyramid.{full_of, kind_of, IsPyramid}
use Rattle.cell_store.specs.Store.{SameElsewhere, put_in, held_of}
use Rattle.cell_store.specs.declared.store.Put.TheVariants as put
use Rattle.n5_block.specs.Block.{block}
use Rattle.cell_file.specs.Keys.{edited_key}
use Rattle.cell_file.specs.Standing.{width_of, limit_of}
use Rattle.cell_file.proofs.AskLemmas.{puts_at}
use Rattle.cell_file.proofs.PlaceLemmas.{full_small}
use Rattle.cell_file.proofs.SaveLemmas.{elsewhere, others_stand_of, values_stand, block_gives, block_short, take_short}
use Rattle.cell_file.proofs.Widths.{greatest_fits}
use Rattle.cell_file.proofs.file.save.Goals as goal

pub returns-in-Done-clause-saved : goal.returns-in-Done-clause-saved
returns-in-Done-clause-saved g c = λ told.
    let levels = c.args.geometry.now in
    let cell = c.args.cell in
    let values = c.args.values.now in
    let bytes = take c.write_cell-len.result c.write_cell-len.new.buf in
    let edited = ap (λ (l : List Level). edited_key l c.args.cell) c.requires.made in
    let done = subst (λ (k : List ℕ). (other : List ℕ) → (held_of (g.S.Store.contents c.put_edited.new.store)) other ≡ put_in (held_of (g.S.Store.contents c.args.store.now)) k bytes other) edited (c.in-Done.ensures.puts.leaves told) in
    let spelled = c.write_cell-len.ensures.block in
    let len = c.write_cell-len.ensures.len in
    let some = c.write_cell-len.ensures.some in
    let within = c.write_cell-len.ensures.within in
    let small = full_small levels cell (subst IsPyramid c.requires.made c.put_edited.ensures.keys.pyramid) c.requires.cell in
    let given = block_gives levels cell values bytes some within small c.requires.count (λ i. greatest_fits (kind_of levels cell) (slice_index values i) (c.requires.fits i)) spelled in
    let short : length bytes ≤ limit_of levels cell = omega (arith, take_short c.write_cell-len.result c.write_cell-len.new.buf, block_short levels cell c.write_cell-len.result within len) in
    values_stand levels c.args.keys.now cell _ _ bytes values done short given

pub returns-in-Done-clause-others : goal.returns-in-Done-clause-others
returns-in-Done-clause-others g c = λ told.
    let edited = ap (λ (l : List Level). edited_key l c.args.cell) c.requires.made in
    let same = subst (λ (k : List ℕ). SameElsewhere (held_of (g.S.Store.contents c.args.store.now)) (held_of (g.S.Store.contents c.put_edited.new.store)) k) edited (elsewhere _ _ (edited_key c.args.keys.now.levels c.args.cell) (take c.write_cell-len.result c.write_cell-len.new.buf) (c.in-Done.ensures.puts.leaves told)) in
    others_stand_of c.args.geometry.now c.args.keys.now c.args.cell _ _ c.requires.made c.put_edited.ensures.keys c.requires.cell same

pub returns-in-Failed-clause-others : goal.returns-in-Failed-clause-others
returns-in-Failed-clause-others g c = λ told.
    let edited = ap (λ (l : List Level). edited_key l c.args.cell) c.requires.made in
    let same = subst (λ (k : List ℕ). SameElsewhere (held_of (g.S.Store.contents c.args.store.now)) (held_of (g.S.Store.contents c.put_edited.new.store)) k) edited (c.in-Failed.ensures.puts.leaves told) in
    others_stand_of c.args.geometry.now c.args.keys.now c.args.cell _ _ c.requires.made c.put_edited.ensures.keys c.requires.cell same

pub returns-in-NoMemory-clause-others : goal.returns-in-NoMemory-clause-others
returns-in-NoMemory-clause-others g c = λ told.
    let edited = ap (λ (l : List Level). edited_key l c.args.cell) c.requires.made in
    let same = subst (λ (k : List ℕ). SameElsewhere (held_of (g.S.Store.contents c.args.store.now)) (held_of (g.S.Store.contents c.put_edited.new.store)) k) edited (c.in-NoMemory.ensures.puts.leaves told) in
    others_stand_of c.args.geometry.now c.args.keys.now c.args.cell _ _ c.requires.made c.put_edited.ensures.keys c.requires.cell same

pub returns-in-Done-clause-put : goal.returns-in-Done-clause-put
returns-in-Done-clause-put g c =
    let levels = c.args.geometry.now in
    let values = c.args.values.now in
    let edited = ap (λ (l : List Level). edited_key l c.args.cell) c.requires.made in
    let spelled = c.write_cell-len.ensures.block in
    record { answer = put.Done; puts = puts_at _ _ _ _ _ _ put.Done edited spelled c.in-Done.ensures.puts; told = refl }

pub returns-in-Failed-clause-put : goal.returns-in-Failed-clause-put
returns-in-Failed-clause-put g c =
    let levels = c.args.geometry.now in
    let values = c.args.values.now in
    let edited = ap (λ (l : List Level). edited_key l c.args.cell) c.requires.made in
    let spelled = c.write_cell-len.ensures.block in
    record { answer = put.Failed; puts = puts_at _ _ _ _ _ _ put.Failed edited spelled c.in-Failed.ensures.puts; told = refl }

pub returns-in-NoMemory-clause-put : goal.returns-in-NoMemory-clause-put
returns-in-NoMemory-clause-put g c =
    let levels = c.args.geometry.now in
    let values = c.args.values.now in
    let edited = ap (λ (l : List Level). edited_key l c.args.cell) c.requires.made in
    let spelled = c.write_cell-len.ensures.block in
    record { answer = put.NoMemory; puts = puts_at _ _ _ _ _ _ put.NoMemory edited spelled c.in-NoMemory.ensures.puts; told = refl }
