-- The attributes, and then the cells of the levels that the number decides.
use Rattle.std.proofs.Common.{◌≡◌, ◌∙◌, List, [], length, map, ap, ap₂, refl, rules, subst, Err}
use Rattle.std.specs.Prelude.{IsErr}
use Rattle.demo_volume.specs.Puts.{MadeKey, Makes, attributes, cell_keys, keys_of}
use Rattle.demo_volume.specs.Voxels.{fine, means}
use Rattle.demo_volume.specs.declared.make_err.MakeErr.TheVariants as make
use Rattle.demo_volume.proofs.MakesLemmas.{made_lacks, makes_ends, makes_then}
use Rattle.demo_volume.proofs.make.make_pyramid.Goals as goal

pub returns-in_err-maker : goal.returns-in_err-maker
returns-in_err-maker g c =
    let is : Err make.Memory ≡ c.from_residual.result = search rules in
    subst (λ r. Makes (keys_of c.args.number (length c.args.stores.now.items)) (map g.S.Store.contents c.args.stores.now.items) (map g.S.Store.contents c.args.stores.now.items) r) is
    (made_lacks [] (keys_of c.args.number (length c.args.stores.now.items)) _ _ refl)

pub returns-in_err-put_attributes : goal.returns-in_err-put_attributes
returns-in_err-put_attributes g c =
    let same : c.put_attributes.result ≡ c.from_residual-in_err-put_attributes.result = search rules in
    let err : IsErr c.put_attributes.result = search rules in
    subst (λ r. Makes (keys_of c.args.number (length c.args.stores.now.items)) (map g.S.Store.contents c.args.stores.now.items) (map g.S.Store.contents c.put_attributes.new.stores.items) r) same
    (makes_ends attributes (cell_keys (fine c.args.number) (means (fine c.args.number)) (length c.args.stores.now.items)) _ _ c.put_attributes.result c.put_attributes.ensures.made err)

pub returns : goal.returns
returns g c =
    let coarse = c.in_ok-maker.ensures.coarse_is in
    let keys = ap₂ (λ x y. cell_keys x y (length c.put_attributes.new.stores.items)) c.in_ok-maker.ensures.fine_is coarse ∙ ap (cell_keys (fine c.args.number) (means (fine c.args.number))) c.put_attributes.ensures.count in
    makes_then attributes (cell_keys (fine c.args.number) (means (fine c.args.number)) (length c.args.stores.now.items)) _ _ _ _ c.put_cells.result c.in_ok-put_attributes.ensures.made
    (subst (λ (due : List MadeKey). Makes due (map g.S.Store.contents c.put_attributes.new.stores.items) (map g.S.Store.contents c.put_cells.new.stores.items) c.put_cells.result) keys c.put_cells.ensures)
