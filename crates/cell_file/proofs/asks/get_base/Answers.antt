use Rattle.std.proofs.Common.{◌∙◌, refl}
use Rattle.cell_file.proofs.FetchLemmas.{gets_at}
use Rattle.cell_file.proofs.asks.get_base.Goals as goal

pub returns : goal.returns
returns g c = gets_at _ _ _ _ _ _ c.get.result _ _ (c.as_str.ensures.value ∙ c.base-base.ensures.key) refl refl c.get.ensures
