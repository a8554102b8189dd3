use Rattle.std.proofs.Common.{◌∙◌, refl}
use Rattle.cell_file.proofs.FetchLemmas.{gets_at}
use Rattle.cell_file.proofs.asks.get_edited.Goals as goal

pub returns : goal.returns
returns g c = gets_at _ _ _ _ _ _ c.get.result _ _ (c.as_str.ensures.value ∙ c.edited-edited.ensures.key) refl refl c.get.ensures
