use Rattle.std.proofs.Common.{◌∙◌, refl}
use Rattle.cell_file.proofs.AskLemmas.{puts_at}
use Rattle.cell_file.proofs.asks.put_edited.Goals as goal

pub returns-clause-puts : goal.returns-clause-puts
returns-clause-puts g c = puts_at _ _ _ _ _ _ c.put.result (c.as_str.ensures.value ∙ c.edited-edited.ensures.key) refl c.put.ensures
