-- Each part between the slashes is tested.
use Rattle.std.proofs.Common.{◌==◌, rules}
use Rattle.std.proofs.lemmas.Iterator.Search.{all_from_yields_List}
use Rattle.std.proofs.lemmas.Iterator.Splits.{YieldsList-from_slice_split}
use Rattle.plain_data.specs.RootName.{is_part}
use Rattle.plain_data.proofs.root_name.has_parts.Goals as goal

pub returns : goal.returns
returns c = all_from_yields_List is_part _ _ _ c.all.ensures.ran
    (YieldsList-from_slice_split _ (λ b. b == 47) _ c.split.ensures.rest c.split.ensures.done c.split.ensures.closure (search rules)) (search rules)
