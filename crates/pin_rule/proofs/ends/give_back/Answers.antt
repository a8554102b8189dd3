use Rattle.std.proofs.Common.{sym, subst, ◌∙◌}
use Rattle.pin_rule.specs.Calls.{AllSome}
use Rattle.pin_rule.proofs.Draining.{all_some_map, same_stores}
use Rattle.pin_rule.proofs.ends.give_back.Goals as goal

pub unwrap_all-requires-clause-some : goal.unwrap_all-requires-clause-some
unwrap_all-requires-clause-some g c = subst AllSome (sym c.requires.homes) (all_some_map c.args.made.now.stores.value.items)

pub returns : goal.returns
returns g c = same_stores _ _ (c.unwrap_all.ensures.list ∙ c.requires.homes)
