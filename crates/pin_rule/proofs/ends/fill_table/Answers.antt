use Rattle.std.proofs.Common.{refl}
use Rattle.pin_rule.proofs.Draining.{opens_with}
use Rattle.pin_rule.proofs.ends.fill_table.Goals as goal

pub new-requires : goal.new-requires
new-requires g c = opens_with g.S.Store.contents c.args.made.now c.args.words.now c.args.homes.items _ c.requires.made c.requires.homes c.requires.words refl
