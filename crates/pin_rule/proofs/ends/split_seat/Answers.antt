use Rattle.std.proofs.Common.{rules}
use Rattle.pin_words.proofs.Passing.{splits_pass}
use Rattle.pin_rule.proofs.ends.split_seat.Goals as goal

pub split_seat-requires : goal.split_seat-requires
split_seat-requires g c = (search rules, search rules, splits_pass _ _ _ c.requires.first c.requires.rests.1 c.requires.room)
