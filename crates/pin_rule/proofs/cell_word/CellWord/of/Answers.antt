use Rattle.pin_rule.proofs.CellWords.{shown}
use Rattle.std.proofs.Common.{◌∙◌}
use Rattle.pin_rule.proofs.cell_word.CellWord.of.Goals as goal

pub returns : goal.returns
returns c t count small is = let h = shown t c.args.word count small is in record { state = c.state_in.ensures ∙ h.state; slot = h.slot; marked = h.marked; count_is = h.count_is }
