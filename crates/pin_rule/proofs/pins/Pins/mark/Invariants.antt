use Rattle.pin_rule.specs.Calls.{pin_of}
use Rattle.pin_rule.proofs.pins.Pins.mark.Given as goal

abbrev pub ghosts-set_mark : goal.ghosts-set_mark
ghosts-set_mark g a = record { pin = pin_of a.h.now; at = 0 }
