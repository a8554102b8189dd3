use Rattle.pin_rule.specs.Calls.{pin_of}
use Rattle.pin_rule.proofs.pins.Pins.unpin.Given as goal

abbrev pub ghosts-leave : goal.ghosts-leave
ghosts-leave g a = record { pin = pin_of a.h.now; at = 0 }
