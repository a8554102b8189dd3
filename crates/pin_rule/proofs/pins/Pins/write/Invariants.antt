use Rattle.pin_rule.specs.Calls.{pin_of}
use Rattle.pin_rule.proofs.pins.Pins.write.Given as goal

abbrev pub ghosts-store_voxel : goal.ghosts-store_voxel
ghosts-store_voxel g a = record { pin = pin_of a.h.now; at = a.at }
