use Rattle.pin_rule.specs.Calls.{pin_of}
use Rattle.pin_rule.proofs.pins.Pins.read.Given as goal

abbrev pub ghosts-load_voxel : goal.ghosts-load_voxel
ghosts-load_voxel g a = record { pin = pin_of a.h.now; at = a.at }
