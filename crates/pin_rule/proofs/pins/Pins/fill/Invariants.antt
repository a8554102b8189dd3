use Rattle.std.specs.Prelude.{false}
use Rattle.pin_words.specs.Finding.{pin}
use Rattle.pin_rule.proofs.pins.Pins.fill.Given as goal

abbrev pub ghosts-fill_frame : goal.ghosts-fill_frame
ghosts-fill_frame g a = record { pin = pin a.cell 0 false; at = 0 }
