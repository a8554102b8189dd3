use Rattle.std.specs.Prelude.{false}
use Rattle.pin_words.specs.Finding.{pin}
use Rattle.pin_rule.proofs.pins.Pins.frame_word.Given as goal

abbrev pub ghosts-look_at : goal.ghosts-look_at
ghosts-look_at g a = record { pin = pin a.cell 0 false; at = a.at }
