-- The sum so far, of a byte for each pixel.
use Rattle.std.proofs.Common.{◌≡◌, ◌*◌, ◌≤◌, take}
use Rattle.std.specs.Prelude.{sum}
use Rattle.demo_script.proofs.sum.sum_of.Given as goal

abbrev pub invariant-loop-byte : goal.invariant-loop-byte
invariant-loop-byte l = record {
  so_far : l.total ≡ sum (take l.byte-index l.byte-items);
  small : l.total ≤ 255 * l.byte-index;
}
