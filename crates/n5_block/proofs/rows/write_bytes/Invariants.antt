-- The bytes of the values so far are written.
use Rattle.std.proofs.Common.{◌≡◌, ◌*◌, take, flat_map}
use Rattle.voxel_box.specs.BigEndian.{big_endian}
use Rattle.n5_block.proofs.rows.write_bytes.Given as goal

abbrev pub invariant-loop-i : goal.invariant-loop-i
invariant-loop-i l = take (1 * l.i) l.out ≡ flat_map (big_endian 1) (take l.i l.values)
