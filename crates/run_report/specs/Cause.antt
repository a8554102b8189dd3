-- Why a cell could not be had, in words.
use Rattle.std.specs.Prelude.{ℕ, List, Bool, codes, if◌then◌else◌}
use Rattle.std.specs.Fmt.{decimal}
use Rattle.cell_file.specs.declared.errors.AcquireErr.{AcquireErr}
use Rattle.cell_file.specs.declared.errors.AcquireErr.TheVariants as cause
use Rattle.n5_block.specs.declared.block_err.BlockErr.{BlockErr}
use Rattle.n5_block.specs.declared.block_err.BlockErr.TheVariants as block
use Rattle.run_report.specs.Words.{◌␣◌}

abbrev pub block_text : BlockErr → List ℕ
block_text (block.Short len need) = codes "short" ␣ decimal len ␣ decimal need
block_text (block.Mode found) = codes "mode" ␣ decimal found
block_text (block.Axes found) = codes "axes" ␣ decimal found
block_text (block.Side axis found) = codes "side" ␣ decimal axis ␣ decimal found
block_text (block.Trailing len need) = codes "trailing" ␣ decimal len ␣ decimal need

-- the key whose bytes decide
abbrev pub key_text : Bool → List ℕ
key_text edited = if edited then codes "edited" else codes "base"

abbrev pub cause_text : AcquireErr → List ℕ
cause_text cause.ReadFault = codes "read-fault"
cause_text cause.WriteFault = codes "write-fault"
cause_text (cause.Malformed edited err) = codes "malformed" ␣ key_text edited ␣ block_text err
cause_text (cause.TooLong edited len limit) = codes "too-long" ␣ key_text edited ␣ decimal len ␣ decimal limit
cause_text cause.Full = codes "full"
cause_text cause.Memory = codes "memory"
