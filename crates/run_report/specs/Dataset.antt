-- Why a dataset is refused, in words, and the status of a call that could not open it.
use Rattle.std.specs.Prelude.{ℕ, List, Bool, true, false, codes, if◌then◌else◌}
use Rattle.std.specs.Fmt.{decimal}
use Rattle.cell_grid.specs.declared.grid_err.GridErr.{GridErr}
use Rattle.cell_grid.specs.declared.grid_err.GridErr.TheVariants as grid
use Rattle.n5_meta.specs.declared.meta_err.MetaErr.{MetaErr}
use Rattle.n5_meta.specs.declared.meta_err.MetaErr.TheVariants as meta
use Rattle.n5_meta.specs.declared.open_err.OpenErr.{OpenErr}
use Rattle.n5_meta.specs.declared.open_err.OpenErr.TheVariants as unopened
use Rattle.n5_meta.specs.declared.spot.Spot.{Spot}
use Rattle.n5_meta.specs.declared.spot.Spot.TheVariants as spot
use Rattle.n5_meta.specs.Member.{member_name}
use Rattle.run_report.specs.Words.{◌␣◌}

abbrev pub spot_text : Spot → List ℕ
spot_text spot.Setup = codes "setup"
spot_text (spot.Level level) = codes "level" ␣ decimal level

abbrev pub meta_text : MetaErr → List ℕ
meta_text meta.NotJson = codes "not-json"
meta_text (meta.Missing member) = codes "missing" ␣ member_name member
meta_text (meta.BadNumber member) = codes "bad-number" ␣ member_name member
meta_text (meta.Axes count) = codes "axes" ␣ decimal count
meta_text meta.Kind = codes "kind"
meta_text meta.Compressed = codes "compressed"
meta_text meta.Memory = codes "memory"

abbrev pub grid_cause_text : GridErr → List ℕ
grid_cause_text (grid.ZeroSide axis) = codes "zero-side" ␣ decimal axis
grid_cause_text (grid.SideTooLarge axis found) = codes "side-too-large" ␣ decimal axis ␣ decimal found
grid_cause_text (grid.CellTooLarge voxels) = codes "cell-too-large" ␣ decimal voxels
grid_cause_text (grid.TooManyCells count) = codes "too-many-cells" ␣ decimal count
grid_cause_text grid.NoLevel = codes "no-level"
grid_cause_text (grid.TooManyLevels count) = codes "too-many-levels" ␣ decimal count
grid_cause_text (grid.ZeroFactor level axis) = codes "zero-factor" ␣ decimal level ␣ decimal axis
grid_cause_text grid.Memory = codes "memory"

-- why a dataset is refused
abbrev pub refused_text : OpenErr → List ℕ
refused_text (unopened.Meta spot err) = codes "dataset" ␣ spot_text spot ␣ meta_text err
refused_text (unopened.NoAttributes spot) = codes "dataset" ␣ spot_text spot ␣ codes "no-attributes"
refused_text (unopened.TooLong spot len) = codes "dataset" ␣ spot_text spot ␣ codes "too-long" ␣ decimal len
refused_text (unopened.LevelCount count) = codes "dataset" ␣ codes "setup" ␣ codes "level-count" ␣ decimal count
refused_text (unopened.Grid err) = codes "dataset" ␣ codes "grid" ␣ grid_cause_text err
refused_text unopened.ReadFault = codes "store" ␣ codes "read-fault"
refused_text unopened.Memory = codes "memory"

-- whether memory was wanting, wherever it was
abbrev pub opening_wants_memory : OpenErr → Bool
opening_wants_memory (unopened.Meta spot meta.Memory) = true
opening_wants_memory (unopened.Grid grid.Memory) = true
opening_wants_memory unopened.Memory = true
opening_wants_memory other = false

abbrev pub open_text : OpenErr → List ℕ
open_text err = if opening_wants_memory err then codes "memory" else refused_text err

abbrev pub is_read_fault : OpenErr → Bool
is_read_fault unopened.ReadFault = true
is_read_fault other = false

abbrev pub status_of_open : OpenErr → ℕ
status_of_open err = if opening_wants_memory err then 7 else if is_read_fault err then 5 else 4
