-- What contracts see of a source and of a sink in memory, which move a piece a call.
use Rattle.std.specs.Prelude.{ℕ, List, [], ◌∷◌, Bool, true, false, length, min, if◌then◌else◌}
use Rattle.cell_store.specs.Calls.{CallCount, fails_next}
use Rattle.cell_store.specs.Stream.{Stream}
use Rattle.cell_store.specs.declared.stream.Took.{Took}
use Rattle.cell_store.specs.declared.stream.Took.TheVariants as took
use Rattle.cell_store.specs.declared.stream.Gave.{Gave}
use Rattle.cell_store.specs.declared.stream.Gave.TheVariants as gave

pub record Pieces : Type 0 where
  -- the bytes left of a source, or written to a sink
  pub bytes : List ℕ
  -- how many bytes a call moves at most
  pub piece : ℕ
  pub calls : CallCount

-- it tells all
abbrev pub stream_of : Pieces → Stream
stream_of p = record { told = true; bytes = p.bytes; faults = p.calls.faults }

abbrev pub is_empty : List ℕ → Bool
is_empty [] = true
is_empty (b ∷ bytes) = false

-- what the next read answers, where there is room for this many bytes
abbrev pub read_answer : Pieces → ℕ → Took
read_answer p room =
    if fails_next p.calls then took.Failed else
    if is_empty p.bytes then took.End else took.Read (min (min (length p.bytes) room) p.piece)

-- what the next write of this many bytes answers, where there is memory
abbrev pub write_answer : Pieces → ℕ → Gave
write_answer p most = if fails_next p.calls then gave.Failed else gave.Wrote (min most p.piece)
