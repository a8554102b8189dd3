-- The seat of a pass, on the table of a turn.
use Rattle.std.specs.Prelude.{◌≡◌}
use Rattle.atomic_table.specs.Seated.{TableId}
use Rattle.atomic_table.specs.declared.shared.Seat.{Seat}

abbrev pub IsTurnTable : TableId → Type 0
IsTurnTable id = (id.words ≡ 2) × (id.slots ≡ 1)

module _ {S V : Type 0} where
  abbrev pub IsSeatOf : TableId → Seat S V → Type 0
  IsSeatOf id seat = (seat.table_id ≡ id) × IsTurnTable id

  -- the same seat, whatever it knows and carries
  abbrev pub IsSameSeat : Seat S V → Seat S V → Type 0
  IsSameSeat old new = (new.table_id ≡ old.table_id) × (new.id ≡ old.id)
