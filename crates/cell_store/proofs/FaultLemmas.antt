-- A count of faults that rose, and never falls before or after, rose over all.
use Rattle.std.proofs.Common.{ℕ, ◌≤◌, arith}
use Rattle.cell_store.specs.Faults.{Rose}

pub rose_then_stays : (before now later : ℕ) → Rose before now → now ≤ later → Rose before later
rose_then_stays before now later rose stays = grind arith

pub stays_then_rose : (before now later : ℕ) → before ≤ now → Rose now later → Rose before later
stays_then_rose before now later stays rose = grind arith
