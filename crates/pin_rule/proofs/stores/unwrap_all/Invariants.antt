use Rattle.std.proofs.Common.{◌≡◌, ◌+◌, ◌≤◌, ◌++◌, map, reverse, Some, vec_len, vec_capacity}
use Rattle.pin_rule.specs.Calls.{AllSome}
use Rattle.pin_rule.proofs.stores.unwrap_all.Given as goal

abbrev pub invariant-loop-home : goal.invariant-loop-home
invariant-loop-home g l = (map Some l.list.items ++ reverse l.homes.items ≡ l.fn.homes.items) × (vec_len l.list + vec_len l.homes ≤ vec_capacity l.list) × AllSome (reverse l.homes.items)

abbrev pub decreases-loop-home : goal.decreases-loop-home
decreases-loop-home g l = vec_len l.homes
