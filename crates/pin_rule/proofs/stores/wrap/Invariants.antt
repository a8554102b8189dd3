use Rattle.std.proofs.Common.{◌≡◌, ◌+◌, ◌≤◌, ◌++◌, map, reverse, Some, vec_len, vec_capacity}
use Rattle.pin_rule.proofs.stores.wrap.Given as goal

abbrev pub invariant-loop-store : goal.invariant-loop-store
invariant-loop-store g l = (l.homes.items ++ map Some (reverse l.stores.items) ≡ map Some l.fn.stores.items) × (vec_len l.homes + vec_len l.stores ≤ vec_capacity l.homes) × (vec_capacity l.stores ≡ vec_capacity l.fn.stores)

abbrev pub decreases-loop-store : goal.decreases-loop-store
decreases-loop-store g l = vec_len l.stores
