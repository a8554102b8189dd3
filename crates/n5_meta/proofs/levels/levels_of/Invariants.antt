-- The levels so far, followed by those that are left, are all levels.
use Rattle.std.proofs.Common.{◌≡◌, drop}
use Rattle.n5_meta.specs.Pyramid.{levels_of}
use Rattle.n5_meta.proofs.Prefixes.{prefixed}
use Rattle.n5_meta.proofs.levels.levels_of.Given as goal

abbrev pub invariant-loop-level : goal.invariant-loop-level
invariant-loop-level l = prefixed l.levels.items (levels_of (drop l.level-index l.described)) ≡ levels_of l.described
