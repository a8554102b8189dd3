-- The levels described so far, followed by those that are left, are those of all factors; what was asked of the store and done to it.
use Rattle.std.proofs.Common.{◌≡◌, drop}
use Rattle.std.specs.Prelude.{IsTrue, None}
use Rattle.n5_meta.specs.Gets.{Opens}
use Rattle.n5_meta.specs.Pyramid.{described_from}
use Rattle.n5_meta.proofs.AskLemmas.{AreGot}
use Rattle.n5_meta.proofs.Prefixes.{prefixed}
use Rattle.cell_store.specs.Store.{held_of}
use Rattle.n5_meta.proofs.pyramid.read_levels.Given as goal

abbrev pub invariant-loop-factor : goal.invariant-loop-factor
invariant-loop-factor g l =
    let before = g.S.Store.contents l.fn.store in
    let now = g.S.Store.contents l.store in
    record {
      opens : Opens l.root before now None;
      got : AreGot l.root l.factors l.factor-index l.described before now;
      level : l.level ≡ l.factor-index;
      meaning : IsTrue before.told → prefixed l.described (described_from (held_of before) l.root l.factor-index (drop l.factor-index l.factors)) ≡ described_from (held_of before) l.root 0 l.factors;
    }
