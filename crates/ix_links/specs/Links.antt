-- What the arrays of `Links` stand for.
use Rattle.ix_links.specs.NodeLists.{NodeLists}
use Rattle.ix_links.specs.Ring.{walks, IsLinked}
use Rattle.ix_links.specs.declared.links.Links.TheInside.{Inside}

-- the lists that the links lead through
abbrev pub lists_of : Inside → NodeLists
lists_of l = record { nodes = l.nodes; lists = walks l.rings.after.items l.nodes l.lists }

-- the links hold the lists that are read from them
abbrev pub IsWhole : Inside → Type 0
IsWhole l = IsLinked l.nodes l.lists l.rings.after.items l.rings.before.items l.owners.items (walks l.rings.after.items l.nodes l.lists)
