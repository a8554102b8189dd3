-- Calls that follow one another.
use Rattle.std.proofs.Common.{List, [], ◌∷◌, ◌++◌, subst}
use Rattle.cell_store.specs.Store.{Contents}
use Rattle.store_calls.specs.Calls.{StoreCall, AreCalled}

pub called_on : (a b c : List Contents) (p q : List StoreCall) → AreCalled p a b → AreCalled q b c → AreCalled (p ++ q) a c
called_on a b c [] q g h = subst (λ x. AreCalled q x c) g h
called_on a b c (x ∷ p) q g h = (g.0, g.1, called_on g.0 b c p q g.2 h)
