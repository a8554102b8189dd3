-- How calls may be put together, and when they have the same answer.
use Rattle.std.specs.Prelude.{◌≡◌, ℕ, Bool, List, ◌++◌}
use Rattle.cell_store.specs.Store.{Contents}
use Rattle.cell_store.specs.declared.store.Put.{Put}
use Rattle.store_calls.specs.Calls.{StoreCall, Putting, AreCalled, is_failed, wants_memory, is_left_open}

abbrev pub CallsCompose : Type 0
CallsCompose = (a b c : List Contents) (p q : List StoreCall) → AreCalled p a b → AreCalled q b c → AreCalled (p ++ q) a c

-- Calls leave a key open as the later ones do, from what the earlier ones left.
abbrev pub OpenCallsCompose : Type 0
OpenCallsCompose = (lane : ℕ) (key : List ℕ) (before : Bool) (p q : List StoreCall) → is_left_open lane key before (p ++ q) ≡ is_left_open lane key (is_left_open lane key before p) q

-- Puts that both failed or didn't, and both found memory or didn't, have the same answer.
abbrev pub PutsAnswerAlike : Type 0
PutsAnswerAlike = (lane : ℕ) (key bytes : List ℕ) (a b : Put) → is_failed (Putting lane key bytes b) ≡ is_failed (Putting lane key bytes a)
    → wants_memory (Putting lane key bytes b) ≡ wants_memory (Putting lane key bytes a) → b ≡ a
