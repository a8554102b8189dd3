-- What calls leave open, one part after another.
use Rattle.std.proofs.Common.{◌≡◌, ℕ, Bool, List, [], ◌∷◌, ◌++◌, refl}
use Rattle.store_calls.specs.Calls.{StoreCall, open_after, is_left_open}

pub open_on : (lane : ℕ) (key : List ℕ) (b : Bool) (p q : List StoreCall) → is_left_open lane key b (p ++ q) ≡ is_left_open lane key (is_left_open lane key b p) q
open_on lane key b [] q = refl
open_on lane key b (c ∷ p) q = open_on lane key (open_after lane key b c) p q
