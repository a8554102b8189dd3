-- The values through which a history leads.
use Rattle.std.proofs.Common.{ℕ, List, [], ◌∷◌, ◌++◌, sym, refl, subst}
use Rattle.turn_cell.specs.declared.views.Entry.{Entry}
use Rattle.turn_cell.specs.Entry.{StepRule, entry, Leads, IsStepAt}

module _ {T C R : Type 0} (steps : StepRule T C R) where
  -- one call more
  pub leads_on : (x : T) (log : List (Entry C R)) (y z : T) (k : ℕ) (c : C) (a : R) → Leads steps x log y → steps y k c a z → Leads steps x (log ++ entry k c a ∷ []) z
  leads_on x [] y z k c a h s = (z, subst (λ (u : T). steps u k c a z) (sym h) s, refl)
  leads_on x (e ∷ es) y z k c a h s = (h.0, h.1, leads_on h.0 es y z k c a h.2 s)

  -- each call's reply is the object's at its place
  pub leads_at : (x y : T) (front : List (Entry C R)) (e : Entry C R) (back : List (Entry C R)) → Leads steps x (front ++ e ∷ back) y → IsStepAt steps x front e back y
  leads_at x y [] e back h = record { before = x; after = h.0; led = refl; step = h.1; leads = h.2 }
  leads_at x y (f ∷ front) e back h = let k = leads_at h.0 y front e back h.2 in record { before = k.before; after = k.after; led = (h.0, h.1, k.led); step = k.step; leads = k.leads }
