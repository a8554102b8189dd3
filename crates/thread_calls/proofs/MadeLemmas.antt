-- Opening the demonstration's pyramid, once it was made, gives its levels, and changes nothing that is held.
use Rattle.std.proofs.Common.{◌≡◌, ◌∙◌, ℕ, zero, suc, ◌+◌, ◌≤◌, IsTrue, List, [], ◌∷◌, length, slice_index_or, Option, Result, Ok, codes, refl, sym, ap, subst, arith}
use Rattle.std.specs.Prelude.{All}
use Rattle.cell_grid.specs.declared.level.Level.{Level}
use Rattle.cell_store.specs.Store.{Contents, held_of}
use Rattle.demo_arrays.specs.Held.{HoldsDemo}
use Rattle.demo_arrays.proofs.HeldLemmas.{attributes_held}
use Rattle.demo_arrays.proofs.HoldsLemmas.{all_alike}
use Rattle.demo_levels.proofs.ReadLemmas.{demo_read}
use Rattle.demo_script.specs.Script.{demo_script}
use Rattle.demo_volume.specs.Levels.{levels}
use Rattle.stood_arrays.specs.Opening.{store_in}
use Rattle.viewrun_calls.specs.Stores.{FirstChanges}
use Rattle.viewrun_calls.specs.Volume.{OpensPyramid, OpensVolume}

same_ok : {X E : Type 0} (x y : X) → ◌≡◌ {A = Result X E} (Ok x) (Ok y) → x ≡ y
same_ok x y is = cc

module _ (number : ℕ) (o : Contents) (os : List Contents) (h : HoldsDemo number (o ∷ os)) where
  first_told : IsTrue o.told
  first_told = h.told 0 o (omega arith)

  module _ (n : Contents) (ns : List Contents) (opened : List Level) (opens : OpensPyramid (codes "demo") o n (Ok opened)) (rest : ns ≡ os) where
    levels_are : opened ≡ levels
    levels_are = same_ok opened levels (sym (opens.answer first_told) ∙ demo_read (held_of o) (attributes_held number (o ∷ os) h))

    told_still : All (λ (s : Contents). IsTrue s.told) (n ∷ ns)
    told_still zero d lt = subst IsTrue (sym opens.opens.told) first_told
    told_still (suc i) d lt =
        let same = ap length rest in
        subst (λ (l : List Contents). IsTrue (slice_index_or l i d).told) (sym rest) (h.told (suc i) d (omega (arith, lt, same)))

    held_still : (lane : ℕ) (key : List ℕ) → held_of (store_in (n ∷ ns) lane) key ≡ held_of (store_in (o ∷ os) lane) key
    held_still zero key = ap (λ (f : List ℕ → Option (List ℕ)). f key) (opens.opens.unchanged first_told)
    held_still (suc lane) key = ap (λ (l : List Contents). held_of (store_in l lane) key) rest

    holds_still : HoldsDemo number (n ∷ ns)
    holds_still = all_alike number (o ∷ os) (n ∷ ns) (ap (λ (l : List Contents). suc (length l)) rest) told_still held_still h

-- the volume of the demonstration is the one that was made
pub opened_made : (number : ℕ) (begun opened : List Contents) (found : List Level) → HoldsDemo number begun
    → FirstChanges (λ before after. OpensVolume demo_script.head before after (Ok found)) begun opened → (found ≡ levels) × (1 ≤ length opened) × HoldsDemo number opened
opened_made number [] opened found h opens = absurd opens
opened_made number (o ∷ os) [] found h opens = absurd opens
opened_made number (o ∷ os) (n ∷ ns) found h opens = (levels_are number o os h n ns found opens.0 opens.1, omega arith, holds_still number o os h n ns found opens.0 opens.1)
