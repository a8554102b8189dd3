-- What the stores show that a table is made with.
use Rattle.std.proofs.Common.{◌≡◌, ℕ, zero, suc, IsTrue, List, [], ◌∷◌, map, refl, sym, ap, true≢false}
use mathlib.Core.Option.{some}
use lib.ListN.{get_elem?}
use Rattle.cell_store.specs.Store.{Contents}
use Rattle.stood_arrays.specs.Opening.{store_in}

module _ {S : Type 0} (shows : S → Contents) where
  pub store_shown : (xs : List S) (l : ℕ) (x : S) → get_elem? xs l ≡ some x → store_in (map shows xs) l ≡ shows x
  store_shown [] l x is = absurd cc
  store_shown (y ∷ ys) zero x is = let e : y ≡ x = cc in ap shows e
  store_shown (y ∷ ys) (suc l) x is = store_shown ys l x is

  pub told_there : (xs : List S) (l : ℕ) → IsTrue (store_in (map shows xs) l).told → (x : S) × (get_elem? xs l ≡ some x) × IsTrue (shows x).told
  told_there [] l t = absurd (true≢false (sym t))
  told_there (y ∷ ys) zero t = (y, refl, t)
  told_there (y ∷ ys) (suc l) t = told_there ys l t
