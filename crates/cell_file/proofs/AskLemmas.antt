-- What a fetch and a save ask of a store, and that a good block isn't refused.
use Rattle.std.proofs.Common.{◌≡◌, ◌∙◌, ℕ, Bool, List, None, Some, Result, Ok, Err, OnOk, IfErr, sym, subst}
use Rattle.cell_grid.specs.declared.level.Level.{Level}
use Rattle.cell_grid.specs.Pyramid.{sides_of, full_of}
use Rattle.cell_store.specs.Store.{Contents, Puts}
use Rattle.cell_store.specs.declared.store.Got.{Got}
use Rattle.cell_store.specs.declared.store.Got.TheVariants as got
use Rattle.cell_store.specs.declared.store.Put.{Put}
use Rattle.n5_block.proofs.ValueLemmas.{none_given}
use Rattle.cell_file.specs.declared.errors.FetchErr.{FetchErr}
use Rattle.cell_file.specs.Asks.{Decides}
use Rattle.cell_file.specs.File.{GivesValues, GivesRefusal}
use Rattle.cell_file.specs.Standing.{width_of, block_rule}
use Rattle.cell_file.proofs.StandingLemmas.{malformed_some}

none_some : {X : Type 0} {x : X} → None ≡ Some x → ⊥
none_some e = cc

-- a get that gives values refuses nothing
pub values_not_refused : (levels : List Level) (cell : ℕ) (edited : Bool) (answer : Got) (found values : List ℕ) (err : FetchErr)
    → GivesValues levels cell answer found values → GivesRefusal levels cell edited answer found err → ⊥
values_not_refused levels cell edited got.Found found values err v r =
    let rule = malformed_some edited (block_rule levels cell found) err r in
    none_some (sym (none_given (width_of levels cell) (sides_of levels cell) (full_of levels cell) found rule.0 (sym rule.1.0)) ∙ v)
values_not_refused levels cell edited got.Missing found values err v r = r
values_not_refused levels cell edited (got.TooLong len) found values err v r = v
values_not_refused levels cell edited got.Failed found values err v r = v
values_not_refused levels cell edited got.NoMemory found values err v r = v

-- the answer of a fetch is the one that its last get decides
pub decided : (levels : List Level) (cell : ℕ) (edited : Bool) (answer : Got) (found values : List ℕ) (r : Result (Unit {0}) FetchErr)
    → OnOk r (GivesValues levels cell answer found values) → IfErr r (λ err. GivesRefusal levels cell edited answer found err) → Decides levels cell edited answer found r values
decided levels cell edited answer found values (Ok done) v e = v
decided levels cell edited answer found values (Err err) v e = e

-- the same put, its arguments written otherwise
pub puts_at : (old new : Contents) (key key' bytes bytes' : List ℕ) (answer : Put) → key ≡ key' → bytes ≡ bytes' → Puts old new key bytes answer → Puts old new key' bytes' answer
puts_at old new key key' bytes bytes' answer k b p = subst (λ (x : List ℕ). Puts old new key' x answer) b (subst (λ (x : List ℕ). Puts old new x bytes answer) k p)
