-- What is meant of the levels before a get of the setup's attributes is what is meant after it.
use Rattle.std.proofs.Common.{ℕ, List, Result, None, subst, ◌∙◌}
use Rattle.std.specs.Prelude.{IsTrue}
use Rattle.cell_store.specs.Store.{Contents, held_of}
use Rattle.n5_meta.specs.declared.described.Described.{Described}
use Rattle.n5_meta.specs.declared.open_err.OpenErr.{OpenErr}
use Rattle.n5_meta.specs.Gets.{Opens}
use Rattle.n5_meta.specs.Pyramid.{AnswersOpened, described_from}

pub described_before : (root : List ℕ) (a b : Contents) (factors : List (List ℕ)) (result : Result (List Described) OpenErr) → Opens root a b None
    → (IsTrue b.told → AnswersOpened (λ described. described) result (described_from (held_of b) root 0 factors))
    → IsTrue a.told → AnswersOpened (λ described. described) result (described_from (held_of a) root 0 factors)
described_before root a b factors result got answer told =
    subst (λ held. AnswersOpened (λ described. described) result (described_from held root 0 factors)) (got.unchanged told) (answer (got.told ∙ told))
