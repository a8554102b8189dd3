-- What changes of a list of stores.
use Rattle.std.specs.Prelude.{◌≡◌, List, ◌∷◌}
use Rattle.cell_store.specs.Store.{Contents}

-- The first store changes so, and the others are as they were.
abbrev pub FirstChanges : (Contents → Contents → Type 0) → List Contents → List Contents → Type 0
FirstChanges P (old ∷ olds) (new ∷ news) = P old new × (news ≡ olds)
FirstChanges P olds news = ⊥
