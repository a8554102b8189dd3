-- What a put says of a save.
use Rattle.std.proofs.Common.{◌≡◌, ◌∙◌, ℕ, ◌+◌, ◌*◌, ◌^◌, ◌<◌, ◌≤◌, Bool, true, false, cond, List, [], ◌∷◌, length, take, slice_index, Option, Some, refl, sym, ap, subst, arith}
use Rattle.std.specs.Str.{bytes_eq}
use Rattle.std.proofs.lemmas.Bool.{false_from_ne_true}
use Rattle.std.proofs.lemmas.Grind.{common_steps}
use Rattle.std.proofs.lemmas.Slice.Eq.{bytes_eq-Decides}
use Rattle.voxel_box.specs.Box.{volume, AreWithin}
use Rattle.cell_grid.specs.declared.level.Level.{Level}
use Rattle.cell_grid.specs.Pyramid.{cells_of, sides_of, full_of}
use Rattle.cell_store.specs.Store.{SameElsewhere, put_in}
use Rattle.n5_block.specs.Block.{block, IsGood}
use Rattle.n5_block.proofs.ValueLemmas.{written_good, values_given}
use Rattle.voxel_box.proofs.BoxLemmas.{volume_le}
use Rattle.std.proofs.Math.Nat.{mul-le-mul_left}
use Rattle.cell_file.specs.Keys.{KeyNames, AreKeys, edited_key, base_key}
use Rattle.cell_file.specs.Standing.{width_of, limit_of, block_values, standing}
use Rattle.cell_file.proofs.KeyLemmas.{one_edited_key, no_other_base_key}
use Rattle.cell_file.proofs.StandingLemmas.{by_edited, values_short, same_standing}

-- keys that differ are told apart
differ : (key other : List ℕ) → (key ≡ other → ⊥) → bytes_eq key other ≡ false
differ key other ne = false_from_ne_true (bytes_eq key other) (λ t. ne (grind (arith, bytes_eq-Decides key other)))

-- a put that is done leaves all other keys as they were
pub elsewhere : (old new : List ℕ → Option (List ℕ)) (key bytes : List ℕ) → ((other : List ℕ) → new other ≡ put_in old key bytes other) → SameElsewhere old new key
elsewhere old new key bytes done = λ other ne. done other ∙ ap (λ (t : Bool). cond t (Some bytes) (old other)) ne

-- and the store stands for the same at all other cells
pub others_stand : (keys : KeyNames) (cell : ℕ) (old new : List ℕ → Option (List ℕ)) → AreKeys keys → cell < cells_of keys.levels → SameElsewhere old new (edited_key keys.levels cell)
    → (other : ℕ) → other < cells_of keys.levels → (other ≡ cell → ⊥) → standing keys.levels keys new other ≡ standing keys.levels keys old other
others_stand keys cell old new k lt same other lt' ne =
    same_standing keys.levels keys old new other
    (same (edited_key keys.levels other) (differ _ _ (λ e. ne (sym (one_edited_key keys.levels cell other k.pyramid lt lt' e)))))
    (same (base_key keys.levels keys other) (differ _ _ (λ e. ne (sym (no_other_base_key keys cell other k lt lt' e)))))

-- a key is the same as itself
same_key : (key : List ℕ) → bytes_eq key key ≡ true
same_key key = let itself : key ≡ key = refl in grind (arith, bytes_eq-Decides key key)

-- once the block of a cell's values stands under its edited key the store stands for the values
pub values_stand : (levels : List Level) (keys : KeyNames) (cell : ℕ) (old new : List ℕ → Option (List ℕ)) (bytes values : List ℕ)
    → ((other : List ℕ) → new other ≡ put_in old (edited_key levels cell) bytes other) → length bytes ≤ limit_of levels cell → block_values levels cell bytes ≡ Some values
    → standing levels keys new cell ≡ Some values
values_stand levels keys cell old new bytes values done short given =
    let held : new (edited_key levels cell) ≡ Some bytes = done (edited_key levels cell) ∙ ap (λ (t : Bool). cond t (Some bytes) (old (edited_key levels cell))) (same_key (edited_key levels cell)) in
    (by_edited levels keys new cell bytes held).0 ∙ values_short levels cell bytes short ∙ given

-- the block of a cell's values gives them, and is no longer than allowed
pub block_gives : (levels : List Level) (cell : ℕ) (values bytes : List ℕ) → AreWithin (1 ∷ 1 ∷ 1 ∷ []) (sides_of levels cell) → AreWithin (sides_of levels cell) (full_of levels cell)
    → volume (full_of levels cell) ≤ 2 ^ 21 → length values ≡ volume (sides_of levels cell) → ((i : ℕ) → slice_index values i < 256 ^ width_of levels cell)
    → bytes ≡ block (width_of levels cell) (sides_of levels cell) values → block_values levels cell bytes ≡ Some values
block_gives levels cell values bytes some within small count fits e =
    let good = written_good (width_of levels cell) (sides_of levels cell) (full_of levels cell) values within count fits in
    values_given (width_of levels cell) (sides_of levels cell) (full_of levels cell) bytes values some within small
    (subst (λ (b : List ℕ). IsGood (width_of levels cell) (sides_of levels cell) (full_of levels cell) b values) (sym e) good)

pub block_short : (levels : List Level) (cell n : ℕ) → AreWithin (sides_of levels cell) (full_of levels cell) → n ≡ 16 + width_of levels cell * volume (sides_of levels cell) → n ≤ limit_of levels cell
block_short levels cell n within e = omega (arith, e, mul-le-mul_left (width_of levels cell) (volume_le (sides_of levels cell) (full_of levels cell) within))

pub take_short : (n : ℕ) (xs : List ℕ) → length (take n xs) ≤ n
take_short n xs = grind (arith, common_steps)

-- the cells of a geometry that keys were made of
pub others_stand_of : (levels : List Level) (keys : KeyNames) (cell : ℕ) (old new : List ℕ → Option (List ℕ)) → keys.levels ≡ levels → AreKeys keys → cell < cells_of levels → SameElsewhere old new (edited_key levels cell)
    → (other : ℕ) → other < cells_of levels → (other ≡ cell → ⊥) → standing levels keys new other ≡ standing levels keys old other
others_stand_of levels keys cell old new made k =
    subst (λ (l : List Level). cell < cells_of l → SameElsewhere old new (edited_key l cell) → (other : ℕ) → other < cells_of l → (other ≡ cell → ⊥) → standing l keys new other ≡ standing l keys old other) made
    (others_stand keys cell old new k)
