-- The numbers so far, followed by those of the items that are left, are those of all items.
use Rattle.std.proofs.Common.{◌≡◌, ◌≤◌, ◌++◌, drop}
use Rattle.std.specs.Prelude.{option_map, All}
use Rattle.serde_json.specs.View.{items_view}
use Rattle.n5_meta.specs.Value.{numbers_up_to}
use Rattle.n5_meta.proofs.value.numbers_of.Given as goal

abbrev pub invariant-loop-item : goal.invariant-loop-item
invariant-loop-item l = record {
  meaning : option_map (λ rest. l.numbers ++ rest) (numbers_up_to l.most (items_view (drop l.item-index l.items))) ≡ numbers_up_to l.most (items_view l.items);
  within : All (λ n. n ≤ l.most) l.numbers;
}
