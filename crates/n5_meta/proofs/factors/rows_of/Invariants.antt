-- The rows so far, followed by those of the items that are left, are those of all items.
use Rattle.std.proofs.Common.{◌≡◌, ◌≤◌, ◌-◌, ◌^◌, ◌++◌, drop}
use Rattle.std.specs.Prelude.{option_map, All}
use Rattle.serde_json.specs.View.{items_view}
use Rattle.n5_meta.specs.Factors.{rows_of}
use Rattle.n5_meta.proofs.factors.rows_of.Given as goal

abbrev pub invariant-loop-item : goal.invariant-loop-item
invariant-loop-item l = record {
  meaning : option_map (λ rest. l.rows ++ rest) (rows_of (items_view (drop l.item-index l.items))) ≡ rows_of (items_view l.items);
  within : All (All (λ n. n ≤ 2 ^ 32 - 1)) l.rows;
}
