-- What a map of texts holds is what it has under these bytes.
use Rattle.std.proofs.Common.{◌≡◌, ℕ, Bool, true, false, cond, List, [], ◌∷◌, map, Option, Some, refl, string_bytes, String, Vec, Global}
use Rattle.std.specs.Option.{option_map}
use Rattle.std.specs.Map.{lookup}
use Rattle.std.specs.Ordering.{is_eq, nat_cmp}
use Rattle.std.specs.Cmp.Lexicographic.{slice_cmp}
use Rattle.std.specs.BTreeMap.{BTreeMap, get_by_text}
use Rattle.cell_store.specs.Held.{held_in}

module _ {K X L Y : Type 0} (f : K → L) (g : X → Y) (test : L → Bool) where
  lookup_map : (es : List (K × X)) → lookup test (map (λ (e : K × X). (f e.0, g e.1)) es) ≡ option_map g (lookup (λ k. test (f k)) es)
  lookup_map [] = refl
  lookup_map (e ∷ es) = choose (test (f e.0)) _ _ (lookup_map es)
    where
      choose : (b : Bool) (x : Option Y) (y : Option X) → x ≡ option_map g y → cond b (Some (g e.1)) x ≡ option_map g (cond b (Some e.1) y)
      choose true x y h = refl
      choose false x y h = h

pub held_by_text : (m : BTreeMap (String Global) (Vec ℕ Global)) (key : List ℕ) → held_in m key ≡ option_map (λ (v : Vec ℕ Global). v.items) (get_by_text m key)
held_by_text m key = lookup_map string_bytes (λ (v : Vec ℕ Global). v.items) (λ k. is_eq (slice_cmp nat_cmp key k)) m.entries
