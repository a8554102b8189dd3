-- The map after the insertion has the bytes under the key, and elsewhere what it had.
use Rattle.std.proofs.Common.{◌≡◌, ◌∙◌, ℕ, Bool, true, false, cond, Option, Some, refl, sym, ap, string_bytes, Vec, Global}
use Rattle.std.specs.Option.{option_map}
use Rattle.std.proofs.lemmas.Map.Text.{btree_map_updates_text}
use Rattle.std.specs.Str.{bytes_eq}
use Rattle.cell_store.proofs.TextLemmas.{held_by_text}
use Rattle.cell_store.proofs.mem_store.insert.Goals as goal

-- the bytes of a choice are a choice of bytes
bytes_of_choice : (b : Bool) (x y : Option (Vec ℕ Global)) → option_map (λ (v : Vec ℕ Global). v.items) (cond b x y) ≡ cond b (option_map (λ (v : Vec ℕ Global). v.items) x) (option_map (λ (v : Vec ℕ Global). v.items) y)
bytes_of_choice true x y = refl
bytes_of_choice false x y = refl

pub returns-clause-ok : goal.returns-clause-ok
returns-clause-ok c = λ other.
    rw (← c.in_ok-text.ensures.ok, ← c.in_ok-copy.ensures.items)
    (held_by_text c.insert.new.self other ∙ ap (option_map (λ (v : Vec ℕ Global). v.items)) (btree_map_updates_text (string_bytes c.in_ok-text.text) c.args.held.now c.insert.new.self _ c.in_ok-insert.ensures.updates other)
    ∙ bytes_of_choice _ _ _
    ∙ ap (cond (bytes_eq (string_bytes c.in_ok-text.text) other) (Some c.in_ok-copy.copy.items)) (sym (held_by_text c.args.held.now other)))
