-- What a store stands for at a cell.
use Rattle.std.proofs.Common.{◌≡◌, ◌∙◌, inl, inr, ℕ, ◌<◌, ◌≤◌, nat_lt, Bool, true, false, cond, List, length, replicate, Option, None, Some, refl, sym, ap, arith}
use Rattle.std.proofs.lemmas.Bool.{cases_lt}
use Rattle.std.proofs.lemmas.Bool.Decides.{nat_tests}
use Rattle.cell_grid.specs.declared.level.Level.{Level}
use Rattle.cell_grid.specs.Pyramid.{sides_of, full_of, voxels_of}
use Rattle.n5_block.specs.declared.block_err.BlockErr.{BlockErr}
use Rattle.n5_block.specs.Values.{values_in, values_unless, needed_values}
use Rattle.n5_block.proofs.ValueLemmas.{none_given}
use Rattle.cell_file.specs.declared.errors.FetchErr.{FetchErr}
use Rattle.cell_file.specs.declared.errors.FetchErr.TheVariants.{Malformed, TooLong}
use Rattle.cell_file.specs.Keys.{KeyNames, edited_key, base_key}
use Rattle.cell_file.specs.Laws.{IsStanding}
use Rattle.cell_file.specs.Standing.{width_of, limit_of, block_rule, block_values, values_of, stands_by, standing, malformed, refusal_by, refused_by, refusal_of}

longer : (a b : ℕ) → a < b → nat_lt a b ≡ true
longer a b lt = grind (arith, nat_tests)

no_longer : (a b : ℕ) → b ≤ a → nat_lt a b ≡ false
no_longer a b le = grind (arith, nat_tests)

-- the values of bytes that are not too long, and of bytes that are
pub values_short : (levels : List Level) (cell : ℕ) (bytes : List ℕ) → length bytes ≤ limit_of levels cell → values_of levels cell bytes ≡ block_values levels cell bytes
values_short levels cell bytes le = ap (λ (t : Bool). cond t None (block_values levels cell bytes)) (no_longer (limit_of levels cell) (length bytes) le)

values_long : (levels : List Level) (cell : ℕ) (bytes : List ℕ) → limit_of levels cell < length bytes → values_of levels cell bytes ≡ None
values_long levels cell bytes lt = ap (λ (t : Bool). cond t None (block_values levels cell bytes)) (longer (limit_of levels cell) (length bytes) lt)

-- why they are refused
pub refusal_short : (levels : List Level) (cell : ℕ) (edited : Bool) (bytes : List ℕ) → length bytes ≤ limit_of levels cell → refusal_by levels cell edited bytes ≡ malformed edited (block_rule levels cell bytes)
refusal_short levels cell edited bytes le =
    ap (λ (t : Bool). cond t (Some (TooLong edited (length bytes) (limit_of levels cell))) (malformed edited (block_rule levels cell bytes))) (no_longer (limit_of levels cell) (length bytes) le)

pub refusal_long : (levels : List Level) (cell : ℕ) (edited : Bool) (bytes : List ℕ) → limit_of levels cell < length bytes → refusal_by levels cell edited bytes ≡ Some (TooLong edited (length bytes) (limit_of levels cell))
refusal_long levels cell edited bytes lt =
    ap (λ (t : Bool). cond t (Some (TooLong edited (length bytes) (limit_of levels cell))) (malformed edited (block_rule levels cell bytes))) (longer (limit_of levels cell) (length bytes) lt)

-- the rule that is broken where bytes are malformed
pub malformed_some : (edited : Bool) (rule : Option BlockErr) (err : FetchErr) → malformed edited rule ≡ Some err → (b : BlockErr) × ((rule ≡ Some b) × (err ≡ Malformed edited b))
malformed_some edited None err e = absurd (cc)
malformed_some edited (Some b) err e = let same : err ≡ Malformed edited b = cc in (b, (refl, same))

malformed_none : (edited : Bool) (rule : Option BlockErr) → malformed edited rule ≡ None → rule ≡ None
malformed_none edited None e = refl
malformed_none edited (Some b) e = absurd (cc)

-- what isn't refused has values
has_values : (levels : List Level) (cell : ℕ) (edited : Bool) (bytes : List ℕ) → refusal_by levels cell edited bytes ≡ None → (values : List ℕ) × (values_of levels cell bytes ≡ Some values)
unfolding values_in
has_values levels cell edited bytes h = elim (cases_lt (limit_of levels cell) (length bytes)) [
  | inl lt ↦ absurd (none_some (sym (refusal_long levels cell edited bytes lt) ∙ h))
  | inr le ↦
      let rule = malformed_none edited (block_rule levels cell bytes) (sym (refusal_short levels cell edited bytes le) ∙ h) in
      let needed = needed_values (width_of levels cell) (sides_of levels cell) bytes in
      (needed, values_short levels cell bytes le ∙ ap (λ (r : Option BlockErr). values_unless r needed) rule)
]
  where
    none_some : {X : Type 0} {x : X} → Some x ≡ None → ⊥
    none_some e = cc

-- what is refused has none
no_values : (levels : List Level) (cell : ℕ) (edited : Bool) (bytes : List ℕ) (err : FetchErr) → refusal_by levels cell edited bytes ≡ Some err → values_of levels cell bytes ≡ None
no_values levels cell edited bytes err h = elim (cases_lt (limit_of levels cell) (length bytes)) [
  | inl lt ↦ values_long levels cell bytes lt
  | inr le ↦
      let rule = malformed_some edited (block_rule levels cell bytes) err (sym (refusal_short levels cell edited bytes le) ∙ h) in
      values_short levels cell bytes le ∙ none_given (width_of levels cell) (sides_of levels cell) (full_of levels cell) bytes rule.0 (sym rule.1.0)
]

not_void : (levels : List Level) (cell : ℕ) (edited base : Option (List ℕ)) → refused_by levels cell edited base ≡ None → (values : List ℕ) × (stands_by levels cell edited base ≡ Some values)
not_void levels cell (Some edited) base h = has_values levels cell true edited h
not_void levels cell None (Some base) h = has_values levels cell false base h
not_void levels cell None None h = (replicate (voxels_of levels cell) 0, refl)

void : (levels : List Level) (cell : ℕ) (edited base : Option (List ℕ)) (err : FetchErr) → refused_by levels cell edited base ≡ Some err → stands_by levels cell edited base ≡ None
void levels cell (Some edited) base err h = no_values levels cell true edited err h
void levels cell None (Some base) err h = no_values levels cell false base err h
void levels cell None None err h = absurd (cc)

-- what decides: the bytes under the edited key, those under the base key, or neither
pub by_edited : (levels : List Level) (keys : KeyNames) (held : List ℕ → Option (List ℕ)) (cell : ℕ) (bytes : List ℕ) → held (edited_key levels cell) ≡ Some bytes
    → (standing levels keys held cell ≡ values_of levels cell bytes) × (refusal_of levels keys held cell ≡ refusal_by levels cell true bytes)
unfolding standing refusal_of
by_edited levels keys held cell bytes e =
    (ap (λ (d : Option (List ℕ)). stands_by levels cell d (held (base_key levels keys cell))) e, ap (λ (d : Option (List ℕ)). refused_by levels cell d (held (base_key levels keys cell))) e)

pub by_base : (levels : List Level) (keys : KeyNames) (held : List ℕ → Option (List ℕ)) (cell : ℕ) (bytes : List ℕ) → held (edited_key levels cell) ≡ None → held (base_key levels keys cell) ≡ Some bytes
    → (standing levels keys held cell ≡ values_of levels cell bytes) × (refusal_of levels keys held cell ≡ refusal_by levels cell false bytes)
unfolding standing refusal_of
by_base levels keys held cell bytes e b = (
  ap (λ (d : Option (List ℕ)). stands_by levels cell d (held (base_key levels keys cell))) e ∙ ap (λ (d : Option (List ℕ)). stands_by levels cell None d) b,
  ap (λ (d : Option (List ℕ)). refused_by levels cell d (held (base_key levels keys cell))) e ∙ ap (λ (d : Option (List ℕ)). refused_by levels cell None d) b,
)

pub by_none : (levels : List Level) (keys : KeyNames) (held : List ℕ → Option (List ℕ)) (cell : ℕ) → held (edited_key levels cell) ≡ None → held (base_key levels keys cell) ≡ None
    → standing levels keys held cell ≡ Some (replicate (voxels_of levels cell) 0)
unfolding standing
by_none levels keys held cell e b =
    ap (λ (d : Option (List ℕ)). stands_by levels cell d (held (base_key levels keys cell))) e ∙ ap (λ (d : Option (List ℕ)). stands_by levels cell None d) b

pub same_standing : (levels : List Level) (keys : KeyNames) (held other : List ℕ → Option (List ℕ)) (cell : ℕ) → other (edited_key levels cell) ≡ held (edited_key levels cell) → other (base_key levels keys cell) ≡ held (base_key levels keys cell)
    → standing levels keys other cell ≡ standing levels keys held cell
unfolding standing
same_standing levels keys held other cell e b =
    ap (λ (d : Option (List ℕ)). stands_by levels cell d (other (base_key levels keys cell))) e ∙ ap (λ (d : Option (List ℕ)). stands_by levels cell (held (edited_key levels cell)) d) b

pub is_standing : (levels : List Level) (keys : KeyNames) (held : List ℕ → Option (List ℕ)) (cell : ℕ) → IsStanding levels keys held cell
unfolding standing refusal_of
is_standing levels keys held cell = record {
  not_void = λ h. not_void levels cell (held (edited_key levels cell)) (held (base_key levels keys cell)) h;
  void = λ err h. void levels cell (held (edited_key levels cell)) (held (base_key levels keys cell)) err h;
  zeros = λ e b. by_none levels keys held cell e b;
  same = λ other e b. same_standing levels keys held other cell e b;
}
