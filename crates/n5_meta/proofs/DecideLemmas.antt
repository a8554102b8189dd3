-- What the attributes that were got decide.
use Rattle.std.proofs.Common.{◌≡◌, inl, inr, ℕ, List, Some, None, Result, Ok, Err, Vec, Global, false, refl, sym, ap, ◌∙◌, arith}
use Rattle.cell_store.specs.declared.store.Got.{Got}
use Rattle.cell_grid.specs.GridErr.{broken_level}
use Rattle.cell_grid.specs.declared.grid_err.GridErr.{GridErr}
use Rattle.cell_grid.specs.declared.level.Level.{Level}
use Rattle.n5_meta.specs.declared.attr.Attr.{Attr}
use Rattle.n5_meta.specs.declared.described.Described.{Described}
use Rattle.n5_meta.specs.declared.meta_err.MetaErr.{MetaErr}
use Rattle.n5_meta.specs.declared.meta_err.MetaErr.TheVariants as broken
use Rattle.n5_meta.specs.declared.open_err.OpenErr.{OpenErr}
use Rattle.n5_meta.specs.declared.open_err.OpenErr.TheVariants as refused
use Rattle.n5_meta.specs.declared.spot.Spot.{Spot}
use Rattle.n5_meta.specs.declared.spot.Spot.TheVariants as spot
use Rattle.n5_meta.specs.Asks.{OrMemory, attr_by, bytes_by, pyramid_of, setup_by}
use Rattle.n5_meta.specs.Attr.{attributes_in}
use Rattle.n5_meta.specs.Factors.{factors_in}
use Rattle.n5_meta.specs.Gets.{opening_is_fault}
use Rattle.n5_meta.specs.Pyramid.{at_spot, few_levels, grid_or, levels_of, refusal_at}
use Rattle.n5_meta.specs.Pyramid.{AnswersOpened as Meant}
use Rattle.n5_meta.specs.Rules.{◌>>=◌}
use Rattle.n5_meta.specs.Value.{AnswersRead}

-- the setup's attributes, where the get was refused, and where the bytes were found
pub setup_refused : (found : List ℕ) (err : OpenErr) (answer : Got) → bytes_by spot.Setup answer found ≡ Err err → setup_by answer found ≡ Err err
unfolding setup_by
setup_refused found err answer is = rw is refl

setup_found : (found : List ℕ) (answer : Got) → bytes_by spot.Setup answer found ≡ Ok found → setup_by answer found ≡ (at_spot spot.Setup (factors_in found) >>= few_levels)
unfolding setup_by
setup_found found answer is = rw is refl

-- a level's attributes in the same way
pub attr_refused : (level : ℕ) (found : List ℕ) (err : OpenErr) (answer : Got) → bytes_by (spot.Level level) answer found ≡ Err err → attr_by level answer found ≡ Err err
unfolding attr_by
attr_refused level found err answer is = rw is refl

attr_found : (level : ℕ) (found : List ℕ) (answer : Got) → bytes_by (spot.Level level) answer found ≡ Ok found → attr_by level answer found ≡ at_spot (spot.Level level) (attributes_in found)
unfolding attr_by
attr_found level found answer is = rw is refl

-- attributes that are refused
meta_refused : {X A : Type 0} (view : X → A) (where' : Spot) (err : MetaErr) (meant : Result A MetaErr) → AnswersRead view (Err err) meant → OrMemory (at_spot where' meant) (Err (refusal_at where' err))
meta_refused view where' broken.Memory meant answer = inr refl
meta_refused view where' err meant answer = inl (sym (ap (at_spot where') answer))

refused_on : {A B : Type 0} (next : A → Result B OpenErr) (err : OpenErr) (meant : Result A OpenErr) → OrMemory meant (Err err) → OrMemory (meant >>= next) (Err err)
refused_on next err meant (inl is) = inl (ap (λ r. r >>= next) is)
refused_on next err meant (inr is) = inr (ap (λ r. r >>= next) is)

pub setup_bad : (found : List ℕ) (err : MetaErr) → AnswersRead (λ (factors : List (List ℕ)). factors) (Err err) (factors_in found) → (answer : Got) → bytes_by spot.Setup answer found ≡ Ok found
    → OrMemory (setup_by answer found) (Err (refusal_at spot.Setup err))
setup_bad found err refused answer is = rw (setup_found found answer is) (refused_on few_levels _ _ (meta_refused (λ (factors : List (List ℕ)). factors) spot.Setup err (factors_in found) refused))

pub setup_good : (found : List ℕ) (factors : List (List ℕ)) (result : Result (List (List ℕ)) OpenErr) → factors_in found ≡ Ok factors → few_levels factors ≡ result → (answer : Got) → bytes_by spot.Setup answer found ≡ Ok found
    → OrMemory (setup_by answer found) result
setup_good found factors result read few answer is = inl (sym (setup_found found answer is ∙ ap (λ f. at_spot spot.Setup f >>= few_levels) read ∙ few))

pub attr_bad : (level : ℕ) (found : List ℕ) (err : MetaErr) → AnswersRead (λ (attr : Attr). attr) (Err err) (attributes_in found) → (answer : Got) → bytes_by (spot.Level level) answer found ≡ Ok found
    → OrMemory (attr_by level answer found) (Err (refusal_at (spot.Level level) err))
attr_bad level found err refused answer is = rw (attr_found level found answer is) (meta_refused (λ (attr : Attr). attr) (spot.Level level) err (attributes_in found) refused)

pub attr_good : (level : ℕ) (found : List ℕ) (attr : Attr) → attributes_in found ≡ Ok attr → (answer : Got) → bytes_by (spot.Level level) answer found ≡ Ok found → OrMemory (attr_by level answer found) (Ok attr)
attr_good level found attr read answer is = inl (sym (attr_found level found answer is ∙ ap (at_spot (spot.Level level)) read))

-- the levels as they are described, which are or are not a pyramid
pub pyramid_refused : (described : List Described) (err : OpenErr) → opening_is_fault (Some err) ≡ false → Meant (λ (levels : Vec Level Global). levels.items) (Err err) (levels_of described) → OrMemory (pyramid_of described) (Err err)
unfolding pyramid_of
pyramid_refused described refused.ReadFault no_fault answer = grind (arith, no_fault)
pyramid_refused described refused.Memory no_fault answer = inr refl
pyramid_refused described err no_fault answer = inl (sym (ap (λ r. r >>= (λ levels. grid_or (broken_level levels) levels)) answer))

pub pyramid_made : (described : List Described) (levels geometry : List Level) → levels_of described ≡ Ok levels → geometry ≡ levels → None ≡ broken_level levels → OrMemory (pyramid_of described) (Ok geometry)
unfolding pyramid_of
pyramid_made described levels geometry read is none =
    inl (ap (λ (l : List Level). Ok l) is ∙ ap (λ e. grid_or e levels) none ∙ sym (ap (λ r. r >>= (λ made. grid_or (broken_level made) made)) read))

pub pyramid_unmade : (described : List Described) (levels : List Level) (err : GridErr) → levels_of described ≡ Ok levels → Some err ≡ broken_level levels → OrMemory (pyramid_of described) (Err (refused.Grid err))
unfolding pyramid_of
pyramid_unmade described levels err read some = inl (ap (λ e. grid_or e levels) some ∙ sym (ap (λ r. r >>= (λ made. grid_or (broken_level made) made)) read))
