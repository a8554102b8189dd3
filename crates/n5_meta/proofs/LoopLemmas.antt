-- A step of each loop: an item that is read moves to the front, and one that is refused refuses all.
use Rattle.std.proofs.Common.{◌≡◌, ◌∙◌, ℕ, ◌+◌, ◌<◌, List, [], ◌∷◌, ◌++◌, length, drop, Option, None, Result, Ok, Err, Vec, Global, refl, sym, ap, arith, false}
use Rattle.std.proofs.Math.ListN.{get_or}
use Rattle.std.proofs.lemmas.List.{at_drop_more}
use Rattle.std.specs.Prelude.{IsTrue}
use Rattle.std.specs.Result.{OnOk, is_err}
use Rattle.cell_store.specs.Store.{Contents, held_of}
use Rattle.cell_grid.specs.declared.level.Level.{Level}
use Rattle.cell_grid.specs.Grid.{Sides}
use Rattle.n5_meta.specs.declared.described.Described.{Described}
use Rattle.n5_meta.specs.declared.attr.Attr.{Attr}
use Rattle.n5_meta.specs.declared.open_err.OpenErr.{OpenErr}
use Rattle.n5_meta.specs.declared.open_err.OpenErr.TheVariants as refused
use Rattle.n5_meta.specs.Gets.{Opens}
use Rattle.n5_meta.specs.Pyramid.{AnswersOpened, attr_in, described_from, extent_of, levels_of, level_key}
use Rattle.n5_meta.proofs.Prefixes.{prefixed, prefixed_more}

level_more : (front : List Level) (described : Described) (extent : Sides) (others : List Described) → extent_of described.attr ≡ Ok extent → prefixed front (levels_of (described ∷ others)) ≡ prefixed (front ++ record { extent = extent; factor = described.factor; kind = described.attr.kind } ∷ []) (levels_of others)
level_more front described extent others is = rw is (prefixed_more front _ (levels_of others))

level_refused : (front : List Level) (described : Described) (err : OpenErr) (others : List Described) → extent_of described.attr ≡ Err err → prefixed front (levels_of (described ∷ others)) ≡ Err err
level_refused front described err others is = rw is refl

described_more : (held : List ℕ → Option (List ℕ)) (root : List ℕ) (level : ℕ) (front : List Described) (factor : List ℕ) (attr : Attr) (factors : List (List ℕ)) → attr_in level (held (level_key root level)) ≡ Ok attr
    → prefixed front (described_from held root level (factor ∷ factors)) ≡ prefixed (front ++ record { factor = factor; attr = attr } ∷ []) (described_from held root (level + 1) factors)
described_more held root level front factor attr factors is = rw is (prefixed_more front _ (described_from held root (level + 1) factors))

described_refused : (held : List ℕ → Option (List ℕ)) (root : List ℕ) (level : ℕ) (front : List Described) (factor : List ℕ) (err : OpenErr) (factors : List (List ℕ)) → attr_in level (held (level_key root level)) ≡ Err err
    → prefixed front (described_from held root level (factor ∷ factors)) ≡ Err err
described_refused held root level front factor err factors is = rw is refl

answers_refused : {X Y : Type 0} (view : X → Y) (err : OpenErr) (meant : Result Y OpenErr) → meant ≡ Err err → AnswersOpened view (Err err) meant
answers_refused view refused.ReadFault meant is = tt
answers_refused view refused.Memory meant is = tt
answers_refused view err meant is = is

pub level_stops : (described : List Described) (i : ℕ) (d : Described) (front : List Level) (err : OpenErr) → i < length described → extent_of (get_or described i d).attr ≡ Err err
    → prefixed front (levels_of (drop i described)) ≡ levels_of described → AnswersOpened (λ (levels : Vec Level Global). levels.items) (Err err) (levels_of described)
level_stops described i d front err lt is so_far = answers_refused {X = Vec Level Global} (λ levels. levels.items) err _
    (sym so_far ∙ at_drop_more (λ left. prefixed front (levels_of left)) described i d lt ∙ level_refused front (get_or described i d) err (drop (i + 1) described) is)

pub level_goes_on : (described : List Described) (i : ℕ) (d : Described) (front : List Level) (extent : Sides) → i < length described → extent_of (get_or described i d).attr ≡ Ok extent
    → prefixed front (levels_of (drop i described)) ≡ levels_of described
    → prefixed (front ++ record { extent = extent; factor = (get_or described i d).factor; kind = (get_or described i d).attr.kind } ∷ []) (levels_of (drop (i + 1) described)) ≡ levels_of described
level_goes_on described i d front extent lt is so_far =
    sym (level_more front (get_or described i d) extent (drop (i + 1) described) is) ∙ sym (at_drop_more (λ left. prefixed front (levels_of left)) described i d lt) ∙ so_far

answers_on : {X Y Z W : Type 0} (view : X → Y) (view' : Z → W) (err : OpenErr) (meant : Result Y OpenErr) (meant' : Result W OpenErr) → (meant ≡ Err err → meant' ≡ Err err) → AnswersOpened view (Err err) meant → AnswersOpened view' (Err err) meant'
answers_on view view' refused.ReadFault meant meant' on answer = tt
answers_on view view' refused.Memory meant meant' on answer = tt
answers_on view view' err meant meant' on answer = on answer

-- a level that is refused after others were read
pub described_stops : (root : List ℕ) (a b : Contents) (factors : List (List ℕ)) (level : ℕ) (d : List ℕ) (front : List Described) (err : OpenErr) → Opens root a b None → level < length factors
    → (IsTrue b.told → AnswersOpened (λ attr. attr) (Err err) (attr_in level ((held_of b) (level_key root level))))
    → (IsTrue a.told → prefixed front (described_from (held_of a) root level (drop level factors)) ≡ described_from (held_of a) root 0 factors)
    → IsTrue a.told → AnswersOpened (λ (described : List Described). described) (Err err) (described_from (held_of a) root 0 factors)
described_stops root a b factors level d front err opens lt answer so_far told =
    answers_on {X = Attr} {Z = List Described} (λ attr. attr) (λ described. described) err _ _ (λ is. sym (so_far told) ∙ at_drop_more (λ left. prefixed front (described_from (held_of a) root level left)) factors level d lt
    ∙ described_refused (held_of a) root level front (get_or factors level d) err (drop (level + 1) factors)
    (ap (λ held. attr_in level (held (level_key root level))) (sym (opens.unchanged told)) ∙ is)) (answer (opens.told ∙ told))

-- a level that was read after others
pub described_goes_on : (root : List ℕ) (a b : Contents) (factors : List (List ℕ)) (level : ℕ) (d : List ℕ) (front : List Described) (attr : Attr) → Opens root a b None → level < length factors
    → (IsTrue b.told → attr_in level ((held_of b) (level_key root level)) ≡ Ok attr)
    → (IsTrue a.told → prefixed front (described_from (held_of a) root level (drop level factors)) ≡ described_from (held_of a) root 0 factors)
    → IsTrue a.told → prefixed (front ++ record { factor = get_or factors level d; attr = attr } ∷ []) (described_from (held_of a) root (level + 1) (drop (level + 1) factors)) ≡ described_from (held_of a) root 0 factors
described_goes_on root a b factors level d front attr opens lt answer so_far told =
    sym (described_more (held_of a) root level front (get_or factors level d) attr (drop (level + 1) factors)
    (ap (λ held. attr_in level (held (level_key root level))) (sym (opens.unchanged told)) ∙ answer (opens.told ∙ told)))
    ∙ sym (at_drop_more (λ left. prefixed front (described_from (held_of a) root level left)) factors level d lt) ∙ so_far told

-- what holds once a push was not refused
pub if_pushed : {T E P : Type 0} (r : Result T E) → is_err r ≡ false → OnOk r P → P
if_pushed (Ok x) kept holds = holds
if_pushed (Err err) kept holds = grind (arith, kept)
