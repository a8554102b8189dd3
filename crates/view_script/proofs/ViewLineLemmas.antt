-- What holds of each view that is read.
use Rattle.std.proofs.Common.{◌≡◌, ℕ, zero, suc, ◌≤◌, ◌^◌, ◌&&◌, ℤ, pos, neg_ℤ, unsigned_abs, List, [], ◌∷◌, Bool, true, false, Option, Some, None, Ok, Err, refl, arith, if◌then◌else◌, nat_le}
use Rattle.std.specs.Prelude.{IfOk, IfSome, IsTrue, codes, slice_index_or}
use Rattle.std.specs.Str.{bytes_eq}
use Rattle.std.proofs.lemmas.Bool.{leb-true}
use Rattle.scale_pick.specs.declared.strategy.Strategy.{Strategy}
use Rattle.scale_pick.specs.declared.strategy.Strategy.TheVariants as strategy
use Rattle.whole_affine.specs.Affine.{IsMap}
use Rattle.view_script.specs.declared.script_error.ScriptKind.TheVariants.{Limit, UnknownWord}
use Rattle.view_script.specs.Name.{is_view_name}
use Rattle.view_script.specs.Number.{number_in}
use Rattle.view_script.specs.Reading.{word_as, at_most, between, number_word, number_between}
use Rattle.view_script.specs.Script.{IsSide, budget_of}
use Rattle.view_script.specs.ViewLine.{name_in, side, given_level, level_in, strategy_in, budgeted, or_budgeted, strategy_words, signed, behind_minus, entry_from, entry_in, matrix_row, map_words}
use Rattle.view_script.proofs.ReadingLemmas.{Gives, gives_then, gives_word, gives_value, number_gives}

pub name_gives : Gives (word_as name_in) (λ name. IsTrue (is_view_name name))
name_gives = gives_word name_in _ each
  where
    each : (word : List ℕ) → IfOk (name_in word) (λ name. IsTrue (is_view_name name))
    each word = go (is_view_name word) refl
      where
        go : (named : Bool) → is_view_name word ≡ named → IfOk (if named then Ok word else Err Limit) (λ name. IsTrue (is_view_name name))
        go true named = named
        go false other = tt

number_between_gives : (least most : ℕ) → Gives (number_between least most) (λ n. (least ≤ n) × (n ≤ most))
number_between_gives least most = gives_word (λ word. between least most (number_in word)) _ (λ word. each (number_in word))
  where
    each : (n : Option ℕ) → IfOk (between least most n) (λ n. (least ≤ n) × (n ≤ most))
    each None = tt
    each (Some n) = go (nat_le least n) refl (nat_le n most) refl
      where
        go : (low : Bool) → nat_le least n ≡ low → (high : Bool) → nat_le n most ≡ high → IfOk (if low && high then Ok n else Err Limit) (λ n. (least ≤ n) × (n ≤ most))
        go true low true high = (leb-true least n low, leb-true n most high)
        go true low false high = tt
        go false low true high = tt
        go false low false high = tt

pub side_gives : Gives side IsSide
side_gives = number_between_gives 1 4096

given_level_gives : (level : ℕ) → IfOk (given_level (Some level)) (λ level. IfSome level (λ level. level ≤ 7))
given_level_gives level = go (nat_le level 7) refl
  where
    go : (fits : Bool) → nat_le level 7 ≡ fits → IfOk (if fits then Ok (Some level) else Err Limit) (λ level. IfSome level (λ level. level ≤ 7))
    go true fits = leb-true level 7 fits
    go false fits = tt

pub level_gives : Gives (word_as level_in) (λ level. IfSome level (λ level. level ≤ 7))
level_gives = gives_word level_in _ each
  where
    numbered : (n : Option ℕ) → IfOk (given_level n) (λ level. IfSome level (λ level. level ≤ 7))
    numbered None = tt
    numbered (Some n) = given_level_gives n

    each : (word : List ℕ) → IfOk (level_in word) (λ level. IfSome level (λ level. level ≤ 7))
    each word = go (bytes_eq word (codes "auto"))
      where
        go : (auto : Bool) → IfOk (if auto then Ok None else given_level (number_in word)) (λ level. IfSome level (λ level. level ≤ 7))
        go true = tt
        go false = numbered (number_in word)

-- a strategy within its limit
abbrev pub IsWithinBudget : Strategy → Type 0
IsWithinBudget given = budget_of given ≤ 2 ^ 20

plain_gives : Gives (word_as strategy_in) (λ plain. IfSome plain IsWithinBudget)
plain_gives = gives_word strategy_in _ (λ word. go (bytes_eq word (codes "blocking")) (bytes_eq word (codes "volatile")) (bytes_eq word (codes "dontload")) (bytes_eq word (codes "budgeted")))
  where
    small : 0 ≤ 2 ^ 20
    small = omega arith

    go : (a b c d : Bool) → IfOk (if a then Ok (Some strategy.Blocking) else if b then Ok (Some strategy.Volatile) else if c then Ok (Some strategy.DontLoad) else if d then Ok None else Err UnknownWord) (λ plain. IfSome plain IsWithinBudget)
    go true b c d = small
    go false true c d = small
    go false false true d = small
    go false false false true = tt
    go false false false false = tt

budgeted_gives : Gives budgeted IsWithinBudget
unfolding budgeted
budgeted_gives = gives_then (number_word (2 ^ 20)) _ _ _ (number_gives (2 ^ 20)) (λ cells within. gives_value (strategy.Budgeted cells) _ within)

pub strategy_gives : Gives strategy_words IsWithinBudget
unfolding strategy_words
strategy_gives = gives_then (word_as strategy_in) or_budgeted _ _ plain_gives or_its_budget
  where
    or_its_budget : (plain : Option Strategy) → IfSome plain IsWithinBudget → Gives (or_budgeted plain) IsWithinBudget
    or_its_budget (Some plain) within = gives_value plain _ within
    or_its_budget None within = budgeted_gives

abs-neg : (n : ℕ) → unsigned_abs (neg_ℤ (pos n)) ≡ n
abs-neg zero = refl
abs-neg (suc n) = refl

-- an entry of a matrix
abbrev IsEntry : ℤ → Type 0
IsEntry entry = unsigned_abs entry ≤ 2 ^ 31

entry_gives : Gives (word_as entry_in) IsEntry
entry_gives = gives_word entry_in _ (λ word. over (behind_minus word) word)
  where
    sized : (sign : ℕ → ℤ) → ((n : ℕ) → unsigned_abs (sign n) ≡ n) → (size : Option ℕ) → IfOk (signed sign (at_most (2 ^ 31) size)) IsEntry
    sized sign abs None = tt
    sized sign abs (Some n) = go (nat_le n (2 ^ 31)) refl
      where
        go : (fits : Bool) → nat_le n (2 ^ 31) ≡ fits → IfOk (signed sign (if fits then Ok n else Err Limit)) IsEntry
        go true fits = let small : n ≤ 2 ^ 31 = leb-true n (2 ^ 31) fits in rw (abs n) small
        go false fits = tt

    over : (digits : Option (List ℕ)) (word : List ℕ) → IfOk (entry_from digits word) IsEntry
    over (Some digits) word = sized (λ n. neg_ℤ (pos n)) abs-neg (number_in digits)
    over None word = sized pos (λ n. refl) (number_in word)

-- the entries of an axis
abbrev IsRow : List ℤ → Type 0
IsRow row = (i : ℕ) → unsigned_abs (slice_index_or row i (pos 0)) ≤ 2 ^ 31

row_of_entries : (a b c : ℤ) → IsEntry a → IsEntry b → IsEntry c → IsRow (a ∷ b ∷ c ∷ [])
row_of_entries a b c first second third zero = first
row_of_entries a b c first second third (suc zero) = second
row_of_entries a b c first second third (suc (suc zero)) = third
row_of_entries a b c first second third (suc (suc (suc i))) = omega arith

row_gives : Gives matrix_row IsRow
unfolding matrix_row
row_gives = gives_then (word_as entry_in) _ _ _ entry_gives (λ a first.
    gives_then (word_as entry_in) _ _ _ entry_gives (λ b second.
    gives_then (word_as entry_in) _ _ _ entry_gives (λ c third.
    gives_value (a ∷ b ∷ c ∷ []) _ (row_of_entries a b c first second third))))

map_of_rows : (q : ℕ) (x y z : List ℤ) → (1 ≤ q) × (q ≤ 2 ^ 31) → IsRow x → IsRow y → IsRow z → IsMap (record { q = q; rows = x ∷ y ∷ z ∷ [] })
map_of_rows q x y z fits on_x on_y on_z = record {
  positive = omega (arith, fits.0);
  bounded = fits.1;
  small = entries;
}
  where
    entries : (axis i : ℕ) → unsigned_abs (slice_index_or (slice_index_or (x ∷ y ∷ z ∷ []) axis []) i (pos 0)) ≤ 2 ^ 31
    entries zero i = on_x i
    entries (suc zero) i = on_y i
    entries (suc (suc zero)) i = on_z i
    entries (suc (suc (suc axis))) i = omega arith

pub map_gives : Gives map_words IsMap
unfolding map_words
map_gives = gives_then (number_between 1 (2 ^ 31)) _ _ _ (number_between_gives 1 (2 ^ 31)) (λ q fits.
    gives_then matrix_row _ _ _ row_gives (λ x on_x.
    gives_then matrix_row _ _ _ row_gives (λ y on_y.
    gives_then matrix_row _ _ _ row_gives (λ z on_z.
    gives_value (record { q = q; rows = x ∷ y ∷ z ∷ [] }) _ (map_of_rows q x y z fits on_x on_y on_z)))))
