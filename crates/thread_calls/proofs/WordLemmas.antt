-- Command words ask for at most 16 fetchers.
use Rattle.std.proofs.Common.{◌≡◌, ◌∙◌, inl, inr, ◌≤◌, ◌&&◌, ◌^◌, ◌-◌, ℕ, Bool, true, false, List, [], ◌∷◌, Option, None, Some, Result, Ok, Err, codes, refl, sym, subst, nat_le, if◌then◌else◌}
use Rattle.std.proofs.lemmas.Bool.Decides.{leb_tells}
use Rattle.std.specs.Prelude.{IfOk, option_and_then, option_map}
use Rattle.std.specs.declared.alloc.AllocError.{AllocError}
use Rattle.std.specs.Str.{bytes_eq}
use Rattle.std.specs.Str.Parse.{digits_value}
use Rattle.command_words.specs.Grammar.{Uses, given_in, value_in}
use Rattle.command_words.specs.Number.{are_digits, number_in}
use Rattle.command_words.specs.Request.{asked, demo_in, fetchers_in, info_in, request_in, root_in, run_in, slots_in, solo_in}
use Rattle.command_words.specs.declared.request.Request.{Request}
use Rattle.command_words.specs.declared.request.Request.TheVariants.{Demo, Info, Run, Solo}
use Rattle.thread_calls.specs.Run.{AsksFewFetchers}

-- the values of names
abbrev Values : Type 0
Values = List ℕ → Option (List ℕ)

either : (b : Bool) (x y : Option Request) → AsksFewFetchers x → AsksFewFetchers y → AsksFewFetchers (if b then x else y)
either true x y first second = first
either false x y first second = second

of_uses : (request : Values → Option Request) → ((value : Values) → AsksFewFetchers (request value)) → (uses : Option Uses) → AsksFewFetchers (asked request uses)
of_uses request few None = tt
of_uses request few (Some uses) = few (value_in uses)

few_of_info : (root : Option (List ℕ)) → AsksFewFetchers (option_map (λ root. Info root) root)
few_of_info None = tt
few_of_info (Some root) = tt

few_of_demo : (number : Option ℕ) → AsksFewFetchers (option_map (λ number. Demo number) number)
few_of_demo None = tt
few_of_demo (Some number) = tt

few_of_solo : (script : Option (List ℕ)) (slots : Option ℕ) → AsksFewFetchers (option_and_then (λ script. option_map (λ slots. Solo script slots) slots) script)
few_of_solo None slots = tt
few_of_solo (Some script) None = tt
few_of_solo (Some script) (Some slots) = tt

-- a number that is read is at most the most
abbrev AtMost : ℕ → Option ℕ → Type 0
AtMost most None = Unit {0}
AtMost most (Some number) = number ≤ most

read_at_most : (most number : ℕ) (digits : Bool) → AtMost most (if digits && nat_le number most then Some number else None)
read_at_most most number true = at_most (nat_le number most) refl
  where
    at_most : (b : Bool) → nat_le number most ≡ b → AtMost most (if b then Some number else None)
    at_most true is = elim (leb_tells number most) [ inl below ↦ below.1 | inr above ↦ let clash : true ≡ false = sym is ∙ above.0 in absurd (cc) ]
    at_most false is = tt
read_at_most most number false = tt

option_at_most : (most : ℕ) (word : Option (List ℕ)) → AtMost most (option_and_then (number_in 9 most) word)
option_at_most most None = tt
option_at_most most (Some word) = read_at_most most (digits_value 10 word) (are_digits 9 word)

few_of_run : (script : Option (List ℕ)) (slots fetchers : Option ℕ) → AtMost 16 fetchers
    → AsksFewFetchers (option_and_then (λ script. option_and_then (λ slots. option_map (λ fetchers. Run script slots fetchers) fetchers) slots) script)
few_of_run None slots fetchers few = tt
few_of_run (Some script) None fetchers few = tt
few_of_run (Some script) (Some slots) None few = tt
few_of_run (Some script) (Some slots) (Some fetchers) few = few

few_fetchers : (words : List (List ℕ)) → AsksFewFetchers (request_in words)
unfolding request_in
few_fetchers [] = tt
few_fetchers (command ∷ words) =
    either (bytes_eq command (codes "info")) _ _ (of_uses info_in (λ value. few_of_info (option_and_then root_in (value (codes "operand")))) (given_in [] words))
    (either (bytes_eq command (codes "solo")) _ _ (of_uses solo_in (λ value. few_of_solo (value (codes "operand")) (slots_in value)) (given_in (codes "slots" ∷ []) words))
    (either (bytes_eq command (codes "run")) _ _
    (of_uses run_in (λ value. few_of_run (value (codes "operand")) (slots_in value) (fetchers_in value) (option_at_most 16 (value (codes "fetchers")))) (given_in (codes "slots" ∷ codes "fetchers" ∷ []) words))
    (either (bytes_eq command (codes "demo")) _ _ (of_uses demo_in (λ value. few_of_demo (option_and_then (number_in 20 (2 ^ 64 - 1)) (value (codes "operand")))) (given_in [] words)) tt)))

pub few_read : (read : Result (Option Request) AllocError) (words : List (List ℕ)) → IfOk read (λ request. request ≡ request_in words) → IfOk read AsksFewFetchers
few_read (Ok request) words is = subst AsksFewFetchers (sym is) (few_fetchers words)
few_read (Err memory) words is = tt
