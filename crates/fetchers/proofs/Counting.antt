-- The counts of servings, and how a fetch ends.
use Rattle.std.proofs.Common.{◌≡◌, ◌∙◌, ℕ, ◌+◌, ◌<◌, ◌&&◌, Bool, true, List, [], ◌∷◌, ◌++◌, refl, sym, ap, subst, length-append, arith}
use Rattle.std.specs.List.{count_by}
use Rattle.std.proofs.lemmas.List.Folds.{list_all-append}
use Rattle.std.proofs.lemmas.List.Sums.{sum_by-append}
use Rattle.cell_file.specs.declared.errors.AcquireErr.{AcquireErr}
use Rattle.cell_file.specs.declared.errors.AcquireErr.TheVariants as refusal
use Rattle.fetchers.specs.declared.served.Served.{Served}
use Rattle.fetchers.specs.declared.served.Served.TheVariants.{Idle, Refused}
use Rattle.fetchers.specs.declared.fetched.Fetched.{Fetched}
use Rattle.fetchers.specs.Servings.{goes_on, is_loaded, was_held, is_refused, counts_of, IsWholeFetch, IsEndedBy}

-- what wasn't refused for want of memory
pub refused_otherwise : (err : AcquireErr) → (err ≡ refusal.Memory → ⊥) → goes_on (Refused err) ≡ true
refused_otherwise refusal.ReadFault other = refl
refused_otherwise refusal.WriteFault other = refl
refused_otherwise (refusal.Malformed edited err) other = refl
refused_otherwise (refusal.TooLong edited len limit) other = refl
refused_otherwise refusal.Full other = refl
refused_otherwise refusal.Memory other = absurd (other refl)

count_by-append : (p : Served → Bool) (xs ys : List Served) → count_by p (xs ++ ys) ≡ count_by p xs + count_by p ys
count_by-append p xs ys = sum_by-append _ xs ys

and_true : (a b : Bool) → a ≡ true → b ≡ true → (a && b) ≡ true
and_true a b h g = ap (λ x. x && b) h ∙ g

abbrev fetched_of : ℕ → ℕ → ℕ → Fetched
fetched_of a b c = record { loaded = a; held = b; refused = c }

same_counts : (a b c x y z : ℕ) → a ≡ x → b ≡ y → c ≡ z → fetched_of a b c ≡ fetched_of x y z
same_counts a b c x y z p q r = cc

-- one serving more, counted as what it came to
pub counts_more : (f g : Fetched) (servings : List Served) (last : Served) → f ≡ counts_of servings
    → g.loaded ≡ f.loaded + count_by is_loaded (last ∷ []) → g.held ≡ f.held + count_by was_held (last ∷ []) → g.refused ≡ f.refused + count_by is_refused (last ∷ []) → g ≡ counts_of (servings ++ last ∷ [])
counts_more f g servings last is loaded held refused =
    same_counts _ _ _ _ _ _ (part is_loaded _ _ loaded (ap (λ (x : Fetched). x.loaded) is)) (part was_held _ _ held (ap (λ (x : Fetched). x.held) is)) (part is_refused _ _ refused (ap (λ (x : Fetched). x.refused) is))
  where
    part : (p : Served → Bool) (a b : ℕ) → a ≡ b + count_by p (last ∷ []) → b ≡ count_by p servings → a ≡ count_by p (servings ++ last ∷ [])
    part p a b h g = h ∙ ap (λ k. k + count_by p (last ∷ [])) g ∙ sym (count_by-append p servings (last ∷ []))

-- an empty queue counts as nothing
pub counts_idle : (f : Fetched) (servings : List Served) → f ≡ counts_of servings → f ≡ counts_of (servings ++ Idle ∷ [])
counts_idle f servings is = counts_more f f servings Idle is (omega arith) (omega arith) (omega arith)

-- one request more was served
pub whole_more : (n : ℕ) (servings : List Served) (last : Served) → IsWholeFetch n servings → goes_on last ≡ true → IsWholeFetch (n + 1) (servings ++ last ∷ [])
whole_more n servings last h goes = record {
  served = list_all-append goes_on servings (last ∷ []) ∙ and_true _ _ h.served (and_true _ _ goes refl);
  all = length-append servings (last ∷ []) ∙ ap (λ k. k + 1) h.all;
}

-- a serving after which none follows
pub ended_by : (n count : ℕ) (servings : List Served) (last : Served) → n < count → IsWholeFetch n servings → IsEndedBy last count (servings ++ last ∷ [])
ended_by n count servings last few h = record { before = servings; served = h.served; fewer = subst (λ k. k < count) (sym h.all) few; are = refl }
