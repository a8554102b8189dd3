-- Calls that failed alike have the same answer.
use Rattle.std.proofs.Common.{◌≡◌, ◌≢◌, ℕ, ◌<◌, ◌≤◌, nat_lt, Bool, true, false, cond, List, [], length, Option, None, Some, refl, sym, ap, subst, arith}
use Rattle.std.proofs.lemmas.Bool.Decides.{nat_tests}
use Rattle.cell_store.specs.Store.{GetGives}
use Rattle.cell_store.specs.declared.store.Got.{Got}
use Rattle.cell_store.specs.declared.store.Got.TheVariants as got
use Rattle.cell_store.specs.declared.store.Put.{Put}
use Rattle.cell_store.specs.declared.store.Put.TheVariants as put
use Rattle.store_calls.specs.Calls.{Getting, Putting, is_failed, wants_memory}

-- what a get answers by what is held, where it failed or not, and found memory or not
unfoldable pub due_answer : Option (List ℕ) → ℕ → Bool → Bool → Got × List ℕ
due_answer held limit true memory = (got.Failed, [])
due_answer held limit false true = (got.NoMemory, [])
due_answer None limit false false = (got.Missing, [])
due_answer (Some bytes) limit false false = cond (nat_lt limit (length bytes)) (got.TooLong (length bytes), []) (got.Found, bytes)

pub is_due : (held : Option (List ℕ)) (lane : ℕ) (key : List ℕ) (limit : ℕ) (answer : Got) (found : List ℕ) → GetGives held limit answer found → (answer ≢ got.Found → found ≡ [])
    → ◌≡◌ {A = Got × List ℕ} (answer, found) (due_answer held limit (is_failed (Getting lane key limit answer found)) (wants_memory (Getting lane key limit answer found)))
unfolding due_answer
is_due held lane key limit got.Found found g empty =
    rw g.0 (ap (λ (b : Bool). cond b (got.TooLong (length found), []) (got.Found, found)) (sym (short limit (length found) g.1)))
  where
    short : (a b : ℕ) → b ≤ a → nat_lt a b ≡ false
    short a b le = grind (arith, nat_tests)
is_due held lane key limit got.Missing found g empty = rw (g, empty (λ e. cc)) refl
is_due held lane key limit (got.TooLong len) found g empty =
    rw (g.1, empty (λ e. cc), g.2) (ap (λ (b : Bool). cond b (got.TooLong (length g.0), []) (got.Found, g.0)) (sym (long limit (length g.0) (subst (λ n. limit < n) g.2 g.3))))
  where
    long : (a b : ℕ) → a < b → nat_lt a b ≡ true
    long a b lt = grind (arith, nat_tests)
is_due held lane key limit got.Failed found g empty = rw (empty (λ e. cc)) refl
is_due held lane key limit got.NoMemory found g empty = rw (empty (λ e. cc)) refl

-- puts that failed alike have the same answer
pub same_put_answer : (lane : ℕ) (key bytes : List ℕ) (a b : Put) → is_failed (Putting lane key bytes b) ≡ is_failed (Putting lane key bytes a) → wants_memory (Putting lane key bytes b) ≡ wants_memory (Putting lane key bytes a) → b ≡ a
same_put_answer lane key bytes put.Done put.Done e f = refl
same_put_answer lane key bytes put.Done put.Failed e f = absurd (cc)
same_put_answer lane key bytes put.Done put.NoMemory e f = absurd (cc)
same_put_answer lane key bytes put.Failed put.Done e f = absurd (cc)
same_put_answer lane key bytes put.Failed put.Failed e f = refl
same_put_answer lane key bytes put.Failed put.NoMemory e f = absurd (cc)
same_put_answer lane key bytes put.NoMemory put.Done e f = absurd (cc)
same_put_answer lane key bytes put.NoMemory put.Failed e f = absurd (cc)
same_put_answer lane key bytes put.NoMemory put.NoMemory e f = refl
