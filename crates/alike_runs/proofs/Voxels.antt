-- Gets and sets by commands.
use Rattle.std.proofs.Common.{◌≡◌, ◌∙◌, ℕ, List, ◌++◌, Result, Ok, Err, refl, sym, ap}
use Rattle.cell_file.specs.declared.errors.CellErr.{CellErr}
use Rattle.run_report.specs.declared.reply.Answer.{Answer}
use Rattle.run_report.specs.declared.reply.Answer.TheVariants as answer
use Rattle.run_report.specs.declared.reply.Refusal.{Refusal}
use Rattle.run_report.specs.declared.reply.Refusal.TheVariants as refusal
use Rattle.arr_history.specs.declared.event.Event.{Event}
use Rattle.store_calls.specs.Calls.{StoreCall, FailAlike}
use Rattle.sole_cache.specs.Cached.{Cached}
use Rattle.team_run.specs.Serve.{IsGot, IsPutTask, cell_err_of, refusal_in}
use Rattle.alike_caches.specs.Alike.{AreAlike}
use Rattle.alike_caches.specs.Laws.{GetsAreAlike, SetsAreAlike}

module _ {X : Type 0} where
  value_same : (x y : X) → (r s : Result X CellErr) → r ≡ Ok x → s ≡ Ok y → s ≡ r → y ≡ x
  value_same x y r s p q e = cc

  refusal_same : (x y : CellErr) → (r s : Result X CellErr) → r ≡ Err x → s ≡ Err y → s ≡ r → y ≡ x
  refusal_same x y r s p q e = cc

  never : (x : X) (y : CellErr) → (r s : Result X CellErr) → r ≡ Ok x → s ≡ Err y → s ≡ r → ⊥
  never x y r s p q e = cc

  nor : (x : X) (y : CellErr) → (r s : Result X CellErr) → r ≡ Err y → s ≡ Ok x → s ≡ r → ⊥
  nor x y r s p q e = cc

-- a refusal is known by the cache's own
back : (r : Refusal) → refusal_in (cell_err_of r) ≡ r
back refusal.Outside = refl
back (refusal.TooLarge value) = refl
back (refusal.Acquire err) = refl

told_same : (r s : Refusal) → cell_err_of s ≡ cell_err_of r → answer.Refused s ≡ answer.Refused r
told_same r s e = ap answer.Refused (sym (back s) ∙ ap refusal_in e ∙ back r)

-- what two answers and what they leave are
abbrev pub Same : Cached → Cached → Answer → Answer → List StoreCall → List StoreCall → Type 0
Same c' d' p q m n = (q ≡ p) × AreAlike c' d' × FailAlike m n

module _ (gets : GetsAreAlike) (c d c' d' : Cached) (level : ℕ) (pos : List ℕ) (e f : List Event) (k l m n : List StoreCall) (alike : AreAlike c d) (fail : FailAlike (k ++ m) (l ++ n)) where
  pub get_alike : (p q : Answer) → IsGot c level pos p e k c' → IsGot d level pos q f l d' → Same c' d' p q m n
  get_alike (answer.Value x) (answer.Value y) g h = let both = gets c d c' d' level pos (Ok x) (Ok y) e f k l m n alike g h fail in (ap answer.Value (value_same x y _ _ refl refl both.0), both.1, both.2)
  get_alike (answer.Value x) (answer.Refused s) g h = let both = gets c d c' d' level pos (Ok x) (Err (cell_err_of s)) e f k l m n alike g h.0 fail in absurd (never x (cell_err_of s) _ _ refl refl both.0)
  get_alike (answer.Refused r) (answer.Value y) g h = let both = gets c d c' d' level pos (Err (cell_err_of r)) (Ok y) e f k l m n alike g.0 h fail in absurd (nor y (cell_err_of r) _ _ refl refl both.0)
  get_alike (answer.Refused r) (answer.Refused s) g h =
      let both = gets c d c' d' level pos (Err (cell_err_of r)) (Err (cell_err_of s)) e f k l m n alike g.0 h.0 fail in (told_same r s (refusal_same {X = ℕ} (cell_err_of r) (cell_err_of s) _ _ refl refl both.0), both.1, both.2)
  get_alike answer.Done q g h = absurd g
  get_alike (answer.Frame painted) q g h = absurd g
  get_alike (answer.Fetched loaded held refused) q g h = absurd g
  get_alike (answer.Value x) answer.Done g h = absurd h
  get_alike (answer.Value x) (answer.Frame painted) g h = absurd h
  get_alike (answer.Value x) (answer.Fetched loaded held refused) g h = absurd h
  get_alike (answer.Refused r) answer.Done g h = absurd h
  get_alike (answer.Refused r) (answer.Frame painted) g h = absurd h
  get_alike (answer.Refused r) (answer.Fetched loaded held refused) g h = absurd h

module _ (sets : SetsAreAlike) (c d c' d' : Cached) (level : ℕ) (pos : List ℕ) (x : ℕ) (e f : List Event) (k l m n : List StoreCall) (alike : AreAlike c d) (fail : FailAlike (k ++ m) (l ++ n)) where
  pub set_alike : (p q : Answer) → IsPutTask c level pos x p e k c' → IsPutTask d level pos x q f l d' → Same c' d' p q m n
  set_alike answer.Done answer.Done g h = let both = sets c d c' d' level pos x (Ok (tt {0})) (Ok (tt {0})) e f k l m n alike g h fail in (refl, both.1, both.2)
  set_alike answer.Done (answer.Refused s) g h = let both = sets c d c' d' level pos x (Ok (tt {0})) (Err (cell_err_of s)) e f k l m n alike g h.0 fail in absurd (never (tt {0}) (cell_err_of s) _ _ refl refl both.0)
  set_alike (answer.Refused r) answer.Done g h = let both = sets c d c' d' level pos x (Err (cell_err_of r)) (Ok (tt {0})) e f k l m n alike g.0 h fail in absurd (nor (tt {0}) (cell_err_of r) _ _ refl refl both.0)
  set_alike (answer.Refused r) (answer.Refused s) g h =
      let both = sets c d c' d' level pos x (Err (cell_err_of r)) (Err (cell_err_of s)) e f k l m n alike g.0 h.0 fail in (told_same r s (refusal_same {X = Unit {0}} (cell_err_of r) (cell_err_of s) _ _ refl refl both.0), both.1, both.2)
  set_alike (answer.Value y) q g h = absurd g
  set_alike (answer.Frame painted) q g h = absurd g
  set_alike (answer.Fetched loaded held refused) q g h = absurd g
  set_alike answer.Done (answer.Value y) g h = absurd h
  set_alike answer.Done (answer.Frame painted) g h = absurd h
  set_alike answer.Done (answer.Fetched loaded held refused) g h = absurd h
  set_alike (answer.Refused r) (answer.Value y) g h = absurd h
  set_alike (answer.Refused r) (answer.Frame painted) g h = absurd h
  set_alike (answer.Refused r) (answer.Fetched loaded held refused) g h = absurd h
