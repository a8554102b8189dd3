-- What one or two gets say of a fetch.
use Rattle.std.proofs.Common.{◌≡◌, ◌∙◌, inl, inr, ℕ, ◌<◌, true, false, IsTrue, List, [], ◌∷◌, ◌++◌, length, Option, None, Some, Result, Ok, Err, IfErr, refl, sym, ap, subst, arith, append_assoc}
use Rattle.cell_grid.specs.declared.level.Level.{Level}
use Rattle.cell_store.specs.Store.{Contents, Entry, Gets, GetGives, LogsGet, held_of}
use Rattle.cell_store.specs.declared.store.Got.{Got}
use Rattle.cell_store.specs.declared.store.Got.TheVariants as got
use Rattle.cell_file.specs.declared.errors.FetchErr.{FetchErr}
use Rattle.cell_file.specs.declared.errors.FetchErr.TheVariants.{TooLong}
use Rattle.cell_file.specs.File.{GivesValues, GivesRefusal, IsCauseOf, LogsFetch, LogsRefusedFetch}
use Rattle.cell_file.specs.Keys.{KeyNames, edited_key, base_key}
use Rattle.cell_file.specs.Standing.{limit_of, block_rule, standing, refusal_of}
use Rattle.cell_file.proofs.StandingLemmas.{values_short, refusal_short, refusal_long, malformed_some, by_edited, by_base, by_none}

-- a fact of an error that follows from another
pub if_err_weaker : {T E : Type 0} {P Q : E → Type 0} (r : Result T E) → ((e : E) → P e → Q e) → IfErr r P → IfErr r Q
if_err_weaker (Ok v) f h = h
if_err_weaker (Err e) f h = f e h

-- the same get, its arguments written otherwise
pub gets_at : (old new : Contents) (key key' : List ℕ) (limit limit' : ℕ) (answer : Got) (into into' : List ℕ) → key ≡ key' → limit ≡ limit' → into ≡ into' → Gets old new key limit answer into → Gets old new key' limit' answer into'
gets_at old new key key' limit limit' answer into into' k l i g =
    subst (λ (b : List ℕ). Gets old new key' limit' answer b) i (subst (λ (n : ℕ). Gets old new key' n answer into) l (subst (λ (x : List ℕ). Gets old new x limit answer into) k g))

-- a get of the edited key decides
pub first_values : (levels : List Level) (keys : KeyNames) (cell : ℕ) (held : List ℕ → Option (List ℕ)) (answer : Got) (bytes values : List ℕ)
    → GetGives (held (edited_key levels cell)) (limit_of levels cell) answer bytes → (answer ≡ got.Missing → ⊥) → GivesValues levels cell answer bytes values → standing levels keys held cell ≡ Some values
first_values levels keys cell held got.Found bytes values g some v = (by_edited levels keys held cell bytes g.0).0 ∙ values_short levels cell bytes g.1 ∙ v
first_values levels keys cell held got.Missing bytes values g some v = absurd (some refl)
first_values levels keys cell held (got.TooLong len) bytes values g some v = absurd v
first_values levels keys cell held got.Failed bytes values g some v = absurd v
first_values levels keys cell held got.NoMemory bytes values g some v = absurd v

pub first_refusal : (levels : List Level) (keys : KeyNames) (cell : ℕ) (held : List ℕ → Option (List ℕ)) (answer : Got) (bytes : List ℕ) (err : FetchErr)
    → GetGives (held (edited_key levels cell)) (limit_of levels cell) answer bytes → GivesRefusal levels cell true answer bytes err → IsCauseOf (refusal_of levels keys held cell) err
first_refusal levels keys cell held got.Found bytes err g r =
    let m = malformed_some true (block_rule levels cell bytes) err r in
    subst (λ (e : FetchErr). IsCauseOf (refusal_of levels keys held cell) e) (sym m.1.1)
    ((by_edited levels keys held cell bytes g.0).1 ∙ refusal_short levels cell true bytes g.1 ∙ r ∙ ap (λ (e : FetchErr). Some e) m.1.1)
first_refusal levels keys cell held got.Missing bytes err g r = absurd r
first_refusal levels keys cell held (got.TooLong len) bytes err g r =
    let lt : limit_of levels cell < length g.0 = omega (arith, g.2, g.3) in
    subst (λ (e : FetchErr). IsCauseOf (refusal_of levels keys held cell) e) (sym r)
    ((by_edited levels keys held cell g.0 g.1).1 ∙ refusal_long levels cell true g.0 lt ∙ ap (λ (n : ℕ). Some (TooLong true n (limit_of levels cell))) (sym g.2))
first_refusal levels keys cell held got.Failed bytes err g r = subst (λ (e : FetchErr). IsCauseOf (refusal_of levels keys held cell) e) (sym r) tt
first_refusal levels keys cell held got.NoMemory bytes err g r = subst (λ (e : FetchErr). IsCauseOf (refusal_of levels keys held cell) e) (sym r) tt

-- a get of the base key decides, where the edited key isn't held
pub second_values : (levels : List Level) (keys : KeyNames) (cell : ℕ) (held : List ℕ → Option (List ℕ)) (answer : Got) (bytes values : List ℕ)
    → held (edited_key levels cell) ≡ None → GetGives (held (base_key levels keys cell)) (limit_of levels cell) answer bytes → GivesValues levels cell answer bytes values → standing levels keys held cell ≡ Some values
second_values levels keys cell held got.Found bytes values none g v = (by_base levels keys held cell bytes none g.0).0 ∙ values_short levels cell bytes g.1 ∙ v
second_values levels keys cell held got.Missing bytes values none g v = by_none levels keys held cell none g ∙ ap (λ (vs : List ℕ). Some vs) (sym v)
second_values levels keys cell held (got.TooLong len) bytes values none g v = absurd v
second_values levels keys cell held got.Failed bytes values none g v = absurd v
second_values levels keys cell held got.NoMemory bytes values none g v = absurd v

pub second_refusal : (levels : List Level) (keys : KeyNames) (cell : ℕ) (held : List ℕ → Option (List ℕ)) (answer : Got) (bytes : List ℕ) (err : FetchErr)
    → held (edited_key levels cell) ≡ None → GetGives (held (base_key levels keys cell)) (limit_of levels cell) answer bytes → GivesRefusal levels cell false answer bytes err → IsCauseOf (refusal_of levels keys held cell) err
second_refusal levels keys cell held got.Found bytes err none g r =
    let m = malformed_some false (block_rule levels cell bytes) err r in
    subst (λ (e : FetchErr). IsCauseOf (refusal_of levels keys held cell) e) (sym m.1.1)
    ((by_base levels keys held cell bytes none g.0).1 ∙ refusal_short levels cell false bytes g.1 ∙ r ∙ ap (λ (e : FetchErr). Some e) m.1.1)
second_refusal levels keys cell held got.Missing bytes err none g r = absurd r
second_refusal levels keys cell held (got.TooLong len) bytes err none g r =
    let lt : limit_of levels cell < length g.0 = omega (arith, g.2, g.3) in
    subst (λ (e : FetchErr). IsCauseOf (refusal_of levels keys held cell) e) (sym r)
    ((by_base levels keys held cell g.0 none g.1).1 ∙ refusal_long levels cell false g.0 lt ∙ ap (λ (n : ℕ). Some (TooLong false n (limit_of levels cell))) (sym g.2))
second_refusal levels keys cell held got.Failed bytes err none g r = subst (λ (e : FetchErr). IsCauseOf (refusal_of levels keys held cell) e) (sym r) tt
second_refusal levels keys cell held got.NoMemory bytes err none g r = subst (λ (e : FetchErr). IsCauseOf (refusal_of levels keys held cell) e) (sym r) tt

-- the log after a get of the edited key
pub first_logs : (levels : List Level) (cell : ℕ) (old new : List Entry) (edited base : List ℕ) (answer : Got) (bytes values : List ℕ)
    → LogsGet old new edited answer → (answer ≡ got.Missing → ⊥) → GivesValues levels cell answer bytes values → LogsFetch old new edited base
first_logs levels cell old new edited base got.Found bytes values l some v = inl l
first_logs levels cell old new edited base got.Missing bytes values l some v = absurd (some refl)
first_logs levels cell old new edited base (got.TooLong len) bytes values l some v = absurd v
first_logs levels cell old new edited base got.Failed bytes values l some v = absurd v
first_logs levels cell old new edited base got.NoMemory bytes values l some v = absurd v

pub first_logs_refusal : (levels : List Level) (cell : ℕ) (old new : List Entry) (edited base : List ℕ) (answer : Got) (bytes : List ℕ) (err : FetchErr)
    → LogsGet old new edited answer → GivesRefusal levels cell true answer bytes err → LogsRefusedFetch old new edited base err
first_logs_refusal levels cell old new edited base got.Found bytes err l r =
    let m = malformed_some true (block_rule levels cell bytes) err r in
    subst (λ (e : FetchErr). LogsRefusedFetch old new edited base e) (sym m.1.1) l
first_logs_refusal levels cell old new edited base got.Missing bytes err l r = absurd r
first_logs_refusal levels cell old new edited base (got.TooLong len) bytes err l r = subst (λ (e : FetchErr). LogsRefusedFetch old new edited base e) (sym r) l
first_logs_refusal levels cell old new edited base got.Failed bytes err l r = subst (λ (e : FetchErr). LogsRefusedFetch old new edited base e) (sym r) (inl l)
first_logs_refusal levels cell old new edited base got.NoMemory bytes err l r =
    subst (λ (e : FetchErr). LogsRefusedFetch old new edited base e) (sym r) (elim l [ inl same ↦ inl same | inr more ↦ inr (inl more) ])

-- the log after a get of each key
two : (old mid new : List Entry) (a b : Entry) → mid ≡ old ++ a ∷ [] → new ≡ mid ++ b ∷ [] → new ≡ old ++ a ∷ b ∷ []
two old mid new a b p q = q ∙ ap (λ (l : List Entry). l ++ b ∷ []) p ∙ append_assoc old (a ∷ []) (b ∷ [])

pub second_logs : (levels : List Level) (cell : ℕ) (old mid new : List Entry) (edited base : List ℕ) (answer : Got) (bytes values : List ℕ)
    → LogsGet old mid edited got.Missing → LogsGet mid new base answer → GivesValues levels cell answer bytes values → LogsFetch old new edited base
second_logs levels cell old mid new edited base got.Found bytes values f l v = inr (two old mid new _ _ f l)
second_logs levels cell old mid new edited base got.Missing bytes values f l v = inr (two old mid new _ _ f l)
second_logs levels cell old mid new edited base (got.TooLong len) bytes values f l v = absurd v
second_logs levels cell old mid new edited base got.Failed bytes values f l v = absurd v
second_logs levels cell old mid new edited base got.NoMemory bytes values f l v = absurd v

pub second_logs_refusal : (levels : List Level) (cell : ℕ) (old mid new : List Entry) (edited base : List ℕ) (answer : Got) (bytes : List ℕ) (err : FetchErr)
    → LogsGet old mid edited got.Missing → LogsGet mid new base answer → GivesRefusal levels cell false answer bytes err → LogsRefusedFetch old new edited base err
second_logs_refusal levels cell old mid new edited base got.Found bytes err f l r =
    let m = malformed_some false (block_rule levels cell bytes) err r in
    subst (λ (e : FetchErr). LogsRefusedFetch old new edited base e) (sym m.1.1) (two old mid new _ _ f l)
second_logs_refusal levels cell old mid new edited base got.Missing bytes err f l r = absurd r
second_logs_refusal levels cell old mid new edited base (got.TooLong len) bytes err f l r = subst (λ (e : FetchErr). LogsRefusedFetch old new edited base e) (sym r) (two old mid new _ _ f l)
second_logs_refusal levels cell old mid new edited base got.Failed bytes err f l r = subst (λ (e : FetchErr). LogsRefusedFetch old new edited base e) (sym r) (inr (two old mid new _ _ f l))
second_logs_refusal levels cell old mid new edited base got.NoMemory bytes err f l r =
    subst (λ (e : FetchErr). LogsRefusedFetch old new edited base e) (sym r) (elim l [ inl same ↦ inr (inr (inl (same ∙ f))) | inr more ↦ inr (inr (inr (two old mid new _ _ f more))) ])

-- a fetch by a get of each key
pub two_values : (levels : List Level) (keys : KeyNames) (cell : ℕ) (old mid new : Contents) (answer : Got) (into bytes values : List ℕ)
    → Gets old mid (edited_key levels cell) (limit_of levels cell) got.Missing into → Gets mid new (base_key levels keys cell) (limit_of levels cell) answer bytes → IsTrue old.told
    → GivesValues levels cell answer bytes values → standing levels keys (held_of old) cell ≡ Some values
two_values levels keys cell old mid new answer into bytes values f s told v =
    second_values levels keys cell (held_of old) answer bytes values (f.gives told)
    (subst (λ (held : List ℕ → Option (List ℕ)). GetGives (held (base_key levels keys cell)) (limit_of levels cell) answer bytes) (f.unchanged told) (s.gives (f.told ∙ told))) v

pub two_refusal : (levels : List Level) (keys : KeyNames) (cell : ℕ) (old mid new : Contents) (answer : Got) (into bytes : List ℕ)
    → Gets old mid (edited_key levels cell) (limit_of levels cell) got.Missing into → Gets mid new (base_key levels keys cell) (limit_of levels cell) answer bytes → IsTrue old.told
    → (err : FetchErr) → GivesRefusal levels cell false answer bytes err → IsCauseOf (refusal_of levels keys (held_of old) cell) err
two_refusal levels keys cell old mid new answer into bytes f s told err r =
    second_refusal levels keys cell (held_of old) answer bytes err (f.gives told)
    (subst (λ (held : List ℕ → Option (List ℕ)). GetGives (held (base_key levels keys cell)) (limit_of levels cell) answer bytes) (f.unchanged told) (s.gives (f.told ∙ told))) r
