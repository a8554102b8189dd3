-- What the calls of opening and of pictures leave open, and what a store holds after the same calls.
use Rattle.std.proofs.Common.{◌≡◌, ◌∙◌, ℕ, zero, suc, ◌+◌, ◌==◌, ◌&&◌, Bool, true, false, cond, List, [], ◌∷◌, None, Some, Result, Ok, Err, inl, inr, IsTrue, refl, sym, ap, subst, arith}
use Rattle.std.specs.Str.{bytes_eq}
use Rattle.std.proofs.lemmas.Bool.Decides.{nat_tests}
use Rattle.cell_store.specs.Store.{Contents, Gets, Puts, held_of}
use Rattle.cell_store.specs.declared.store.Put.{Put}
use Rattle.cell_store.specs.declared.store.Put.TheVariants as put
use Rattle.n5_meta.specs.Asks.{Asking, AsksNothing, AsksOnce, AsksAfter, AsksThen, AsksLevels, AsksPyramid, attr_by, setup_by, pyramid_of}
use Rattle.n5_meta.specs.declared.open_err.OpenErr.{OpenErr}
use Rattle.n5_meta.specs.Pyramid.{level_key, setup_key}
use Rattle.cell_store.specs.declared.store.Got.{Got}
use Rattle.store_calls.specs.Calls.{StoreCall, Getting, Putting, OneChanges, IsCalled, AreCalled, is_undone, open_after, is_left_open}
use Rattle.store_calls.proofs.Leaving.{open_on}

none_some : (x : Contents) → None ≡ Some x → ⊥
none_some x e = cc

some_same : (x y : Contents) → Some x ≡ Some y → x ≡ y
some_same x y e = cc

module _ (lane : ℕ) (key : List ℕ) where
  -- these calls leave nothing open, and settle nothing
  abbrev Settles : {A : Type 0} → Asking A → Type 0
  Settles {A} asks = (b : Bool) (calls : List StoreCall) (result : Result A OpenErr) → asks calls result → is_left_open lane key b calls ≡ b

  nothing_settles : {A : Type 0} (meant : Result A OpenErr) → Settles (AsksNothing meant)
  nothing_settles meant b calls result (none, gives) = ap (is_left_open lane key b) none

  once_settles : {A : Type 0} (k : List ℕ) (decided : Got → List ℕ → Result A OpenErr) → Settles (AsksOnce k decided)
  once_settles k decided b calls result (inl (none, gives)) = ap (is_left_open lane key b) none
  once_settles k decided b calls result (inr (answer, found, is, gives)) = ap (is_left_open lane key b) is

  then_settles : {A B : Type 0} (first : Asking A) (next : A → Asking B) → Settles first → ((x : A) → Settles (next x)) → Settles (AsksThen first next)
  then_settles first next settles more b calls result (answer, asked, rest, is, one, others) =
      ap (is_left_open lane key b) is ∙ open_on lane key b asked rest ∙ ap (λ x. is_left_open lane key x rest) (settles b asked answer one) ∙ after answer rest result others
    where
      after : (answer : Result _ OpenErr) (rest : List StoreCall) (result : Result _ OpenErr) → AsksAfter answer next rest result → is_left_open lane key b rest ≡ b
      after (Ok x) rest result h = more x b rest result h
      after (Err err) rest result h = ap (is_left_open lane key b) h.0

  levels_settle : (root : List ℕ) (level : ℕ) (factors : List (List ℕ)) → Settles (AsksLevels root level factors)
  levels_settle root level [] = nothing_settles (Ok [])
  levels_settle root level (factor ∷ factors) =
      then_settles (AsksOnce (level_key root level) (attr_by level)) _ (once_settles (level_key root level) (attr_by level)) (λ attr.
      then_settles (AsksLevels root (level + 1) factors) _ (levels_settle root (level + 1) factors) (λ others. nothing_settles _))

  pub pyramid_settles : (root : List ℕ) → Settles (AsksPyramid root)
  pyramid_settles root = then_settles (AsksOnce (setup_key root) setup_by) _ (once_settles (setup_key root) setup_by) (λ factors. then_settles (AsksLevels root 0 factors) _ (levels_settle root 0 factors) (λ described. nothing_settles (pyramid_of described)))

-- what a call does to the one store
Does : StoreCall → Contents → Contents → Type 0
Does (Getting lane key limit answer found) a x = Gets a x key limit answer found
Does (Putting lane key bytes answer) a x = Puts a x key bytes answer

lane_in : StoreCall → ℕ
lane_in (Getting lane key limit answer found) = lane
lane_in (Putting lane key bytes answer) = lane

one_changes : (P : Contents → Contents → Type 0) (lane : ℕ) (a : Contents) (mid : List Contents) → OneChanges P lane (a ∷ []) mid → (lane ≡ 0) × ((x : Contents) × (mid ≡ x ∷ []) × P a x)
one_changes P zero a mid (before, after, there, changes, is) = (refl, (after, is, subst (λ y. P y after) (sym (some_same a before there)) changes))
one_changes P (suc lane) a mid (before, after, there, changes, is) = absurd (none_some before there)

one_call : (c : StoreCall) (a : Contents) (mid : List Contents) → IsCalled c (a ∷ []) mid → (lane_in c ≡ 0) × ((x : Contents) × (mid ≡ x ∷ []) × Does c a x)
unfolding Does lane_in
one_call (Getting lane key limit answer found) a mid h = one_changes _ lane a mid h
one_call (Putting lane key bytes answer) a mid h = one_changes _ lane a mid h

not_first : (n : ℕ) → (0 == suc n) ≡ false
not_first n = grind (arith, nat_tests)

other_lane : (n : ℕ) (key : List ℕ) (b : Bool) (c : StoreCall) → lane_in c ≡ 0 → open_after (suc n) key b c ≡ b
unfolding lane_in
other_lane n key b (Getting lane k limit answer found) at = refl
other_lane n key b (Putting lane k bytes answer) at = ap (λ l. cond ((l == suc n) && bytes_eq k key) (is_undone answer) b) at ∙ ap (λ t. cond (t && bytes_eq k key) (is_undone answer) b) (not_first n)

-- calls of the first store leave nothing open in another one
pub others_settle : (n : ℕ) (key : List ℕ) (b : Bool) (calls : List StoreCall) (a c : Contents) → AreCalled calls (a ∷ []) (c ∷ []) → is_left_open (suc n) key b calls ≡ b
others_settle n key b [] a c h = refl
others_settle n key b (x ∷ calls) a c (mid, one, more) =
    let here = one_call x a mid one in
    ap (λ y. is_left_open (suc n) key y calls) (other_lane n key b x here.0) ∙ others_settle n key b calls here.1.0 c (subst (λ (l : List Contents). AreCalled calls l (c ∷ [])) here.1.1 more)

heads : (x y : Contents) → x ∷ [] ≡ y ∷ [] → x ≡ y
heads x y e = cc

-- a put of both stores
put_same : (key k bytes : List ℕ) (answer : Put) (b : Bool) (x y u v : Contents) → IsTrue x.told → IsTrue y.told → Puts x u k bytes answer → Puts y v k bytes answer → (b ≡ false → (held_of y) key ≡ (held_of x) key)
    → cond (bytes_eq k key) (is_undone answer) b ≡ false → (held_of v) key ≡ (held_of u) key
put_same key k bytes answer b x y u v told told' p q before closed = go answer (bytes_eq k key) refl p q closed
  where
    go : (answer : Put) (t : Bool) → bytes_eq k key ≡ t → Puts x u k bytes answer → Puts y v k bytes answer → cond (bytes_eq k key) (is_undone answer) b ≡ false → (held_of v) key ≡ (held_of u) key
    go put.Done true e p q closed = q.leaves told' key ∙ ap (λ c. cond c (Some bytes) ((held_of y) key)) e ∙ sym (p.leaves told key ∙ ap (λ c. cond c (Some bytes) ((held_of x) key)) e)
    go put.Done false e p q closed = q.leaves told' key ∙ ap (λ c. cond c (Some bytes) ((held_of y) key)) e ∙ before (sym (ap (λ c. cond c false b) e) ∙ closed) ∙ sym (p.leaves told key ∙ ap (λ c. cond c (Some bytes) ((held_of x) key)) e)
    go put.Failed true e p q closed = absurd (never (sym (ap (λ c. cond c true b) e) ∙ closed))
      where
        never : true ≡ false → ⊥
        never e = cc
    go put.Failed false e p q closed = q.leaves told' key e ∙ before (sym (ap (λ c. cond c true b) e) ∙ closed) ∙ sym (p.leaves told key e)
    go put.NoMemory true e p q closed = absurd (never (sym (ap (λ c. cond c true b) e) ∙ closed))
      where
        never : true ≡ false → ⊥
        never e = cc
    go put.NoMemory false e p q closed = q.leaves told' key e ∙ before (sym (ap (λ c. cond c true b) e) ∙ closed) ∙ sym (p.leaves told key e)

tells_on : (c : StoreCall) (x u : Contents) → Does c x u → IsTrue x.told → IsTrue u.told
unfolding Does
tells_on (Getting lane k limit answer found) x u p told = subst IsTrue (sym p.told) told
tells_on (Putting lane k bytes answer) x u p told = subst IsTrue (sym p.told) told

step_same : (key : List ℕ) (c : StoreCall) (b : Bool) (x y u v : Contents) → lane_in c ≡ 0 → IsTrue x.told → IsTrue y.told → Does c x u → Does c y v → (b ≡ false → (held_of y) key ≡ (held_of x) key)
    → open_after 0 key b c ≡ false → (held_of v) key ≡ (held_of u) key
unfolding Does lane_in
step_same key (Getting lane k limit answer found) b x y u v at told told' p q before closed = ap (λ f. f key) (q.unchanged told') ∙ before closed ∙ sym (ap (λ f. f key) (p.unchanged told))
step_same key (Putting lane k bytes answer) b x y u v at told told' p q before closed =
    put_same key k bytes answer b x y u v told told' p q before (sym (ap (λ l. cond ((l == 0) && bytes_eq k key) (is_undone answer) b) at) ∙ closed)

-- Two stores that hold the same under a key, where that isn't open, do so after the same calls.
pub same_left : (key : List ℕ) (calls : List StoreCall) (b : Bool) (x y u v : Contents) → IsTrue x.told → IsTrue y.told → AreCalled calls (x ∷ []) (u ∷ []) → AreCalled calls (y ∷ []) (v ∷ []) → (b ≡ false → (held_of y) key ≡ (held_of x) key)
    → is_left_open 0 key b calls ≡ false → (held_of v) key ≡ (held_of u) key
same_left key [] b x y u v told told' p q before closed = ap (λ (c : Contents). (held_of c) key) (heads v y q) ∙ before closed ∙ sym (ap (λ (c : Contents). (held_of c) key) (heads u x p))
same_left key (c ∷ calls) b x y u v told told' (mid, one, more) (mid', one', more') before closed =
    let here = one_call c x mid one in
    let there = one_call c y mid' one' in
    same_left key calls (open_after 0 key b c) here.1.0 there.1.0 u v (tells_on c x here.1.0 here.1.2 told) (tells_on c y there.1.0 there.1.2 told')
    (subst (λ (l : List Contents). AreCalled calls l (u ∷ [])) here.1.1 more) (subst (λ (l : List Contents). AreCalled calls l (v ∷ [])) there.1.1 more')
    (λ shut. step_same key c b x y here.1.0 there.1.0 here.0 told told' here.1.2 there.1.2 before shut) closed

-- a store goes on to tell
pub tells_after : (calls : List StoreCall) (x u : Contents) → AreCalled calls (x ∷ []) (u ∷ []) → IsTrue x.told → IsTrue u.told
tells_after [] x u p told = subst (λ (c : Contents). IsTrue c.told) (sym (heads u x p)) told
tells_after (c ∷ calls) x u (mid, one, more) told =
    let here = one_call c x mid one in
    tells_after calls here.1.0 u (subst (λ (l : List Contents). AreCalled calls l (u ∷ [])) here.1.1 more) (tells_on c x here.1.0 here.1.2 told)
