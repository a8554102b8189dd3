-- Stores that hold the same are asked the same and decide the same, as long as their calls fail alike.
use Rattle.std.proofs.Common.{◌≡◌, ◌≢◌, ◌∙◌, inl, inr, ℕ, ◌^◌, ◌||◌, Bool, true, false, List, [], ◌∷◌, ◌++◌, Option, Result, Ok, Err, refl, sym, ap, subst, append_assoc}
use Rattle.std.specs.Prelude.{IsTrue}
use Rattle.std.specs.List.{list_any}
use Rattle.std.proofs.lemmas.List.{append-nil}
use Rattle.std.proofs.lemmas.List.Folds.{list_any-append}
use Rattle.cell_store.specs.Store.{Contents, GetGives, Gets, held_of}
use Rattle.cell_store.specs.declared.store.Got.{Got}
use Rattle.cell_store.specs.declared.store.Got.TheVariants as got
use Rattle.store_calls.specs.Calls.{StoreCall, Getting, AreCalled, FailAlike, is_failed, wants_memory}
use Rattle.store_calls.proofs.Dues.{due_answer, is_due}
use Rattle.store_calls.proofs.Parts.{called_apart}
use Rattle.n5_meta.specs.declared.open_err.OpenErr.{OpenErr}
use Rattle.n5_meta.specs.declared.open_err.OpenErr.TheVariants as refused
use Rattle.n5_meta.specs.Asks.{Asking, AsksAfter, AsksNothing, AsksOnce, AsksThen, OrMemory, WantsInGets}
use Rattle.n5_meta.specs.Laws.{HoldAsOne}

-- two gets of what is held under one key, of which both were answered or none
same_answer : (key : List ℕ) (held : Option (List ℕ)) (limit : ℕ) (x y : Got) (f g : List ℕ)
    → is_failed (Getting 0 key limit y g) ≡ is_failed (Getting 0 key limit x f) → wants_memory (Getting 0 key limit y g) ≡ wants_memory (Getting 0 key limit x f)
    → GetGives held limit x f → GetGives held limit y g → (x ≢ got.Found → f ≡ []) → (y ≢ got.Found → g ≡ []) → (y ≡ x) × (g ≡ f)
same_answer key held limit x y f g e w h i p q = (ap (λ (t : Got × List ℕ). t.0) pairs, ap (λ (t : Got × List ℕ). t.1) pairs)
  where
    pairs : ◌≡◌ {A = Got × List ℕ} (y, g) (x, f)
    pairs = is_due held 0 key limit y g i q
        ∙ ap (λ r. due_answer held limit r (wants_memory (Getting 0 key limit y g))) e
        ∙ ap (λ r. due_answer held limit (is_failed (Getting 0 key limit x f)) r) w
        ∙ sym (is_due held 0 key limit x f h p)

-- stores still hold the same after gets
still_alike : (a b c d : Contents) (key : List ℕ) (limit : ℕ) (x y : Got) (f g : List ℕ) → HoldAsOne a b → Gets a c key limit x f → Gets b d key limit y g → HoldAsOne c d
still_alike a b c d key limit x y f g held one other = record {
  first = subst IsTrue (sym one.told) held.first;
  second = subst IsTrue (sym other.told) held.second;
  same = λ k. ap (λ h. h k) (other.unchanged held.second) ∙ held.same k ∙ sym (ap (λ h. h k) (one.unchanged held.first));
}

-- What two askings of the same come to: one answer, one list of calls, and stores that hold the same.
pub record AreSame {A : Type 0} (r s : Result A OpenErr) (k l m n : List StoreCall) (left right : List Contents) : Type 0 where
  pub answer : s ≡ r
  pub calls : l ≡ k
  pub rest : FailAlike m n
  pub a : Contents
  pub b : Contents
  pub left_is : left ≡ a ∷ []
  pub right_is : right ≡ b ∷ []
  pub held : HoldAsOne a b

-- What is asked and answered is one function of what the store holds, and of which calls fail. No get before an answer found no memory.
pub record IsDecided {A : Type 0} (asks : Asking A) : Type 0 where
  pub clean : (k : List StoreCall) (x : A) → asks k (Ok x) → list_any wants_memory k ≡ false
  pub alike : (a b : Contents) (left right : List Contents) (k l m n : List StoreCall) (r s : Result A OpenErr) → HoldAsOne a b → AreCalled k (a ∷ []) left → AreCalled l (b ∷ []) right → asks k r → asks l s
      → WantsInGets k r → WantsInGets l s → FailAlike (k ++ m) (l ++ n) → AreSame r s k l m n left right

not_both : {X : Type 0} (b : Bool) → IsTrue b → b ≡ false → X
not_both true is e = absurd (cc)
not_both false is e = absurd (cc)

-- memory was not wanting where nothing was got
none_wanted : {A : Type 0} (k : List StoreCall) (r : Result A OpenErr) → k ≡ [] → WantsInGets k r → r ≡ Err refused.Memory → ⊥
none_wanted k r none wants e = not_both (list_any wants_memory k) (wants e) (ap (list_any wants_memory) none)

module _ {A : Type 0} (meant : Result A OpenErr) where
  is_meant : (k : List StoreCall) (r : Result A OpenErr) → AsksNothing meant k r → WantsInGets k r → r ≡ meant
  is_meant k r (none, inl is) wants = is
  is_meant k r (none, inr is) wants = absurd (none_wanted k r none wants is)

  pub nothing_decided : IsDecided (AsksNothing meant)
  nothing_decided = record {
    clean = λ k x asked. ap (list_any wants_memory) asked.0;
    alike = λ a b left right k l m n r s held one other asked asked' wants wants' fail. record {
      answer = is_meant l s asked' wants' ∙ sym (is_meant k r asked wants);
      calls = asked'.0 ∙ sym asked.0;
      rest = subst (λ c. FailAlike m (c ++ n)) asked'.0 (subst (λ c. FailAlike (c ++ m) (l ++ n)) asked.0 fail);
      a = a;
      b = b;
      left_is = subst (λ c. AreCalled c (a ∷ []) left) asked.0 one;
      right_is = subst (λ c. AreCalled c (b ∷ []) right) asked'.0 other;
      held = held;
    };
  }

module _ {A : Type 0} (key : List ℕ) (decided : Got → List ℕ → Result A OpenErr) (no_memory : (found : List ℕ) → decided got.NoMemory found ≡ Err refused.Memory) where
  abbrev get : Got → List ℕ → StoreCall
  get answer found = Getting 0 key (2 ^ 20) answer found

  clean_get : (answer : Got) (found : List ℕ) (x : A) → OrMemory (decided answer found) (Ok x) → list_any wants_memory (get answer found ∷ []) ≡ false
  clean_get got.NoMemory found x (inl is) = let none = no_memory found in absurd (cc)
  clean_get got.NoMemory found x (inr is) = absurd (cc)
  clean_get answer found x is = refl

  clean_once : (k : List StoreCall) (x : A) → AsksOnce key decided k (Ok x) → list_any wants_memory k ≡ false
  clean_once k x (inl (none, is)) = ap (list_any wants_memory) none
  clean_once k x (inr (answer, found, calls, is)) = ap (list_any wants_memory) calls ∙ clean_get answer found x is

  decides : (answer : Got) (found : List ℕ) (r : Result A OpenErr) → OrMemory (decided answer found) r → WantsInGets (get answer found ∷ []) r → r ≡ decided answer found
  decides answer found r (inl is) wants = is
  decides got.NoMemory found r (inr is) wants = is ∙ sym (no_memory found)
  decides answer found r (inr is) wants = let w = wants is in absurd (cc)

  two_gets : (a b : Contents) (left right : List Contents) (m n : List StoreCall) (x y : Got) (f g : List ℕ) (r s : Result A OpenErr) → HoldAsOne a b
      → AreCalled (get x f ∷ []) (a ∷ []) left → AreCalled (get y g ∷ []) (b ∷ []) right → OrMemory (decided x f) r → OrMemory (decided y g) s
      → WantsInGets (get x f ∷ []) r → WantsInGets (get y g ∷ []) s → FailAlike (get x f ∷ m) (get y g ∷ n) → AreSame r s (get x f ∷ []) (get y g ∷ []) m n left right
  two_gets a b left right m n x y f g r s held (mid, (before, after, at, gets, set), last) (mid', (before', after', at', gets', set'), last') asked asked' wants wants' fail =
      let here : before ≡ a = cc in
      let there : before' ≡ b = cc in
      let one = subst (λ (c : Contents). Gets c after key (2 ^ 20) x f) here gets in
      let other = subst (λ (c : Contents). Gets c after' key (2 ^ 20) y g) there gets' in
      let same = same_answer key ((held_of a) key) (2 ^ 20) x y f g fail.0 fail.1 (one.gives held.first) (subst (λ (h : Option (List ℕ)). GetGives h (2 ^ 20) y g) (held.same key) (other.gives held.second)) one.empty other.empty in
      record {
        answer = decides y g s asked' wants' ∙ ap (λ z. decided z g) same.0 ∙ ap (decided x) same.1 ∙ sym (decides x f r asked wants);
        calls = ap (λ z. get z g ∷ []) same.0 ∙ ap (λ z. get x z ∷ []) same.1;
        rest = fail.2;
        a = after;
        b = after';
        left_is = last ∙ set;
        right_is = last' ∙ set';
        held = still_alike a b after after' key (2 ^ 20) x y f g held one other;
      }

  once_alike : (a b : Contents) (left right : List Contents) (k l m n : List StoreCall) (r s : Result A OpenErr) → HoldAsOne a b → AreCalled k (a ∷ []) left → AreCalled l (b ∷ []) right
      → AsksOnce key decided k r → AsksOnce key decided l s → WantsInGets k r → WantsInGets l s → FailAlike (k ++ m) (l ++ n) → AreSame r s k l m n left right
  once_alike a b left right k l m n r s held one other (inl (none, inl is)) asked' wants wants' fail = absurd (none_wanted k r none wants is)
  once_alike a b left right k l m n r s held one other (inl (none, inr is)) asked' wants wants' fail = absurd (none_wanted k r none wants is)
  once_alike a b left right k l m n r s held one other (inr asked) (inl (none, inl is)) wants wants' fail = absurd (none_wanted l s none wants' is)
  once_alike a b left right k l m n r s held one other (inr asked) (inl (none, inr is)) wants wants' fail = absurd (none_wanted l s none wants' is)
  once_alike a b left right k l m n r s held one other (inr (x, f, are, is)) (inr (y, g, are', is')) wants wants' fail =
      let same = two_gets a b left right m n x y f g r s held (subst (λ c. AreCalled c (a ∷ []) left) are one) (subst (λ c. AreCalled c (b ∷ []) right) are' other) is is'
      (subst (λ c. WantsInGets c r) are wants) (subst (λ c. WantsInGets c s) are' wants') (subst (λ c. FailAlike (get x f ∷ m) (c ++ n)) are' (subst (λ c. FailAlike (c ++ m) (l ++ n)) are fail)) in
      record { answer = same.answer; calls = are' ∙ same.calls ∙ sym are; rest = same.rest; a = same.a; b = same.b; left_is = same.left_is; right_is = same.right_is; held = same.held }

  pub once_decided : IsDecided (AsksOnce key decided)
  once_decided = record { clean = clean_once; alike = once_alike }

or_none : (b c : Bool) → b ≡ false → (b || c) ≡ c
or_none true c e = absurd (cc)
or_none false c e = refl

module _ {A B : Type 0} (first : Asking A) (next : A → Asking B) (begins : IsDecided first) (goes_on : (x : A) → IsDecided (next x)) where
  clean_after : (x : Result A OpenErr) (p q : List StoreCall) (z : B) → first p x → AsksAfter x next q (Ok z) → list_any wants_memory (p ++ q) ≡ false
  clean_after (Ok x) p q z asked after = list_any-append wants_memory p q ∙ or_none _ _ (begins.clean p x asked) ∙ (goes_on x).clean q z after
  clean_after (Err err) p q z asked (none, is) = absurd (cc)

  clean_then : (k : List StoreCall) (z : B) → AsksThen first next k (Ok z) → list_any wants_memory k ≡ false
  clean_then k z (x, p, q, split, asked, after) = ap (list_any wants_memory) split ∙ clean_after x p q z asked after

  wants_first : (x : Result A OpenErr) (p q : List StoreCall) (r : Result B OpenErr) → AsksAfter x next q r → WantsInGets (p ++ q) r → WantsInGets p x
  wants_first (Ok x) p q r after wants = λ e. absurd (cc)
  wants_first (Err err) p q r (none, is) wants = λ e.
      let cause : err ≡ refused.Memory = cc in
      subst (λ c. IsTrue (list_any wants_memory c)) (ap (λ c. p ++ c) none ∙ append-nil p) (wants (is ∙ ap (λ c. Err c) cause))

  wants_rest : (x : A) (p q : List StoreCall) (r : Result B OpenErr) → first p (Ok x) → WantsInGets (p ++ q) r → WantsInGets q r
  wants_rest x p q r asked wants = λ e. subst IsTrue (list_any-append wants_memory p q ∙ or_none _ _ (begins.clean p x asked)) (wants e)

  module _ (left right : List Contents) (p q p' q' m n : List StoreCall) (r s : Result B OpenErr) where
    after_alike : (x : Result A OpenErr) (mid mid' : List Contents) (same : AreSame x x p p' (q ++ m) (q' ++ n) mid mid') → first p x → first p' x → AreCalled q mid left → AreCalled q' mid' right
        → AsksAfter x next q r → AsksAfter x next q' s → WantsInGets (p ++ q) r → WantsInGets (p' ++ q') s → AreSame r s (p ++ q) (p' ++ q') m n left right
    after_alike (Ok x) mid mid' same asked asked' one other after after' wants wants' =
        let more = (goes_on x).alike same.a same.b left right q q' m n r s same.held (subst (λ c. AreCalled q c left) same.left_is one) (subst (λ c. AreCalled q' c right) same.right_is other)
        after after' (wants_rest x p q r asked wants) (wants_rest x p' q' s asked' wants') same.rest in
        record { answer = more.answer; calls = ap (λ c. c ++ q') same.calls ∙ ap (λ c. p ++ c) more.calls; rest = more.rest; a = more.a; b = more.b; left_is = more.left_is; right_is = more.right_is; held = more.held }
    after_alike (Err err) mid mid' same asked asked' one other (none, is) (none', is') wants wants' = record {
      answer = is' ∙ sym is;
      calls = ap (λ c. c ++ q') same.calls ∙ ap (λ c. p ++ c) (none' ∙ sym none);
      rest = subst (λ c. FailAlike m (c ++ n)) none' (subst (λ c. FailAlike (c ++ m) (q' ++ n)) none same.rest);
      a = same.a;
      b = same.b;
      left_is = subst (λ c. AreCalled c mid left) none one ∙ same.left_is;
      right_is = subst (λ c. AreCalled c mid' right) none' other ∙ same.right_is;
      held = same.held;
    }

    parts_alike : (a b : Contents) (x y : Result A OpenErr) → HoldAsOne a b → AreCalled (p ++ q) (a ∷ []) left → AreCalled (p' ++ q') (b ∷ []) right → first p x → first p' y
        → AsksAfter x next q r → AsksAfter y next q' s → WantsInGets (p ++ q) r → WantsInGets (p' ++ q') s → FailAlike ((p ++ q) ++ m) ((p' ++ q') ++ n) → AreSame r s (p ++ q) (p' ++ q') m n left right
    parts_alike a b x y held one other asked asked' after after' wants wants' fail =
        let apart = called_apart p q (a ∷ []) left one in
        let apart' = called_apart p' q' (b ∷ []) right other in
        let fail' = subst (λ c. FailAlike (p ++ (q ++ m)) c) (append_assoc p' q' n) (subst (λ c. FailAlike c ((p' ++ q') ++ n)) (append_assoc p q m) fail) in
        let same = begins.alike a b apart.0 apart'.0 p p' (q ++ m) (q' ++ n) x y held apart.1 apart'.1 asked asked' (wants_first x p q r after wants) (wants_first y p' q' s after' wants') fail' in
        after_alike x apart.0 apart'.0 (record { answer = refl; calls = same.calls; rest = same.rest; a = same.a; b = same.b; left_is = same.left_is; right_is = same.right_is; held = same.held })
        asked (subst (λ (z : Result A OpenErr). first p' z) same.answer asked') apart.2 apart'.2 after (subst (λ (z : Result A OpenErr). AsksAfter z next q' s) same.answer after') wants wants'

  then_alike : (a b : Contents) (left right : List Contents) (k l m n : List StoreCall) (r s : Result B OpenErr) → HoldAsOne a b → AreCalled k (a ∷ []) left → AreCalled l (b ∷ []) right
      → AsksThen first next k r → AsksThen first next l s → WantsInGets k r → WantsInGets l s → FailAlike (k ++ m) (l ++ n) → AreSame r s k l m n left right
  then_alike a b left right k l m n r s held one other (x, p, q, split, asked, after) (y, p', q', split', asked', after') wants wants' fail =
      let same = parts_alike left right p q p' q' m n r s a b x y held (subst (λ c. AreCalled c (a ∷ []) left) split one) (subst (λ c. AreCalled c (b ∷ []) right) split' other) asked asked' after after'
      (subst (λ c. WantsInGets c r) split wants) (subst (λ c. WantsInGets c s) split' wants')
      (subst (λ c. FailAlike ((p ++ q) ++ m) (c ++ n)) split' (subst (λ c. FailAlike (c ++ m) (l ++ n)) split fail)) in
      record { answer = same.answer; calls = split' ∙ same.calls ∙ sym split; rest = same.rest; a = same.a; b = same.b; left_is = same.left_is; right_is = same.right_is; held = same.held }

  pub then_decided : IsDecided (AsksThen first next)
  then_decided = record { clean = clean_then; alike = then_alike }
