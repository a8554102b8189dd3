-- Writings of the same pictures, whose puts fail alike, are alike.
use Rattle.std.proofs.Common.{◌≡◌, ◌∙◌, ℕ, ◌||◌, Bool, true, false, cond, List, [], ◌∷◌, ◌++◌, Some, map, refl, sym, ap, subst, append_assoc}
use Rattle.std.specs.Prelude.{IsTrue}
use Rattle.std.specs.Str.{bytes_eq}
use Rattle.std.proofs.lemmas.List.{map-append}
use Rattle.std.proofs.lemmas.List.Folds.{list_any-append}
use Rattle.cell_store.specs.Store.{Contents, Puts, held_of}
use Rattle.cell_store.specs.declared.store.Put.{Put}
use Rattle.cell_store.specs.declared.store.Put.TheVariants as put
use Rattle.run_report.specs.declared.report.Unwritten.{Unwritten}
use Rattle.run_report.specs.declared.shot.Shot.{Shot}
use Rattle.store_calls.specs.Calls.{StoreCall, Putting, AreCalled, FailAlike, is_failed, wants_memory}
use Rattle.store_calls.proofs.Parts.{called_apart}
use Rattle.viewrun_calls.specs.Alike.{HoldAlikeUnder, NamedAlike, ShotsAgree, WritingsAreAlike, is_unwritten}
use Rattle.viewrun_calls.specs.Pictures.{ArePuts, IsPutWhere, Names, TellsPut, file_of, picture_key}

-- two puts of which both were done, or failed, or found no memory
same_put : (key bytes key' bytes' : List ℕ) (x y : Put) → is_failed (Putting 0 key' bytes' y) ≡ is_failed (Putting 0 key bytes x) → wants_memory (Putting 0 key' bytes' y) ≡ wants_memory (Putting 0 key bytes x) → y ≡ x
same_put key bytes key' bytes' put.Done put.Done e w = refl
same_put key bytes key' bytes' put.Failed put.Failed e w = refl
same_put key bytes key' bytes' put.NoMemory put.NoMemory e w = refl
same_put key bytes key' bytes' put.Done y e w = absurd (cc)
same_put key bytes key' bytes' put.Failed y e w = absurd (cc)
same_put key bytes key' bytes' put.NoMemory y e w = absurd (cc)

-- names and causes in a row
none_named : (u v : List Unwritten) → u ≡ [] → v ≡ [] → NamedAlike u v
none_named u v none none' = record {
  names = ap (map (λ (w : Unwritten). w.name.bytes)) (none' ∙ sym none);
  causes = ap (map (λ (w : Unwritten). w.memory)) (none' ∙ sym none);
}

one_named : (s t : Shot) (memory : Bool) (u v : List Unwritten) → t.name ≡ s.name → Names s memory u → Names t memory v → NamedAlike u v
one_named s t memory u v same (x, is, name, cause) (y, is', name', cause') = record {
  names = ap (map (λ (w : Unwritten). w.name.bytes)) is' ∙ ap (λ (b : List ℕ). b ∷ []) (name' ∙ same ∙ sym name) ∙ sym (ap (map (λ (w : Unwritten). w.name.bytes)) is);
  causes = ap (map (λ (w : Unwritten). w.memory)) is' ∙ ap (λ (b : Bool). b ∷ []) (cause' ∙ sym cause) ∙ sym (ap (map (λ (w : Unwritten). w.memory)) is);
}

put_named : (s t : Shot) (answer : Put) (u v : List Unwritten) → t.name ≡ s.name → TellsPut s answer u → TellsPut t answer v → NamedAlike u v
put_named s t put.Done u v same tells tells' = none_named u v tells tells'
put_named s t put.Failed u v same tells tells' = one_named s t false u v same tells tells'
put_named s t put.NoMemory u v same tells tells' = one_named s t true u v same tells tells'

map_on : {X Y : Type 0} (f : X → Y) (a b c d : List X) → map f c ≡ map f a → map f d ≡ map f b → map f (c ++ d) ≡ map f (a ++ b)
map_on f a b c d e g = map-append f c d ∙ ap (λ l. l ++ map f d) e ∙ ap (λ l. map f a ++ l) g ∙ sym (map-append f a b)

named_on : (u v u' v' : List Unwritten) → NamedAlike u u' → NamedAlike v v' → NamedAlike (u ++ v) (u' ++ v')
named_on u v u' v' one more = record {
  names = map_on (λ (w : Unwritten). w.name.bytes) u v u' v' one.names more.names;
  causes = map_on (λ (w : Unwritten). w.memory) u v u' v' one.causes more.causes;
}

-- a key that is not that of the picture that is named
no_key : (s : Shot) (memory : Bool) (u : List Unwritten) (key : List ℕ) → Names s memory u → is_unwritten u key ≡ false → bytes_eq (picture_key s.name) key ≡ false
no_key s memory u key (x, is, name, cause) other =
    let here : (bytes_eq (picture_key x.name.bytes) key || false) ≡ false = sym (ap (λ l. is_unwritten l key) is) ∙ other in
    ap (λ n. bytes_eq (picture_key n) key) (sym name) ∙ left_false (bytes_eq (picture_key x.name.bytes) key) here
  where
    left_false : (b : Bool) → (b || false) ≡ false → b ≡ false
    left_false true e = absurd (cc)
    left_false false e = refl

-- what is held after the same put
put_alike : (Key : List ℕ → Type 0) (s : Shot) (a b c d : Contents) (answer : Put) (u : List Unwritten) → HoldAlikeUnder Key a b
    → Puts a c (picture_key s.name) (file_of s.picture) answer → Puts b d (picture_key s.name) (file_of s.picture) answer → TellsPut s answer u
    → (key : List ℕ) → Key key → is_unwritten u key ≡ false → (held_of d) key ≡ (held_of c) key
put_alike Key s a b c d put.Done u held one other tells key is named =
    other.leaves held.second key ∙ ap (λ h. cond (bytes_eq (picture_key s.name) key) (Some (file_of s.picture)) h) (held.same key is) ∙ sym (one.leaves held.first key)
put_alike Key s a b c d put.Failed u held one other tells key is named =
    let elsewhere = no_key s false u key tells named in
    other.leaves held.second key elsewhere ∙ held.same key is ∙ sym (one.leaves held.first key elsewhere)
put_alike Key s a b c d put.NoMemory u held one other tells key is named =
    let elsewhere = no_key s true u key tells named in
    other.leaves held.second key elsewhere ∙ held.same key is ∙ sym (one.leaves held.first key elsewhere)

-- What two writings come to.
record AreSame (Key : List ℕ → Type 0) (u v : List Unwritten) (k l m n : List StoreCall) (left right : List Contents) : Type 0 where
  pub named : NamedAlike u v
  pub calls : l ≡ k
  pub rest : FailAlike m n
  pub a : Contents
  pub b : Contents
  pub left_is : left ≡ a ∷ []
  pub right_is : right ≡ b ∷ []
  pub held : HoldAlikeUnder (λ key. Key key × (is_unwritten u key ≡ false)) a b

-- nothing is put
none_alike : (Key : List ℕ → Type 0) (u v : List Unwritten) (k l m n : List StoreCall) (a b : Contents) (left right : List Contents) → HoldAlikeUnder Key a b → u ≡ [] → v ≡ [] → k ≡ [] → l ≡ []
    → AreCalled k (a ∷ []) left → AreCalled l (b ∷ []) right → FailAlike (k ++ m) (l ++ n) → AreSame Key u v k l m n left right
none_alike Key u v k l m n a b left right held no_name no_name' none none' one other fail = record {
  named = none_named u v no_name no_name';
  calls = none' ∙ sym none;
  rest = subst (λ c. FailAlike m (c ++ n)) none' (subst (λ c. FailAlike (c ++ m) (l ++ n)) none fail);
  a = a;
  b = b;
  left_is = subst (λ c. AreCalled c (a ∷ []) left) none one;
  right_is = subst (λ c. AreCalled c (b ∷ []) right) none' other;
  held = record { first = held.first; second = held.second; same = λ key is. held.same key is.0 };
}

-- one put each
module _ (Key : List ℕ → Type 0) (s t : Shot) (name : t.name ≡ s.name) (picture : t.picture ≡ s.picture) where
  two_puts : (a b : Contents) (left right : List Contents) (m n : List StoreCall) (x y : Put) (u v : List Unwritten) → HoldAlikeUnder Key a b
      → AreCalled (Putting 0 (picture_key s.name) (file_of s.picture) x ∷ []) (a ∷ []) left → AreCalled (Putting 0 (picture_key t.name) (file_of t.picture) y ∷ []) (b ∷ []) right
      → TellsPut s x u → TellsPut t y v → FailAlike (Putting 0 (picture_key s.name) (file_of s.picture) x ∷ m) (Putting 0 (picture_key t.name) (file_of t.picture) y ∷ n)
      → AreSame Key u v (Putting 0 (picture_key s.name) (file_of s.picture) x ∷ []) (Putting 0 (picture_key t.name) (file_of t.picture) y ∷ []) m n left right
  two_puts a b left right m n x y u v held (mid, (before, after, at, puts, set), last) (mid', (before', after', at', puts', set'), last') tells tells' fail =
      let here : before ≡ a = cc in
      let there : before' ≡ b = cc in
      let same = same_put (picture_key s.name) (file_of s.picture) (picture_key t.name) (file_of t.picture) x y fail.0 fail.1 in
      let one = subst (λ (c : Contents). Puts c after (picture_key s.name) (file_of s.picture) x) here puts in
      let other = subst (λ (z : Put). Puts b after' (picture_key s.name) (file_of s.picture) z) same
      (subst (λ p. Puts b after' (picture_key s.name) (file_of p) y) picture (subst (λ (n : List ℕ). Puts b after' (picture_key n) (file_of t.picture) y) name
      (subst (λ (c : Contents). Puts c after' (picture_key t.name) (file_of t.picture) y) there puts'))) in
      record {
        named = put_named s t x u v name tells (subst (λ (z : Put). TellsPut t z v) same tells');
        calls = ap (λ z. Putting 0 (picture_key t.name) (file_of t.picture) z ∷ []) same ∙ ap (λ p. Putting 0 (picture_key t.name) (file_of p) x ∷ []) picture
            ∙ ap (λ n. Putting 0 (picture_key n) (file_of s.picture) x ∷ []) name;
        rest = fail.2;
        a = after;
        b = after';
        left_is = last ∙ set;
        right_is = last' ∙ set';
        held = record {
          first = subst IsTrue (sym one.told) held.first;
          second = subst IsTrue (sym other.told) held.second;
          same = λ key is. put_alike Key s a b after after' x u held one other tells key is.0 is.1;
        };
      }

where_alike : (Key : List ℕ → Type 0) (shown : Bool) (s t : Shot) (a b : Contents) (left right : List Contents) (k l m n : List StoreCall) (u v : List Unwritten) → t.name ≡ s.name → (IsTrue shown → t.picture ≡ s.picture)
    → HoldAlikeUnder Key a b → IsPutWhere shown s k u → IsPutWhere shown t l v → AreCalled k (a ∷ []) left → AreCalled l (b ∷ []) right → FailAlike (k ++ m) (l ++ n) → AreSame Key u v k l m n left right
where_alike Key false s t a b left right k l m n u v name picture held (none, no_name) (none', no_name') one other fail =
    none_alike Key u v k l m n a b left right held no_name no_name' none none' one other fail
where_alike Key true s t a b left right k l m n u v name picture held (x, is, tells) (y, is', tells') one other fail =
    let same = two_puts Key s t name (picture refl) a b left right m n x y u v held (subst (λ c. AreCalled c (a ∷ []) left) is one) (subst (λ c. AreCalled c (b ∷ []) right) is' other) tells tells'
    (subst (λ c. FailAlike (Putting 0 (picture_key s.name) (file_of s.picture) x ∷ m) (c ++ n)) is' (subst (λ c. FailAlike (c ++ m) (l ++ n)) is fail)) in
    record { named = same.named; calls = is' ∙ same.calls ∙ sym is; rest = same.rest; a = same.a; b = same.b; left_is = same.left_is; right_is = same.right_is; held = same.held }

-- a key that is in neither part
neither : (first rest : List Unwritten) (key : List ℕ) → is_unwritten (first ++ rest) key ≡ false → (is_unwritten first key ≡ false) × (is_unwritten rest key ≡ false)
neither first rest key e = both (is_unwritten first key) (is_unwritten rest key) (sym (list_any-append (λ (u : Unwritten). bytes_eq (picture_key u.name.bytes) key) first rest) ∙ e)
  where
    both : (b c : Bool) → (b || c) ≡ false → (b ≡ false) × (c ≡ false)
    both true c e = absurd (cc)
    both false c e = (refl, e)

all_alike : (Key : List ℕ → Type 0) (shots others : List Shot) (a b : Contents) (left right : List Contents) (k l m n : List StoreCall) (u v : List Unwritten) → ShotsAgree shots others → HoldAlikeUnder Key a b
    → ArePuts shots k u → ArePuts others l v → AreCalled k (a ∷ []) left → AreCalled l (b ∷ []) right → FailAlike (k ++ m) (l ++ n) → AreSame Key u v k l m n left right
all_alike Key [] [] a b left right k l m n u v agree held (none, no_name) (none', no_name') one other fail = none_alike Key u v k l m n a b left right held no_name no_name' none none' one other fail
all_alike Key [] (t ∷ others) a b left right k l m n u v agree held puts puts' one other fail = absurd agree
all_alike Key (s ∷ shots) [] a b left right k l m n u v agree held puts puts' one other fail = absurd agree
all_alike Key (s ∷ shots) (t ∷ others) a b left right k l m n u v agree held (p, q, first, rest, split, told, here, next) (p', q', first', rest', split', told', here', next') one other fail =
    let apart = called_apart p q (a ∷ []) left (subst (λ c. AreCalled c (a ∷ []) left) split one) in
    let apart' = called_apart p' q' (b ∷ []) right (subst (λ c. AreCalled c (b ∷ []) right) split' other) in
    let fail' = subst (λ c. FailAlike (p ++ (q ++ m)) c) (append_assoc p' q' n) (subst (λ c. FailAlike c ((p' ++ q') ++ n)) (append_assoc p q m)
    (subst (λ c. FailAlike ((p ++ q) ++ m) (c ++ n)) split' (subst (λ c. FailAlike (c ++ m) (l ++ n)) split fail))) in
    let now = where_alike Key s.shown s t a b apart.0 apart'.0 p p' (q ++ m) (q' ++ n) first first' agree.0 agree.2 held here (subst (λ shown. IsPutWhere shown t p' first') agree.1 here') apart.1 apart'.1 fail' in
    let later = all_alike (λ key. Key key × (is_unwritten first key ≡ false)) shots others now.a now.b left right q q' m n rest rest' agree.3 now.held next next'
    (subst (λ c. AreCalled q c left) now.left_is apart.2) (subst (λ c. AreCalled q' c right) now.right_is apart'.2) now.rest in
    record {
      named = subst (λ w. NamedAlike w v) (sym told) (subst (λ w. NamedAlike (first ++ rest) w) (sym told') (named_on first rest first' rest' now.named later.named));
      calls = split' ∙ ap (λ c. c ++ q') now.calls ∙ ap (λ c. p ++ c) later.calls ∙ sym split;
      rest = later.rest;
      a = later.a;
      b = later.b;
      left_is = later.left_is;
      right_is = later.right_is;
      held = record {
        first = later.held.first;
        second = later.held.second;
        same = λ key is. let free = neither first rest key (ap (λ w. is_unwritten w key) (sym told) ∙ is.1) in later.held.same key ((is.0, free.0), free.1);
      };
    }

-- two writings of the same pictures, whose puts fail alike
pub writings_alike : WritingsAreAlike
writings_alike Key shots others a b c d k l m n u v agree held one other fail =
    let same = all_alike Key shots others a b (c ∷ []) (d ∷ []) k l m n u v agree held one.are other.are one.called other.called fail in
    let left : same.a ≡ c = heads same.a c (sym same.left_is) in
    let right : same.b ≡ d = heads same.b d (sym same.right_is) in (
      same.named,
      same.calls,
      same.rest,
      subst (λ (x : Contents). HoldAlikeUnder (λ key. Key key × (is_unwritten u key ≡ false)) x d) left (subst (λ (y : Contents). HoldAlikeUnder (λ key. Key key × (is_unwritten u key ≡ false)) same.a y) right same.held),
    )
  where
    heads : (x y : Contents) → x ∷ [] ≡ y ∷ [] → x ≡ y
    heads x y e = cc
