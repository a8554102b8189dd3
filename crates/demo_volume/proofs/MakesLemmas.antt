-- Keys that are made one after another.
use Rattle.std.specs.Prelude.{IsErr}
use Rattle.std.proofs.Common.{Some, length, slice_get, slice_index_or, ◌≡◌, ◌∙◌, ◌⊎◌, ℕ, zero, suc, ◌+◌, ◌<◌, List, [], ◌∷◌, ◌++◌, map, Result, Ok, Err, refl, ap, sym, subst, arith, inl, inr, append_assoc}
use Rattle.std.proofs.lemmas.List.{map-append}
use Rattle.cell_store.specs.Store.{Contents}
use Rattle.cell_store.specs.declared.store.Put.{Put}
use Rattle.cell_store.specs.declared.store.Put.TheVariants as put
use Rattle.store_calls.specs.Calls.{AreCalled, IsCalled, StoreCall}
use Rattle.store_calls.proofs.Composed.{called_on}
use Rattle.demo_volume.specs.Below.{each_below}
use Rattle.demo_volume.proofs.BelowLemmas.{each_at, each_more}
use Rattle.demo_volume.specs.Puts.{MadeKey, Makes, PutsFront, PutsUpTo, Tries, put_as}
use Rattle.demo_volume.specs.declared.make_err.MakeErr.{MakeErr}
use Rattle.demo_volume.specs.declared.make_err.MakeErr.TheVariants as make

-- the keys were all made
abbrev pub HasMade : List MadeKey → List Contents → List Contents → Type 0
HasMade done old new = AreCalled (map (put_as put.Done) done) old new

one_call : (call : StoreCall) (old new : List Contents) → IsCalled call old new → AreCalled (call ∷ []) old new
one_call call old new called = (new, called, refl)

-- one more that was done
pub made_more : (done : List MadeKey) (one : MadeKey) (old mid new : List Contents) (unit : Unit {0}) → HasMade done old mid → Tries one mid new (Ok unit) → HasMade (done ++ one ∷ []) old new
made_more done one old mid new unit made (put.Done, called, is) =
    subst (λ calls. AreCalled calls old new) (sym (map-append (put_as put.Done) done (one ∷ [])))
    (called_on old mid new (map (put_as put.Done) done) (put_as put.Done one ∷ []) made (one_call (put_as put.Done one) mid new called))
made_more done one old mid new unit made (put.Failed, called, is) = absurd (cc)
made_more done one old mid new unit made (put.NoMemory, called, is) = absurd (cc)

-- one that was not done
pub made_fails : (done rest : List MadeKey) (one : MadeKey) (old mid new : List Contents) (err : MakeErr) → HasMade done old mid → Tries one mid new (Err err) → Makes (done ++ one ∷ rest) old new (Err err)
made_fails done rest one old mid new err made (put.Done, called, is) = absurd (cc)
made_fails done rest one old mid new make.WriteFault made (put.Failed, called, is) = record {
  calls = map (put_as put.Done) done ++ put_as put.Failed one ∷ [];
  called = called_on old mid new (map (put_as put.Done) done) (put_as put.Failed one ∷ []) made (one_call (put_as put.Failed one) mid new called);
  answered = (done, one, rest, refl, refl);
}
made_fails done rest one old mid new make.Memory made (put.Failed, called, is) = absurd (cc)
made_fails done rest one old mid new make.WriteFault made (put.NoMemory, called, is) = absurd (cc)
made_fails done rest one old mid new make.Memory made (put.NoMemory, called, is) = record {
  calls = map (put_as put.Done) done ++ put_as put.NoMemory one ∷ [];
  called = called_on old mid new (map (put_as put.Done) done) (put_as put.NoMemory one ∷ []) made (one_call (put_as put.NoMemory one) mid new called);
  answered = inl (done, one, rest, refl, refl);
}

pub made_all : (done : List MadeKey) (old new : List Contents) → HasMade done old new → Makes done old new (Ok (tt {0}))
made_all done old new made = record { calls = map (put_as put.Done) done; called = made; answered = refl }

pub made_ends : (done rest : List MadeKey) (one : MadeKey) (old mid new : List Contents) (result : Result (Unit {0}) MakeErr) → HasMade done old mid → Tries one mid new result → IsErr result → Makes (done ++ one ∷ rest) old new result
made_ends done rest one old mid new (Ok unit) made tried err = absurd (cc)
made_ends done rest one old mid new (Err e) made tried err = made_fails done rest one old mid new e made tried

-- the last of some keys
pub made_last : (done : List MadeKey) (one : MadeKey) (old mid new : List Contents) (result : Result (Unit {0}) MakeErr) → HasMade done old mid → Tries one mid new result → Makes (done ++ one ∷ []) old new result
made_last done one old mid new (Ok unit) made tried = made_all (done ++ one ∷ []) old new (made_more done one old mid new unit made tried)
made_last done one old mid new (Err e) made tried = made_fails done [] one old mid new e made tried

-- want of memory before a put
pub made_lacks : (done rest : List MadeKey) (old new : List Contents) → HasMade done old new → Makes (done ++ rest) old new (Err make.Memory)
made_lacks done rest old new made = record {
  calls = map (put_as put.Done) done;
  called = made;
  answered = inr (done, rest, refl, refl);
}

-- keys and then further ones
pub makes_then : (a b : List MadeKey) (old mid new : List Contents) (unit : Unit {0}) (result : Result (Unit {0}) MakeErr) → Makes a old mid (Ok unit) → Makes b mid new result → Makes (a ++ b) old new result
makes_then a b old mid new unit (Ok done) first then = record {
  calls = map (put_as put.Done) (a ++ b);
  called = subst (λ calls. AreCalled calls old new) (sym (map-append (put_as put.Done) a b))
      (called_on old mid new (map (put_as put.Done) a) (map (put_as put.Done) b) (subst (λ calls. AreCalled calls old mid) first.answered first.called) (subst (λ calls. AreCalled calls mid new) then.answered then.called));
  answered = refl;
}
makes_then a b old mid new unit (Err make.WriteFault) first then = record {
  calls = map (put_as put.Done) a ++ then.calls;
  called = called_on old mid new (map (put_as put.Done) a) then.calls (subst (λ calls. AreCalled calls old mid) first.answered first.called) then.called;
  answered = up_to put.Failed a b then.calls then.answered;
}
  where
    up_to : (answer : Put) (a b : List MadeKey) (calls : List StoreCall) → PutsUpTo answer b calls → PutsUpTo answer (a ++ b) (map (put_as put.Done) a ++ calls)
    up_to answer a b calls (front, at, rest, is, made) = (
      a ++ front,
      at,
      rest,
      ap (λ x. a ++ x) is ∙ sym (append_assoc a front (at ∷ rest)),
      ap (λ x. map (put_as put.Done) a ++ x) made ∙ sym (append_assoc (map (put_as put.Done) a) (map (put_as put.Done) front) (put_as answer at ∷ [])) ∙ ap (λ x. x ++ put_as answer at ∷ []) (sym (map-append (put_as put.Done) a front)),
    )
makes_then a b old mid new unit (Err make.Memory) first then = record {
  calls = map (put_as put.Done) a ++ then.calls;
  called = called_on old mid new (map (put_as put.Done) a) then.calls (subst (λ calls. AreCalled calls old mid) first.answered first.called) then.called;
  answered = either then.answered;
}
  where
    either : PutsUpTo put.NoMemory b then.calls ⊎ PutsFront b then.calls → PutsUpTo put.NoMemory (a ++ b) (map (put_as put.Done) a ++ then.calls) ⊎ PutsFront (a ++ b) (map (put_as put.Done) a ++ then.calls)
    either (inl (front, at, rest, is, made)) = inl (
      a ++ front,
      at,
      rest,
      ap (λ x. a ++ x) is ∙ sym (append_assoc a front (at ∷ rest)),
      ap (λ x. map (put_as put.Done) a ++ x) made ∙ sym (append_assoc (map (put_as put.Done) a) (map (put_as put.Done) front) (put_as put.NoMemory at ∷ [])) ∙ ap (λ x. x ++ put_as put.NoMemory at ∷ []) (sym (map-append (put_as put.Done) a front)),
    )
    either (inr (front, rest, is, made)) = inr (
      a ++ front,
      rest,
      ap (λ x. a ++ x) is ∙ sym (append_assoc a front rest),
      ap (λ x. map (put_as put.Done) a ++ x) made ∙ sym (map-append (put_as put.Done) a front),
    )

-- keys of which one was not made
pub makes_stops : (a b : List MadeKey) (old new : List Contents) (err : MakeErr) → Makes a old new (Err err) → Makes (a ++ b) old new (Err err)
makes_stops a b old new make.WriteFault first = record {
  calls = first.calls;
  called = first.called;
  answered = let x = first.answered in (x.0, x.1, x.2 ++ b, ap (λ y. y ++ b) x.3 ∙ append_assoc x.0 (x.1 ∷ x.2) b, x.4);
}
makes_stops a b old new make.Memory first = record {
  calls = first.calls;
  called = first.called;
  answered = go first.answered;
}
  where
    go : PutsUpTo put.NoMemory a first.calls ⊎ PutsFront a first.calls → PutsUpTo put.NoMemory (a ++ b) first.calls ⊎ PutsFront (a ++ b) first.calls
    go (inl x) = inl (x.0, x.1, x.2 ++ b, ap (λ y. y ++ b) x.3 ∙ append_assoc x.0 (x.1 ∷ x.2) b, x.4)
    go (inr x) = inr (x.0, x.1 ++ b, ap (λ y. y ++ b) x.2 ∙ append_assoc x.0 x.1 b, x.3)

-- one cell more, and one that was not made
abbrev pub TriesCell : MadeKey → List Contents → List Contents → Result (Unit {0}) MakeErr → Type 0
TriesCell one old new result = Tries one old new result ⊎ ((new ≡ old) × (result ≡ Err make.Memory))

pub cell_more : (f : ℕ → MadeKey) (i : ℕ) (old mid new : List Contents) (unit : Unit {0}) → HasMade (each_below i f) old mid → TriesCell (f i) mid new (Ok unit) → HasMade (each_below (i + 1) f) old new
cell_more f i old mid new unit made (inl tried) = subst (λ done. HasMade done old new) (sym (each_more f i)) (made_more (each_below i f) (f i) old mid new unit made tried)
cell_more f i old mid new unit made (inr (same, is)) = absurd (cc)

pub cell_fails : (f : ℕ → MadeKey) (count i : ℕ) (old mid new : List Contents) (err : MakeErr) → i < count → HasMade (each_below i f) old mid → TriesCell (f i) mid new (Err err) → Makes (each_below count f) old new (Err err)
cell_fails f count i old mid new err lt made (inl tried) =
    let at = each_at f count i lt in
    subst (λ due. Makes due old new (Err err)) (sym at.apart) (made_fails (each_below i f) at.rest (f i) old mid new err made tried)
cell_fails f count i old mid new err lt made (inr (same, is)) =
    let at = each_at f count i lt in
    let memory : err ≡ make.Memory = cc in
    subst (λ due. Makes due old new (Err err)) (sym at.apart)
    (subst (λ e. Makes (each_below i f ++ f i ∷ at.rest) old new (Err e)) (sym memory)
    (made_lacks (each_below i f) (f i ∷ at.rest) old new (subst (λ x. HasMade (each_below i f) old x) (sym same) made)))

pub cell_ends : (f : ℕ → MadeKey) (count i : ℕ) (old mid new : List Contents) (result : Result (Unit {0}) MakeErr) → i < count → HasMade (each_below i f) old mid → TriesCell (f i) mid new result → IsErr result → Makes (each_below count f) old new result
cell_ends f count i old mid new (Ok unit) lt made tried err = absurd (cc)
cell_ends f count i old mid new (Err e) lt made tried err = cell_fails f count i old mid new e lt made tried

-- what a store in a list shows
pub shown_at : {S : Type 0} (contents : S → Contents) (stores : List S) (lane : ℕ) (store : S) → store ≡ slice_index_or stores lane store → lane < length stores → slice_get (map contents stores) lane ≡ Some (contents store)
shown_at contents [] lane store is lt = absurd (omega (arith, lt))
shown_at contents (s ∷ stores) zero store is lt = ap (λ x. Some (contents x)) (sym is)
shown_at contents (s ∷ stores) (suc lane) store is lt = shown_at contents stores lane store is (omega (arith, lt))

pub makes_ends : (a b : List MadeKey) (old new : List Contents) (result : Result (Unit {0}) MakeErr) → Makes a old new result → IsErr result → Makes (a ++ b) old new result
makes_ends a b old new (Ok unit) first err = absurd (cc)
makes_ends a b old new (Err e) first err = makes_stops a b old new e first
