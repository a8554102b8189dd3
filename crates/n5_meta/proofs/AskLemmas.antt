-- What is asked of a store in a row: one get, the gets of the levels so far, and what a refusal leaves out.
use Rattle.std.proofs.Common.{◌≡◌, inl, inr, ℕ, ◌+◌, ◌<◌, ◌≤◌, ◌^◌, List, [], ◌∷◌, ◌++◌, length, drop, Result, Ok, Err, refl, sym, subst, append_assoc}
use Rattle.std.proofs.Math.ListN.{get_or, drop_of_length-le}
use Rattle.std.proofs.lemmas.List.{at_drop_more, append-nil}
use Rattle.cell_grid.specs.declared.level.Level.{Level}
use Rattle.cell_store.specs.Store.{Contents}
use Rattle.cell_store.specs.declared.store.Got.{Got}
use Rattle.store_calls.specs.Calls.{StoreCall, Getting, AreCalled}
use Rattle.store_calls.proofs.Composed.{called_on}
use Rattle.n5_meta.specs.declared.attr.Attr.{Attr}
use Rattle.n5_meta.specs.declared.described.Described.{Described}
use Rattle.n5_meta.specs.declared.open_err.OpenErr.{OpenErr}
use Rattle.n5_meta.specs.declared.open_err.OpenErr.TheVariants as refused
use Rattle.n5_meta.specs.declared.spot.Spot.{Spot}
use Rattle.n5_meta.specs.Asks.{Asking, AsksAfter, AsksLevels, AsksNothing, AsksOnce, AsksPyramid, AsksThen, IsAskedOfSetup, IsAttributesGot, OrMemory, attr_by, bytes_by, pyramid_of, setup_by}
use Rattle.n5_meta.specs.Pyramid.{level_key, setup_key}
use Rattle.n5_meta.specs.Rules.{◌>>=◌}
use Rattle.n5_meta.proofs.Prefixes.{prefixed, prefixed_more, prefixed_none}

-- nothing is asked
pub asked_nothing : {A : Type 0} (meant result : Result A OpenErr) (s : Contents) → OrMemory meant result → IsAskedOfSetup (AsksNothing meant) s s result
asked_nothing meant result s is = record { calls = []; called = refl; asked = (refl, is) }

-- memory was wanting before a get
pub wanted_first : {A : Type 0} (key : List ℕ) (decided : Got → List ℕ → Result A OpenErr) (s : Contents) → IsAskedOfSetup (AsksOnce key decided) s s (Err refused.Memory)
wanted_first key decided s = record { calls = []; called = refl; asked = inl (refl, inl refl) }

-- the key that was made
pub got_at : (key key' : List ℕ) (where' : Spot) (a b : Contents) (result : Result (Unit {0}) OpenErr) (found : List ℕ) → key ≡ key' → IsAttributesGot key where' a b result found → IsAttributesGot key' where' a b result found
got_at key key' where' a b result found is g = subst (λ (k : List ℕ). IsAttributesGot k where' a b result found) is g

-- one get, which decides
asked_once : {A : Type 0} (key : List ℕ) (where' : Spot) (decided : Got → List ℕ → Result A OpenErr) (a b : Contents) (got : Result (Unit {0}) OpenErr) (found : List ℕ) (result : Result A OpenErr) (g : IsAttributesGot key where' a b got found)
    → OrMemory (decided g.answer found) result → IsAskedOfSetup (AsksOnce key decided) a b result
asked_once key where' decided a b got found result g is = record {
  calls = Getting 0 key (2 ^ 20) g.answer found ∷ [];
  called = (b ∷ [], (a, b, refl, g.gets, refl), refl);
  asked = inr (g.answer, found, refl, is);
}

-- one get that was refused
pub asked_refused : {A : Type 0} (key : List ℕ) (where' : Spot) (decided : Got → List ℕ → Result A OpenErr) (a b : Contents) (found : List ℕ) (err : OpenErr)
    → ((answer : Got) → bytes_by where' answer found ≡ Err err → decided answer found ≡ Err err) → IsAttributesGot key where' a b (Err err) found → IsAskedOfSetup (AsksOnce key decided) a b (Err err)
asked_refused key where' decided a b found err by g = asked_once key where' decided a b (Err err) found (Err err) g (inl (sym (by g.answer g.decided)))

-- one get whose bytes decide
pub asked_found : {A : Type 0} (key : List ℕ) (where' : Spot) (decided : Got → List ℕ → Result A OpenErr) (a b : Contents) (done : Unit {0}) (found : List ℕ) (result : Result A OpenErr)
    → IsAttributesGot key where' a b (Ok done) found → ((answer : Got) → bytes_by where' answer found ≡ Ok found → OrMemory (decided answer found) result) → IsAskedOfSetup (AsksOnce key decided) a b result
asked_found key where' decided a b done found result g by = asked_once key where' decided a b (Ok done) found result g (by g.answer g.decided)

-- a refusal ends what is asked
pub then_refused : {A B : Type 0} (first : Asking A) (next : A → Asking B) (a b : Contents) (err : OpenErr) → IsAskedOfSetup first a b (Err err) → IsAskedOfSetup (AsksThen first next) a b (Err err)
then_refused first next a b err g = record { calls = g.calls; called = g.called; asked = (Err err, g.calls, [], sym (append-nil g.calls), g.asked, (refl, refl)) }

-- one after the other
pub then_on : {A B : Type 0} (first : Asking A) (next : A → Asking B) (a b c : Contents) (x : A) (result : Result B OpenErr) → IsAskedOfSetup first a b (Ok x) → IsAskedOfSetup (next x) b c result → IsAskedOfSetup (AsksThen first next) a c result
then_on first next a b c x result g h = record {
  calls = g.calls ++ h.calls;
  called = called_on (a ∷ []) (b ∷ []) (c ∷ []) g.calls h.calls g.called h.called;
  asked = (Ok x, g.calls, h.calls, refl, g.asked, h.asked);
}

-- The levels before one were got, and whatever the others' gets are, these come before them.
pub record AreGot (root : List ℕ) (factors : List (List ℕ)) (level : ℕ) (front : List Described) (old new : Contents) : Type 0 where
  pub calls : List StoreCall
  pub called : AreCalled calls (old ∷ []) (new ∷ [])
  pub more : (rest : List StoreCall) (others : Result (List Described) OpenErr) → AsksLevels root level (drop level factors) rest others → AsksLevels root 0 factors (calls ++ rest) (prefixed front others)

pub none_got : (root : List ℕ) (factors : List (List ℕ)) (s : Contents) → AreGot root factors 0 [] s s
none_got root factors s = record {
  calls = [];
  called = refl;
  more = λ rest others h. subst (λ r. AsksLevels root 0 factors rest r) (sym (prefixed_none others)) h;
}

levels_want : (root : List ℕ) (level : ℕ) (factors : List (List ℕ)) → AsksLevels root level factors [] (Err refused.Memory)
levels_want root level [] = (refl, inr refl)
levels_want root level (factor ∷ factors) = (Err refused.Memory, [], [], refl, inl (refl, inl refl), (refl, refl))

-- a step: the gets of the level that comes next, before those of the others
module _ (root : List ℕ) (factors : List (List ℕ)) (level : ℕ) (d : List ℕ) (lt : level < length factors) where
  next_level : (calls : List StoreCall) (others : Result (List Described) OpenErr) → AsksLevels root level (get_or factors level d ∷ drop (level + 1) factors) calls others → AsksLevels root level (drop level factors) calls others
  next_level calls others h = subst (λ left. AsksLevels root level left calls others) (sym (drop_at)) h
    where
      drop_at : drop level factors ≡ get_or factors level d ∷ drop (level + 1) factors
      drop_at = at_drop_more (λ left. left) factors level d lt

  kept : (attr : Attr) (others : Result (List Described) OpenErr) → AsksAfter others (λ after. AsksNothing (Ok (record { factor = get_or factors level d; attr = attr } ∷ after))) [] (others >>= (λ after. Ok (record { factor = get_or factors level d; attr = attr } ∷ after)))
  kept attr (Ok after) = (refl, inl refl)
  kept attr (Err err) = (refl, refl)

  pub one_got : (front : List Described) (attr : Attr) (a b c : Contents) → AreGot root factors level front a b → IsAskedOfSetup (AsksOnce (level_key root level) (attr_by level)) b c (Ok attr)
      → AreGot root factors (level + 1) (front ++ record { factor = get_or factors level d; attr = attr } ∷ []) a c
  one_got front attr a b c so_far g = record {
    calls = so_far.calls ++ g.calls;
    called = called_on (a ∷ []) (b ∷ []) (c ∷ []) so_far.calls g.calls so_far.called g.called;
    more = λ rest others h.
        let here = so_far.more (g.calls ++ rest) (others >>= (λ after. Ok (record { factor = get_or factors level d; attr = attr } ∷ after)))
        (next_level _ _ (Ok attr, g.calls, rest, refl, g.asked, (others, rest, [], sym (append-nil rest), h, kept attr others))) in
        subst (λ r. AsksLevels root 0 factors ((so_far.calls ++ g.calls) ++ rest) r) (prefixed_more front _ others)
        (subst (λ calls. AsksLevels root 0 factors calls (prefixed front (others >>= (λ after. Ok (record { factor = get_or factors level d; attr = attr } ∷ after))))) (sym (append_assoc so_far.calls g.calls rest)) here);
  }

  -- its attributes are refused
  pub one_refused : (front : List Described) (err : OpenErr) (a b c : Contents) → AreGot root factors level front a b → IsAskedOfSetup (AsksOnce (level_key root level) (attr_by level)) b c (Err err)
      → IsAskedOfSetup (AsksLevels root 0 factors) a c (Err err)
  one_refused front err a b c so_far g = record {
    calls = so_far.calls ++ g.calls;
    called = called_on (a ∷ []) (b ∷ []) (c ∷ []) so_far.calls g.calls so_far.called g.called;
    asked = so_far.more g.calls (Err err) (next_level _ _ (Err err, g.calls, [], sym (append-nil g.calls), g.asked, (refl, refl)));
  }

-- memory was wanting to keep the levels
pub levels_unkept : (root : List ℕ) (factors : List (List ℕ)) (level : ℕ) (front : List Described) (a b : Contents) → AreGot root factors level front a b → IsAskedOfSetup (AsksLevels root 0 factors) a b (Err refused.Memory)
levels_unkept root factors level front a b so_far = record {
  calls = so_far.calls ++ [];
  called = subst (λ calls. AreCalled calls (a ∷ []) (b ∷ [])) (sym (append-nil so_far.calls)) so_far.called;
  asked = so_far.more [] (Err refused.Memory) (levels_want root level (drop level factors));
}

-- all levels were got
pub all_got : (root : List ℕ) (factors : List (List ℕ)) (level : ℕ) (front : List Described) (a b : Contents) → length factors ≤ level → AreGot root factors level front a b → IsAskedOfSetup (AsksLevels root 0 factors) a b (Ok front)
all_got root factors level front a b le so_far = record {
  calls = so_far.calls ++ [];
  called = subst (λ calls. AreCalled calls (a ∷ []) (b ∷ [])) (sym (append-nil so_far.calls)) so_far.called;
  asked = subst (λ (done : List Described). AsksLevels root 0 factors (so_far.calls ++ []) (Ok done)) (append-nil front)
      (so_far.more [] (Ok []) (subst (λ left. AsksLevels root level left [] (Ok [])) (sym (drop_of_length-le factors le)) (refl, inl refl)));
}

-- the setup's attributes were got, and then the levels'
pub setup_then : (root : List ℕ) (a b c : Contents) (factors factors' : List (List ℕ)) (result : Result (List Level) OpenErr) → factors' ≡ factors → IsAskedOfSetup (AsksOnce (setup_key root) setup_by) a b (Ok factors)
    → IsAskedOfSetup (AsksThen (AsksLevels root 0 factors') (λ described. AsksNothing (pyramid_of described))) b c result → IsAskedOfSetup (AsksPyramid root) a c result
setup_then root a b c factors factors' result same g h =
    then_on (AsksOnce (setup_key root) setup_by) (λ left. AsksThen (AsksLevels root 0 left) (λ described. AsksNothing (pyramid_of described))) a b c factors result g
    (subst (λ (left : List (List ℕ)). IsAskedOfSetup (AsksThen (AsksLevels root 0 left) (λ described. AsksNothing (pyramid_of described))) b c result) same h)

-- and what they describe is, or is not, a pyramid
pub pyramid_then : (root : List ℕ) (a b c : Contents) (factors factors' : List (List ℕ)) (described described' : List Described) (result : Result (List Level) OpenErr) → factors' ≡ factors → described' ≡ described
    → IsAskedOfSetup (AsksOnce (setup_key root) setup_by) a b (Ok factors) → IsAskedOfSetup (AsksLevels root 0 factors') b c (Ok described) → OrMemory (pyramid_of described') result → IsAskedOfSetup (AsksPyramid root) a c result
pyramid_then root a b c factors factors' described described' result same levels g h is = setup_then root a b c factors factors' result same g
    (then_on (AsksLevels root 0 factors') (λ d. AsksNothing (pyramid_of d)) b c c described result h
    (asked_nothing (pyramid_of described) result c (subst (λ (d : List Described). OrMemory (pyramid_of d) result) levels is)))
