-- How gets of attributes compose: what two of them do, what one does, and what a refusal without a get changes.
use Rattle.std.proofs.Common.{◌≡◌, ◌⊎◌, inl, inr, ℕ, true, false, List, [], ◌∷◌, ◌++◌, Option, Some, None, refl, ap, sym, ◌∙◌, subst, arith}
use Rattle.std.proofs.lemmas.List.{append_assoc, append-nil}
use Rattle.std.proofs.lemmas.List.Elements.{All-nil, All-push, All-append}
use Rattle.cell_store.specs.Store.{Contents, Entry}
use Rattle.cell_store.proofs.FaultLemmas.{stays_then_rose}
use Rattle.n5_meta.specs.declared.open_err.OpenErr.{OpenErr}
use Rattle.n5_meta.specs.declared.open_err.OpenErr.TheVariants as refused
use Rattle.n5_meta.specs.Gets.{IsAttributesKey, IsOkGet, LogsGets, LogsFault, Logs, Opens, opening_is_fault}

logs_nothing : (root : List ℕ) (log : List Entry) → LogsGets root log log
logs_nothing root log = record { gets = []; grew = sym (append-nil log); all_ok = All-nil (IsOkGet root) }

logs_on : (root : List ℕ) (a b c : List Entry) → LogsGets root a b → LogsGets root b c → LogsGets root a c
logs_on root a b c first second = record {
  gets = first.gets ++ second.gets;
  grew = second.grew ∙ ap (λ log. log ++ second.gets) first.grew ∙ append_assoc a first.gets second.gets;
  all_ok = All-append (IsOkGet root) first.gets second.gets first.all_ok second.all_ok;
}

fault_on : (root : List ℕ) (a b c : List Entry) → LogsGets root a b → LogsFault root b c → LogsFault root a c
fault_on root a b c first second = record {
  before = second.before;
  gets = logs_on root a b second.before first second.gets;
  key = second.key;
  is_key = second.is_key;
  last = second.last;
}

logs_more : (root : List ℕ) (a b c : List Entry) (refusal : Option OpenErr) → LogsGets root a b → Logs root b c refusal → Logs root a c refusal
logs_more root a b c (Some refused.ReadFault) first second = fault_on root a b c first second
logs_more root a b c (Some refused.Memory) first (inl second) = inl (logs_on root a b c first second)
logs_more root a b c (Some refused.Memory) first (inr second) = inr (fault_on root a b c first second)
logs_more root a b c refusal first second = logs_on root a b c first second

logs_refused : (root : List ℕ) (a b : List Entry) (err : OpenErr) → opening_is_fault (Some err) ≡ false → LogsGets root a b → Logs root a b (Some err)
logs_refused root a b refused.ReadFault no_fault got = grind (arith, no_fault)
logs_refused root a b refused.Memory no_fault got = inl got
logs_refused root a b err no_fault got = got

-- one get that was answered
pub logs_get : (root key : List ℕ) (old new : List Entry) → IsAttributesKey root key → new ≡ old ++ record { put = false; key = key; ok = true } ∷ [] → LogsGets root old new
logs_get root key old new is grew = record {
  gets = record { put = false; key = key; ok = true } ∷ [];
  grew = grew;
  all_ok = All-push (IsOkGet root) [] _ (All-nil (IsOkGet root)) (record { get = refl; key = is; ok = refl });
}

-- one get that was not
pub logs_fault : (root key : List ℕ) (old new : List Entry) → IsAttributesKey root key → new ≡ old ++ record { put = false; key = key; ok = false } ∷ [] → LogsFault root old new
logs_fault root key old new is grew = record { before = old; gets = logs_nothing root old; key = key; is_key = is; last = grew }

-- one get that found no memory
pub logs_no_memory : (root key : List ℕ) (old new : List Entry) → IsAttributesKey root key → (new ≡ old) ⊎ (new ≡ old ++ record { put = false; key = key; ok = false } ∷ []) → LogsGets root old new ⊎ LogsFault root old new
logs_no_memory root key old new is (inl same) = inl (subst (λ log. LogsGets root old log) (sym same) (logs_nothing root old))
logs_no_memory root key old new is (inr grew) = inr (logs_fault root key old new is grew)

-- nothing is done
pub opens_nothing : (root : List ℕ) (s : Contents) → Opens root s s None
opens_nothing root s = record {
  told = refl;
  told_log = refl;
  unchanged = λ _. refl;
  never_falls = grind arith;
  failed = λ e. grind (arith, e);
  logged = λ _. logs_nothing root s.log;
}

-- one after the other
pub opens_on : (root : List ℕ) (a b c : Contents) (refusal : Option OpenErr) → Opens root a b None → Opens root b c refusal → Opens root a c refusal
opens_on root a b c refusal first second = record {
  told = second.told ∙ first.told;
  told_log = second.told_log ∙ first.told_log;
  unchanged = λ told. second.unchanged (first.told ∙ told) ∙ first.unchanged told;
  never_falls = grind (arith, first.never_falls, second.never_falls);
  failed = λ e. stays_then_rose a.faults b.faults c.faults first.never_falls (second.failed e);
  logged = λ told. logs_more root a.log b.log c.log refusal (first.logged told) (second.logged (first.told_log ∙ told));
}

-- a refusal that is no fault, after what was got
pub opens_refused : (root : List ℕ) (a b : Contents) (err : OpenErr) → opening_is_fault (Some err) ≡ false → Opens root a b None → Opens root a b (Some err)
opens_refused root a b err no_fault got = record {
  told = got.told;
  told_log = got.told_log;
  unchanged = got.unchanged;
  never_falls = got.never_falls;
  failed = λ e. grind (arith, no_fault, ap opening_is_fault e);
  logged = λ told. logs_refused root a.log b.log err no_fault (got.logged told);
}
