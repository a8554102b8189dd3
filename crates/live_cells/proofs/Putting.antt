-- What a save says, in the words of a put of the table.
use Rattle.std.proofs.Common.{◌≡◌, ◌≢◌, ◌∙◌, ℕ, ◌+◌, ◌<◌, ◌≤◌, ◌==◌, eq-eqb, cond, Bool, true, false, true≢false, List, ◌∷◌, [], ◌++◌, Option, Some, Result, Ok, Err, OnOk, OnErr, IfErr, refl, sym, subst, arith}
use Rattle.std.specs.Prelude.{IsTrue}
use Rattle.std.specs.Str.{bytes_eq}
use Rattle.std.proofs.lemmas.Bool.{eqb-true, false_from_ne_true}
use Rattle.std.proofs.lemmas.Slice.Eq.{bytes_eq-Decides}
use Rattle.cell_store.specs.Store.{Contents, SameElsewhere, held_of}
use Rattle.cell_grid.specs.declared.level.Level.{Level}
use Rattle.cell_grid.specs.Pyramid.{cells_of}
use Rattle.cell_file.specs.Keys.{KeyNames, edited_key}
use Rattle.cell_file.specs.Standing.{standing}
use Rattle.cell_file.specs.Laws.{AreTheirOwn}
use Rattle.cell_file.specs.File.{put_entry, LogsRefusedSave}
use Rattle.cell_file.specs.declared.errors.SaveErr.{SaveErr}
use Rattle.stood_arrays.specs.Moves.{Saved, SavesMove, RefusedSavesMove}
use Rattle.stood_arrays.specs.Entries.{puts_under}
use Rattle.pin_words.specs.Plan.{Plan}
use Rattle.pin_rule.specs.declared.made.Made.{Made}
use Rattle.pin_rule.specs.declared.pins.Pins.{Pins}
use Rattle.pin_rule.specs.Calls.{plan_at, made_of, cell_count}
use Rattle.pin_rule.specs.Saving.{HasPut}

true_false : {A : Type 0} → true ≡ false → A
true_false e = absurd (true≢false e)

eqb_ne : (a b : ℕ) → (a == b) ≡ false → a ≢ b
eqb_ne a b e h = true_false (sym (eq-eqb a b h) ∙ e)

-- two keys that differ
pub keys_differ : (a b : List ℕ) → a ≢ b → bytes_eq a b ≡ false
keys_differ a b ne = false_from_ne_true (bytes_eq a b) (λ e. ne ((bytes_eq-Decides a b).0 e))

module _ {S : Type 0} (p : Plan S (Option (Made S))) (v : ℕ) (x y : S) (apart : (m : ℕ) → m < p.cells → v ≢ m → p.edited v ≢ p.edited m)
    (others : IsTrue (p.shows x).told → (m : ℕ) → m < p.cells → m ≢ v → p.standing (held_of (p.shows y)) m ≡ p.standing (held_of (p.shows x)) m) where
  -- a save that was told of its own key
  pub has_put : (done : Bool) → Saved (p.edited v) done (p.shows x) (p.shows y) → HasPut p v done x y
  has_put done s = record {
    told = s.moves.told;
    told_log = s.moves.told_log;
    never_falls = s.moves.never_falls;
    keys = λ h key ne. s.held h key (keys_differ (p.edited v) key ne);
    others = others;
    puts = λ h m lt. go h m lt (v == m) refl;
    gets = λ h m lt. let e = s.gets (p.edited m) h in omega (arith, e);
  }
    where
      go : IsTrue (p.shows x).told_log → (m : ℕ) → m < p.cells → (b : Bool) → (v == m) ≡ b → puts_under (p.edited m) (p.shows y).log ≡ puts_under (p.edited m) (p.shows x).log + cond done (cond b 1 0) 0
      go h m lt true e = subst (λ (n : ℕ). puts_under (p.edited n) (p.shows y).log ≡ puts_under (p.edited n) (p.shows x).log + cond done 1 0) (eqb-true v m e) (s.puts h)
      go h m lt false e = s.other_puts (p.edited m) (keys_differ (p.edited v) (p.edited m) (apart m lt (eqb_ne v m e))) h ∙ none done (puts_under (p.edited m) (p.shows x).log)
        where
          none : (b : Bool) (n : ℕ) → n ≡ n + cond b 0 0
          none true n = omega arith
          none false n = omega arith

-- what a save tells
pub record Told {X : Type 0} (levels : List Level) (keys : KeyNames) (v : ℕ) (r : Result X SaveErr) (old new : Contents) (values : List ℕ) : Type 0 where
  pub told : new.told ≡ old.told
  pub told_log : new.told_log ≡ old.told_log
  pub never_falls : old.faults ≤ new.faults
  pub elsewhere : IsTrue old.told → SameElsewhere (held_of old) (held_of new) (edited_key levels v)
  pub others : IsTrue old.told → (m : ℕ) → m < cells_of levels → m ≢ v → standing levels keys (held_of new) m ≡ standing levels keys (held_of old) m
  pub stood : IsTrue old.told → OnOk r (standing levels keys (held_of new) v ≡ Some values)
  pub logged : IsTrue old.told_log → OnOk r (new.log ≡ old.log ++ put_entry (edited_key levels v) true ∷ [])
  pub logged_refused : IsTrue old.told_log → IfErr r (λ err. LogsRefusedSave old.log new.log (edited_key levels v) err)

module _ {S : Type 0} (shows : S → Contents) (t : Pins S) (v : ℕ) (inside : v < cell_count t) (keyed : (made_of t).keys.value.levels ≡ (made_of t).levels.value) (own : AreTheirOwn (made_of t).keys.value) where
  apart : (m : ℕ) → m < cell_count t → v ≢ m → edited_key (made_of t).levels.value v ≢ edited_key (made_of t).levels.value m
  apart m lt ne e = ne (subst (λ (levels : List Level). v < cells_of levels → m < cells_of levels → edited_key levels v ≡ edited_key levels m → v ≡ m) keyed (own.edited v m) inside lt e)

  pub put_ok : {X : Type 0} (r : Result X SaveErr) (x y : S) (values : List ℕ) → SavesMove → Told (made_of t).levels.value (made_of t).keys.value v r (shows x) (shows y) values → OnOk r (HasPut (plan_at shows t) v true x y)
  put_ok (Ok d) x y values law k = has_put (plan_at shows t) v x y apart k.others true (law (edited_key (made_of t).levels.value v) (shows x) (shows y) (record { told = k.told; told_log = k.told_log; never_falls = k.never_falls }) k.elsewhere k.logged)
  put_ok (Err e) x y values law k = tt

  pub put_err : {X : Type 0} (r : Result X SaveErr) (x y : S) (values : List ℕ) → RefusedSavesMove → Told (made_of t).levels.value (made_of t).keys.value v r (shows x) (shows y) values → OnErr r (HasPut (plan_at shows t) v false x y)
  put_err (Ok d) x y values law k = tt
  put_err (Err e) x y values law k = has_put (plan_at shows t) v x y apart k.others false (law (edited_key (made_of t).levels.value v) e (shows x) (shows y) (record { told = k.told; told_log = k.told_log; never_falls = k.never_falls }) k.elsewhere k.logged_refused)
