-- Room that was made after a scan of the slots, and after steps without an event.
use Rattle.std.proofs.Common.{◌≡◌, ◌∙◌, ◌<◌, ◌==◌, ◌||◌, Bool, true, false, true≢false, ℕ, List, [], ◌∷◌, ◌++◌, append_assoc, inl, inr, refl, ap, subst, sym, arith}
use Rattle.std.specs.List.{list_any}
use Rattle.std.proofs.lemmas.Bool.{eqb-true}
use Rattle.arr_history.specs.declared.event.Event.TheVariants.{Close, Gone, Back}
use Rattle.call_events.specs.Pieces.{IsTurnOut, turning_out, coming_back}
use Rattle.cell_file.specs.declared.errors.SaveErr.{SaveErr}
use Rattle.cell_file.specs.declared.errors.SaveErr.TheVariants.{WriteFault}
use Rattle.pin_words.specs.declared.doing.Doing.{Doing}
use Rattle.pin_words.specs.declared.doing.Try.{Try}
use Rattle.pin_words.specs.Plan.{Plan, lane_of}
use Rattle.pin_words.specs.Account.{rise}
use Rattle.pin_words.specs.Cells.{scanned}
use Rattle.pin_words.specs.Layout.{live_word}
use Rattle.pin_words.specs.Tells.{tried}
use Rattle.pin_rule.specs.Going.{Goes}
use Rattle.pin_rule.proofs.Goings.{goes_on, goes_by}
use Rattle.live_cells.specs.Turning.{closes, HasClosed, HasScannedFor, TurnsOut, StaysOut, MadeRoom, KeptOut}

eqb_is : (a b : ℕ) → (a == b) ≡ true → a ≡ b
eqb_is a b e = eqb-true a b e

-- the one cell that a turn-out closes
closed_one : (k v n : ℕ) (saved : Bool) → list_any (closes n) (turning_out k v saved) ≡ true → v ≡ n
closed_one k v n saved e = eqb_is v n (strip (v == n) e)
  where
    strip : (b : Bool) → (b || (false || false)) ≡ true → b ≡ true
    strip true h = refl
    strip false h = h

module _ {S M : Type 0} (p : Plan S M) (a b c : Doing S M) where
  -- tries that began later
  pub scanned_since : (slots v : ℕ) → (more : List Try) → b.tries ≡ more ++ a.tries → HasScannedFor slots v b c → HasScannedFor slots v a c
  scanned_since slots v more e h = record {
    first = h.first ++ more;
    between = h.between;
    later = h.later;
    slot = h.slot;
    mark = h.mark;
    tries = h.tries ∙ ap (λ (x : List Try). h.later ++ (tried 17 v (live_word h.slot h.mark) ∷ (h.between ++ scanned slots x))) (ap (λ (x : List Try). h.first ++ x) e ∙ sym (append_assoc h.first more a.tries));
  }

  -- a closing right behind a scan
  closed_scanned : (slots v : ℕ) → b.tries ≡ scanned slots a.tries → HasClosed v b c → HasScannedFor slots v a c
  closed_scanned slots v e h = record {
    first = [];
    between = h.between;
    later = h.later;
    slot = h.slot;
    mark = h.mark;
    tries = h.tries ∙ ap (λ (x : List Try). h.later ++ (tried 17 v (live_word h.slot h.mark) ∷ (h.between ++ x))) e;
  }

  pub room_since : Goes p a [] b → MadeRoom p b c → MadeRoom p a c
  room_since g h = record {
    turn = h.turn;
    is_turn = subst (λ k. IsTurnOut k h.turn) g.number h.is_turn;
    went = goes_on p a b c [] h.turn g h.went;
    scans = λ v e. scanned_since p.slots v g.tries.0 g.tries.1 (h.scans v e);
  }

  pub kept_since : (e : SaveErr) → Goes p a [] b → KeptOut p b c e → KeptOut p a c e
  kept_since e g h = record {
    victim = h.victim;
    went = goes_by p (λ k. coming_back k h.victim) a b c [] g h.went;
    scans = scanned_since p.slots h.victim g.tries.0 g.tries.1 h.scans;
    fault = λ is. let w = h.fault is in let u = g.rises (lane_of p h.victim) in omega (arith, w, u);
  }

  -- the cell left behind a scan
  pub room_turned : Goes p a [] b → b.tries ≡ scanned p.slots a.tries → TurnsOut p b c → MadeRoom p a c
  room_turned g e h = record {
    turn = turning_out a.number h.victim h.saved;
    is_turn = inr (h.victim, h.saved, refl);
    went = goes_by p (λ k. turning_out k h.victim h.saved) a b c [] g h.went;
    scans = λ v is. subst (λ n. HasScannedFor p.slots n a c) (closed_one a.number h.victim v h.saved is) (closed_scanned p.slots h.victim e h.closed);
  }

  pub kept_turned : (err : SaveErr) → Goes p a [] b → b.tries ≡ scanned p.slots a.tries → StaysOut p b c err → KeptOut p a c err
  kept_turned err g e h = record {
    victim = h.victim;
    went = goes_by p (λ k. coming_back k h.victim) a b c [] g h.went;
    scans = closed_scanned p.slots h.victim e h.closed;
    fault = λ is. let w = h.fault is in let u = g.rises (lane_of p h.victim) in omega (arith, w, u);
  }

module _ {S M : Type 0} (p : Plan S M) (a b : Doing S M) where
  -- a slot was free
  pub room_free : Goes p a [] b → MadeRoom p a b
  room_free g = record { turn = []; is_turn = inl refl; went = g; scans = λ v e. absurd (true≢false (sym e)) }

module _ {S M : Type 0} (p : Plan S M) (a b c : Doing S M) where
  pub has_closed : (v slot : ℕ) (mark : Bool) (between more : List Try) → b.tries ≡ tried 17 v (live_word slot mark) ∷ (between ++ a.tries) → c.tries ≡ more ++ b.tries → HasClosed v a c
  has_closed v slot mark between more e h = record { between = between; later = more; slot = slot; mark = mark; tries = h ∙ ap (λ (x : List Try). more ++ x) e }

  pub turned_out : (v slot : ℕ) (mark : Bool) → Goes p a (Close a.number v ∷ []) b → (between : List Try) × (b.tries ≡ tried 17 v (live_word slot mark) ∷ (between ++ a.tries)) → Goes p b (Gone b.number v mark ∷ []) c → TurnsOut p a c
  turned_out v slot mark g t h = record { victim = v; saved = mark; went = goes_by p (λ k. Gone k v mark ∷ []) a b c _ g h; closed = has_closed v slot mark t.0 h.tries.0 t.1 h.tries.1 }

  pub stayed_out : (v slot : ℕ) (mark : Bool) (err : SaveErr) → Goes p a (Close a.number v ∷ []) b → (between : List Try) × (b.tries ≡ tried 17 v (live_word slot mark) ∷ (between ++ a.tries)) → Goes p b (Back b.number v ∷ []) c
      → (err ≡ WriteFault → rise (lane_of p v) b < rise (lane_of p v) c) → StaysOut p a c err
  stayed_out v slot mark err g t h fault = record { victim = v; went = goes_by p (λ k. Back k v ∷ []) a b c _ g h; closed = has_closed v slot mark t.0 h.tries.0 t.1 h.tries.1; fault = λ is. let w = fault is in let u = g.rises (lane_of p v) in omega (arith, w, u) }

  -- tries that come later
  pub scanned_later : (slots v : ℕ) (more : List Try) → c.tries ≡ more ++ b.tries → HasScannedFor slots v a b → HasScannedFor slots v a c
  scanned_later slots v more e h = record {
    first = h.first;
    between = h.between;
    later = more ++ h.later;
    slot = h.slot;
    mark = h.mark;
    tries = e ∙ (ap (λ (x : List Try). more ++ x) h.tries ∙ sym (append_assoc more h.later _));
  }
