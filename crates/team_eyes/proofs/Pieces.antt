-- The pins that events of a pass make.
use Rattle.std.proofs.Common.{◌≡◌, ◌∙◌, inl, inr, ℕ, zero, suc, ◌+◌, ◌-◌, ◌<◌, ◌≤◌, ◌==◌, ◌&&◌, cond, Bool, true, false, true≢false, List, [], ◌∷◌, ◌++◌, refl, sym, ap, subst, eq-eqb, arith}
use Rattle.std.specs.List.{list_all}
use Rattle.std.proofs.lemmas.List.Folds.{list_all-append}
use Rattle.cell_file.specs.declared.errors.AcquireErr.{AcquireErr}
use Rattle.cell_file.specs.declared.errors.AcquireErr.TheVariants as refusal
use Rattle.arr_history.specs.declared.event.Event.{Event}
use Rattle.arr_history.specs.declared.event.Event.TheVariants.{Pin, Miss, Unpin, Mark, Read, Write, Claim, Drop, Live, Close, Gone, Back}
use Rattle.pin_words.specs.Account.{one}
use Rattle.volatile_cell.specs.Front.{pins_next, pins_after}
use Rattle.call_events.specs.Pieces.{misses, IsTurnOut, IsGranted, IsDropped, IsHeldUp, IsRefused}
use Rattle.team_eyes.specs.TeammateLaws.{pins_on}

-- whether an event takes no pin away
abbrev pub keeps_pins : Event → Bool
keeps_pins (Unpin k c) = false
keeps_pins other = true

-- Events of pass k that take no pin away, and add so many to each cell.
pub record MakesPins (k : ℕ) (more : ℕ → ℕ) (events : List Event) : Type 0 where
  pub kept : list_all keeps_pins events ≡ true
  pub pins : (c n : ℕ) → pins_after k c events n ≡ more c + n

abbrev pub none : ℕ → ℕ
none c = 0

makes_on : (k : ℕ) (f g h : ℕ → ℕ) (p q : List Event) → ((c : ℕ) → h c ≡ f c + g c) → MakesPins k f p → MakesPins k g q → MakesPins k h (p ++ q)
makes_on k f g h p q all a b = record {
  kept = list_all-append keeps_pins p q ∙ ap (λ x. x && list_all keeps_pins q) a.kept ∙ b.kept;
  pins = λ c n. let sums = all c in let first = a.pins c n in let then = pins_on k c p q n ∙ b.pins c (pins_after k c p n) in omega (arith, sums, first, then);
}

adds_one : (k j c d n : ℕ) → j ≡ k → cond ((j == k) && (d == c)) (n + 1) n ≡ one d c + n
adds_one k j c d n same = ap (λ b. cond (b && (d == c)) (n + 1) n) (eq-eqb j k same) ∙ go (d == c)
  where
    go : (b : Bool) → cond b (n + 1) n ≡ cond b 1 0 + n
    go true = omega arith
    go false = omega arith

pub pins_one : (k d : ℕ) → MakesPins k (one d) (Pin k d ∷ [])
pins_one k d = record { kept = refl; pins = λ c n. adds_one k k c d n refl }

lives_one : (k d slot : ℕ) → MakesPins k (one d) (Live k d slot ∷ [])
lives_one k d slot = record { kept = refl; pins = λ c n. adds_one k k c d n refl }

pub misses_none : (k d : ℕ) → MakesPins k none (Miss k d ∷ [])
misses_none k d = record { kept = refl; pins = λ c n. omega arith }

pub reads_none : (k d at x : ℕ) → MakesPins k none (Read k d at x ∷ [])
reads_none k d at x = record { kept = refl; pins = λ c n. omega arith }

all_misses : (k d n : ℕ) → MakesPins k none (misses k d n)
all_misses k d zero = record { kept = refl; pins = λ c n. omega arith }
all_misses k d (suc n) = makes_on k none none none (Miss k d ∷ []) (misses k d n) (λ _. omega arith) (misses_none k d) (all_misses k d n)

turned : (k : ℕ) (turn : List Event) → IsTurnOut k turn → MakesPins k none turn
turned k turn (inl is) = subst (MakesPins k none) (sym is) (record { kept = refl; pins = λ c n. omega arith })
turned k turn (inr (v, saved, is)) = subst (MakesPins k none) (sym is) (record { kept = refl; pins = λ c n. omega arith })

-- an acquire that was granted makes one pin on its cell, and one that was refused none
pub granted_one : (alone : Bool) (k d : ℕ) (loaded : Bool) (events : List Event) → IsGranted alone k d loaded events → MakesPins k (one d) events
granted_one alone k d false events (n, few, is) =
    subst (MakesPins k (one d)) (sym is) (makes_on k none (one d) (one d) (misses k d n) (Pin k d ∷ []) (λ _. omega arith) (all_misses k d n) (pins_one k d))
granted_one alone k d true events (n, few, slot, turn, out, is) =
    subst (MakesPins k (one d)) (sym is)
    (makes_on k none (one d) (one d) (misses k d (suc n)) (Claim k d ∷ (turn ++ Live k d slot ∷ [])) (λ _. omega arith) (all_misses k d (suc n))
    (makes_on k none (one d) (one d) (Claim k d ∷ []) (turn ++ Live k d slot ∷ []) (λ _. omega arith) (record { kept = refl; pins = λ c m. omega arith })
    (makes_on k none (one d) (one d) turn (Live k d slot ∷ []) (λ _. omega arith) (turned k turn out) (lives_one k d slot))))

dropped_none : (alone : Bool) (k d : ℕ) (events : List Event) → IsDropped alone k d events → MakesPins k none events
dropped_none alone k d events (n, few, turn, out, is) =
    subst (MakesPins k none) (sym is)
    (makes_on k none none none (misses k d (suc n)) (Claim k d ∷ (turn ++ Drop k d ∷ [])) (λ _. omega arith) (all_misses k d (suc n))
    (makes_on k none none none (Claim k d ∷ []) (turn ++ Drop k d ∷ []) (λ _. omega arith) (record { kept = refl; pins = λ c m. omega arith })
    (makes_on k none none none turn (Drop k d ∷ []) (λ _. omega arith) (turned k turn out) (record { kept = refl; pins = λ c m. omega arith }))))

held_none : (alone : Bool) (k d : ℕ) (events : List Event) → IsHeldUp alone k d events → MakesPins k none events
held_none alone k d events (n, few, v, is) =
    subst (MakesPins k none) (sym is)
    (makes_on k none none none (misses k d (suc n)) (Claim k d ∷ Close k v ∷ Back k v ∷ Drop k d ∷ []) (λ _. omega arith) (all_misses k d (suc n)) (record { kept = refl; pins = λ c m. omega arith }))

pub refused_none : (alone : Bool) (k d : ℕ) (err : AcquireErr) (events : List Event) → IsRefused alone k d err events → MakesPins k none events
refused_none alone k d refusal.ReadFault events h = dropped_none alone k d events h
refused_none alone k d refusal.WriteFault events h = held_none alone k d events h
refused_none alone k d (refusal.Malformed edited err) events h = dropped_none alone k d events h
refused_none alone k d (refusal.TooLong edited len limit) events h = dropped_none alone k d events h
refused_none alone k d refusal.Full events h = subst (MakesPins k none) (sym h) (misses_none k d)
refused_none alone k d refusal.Memory events (inl h) = dropped_none alone k d events h
refused_none alone k d refusal.Memory events (inr h) = held_none alone k d events h

-- more pins before are more after
pub pins_ordered : (k c : ℕ) (events : List Event) (m n : ℕ) → m ≤ n → pins_after k c events m ≤ pins_after k c events n
pins_ordered k c [] m n h = h
pins_ordered k c (e ∷ events) m n h = pins_ordered k c events (pins_next k c e m) (pins_next k c e n) (step e)
  where
    more : (b : Bool) → cond b (m + 1) m ≤ cond b (n + 1) n
    more true = let x = h in omega arith
    more false = h

    less : (b : Bool) → cond b (m - 1) m ≤ cond b (n - 1) n
    less true = let x = h in omega arith
    less false = h

    step : (e : Event) → pins_next k c e m ≤ pins_next k c e n
    step (Pin j d) = more ((j == k) && (d == c))
    step (Live j d slot) = more ((j == k) && (d == c))
    step (Unpin j d) = less ((j == k) && (d == c))
    step (Miss j d) = h
    step (Mark j d) = h
    step (Read j d i x) = h
    step (Write j d i x) = h
    step (Claim j d) = h
    step (Drop j d) = h
    step (Close j d) = h
    step (Gone j d saved) = h
    step (Back j d) = h

-- an event that takes no pin away leaves as many
pub kept_next : (k c : ℕ) (e : Event) (n : ℕ) → keeps_pins e ≡ true → 0 < n → 0 < pins_next k c e n
kept_next k c e n keeps some = step e keeps
  where
    more : (b : Bool) → 0 < cond b (n + 1) n
    more true = omega arith
    more false = some

    step : (e : Event) → keeps_pins e ≡ true → 0 < pins_next k c e n
    step (Pin j d) h = more ((j == k) && (d == c))
    step (Live j d slot) h = more ((j == k) && (d == c))
    step (Unpin j d) h = absurd (true≢false (sym h))
    step (Miss j d) h = some
    step (Mark j d) h = some
    step (Read j d i x) h = some
    step (Write j d i x) h = some
    step (Claim j d) h = some
    step (Drop j d) h = some
    step (Close j d) h = some
    step (Gone j d saved) h = some
    step (Back j d) h = some

-- an unpin takes one away
pub takes_one : (k c d n m : ℕ) → n ≡ one d c + m → pins_next k c (Unpin k d) n ≡ m
takes_one k c d n m is = ap (λ b. cond (b && (d == c)) (n - 1) n) (eq-eqb k k refl) ∙ go (d == c) is
  where
    go : (b : Bool) → n ≡ cond b 1 0 + m → cond b (n - 1) n ≡ m
    go true h = let x = h in omega (arith, x)
    go false h = let x = h in omega (arith, x)
