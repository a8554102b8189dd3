-- A cell stays in its slot while a pass has a pin on it, whatever others do.
use Rattle.std.proofs.Common.{◌≡◌, ◌∙◌, ℕ, ◌<◌, ◌&&◌, Bool, true, false, true≢false, List, [], ◌∷◌, ◌++◌, Some, refl, sym, ap, subst, arith}
use Rattle.pass_roster.specs.History.{StartsWith}
use Rattle.pass_roster.proofs.Entries.{by_append}
use Rattle.arr_history.specs.declared.cell_state.CellState.{CellState}
use Rattle.arr_history.specs.declared.cell_state.CellState.TheVariants as cell
use Rattle.arr_history.specs.declared.event.Event.{Event}
use Rattle.arr_history.specs.State.{State, opening}
use Rattle.arr_history.specs.Shape.{Shape}
use Rattle.arr_history.specs.Legal.{LiveIn}
use Rattle.arr_history.specs.History.{after, AreLegal, mine, pass_of}
use Rattle.arr_history.proofs.Leads.{after-append, legal-parts, same_after}
use Rattle.arr_history.proofs.Pinned.{own_pins}
use Rattle.arr_history.proofs.Sound.{stays}
use Rattle.std.specs.List.{list_all}
use Rattle.volatile_cell.specs.Front.{pins_next, pins_after}
use Rattle.team_eyes.proofs.Pieces.{keeps_pins, kept_next}
use Rattle.volatile_cell.proofs.Pins.{pins_are}
use Rattle.team_eyes.specs.Holding.{slot_if_live}

pub slot_of_live : (x : CellState) (slot : ℕ) → LiveIn x slot → slot_if_live x ≡ Some slot
slot_of_live cell.Absent slot h = absurd h
slot_of_live (cell.Loading k) slot h = absurd h
slot_of_live (cell.Live s mark) slot h = ap Some h
slot_of_live (cell.Leaving k s mark) slot h = absurd h

live_in_slot : (x : CellState) (slot : ℕ) → slot_if_live x ≡ Some slot → LiveIn x slot
live_in_slot cell.Absent slot h = absurd (cc h)
live_in_slot (cell.Loading k) slot h = absurd (cc h)
live_in_slot (cell.Live s mark) slot h = cc h
live_in_slot (cell.Leaving k s mark) slot h = absurd (cc h)

-- events of others leave a pass's pins
pub pins_by_own : (k c : ℕ) (events : List Event) (n : ℕ) → pins_after k c events n ≡ pins_after k c (mine k events) n
pins_by_own k c events n =
    let s : State = record { cells = λ _. cell.Absent; pins = λ _ _. n; arrays = λ _ _. 0 } in
    sym (pins_are s k c events) ∙ own_pins s events k c ∙ pins_are s k c (mine k events)

both_true : (a b : Bool) → (a && b) ≡ true → (a ≡ true) × (b ≡ true)
both_true true b h = (refl, h)
both_true false b h = absurd (true≢false (sym h))

-- where cells are does not depend on the arrays
abbrev untold : Shape
untold = record { cells = 0; slots = 0; voxels = λ _. 0; greatest = λ _. 0; is_void = λ _. false; is_told = λ _. false }

pub same_slot : (a b : ℕ → ℕ → ℕ) (events : List Event) (c : ℕ) → slot_if_live ((after (opening a) events).cells c) ≡ slot_if_live ((after (opening b) events).cells c)
same_slot a b events c =
    ap slot_if_live ((same_after untold (opening a) (opening b) events (record { cells = λ _. refl; pins = λ _ _. refl; arrays = λ n inside _ _ _. let none = inside in absurd (omega arith) })).cells c)

-- The pass keeps a pin on the cell through these events, of n before.
abbrev pub KeepsPin : ℕ → ℕ → List Event → ℕ → Type 0
KeepsPin k c [] n = 0 < n
KeepsPin k c (e ∷ events) n = (0 < n) × KeepsPin k c events (pins_next k c e n)

has_first : (k c : ℕ) (events : List Event) (n : ℕ) → KeepsPin k c events n → 0 < n
has_first k c [] n h = h
has_first k c (e ∷ events) n h = h.0

-- and so at each beginning of them
keeps_before : (k c : ℕ) (events front rest : List Event) (n : ℕ) → events ≡ front ++ rest → KeepsPin k c events n → 0 < pins_after k c front n
keeps_before k c events [] rest n is h = has_first k c events n h
keeps_before k c [] (x ∷ front) rest n is h = absurd (cc is)
keeps_before k c (e ∷ events) (x ∷ front) rest n is h =
    let same : e ≡ x = cc is in
    keeps_before k c events front rest (pins_next k c x n) (cc is) (subst (λ y. KeepsPin k c events (pins_next k c y n)) same h.1)

-- events that take no pin away
pub keeps_all : (k c : ℕ) (events : List Event) (n : ℕ) → list_all keeps_pins events ≡ true → 0 < n → KeepsPin k c events n
keeps_all k c [] n all some = some
keeps_all k c (e ∷ events) n all some = let parts = both_true (keeps_pins e) (list_all keeps_pins events) all in (some, keeps_all k c events (pins_next k c e n) parts.1 (kept_next k c e n parts.0 some))

pub stays_in_slot : (b : Shape) (arrays : ℕ → ℕ → ℕ) (seen between events : List Event) (k c slot : ℕ) → mine k between ≡ events → AreLegal b (opening arrays) (seen ++ between)
    → slot_if_live ((after (opening arrays) seen).cells c) ≡ Some slot → KeepsPin k c events (pins_after k c seen 0) → slot_if_live ((after (opening arrays) (seen ++ between)).cells c) ≡ Some slot
stays_in_slot b arrays seen between events k c slot own legal live keeps =
    let s = after (opening arrays) seen in
    let parts = (legal-parts b (opening arrays) seen between).0 legal in
    let before : s.pins k c ≡ pins_after k c seen 0 = pins_are (opening arrays) k c seen in
    let kept : (front : List Event) → StartsWith between front → 0 < (after s front).pins k c = λ front starts.
    subst (λ n. 0 < n) (sym (pins_are s k c front ∙ ap (pins_after k c front) before ∙ pins_by_own k c front (pins_after k c seen 0)))
    (keeps_before k c events (mine k front) (mine k starts.0) _ (sym own ∙ ap (mine k) starts.1 ∙ by_append pass_of k front starts.0) keeps) in
    ap (λ (x : State). slot_if_live (x.cells c)) (after-append (opening arrays) seen between)
    ∙ slot_of_live ((after s between).cells c) slot
    (stays b s between c slot parts.1 (live_in_slot (s.cells c) slot live) (λ front starts. (k, kept front starts)))
