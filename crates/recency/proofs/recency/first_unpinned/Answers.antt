use Rattle.std.proofs.Common.{ℕ, ◌<◌, false, not, List, get_or, sym, subst, arith}
use Rattle.std.specs.Prelude.{Option, Some, None}
use Rattle.std.proofs.lemmas.Bool.{not_from_false, not_from_true}
use Rattle.ix_links.specs.NodeLists.{list_at}
use Rattle.ix_links.proofs.Membership.{contains_place}
use Rattle.ix_links.proofs.Rows.{row_at}
use Rattle.recency.proofs.Walks.{IsWalked, walked_found, walked_none, walked_more, walked_smaller, left_at, left_from}
use Rattle.recency.proofs.recency.first_unpinned.Goals as goal

pub bounds-pinned-candidate : goal.bounds-pinned-candidate
bounds-pinned-candidate c =
    let xs : List ℕ = list_at c.args.links.now c.args.list in
    let w : IsWalked (λ slot. not (get_or c.args.pinned.now slot false)) xs (Some c.in-Some.candidate) =
    subst (λ (o : Option ℕ). IsWalked (λ slot. not (get_or c.args.pinned.now slot false)) xs o) c.in-Some.is c.loop-slot.invariant in
    let below : c.in-Some.candidate < c.args.links.now.nodes =
    c.requires.disjoint.within c.args.list c.in-Some.candidate (contains_place xs w.place c.in-Some.candidate (sym w.at)) in
    let flags = c.requires.flags in
    omega arith

pub returns-then-not-pinned-candidate : goal.returns-then-not-pinned-candidate
returns-then-not-pinned-candidate c =
    let xs : List ℕ = list_at c.args.links.now c.args.list in
    let w : IsWalked (λ slot. not (get_or c.args.pinned.now slot false)) xs (Some c.in-Some.candidate) =
    subst (λ (o : Option ℕ). IsWalked (λ slot. not (get_or c.args.pinned.now slot false)) xs o) c.in-Some.is c.loop-slot.invariant in
    sym (walked_found (λ slot. not (get_or c.args.pinned.now slot false)) xs c.in-Some.candidate w (not_from_false (get_or c.args.pinned.now c.in-Some.candidate false) c.if-not-pinned-candidate.true))

pub next-slot-requires : goal.next-slot-requires
next-slot-requires c =
    let xs : List ℕ = list_at c.args.links.now c.args.list in
    let w : IsWalked (λ slot. not (get_or c.args.pinned.now slot false)) xs (Some c.in-Some.candidate) =
    subst (λ (o : Option ℕ). IsWalked (λ slot. not (get_or c.args.pinned.now slot false)) xs o) c.in-Some.is c.loop-slot.invariant in
    row_at c.args.links.now.lists c.args.list c.in-Some.candidate (contains_place xs w.place c.in-Some.candidate (sym w.at))

pub loop-slot-smaller : goal.loop-slot-smaller
loop-slot-smaller c =
    let xs : List ℕ = list_at c.args.links.now c.args.list in
    let w : IsWalked (λ slot. not (get_or c.args.pinned.now slot false)) xs (Some c.in-Some.candidate) =
    subst (λ (o : Option ℕ). IsWalked (λ slot. not (get_or c.args.pinned.now slot false)) xs o) c.in-Some.is c.loop-slot.invariant in
    let smaller : left_at xs c.next-slot.result < left_from xs c.in-Some.candidate =
    walked_smaller (λ slot. not (get_or c.args.pinned.now slot false)) xs c.in-Some.candidate (c.requires.disjoint.once c.args.list) w c.next-slot.result (c.next-slot.ensures c.args.list w.place (sym w.at)) in
    subst (λ (o : Option ℕ). left_at xs c.next-slot.result < left_at xs o) (sym c.in-Some.is) smaller

pub loop-slot-preserved : goal.loop-slot-preserved
loop-slot-preserved c =
    let xs : List ℕ = list_at c.args.links.now c.args.list in
    let w : IsWalked (λ slot. not (get_or c.args.pinned.now slot false)) xs (Some c.in-Some.candidate) =
    subst (λ (o : Option ℕ). IsWalked (λ slot. not (get_or c.args.pinned.now slot false)) xs o) c.in-Some.is c.loop-slot.invariant in
    walked_more (λ slot. not (get_or c.args.pinned.now slot false)) xs c.in-Some.candidate w (not_from_true (get_or c.args.pinned.now c.in-Some.candidate false) c.if-not-pinned-candidate.false)
    c.next-slot.result (c.next-slot.ensures c.args.list w.place (sym w.at))

pub returns : goal.returns
returns c =
    let xs : List ℕ = list_at c.args.links.now c.args.list in
    let w : IsWalked (λ slot. not (get_or c.args.pinned.now slot false)) xs None =
    subst (λ (o : Option ℕ). IsWalked (λ slot. not (get_or c.args.pinned.now slot false)) xs o) c.in_default.is c.loop-slot.invariant in
    sym (walked_none (λ slot. not (get_or c.args.pinned.now slot false)) xs w)
