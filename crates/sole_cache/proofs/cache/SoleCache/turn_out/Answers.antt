use Rattle.std.proofs.Common.{◌≡◌, ◌∙◌, true, false, [], ◌∷◌, refl, sym, ap, subst}
use Rattle.arr_history.specs.declared.event.Event.TheVariants as happening
use Rattle.sole_cache.specs.Cached.{Cached, slot_at}
use Rattle.sole_cache.specs.Value.{with_shown, vacated}
use Rattle.sole_cache.specs.Valid.{IsCache}
use Rattle.sole_cache.specs.Moves.{Moves}
use Rattle.std.proofs.lemmas.Result.{err_from_is_err_and}
use Rattle.sole_cache.specs.Acquires.{put_call}
use Rattle.sole_cache.proofs.Leaves.{left_unmarked, left_marked}
use Rattle.sole_cache.proofs.cache.SoleCache.turn_out.Goals as goal

pub returns-then-not-is_marked-clause-gone : goal.returns-then-not-is_marked-clause-gone
returns-then-not-is_marked-clause-gone g c =
    let old = c.args.self.now in
    let mark : (slot_at old c.args.slot).marked ≡ false = sym c.is_marked.ensures.marked ∙ c.if-not-is_marked.true in
    let gone : IsCache (vacated old c.args.cell c.args.slot) = subst IsCache c.vacate.ensures.left c.vacate.ensures.valid in
    subst (λ (d : Cached). Moves old (happening.Close 0 c.args.cell ∷ happening.Gone 0 c.args.cell (slot_at old c.args.slot).marked ∷ []) d) (sym c.vacate.ensures.left)
    (left_unmarked old c.args.cell c.args.slot c.is_marked.ensures.valid c.requires.live c.requires.unpinned mark gone)

pub returns-clause-gone : goal.returns-clause-gone
returns-clause-gone g c =
    let old = c.args.self.now in
    let mid = c.save.new.self in
    let mark : (slot_at old c.args.slot).marked ≡ true = sym c.is_marked.ensures.marked ∙ c.if-not-is_marked.false in
    let over_is : mid ≡ with_shown old mid.shown = c.in_ok-save.ensures.stays in
    let left : c.vacate-2.new.self ≡ vacated (with_shown old mid.shown) c.args.cell c.args.slot = c.vacate-2.ensures.left ∙ ap (λ x. vacated x c.args.cell c.args.slot) over_is in
    let gone : IsCache (vacated (with_shown old mid.shown) c.args.cell c.args.slot) = subst IsCache left c.vacate-2.ensures.valid in
    subst (λ (d : Cached). Moves old (happening.Close 0 c.args.cell ∷ happening.Gone 0 c.args.cell (slot_at old c.args.slot).marked ∷ []) d) (sym left)
    (left_marked old c.args.cell c.args.slot mid.shown c.is_marked.ensures.valid c.requires.live c.requires.unpinned mark c.in_ok-save.ensures.saved gone)

pub returns-in_err-save-clause-asked : goal.returns-in_err-save-clause-asked
returns-in_err-save-clause-asked g c =
    let p = err_from_is_err_and c.from_residual.result c.from_residual.ensures.1 in
    let e = c.in_err-save.ensures.asked in
    rw (p.1, p.2) (put_call c.args.self.now c.args.cell c.args.slot e.0 ∷ [], (e.0, e.1, refl), e.2)
