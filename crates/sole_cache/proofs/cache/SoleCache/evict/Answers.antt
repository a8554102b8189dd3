use Rattle.std.proofs.Common.{◌∙◌, [], ◌∷◌, sym, ap, subst}
use Rattle.arr_history.specs.declared.tally.Tally.{Tally}
use Rattle.arr_history.specs.declared.event.Event.TheVariants as happening
use Rattle.arr_history.proofs.Counts.{raised_fits}
use Rattle.sole_cache.specs.Cached.{slot_at, Cached}
use Rattle.sole_cache.specs.Cached.{Cached}
use Rattle.sole_cache.specs.Valid.{IsCache}
use Rattle.sole_cache.specs.Moves.{Runs}
use Rattle.arr_history.specs.Tally.{tally_raised}
use Rattle.sole_cache.proofs.Claims.{gone_tally}
use Rattle.sole_cache.proofs.Lanes.{any_err}
use Rattle.sole_cache.proofs.Handles.{cache_counted, moves_counted, runs_back}
use Rattle.sole_cache.proofs.cache.SoleCache.evict.Goals as goal

pub returns-in_err-turn_out-clause-back : goal.returns-in_err-turn_out-clause-back
returns-in_err-turn_out-clause-back g c = any_err c.from_residual.result _ (runs_back c.args.self.now c.turn_out.new.self c.args.cell c.is_marked-saved.ensures.valid c.in_err-turn_out.ensures.back c.turn_out.ensures.tally)

pub returns-clause-gone : goal.returns-clause-gone
returns-clause-gone g c =
    let old = c.args.self.now in
    let mid = c.turn_out.new.self in
    let mark = (slot_at old c.args.slot).marked in
    subst (λ (x : Cached). Runs old (happening.Close 0 c.args.cell ∷ happening.Gone 0 c.args.cell mark ∷ []) x) (sym c.count.ensures) (record {
      moves = moves_counted old mid _ (tally_raised mid.tally (happening.Gone 0 c.args.cell c.is_marked-saved.result ∷ []) []) mid.unsaved c.in_ok-turn_out.ensures.gone;
      tally = ap (λ (t : Tally). tally_raised t (happening.Gone 0 c.args.cell c.is_marked-saved.result ∷ []) []) c.turn_out.ensures.tally ∙ ap (λ m. tally_raised old.tally (happening.Gone 0 c.args.cell m ∷ []) []) c.is_marked-saved.ensures.marked ∙ gone_tally old.tally c.args.cell mark;
    })

pub returns-clause-valid : goal.returns-clause-valid
returns-clause-valid g c =
    let mid = c.turn_out.new.self in
    subst (λ (x : Cached). IsCache x) (sym c.count.ensures)
    (cache_counted mid (tally_raised mid.tally (happening.Gone 0 c.args.cell c.is_marked-saved.result ∷ []) []) mid.unsaved c.turn_out.ensures.valid (raised_fits mid.tally (happening.Gone 0 c.args.cell c.is_marked-saved.result ∷ []) []))
