use Rattle.std.proofs.Common.{◌∙◌, ap, sym, subst, List}
use Rattle.cell_grid.specs.declared.level.Level.{Level}
use Rattle.cell_file.specs.Keys.{KeyNames, AreKeys}
use Rattle.pin_rule.specs.Parts.{OwnLane}
use Rattle.pin_rule.specs.Calls.{made_of}
use Rattle.live_cells.proofs.Putting.{Told, put_ok, put_err}
use Rattle.live_cells.proofs.leaves.put.Goals as goal

pub save-requires-clause-made : goal.save-requires-clause-made
save-requires-clause-made g c = c.keys-keys.ensures.levels ∙ sym c.geometry.ensures

pub returns-clause-saved : goal.returns-clause-saved
returns-clause-saved g c = let e = c.save.ensures in put_ok g.S.Store.contents c.args.pins.now c.args.cell c.requires.cell (sym (ap (λ k. k.levels) c.keys-keys.ensures.same) ∙ c.keys-keys.ensures.levels) (c.cells_have_keys_of_their_own.ensures (made_of c.args.pins.now).keys.value (subst AreKeys c.keys-keys.ensures.same c.plain-plain.ensures.keys)) c.save.result c.args.lane.now.store c.save.new.store c.args.values.now c.saves_move.ensures.done
    (subst (λ (q : List Level × KeyNames × OwnLane _). Told q.0 q.1 c.args.cell c.save.result (g.S.Store.contents q.2.store) (g.S.Store.contents c.save.new.store) c.args.values.now) (λ i. (c.geometry.ensures i, c.keys-keys.ensures.same i, c.lane.view_is i))
    (record { told = e.told; told_log = e.told_log; never_falls = e.never_falls; elsewhere = e.elsewhere; others = e.others; stood = e.saved; logged = e.logged; logged_refused = e.logged_refused }))

pub returns-clause-not_saved : goal.returns-clause-not_saved
returns-clause-not_saved g c = let e = c.save.ensures in put_err g.S.Store.contents c.args.pins.now c.args.cell c.requires.cell (sym (ap (λ k. k.levels) c.keys-keys.ensures.same) ∙ c.keys-keys.ensures.levels) (c.cells_have_keys_of_their_own.ensures (made_of c.args.pins.now).keys.value (subst AreKeys c.keys-keys.ensures.same c.plain-plain.ensures.keys)) c.save.result c.args.lane.now.store c.save.new.store c.args.values.now c.saves_move.ensures.refused
    (subst (λ (q : List Level × KeyNames × OwnLane _). Told q.0 q.1 c.args.cell c.save.result (g.S.Store.contents q.2.store) (g.S.Store.contents c.save.new.store) c.args.values.now) (λ i. (c.geometry.ensures i, c.keys-keys.ensures.same i, c.lane.view_is i))
    (record { told = e.told; told_log = e.told_log; never_falls = e.never_falls; elsewhere = e.elsewhere; others = e.others; stood = e.saved; logged = e.logged; logged_refused = e.logged_refused }))

pub returns-clause-stood : goal.returns-clause-stood
returns-clause-stood g c = let e = c.save.ensures in
    (subst (λ (q : List Level × KeyNames × OwnLane _). Told q.0 q.1 c.args.cell c.save.result (g.S.Store.contents q.2.store) (g.S.Store.contents c.save.new.store) c.args.values.now) (λ i. (c.geometry.ensures i, c.keys-keys.ensures.same i, c.lane.view_is i))
    (record { told = e.told; told_log = e.told_log; never_falls = e.never_falls; elsewhere = e.elsewhere; others = e.others; stood = e.saved; logged = e.logged; logged_refused = e.logged_refused })).stood
