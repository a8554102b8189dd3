-- The first store changed as opening does.
use Rattle.std.proofs.Common.{◌≡◌, ◌∙◌, [], ◌∷◌, sym, ap, arith}
use Rattle.store_calls.specs.Calls.{AreCalled}
use Rattle.viewrun_calls.specs.Volume.{OpensPyramid}
use Rattle.viewrun_calls.specs.Work.{told_of}
use Rattle.viewrun_calls.proofs.StoresLemmas.{first_changes}
use Rattle.viewrun_calls.proofs.work.inform.Goals.{in-Ok, in-Err}
use Rattle.viewrun_calls.proofs.work.inform.Goals as goal

pub returns : goal.returns
returns g c =
    let done = c.open_pyramid.ensures in
    let told : c.match-open_pyramid.work ≡ told_of c.open_pyramid.result = elim c.match-open_pyramid.branch [ in-Ok w ↦ w.work-is ∙ ap told_of (sym w.in-Ok.is) | in-Err w ↦ w.work-is ∙ ap told_of (sym w.in-Err.is) ] in (
      done.asks.calls,
      record {
        opened = c.open_pyramid.result;
        opens = first_changes (λ before after. OpensPyramid c.args.root.now before after c.open_pyramid.result) g.S.Store.contents c.args.stores.items _ _ (omega (arith, c.requires)) c.index_mut.ensures.value (record { opens = done.opens; answer = done.answer });
        asks = done.asks.asked;
        asked = first_changes (λ before after. AreCalled done.asks.calls (before ∷ []) (after ∷ [])) g.S.Store.contents c.args.stores.items _ _ (omega (arith, c.requires)) c.index_mut.ensures.value done.asks.called;
        told = told;
      },
    )
