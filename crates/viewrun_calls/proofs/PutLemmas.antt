-- The puts of pictures, as calls of a store.
use Rattle.std.proofs.Common.{Bool, true, false, List, [], ◌∷◌, ◌++◌, refl, ap}
use Rattle.cell_store.specs.Store.{Contents}
use Rattle.run_report.specs.declared.report.Unwritten.{Unwritten}
use Rattle.run_report.specs.declared.shot.Shot.{Shot}
use Rattle.store_calls.specs.Calls.{StoreCall, Putting, AreCalled}
use Rattle.store_calls.proofs.Composed.{called_on}
use Rattle.viewrun_calls.specs.Pictures.{IsPutWhere, PutsShots, PutsWhere, PutsWith, file_of, picture_key}

shot_calls : (shown : Bool) (s : Shot) (a b : Contents) (u : List Unwritten) → PutsWhere shown s a b u → (calls : List StoreCall) × IsPutWhere shown s calls u × AreCalled calls (a ∷ []) (b ∷ [])
shot_calls true s a b u (answer, puts, tells) = (Putting 0 (picture_key s.name) (file_of s.picture) answer ∷ [], (answer, refl, tells), (b ∷ [], (a, b, refl, puts, refl), refl))
shot_calls false s a b u (same, none) = ([], (refl, none), ap (λ c. c ∷ []) same)

pub puts_with : (shots : List Shot) (a b : Contents) (u : List Unwritten) → PutsShots shots a b u → (calls : List StoreCall) × PutsWith shots calls a b u
puts_with [] a b u (same, none) = ([], record { are = (refl, none); called = ap (λ c. c ∷ []) same })
puts_with (x ∷ shots) a b u (mid, first, rest, told, here, others) =
    let one = shot_calls x.shown x a mid first here in
    let more = puts_with shots mid b rest others in (
      one.0 ++ more.0,
      record {
        are = (one.0, more.0, first, rest, refl, told, one.1, more.1.are);
        called = called_on (a ∷ []) (mid ∷ []) (b ∷ []) one.0 more.0 one.2 more.1.called;
      },
    )
