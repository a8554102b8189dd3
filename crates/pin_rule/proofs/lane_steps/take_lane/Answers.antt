use Rattle.std.proofs.Common.{rules, ap, sym, refl, ◌∙◌, Option, Some, subst}
use Rattle.pin_rule.specs.Plans.{plan_of}
use Rattle.pin_rule.proofs.Resting.{rests_as, number_as}
use Rattle.std.proofs.Common.{◌∷◌}
use Rattle.atomic_table.specs.Table.{rest}
use Rattle.pin_words.specs.declared.doing.Doing.{Doing}
use Rattle.pin_words.specs.Layout.{lane_at}
use Rattle.pin_words.specs.Lanes.{TakesLane}
use Rattle.pin_rule.proofs.Resting.{taken_first, is_some, same_some}
use Rattle.pin_rule.proofs.LaneSeats.{takes_as, taken_rests, taken_number}
use Rattle.pin_rule.proofs.lane_steps.take_lane.Goals as goal

pub compare_exchange-found-requires : goal.compare_exchange-found-requires
compare_exchange-found-requires g c = let plan = plan_of g.S.Store.contents in let p = plan (Some c.args.words.now.key) in (search rules, search rules, takes_as p plan refl _ _ c.args.seat.now.me c.args.lane _ c.requires.rests.1 c.requires.bare c.requires.place.1 c.requires.place.0)

pub returns-then-found-ne0-clause-seat : goal.returns-then-found-ne0-clause-seat
returns-then-found-ne0-clause-seat g c = (search rules, search rules, number_as c.args.seat.now.me.0 c.compare_exchange-found.new.seat.me.0 _ ((c.compare_exchange-found.ensures.2 c.args.lane (c.requires.place.0 ∙ (λ i. lane_at (plan_of g.S.Store.contents (sym c.requires.rests.0 i)) c.args.lane))).1 (search rules)).1.2 refl)

pub returns-then-found-ne0-clause-rests : goal.returns-then-found-ne0-clause-rests
returns-then-found-ne0-clause-rests g c = let t = (c.compare_exchange-found.ensures.2 c.args.lane (c.requires.place.0 ∙ (λ i. lane_at (plan_of g.S.Store.contents (sym c.requires.rests.0 i)) c.args.lane))).1 (search rules) in rests_as c.args.seat.now.me c.compare_exchange-found.new.seat.me c.args.words.now.key _ c.requires.rests t.0 t.1.2 refl refl refl

pub returns-then-found-ne0-clause-taken : goal.returns-then-found-ne0-clause-taken
returns-then-found-ne0-clause-taken g c = ((c.compare_exchange-found.ensures.2 c.args.lane (c.requires.place.0 ∙ (λ i. lane_at (plan_of g.S.Store.contents (sym c.requires.rests.0 i)) c.args.lane))).1 (search rules)).1

pub exchange-requires : goal.exchange-requires
exchange-requires g c = let got = (c.compare_exchange-found.ensures.2 c.args.lane (c.requires.place.0 ∙ (λ i. lane_at (plan_of g.S.Store.contents (sym c.requires.rests.0 i)) c.args.lane))).0 (search rules) in (search rules, (_, got.1 ∙ ap (λ cs. (c.args.lane, Some got.0) ∷ rest cs) (sym got.1)))

pub unwrap-store-requires : goal.unwrap-store-requires
unwrap-store-requires g c = let got = (c.compare_exchange-found.ensures.2 c.args.lane (c.requires.place.0 ∙ (λ i. lane_at (plan_of g.S.Store.contents (sym c.requires.rests.0 i)) c.args.lane))).0 (search rules) in is_some c.exchange.result got.0 (taken_first _ _ _ c.args.lane got.0 c.exchange.result got.1 c.exchange.ensures.2)

pub returns-clause-seat : goal.returns-clause-seat
returns-clause-seat g c = let got = (c.compare_exchange-found.ensures.2 c.args.lane (c.requires.place.0 ∙ (λ i. lane_at (plan_of g.S.Store.contents (sym c.requires.rests.0 i)) c.args.lane))).0 (search rules) in (search rules, search rules, taken_number (plan_of g.S.Store.contents (Some c.args.words.now.key)) c.args.words.now.key c.args.seat.now.me c.compare_exchange-found.new.seat.me c.exchange.new.seat.me c.args.lane got.0 (subst (λ (m : Option _). TakesLane (plan_of g.S.Store.contents m) c.args.seat.now.me.0 c.args.lane got.0 c.compare_exchange-found.new.seat.me.0) c.requires.rests.0 got.2) c.exchange.ensures.3)

pub returns-clause-rests : goal.returns-clause-rests
returns-clause-rests g c = let got = (c.compare_exchange-found.ensures.2 c.args.lane (c.requires.place.0 ∙ (λ i. lane_at (plan_of g.S.Store.contents (sym c.requires.rests.0 i)) c.args.lane))).0 (search rules) in taken_rests (plan_of g.S.Store.contents (Some c.args.words.now.key)) c.args.words.now.key c.args.seat.now.me c.compare_exchange-found.new.seat.me c.exchange.new.seat.me c.args.lane got.0 c.requires.rests c.requires.bare got.1 (subst (λ (m : Option _). TakesLane (plan_of g.S.Store.contents m) c.args.seat.now.me.0 c.args.lane got.0 c.compare_exchange-found.new.seat.me.0) c.requires.rests.0 got.2) c.exchange.ensures.3

pub returns-clause-taken : goal.returns-clause-taken
returns-clause-taken g c = let got = (c.compare_exchange-found.ensures.2 c.args.lane (c.requires.place.0 ∙ (λ i. lane_at (plan_of g.S.Store.contents (sym c.requires.rests.0 i)) c.args.lane))).0 (search rules) in
    let same = same_some c.exchange.result got.0 c.unwrap-store.result (taken_first _ _ _ c.args.lane got.0 c.exchange.result got.1 c.exchange.ensures.2) c.unwrap-store.ensures in
    subst (λ (q : _ × Doing _ _). TakesLane (plan_of g.S.Store.contents (Some c.args.words.now.key)) c.args.seat.now.me.0 c.args.lane q.0 q.1) (λ i. (same i, sym (ap (λ m. m.0) c.exchange.ensures.3) i)) (subst (λ (m : Option _). TakesLane (plan_of g.S.Store.contents m) c.args.seat.now.me.0 c.args.lane got.0 c.compare_exchange-found.new.seat.me.0) c.requires.rests.0 got.2)
