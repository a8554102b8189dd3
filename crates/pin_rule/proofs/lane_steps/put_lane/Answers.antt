use Rattle.std.proofs.Common.{rules, ap, sym, refl, ◌∙◌, Option, Some, subst}
use Rattle.pin_rule.specs.Plans.{plan_of}
use Rattle.pin_words.specs.declared.doing.Doing.{Doing}
use Rattle.pin_words.specs.Account.{Returns}
use Rattle.pin_words.specs.Layout.{lane_at}
use Rattle.pin_words.specs.Lanes.{GivesLane}
use Rattle.pin_rule.proofs.LaneSeats.{gives_as, put_carries, given_number, given_rests}
use Rattle.pin_rule.proofs.lane_steps.put_lane.Goals as goal

pub store-requires : goal.store-requires
store-requires g c = let plan = plan_of g.S.Store.contents in let p = plan (Some c.args.words.now.key) in let k = c.requires.rule in let now = c.exchange.ensures.3 in let carries = put_carries (plan_of g.S.Store.contents (Some c.args.words.now.key)) c.args.words.now.key c.args.seat.now.me c.exchange.new.seat.me k.0 c.args.lane c.args.store k.1 k.2 c.requires.rests.2 now in
    (search rules, search rules, gives_as p plan refl _ _ c.exchange.new.seat.me k.0 c.args.store c.args.word (ap (λ m. m.0.stage) now ∙ c.requires.rests.1) (ap (λ m. m.0.lane) now ∙ k.1) carries (subst (λ (v : Doing _ _). Returns p k.0 v.seen c.args.store) (sym (ap (λ m. m.0) now)) k.3) (c.requires.place ∙ ap (lane_at p) k.2))

pub returns-clause-seat : goal.returns-clause-seat
returns-clause-seat g c = let k = c.requires.rule in let now = c.exchange.ensures.3 in let carries = put_carries (plan_of g.S.Store.contents (Some c.args.words.now.key)) c.args.words.now.key c.args.seat.now.me c.exchange.new.seat.me k.0 c.args.lane c.args.store k.1 k.2 c.requires.rests.2 now in (search rules, search rules, given_number (plan_of g.S.Store.contents (Some c.args.words.now.key)) c.args.words.now.key c.args.seat.now.me.0 c.store.new.seat.me.0 k.0 c.args.store (subst (λ (q : Option _ × Doing _ _). GivesLane (plan_of g.S.Store.contents q.0) q.1 k.0 c.args.store c.store.new.seat.me.0) (λ i. ((ap (λ m. m.0.made) now ∙ c.requires.rests.0) i, ap (λ m. m.0) now i)) (c.store.ensures.2.1 k.0 c.args.store (ap (λ m. m.0.lane) now ∙ k.1) carries)))

pub returns-clause-rests : goal.returns-clause-rests
returns-clause-rests g c = let k = c.requires.rule in let now = c.exchange.ensures.3 in let carries = put_carries (plan_of g.S.Store.contents (Some c.args.words.now.key)) c.args.words.now.key c.args.seat.now.me c.exchange.new.seat.me k.0 c.args.lane c.args.store k.1 k.2 c.requires.rests.2 now in given_rests (plan_of g.S.Store.contents (Some c.args.words.now.key)) c.args.words.now.key c.args.seat.now.me c.store.new.seat.me k.0 c.args.store c.requires.rests c.store.ensures.2.0 (subst (λ (q : Option _ × Doing _ _). GivesLane (plan_of g.S.Store.contents q.0) q.1 k.0 c.args.store c.store.new.seat.me.0) (λ i. ((ap (λ m. m.0.made) now ∙ c.requires.rests.0) i, ap (λ m. m.0) now i)) (c.store.ensures.2.1 k.0 c.args.store (ap (λ m. m.0.lane) now ∙ k.1) carries))

pub returns-clause-given : goal.returns-clause-given
returns-clause-given g c = let k = c.requires.rule in let now = c.exchange.ensures.3 in let carries = put_carries (plan_of g.S.Store.contents (Some c.args.words.now.key)) c.args.words.now.key c.args.seat.now.me c.exchange.new.seat.me k.0 c.args.lane c.args.store k.1 k.2 c.requires.rests.2 now in (k.0, k.1, k.2, subst (λ (q : Option _ × Doing _ _). GivesLane (plan_of g.S.Store.contents q.0) q.1 k.0 c.args.store c.store.new.seat.me.0) (λ i. ((ap (λ m. m.0.made) now ∙ c.requires.rests.0) i, ap (λ m. m.0) now i)) (c.store.ensures.2.1 k.0 c.args.store (ap (λ m. m.0.lane) now ∙ k.1) carries))
