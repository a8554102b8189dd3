use Rattle.std.proofs.Common.{rules, ap, sym, ◌∙◌, subst, ℕ}
use Rattle.turn_cell.proofs.Giving.{gives_turn}
use Rattle.turn_cell.proofs.seat_steps.give.Goals as goal

pub fetch_sub-requires : goal.fetch_sub-requires
fetch_sub-requires g c = let now = c.exchange.ensures.3 in let d = c.args.seat.now.me.0 in (
  search rules,
  search rules,
  gives_turn g.T.Seq.steps _ _ _ _ _ c.exchange.new.seat.me c.args.was.value c.args.value c.args.call.value c.args.reply.now (ap (λ m. m.0.stage) now ∙ c.requires.holds.0) (search rules) c.requires.said.0 c.requires.said.1
      (subst (λ (k : ℕ). g.T.Seq.steps c.args.was.value k c.args.call.value c.args.reply.now c.args.value) (ap (λ m. m.0.number) (sym now)) c.requires.step),
)
