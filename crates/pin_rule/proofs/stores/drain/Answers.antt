use Rattle.std.proofs.Common.{arith, sym, ◌∙◌}
use Rattle.std.proofs.lemmas.Grind.{common_steps}
use lib.ListN.{get_elem?}
use Rattle.pin_rule.proofs.Draining.{all_some_at, drained}
use Rattle.pin_rule.proofs.stores.drain.Goals as goal

pub unwrap-requires : goal.unwrap-requires
unwrap-requires g c = let inv = c.loop-i.invariant in all_some_at _ c.loop-i.i c.take.result c.requires.closed.1 ((λ k. get_elem? (sym inv.0 k) c.loop-i.i) ∙ c.take.ensures.value)

pub loop-i-preserved : goal.loop-i-preserved
loop-i-preserved g c = let inv = c.loop-i.invariant in (
  c.take.ensures.others.0 ∙ inv.0,
  c.take.ensures.others.2 ∙ inv.1,
  drained _ c.loop-i.list.items _ c.loop-i.i c.take.result c.unwrap.result inv.2 ((λ k. get_elem? (sym inv.0 k) c.loop-i.i) ∙ c.take.ensures.value) c.unwrap.ensures c.push_reserved.ensures.items,
  grind (arith, common_steps),
  grind (arith, common_steps),
  λ k h. let low = inv.5 in let high = inv.6 in grind (arith, common_steps),
  λ k h l. let high = inv.6 in grind (arith, common_steps),
)
