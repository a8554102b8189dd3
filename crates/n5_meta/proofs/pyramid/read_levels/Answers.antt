-- A level was read: it is kept, or there was no memory to keep it; or its attributes were refused.
use Rattle.std.proofs.Common.{refl, ap, subst, arith, ◌≡◌, ◌+◌, [], false, Ok, Err}
use Rattle.std.specs.Prelude.{IsTrue}
use Rattle.std.specs.Result.{is_err}
use Rattle.std.proofs.lemmas.Result.{err_from_is_err_and}
use Rattle.n5_meta.specs.declared.attr.Attr.{Attr}
use Rattle.n5_meta.specs.Asks.{AsksOnce, IsAskedOfSetup, attr_by}
use Rattle.n5_meta.specs.Pyramid.{attr_in, level_key}
use Rattle.n5_meta.proofs.AskLemmas.{all_got, levels_unkept, none_got, one_got, one_refused}
use Rattle.n5_meta.proofs.GetLemmas.{opens_nothing, opens_on, opens_refused}
use Rattle.n5_meta.proofs.LoopLemmas.{described_goes_on, if_pushed}
use Rattle.n5_meta.proofs.Prefixes.{prefixed_none}
use Rattle.cell_store.specs.Store.{held_of}
use Rattle.n5_meta.proofs.pyramid.read_levels.Goals as goal

pub returns-then-is_err-clause-opens : goal.returns-then-is_err-clause-opens
returns-then-is_err-clause-opens g c = opens_refused _ _ _ _ refl (opens_on _ _ _ _ _ c.loop-factor.invariant.opens c.in_ok-attr.ensures.opens)

pub returns-in_err-attr-clause-opens : goal.returns-in_err-attr-clause-opens
returns-in_err-attr-clause-opens g c =
    let p = err_from_is_err_and c.from_residual.result c.from_residual.ensures.1 in
    rw (p.1, p.2) (opens_on _ _ _ _ _ c.loop-factor.invariant.opens c.in_err-attr.ensures.opens)

pub loop-factor-init : goal.loop-factor-init
loop-factor-init g c = rw c.new-described.ensures (record { opens = opens_nothing _ _; got = none_got _ _ _; level = refl; meaning = λ told. prefixed_none _ })

pub returns-clause-asks : goal.returns-clause-asks
returns-clause-asks g c = all_got _ _ c.loop-factor.factor-index _ _ _ c.loop-factor-test.false c.loop-factor.invariant.got

pub returns-then-is_err-clause-asks : goal.returns-then-is_err-clause-asks
returns-then-is_err-clause-asks g c =
    let root = c.args.root.now in
    let before = g.S.Store.contents c.loop-factor.store in
    let after = g.S.Store.contents c.read_level.new.store in
    let asked = subst (λ level. IsAskedOfSetup (AsksOnce (level_key root level) (attr_by level)) before after (Ok c.in_ok-attr.attr)) c.loop-factor.invariant.level c.in_ok-attr.ensures.asks in
    levels_unkept _ _ _ _ _ _ (one_got _ _ c.loop-factor.factor-index [] c.loop-factor-test.true _ c.in_ok-attr.attr _ _ _ c.loop-factor.invariant.got asked)

pub returns-in_err-attr-clause-asks : goal.returns-in_err-attr-clause-asks
returns-in_err-attr-clause-asks g c =
    let p = err_from_is_err_and c.from_residual.result c.from_residual.ensures.1 in
    let root = c.args.root.now in
    let before = g.S.Store.contents c.loop-factor.store in
    let after = g.S.Store.contents c.read_level.new.store in
    let err = c.in_err-attr.field-0.0 in
    let asked = subst (λ level. IsAskedOfSetup {A = Attr} (AsksOnce (level_key root level) (attr_by level)) before after (Err err)) c.loop-factor.invariant.level c.in_err-attr.ensures.asks in
    rw (p.1, p.2) (one_refused _ _ c.loop-factor.factor-index [] c.loop-factor-test.true _ err _ _ _ c.loop-factor.invariant.got asked)

pub loop-factor-preserved : goal.loop-factor-preserved
loop-factor-preserved g c =
    let inv = c.loop-factor.invariant in
    let kept : is_err c.push.result ≡ false = grind (arith, c.if-is_err.false, c.is_err.ensures.value) in
    let before = g.S.Store.contents c.loop-factor.store in
    let after = g.S.Store.contents c.read_level.new.store in
    let asked = subst (λ level. IsAskedOfSetup (AsksOnce (level_key c.args.root.now level) (attr_by level)) (g.S.Store.contents c.loop-factor.store) after (Ok c.in_ok-attr.attr)) inv.level c.in_ok-attr.ensures.asks in
    let read = subst (λ level. IsTrue before.told → attr_in level ((held_of before) (level_key c.args.root.now level)) ≡ Ok c.in_ok-attr.attr) inv.level c.in_ok-attr.ensures.answer in
    record {
      opens = opens_on _ _ _ _ _ inv.opens c.in_ok-attr.ensures.opens;
      got = rw (if_pushed c.push.result kept c.push.ensures.ok) (one_got _ _ c.loop-factor.factor-index _ c.loop-factor-test.true c.loop-factor.described c.in_ok-attr.attr _ _ _ inv.got asked);
      level = ap (λ n. n + 1) inv.level;
      meaning = λ told. rw (if_pushed c.push.result kept c.push.ensures.ok)
          (described_goes_on _ _ before _ c.loop-factor.factor-index _ c.loop-factor.described c.in_ok-attr.attr inv.opens c.loop-factor-test.true read inv.meaning told);
    }
