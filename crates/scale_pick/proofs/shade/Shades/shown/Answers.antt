use Rattle.std.proofs.Common.{◌∙◌, ◌-◌, min, ap, arith}
use Rattle.scale_pick.proofs.ShadeLemmas.{shows_scaled}
use Rattle.scale_pick.proofs.shade.Shades.shown.Goals as goal

pub overflow_mul-result : goal.overflow_mul-result
overflow_mul-result c =
    let s = c.args.self in
    let cut = c.min-much.ensures ∙ ap (λ n. min n (s.high - s.low)) c.saturating_sub.ensures in
    omega (arith, (shows_scaled c.args.v s.low s.high s.scale c.min-much.result s.range s.scaled c.if-self-eq0.false cut).fits)

pub overflow_cast-result : goal.overflow_cast-result
overflow_cast-result c =
    let s = c.args.self in
    let cut = c.min-much.ensures ∙ ap (λ n. min n (s.high - s.low)) c.saturating_sub.ensures in
    omega (arith, (shows_scaled c.args.v s.low s.high s.scale c.min-much.result s.range s.scaled c.if-self-eq0.false cut).byte)

pub returns : goal.returns
returns c =
    let s = c.args.self in
    let cut = c.min-much.ensures ∙ ap (λ n. min n (s.high - s.low)) c.saturating_sub.ensures in
    (shows_scaled c.args.v s.low s.high s.scale c.min-much.result s.range s.scaled c.if-self-eq0.false cut).same
