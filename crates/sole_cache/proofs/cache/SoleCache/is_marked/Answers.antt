use Rattle.std.proofs.Common.{◌≡◌, ◌<◌, Some, length, sym, subst, arith}
use Rattle.std.proofs.lemmas.Grind.{common_steps}
use Rattle.sole_cache.specs.Cached.{Cached, slot_of}
use Rattle.sole_cache.specs.Cached.{Cached}
use Rattle.sole_cache.proofs.Inside.{value_of}
use Rattle.sole_cache.proofs.cache.SoleCache.is_marked.Goals as goal

pub is_marked-requires : goal.is_marked-requires
is_marked-requires g c =
    let cached = value_of g.S.Store.contents c.self.inside in
    let is : cached ≡ c.args.self.now = c.self.view_is in
    let kept = c.self.invariant in
    let live : slot_of cached c.args.cell ≡ Some c.args.slot = subst (λ (x : Cached). slot_of x c.args.cell ≡ Some c.args.slot) (sym is) c.requires in
    let owned = kept.cache.seated.in_slot c.args.cell c.args.slot live in
    let inside_slots : c.args.slot < length c.self.inside.slots.items = owned.0 in
    grind (arith, common_steps)
