-- The bytes of a text are the text.
use Rattle.std.proofs.Common.{List, ℕ, map, subst}
use Rattle.demo_volume.specs.Puts.{Tries}
use Rattle.demo_volume.proofs.make.put_text.Goals as goal

pub returns-clause-tried : goal.returns-clause-tried
returns-clause-tried g c = subst (λ (bytes : List ℕ). Tries (record { lane = 0; key = c.args.key.now; bytes = bytes }) (map g.S.Store.contents c.args.stores.now.items) (map g.S.Store.contents c.put.new.stores.items) c.put.result) c.as_bytes.ensures.value c.put.ensures.tried
