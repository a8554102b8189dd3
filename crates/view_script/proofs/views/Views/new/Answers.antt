-- No views have no pixels and no names.
use Rattle.std.proofs.Common.{map, ap, refl}
use Rattle.arrayvec.specs.ArrayString.{ArrayString}
use Rattle.view_script.proofs.ViewsLemmas.{kept_none}
use Rattle.view_script.proofs.views.Views.new.Goals as goal

pub returns : goal.returns
returns c = kept_none _ refl (ap (map (λ (name : ArrayString). name.bytes)) c.new.ensures.empty)
