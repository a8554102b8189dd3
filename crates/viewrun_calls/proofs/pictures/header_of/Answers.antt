-- The text of the format is the lines of the header.
use Rattle.std.proofs.Common.{◌≡◌, ℕ, List, IfOk, decimal, string_bytes, subst}
use Rattle.viewrun_calls.proofs.PictureLemmas.{header_lines}
use Rattle.viewrun_calls.proofs.pictures.header_of.Goals as goal

pub returns : goal.returns
returns c = rw (← c.width-width.ensures.width, ← c.height-height.ensures.height)
    (subst (λ (bytes : List ℕ). IfOk c.format.result (λ text. string_bytes text ≡ bytes)) (header_lines (decimal c.width-width.result) (decimal c.height-height.result)) c.format.ensures.ok)
