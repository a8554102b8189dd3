-- The first word decides.
use Rattle.std.proofs.Common.{◌≡◌, ◌∙◌, Some, List, ℕ, string_bytes, ap, sym, subst, String, Global}
use Rattle.std.specs.Prelude.{IfOk, option_map}
use Rattle.std.specs.Option.{option_copied}
use Rattle.std.proofs.lemmas.Option.{slice_get-map}
use Rattle.command_words.specs.Request.{texts}
use Rattle.command_words.proofs.RequestLemmas.{request_first, request_none}
use Rattle.command_words.proofs.request.request_of.Goals as goal

pub returns-in-Some : goal.returns-in-Some
returns-in-Some c =
    let first = slice_get-map (λ (word : String Global). string_bytes word) c.args.words.now 0
    ∙ (ap (option_map (λ (word : String Global). string_bytes word)) (sym c.first.ensures.value ∙ ap option_copied c.in-Some.is) ∙ ap (λ (bytes : List ℕ). Some bytes) (sym c.as_str.ensures.value)) in
    subst (λ x. IfOk c.request_for.result (λ request. request ≡ x)) (request_first (texts c.args.words.now) c.as_str.result.now first) c.request_for.ensures

pub returns-in-None : goal.returns-in-None
returns-in-None c =
    let first = slice_get-map (λ (word : String Global). string_bytes word) c.args.words.now 0
    ∙ ap (option_map (λ (word : String Global). string_bytes word)) (sym c.first.ensures.value ∙ ap option_copied c.in-None.is) in
    request_none (texts c.args.words.now) first
