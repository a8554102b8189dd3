-- What clap takes of the words is what the grammar says of them.
use Rattle.std.proofs.Common.{◌≡◌, ◌∙◌, ◌<◌, List, Option, Some, None, length, arith, ap, sym}
use Rattle.std.specs.Prelude.{option_and_then, option_map}
use Rattle.clap.specs.Words.{App, Row, first_of, found_of, rows_of}
use Rattle.command_words.specs.Command.{bare, taken}
use Rattle.command_words.specs.Request.{demo_in, texts}
use Rattle.command_words.proofs.RequestLemmas.{are_texts, demo_whole, length_texts}
use Rattle.command_words.proofs.request.demo_of.Goals as goal

pub returns-in-Some : goal.returns-in-Some
returns-in-Some c =
    let taken_so = c.in_ok-matches.ensures ∙ ap (λ (a : App). taken a (texts c.args.words.now)) c.in_ok-bare_command.ensures in
    let rows : ◌≡◌ {A = Option (List Row)} (Some (rows_of (found_of c.in-Some.matches))) (taken bare (texts c.args.words.now)) = ap (option_map (λ m. rows_of (found_of m))) (sym c.in-Some.is) ∙ taken_so in
    let some : 0 < length (texts c.args.words.now) = omega (arith, length_texts c.args.words.now, c.requires) in
    c.demo_in.ensures ∙ (ap (option_and_then (λ (r : List Row). demo_in (λ name. first_of name r))) rows ∙ demo_whole (texts c.args.words.now) (are_texts c.args.words.now) some)

pub returns-in-None : goal.returns-in-None
returns-in-None c =
    let taken_so = c.in_ok-matches.ensures ∙ ap (λ (a : App). taken a (texts c.args.words.now)) c.in_ok-bare_command.ensures in
    let rows : ◌≡◌ {A = Option (List Row)} None (taken bare (texts c.args.words.now)) = ap (option_map (λ m. rows_of (found_of m))) (sym c.in-None.is) ∙ taken_so in
    let some : 0 < length (texts c.args.words.now) = omega (arith, length_texts c.args.words.now, c.requires) in
    ap (option_and_then (λ (r : List Row). demo_in (λ name. first_of name r))) rows ∙ demo_whole (texts c.args.words.now) (are_texts c.args.words.now) some
