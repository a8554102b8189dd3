-- What clap's getter gives is the first value of the rows.
use Rattle.std.proofs.Common.{◌∙◌, arith}
use Rattle.std.proofs.lemmas.Grind.{common_steps}
use Rattle.clap.specs.Words.{found_of}
use Rattle.clap.proofs.WalkLemmas.{first_value-rows}
use Rattle.command_words.proofs.request.value_in.Goals as goal

pub returns-in-Some : goal.returns-in-Some
returns-in-Some c =
    let given = c.get_str.ensures ∙ first_value-rows (found_of c.args.matches.now) c.args.name.now in
    grind (arith, common_steps, given)

pub returns-in-None : goal.returns-in-None
returns-in-None c =
    let given = c.get_str.ensures ∙ first_value-rows (found_of c.args.matches.now) c.args.name.now in
    grind (arith, common_steps, given)
