-- The script that the words name.
use Rattle.std.specs.Prelude.{ℕ, List, Option, Some, None}
use Rattle.command_words.specs.declared.request.Request.{Request}
use Rattle.command_words.specs.declared.request.Request.TheVariants.{Info, Solo, Run, Demo}

-- the script that is named, where the run of one is asked for
abbrev pub script_named : Option Request → Option (List ℕ)
script_named None = None
script_named (Some (Info root)) = None
script_named (Some (Solo script slots)) = Some script
script_named (Some (Run script slots fetchers)) = Some script
script_named (Some (Demo number)) = None
