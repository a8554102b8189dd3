-- What the words after the program's name ask for.
use Rattle.std.specs.Prelude.{ℕ, ◌^◌, ◌-◌, List, [], ◌∷◌, Option, Some, None, if◌then◌else◌, codes, map, option_and_then, option_map, string_bytes}
use Rattle.std.specs.declared.string.String.{String}
use Rattle.std.specs.declared.alloc.Global.{Global}
use Rattle.std.specs.Str.{bytes_eq}
use Rattle.plain_data.specs.RootName.{is_root_name}
use Rattle.command_words.specs.Grammar.{Uses, given_in, value_in}
use Rattle.command_words.specs.Number.{number_in}
use Rattle.command_words.specs.declared.request.Request.{Request}
use Rattle.command_words.specs.declared.request.Request.TheVariants.{Info, Solo, Run, Demo}

-- the words as bytes
abbrev pub texts : List (String Global) → List (List ℕ)
texts = map (λ word. string_bytes word)

-- the number of an option, by the values of names
abbrev pub option_in : (List ℕ → Option (List ℕ)) → List ℕ → ℕ → Option ℕ
option_in value name most = option_and_then (number_in 9 most) (value name)

abbrev pub slots_in : (List ℕ → Option (List ℕ)) → Option ℕ
slots_in value = option_in value (codes "slots") (10 ^ 9)

abbrev pub fetchers_in : (List ℕ → Option (List ℕ)) → Option ℕ
fetchers_in value = option_in value (codes "fetchers") 16

abbrev pub root_in : List ℕ → Option (List ℕ)
root_in word = if is_root_name word then Some word else None

-- `info ROOT`
abbrev pub info_in : (List ℕ → Option (List ℕ)) → Option Request
info_in value = option_map (λ root. Info root) (option_and_then root_in (value (codes "operand")))

-- `solo SCRIPT --slots N`
abbrev pub solo_in : (List ℕ → Option (List ℕ)) → Option Request
solo_in value = option_and_then (λ script. option_map (λ slots. Solo script slots) (slots_in value)) (value (codes "operand"))

-- `run SCRIPT --slots N --fetchers N`
abbrev pub run_in : (List ℕ → Option (List ℕ)) → Option Request
run_in value = option_and_then (λ script. option_and_then (λ slots. option_map (λ fetchers. Run script slots fetchers) (fetchers_in value)) (slots_in value)) (value (codes "operand"))

-- `demo N`
abbrev pub demo_in : (List ℕ → Option (List ℕ)) → Option Request
demo_in value = option_map (λ number. Demo number) (option_and_then (number_in 20 (2 ^ 64 - 1)) (value (codes "operand")))

-- what a command's words ask for that give this
abbrev pub asked : ((List ℕ → Option (List ℕ)) → Option Request) → Option Uses → Option Request
asked request = option_and_then (λ uses. request (value_in uses))

-- what the words behind a command's own ask for
abbrev pub of_command : List ℕ → List (List ℕ) → Option Request
of_command command words =
    if bytes_eq command (codes "info") then asked info_in (given_in [] words)
    else (if bytes_eq command (codes "solo") then asked solo_in (given_in (codes "slots" ∷ []) words)
    else (if bytes_eq command (codes "run") then asked run_in (given_in (codes "slots" ∷ codes "fetchers" ∷ []) words)
    else (if bytes_eq command (codes "demo") then asked demo_in (given_in [] words) else None)))

-- what the words ask for, where they ask for something
unfoldable pub request_in : List (List ℕ) → Option Request
request_in [] = None
request_in (command ∷ words) = of_command command words
