-- The first words of lines.
use Rattle.std.specs.Prelude.{ℕ, List, Option, Some, None, if◌then◌else◌, codes}
use Rattle.std.specs.Str.{bytes_eq}
use Rattle.view_script.specs.declared.line.Keyword.{Keyword}
use Rattle.view_script.specs.declared.line.Keyword.TheVariants as keyword

abbrev pub keyword_in : List ℕ → Option Keyword
keyword_in word =
    if bytes_eq word (codes "raw") then Some keyword.Raw else
    if bytes_eq word (codes "open") then Some keyword.Open else
    if bytes_eq word (codes "range") then Some keyword.Range else
    if bytes_eq word (codes "phase") then Some keyword.Phase else
    if bytes_eq word (codes "actor") then Some keyword.Actor else
    if bytes_eq word (codes "get") then Some keyword.Get else
    if bytes_eq word (codes "set") then Some keyword.Set else
    if bytes_eq word (codes "view") then Some keyword.View else
    if bytes_eq word (codes "fetch") then Some keyword.Fetch else None
