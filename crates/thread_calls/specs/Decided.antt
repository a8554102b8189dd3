-- The number of a demonstration decides its line.
use Rattle.std.specs.Prelude.{◌≡◌, ℕ, IsTrue, All, List, ◌++◌, Some, codes, sum, sum_by}
use Rattle.cell_store.specs.Store.{Contents}
use Rattle.cell_store.specs.Stream.{Stream}
use Rattle.command_words.specs.Request.{request_in}
use Rattle.command_words.specs.declared.request.Request.TheVariants.{Demo}
use Rattle.demo_arrays.specs.Held.{HoldNone}
use Rattle.demo_frames.specs.Pictures.{pictures}
use Rattle.demo_script.specs.Line.{line_text}
use Rattle.run_report.specs.Words.{line}

-- the sum of all bytes of the four pictures that a number decides
abbrev pub sum_of : ℕ → ℕ
sum_of number = sum_by sum (pictures number)

-- stores that tell what they hold, none of which holds an edited cell
pub record AreUnedited (stores : List Contents) : Type 0 where
  pub told : All (λ (s : Contents). IsTrue s.told) stores
  pub unedited : HoldNone (codes "cells/") stores

-- Over such stores a demonstration whose status is 0 wrote the line of its number.
abbrev pub NumberDecides : List (List ℕ) → List Contents → Stream → Stream → ℕ → Type 0
NumberDecides words old before after status = (number : ℕ) → request_in words ≡ Some (Demo number) → AreUnedited old → IsTrue before.told → status ≡ 0
    → after.bytes ≡ before.bytes ++ line (line_text number (sum_of number))
