-- Which replies and which servings of fetches tell a fault of a store.
use Rattle.std.specs.Prelude.{ℕ, Bool, true, false, List}
use Rattle.std.specs.List.{count_by}
use Rattle.cell_file.specs.declared.errors.AcquireErr.{AcquireErr}
use Rattle.cell_file.specs.declared.errors.AcquireErr.TheVariants as cause
use Rattle.fetchers.specs.declared.served.Served.{Served}
use Rattle.fetchers.specs.declared.served.Served.TheVariants as served
use Rattle.run_report.specs.declared.reply.Answer.{Answer}
use Rattle.run_report.specs.declared.reply.Answer.TheVariants as answer
use Rattle.run_report.specs.declared.reply.Refusal.TheVariants.{Acquire}
use Rattle.run_report.specs.declared.reply.Reply.{Reply}

abbrev pub is_fault_of : AcquireErr → Bool
is_fault_of cause.ReadFault = true
is_fault_of cause.WriteFault = true
is_fault_of other = false

abbrev pub is_fault : Answer → Bool
is_fault (answer.Refused (Acquire err)) = is_fault_of err
is_fault other = false

abbrev pub fault_replies : List Reply → ℕ
fault_replies replies = count_by (λ r. is_fault r.answer) replies

abbrev pub is_fault_served : Served → Bool
is_fault_served (served.Refused err) = is_fault_of err
is_fault_served other = false

abbrev pub fault_servings : List Served → ℕ
fault_servings servings = count_by is_fault_served servings
