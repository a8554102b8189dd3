-- Why a call ends without a report, as a status and as a line.
use Rattle.std.specs.Prelude.{ℕ, List, codes}
use Rattle.std.specs.Fmt.{decimal}
use Rattle.view_script.specs.declared.script_error.ScriptErr.{ScriptErr}
use Rattle.view_script.specs.declared.script_error.ScriptErr.TheVariants as script
use Rattle.view_script.specs.declared.script_error.ScriptKind.{ScriptKind}
use Rattle.view_script.specs.declared.script_error.ScriptKind.TheVariants.{NotText, UnknownWord, BadNumber, MissingWord, ExtraWord, Limit, Order}
use Rattle.run_report.specs.declared.stop.Stop.{Stop}
use Rattle.run_report.specs.declared.stop.Stop.TheVariants as stop
use Rattle.run_report.specs.Dataset.{open_text, status_of_open}
use Rattle.run_report.specs.Words.{◌␣◌}

abbrev pub status_of_stop : Stop → ℕ
status_of_stop stop.Usage = 2
status_of_stop (stop.Script line kind) = 3
status_of_stop (stop.Dataset err) = status_of_open err
status_of_stop stop.WriteFault = 5
status_of_stop stop.Memory = 7
status_of_stop stop.ReadFault = 8
status_of_stop (stop.Slots found low high) = 9

abbrev pub script_kind_text : ScriptKind → List ℕ
script_kind_text NotText = codes "not-text"
script_kind_text UnknownWord = codes "unknown-word"
script_kind_text BadNumber = codes "bad-number"
script_kind_text MissingWord = codes "missing-word"
script_kind_text ExtraWord = codes "extra-word"
script_kind_text Limit = codes "limit"
script_kind_text Order = codes "order"

abbrev pub stop_text : Stop → List ℕ
stop_text stop.Usage = codes "usage: viewrun info ROOT | solo SCRIPT --slots N | run SCRIPT --slots N --fetchers N | demo N"
stop_text (stop.Script line kind) = codes "script line" ␣ decimal line ␣ script_kind_text kind
stop_text (stop.Dataset err) = open_text err
stop_text stop.WriteFault = codes "store" ␣ codes "write-fault"
stop_text stop.Memory = codes "memory"
stop_text stop.ReadFault = codes "script" ␣ codes "read-fault"
stop_text (stop.Slots found low high) = codes "slots" ␣ decimal found ␣ codes "outside" ␣ decimal low ␣ codes "to" ␣ decimal high

abbrev pub stop_of_script : ScriptErr → Stop
stop_of_script (script.At line kind) = stop.Script line kind
stop_of_script script.Memory = stop.Memory
