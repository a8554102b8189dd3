-- The report of a run, as text and as a status.
use Rattle.std.specs.Prelude.{ℕ, ◌||◌, List, ◌++◌, Bool, true, false, not, codes, if◌then◌else◌}
use Rattle.std.specs.List.{flat_map, list_any}
use Rattle.arr_history.specs.declared.closed.Unsaved.{Unsaved}
use Rattle.run_report.specs.declared.reply.Reply.{Reply}
use Rattle.run_report.specs.declared.report.Report.{Report}
use Rattle.run_report.specs.declared.report.Unwritten.{Unwritten}
use Rattle.run_report.specs.Counts.{put_text, tally_text, unsaved_text}
use Rattle.run_report.specs.Reply.{refuses, reply_text}
use Rattle.run_report.specs.Words.{◌␣◌, line}

abbrev pub unwritten_text : Unwritten → List ℕ
unwritten_text u = codes "unwritten" ␣ u.name.bytes ␣ put_text u.memory

abbrev pub replies_text : List Reply → List ℕ
replies_text = flat_map (λ reply. line (reply_text reply))

abbrev pub unsaved_lines : List Unsaved → List ℕ
unsaved_lines = flat_map (λ cell. line (unsaved_text cell))

abbrev pub unwritten_lines : List Unwritten → List ℕ
unwritten_lines = flat_map (λ picture. line (unwritten_text picture))

-- a line for each reply, one for the tally, one for each unsaved cell and one for each unwritten picture
abbrev pub report_text : Report → List Unwritten → List ℕ
report_text r unwritten = replies_text r.replies ++ line (tally_text r.tally) ++ unsaved_lines r.unsaved ++ unwritten_lines unwritten

-- whether two tests give the same
abbrev pub agrees : Bool → Bool → Bool
agrees true other = other
agrees false other = not other

-- whether a cell was not saved, or a picture not written, for want of memory or for a fault
abbrev pub has_unsaved : Bool → List Unsaved → Bool
has_unsaved memory = list_any (λ cell. agrees cell.memory memory)

abbrev pub has_unwritten : Bool → List Unwritten → Bool
has_unwritten memory = list_any (λ picture. agrees picture.memory memory)

abbrev pub has_put : Bool → Report → List Unwritten → Bool
has_put memory r unwritten = has_unsaved memory r.unsaved || has_unwritten memory unwritten

abbrev pub has_refusal : Report → Bool
has_refusal r = list_any (λ reply. refuses reply.answer) r.replies

-- the status of a run whose text was printed whole
abbrev pub status_of_report : Report → List Unwritten → ℕ
status_of_report r unwritten =
    if has_put true r unwritten then 7 else
    if has_put false r unwritten then 5 else
    if has_refusal r then 1 else 0
