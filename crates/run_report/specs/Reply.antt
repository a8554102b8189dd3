-- Answers of commands, in words.
use Rattle.std.specs.Prelude.{ℕ, List, ◌++◌, Bool, true, false, codes, if◌then◌else◌}
use Rattle.std.specs.Fmt.{decimal}
use Rattle.run_report.specs.declared.reply.Answer.{Answer}
use Rattle.run_report.specs.declared.reply.Answer.TheVariants as answer
use Rattle.run_report.specs.declared.reply.Refusal.{Refusal}
use Rattle.run_report.specs.declared.reply.Refusal.TheVariants as refusal
use Rattle.run_report.specs.declared.reply.Reply.{Reply}
use Rattle.run_report.specs.Cause.{cause_text}
use Rattle.scale_pick.specs.declared.painted.Painted.{Painted}
use Rattle.run_report.specs.Words.{◌␣◌}

abbrev pub refusal_text : Refusal → List ℕ
refusal_text refusal.Outside = codes "outside"
refusal_text (refusal.TooLarge value) = codes "too-large" ␣ decimal value
refusal_text (refusal.Acquire err) = cause_text err

-- a frame whose pixels are all of the wanted level, or how many of them aren't
abbrev pub frame_text : Painted → List ℕ
frame_text p = codes "frame" ␣ codes "level" ␣ decimal p.wanted ␣ (if p.complete then codes "complete" else (codes "partial" ␣ decimal p.not_ready))

-- how many requests were loaded, were held and were refused
abbrev pub fetched_text : ℕ → ℕ → ℕ → List ℕ
fetched_text loaded held refused = codes "fetched" ␣ decimal loaded ␣ codes "held" ␣ decimal held ␣ codes "refused" ␣ decimal refused

abbrev pub answer_text : Answer → List ℕ
answer_text (answer.Value value) = codes "value" ␣ decimal value
answer_text answer.Done = codes "done"
answer_text (answer.Frame painted) = frame_text painted
answer_text (answer.Fetched loaded held refused) = fetched_text loaded held refused
answer_text (answer.Refused refusal) = codes "refused" ␣ refusal_text refusal

abbrev pub refuses : Answer → Bool
refuses (answer.Refused refusal) = true
refuses other = false

-- the numbers of a command: its phase, its actor and its call
abbrev pub number_text : Reply → List ℕ
number_text r = decimal r.phase ++ codes "." ++ decimal r.actor ++ codes "." ++ decimal r.call

abbrev pub reply_text : Reply → List ℕ
reply_text r = number_text r ␣ answer_text r.answer
