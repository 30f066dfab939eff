-- A call that names a stream, as a history has it.
use Rattle.std.specs.Prelude.{ℕ, ◌++◌, List, codes}
use Rattle.cqf_model.specs.declared.history.Reply.{Reply}
use Rattle.cqf_report.specs.HistoryText.{reply_text}
use Rattle.std.specs.Prelude.{decimal}

-- the call's seat, a word, the stream's name as it is, and the answer
abbrev pub named_text : ℕ → List ℕ → List ℕ → Reply → List ℕ
named_text seat word name reply = decimal seat ++ (word ++ (name ++ (codes " " ++ reply_text reply)))
