-- Refusals of an admission as text: the refusal's name, followed by its values, each after a space.
use Rattle.std.specs.Prelude.{ℕ, ◌++◌, List, codes, decimal}
use Rattle.cqf_model.specs.declared.history.Refused.{Refused}
use Rattle.cqf_model.specs.declared.history.Refused.TheVariants.{BadName, BadOctets, BadPace, UnknownNode, BrokenPath, LoopingPath, NotATree, TooManyHops}
use Rattle.cqf_model.specs.declared.history.Refused.TheVariants.{NameHeld, TooManyStreams, BudgetShort, NotHeld, AlreadyWithdrawn, HistoryFull, Memory}

-- the text of a refusal
abbrev pub text_of_refusal : Refused → List ℕ
text_of_refusal BadName = codes "BadName"
text_of_refusal BadOctets = codes "BadOctets"
text_of_refusal BadPace = codes "BadPace"
text_of_refusal (UnknownNode index) = codes "UnknownNode " ++ decimal index
text_of_refusal (BrokenPath index) = codes "BrokenPath " ++ decimal index
text_of_refusal (LoopingPath index) = codes "LoopingPath " ++ decimal index
text_of_refusal (NotATree branch) = codes "NotATree " ++ decimal branch
text_of_refusal TooManyHops = codes "TooManyHops"
text_of_refusal NameHeld = codes "NameHeld"
text_of_refusal TooManyStreams = codes "TooManyStreams"
text_of_refusal (BudgetShort link left) = codes "BudgetShort " ++ (decimal link ++ (codes " " ++ decimal left))
text_of_refusal NotHeld = codes "NotHeld"
text_of_refusal AlreadyWithdrawn = codes "AlreadyWithdrawn"
text_of_refusal HistoryFull = codes "HistoryFull"
text_of_refusal Memory = codes "Memory"
