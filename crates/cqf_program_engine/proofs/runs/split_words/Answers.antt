use Rattle.std.proofs.Common.{◌∙◌, ap, lit<, map}
use Rattle.std.proofs.lemmas.Iterator.Consumers.{YieldsList-at, YieldsList-end}
use Rattle.std.proofs.lemmas.Iterator.Splits.{YieldsList-from_str_split}
use Rattle.cqf_program_engine.proofs.runs.split_words.Goals as goal

pub returns : goal.returns
returns c =
    let pieces = c.split-word-items.ensures in
    let all = YieldsList-end (YieldsList-at c.into_iter-word-iterator.ensures.into_iter_gives
    (YieldsList-from_str_split 32 c.args.line.now (lit< tt) pieces.text pieces.has_more pieces.pattern))
    c.loop-word.yielded _ c.loop-word.yielded_by _ _ c.in-None.is c.next.ensures.steps in
    ap (map (λ word. word.now)) c.loop-word.invariant ∙ all.0
