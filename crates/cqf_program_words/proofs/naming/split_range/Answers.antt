use Rattle.std.proofs.Common.{arith}
use Rattle.std.proofs.lemmas.Str.Pattern.{strip_prefix_char}
use Rattle.cqf_program_words.proofs.Ranges.{at_none, at_some, dot_cut, second_dot, slash_cut}
use Rattle.cqf_program_words.proofs.naming.split_range.Goals as goal

pub returns-in_err-from-clause-whole : goal.returns-in_err-from-clause-whole
returns-in_err-from-clause-whole c = λ from to step is digits _.
    let cut = dot_cut c.args.word.now from to step c.split_once.result c.split_once.ensures.cases is digits in
    absurd (at_none c.split_once.result _ _ c.in_err-from.was cut)

pub returns-in_err-others-clause-whole : goal.returns-in_err-others-clause-whole
returns-in_err-others-clause-whole c = λ from to step is digits _.
    let cut = dot_cut c.args.word.now from to step c.split_once.result c.split_once.ensures.cases is digits in
    let parts = at_some c.split_once.result _ _ _ c.in_ok-from.was cut in
    let strip = strip_prefix_char 46 c.in_ok-from.following.now c.strip_prefix.result c.strip_prefix.ensures.cases (omega arith) in
    absurd (at_none c.strip_prefix.result _ _ c.in_err-others.was (second_dot c.in_ok-from.following.now _ c.strip_prefix.result strip parts.1))

pub returns-in_err-to-clause-whole : goal.returns-in_err-to-clause-whole
returns-in_err-to-clause-whole c = λ from to step is digits other.
    let cut = dot_cut c.args.word.now from to step c.split_once.result c.split_once.ensures.cases is digits in
    let parts = at_some c.split_once.result _ _ _ c.in_ok-from.was cut in
    let strip = strip_prefix_char 46 c.in_ok-from.following.now c.strip_prefix.result c.strip_prefix.ensures.cases (omega arith) in
    let following =
    at_some c.strip_prefix.result _ _ _ c.in_ok-others.was (second_dot c.in_ok-from.following.now _ c.strip_prefix.result strip parts.1) in
    let last = slash_cut c.in_ok-others.others.now to step c.split_once-2.result c.split_once-2.ensures.cases following other in
    absurd (at_none c.split_once-2.result _ _ c.in_err-to.was last)

pub returns-clause-whole : goal.returns-clause-whole
returns-clause-whole c = λ from to step is digits other.
    let cut = dot_cut c.args.word.now from to step c.split_once.result c.split_once.ensures.cases is digits in
    let parts = at_some c.split_once.result _ _ _ c.in_ok-from.was cut in
    let strip = strip_prefix_char 46 c.in_ok-from.following.now c.strip_prefix.result c.strip_prefix.ensures.cases (omega arith) in
    let following =
    at_some c.strip_prefix.result _ _ _ c.in_ok-others.was (second_dot c.in_ok-from.following.now _ c.strip_prefix.result strip parts.1) in
    let last = slash_cut c.in_ok-others.others.now to step c.split_once-2.result c.split_once-2.ensures.cases following other in
    let others = at_some c.split_once-2.result _ _ _ c.in_ok-to.was last in
    (parts.0, others.0, others.1)
