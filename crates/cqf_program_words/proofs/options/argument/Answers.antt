use Rattle.std.proofs.Common.{◌≡◌, ◌∙◌, Option, Some, ap, sym}
use Rattle.clap.specs.Words.{rule_of}
use Rattle.clap.specs.declared.builder.value_parser.ValueParser.{ValueParser}
use Rattle.cqf_program_words.specs.Options.{option_rule, with_parser_of}
use Rattle.cqf_program_words.proofs.WordLemmas.{with_parser}
use Rattle.cqf_program_words.proofs.options.argument.Goals as goal

-- with the numbers that its value may be
pub returns-in-Some-clause-rule : goal.returns-in-Some-clause-rule
returns-in-Some-clause-rule c =
    let given = c.value_parser.ensures.given in
    let reported : rule_of c.help-reported.result ≡ option_rule c.args.option = ap rule_of c.help-reported.ensures ∙ c.bare_argument.ensures.rule in
    with_parser c.help-reported.result c.value_parser.result (option_rule c.args.option) c.in-Some.parser
    c.value_parser.ensures.others reported (given.1 ∙ ap (λ (p : ValueParser). Some p) given.2)
    ∙ ap (λ (q : Option ValueParser). with_parser_of q (option_rule c.args.option)) (sym c.in-Some.is ∙ c.numbers.ensures)

-- and if it needn't be a number
pub returns-in-None-clause-rule : goal.returns-in-None-clause-rule
returns-in-None-clause-rule c =
    ap rule_of c.help-reported.ensures ∙ c.bare_argument.ensures.rule
    ∙ ap (λ (q : Option ValueParser). with_parser_of q (option_rule c.args.option)) (sym c.in-None.is ∙ c.numbers.ensures)
