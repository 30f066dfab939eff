use Rattle.cqf_program_words.proofs.plan_words.options_of.Goals as goal

pub returns-in_default : goal.returns-in_default
returns-in_default c = λ options are. c.in_default.ensures options.given are.given

pub returns-in_default-tries_of : goal.returns-in_default-tries_of
returns-in_default-tries_of c = λ options are. c.in_default-tries_of.ensures options.tries are.tries
