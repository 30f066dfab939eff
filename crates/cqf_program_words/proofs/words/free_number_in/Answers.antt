use Rattle.std.proofs.Common.{Bor, List, Option, ap, option_map, sym, ℕ}
use Rattle.cqf_program_words.proofs.WordLemmas.{no_free_number}
use Rattle.cqf_program_words.proofs.words.free_number_in.Goals as goal

pub returns-in-None-number_in : goal.returns-in-None-number_in
returns-in-None-number_in c =
    let texts : Option (Bor (List ℕ)) → Option (List ℕ) = option_map (λ text. text.now) in
    no_free_number c.args.least c.args.most c.in-Some.text.now (texts c.args.text) (ap texts (sym c.in-Some.is)) c.in-None-number_in.ensures
