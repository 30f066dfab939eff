use Rattle.std.proofs.Common.{◌∙◌, Bor, List, ap, not, option_map, ℕ}
use Rattle.clap.proofs.WalkLemmas.{find-map}
use Rattle.cqf_program_words.specs.Links.{is_link}
use Rattle.cqf_program_words.proofs.links.first_among.Goals as goal

pub returns : goal.returns
returns c =
    ap (option_map (λ (word : Bor (List ℕ)). word.now)) c.one_no_link.ensures
    ∙ find-map (λ (word : List ℕ). not (is_link word)) (λ (word : Bor (List ℕ)). word.now) c.args.words.now
