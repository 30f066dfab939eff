-- The domain of the line's text.
use Rattle.std.proofs.Common.{◌≡◌, ◌∙◌, Ok, Err, refl, sym}
use Rattle.std.specs.Str.{chars, is_utf8}
use Rattle.toml.proofs.OnLiterals.{toml_on_literals}
use Rattle.cqf_topology.specs.DomainText.{domain_of_text}
use Rattle.cqf_model.specs.Domain.{Domain}
use Rattle.cqf_topology.specs.declared.faults.DomainFault.{DomainFault}
use Rattle.cqf_program_runs.specs.Line.{line_domain}
use Rattle.cqf_program_runs.specs.declared.line.domain.TheConstants.{LINE_TEXT}

-- it is the domain of the line
pub line_text-means : domain_of_text LINE_TEXT.now ≡ Ok line_domain
unfolding toml_on_literals is_utf8 chars
line_text-means = refl

-- a domain of the text is that one
pub means_line : (d : Domain) → domain_of_text LINE_TEXT.now ≡ Ok d → d ≡ line_domain
means_line d means = let same : Ok d ≡ Ok line_domain = sym means ∙ line_text-means in cc

-- and it has no fault
pub means_no_fault : (fault : DomainFault) → ¬ (domain_of_text LINE_TEXT.now ≡ Err fault)
means_no_fault fault means = let never : Ok line_domain ≡ Err fault = sym line_text-means ∙ means in cc
