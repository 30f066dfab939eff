use Rattle.std.proofs.Common.{◌∙◌, ap}
use Rattle.cqf_admission.specs.State.{Figures}
use Rattle.cqf_admission.proofs.state.State.try_copy.Goals as goal

pub returns : goal.returns
returns c = record {
  stands = c.in_ok-try_copy.ensures.rows ∙ ap (λ (f : Figures). f.stands) c.self.view_is;
  links = c.in_ok-try_copy.ensures.links ∙ ap (λ (f : Figures). f.links) c.self.view_is;
  slots = c.in_ok-try_copy-2.ensures ∙ ap (λ (f : Figures). f.slots) c.self.view_is;
  sealed = ap (λ (f : Figures). f.sealed) c.self.view_is;
}
