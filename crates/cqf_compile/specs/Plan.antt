-- A domain's gate lists.
use Rattle.std.specs.Prelude.{◌≡◌, ◌∷◌, [], List, length}
use Rattle.cqf_lists.specs.Lists.{each_below}
use Rattle.cqf_model.specs.GateList.{Entry}
use Rattle.cqf_model.specs.Domain.{Domain, IsAccepted}
use Rattle.cqf_model.specs.Network.{compiled_lists}

-- the domain is accepted, and each link has the gate list of its port
pub record IsPlan (d : Domain) (lists : List (List Entry)) : Type 0 where
  pub accepted : IsAccepted d
  pub one_each : lists ≡ each_below (λ l. compiled_lists d l ∷ []) (length d.links)
