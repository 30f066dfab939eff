-- A ready plan stays ready if its parts are replaced by equal ones.
use Rattle.std.proofs.Common.{ℕ, ◌≡◌, List, subst, sym}
use Rattle.std.specs.Global.{Global}
use Rattle.std.specs.declared.vec.Vec.{Vec}
use Rattle.cqf_model.specs.declared.topology.Row.{Row}
use Rattle.cqf_model.specs.Domain.{Domain}
use Rattle.cqf_program_tc.specs.Output.{IsReadyPlan}

pub ready_as : (d e : Domain) (rows others : List Row) (indices at : List (List ℕ)) (links ingresses streams names : List (Vec ℕ Global)) → e ≡ d → others ≡ rows →
    at ≡ indices → ingresses ≡ links → names ≡ streams → IsReadyPlan d rows indices links streams → IsReadyPlan e others at ingresses names
ready_as d e rows others indices at links ingresses streams names of_domain of_rows of_indices of_links of_streams ready =
    subst (λ (x : Domain). IsReadyPlan x others at ingresses names) (sym of_domain)
    (subst (λ (x : List Row). IsReadyPlan d x at ingresses names) (sym of_rows)
    (subst (λ (x : List (List ℕ)). IsReadyPlan d rows x ingresses names) (sym of_indices)
    (subst (λ (x : List (Vec ℕ Global)). IsReadyPlan d rows indices x names) (sym of_links)
    (subst (λ (x : List (Vec ℕ Global)). IsReadyPlan d rows indices links x) (sym of_streams) ready))))
