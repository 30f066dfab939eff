use Rattle.std.proofs.Common.{◌≡◌, ◌∙◌, ap, arith, sym, true, refl}
use Rattle.std.proofs.lemmas.Result.{err_from_is_err_and}
use Rattle.cqf_units.specs.Name.{is_name}
use Rattle.cqf_units.proofs.Costs.{cost_within}
use Rattle.cqf_units.specs.Timing.{cost_of}
use Rattle.cqf_admission.specs.Asking.{asked_with}
use Rattle.cqf_admission.specs.Branches.{branches_of}
use Rattle.cqf_admission.proofs.GrantLemmas.{form_by_tree}
use Rattle.cqf_admission.proofs.judged.judge_parts.Goals as goal

pub returns-in_err-tree : goal.returns-in_err-tree
returns-in_err-tree c =
    let d = c.args.domain.now in
    let asked = asked_with c.args.name.now c.args.octets c.args.every c.args.phase (branches_of c.args.paths.now) in
    let form : is_name asked.name ≡ true = ap is_name (sym c.as_bytes.ensures.value) ∙ c.in-Some.ensures.form.0 refl in
    let p = err_from_is_err_and c.from_residual.result c.from_residual.ensures.1 in
    rw (p.1, p.2) (form_by_tree d asked form c.in-Some-pace_of.ensures.good c.if-octets-lt-LEAST_OCTETS.false c.if-octets-gt-MOST_OCTETS.false ∙ c.in_err-tree.ensures)

pub cost-requires-clause-less : goal.cost-requires-clause-less
cost-requires-clause-less c = omega (arith, c.overhead-overhead.ensures.short)

pub cost-requires-clause-fits : goal.cost-requires-clause-fits
cost-requires-clause-fits c =
    let within = cost_within c.overhead-overhead.result c.args.octets c.overhead-overhead.ensures.short in
    omega (arith, within, c.if-octets-gt-MOST_OCTETS.false)

pub returns : goal.returns
returns c =
    let d = c.args.domain.now in
    let asked = asked_with c.args.name.now c.args.octets c.args.every c.args.phase (branches_of c.args.paths.now) in
    let form : is_name asked.name ≡ true = ap is_name (sym c.as_bytes.ensures.value) ∙ c.in-Some.ensures.form.0 refl in
    record {
      none = form_by_tree d asked form c.in-Some-pace_of.ensures.good c.if-octets-lt-LEAST_OCTETS.false c.if-octets-gt-MOST_OCTETS.false ∙ c.in_ok-tree.ensures.0;
      named = c.in-Some.ensures.value ∙ c.as_bytes.ensures.value;
      costs = c.cost.ensures ∙ ap (λ o. cost_of o c.args.octets) c.overhead-overhead.ensures.value;
      overhead = c.overhead-overhead.ensures.value;
      linked = c.in_ok-tree.ensures.1;
      paced = c.in-Some-pace_of.ensures.is;
      most_octets = c.if-octets-gt-MOST_OCTETS.false;
    }
