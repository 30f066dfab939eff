use Rattle.std.proofs.Common.{◌≡◌, ◌∙◌, List, ap, arith, subst, sym, ◌<◌, length}
use Rattle.cqf_addressing.specs.Streams.{gate_index}
use Rattle.cqf_addressing.specs.declared.streams.StreamAddress.{StreamAddress}
use Rattle.cqf_model.specs.declared.topology.Row.{Row}
use Rattle.cqf_model.specs.Domain.{Domain}
use Rattle.cqf_output.specs.Edge.{IsWritten, writing}
use Rattle.cqf_output.proofs.WriterLemmas.{IsWritten-written, Puts-as}
use Rattle.cqf_addressing.specs.declared.links.LinkInterfaces.{LinkInterfaces}
use Rattle.cqf_program_tc.specs.Env.{env_text}
use Rattle.cqf_program_tc.specs.Output.{text_of_env}
use Rattle.cqf_program_tc.specs.Rows.{indices_in}
use Rattle.cqf_program_tc.proofs.Ready.{ready_as}
use Rattle.cqf_program_tc.proofs.outputs.EnvOutput.write.Goals as goal

pub put_file-requires-clause-ready : goal.put_file-requires-clause-ready
put_file-requires-clause-ready g c =
    let plan = c.self.inside.plan in
    let lent = c.as_plan.result in
    ready_as plan.domain lent.domain.now plan.rows.items lent.rows.now (indices_in plan.indices.items) (indices_in c.as_slice-2.result.now)
    plan.links.items lent.links.now plan.streams.items lent.streams.now
    c.as_plan.ensures.domain c.as_plan.ensures.rows (ap indices_in c.as_slice-2.ensures.value) c.as_plan.ensures.links c.as_plan.ensures.streams
    c.self.invariant.plan

pub put_file-requires-clause-inside : goal.put_file-requires-clause-inside
put_file-requires-clause-inside g c =
    subst (λ (d : Domain). c.self.inside.bridge < length d.bridges) (sym c.as_plan.ensures.domain) c.self.invariant.inside

pub returns : goal.returns
returns g c =
    let plan = c.self.inside.plan in
    let lent = c.as_plan.result in
    let bridge = c.self.inside.bridge in
    let interfaces = c.as_slice.result.now in
    let same : env_text lent.domain.now interfaces lent.addresses.now lent.rows.now bridge ≡ text_of_env c.args.self =
    ap (λ (d : Domain). env_text d interfaces lent.addresses.now lent.rows.now bridge) c.as_plan.ensures.domain
    ∙ ap (λ (ingresses : List LinkInterfaces). env_text plan.domain ingresses lent.addresses.now lent.rows.now bridge) c.as_slice.ensures.value
    ∙ ap (λ (addresses : List StreamAddress). env_text plan.domain plan.interfaces.items addresses lent.rows.now bridge) c.as_plan.ensures.addresses
    ∙ ap (λ (rows : List Row). env_text plan.domain plan.interfaces.items plan.addresses.items rows bridge) c.as_plan.ensures.rows
    ∙ ap text_of_env c.self.view_is in
    let put = Puts-as (env_text lent.domain.now interfaces lent.addresses.now lent.rows.now bridge) (text_of_env c.args.self) same c.put_file.ensures in
    let done : IsWritten (writing g.W.Write.contents c.args.written.now c.close-written.result.now) (text_of_env c.args.self) =
    IsWritten-written g.W.Write.contents c.args.written.now c.new-writer.result c.put_file.new.writer c.close-written.result.now _
    c.new-writer.ensures.opens put c.close-written.ensures.closes in
    let names = c.close-written.ensures.same ∙ c.put_file.ensures.same ∙ c.new-writer.ensures.same in
    grind (arith, done, names)
