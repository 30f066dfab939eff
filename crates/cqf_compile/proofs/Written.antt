-- Frames that go on from a bridge arrived by the link that the first hop leaving it follows.
use Rattle.std.proofs.Common.{◌≡◌, ℕ, ◌==◌, true, Option, sym, ap, ◌∙◌, subst, map, refl, eq-eqb, eqb-true}
use Rattle.std.specs.Prelude.{Contains}
use Rattle.std.specs.Option.{option_and_then}
use Rattle.cqf_lists.proofs.EachOnce.{once_covers}
use Rattle.cqf_lists.proofs.Members.{contains_map, find_member, find_some}
use Rattle.cqf_gates.specs.SpanLaws.{PassTheSame, SpansPassTheSame}
use Rattle.cqf_model.specs.declared.topology.Hop.{Hop}
use Rattle.cqf_model.specs.Domain.{bridge_of, leaves}
use Rattle.cqf_model.specs.Table.{bridges_of, hop_number_after, links_of}
use Rattle.cqf_model.specs.Policing.{gate_list_after}
use Rattle.cqf_compile.specs.BridgeGates.{gate_at, ingress_at}
use Rattle.cqf_compile.specs.WrittenGates.{EachBridgeHasAGate, FramesComeThatWay, WrittenGatesPassTheSame}
use Rattle.cqf_laws_shift.proofs.Trees.{GoesBy, by_goes_on, goes_on_by, its_bridge, one_ingress_at}

-- one link leads on from a bridge, and the first hop that leaves the bridge continues it
pub that_way : FramesComeThatWay
that_way d row ingress bridge good on =
    let here = λ (hop : Hop). leaves d hop.link bridge in
    let by = goes_on_by d row ingress bridge on in
    let out : leaves d by.1.hop.link bridge ≡ true = subst (λ l. leaves d l bridge ≡ true) (sym by.1.is_link) by.2 in
    let found = find_some here row.tree.items by.1.hop by.1.of_tree out in
    let member = find_member here row.tree.items found.0 found.1 in
    let first : GoesBy row found.0.from found.0.link = record { hop = found.0; of_tree = member.0; from = refl; is_link = refl } in
    let also = by_goes_on d row found.0.from found.0.link bridge first member.1 in
    one_ingress_at d row good ingress found.0.from bridge on also ∙ sym (ap (option_and_then (λ (hop : Hop). hop.from)) found.1)

-- so the gate written there is that way's
pub pass_the_same : SpansPassTheSame → WrittenGatesPassTheSame
pass_the_same spans d row ingress bridge some good on =
    let hop_number = hop_number_after row (ingress_at d bridge row) in
    subst (λ (z : Option ℕ). PassTheSame (gate_at d row bridge) (gate_list_after d row z)) (sym (that_way d row ingress bridge good on))
    (spans d.cycle_time row.octets row.pace hop_number some)

-- and it is written
pub each_has_one : EachBridgeHasAGate
each_has_one d row ingress bridge on =
    let by = goes_on_by d row ingress bridge on in
    let link = contains_map (λ (hop : Hop). hop.link) row.tree.items by.1.hop by.1.of_tree in
    let left = contains_map (bridge_of d) (links_of row) by.1.hop.link link in
    let is : bridge_of d by.1.hop.link ≡ bridge = ap (bridge_of d) by.1.is_link ∙ its_bridge d by.0 bridge by.2 in
    let met = once_covers (λ (a b : ℕ). a == b) (λ x. eq-eqb x x refl) (map (bridge_of d) (links_of row)) (bridge_of d by.1.hop.link) left in
    subst (λ z. Contains (bridges_of d row) z) (eqb-true met.0 (bridge_of d by.1.hop.link) met.2 ∙ is) met.1
