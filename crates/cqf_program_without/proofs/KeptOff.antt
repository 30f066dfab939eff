-- A plan of a network file without some of its links uses none of them.
use Rattle.std.proofs.Common.{◌≡◌, ◌∙◌, ◌+◌, ℕ, All, Bool, true, false, Contains, IsSome, List, [], ◌∷◌, Option, Some, None, Ok, ap, is_some, map, refl, subst, sym}
use Rattle.std.proofs.lemmas.Bool.{true≢false}
use Rattle.std.proofs.lemmas.List.Elements.{All-cons, All-nil}
use Rattle.toml.specs.Data.{Members}
use Rattle.cqf_lists.proofs.Members.{all_from_members}
use Rattle.cqf_model.specs.declared.limits.Limits.{Limits}
use Rattle.cqf_model.specs.declared.topology.Link.{Link}
use Rattle.cqf_model.specs.declared.topology.Node.{Node}
use Rattle.cqf_model.specs.declared.topology.Node.TheVariants.{Bridge, Station}
use Rattle.cqf_model.specs.Domain.{Domain}
use Rattle.cqf_model.specs.History.{Recorded, held_in, refusal_of, seals}
use Rattle.cqf_topology.specs.declared.keys.Key.TheVariants.{Links}
use Rattle.cqf_topology.specs.Fields.{key_text}
use Rattle.cqf_topology.proofs.Refusals.{refuse-Ok}
use Rattle.cqf_traffic.specs.FlowsText.{FlowText}
use Rattle.cqf_network.specs.declared.domain.TalkerLink.{TalkerLink}
use Rattle.cqf_network.specs.NetworkDomain.{NetworkDomain, domain_at, open_network_of_text}
use Rattle.cqf_network_text.specs.Networks.{array_at, table_of}
use Rattle.cqf_network_text.proofs.CycleChosen.{domain_has_table}
use Rattle.cqf_program_plans.specs.Compile.Output.{admitted_from, stream_line, with_asked}
use Rattle.cqf_program_offers.specs.OffersOutput.{asked_in}
use Rattle.cqf_program_planning.specs.PlanLaws.{WrittenPlanIsAdmitted}
use Rattle.cqf_program_planning.proofs.Inputs.{parts_read}
use Rattle.cqf_program_planning.proofs.Tried.{tried_known}
use Rattle.cqf_program_words.specs.declared.links.LinkName.{LinkName}
use Rattle.cqf_program_without.specs.Links.{is_among}
use Rattle.cqf_program_without.specs.OutLaws.{IsFromTo, IsShallowWithout, LacksLink, NetworksLackLinks, PlansUseNoLinkOut}
use Rattle.cqf_program_without.specs.Streams.{pass_any}
use Rattle.cqf_program_without.specs.Tables.{IsTextOfTable, IsTextWithout, without_links}
use Rattle.cqf_program_without.proofs.LinksRead.{AreNamedBy, HasNamedLinks, network_led}
use Rattle.cqf_program_without.proofs.Outs.{links_are_out}
use Rattle.cqf_program_without.proofs.UsedLinks.{none_used, same_names}

-- the table of a text without the links has none of them
pub record HasNone (links : List LinkName) (text : List ℕ) : Type 0 where
  pub members : Members
  pub table : table_of text ≡ Some members
  pub none : (name : LinkName) → Contains links name → is_among name (array_at (key_text Links) members) ≡ false

no_table : (text left : List ℕ) → table_of text ≡ None → left ≡ text → IsSome (table_of left) → ⊥
no_table text left none same some =
    let gone : table_of left ≡ None = ap table_of same ∙ none in
    let never : false ≡ true = sym (ap is_some gone) ∙ some in
    true≢false (sym never)

has_none : (limits : Limits) (given : Option (List ℕ)) (links : List LinkName) (text left : List ℕ) (network : NetworkDomain) → IsShallowWithout links text →
    IsTextWithout links text left → open_network_of_text limits given left ≡ Ok network → HasNone links left
has_none limits given links text left network shallow is read = by (table_of text) refl is
  where
    by : (o : Option Members) → table_of text ≡ o → IsTextOfTable o links text left → HasNone links left
    by None none same = absurd (no_table text left none same (domain_has_table limits given left network read))
    by (Some members) at reported =
        let left_members = without_links links members in
        record {
          members = left_members;
          table = reported (shallow members at);
          none = λ name there. subst (λ (n : LinkName). is_among n (array_at (key_text Links) left_members) ≡ false) there.2
              (links_are_out links members there.0 name there.1);
        }

-- so has the network that is read of it
lacks : (limits : Limits) (given : Option (List ℕ)) (links : List LinkName) (left : List ℕ) (network : NetworkDomain) (has : HasNone links left) →
    HasNamedLinks (λ name. is_among name (array_at (key_text Links) has.members)) network → All (LacksLink network) links
lacks limits given links left network has named = all_from_members (LacksLink network) links (λ name there. record {
  links = all_from_members (λ (link : Link). IsFromTo network name (Bridge link.from) link.to → ⊥) network.links
      (λ link inside between. never name there (Bridge link.from) link.to (named.links link inside) between);
  access = all_from_members (λ (link : TalkerLink). IsFromTo network name (Station link.station) (Bridge link.bridge) → ⊥) network.talkers
      (λ link inside between. never name there (Station link.station) (Bridge link.bridge) (named.access link inside) between);
})
  where
    test : LinkName → Bool
    test = λ name. is_among name (array_at (key_text Links) has.members)

    never : (name : LinkName) → Contains links name → (from to : Node) → AreNamedBy network.bridges network.stations test from to →
        IsFromTo network name from to → ⊥
    never name there from to by_name between =
        true≢false (sym (same_names network 0 test name from to by_name between.from_is between.to_is) ∙ has.none name there)

pub networks_lack_links : NetworksLackLinks
networks_lack_links limits given links text left network shallow is read =
    let has = has_none limits given links text left network shallow is read in
    lacks limits given links left network has (network_led limits given left has.members network has.table read)

-- streams that are admitted one after the other use none of them
each_unused : (network : NetworkDomain) (cycle : ℕ) (links : List LinkName) (test : LinkName → Bool) → HasNamedLinks test network →
    ((name : LinkName) → Contains links name → test name ≡ false) → (entries : List Recorded) (index : ℕ) (flows : List FlowText) (end : List Recorded) →
    admitted_from (domain_at network cycle) entries index (map asked_in flows) ≡ Ok end → All (λ (flow : FlowText). pass_any links flow.0.0.paths ≡ false) flows
each_unused network cycle links test named out entries index [] end admitted = All-nil (λ (flow : FlowText). pass_any links flow.0.0.paths ≡ false)
each_unused network cycle links test named out entries index (flow ∷ flows) end admitted =
    let d = domain_at network cycle in
    let rows = held_in d entries (seals entries) in
    let (granted, more) = refuse-Ok (refusal_of d rows (asked_in flow)) (stream_line index)
    (admitted_from d (with_asked d entries (asked_in flow)) (index + 1) (map asked_in flows)) end admitted in
    All-cons (λ (one : FlowText). pass_any links one.0.0.paths ≡ false) flow flows (none_used network cycle test named links rows (asked_in flow) out granted)
    (each_unused network cycle links test named out (with_asked d entries (asked_in flow)) (index + 1) flows end more)

pub plans_use_no_link_out : WrittenPlanIsAdmitted → PlansUseNoLinkOut
plans_use_no_link_out sound limits search given links domain domain_left streams_left text source shallow is e plan =
    let parts = parts_read limits given domain_left streams_left source e in
    let planned = plan.planned in
    let read : open_network_of_text limits given domain_left ≡ Ok source.domain =
    ap (open_network_of_text limits given) (sym parts.domain_text_is) ∙ parts.input.domain_read in
    let has = has_none limits given links domain domain_left source.domain shallow is read in
    let known = tried_known source.domain source.streams search.tries planned.cycle_time planned.placed planned.are_placed in
    let good = sound source.domain source.streams search plan.domain plan.flows planned in
    let same : plan.domain ≡ domain_at source.domain planned.cycle_time = planned.domain_is ∙ known.domain in
    each_unused source.domain planned.cycle_time links (λ name. is_among name (array_at (key_text Links) has.members))
    (network_led limits given domain_left has.members source.domain has.table read) has.none [] 1 plan.flows good.entries
    (ap (λ (d : Domain). admitted_from d [] 1 (map asked_in plan.flows)) (sym same) ∙ good.admitted)
