-- What is known of a network file without some of its links.
use Rattle.std.specs.Prelude.{ℕ, ◌≡◌, ◌≤◌, List, All, Ok, Option, Some, false}
use Rattle.std.specs.Option.{ForSome}
use Rattle.toml.specs.Data.{Members, members_depth}
use Rattle.cqf_model.specs.declared.limits.Limits.{Limits}
use Rattle.cqf_model.specs.declared.topology.Link.{Link}
use Rattle.cqf_model.specs.declared.topology.Node.{Node}
use Rattle.cqf_model.specs.declared.topology.Node.TheVariants.{Bridge, Station}
use Rattle.cqf_topology.specs.declared.keys.Key.TheVariants.{Links}
use Rattle.cqf_topology.specs.Fields.{key_text}
use Rattle.cqf_traffic.specs.FlowsText.{FlowText}
use Rattle.cqf_network.specs.declared.domain.TalkerLink.{TalkerLink}
use Rattle.cqf_network.specs.Edges.{end_named}
use Rattle.cqf_network.specs.NetworkDomain.{NetworkDomain, open_network_of_text}
use Rattle.cqf_network_text.specs.Networks.{array_at, table_of}
use Rattle.cqf_program_planning.specs.declared.choosing.Search.{Search}
use Rattle.cqf_program_planning.specs.PlanOutput.{IsPlanText, PlanSource, planning_parts}
use Rattle.cqf_program_words.specs.declared.links.LinkName.{LinkName}
use Rattle.cqf_program_without.specs.Links.{is_among}
use Rattle.cqf_program_without.specs.Streams.{pass_any}
use Rattle.cqf_program_without.specs.Tables.{IsTextWithout, without_links}

-- none of the links is among those that are left
abbrev pub LinksAreOut : Type 0
LinksAreOut = (links : List LinkName) (members : Members) → All (λ link. is_among link (array_at (key_text Links) (without_links links members)) ≡ false) links

-- the tables of a text without these links aren't nested deeper than the reader allows
abbrev pub IsShallowWithout : List LinkName → List ℕ → Type 0
IsShallowWithout links text = ForSome (table_of text) (λ (members : Members). members_depth (without_links links members) ≤ 80)

-- a link is from one node of a network to another, by their names
pub record IsFromTo (network : NetworkDomain) (link : LinkName) (from to : Node) : Type 0 where
  pub from_is : end_named network.bridges network.stations link.from ≡ Some from
  pub to_is : end_named network.bridges network.stations link.to ≡ Some to

-- no link of a network is this link, and no access link is
pub record LacksLink (network : NetworkDomain) (name : LinkName) : Type 0 where
  pub links : All (λ (link : Link). ¬ IsFromTo network name (Bridge link.from) link.to) network.links
  pub access : All (λ (link : TalkerLink). ¬ IsFromTo network name (Station link.station) (Bridge link.bridge)) network.talkers

-- a network that is read from a text without these links has none of them
abbrev pub NetworksLackLinks : Type 0
NetworksLackLinks =
    (limits : Limits) (given : Option (List ℕ)) (links : List LinkName) (text left : List ℕ) (network : NetworkDomain) → IsShallowWithout links text →
    IsTextWithout links text left → open_network_of_text limits given left ≡ Ok network → All (LacksLink network) links

-- no stream of a plan that is made from such a text uses one of these links: neither on a path that was chosen, nor on one that was given
abbrev pub PlansUseNoLinkOut : Type 0
PlansUseNoLinkOut =
    (limits : Limits) (search : Search) (given : Option (List ℕ)) (links : List LinkName) (domain domain_left streams_left text : List ℕ) (source : PlanSource) →
    IsShallowWithout links domain → IsTextWithout links domain domain_left → planning_parts limits given domain_left streams_left ≡ Ok source →
    (plan : IsPlanText search source text) → All (λ (flow : FlowText). pass_any links flow.0.0.paths ≡ false) plan.flows
