-- Reading the text of a plan.
use Rattle.std.proofs.Common.{◌≡◌, ◌∙◌, ℕ, suc, List, [], ◌∷◌, ◌&&◌, true, cond, Some, None, Result, Ok, Err, All, is_none, map, ok_or, refl, ap, arith}
use Rattle.std.specs.Option.{option_and_then, option_or}
use Rattle.std.proofs.lemmas.List.{map-id}
use Rattle.toml.specs.Data.{Items, Members, as_array, as_table, table}
use Rattle.toml.specs.View.{items_of}
use Rattle.cqf_lists.specs.Results.{and_then, refuse}
use Rattle.cqf_model.specs.Domain.{Domain}
use Rattle.cqf_topology.specs.declared.keys.Key.{Key}
use Rattle.cqf_topology.specs.declared.keys.Key.TheVariants as key
use Rattle.cqf_topology.specs.declared.toml_faults.TomlFault.{TomlFault}
use Rattle.cqf_topology.specs.declared.toml_faults.TomlFault.TheVariants.{BadValue, Missing, NotToml}
use Rattle.cqf_topology.specs.Fields.{and_first, are_tables, document_of, each_from, first_absent_within, first_missing, tables_from, tables_of_key}
use Rattle.cqf_topology.specs.Fields.{value_at, whole_document}
use Rattle.cqf_topology.specs.DomainText.{IsDomain, as_domain_fault, checked, domain_from, domain_keys, domain_within, link_keys, read_text}
use Rattle.cqf_topology.specs.PacedText.{paced_from}
use Rattle.cqf_topology.specs.PlannedText.{planned_from}
use Rattle.cqf_topology.specs.StreamsText.{request_from, stream_keys, streams_keys}
use Rattle.cqf_traffic.specs.declared.faults.FlowsFault.{FlowsFault}
use Rattle.cqf_traffic.specs.declared.faults.FlowsFault.TheVariants as flows_fault
use Rattle.cqf_traffic.specs.FlowsText.{FlowText, first_lack_of, first_lack_within, flow_from, flows_from, flows_in, flows_of_array, flows_of_text, or_streams}
use Rattle.cqf_network_text.specs.StreamMembers.{stream_members, streams_data}
use Rattle.cqf_network_text.specs.Plans.{IsExpressible, IsWrittenPlan, WrittenPlansReadBack, plan_members, unpaced}
use Rattle.cqf_network_text.proofs.DomainChecks.{domain_passes, written_domain}
use Rattle.cqf_network_text.proofs.DomainReading.{domain_lacks_nothing, domain_reads, streams_at}
use Rattle.cqf_network_text.proofs.StreamReading.{flow_is_read, paced_is_read, planned_is_read, request_is_read, stream_lacks_no_key, stream_lacks_nothing}

-- the tables of streams
abbrev tables : List FlowText → Items
tables flows = items_of (map (λ flow. table (stream_members flow)) flows)

-- they are tables
all_tables : (flows : List FlowText) → are_tables (tables flows) ≡ true
all_tables [] = refl
all_tables (flow ∷ flows) = all_tables flows

-- they lack no key, whether or not traffic is required of them
lack_no_key : (flows : List FlowText) → first_absent_within stream_keys (tables flows) ≡ None
lack_no_key [] = refl
lack_no_key (flow ∷ flows) = (λ i. option_or (stream_lacks_no_key flow i) (lack_no_key flows i))

none_asked : (flows : List FlowText) → first_absent_within [] (tables flows) ≡ None
none_asked [] = refl
none_asked (flow ∷ flows) = none_asked flows

lack_nothing : (flows : List FlowText) → first_lack_within (tables flows) ≡ None
lack_nothing [] = refl
lack_nothing (flow ∷ flows) = (λ i. option_or (stream_lacks_nothing flow i) (lack_nothing flows i))

-- each is read, if each can be read
each_read : {A E : Type 0} (fault : E) (reader : Members → Result A E) (f : FlowText → A)
    → ((flow : FlowText) → IsExpressible flow → reader (stream_members flow) ≡ Ok (f flow))
    → (flows : List FlowText) → All IsExpressible flows → each_from (λ d. and_then (ok_or (as_table d) fault) reader) (tables flows) ≡ Ok (map f flows)
each_read fault reader f reads [] good = refl
each_read fault reader f reads (flow ∷ flows) good =
    let rest = each_read fault reader f reads flows (λ k d inside. good (suc k) d (omega arith)) in
    (λ i. and_first (reads flow (good 0 flow (omega arith)) i) (rest i))

module _ (d : Domain) (flows : List FlowText) (text : List ℕ) (reported : IsWrittenPlan d flows text) where
  -- the text's table
  document_is : document_of text ≡ Ok (plan_members d flows)
  document_is = (λ i. cond (reported.encoded i) (ok_or (reported.document i) NotToml) (Err NotToml))

  -- and if it lacks no key
  whole_is : (keys : List Key) (elements : Key) (within : List Key) → first_missing keys elements within (plan_members d flows) ≡ None
      → whole_document keys elements within text ≡ Ok (plan_members d flows)
  whole_is keys elements within none =
      ap (λ r. and_then r (λ members. refuse (first_missing keys elements within members) Missing (Ok members))) document_is
      ∙ ap (λ o. refuse o Missing (Ok (plan_members d flows))) none

  -- the document has the streams' tables, and the first key that it lacks is the first that these lack
  streams_there : value_at key.Streams (plan_members d flows) ≡ Some (streams_data flows)
  streams_there = streams_at d (streams_data flows)

  streams_missing : (within : List Key) → first_missing streams_keys key.Streams within (plan_members d flows) ≡ first_absent_within within (tables flows)
  streams_missing within =
      (λ i. option_or (cond (is_none (streams_there i) && true) (Some key.Streams) None)
      (option_and_then (first_absent_within within) (option_and_then as_array (streams_there i))))

  -- the domain
  domain_reads_back : IsDomain d → domain_within d.limits text ≡ Ok d
  domain_reads_back good =
      let whole = whole_is domain_keys key.Links link_keys (domain_lacks_nothing d (streams_data flows)) in
      let read : read_text d.limits text ≡ Ok (written_domain d) = ap (λ r. and_then r (domain_from d.limits)) whole ∙ domain_reads d good (streams_data flows) in
      ap (λ r. and_then (as_domain_fault r) checked) read ∙ domain_passes d good

  -- the streams, by a reader of their tables
  streams_read : {A : Type 0} (reader : Members → Result A TomlFault) (f : FlowText → A)
      → ((flow : FlowText) → IsExpressible flow → reader (stream_members flow) ≡ Ok (f flow)) → All IsExpressible flows
      → and_then (whole_document streams_keys key.Streams stream_keys text) (tables_of_key key.Streams reader) ≡ Ok (map f flows)
  streams_read reader f reads good =
      ap (λ r. and_then r (tables_of_key key.Streams reader)) (whole_is streams_keys key.Streams stream_keys (streams_missing stream_keys ∙ lack_no_key flows))
      ∙ ap (λ o. and_then (ok_or (option_and_then as_array o) (BadValue key.Streams)) (λ items.
      cond (are_tables items) (tables_from key.Streams reader items) (Err (BadValue key.Streams)))) streams_there
      ∙ ap (λ b. cond b (tables_from key.Streams reader (tables flows)) (Err (BadValue key.Streams))) (all_tables flows)
      ∙ each_read (BadValue key.Streams) reader f reads flows good

  -- the streams with their traffic
  flows_read_back : All IsExpressible flows → flows_of_text text ≡ Ok flows
  flows_read_back good =
      let fault : FlowsFault = flows_fault.Streams (BadValue key.Streams) in
      let whole = whole_is streams_keys key.Streams [] (streams_missing [] ∙ none_asked flows) in
      ap (λ r. and_then (or_streams r) (λ members. refuse (first_lack_of members) (λ lack. lack) (flows_in members))) whole
      ∙ ap (λ o. refuse (option_and_then first_lack_within (option_and_then as_array o)) (λ lack. lack) (flows_in (plan_members d flows))) streams_there
      ∙ ap (λ o. refuse o (λ lack. lack) (flows_in (plan_members d flows))) (lack_nothing flows)
      ∙ ap (λ o. and_then (or_streams (ok_or (option_and_then as_array o) (BadValue key.Streams))) flows_of_array) streams_there
      ∙ ap (λ b. cond b (flows_from (tables flows)) (Err fault)) (all_tables flows)
      ∙ each_read fault flow_from (λ flow. flow) flow_is_read flows good
      ∙ ap (λ all. Ok all) (map-id flows)

-- a plan's text reads back
pub written_reads_back : WrittenPlansReadBack
written_reads_back d flows text good expressible reported = record {
  domain_is = domain_reads_back d flows text reported good;
  flows_are = flows_read_back d flows text reported expressible;
  planned_are = streams_read d flows text reported planned_from (λ flow. flow.0) planned_is_read expressible;
  paced_are = streams_read d flows text reported paced_from (λ flow. flow.0.0) paced_is_read expressible;
  requests_are = streams_read d flows text reported request_from (λ flow. unpaced flow.0.0) request_is_read expressible;
}
