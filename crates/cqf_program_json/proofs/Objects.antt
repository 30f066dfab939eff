-- The items that the lines of an object give: of its ports, its streams, its bridges, and all of it.
use Rattle.std.proofs.Common.{ℕ, zero, suc, ◌≡◌, ◌<◌, ◌≤◌, ◌^◌, ◌-◌, ◌++◌, ◌∙◌, Bool, true, false, List, [], ◌∷◌, Option, Some, None, All, ap, append_assoc, arith}
use Rattle.std.proofs.Common.{append-nil, codes, cond, decimal, length, map, refl, sym}
use Rattle.std.specs.Prelude.{filter, option_map}
use Rattle.std.specs.List.{flat_map}
use Rattle.std.specs.Option.{option_or}
use Rattle.std.proofs.lemmas.List.Concat.{flat_map-append}
use Rattle.std.proofs.lemmas.List.Elements.{All-cons, All-nil}
use Rattle.cqf_lists.specs.Lists.{each_below}
use Rattle.cqf_lists.proofs.Numbers.{made_of_kept}
use Rattle.cqf_addressing.specs.declared.links.LinkInterfaces.{LinkInterfaces}
use Rattle.cqf_addressing.specs.declared.streams.StreamAddress.{StreamAddress}
use Rattle.cqf_addressing.specs.Links.{far_interface, near_interface}
use Rattle.cqf_addressing.specs.Mac.{mac_text}
use Rattle.cqf_addressing.specs.Streams.{gate_index, mac_of_stream, vlan_of_stream}
use Rattle.cqf_compile.proofs.Paces.{short_round}
use Rattle.cqf_compile.specs.BridgeGates.{gate_at, ingress_at}
use Rattle.cqf_model.specs.declared.gates.StreamEntry.{StreamEntry}
use Rattle.cqf_model.specs.declared.topology.Row.{Row}
use Rattle.cqf_model.specs.Domain.{Domain, guard_of, leaves}
use Rattle.cqf_model.specs.GateList.{Entry, port_list, round_of}
use Rattle.cqf_model.specs.Network.{compiled_lists}
use Rattle.cqf_model.proofs.Links.{guard_within}
use Rattle.cqf_model.specs.StreamGate.{gate_round}
use Rattle.cqf_model.specs.Table.{hop_number_after}
use Rattle.cqf_program_json.specs.Arrays.{elements, name_or_null, number_or_null, quoted}
use Rattle.cqf_program_json.specs.Items.{AreNamed, AtBridge, AtGate, AtPort, AtStream, IsHeldRow, IsInterface, Item, JsonHoldsTheLists, Opens, Passes}
use Rattle.cqf_program_json.specs.Items.{bridge_items, items_due, items_in, items_of, port_items, stream_items, up_to}
use Rattle.cqf_program_json.specs.Text.{address_text, bridge_text, bridges_text, filter_text, gate_entry, gate_head, gate_list_text, gate_round_text}
use Rattle.cqf_program_json.specs.Text.{gate_text, json_text, left_below, mac_or_null, numbers_below, port_entry, port_head, port_list_text, port_round}
use Rattle.cqf_program_json.specs.Text.{ingress_interface, ingress_name, port_text, port_with, ports_text, stream_head, stream_text, streams_text}
use Rattle.cqf_program_json.proofs.Entries.{IsReadable, gate_entry_says, number_within, only, port_entry_says, spans_readable}
use Rattle.cqf_program_json.proofs.Lines.{EachSays, IsSilent, Says, all_say, array_says, close, each_says, ones, silent_end, silent_line, silent_value}
use Rattle.cqf_program_json.proofs.Lines.{value_line}
use Rattle.cqf_program_json.proofs.Parts.{IsPlain, IsWithin, bridge_plain, decimal_plain, decimal_read, link_plain, mac_plain, name_plain, number_plain}
use Rattle.cqf_program_json.proofs.Parts.{plain_within, quoted_within, text_within, up_to_end}
use Rattle.cqf_program_tc.specs.Rows.{leaves_bridge}
use Rattle.cqf_text.specs.Decimal.{decimal_value}
use Rattle.cqf_topology.specs.DomainText.{IsDomain}
use Rattle.cqf_topology.specs.NodeNames.{name_of_bridge, name_of_link}

-- ---- texts before others, for arbitrary parts

before_two : (a v b w c more : List ℕ) → (a ++ (v ++ (b ++ (w ++ c)))) ++ more ≡ a ++ (v ++ (b ++ (w ++ (c ++ more))))
before_two a v b w c more = simp append_assoc

before_three : (a v b w c x e more : List ℕ) →
    (a ++ (v ++ (b ++ (w ++ (c ++ (x ++ e)))))) ++ more ≡ a ++ (v ++ (b ++ (w ++ (c ++ (x ++ (e ++ more))))))
before_three a v b w c x e more = simp append_assoc

before_one : (a v b more : List ℕ) → (a ++ (v ++ b)) ++ more ≡ a ++ (v ++ (b ++ more))
before_one a v b more = simp append_assoc

-- a text in quotation marks, up to its end
name_up_to : (name rest : List ℕ) → IsPlain name → up_to 34 (name ++ 34 ∷ rest) ≡ name
name_up_to name rest plain = up_to_end 34 name rest (omega arith) plain

-- ---- ports

module _ (d : Domain) (links : List LinkInterfaces) (domain : IsDomain d) (named : AreNamed links) where
  port_begins : (link : ℕ) (more : List ℕ) → items_of (port_head d links link ++ more) ≡ AtPort (name_of_link d link) ∷ items_of more
  port_begins link more =
      let name = name_of_link d link in
      let near = name_or_null (near_interface links link) in
      let states : List ℕ = codes "          \"GateEnabled\": true,\n          \"AdminGateStates\": 63,\n" ++ more in
      let third : List ℕ = codes "          \"interface\": " ++ (near ++ (codes "," ++ 10 ∷ states)) in
      let second : List ℕ = codes "          \"link\": \"" ++ (name ++ (codes "\"," ++ 10 ∷ third)) in
      let written : items_of third ≡ items_of more =
      silent_value (codes "          \"interface\": ") near (codes ",") states refl (quoted_within (near_interface links link) (named link).0) refl (λ rest. refl)
      ∙ silent_line (codes "          \"GateEnabled\": true,") (codes "          \"AdminGateStates\": 63," ++ 10 ∷ more) refl (λ rest. refl)
      ∙ silent_line (codes "          \"AdminGateStates\": 63,") more refl (λ rest. refl) in
      ap items_of (before_two (codes "        {\n          \"link\": \"") name (codes "\",\n          \"interface\": ") near
      (codes ",\n          \"GateEnabled\": true,\n          \"AdminGateStates\": 63,\n") more)
      ∙ silent_line (codes "        {") second refl (λ rest. refl)
      ∙ value_line (codes "          \"link\": \"") name (codes "\",") third refl (plain_within name (link_plain d domain link)) refl
      ∙ ap (λ (text : List ℕ). AtPort text ∷ items_of third) (name_up_to name (44 ∷ []) (link_plain d domain link))
      ∙ ap (λ (items : List Item). AtPort name ∷ items) written

-- the length of a list, and the list
port_list_says : (entries : List Entry) (more : List ℕ) → EachSays port_entry (λ (entry : Entry). Opens entry ∷ []) entries →
    items_of (port_list_text entries ++ close true more) ≡ map Opens entries ++ items_of more
port_list_says entries more each =
    let count : List ℕ = decimal (length entries) in
    let all : List ℕ = elements (codes "          ") (map port_entry entries) in
    let second : List ℕ = codes "          \"AdminControlList\": [" ++ (all ++ close true more) in
    ap items_of (before_one (codes "          \"AdminControlListLength\": ") count (codes ",\n          \"AdminControlList\": [" ++ all) (close true more))
    ∙ silent_value (codes "          \"AdminControlListLength\": ") count (codes ",") second refl (number_within (length entries)) refl (λ rest. refl)
    ∙ array_says port_entry (λ (entry : Entry). Opens entry ∷ []) (codes "          \"AdminControlList\": [") (codes "          ") entries refl (λ rest. refl) refl
    (λ rest. refl) each true more
    ∙ ap (λ (items : List Item). items ++ items_of more) (ones Opens entries)

-- the cycle time of a list, and the end of the port
port_round_says : (entries : List Entry) → Says (port_round entries) []
port_round_says entries comma rest =
    let time : List ℕ = decimal (round_of entries) in
    let second : List ℕ = codes "          \"AdminBaseTime\": { \"seconds\": 0, \"nanoseconds\": 0 }\n        }" ++ close comma rest in
    ap items_of (before_one (codes "          \"AdminCycleTime\": { \"numerator\": ") time
    (codes ", \"denominator\": 1000000000 },\n          \"AdminBaseTime\": { \"seconds\": 0, \"nanoseconds\": 0 }\n        }") (close comma rest))
    ∙ silent_value (codes "          \"AdminCycleTime\": { \"numerator\": ") time (codes ", \"denominator\": 1000000000 },") second refl
    (number_within (round_of entries)) refl (λ more. refl)
    ∙ silent_line (codes "          \"AdminBaseTime\": { \"seconds\": 0, \"nanoseconds\": 0 }") (codes "        }" ++ close comma rest) refl (λ more. refl)
    ∙ silent_end (codes "        }") refl (λ more. refl) comma rest

-- three texts before the end of a line
before_parts : (a b c e : List ℕ) (comma : List ℕ) → (a ++ (b ++ (comma ++ c))) ++ e ≡ a ++ (b ++ (comma ++ (c ++ e)))
before_parts a b c e comma = simp append_assoc

module _ (d : Domain) (links : List LinkInterfaces) (domain : IsDomain d) (named : AreNamed links) where
  -- each entry of a port's list gives itself
  ports_entries : (link : ℕ) → EachSays port_entry (λ (entry : Entry). Opens entry ∷ []) (compiled_lists d link)
  ports_entries link = by (guard_of d link) (guard_within d link domain.accepted)
    where
      by : (guard : ℕ) → guard < d.cycle_time → EachSays port_entry (λ (entry : Entry). Opens entry ∷ []) (port_list d.cycle_time guard)
      by guard within =
          let small : d.cycle_time - guard < 2 ^ 64 = omega (arith, domain.accepted.cycle_most) in
          let short : guard < 2 ^ 64 = omega (arith, domain.accepted.cycle_most, within) in
          let last : EachSays port_entry (λ (entry : Entry). Opens entry ∷ []) ((0x00, guard) ∷ []) = (port_entry_says (0x00, guard) (omega arith) short, tt) in
          let second : EachSays port_entry (λ (entry : Entry). Opens entry ∷ []) ((0x7F, d.cycle_time - guard) ∷ (0x00, guard) ∷ []) =
          (port_entry_says (0x7F, d.cycle_time - guard) (omega arith) small, last) in
          (port_entry_says (0xBF, d.cycle_time - guard) (omega arith) small, (port_entry_says (0x00, guard) (omega arith) short, second))

  -- the items of a port
  abbrev items_at_port : ℕ → List Item
  items_at_port link = AtPort (name_of_link d link) ∷ map Opens (compiled_lists d link)

  pub port_says : (link : ℕ) → Says (port_text d links link) (items_at_port link)
  port_says link comma rest =
      let entries = compiled_lists d link in
      let more : List ℕ = port_round entries ++ close comma rest in
      ap items_of (before_parts (port_head d links link) (port_list_text entries) (port_round entries) (close comma rest) (codes ",\n"))
      ∙ port_begins d links domain named link (port_list_text entries ++ close true more)
      ∙ ap (λ (items : List Item). AtPort (name_of_link d link) ∷ items)
      (port_list_says entries more (ports_entries link) ∙ ap (λ (items : List Item). map Opens entries ++ items) (port_round_says entries comma rest))

-- ---- streams

-- the length of a gate's list, and the list
gate_list_says : (entries : List StreamEntry) (more : List ℕ) → All IsReadable entries →
    items_of (gate_list_text entries ++ close true more) ≡ map Passes entries ++ items_of more
gate_list_says entries more good =
    let count : List ℕ = decimal (length entries) in
    let all : List ℕ = elements (codes "          ") (map gate_entry entries) in
    let second : List ℕ = codes "          \"PSFPAdminControlList\": [" ++ (all ++ close true more) in
    ap items_of (before_one (codes "          \"PSFPAdminControlListLength\": ") count (codes ",\n          \"PSFPAdminControlList\": [" ++ all) (close true more))
    ∙ silent_value (codes "          \"PSFPAdminControlListLength\": ") count (codes ",") second refl (number_within (length entries)) refl (λ rest. refl)
    ∙ array_says gate_entry (λ (entry : StreamEntry). Passes entry ∷ []) (codes "          \"PSFPAdminControlList\": [") (codes "          ") entries refl
    (λ rest. refl) refl (λ rest. refl)
    (each_says gate_entry (λ (entry : StreamEntry). Passes entry ∷ []) IsReadable gate_entry_says entries good) true more
    ∙ ap (λ (items : List Item). items ++ items_of more) (ones Passes entries)

gate_round_says : (entries : List StreamEntry) → Says (gate_round_text entries) []
gate_round_says entries comma rest =
    let time : List ℕ = decimal (gate_round entries) in
    let second : List ℕ = codes "          \"PSFPAdminBaseTime\": { \"seconds\": 0, \"nanoseconds\": 0 }\n        }" ++ close comma rest in
    ap items_of (before_one (codes "          \"PSFPAdminCycleTime\": { \"numerator\": ") time
    (codes ", \"denominator\": 1000000000 },\n          \"PSFPAdminBaseTime\": { \"seconds\": 0, \"nanoseconds\": 0 }\n        }") (close comma rest))
    ∙ silent_value (codes "          \"PSFPAdminCycleTime\": { \"numerator\": ") time (codes ", \"denominator\": 1000000000 },") second refl
    (number_within (gate_round entries)) refl (λ more. refl)
    ∙ silent_line (codes "          \"PSFPAdminBaseTime\": { \"seconds\": 0, \"nanoseconds\": 0 }") (codes "        }" ++ close comma rest) refl (λ more. refl)
    ∙ silent_end (codes "        }") refl (λ more. refl) comma rest

-- the filter of a stream
filter_says : (gate : ℕ) (more : List ℕ) → items_of (filter_text gate ++ more) ≡ items_of more
filter_says gate more =
    let index : List ℕ = decimal gate in
    let fourth : List ℕ = codes "          \"StreamGateInstanceID\": " ++ (index ++ (codes "," ++ 10 ∷ more)) in
    let third : List ℕ = codes "          \"PrioritySpec\": \"wildcard\"," ++ 10 ∷ fourth in
    let second : List ℕ = codes "          \"StreamHandleSpec\": " ++ (index ++ (codes "," ++ 10 ∷ third)) in
    let within = number_within gate in
    ap items_of (before_three (codes "          \"StreamFilterInstance\": ") index (codes ",\n          \"StreamHandleSpec\": ") index
    (codes ",\n          \"PrioritySpec\": \"wildcard\",\n          \"StreamGateInstanceID\": ") index (codes ",\n") more)
    ∙ silent_value (codes "          \"StreamFilterInstance\": ") index (codes ",") second refl within refl (λ rest. refl)
    ∙ silent_value (codes "          \"StreamHandleSpec\": ") index (codes ",") third refl within refl (λ rest. refl)
    ∙ silent_line (codes "          \"PrioritySpec\": \"wildcard\",") fourth refl (λ rest. refl)
    ∙ silent_value (codes "          \"StreamGateInstanceID\": ") index (codes ",") more refl within refl (λ rest. refl)

-- its gate's index
gate_begins : (gate : ℕ) (more : List ℕ) → gate < 2 ^ 64 → items_of (gate_head gate ++ more) ≡ AtGate gate ∷ items_of more
gate_begins gate more small =
    let index : List ℕ = decimal gate in
    let third : List ℕ = codes "          \"PSFPAdminGateStates\": \"closed\"," ++ 10 ∷ more in
    let second : List ℕ = codes "          \"PSFPGateEnabled\": true," ++ 10 ∷ third in
    let written : items_of second ≡ items_of more =
    silent_line (codes "          \"PSFPGateEnabled\": true,") third refl (λ rest. refl)
    ∙ silent_line (codes "          \"PSFPAdminGateStates\": \"closed\",") more refl (λ rest. refl) in
    ap items_of (before_one (codes "          \"StreamGateInstance\": ") index
    (codes ",\n          \"PSFPGateEnabled\": true,\n          \"PSFPAdminGateStates\": \"closed\",\n") more)
    ∙ value_line (codes "          \"StreamGateInstance\": ") index (codes ",") second refl (number_within gate) refl
    ∙ ap (λ (found : Option ℕ). only (option_or (option_map AtGate found) None) ++ items_of second)
    (ap decimal_value (up_to_end 44 index [] (omega arith) (decimal_plain gate)) ∙ decimal_read gate small)
    ∙ ap (λ (items : List Item). AtGate gate ∷ items) written

-- how its frames are identified
mac_within : (mac : Option (List ℕ)) → IsWithin (mac_or_null mac)
mac_within None = refl
mac_within (Some mac) = text_within (mac_text mac) (mac_plain mac)

address_says : (addresses : List StreamAddress) (number : ℕ) (more : List ℕ) → items_of (address_text addresses number ++ more) ≡ items_of more
address_says addresses number more =
    let index : List ℕ = decimal (gate_index addresses number) in
    let mac : List ℕ = mac_or_null (mac_of_stream addresses number) in
    let vlan : List ℕ = number_or_null (vlan_of_stream addresses number) in
    let fifth : List ℕ = codes "          \"tsnCpeNullDownVlan\": " ++ (vlan ++ (codes "," ++ 10 ∷ more)) in
    let fourth : List ℕ = codes "          \"tsnCpeNullDownTagged\": \"tagged\"," ++ 10 ∷ fifth in
    let third : List ℕ = codes "          \"tsnCpeNullDownDestMac\": " ++ (mac ++ (codes "," ++ 10 ∷ fourth)) in
    let second : List ℕ = codes "          \"tsnStreamIdIdentificationType\": 1," ++ 10 ∷ third in
    ap items_of (before_three (codes "          \"tsnStreamIdHandle\": ") index
    (codes ",\n          \"tsnStreamIdIdentificationType\": 1,\n          \"tsnCpeNullDownDestMac\": ") mac
    (codes ",\n          \"tsnCpeNullDownTagged\": \"tagged\",\n          \"tsnCpeNullDownVlan\": ") vlan (codes ",\n") more)
    ∙ silent_value (codes "          \"tsnStreamIdHandle\": ") index (codes ",") second refl (number_within (gate_index addresses number)) refl (λ rest. refl)
    ∙ silent_line (codes "          \"tsnStreamIdIdentificationType\": 1,") third refl (λ rest. refl)
    ∙ silent_value (codes "          \"tsnCpeNullDownDestMac\": ") mac (codes ",") fourth refl (mac_within (mac_of_stream addresses number)) refl (λ rest. refl)
    ∙ silent_line (codes "          \"tsnCpeNullDownTagged\": \"tagged\",") fifth refl (λ rest. refl)
    ∙ silent_value (codes "          \"tsnCpeNullDownVlan\": ") vlan (codes ",") more refl
    (plain_within vlan (number_plain (vlan_of_stream addresses number))) refl (λ rest. refl)

before_four : (a b c d e more : List ℕ) → (a ++ (b ++ (c ++ (d ++ e)))) ++ more ≡ a ++ (b ++ (c ++ (d ++ (e ++ more))))
before_four a b c d e more = simp append_assoc

-- its filter and its gate
gate_says : (gate : ℕ) (entries : List StreamEntry) → gate < 2 ^ 64 → All IsReadable entries → Says (gate_text gate entries) (AtGate gate ∷ map Passes entries)
gate_says gate entries small good comma rest =
    let more : List ℕ = gate_round_text entries ++ close comma rest in
    ap items_of (before_four (filter_text gate) (gate_head gate) (gate_list_text entries) (codes ",\n") (gate_round_text entries) (close comma rest))
    ∙ filter_says gate (gate_head gate ++ (gate_list_text entries ++ close true more))
    ∙ gate_begins gate (gate_list_text entries ++ close true more) small
    ∙ ap (λ (items : List Item). AtGate gate ∷ items)
    (gate_list_says entries more good ∙ ap (λ (items : List Item). map Passes entries ++ items) (gate_round_says entries comma rest))

module _ (d : Domain) (addresses : List StreamAddress) (links : List LinkInterfaces) (domain : IsDomain d) (named : AreNamed links) where
  -- the ingress by which a stream arrives is within a line
  ingress_within : (ingress : Option ℕ) → IsWithin (ingress_name d ingress)
  ingress_within None = refl
  ingress_within (Some link) = text_within (name_of_link d link) (link_plain d domain link)

  interface_within : (ingress : Option ℕ) → IsWithin (ingress_interface links ingress)
  interface_within None = refl
  interface_within (Some link) = quoted_within (far_interface links link) (named link).1

  -- its name and that way
  stream_begins : (row : Row) (ingress : Option ℕ) (more : List ℕ) → IsPlain row.name →
      items_of (stream_head d links row ingress ++ more) ≡ AtStream row.name ∷ items_of more
  stream_begins row ingress more plain =
      let from : List ℕ = ingress_name d ingress in
      let face : List ℕ = ingress_interface links ingress in
      let fourth : List ℕ = codes "          \"interface\": " ++ (face ++ (codes "," ++ 10 ∷ more)) in
      let third : List ℕ = codes "          \"from\": " ++ (from ++ (codes "," ++ 10 ∷ fourth)) in
      let second : List ℕ = codes "          \"stream\": \"" ++ (row.name ++ (codes "\"," ++ 10 ∷ third)) in
      let written : items_of third ≡ items_of more =
      silent_value (codes "          \"from\": ") from (codes ",") fourth refl (ingress_within ingress) refl (λ rest. refl)
      ∙ silent_value (codes "          \"interface\": ") face (codes ",") more refl (interface_within ingress) refl (λ rest. refl) in
      ap items_of (before_three (codes "        {\n          \"stream\": \"") row.name (codes "\",\n          \"from\": ") from
      (codes ",\n          \"interface\": ") face (codes ",\n") more)
      ∙ silent_line (codes "        {") second refl (λ rest. refl)
      ∙ value_line (codes "          \"stream\": \"") row.name (codes "\",") third refl (plain_within row.name plain) refl
      ∙ ap (λ (text : List ℕ). AtStream text ∷ items_of third) (name_up_to row.name (44 ∷ []) plain)
      ∙ ap (λ (items : List Item). AtStream row.name ∷ items) written

  -- the items of a stream at a bridge
  abbrev items_at_stream : ℕ → Row → List Item
  items_at_stream bridge row = AtStream row.name ∷ (AtGate (gate_index addresses row.no) ∷ map Passes (gate_at d row bridge))

  pub stream_says : (bridge : ℕ) (row : Row) → IsHeldRow addresses row → Says (stream_text d addresses links bridge row) (items_at_stream bridge row)
  stream_says bridge row held comma rest =
      let ingress : Option ℕ = ingress_at d bridge row in
      let gate : ℕ = gate_index addresses row.no in
      let entries : List StreamEntry = gate_at d row bridge in
      let good : All IsReadable entries =
      spans_readable d.cycle_time row.octets row.pace (hop_number_after row ingress)
      (short_round row.pace d.cycle_time held.paced domain.accepted.cycle_most) held.some (omega (arith, held.few)) in
      let parts : (stream_head d links row ingress ++ (address_text addresses row.no ++ gate_text gate entries)) ++ close comma rest
      ≡ stream_head d links row ingress ++ (address_text addresses row.no ++ (gate_text gate entries ++ close comma rest)) =
      before_one (stream_head d links row ingress) (address_text addresses row.no) (gate_text gate entries) (close comma rest) in
      ap items_of parts
      ∙ stream_begins row ingress (address_text addresses row.no ++ (gate_text gate entries ++ close comma rest)) (name_plain row.name held.named)
      ∙ ap (λ (items : List Item). AtStream row.name ∷ items)
      (address_says addresses row.no (gate_text gate entries ++ close comma rest) ∙ gate_says gate entries held.indexed good comma rest)

  -- ---- bridges

  -- the streams that leave a bridge
  streams_kept : (bridge : ℕ) (rows : List Row) →
      flat_map (items_at_stream bridge) (filter (leaves_bridge d bridge) rows) ≡ flat_map (stream_items d addresses bridge) rows
  streams_kept bridge [] = refl
  streams_kept bridge (row ∷ rows) = by (leaves_bridge d bridge row) (streams_kept bridge rows)
    where
      by : (b : Bool) → flat_map (items_at_stream bridge) (filter (leaves_bridge d bridge) rows) ≡ flat_map (stream_items d addresses bridge) rows →
          flat_map (items_at_stream bridge) (cond b (row ∷ filter (leaves_bridge d bridge) rows) (filter (leaves_bridge d bridge) rows))
          ≡ cond b (items_at_stream bridge row) [] ++ flat_map (stream_items d addresses bridge) rows
      by true rest = ap (λ (items : List Item). items_at_stream bridge row ++ items) rest
      by false rest = rest

  each_kept : (bridge : ℕ) (rows : List Row) → All (IsHeldRow addresses) rows →
      EachSays (stream_text d addresses links bridge) (items_at_stream bridge) (filter (leaves_bridge d bridge) rows)
  each_kept bridge [] all = tt
  each_kept bridge (row ∷ rows) all =
      by (leaves_bridge d bridge row) (each_kept bridge rows (λ k e inside. all (suc k) e (omega arith)))
    where
      by : (b : Bool) → EachSays (stream_text d addresses links bridge) (items_at_stream bridge) (filter (leaves_bridge d bridge) rows) →
          EachSays (stream_text d addresses links bridge) (items_at_stream bridge)
          (cond b (row ∷ filter (leaves_bridge d bridge) rows) (filter (leaves_bridge d bridge) rows))
      by true rest = (stream_says bridge row (all 0 row (omega arith)), rest)
      by false rest = rest

  -- a bridge with its ports and its streams
  pub bridge_says : (rows : List Row) → All (IsHeldRow addresses) rows → (bridge : ℕ) →
      Says (bridge_text d addresses links rows bridge) (bridge_items d addresses rows bridge)
  bridge_says rows held bridge comma rest =
      let name : List ℕ = name_of_bridge d bridge in
      let count : ℕ = length d.links in
      let ports : List ℕ = elements (codes "      ") (map (port_text d links) (left_below d bridge count)) in
      let streams : List ℕ = elements (codes "      ") (map (stream_text d addresses links bridge) (filter (leaves_bridge d bridge) rows)) in
      let last : List ℕ = codes "    }" ++ close comma rest in
      let fourth : List ℕ = codes "      \"streams\": [" ++ (streams ++ close false last) in
      let third : List ℕ = codes "      \"ports\": [" ++ (ports ++ close true fourth) in
      let second : List ℕ = codes "      \"bridge\": \"" ++ (name ++ (codes "\"," ++ 10 ∷ third)) in
      let of_ports : items_of third ≡ flat_map (items_at_port d links domain named) (left_below d bridge count) ++ items_of fourth =
      array_says (port_text d links) (items_at_port d links domain named) (codes "      \"ports\": [") (codes "      ") (left_below d bridge count) refl
      (λ more. refl) refl (λ more. refl)
      (all_say (port_text d links) (items_at_port d links domain named) (port_says d links domain named) (left_below d bridge count)) true fourth in
      let of_streams : items_of fourth ≡ flat_map (items_at_stream bridge) (filter (leaves_bridge d bridge) rows) ++ items_of last =
      array_says (stream_text d addresses links bridge) (items_at_stream bridge) (codes "      \"streams\": [") (codes "      ")
      (filter (leaves_bridge d bridge) rows) refl (λ more. refl) refl (λ more. refl) (each_kept bridge rows held) false last in
      let of_both : items_of third ≡ (each_below (port_items d bridge) count ++ flat_map (stream_items d addresses bridge) rows) ++ items_of rest =
      of_ports
      ∙ ap (λ (items : List Item). items ++ items_of fourth) (made_of_kept (λ link. leaves d link bridge) (items_at_port d links domain named) count)
      ∙ ap (λ (items : List Item). each_below (port_items d bridge) count ++ items)
      (of_streams ∙ ap (λ (items : List Item). items ++ items_of last) (streams_kept bridge rows)
      ∙ ap (λ (items : List Item). flat_map (stream_items d addresses bridge) rows ++ items) (silent_end (codes "    }") refl (λ more. refl) comma rest))
      ∙ sym (append_assoc (each_below (port_items d bridge) count) (flat_map (stream_items d addresses bridge) rows) (items_of rest)) in
      ap items_of (before_three (codes "    {\n      \"bridge\": \"") name (codes "\",\n      \"ports\": ") (91 ∷ ports) (codes ",\n      \"streams\": ")
      (91 ∷ streams) (codes "\n    }") (close comma rest))
      ∙ silent_line (codes "    {") second refl (λ more. refl)
      ∙ value_line (codes "      \"bridge\": \"") name (codes "\",") third refl (plain_within name (bridge_plain d domain bridge)) refl
      ∙ ap (λ (text : List ℕ). AtBridge text ∷ items_of third) (name_up_to name (44 ∷ []) (bridge_plain d domain bridge))
      ∙ ap (λ (items : List Item). AtBridge name ∷ items) of_both

-- lists for the numbers below a bound, concatenated
of_numbers : {A : Type 0} (f : ℕ → List A) (count : ℕ) → flat_map f (numbers_below count) ≡ each_below f count
of_numbers f zero = refl
of_numbers {A} f (suc count) =
    flat_map-append f (numbers_below count) (count ∷ [])
    ∙ (λ i. of_numbers f count i ++ append-nil (f count) i)

pub lists_held : JsonHoldsTheLists
lists_held d addresses links rows domain named held =
    let cycle : List ℕ = decimal d.cycle_time in
    let guard : List ℕ = decimal d.guard in
    let bridges : List ℕ = numbers_below (length d.bridges) in
    let all : List ℕ = elements (codes "  ") (map (bridge_text d addresses links rows) bridges) in
    let fourth : List ℕ = codes "  \"bridges\": [" ++ (all ++ close false (codes "}" ++ 10 ∷ [])) in
    let third : List ℕ = codes "  \"guard\": " ++ (guard ++ (codes "," ++ 10 ∷ fourth)) in
    let second : List ℕ = codes "  \"cycle\": " ++ (cycle ++ (codes "," ++ 10 ∷ third)) in
    silent_line (codes "{") second refl (λ more. refl)
    ∙ silent_value (codes "  \"cycle\": ") cycle (codes ",") third refl (number_within d.cycle_time) refl (λ more. refl)
    ∙ silent_value (codes "  \"guard\": ") guard (codes ",") fourth refl (number_within d.guard) refl (λ more. refl)
    ∙ array_says (bridge_text d addresses links rows) (bridge_items d addresses rows) (codes "  \"bridges\": [") (codes "  ") bridges refl (λ more. refl) refl
    (λ more. refl) (all_say (bridge_text d addresses links rows) (bridge_items d addresses rows) (bridge_says d addresses links domain named rows held) bridges)
    false (codes "}" ++ 10 ∷ [])
    ∙ ap (λ (items : List Item). flat_map (bridge_items d addresses rows) bridges ++ items) (silent_line (codes "}") [] refl (λ more. refl))
    ∙ append-nil (flat_map (bridge_items d addresses rows) bridges)
    ∙ of_numbers (bridge_items d addresses rows) (length d.bridges)
