-- The variables that a bridge's file sets are those that its function requires.
use Rattle.std.proofs.Common.{ℕ, ◌≡◌, ◌<◌, ◌++◌, ◌==◌, ◌∙◌, ◌/◌, ◌%◌, Bool, true, false, not, List, [], ◌∷◌, Contains, Option, Some, None, ap, append-nil, arith}
use Rattle.std.proofs.Common.{codes, decimal, length, refl, sym, suc, take, zero}
use Rattle.std.specs.Prelude.{if◌then◌else◌, option_and_then, option_map, slice_get, slice_index}
use Rattle.std.specs.List.{flat_map, list_all}
use Rattle.std.specs.Option.{option_map_or}
use Rattle.std.proofs.lemmas.Bool.{and_from}
use Rattle.std.proofs.lemmas.Bool.Decides.{nat_tests}
use Rattle.std.proofs.lemmas.List.Concat.{flat_map-append}
use Rattle.cqf_addressing.specs.Interface.{is_alphanumeric, is_interface, is_interface_byte}
use Rattle.cqf_addressing.specs.Links.{far_interface, near_interface}
use Rattle.cqf_addressing.specs.Mac.{hex_digit, hex_pair, mac_text}
use Rattle.cqf_addressing.specs.Streams.{mac_of_stream, vlan_of_stream}
use Rattle.cqf_addressing.specs.declared.links.LinkInterfaces.{LinkInterfaces}
use Rattle.cqf_addressing.specs.declared.streams.StreamAddress.{StreamAddress}
use Rattle.cqf_lists.specs.Lists.{each_below}
use Rattle.cqf_lists.proofs.Members.{contains_at}
use Rattle.cqf_text.specs.Lines.{lines_of}
use Rattle.cqf_model.specs.declared.topology.Row.{Row}
use Rattle.cqf_model.specs.Domain.{Domain, bridge_of, leaves}
use Rattle.cqf_topology.specs.DomainText.{IsDomain}
use Rattle.cqf_topology.specs.NodeNames.{name_of_bridge}
use Rattle.cqf_admission.specs.Grants.{HaveNames}
use Rattle.cqf_program_plans.specs.EndNames.{name_of_end}
use Rattle.cqf_program_tc.specs.Bridge.{each_link, each_stream, if_left, in_variable, ingress_at, stream_at}
use Rattle.cqf_program_tc.specs.Env.{env_text, frame_lines, head_text, in_lines, ingress_lines, lines_by, mac_of, out_lines, stream_env, value_text, vlan_of}
use Rattle.cqf_program_tc.specs.Variables.{link_variable, stream_variable}
use Rattle.cqf_program_tc.specs.Wanted.{EnvHasWhatTheScriptWants, HaveForm, set_by, set_in}
use Rattle.cqf_program_tc.proofs.CallLemmas.{frame_wants, link_wants, stream_wants, up_to, wanted_are_due, wants_at, wants_by, wants_due}
use Rattle.cqf_program_tc.proofs.Lines.{AreWithin, IsWithin, Reads, both_true, bridge_within, decimal_within, end_within, is_within, name_within}
use Rattle.cqf_program_tc.proofs.Lines.{onto, reads_none, reads_pieces, reads_then, within_then}
use Rattle.cqf_program_tc.proofs.VariableLines.{is_no_equals, link_all, link_variable_within, pass_equals, stream_all, stream_variable_within}

-- a text of whole lines that sets these variables
record Sets (text : List ℕ) (names : List (List ℕ)) : Type 0 where
  pub lines : List (List ℕ)
  pub reads : Reads text lines
  pub set : flat_map set_by lines ≡ names

sets_none : Sets [] []
sets_none = record { lines = []; reads = reads_none; set = refl }

sets_then : (a b : List ℕ) (u v : List (List ℕ)) → Sets a u → Sets b v → Sets (a ++ b) (u ++ v)
sets_then a b u v of_a of_b = record {
  lines = of_a.lines ++ of_b.lines;
  reads = reads_then a b of_a.lines of_b.lines of_a.reads of_b.reads;
  set = flat_map-append set_by of_a.lines of_b.lines ∙ ap (λ names. names ++ flat_map set_by of_b.lines) of_a.set ∙ ap (λ names. u ++ names) of_b.set;
}

sets_line : (pieces : List (List ℕ)) (last following : List ℕ) (own names : List (List ℕ)) → AreWithin pieces last → set_by (onto pieces last) ≡ own →
    Sets following names → Sets (onto pieces (last ++ 10 ∷ following)) (own ++ names)
sets_line pieces last following own names within is more = record {
  lines = onto pieces last ∷ more.lines;
  reads = reads_pieces pieces last following more.lines within more.reads;
  set = ap (λ (mine : List (List ℕ)). mine ++ flat_map set_by more.lines) is ∙ ap (λ (rest : List (List ℕ)). own ++ rest) more.set;
}

sets_some : (b : Bool) (text : List ℕ) (names : List (List ℕ)) → Sets text names → Sets (if b then text else []) (if b then names else [])
sets_some true text names said = said
sets_some false text names said = sets_none

sets_below : (text : ℕ → List ℕ) (names : ℕ → List (List ℕ)) (n : ℕ) → ((k : ℕ) → Sets (text k) (names k)) → Sets (each_below text n) (each_below names n)
sets_below text names zero each = sets_none
sets_below text names (suc n) each =
    sets_then (each_below text n) (text n) (each_below names n) (names n) (sets_below text names n each) (each n)

-- each value is within one line
interface_bytes : (name : List ℕ) → list_all is_interface_byte name ≡ true → IsWithin name
interface_bytes [] form = refl
interface_bytes (byte ∷ name) form =
    let parts = both_true (is_interface_byte byte) (list_all is_interface_byte name) form in
    and_from (is_within byte) (list_all is_within name) (one byte parts.0) (interface_bytes name parts.1)
  where
    one : (byte : ℕ) → is_interface_byte byte ≡ true → is_within byte ≡ true
    one byte form = grind (arith, nat_tests)

interface_within : (name : List ℕ) → is_interface name ≡ true → IsWithin name
interface_within [] form = refl
interface_within (byte ∷ name) form =
    let parts = both_true _ (list_all is_interface_byte name) form in
    let first = both_true (is_alphanumeric byte) _ parts.0 in
    and_from (is_within byte) (list_all is_within name) (one byte first.0) (interface_bytes name parts.1)
  where
    one : (byte : ℕ) → is_alphanumeric byte ≡ true → is_within byte ≡ true
    one byte form = grind (arith, nat_tests)

value_within : (value : Option (List ℕ)) → ((text : List ℕ) → value ≡ Some text → IsWithin text) → IsWithin (value_text value)
value_within None each = refl
value_within (Some text) each = each text refl

module _ (interfaces : List LinkInterfaces) (form : HaveForm interfaces) where
  near_within : (link : ℕ) → IsWithin (value_text (near_interface interfaces link))
  near_within link = of_link (slice_get interfaces link) refl
    where
      of_link : (found : Option LinkInterfaces) → slice_get interfaces link ≡ found →
          IsWithin (value_text (option_and_then (λ (l : LinkInterfaces). l.near) found))
      of_link None is = refl
      of_link (Some l) is = value_within l.near (λ name own. interface_within name (form.near l name (contains_at interfaces link l is) own))

  far_within : (link : ℕ) → IsWithin (value_text (far_interface interfaces link))
  far_within link = of_link (slice_get interfaces link) refl
    where
      of_link : (found : Option LinkInterfaces) → slice_get interfaces link ≡ found →
          IsWithin (value_text (option_and_then (λ (l : LinkInterfaces). l.far) found))
      of_link None is = refl
      of_link (Some l) is = value_within l.far (λ name own. interface_within name (form.far l name (contains_at interfaces link l is) own))

hex_within : (n : ℕ) → is_within (hex_digit n) ≡ true
hex_within n = grind (arith, nat_tests)

pair_within : (octet : ℕ) → IsWithin (hex_pair octet)
pair_within octet =
    and_from (is_within (hex_digit (octet / 16))) _ (hex_within (octet / 16)) (and_from (is_within (hex_digit (octet % 16))) true (hex_within (octet % 16)) refl)

then_within : (octet : ℕ) (text : List ℕ) → IsWithin text → IsWithin (hex_pair octet ++ (58 ∷ [] ++ text))
then_within octet text within =
    within_then (hex_pair octet) (58 ∷ [] ++ text) (pair_within octet) (within_then (58 ∷ []) text refl within)

mac_within : (octets : List ℕ) → IsWithin (mac_text octets)
mac_within octets =
    let pair : ℕ → List ℕ = λ k. hex_pair (slice_index octets k) in
    let four : List ℕ = pair 4 ++ (58 ∷ [] ++ pair 5) in
    let three : List ℕ = pair 3 ++ (58 ∷ [] ++ four) in
    let two : List ℕ = pair 2 ++ (58 ∷ [] ++ three) in
    let one : List ℕ = pair 1 ++ (58 ∷ [] ++ two) in
    then_within (slice_index octets 0) one (then_within (slice_index octets 1) two (then_within (slice_index octets 2) three
    (then_within (slice_index octets 3) four (then_within (slice_index octets 4) (pair 5) (pair_within (slice_index octets 5))))))

mac_of_within : (addresses : List StreamAddress) (number : ℕ) → IsWithin (mac_of addresses number)
mac_of_within addresses number = of_mac (mac_of_stream addresses number)
  where
    of_mac : (mac : Option (List ℕ)) → IsWithin (value_text (option_map mac_text mac))
    of_mac None = refl
    of_mac (Some octets) = mac_within octets

vlan_of_within : (addresses : List StreamAddress) (number : ℕ) → IsWithin (vlan_of addresses number)
vlan_of_within addresses number = of_vlan (vlan_of_stream addresses number)
  where
    of_vlan : (vlan : Option ℕ) → IsWithin (value_text (option_map decimal vlan))
    of_vlan None = refl
    of_vlan (Some vlan) = decimal_within vlan

module _ (d : Domain) (domain : IsDomain d) (interfaces : List LinkInterfaces) (form : HaveForm interfaces) (addresses : List StreamAddress)
    (bridge : ℕ) where
  -- the line that sets the variable of a link, after the variable's prefix
  link_equals : (link : ℕ) → list_all is_no_equals (link_variable d link) ≡ true
  link_equals link = link_all is_no_equals pass_equals d domain link

  sets_out : (link : ℕ) → Sets (out_lines d interfaces bridge link) ((codes "OUT_" ++ link_variable d link) ∷ [])
  sets_out link =
      let value = value_text (near_interface interfaces link) in
      sets_line (codes "# interface of " ∷ name_of_bridge d bridge ∷ codes " to " ∷ name_of_end d link ∷ []) []
      (codes "OUT_" ++ (link_variable d link ++ (codes "=" ++ (value ++ 10 ∷ [])))) [] ((codes "OUT_" ++ link_variable d link) ∷ [])
      (refl, (bridge_within d domain bridge, (refl, (end_within d domain link, refl)))) refl
      (sets_line (codes "OUT_" ∷ link_variable d link ∷ codes "=" ∷ value ∷ []) [] [] ((codes "OUT_" ++ link_variable d link) ∷ []) []
      (refl, (link_variable_within d domain link, (refl, (near_within interfaces form link, refl))))
      (ap (λ (v : List ℕ). (codes "OUT_" ++ v) ∷ []) (up_to 61 (link_variable d link) _ (link_equals link) refl)) sets_none)

  sets_in : (link : ℕ) → Sets (in_lines d interfaces bridge link) ((codes "IN_" ++ link_variable d link) ∷ [])
  sets_in link =
      let value = value_text (far_interface interfaces link) in
      sets_line (codes "# interface of " ∷ name_of_bridge d bridge ∷ codes " to " ∷ name_of_bridge d (bridge_of d link) ∷ []) []
      (codes "IN_" ++ (link_variable d link ++ (codes "=" ++ (value ++ 10 ∷ [])))) [] ((codes "IN_" ++ link_variable d link) ∷ [])
      (refl, (bridge_within d domain bridge, (refl, (bridge_within d domain (bridge_of d link), refl)))) refl
      (sets_line (codes "IN_" ∷ link_variable d link ∷ codes "=" ∷ value ∷ []) [] [] ((codes "IN_" ++ link_variable d link) ∷ []) []
      (refl, (link_variable_within d domain link, (refl, (far_within interfaces form link, refl))))
      (ap (λ (v : List ℕ). (codes "IN_" ++ v) ∷ []) (up_to 61 (link_variable d link) _ (link_equals link) refl)) sets_none)

  -- of a stream
  module _ (variable : List ℕ) (row : Row) (own : IsWithin variable) (named : IsWithin row.name) (equals : list_all is_no_equals variable ≡ true) where
    sets_ingress : (ingress : Option ℕ) → Sets (ingress_lines d interfaces bridge variable row ingress) (in_variable d variable ingress ∷ [])
    sets_ingress None =
        sets_line (codes "# interface of " ∷ name_of_bridge d bridge ∷ codes " to the talker of " ∷ row.name ∷ []) []
        (codes "TALKER_" ++ (variable ++ codes "=\n")) [] ((codes "TALKER_" ++ variable) ∷ [])
        (refl, (bridge_within d domain bridge, (refl, (named, refl)))) refl
        (sets_line (codes "TALKER_" ∷ variable ∷ codes "=" ∷ []) [] [] ((codes "TALKER_" ++ variable) ∷ []) [] (refl, (own, (refl, refl)))
        (ap (λ (v : List ℕ). (codes "TALKER_" ++ v) ∷ []) (up_to 61 variable _ equals refl)) sets_none)
    sets_ingress (Some link) = sets_in link

    sets_frames : Sets (frame_lines addresses variable row) (frame_wants variable)
    sets_frames =
        let mac = mac_of addresses row.no in
        let vlan = vlan_of addresses row.no in
        let at_vlan : List ℕ = codes "VLAN_" ++ (variable ++ (codes "=" ++ (vlan ++ 10 ∷ []))) in
        let after_mac : List ℕ = codes "# VLAN of " ++ (row.name ++ 10 ∷ at_vlan) in
        sets_line (codes "# destination address of " ∷ row.name ∷ []) [] (codes "MAC_" ++ (variable ++ (codes "=" ++ (mac ++ 10 ∷ after_mac)))) []
        (frame_wants variable) (refl, (named, refl)) refl
        (sets_line (codes "MAC_" ∷ variable ∷ codes "=" ∷ mac ∷ []) [] after_mac ((codes "MAC_" ++ variable) ∷ []) ((codes "VLAN_" ++ variable) ∷ [])
        (refl, (own, (refl, (mac_of_within addresses row.no, refl))))
        (ap (λ (v : List ℕ). (codes "MAC_" ++ v) ∷ []) (up_to 61 variable _ equals refl))
        (sets_line (codes "# VLAN of " ∷ row.name ∷ []) [] at_vlan [] ((codes "VLAN_" ++ variable) ∷ []) (refl, (named, refl)) refl
        (sets_line (codes "VLAN_" ∷ variable ∷ codes "=" ∷ vlan ∷ []) [] [] ((codes "VLAN_" ++ variable) ∷ []) []
        (refl, (own, (refl, (vlan_of_within addresses row.no, refl))))
        (ap (λ (v : List ℕ). (codes "VLAN_" ++ v) ∷ []) (up_to 61 variable _ equals refl)) sets_none)))

    sets_stream : (ingress : Option (Option ℕ × Bool)) →
        Sets (option_map_or (lines_by d interfaces addresses bridge variable row) ingress []) (option_map_or (wants_by d variable) ingress [])
    sets_stream None = sets_none
    sets_stream (Some ingress) =
        sets_then (if ingress.1 then ingress_lines d interfaces bridge variable row ingress.0 else []) (frame_lines addresses variable row)
        (if ingress.1 then in_variable d variable ingress.0 ∷ [] else []) (frame_wants variable)
        (sets_some ingress.1 (ingress_lines d interfaces bridge variable row ingress.0) (in_variable d variable ingress.0 ∷ []) (sets_ingress ingress.0)) sets_frames

  sets_head : Sets (head_text d bridge) (codes "BASE" ∷ codes "CHAIN" ∷ [])
  sets_head =
      let name = bridge_within d domain bridge in
      let both : List (List ℕ) = codes "BASE" ∷ codes "CHAIN" ∷ [] in
      let at_filter : List ℕ = codes "# filter chain of the gates, 0 if left out\nCHAIN=\n" in
      let at_base : List ℕ = codes "BASE=\n" ++ at_filter in
      let at_instant : List ℕ = codes "# instant of the PTP clock in ns from which on the lists begin, the same at each bridge\nBASE=\n" ++ at_filter in
      let at_use : List ℕ = codes "# set -a; . ./FILE; sh SCRIPT " ++ (name_of_bridge d bridge ++ 10 ∷ at_instant) in
      sets_line
      (codes "# Variables of the bridge " ∷ name_of_bridge d bridge ∷ [])
      (codes " for the script that cqf compile --format tc writes: fill them in, and") at_use [] both (refl, (name, refl)) refl
      (sets_line (codes "# set -a; . ./FILE; sh SCRIPT " ∷ name_of_bridge d bridge ∷ []) [] at_instant [] both (refl, (name, refl)) refl
      (sets_line [] (codes "# instant of the PTP clock in ns from which on the lists begin, the same at each bridge") at_base [] both refl refl
      (sets_line [] (codes "BASE=") at_filter (codes "BASE" ∷ []) (codes "CHAIN" ∷ []) refl refl
      (sets_line [] (codes "# filter chain of the gates, 0 if left out") (codes "CHAIN=\n") [] (codes "CHAIN" ∷ []) refl refl
      (sets_line [] (codes "CHAIN=") [] (codes "CHAIN" ∷ []) [] refl refl sets_none)))))

module _ (d : Domain) (domain : IsDomain d) (interfaces : List LinkInterfaces) (form : HaveForm interfaces) (addresses : List StreamAddress)
    (rows : List Row) (names : HaveNames rows) (bridge : ℕ) where
  sets_streams : Sets (each_stream (stream_env d interfaces addresses rows bridge) rows)
      (each_below (wants_at (stream_wants d rows bridge) rows) (length rows))
  sets_streams =
      sets_below (stream_at (stream_env d interfaces addresses rows bridge) rows) (wants_at (stream_wants d rows bridge) rows) (length rows)
      (λ k. at k (slice_get rows k) refl)
    where
      at : (k : ℕ) (found : Option Row) → slice_get rows k ≡ found →
          Sets (option_map_or (stream_env d interfaces addresses rows bridge (take k rows)) found [])
          (option_map_or (stream_wants d rows bridge (take k rows)) found [])
      at k None is = sets_none
      at k (Some row) is =
          let named = names row (contains_at rows k row is) in
          sets_stream d domain interfaces form addresses bridge (stream_variable rows row) row (stream_variable_within rows row named)
          (name_within row.name named) (stream_all is_no_equals pass_equals rows row named) (ingress_at d bridge (take k rows) row)

  sets_links : Sets (each_link d bridge (out_lines d interfaces bridge)) (each_below (link_wants d bridge) (length d.links))
  sets_links =
      sets_below (if_left d bridge (out_lines d interfaces bridge)) (link_wants d bridge) (length d.links)
      (λ link. sets_some (leaves d link bridge) (out_lines d interfaces bridge link) ((codes "OUT_" ++ link_variable d link) ∷ [])
      (sets_out d domain interfaces form addresses bridge link))

  sets_all : Sets (env_text d interfaces addresses rows bridge) (codes "BASE" ∷ codes "CHAIN" ∷ wants_due d rows bridge)
  sets_all =
      let outs = each_link d bridge (out_lines d interfaces bridge) in
      let streams = each_stream (stream_env d interfaces addresses rows bridge) rows in
      let links : List (List ℕ) = each_below (link_wants d bridge) (length d.links) in
      let others : List (List ℕ) = each_below (wants_at (stream_wants d rows bridge) rows) (length rows) in
      sets_then (head_text d bridge) (outs ++ streams) (codes "BASE" ∷ codes "CHAIN" ∷ []) (links ++ others)
      (sets_head d domain interfaces form addresses bridge) (sets_then outs streams links others sets_links sets_streams)

  what_is_set : set_in (env_text d interfaces addresses rows bridge) ≡ codes "BASE" ∷ codes "CHAIN" ∷ wants_due d rows bridge
  what_is_set =
      ap (λ text. flat_map set_by (lines_of text)) (sym (append-nil (env_text d interfaces addresses rows bridge)))
      ∙ ap (flat_map set_by) (sets_all.reads [] ∙ append-nil sets_all.lines) ∙ sets_all.set

pub env_wanted : EnvHasWhatTheScriptWants
env_wanted d software gates interfaces addresses rows bridge domain names form inside =
    what_is_set d domain interfaces form addresses rows names bridge
    ∙ ap (λ (wants : List (List ℕ)). codes "BASE" ∷ codes "CHAIN" ∷ wants) (sym (wanted_are_due d gates rows domain names software bridge inside))
