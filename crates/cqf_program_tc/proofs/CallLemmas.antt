-- The calls of a bridge's function are those that are due.
use Rattle.std.proofs.Common.{ℕ, ◌≡◌, ◌<◌, ◌≤◌, ◌^◌, ◌++◌, ◌==◌, ◌∙◌, Bool, true, false, not, List, [], ◌∷◌, Contains, Option}
use Rattle.std.proofs.Common.{Some, None, append-nil, ap, append_assoc}
use Rattle.std.proofs.Common.{arith, codes, cond, decimal, filter, if◌then◌else◌, inl, inr, length, refl, slice_get, suc, subst, sym, take, zero, ◌+◌}
use Rattle.std.specs.List.{flat_map, list_all}
use Rattle.std.specs.Option.{option_map_or}
use Rattle.std.specs.Prelude.{is_some}
use Rattle.std.specs.Str.Parse.{digits_value}
use Rattle.std.proofs.lemmas.Bool.{and_from, cases_Bool, cases_lt, eqb-true}
use Rattle.std.proofs.lemmas.Fmt.{digits_value-decimal}
use Rattle.std.proofs.lemmas.List.{append_cancel_left, append_cancel_right}
use Rattle.std.proofs.lemmas.List.Concat.{flat_map-append}
use Rattle.std.proofs.lemmas.List.Elements.{filter-append}
use Rattle.std.proofs.lemmas.List.Folds.{list_all-append}
use Rattle.cqf_lists.specs.Lists.{each_below}
use Rattle.cqf_lists.proofs.Members.{contains_at, contains_here, contains_later}
use Rattle.cqf_text.proofs.DecimalLemmas.{own}
use Rattle.cqf_text.specs.Lines.{lines_of}
use Rattle.cqf_model.proofs.Represented.{few_bridges}
use Rattle.cqf_model.specs.declared.topology.Hop.{Hop}
use Rattle.cqf_model.specs.declared.topology.Link.{Link}
use Rattle.cqf_model.specs.declared.topology.Row.{Row}
use Rattle.cqf_model.specs.Domain.{Domain, bridge_of, guard_by, is_text, leaves}
use Rattle.cqf_model.specs.GateList.{Entry, port_list}
use Rattle.cqf_model.proofs.Texts.{is_text_itself, is_text_same}
use Rattle.cqf_topology.specs.NodeNames.{name_of_bridge, name_of_link}
use Rattle.cqf_topology.specs.DomainText.{IsDomain}
use Rattle.cqf_admission.specs.Grants.{HaveNames}
use Rattle.cqf_compile.specs.BridgeGates.{first_hop, gate_at}
use Rattle.cqf_gates.specs.StreamText.{is_shut}
use Rattle.cqf_model.specs.declared.gates.StreamEntry.{StreamEntry}
use Rattle.cqf_program_plans.specs.EndNames.{name_of_end}
use Rattle.cqf_program_tc.specs.Bridge.{bridge_text, clearing_by, each_link, each_stream, frame_needs, gate_call, gate_target, if_left}
use Rattle.cqf_program_tc.specs.Bridge.{link_call, link_lines, list_call, list_of_own, own_list, pauses, plain_call}
use Rattle.cqf_program_tc.specs.Words.{closed_words, entry_words, list_words, octets_word, open_words, tx_words}
use Rattle.cqf_program_tc.specs.Bridge.{ingress_at, link_need, needs_by, out_need, stream_at, stream_clearing, stream_gates, stream_lines, stream_needs}
use Rattle.cqf_program_tc.specs.Bridge.{in_variable, ingress_clearing, ingress_need, out_variable, out_variables}
use Rattle.cqf_program_tc.specs.Calls.{ScriptsCallWhatIsDue, calls_at, calls_due, function_of_bridge, gate_calls, head_of, is_call, lines_before}
use Rattle.cqf_program_tc.specs.Calls.{lines_of_function}
use Rattle.cqf_program_tc.specs.Calls.{lines_after, link_calls}
use Rattle.cqf_program_tc.specs.Text.{choice_text, tc_text}
use Rattle.cqf_program_tc.specs.Variables.{link_variable, stream_variable}
use Rattle.cqf_program_tc.specs.Wanted.{text_up_to, wanted_at, wanted_by}
use Rattle.cqf_program_tc.proofs.VariableLines.{is_no_space, link_all, link_variable_within, pass_space, stream_all, stream_variable_within}
use Rattle.cqf_program_tc.proofs.Functions.{by_list_found, gate_found, link_found, to_bridges, tx_within}
use Rattle.cqf_program_tc.proofs.Lines.{AreWithin, IsWithin, Reads, both_true, bridge_within, decimal_within, end_within, link_within, name_within}
use Rattle.cqf_program_tc.proofs.Lines.{begins, onto, reads_line, reads_none, reads_pieces, reads_then, within_onto, within_then}

-- a blank
abbrev is_blank : ℕ → Bool
is_blank byte = byte == 32

-- a text of lines that begin with a blank, the calls among them, and the variables that they require
record Says (text : List ℕ) (calls wants : List (List ℕ)) : Type 0 where
  pub lines : List (List ℕ)
  pub reads : Reads text lines
  pub inside : list_all (begins is_blank) lines ≡ true
  pub called : filter is_call lines ≡ calls
  pub wanted : flat_map wanted_by lines ≡ wants

says_none : Says [] [] []
says_none = record { lines = []; reads = reads_none; inside = refl; called = refl; wanted = refl }

says_then : (a b : List ℕ) (x y u v : List (List ℕ)) → Says a x u → Says b y v → Says (a ++ b) (x ++ y) (u ++ v)
says_then a b x y u v of_a of_b = record {
  lines = of_a.lines ++ of_b.lines;
  reads = reads_then a b of_a.lines of_b.lines of_a.reads of_b.reads;
  inside = list_all-append (begins is_blank) of_a.lines of_b.lines ∙ and_from _ _ of_a.inside of_b.inside;
  called = filter-append is_call of_a.lines of_b.lines ∙ ap (λ calls. calls ++ filter is_call of_b.lines) of_a.called ∙ ap (λ calls. x ++ calls) of_b.called;
  wanted = flat_map-append wanted_by of_a.lines of_b.lines ∙ ap (λ wants. wants ++ flat_map wanted_by of_b.lines) of_a.wanted
      ∙ ap (λ wants. u ++ wants) of_b.wanted;
}

-- a line that is no call, and a line that is one
says_line : (pieces : List (List ℕ)) (last following : List ℕ) (calls here wants : List (List ℕ)) → AreWithin pieces last →
    begins is_blank (onto pieces last) ≡ true → is_call (onto pieces last) ≡ false → wanted_by (onto pieces last) ≡ here → Says following calls wants →
    Says (onto pieces (last ++ 10 ∷ following)) calls (here ++ wants)
says_line pieces last following calls here wants within blank other is more = record {
  lines = onto pieces last ∷ more.lines;
  reads = reads_pieces pieces last following more.lines within more.reads;
  inside = and_from _ _ blank more.inside;
  called = ap (λ (b : Bool). cond b (onto pieces last ∷ filter is_call more.lines) (filter is_call more.lines)) other ∙ more.called;
  wanted = ap (λ (mine : List (List ℕ)). mine ++ flat_map wanted_by more.lines) is ∙ ap (λ (rest : List (List ℕ)). here ++ rest) more.wanted;
}

says_call : (line : List ℕ) → IsWithin line → begins is_blank line ≡ true → is_call line ≡ true → wanted_by line ≡ [] → Says (line ++ 10 ∷ []) (line ∷ []) []
says_call line within blank call none = record {
  lines = line ∷ [];
  reads = reads_line line [] [] within reads_none;
  inside = and_from _ true blank refl;
  called = ap (λ (b : Bool). cond b (line ∷ []) []) call;
  wanted = ap (λ (mine : List (List ℕ)). mine ++ []) none;
}

-- a text that is there under a condition
says_if : (b : Bool) (text : List ℕ) (calls : List (List ℕ)) → Says text calls [] → Says (if b then text else []) (if b then calls else []) []
says_if true text calls said = said
says_if false text calls said = says_none

says_some : (b : Bool) (text : List ℕ) (wants : List (List ℕ)) → Says text [] wants → Says (if b then text else []) [] (if b then wants else [])
says_some true text wants said = said
says_some false text wants said = says_none

-- texts one after the other
says_below : (text : ℕ → List ℕ) (calls : ℕ → List (List ℕ)) (n : ℕ) → ((k : ℕ) → Says (text k) (calls k) []) → Says (each_below text n) (each_below calls n) []
says_below text calls zero each = says_none
says_below text calls (suc n) each =
    says_then (each_below text n) (text n) (each_below calls n) (calls n) [] [] (says_below text calls n each) (each n)

says_nothing_below : (text : ℕ → List ℕ) (wants : ℕ → List (List ℕ)) (n : ℕ) → ((k : ℕ) → Says (text k) [] (wants k)) →
    Says (each_below text n) [] (each_below wants n)
says_nothing_below text wants zero each = says_none
says_nothing_below text wants (suc n) each =
    says_then (each_below text n) (text n) [] [] (each_below wants n) (wants n) (says_nothing_below text wants n each) (each n)

says_each : (text : Row → List ℕ) (calls : Row → List (List ℕ)) (rows : List Row) → ((row : Row) → Contains rows row → Says (text row) (calls row) []) →
    Says (flat_map text rows) (flat_map calls rows) []
says_each text calls [] each = says_none
says_each text calls (row ∷ rows) each =
    says_then (text row) (flat_map text rows) (calls row) (flat_map calls rows) [] [] (each row (contains_here row rows))
    (says_each text calls rows (λ other there. each other (contains_later row rows other there)))

-- no variables
abbrev no_variables : List (List ℕ)
no_variables = []

-- the variables that are required: those of a link that leaves, of the ingress by which a stream arrives if that way is new, and of its frames
abbrev pub link_wants : Domain → ℕ → ℕ → List (List ℕ)
link_wants d bridge link = if leaves d link bridge then (codes "OUT_" ++ link_variable d link) ∷ [] else []

abbrev pub frame_wants : List ℕ → List (List ℕ)
frame_wants variable = (codes "MAC_" ++ variable) ∷ (codes "VLAN_" ++ variable) ∷ []

abbrev pub wants_by : Domain → List ℕ → (Option ℕ × Bool) → List (List ℕ)
wants_by d variable ingress = (if ingress.1 then in_variable d variable ingress.0 ∷ [] else []) ++ frame_wants variable

abbrev pub stream_wants : Domain → List Row → ℕ → List Row → Row → List (List ℕ)
stream_wants d rows bridge before row = option_map_or (wants_by d (stream_variable rows row)) (ingress_at d bridge before row) []

abbrev pub wants_at : (List Row → Row → List (List ℕ)) → List Row → ℕ → List (List ℕ)
wants_at wants rows index = option_map_or (wants (take index rows)) (slice_get rows index) []

abbrev pub wants_due : Domain → List Row → ℕ → List (List ℕ)
wants_due d rows bridge =
    each_below (link_wants d bridge) (length d.links) ++ each_below (wants_at (stream_wants d rows bridge) rows) (length rows)

-- a condition whose negation holds is false
not_true : (b : Bool) → not b ≡ true → b ≡ false
not_true false h = refl
not_true true h = absurd cc

pub up_to : (byte : ℕ) (text rest : List ℕ) → list_all (λ (x : ℕ). not (x == byte)) text ≡ true → (byte == byte) ≡ true → text_up_to byte (text ++ byte ∷ rest) ≡ text
up_to byte [] rest none same = ap (λ (b : Bool). if b then [] else byte ∷ text_up_to byte rest) same
up_to byte (x ∷ text) rest none same =
    let parts = both_true (not (x == byte)) (list_all (λ (y : ℕ). not (y == byte)) text) none in
    ap (λ (b : Bool). if b then [] else x ∷ text_up_to byte (text ++ byte ∷ rest)) (not_true (x == byte) parts.0)
    ∙ ap (λ (more : List ℕ). x ∷ more) (up_to byte text rest parts.1 same)

-- the words of a link's own list are within one line
own_within : (d : Domain) (link : ℕ) → IsWithin (own_list d link)
own_within d link = of_link (slice_get d.links link)
  where
    of_list : (own : Bool) (entries : List Entry) → IsWithin (if own then codes " \"" ++ (tx_words entries ++ codes "\"") else [])
    of_list true entries = within_then (tx_words entries) (codes "\"") (tx_within entries) refl
    of_list false entries = refl

    of_link : (o : Option Link) → IsWithin (option_map_or (list_of_own d) o [])
    of_link None = refl
    of_link (Some link) = of_list (is_some link.guard) (port_list d.cycle_time (guard_by d.guard link))

-- for a bridge of a domain
module _ (d : Domain) (domain : IsDomain d) (bridge : ℕ) where
  -- the variable of a link, in a line
  link_named : (link : ℕ) → IsWithin (link_variable d link)
  link_named link = link_variable_within d domain link

  link_spaceless : (link : ℕ) → list_all is_no_space (link_variable d link) ≡ true
  link_spaceless link = link_all is_no_space pass_space d domain link

  says_out : (link : ℕ) → Says (out_need d bridge link) [] ((codes "OUT_" ++ link_variable d link) ∷ [])
  says_out link = says_line
      (codes "    port OUT_" ∷ link_variable d link ∷ codes " \"${OUT_" ∷ link_variable d link ∷ codes ":-}\" " ∷ name_of_end d link
      ∷ codes " \"interface of " ∷ name_of_bridge d bridge ∷ codes " to " ∷ name_of_end d link ∷ [])
      (codes "\"") [] [] ((codes "OUT_" ++ link_variable d link) ∷ []) [] (
        refl,
        (
          link_named link,
          (
            refl,
            (
              link_named link,
              (
                refl,
                (
                  end_within d domain link,
                  (
                    refl,
                    (
                      bridge_within d domain bridge,
                      (refl, (end_within d domain link, refl)),
                    ),
                  ),
                ),
              ),
            ),
          ),
        ),
      ) refl refl (ap (λ (v : List ℕ). (codes "OUT_" ++ v) ∷ []) (up_to 32 (link_variable d link) _ (link_spaceless link) refl)) says_none

  says_in : (link : ℕ) → Says (link_need d bridge link) [] ((codes "IN_" ++ link_variable d link) ∷ [])
  says_in link =
      let from = bridge_within d domain (bridge_of d link) in
      says_line
      (codes "    port IN_" ∷ link_variable d link ∷ codes " \"${IN_" ∷ link_variable d link ∷ codes ":-}\" " ∷ name_of_bridge d (bridge_of d link)
      ∷ codes " \"interface of " ∷ name_of_bridge d bridge ∷ codes " to " ∷ name_of_bridge d (bridge_of d link) ∷ [])
      (codes "\"") [] [] ((codes "IN_" ++ link_variable d link) ∷ []) [] (
        refl,
        (
          link_named link,
          (
            refl,
            (
              link_named link,
              (
                refl,
                (
                  from,
                  (
                    refl,
                    (
                      bridge_within d domain bridge,
                      (refl, (from, refl)),
                    ),
                  ),
                ),
              ),
            ),
          ),
        ),
      ) refl refl (ap (λ (v : List ℕ). (codes "IN_" ++ v) ∷ []) (up_to 32 (link_variable d link) _ (link_spaceless link) refl)) says_none

  -- the lines of a link
  says_link : (link : ℕ) → Says (if_left d bridge (link_lines d) link) (link_calls d bridge link) []
  says_link link =
      let call : IsWithin (link_call d link) =
      within_onto (codes "    link \"$OUT_" ∷ link_variable d link ∷ codes "\"" ∷ []) (own_list d link)
      (refl, (link_named link, (refl, own_within d link))) in
      says_if (leaves d link bridge) (link_lines d link) (link_call d link ∷ [])
      (says_line (codes "    # link " ∷ decimal link ∷ codes " " ∷ name_of_link d link ∷ []) [] (link_call d link ++ 10 ∷ []) (link_call d link ∷ []) [] []
      (refl, (decimal_within link, (refl, (link_within d domain link, refl)))) refl refl refl (says_call (link_call d link) call refl refl refl))

  -- a text for each stream, none of them a call
  says_streams : (text : List Row → Row → List ℕ) (wants : List Row → Row → List (List ℕ)) (rows : List Row) →
      ((before : List Row) (row : Row) → Contains rows row → Says (text before row) [] (wants before row)) →
      Says (each_stream text rows) [] (each_below (wants_at wants rows) (length rows))
  says_streams text wants rows each =
      says_nothing_below (stream_at text rows) (wants_at wants rows) (length rows) (λ k. at k (slice_get rows k) refl)
    where
      at : (k : ℕ) (found : Option Row) → slice_get rows k ≡ found →
          Says (option_map_or (text (take k rows)) found []) [] (option_map_or (wants (take k rows)) found [])
      at k None is = says_none
      at k (Some row) is = each (take k rows) row (contains_at rows k row is)

  -- if each requires nothing, all together require nothing
  nothing_wanted : (n : ℕ) (rows : List Row) → each_below (wants_at (λ before row. []) rows) n ≡ []
  nothing_wanted zero rows = refl
  nothing_wanted (suc n) rows =
      ap (λ (wants : List (List ℕ)). wants ++ wants_at (λ before row. []) rows n) (nothing_wanted n rows) ∙ none (slice_get rows n)
    where
      none : (found : Option Row) → option_map_or (λ (row : Row). no_variables) found no_variables ≡ no_variables
      none None = refl
      none (Some row) = refl

  out_variables_within : (row : Row) (hops : List Hop) → IsWithin (flat_map (out_variable d bridge) hops)
  out_variables_within row [] = refl
  out_variables_within row (hop ∷ hops) =
      within_then (out_variable d bridge hop) (flat_map (out_variable d bridge) hops) (of_hop (leaves d hop.link bridge)) (out_variables_within row hops)
    where
      of_hop : (b : Bool) → IsWithin (if b then codes " OUT_" ++ link_variable d hop.link else [])
      of_hop true = link_named hop.link
      of_hop false = refl

  octets_within : (most : Option ℕ) → IsWithin (octets_word most)
  octets_within None = refl
  octets_within (Some most) = decimal_within most

  entry_within : (entry : StreamEntry) → IsWithin (entry_words entry)
  entry_within entry = by_test (is_shut entry.octet_max)
    where
      by_test : (b : Bool) → IsWithin (if b then closed_words entry.interval else open_words entry)
      by_test true = within_then (decimal entry.interval) (codes " -1 -1") (decimal_within entry.interval) refl
      by_test false =
          within_then (decimal entry.interval) _ (decimal_within entry.interval)
          (within_then (decimal entry.ipv) _ (decimal_within entry.ipv) (octets_within entry.octet_max))

  entries_within : (entries : List StreamEntry) → IsWithin (list_words entries)
  entries_within [] = refl
  entries_within (entry ∷ entries) = within_then (entry_words entry) (list_words entries) (entry_within entry) (entries_within entries)

  -- a stream whose name and variable are within a line, and whose gate has an index
  module _ (variable : List ℕ) (gate : ℕ) (row : Row) (bare : IsWithin variable) (named : IsWithin row.name)
      (spaceless : list_all is_no_space variable ≡ true) where
    says_ingress : (ingress : Option ℕ) → Says (ingress_need d bridge variable row ingress) [] (in_variable d variable ingress ∷ [])
    says_ingress None = says_line
        (codes "    port TALKER_" ∷ variable ∷ codes " \"${TALKER_" ∷ variable ∷ codes ":-}\" \"\" \"interface of "
        ∷ name_of_bridge d bridge ∷ codes " to the talker of " ∷ row.name ∷ [])
        (codes "\"") [] [] ((codes "TALKER_" ++ variable) ∷ []) []
        (refl, (bare, (refl, (bare, (refl, (bridge_within d domain bridge, (refl, (named, refl)))))))) refl refl
        (ap (λ (v : List ℕ). (codes "TALKER_" ++ v) ∷ []) (up_to 32 variable _ spaceless refl)) says_none
    says_ingress (Some link) = says_in link

    says_frames : Says (frame_needs variable gate row) [] (frame_wants variable)
    says_frames = says_line
        (codes "    frames " ∷ variable ∷ codes " \"${MAC_" ∷ variable ∷ codes ":-}\" \"${VLAN_" ∷ variable ∷ codes ":-}\" " ∷ row.name ∷ codes " "
        ∷ decimal gate ∷ [])
        [] [] [] (frame_wants variable) []
        (refl, (bare, (refl, (bare, (refl, (bare, (refl, (named, (refl, (decimal_within gate, refl)))))))))) refl refl
        (ap frame_wants (up_to 32 variable _ spaceless refl)) says_none

    says_needs : (ingress : Option (Option ℕ × Bool)) →
        Says (option_map_or (needs_by d bridge variable gate row) ingress []) [] (option_map_or (wants_by d variable) ingress [])
    says_needs None = says_none
    says_needs (Some ingress) =
        says_then (if ingress.1 then ingress_need d bridge variable row ingress.0 else []) (frame_needs variable gate row) [] []
        (if ingress.1 then in_variable d variable ingress.0 ∷ [] else []) (frame_wants variable)
        (says_some ingress.1 (ingress_need d bridge variable row ingress.0) (in_variable d variable ingress.0 ∷ []) (says_ingress ingress.0)) says_frames

    -- the ingress of the stream, within a line
    ingress_within : (ingress : Option ℕ) → IsWithin (in_variable d variable ingress)
    ingress_within None = bare
    ingress_within (Some link) = link_named link

    says_clearing : (ingress : Option (Option ℕ × Bool)) → Says (option_map_or (clearing_by d variable) ingress []) [] []
    says_clearing None = says_none
    says_clearing (Some ingress) = by ingress.1
      where
        line : Says (ingress_clearing d variable ingress.0) [] []
        line = says_line (codes "    no_gates \"$" ∷ in_variable d variable ingress.0 ∷ []) (codes "\"") [] [] [] [] (refl, (ingress_within ingress.0, refl)) refl refl refl
            says_none

        by : (b : Bool) → Says (if b then ingress_clearing d variable ingress.0 else []) [] []
        by true = line
        by false = says_none

    target_within : (ingress : Option ℕ) → IsWithin (gate_target d variable gate ingress)
    target_within ingress = within_onto
        (in_variable d variable ingress ∷ codes "\" " ∷ decimal gate ∷ codes " \"$MAC_" ∷ variable ∷ codes "\" \"$VLAN_" ∷ variable ∷ []) (codes "\"")
        (ingress_within ingress, (refl, (decimal_within gate, (refl, (bare, (refl, (bare, refl)))))))

    plain_within : (ingress : Option ℕ) → IsWithin (plain_call d variable gate row ingress)
    plain_within ingress = within_then (gate_target d variable gate ingress) (codes " " ++ decimal row.octets) (target_within ingress) (decimal_within row.octets)

    list_within : (ingress : Option ℕ) → IsWithin (list_call d bridge variable gate row ingress)
    list_within ingress =
        within_then (gate_target d variable gate ingress) (list_words (gate_at d row bridge)) (target_within ingress) (entries_within (gate_at d row bridge))

    -- the call, both for a stream that pauses and for one that doesn't
    says_gate : (ingress : Option ℕ) (b : Bool) →
        Says ((if b then list_call d bridge variable gate row ingress else plain_call d variable gate row ingress) ++ 10 ∷ [])
        ((if b then list_call d bridge variable gate row ingress else plain_call d variable gate row ingress) ∷ []) []
    says_gate ingress true = says_call (list_call d bridge variable gate row ingress) (list_within ingress) refl refl refl
    says_gate ingress false = says_call (plain_call d variable gate row ingress) (plain_within ingress) refl refl refl

    says_stream : (hop : Option Hop) → Says (option_map_or (λ (hop : Hop). stream_lines d bridge variable gate row hop.from) hop [])
        (option_map_or (λ (hop : Hop). gate_call d bridge variable gate row hop.from ∷ []) hop []) []
    says_stream None = says_none
    says_stream (Some hop) =
        says_line (codes "    # stream " ∷ decimal row.no ∷ codes " " ∷ row.name ∷ codes ", leaves by" ∷ out_variables d bridge row ∷ []) []
        (gate_call d bridge variable gate row hop.from ++ 10 ∷ []) (gate_call d bridge variable gate row hop.from ∷ []) [] []
        (refl, (decimal_within row.no, (refl, (named, (refl, (out_variables_within row row.tree.items, refl)))))) refl refl refl
        (says_gate hop.from (pauses row))

-- a text whose lines end with `}`
record Ends (text : List ℕ) (calls wants : List (List ℕ)) : Type 0 where
  pub lines : List (List ℕ)
  pub reads : Reads text (lines ++ codes "}" ∷ [])
  pub inside : list_all (begins is_blank) lines ≡ true
  pub called : filter is_call lines ≡ calls
  pub wanted : flat_map wanted_by lines ≡ wants

ends_here : Ends (codes "}\n") [] []
ends_here = record { lines = []; reads = reads_line (codes "}") [] [] refl reads_none; inside = refl; called = refl; wanted = refl }

ends_then : (a b : List ℕ) (x y u v : List (List ℕ)) → Says a x u → Ends b y v → Ends (a ++ b) (x ++ y) (u ++ v)
ends_then a b x y u v of_a of_b = record {
  lines = of_a.lines ++ of_b.lines;
  reads = subst (λ (lines : List (List ℕ)). Reads (a ++ b) lines) (sym (append_assoc of_a.lines of_b.lines (codes "}" ∷ [])))
      (reads_then a b of_a.lines (of_b.lines ++ codes "}" ∷ []) of_a.reads of_b.reads);
  inside = list_all-append (begins is_blank) of_a.lines of_b.lines ∙ and_from _ _ of_a.inside of_b.inside;
  called = filter-append is_call of_a.lines of_b.lines ∙ ap (λ calls. calls ++ filter is_call of_b.lines) of_a.called ∙ ap (λ calls. x ++ calls) of_b.called;
  wanted = flat_map-append wanted_by of_a.lines of_b.lines ∙ ap (λ wants. wants ++ flat_map wanted_by of_b.lines) of_a.wanted
      ∙ ap (λ wants. u ++ wants) of_b.wanted;
}

ends_line : (pieces : List (List ℕ)) (last following : List ℕ) (calls wants : List (List ℕ)) → AreWithin pieces last →
    begins is_blank (onto pieces last) ≡ true → is_call (onto pieces last) ≡ false → wanted_by (onto pieces last) ≡ [] → Ends following calls wants →
    Ends (onto pieces (last ++ 10 ∷ following)) calls wants
ends_line pieces last following calls wants within blank other none more = record {
  lines = onto pieces last ∷ more.lines;
  reads = reads_pieces pieces last following (more.lines ++ codes "}" ∷ []) within more.reads;
  inside = and_from _ _ blank more.inside;
  called = ap (λ (b : Bool). cond b (onto pieces last ∷ filter is_call more.lines) (filter is_call more.lines)) other ∙ more.called;
  wanted = ap (λ (mine : List (List ℕ)). mine ++ flat_map wanted_by more.lines) none ∙ more.wanted;
}

-- the head of a bridge's function, as it is read
abbrev head_bridge : ℕ → List ℕ
head_bridge bridge = head_of (function_of_bridge bridge)

-- the function of a bridge: its head, lines that begin with a blank, and `}`
record IsFunction (d : Domain) (gates : ℕ → ℕ) (rows : List Row) (bridge : ℕ) : Type 0 where
  pub lines : List (List ℕ)
  pub reads : Reads (bridge_text d gates rows bridge) (head_bridge bridge ∷ (lines ++ codes "}" ∷ []))
  pub inside : list_all (begins is_blank) lines ≡ true
  pub called : filter is_call lines ≡ calls_due d gates rows bridge
  pub wanted : flat_map wanted_by lines ≡ wants_due d rows bridge

module _ (d : Domain) (gates : ℕ → ℕ) (rows : List Row) (domain : IsDomain d) (names : HaveNames rows) where
  named : (row : Row) → Contains rows row → IsWithin row.name
  named row there = name_within row.name (names row there)

  bare : (row : Row) → Contains rows row → IsWithin (stream_variable rows row)
  bare row there = stream_variable_within rows row (names row there)

  spaceless : (row : Row) → Contains rows row → list_all is_no_space (stream_variable rows row) ≡ true
  spaceless row there = stream_all is_no_space pass_space rows row (names row there)

  is_function : (bridge : ℕ) → IsFunction d gates rows bridge
  is_function bridge =
      let links = each_link d bridge (link_lines d) in
      let streams = flat_map (stream_gates d gates rows bridge) rows in
      let last = codes "}\n" in
      let clearings = each_stream (stream_clearing d rows bridge) rows in
      let needs = each_stream (stream_needs d gates rows bridge) rows in
      let outs = each_link d bridge (out_need d bridge) in
      let due_links : List (List ℕ) = each_below (link_calls d bridge) (length d.links) in
      let due_gates : List (List ℕ) = flat_map (gate_calls d gates rows bridge) rows in
      let wanted_links : List (List ℕ) = each_below (link_wants d bridge) (length d.links) in
      let wanted_streams : List (List ℕ) = each_below (wants_at (stream_wants d rows bridge) rows) (length rows) in
      let nothing : List (List ℕ) = each_below (wants_at (λ before row. []) rows) (length rows) in
      let at_streams : Ends (streams ++ last) (due_gates ++ []) [] =
      ends_then streams last due_gates [] [] [] (says_each (stream_gates d gates rows bridge) (gate_calls d gates rows bridge) rows
      (λ row there. says_stream d domain bridge (stream_variable rows row) (gates row.no) row (bare row there) (named row there) (spaceless row there)
      (first_hop d bridge row))) ends_here in
      let at_links : Ends (links ++ (streams ++ last)) (due_links ++ (due_gates ++ [])) [] =
      ends_then links (streams ++ last) due_links (due_gates ++ []) [] []
      (says_below (if_left d bridge (link_lines d)) (link_calls d bridge) (length d.links) (says_link d domain bridge)) at_streams in
      let calls : List (List ℕ) = due_links ++ (due_gates ++ []) in
      let after_links = links ++ (streams ++ last) in
      let at_clearings : Ends (clearings ++ after_links) calls (nothing ++ []) =
      ends_then clearings after_links [] calls nothing []
      (says_streams d domain bridge (stream_clearing d rows bridge) (λ before row. []) rows
      (λ before row there. says_clearing d domain bridge (stream_variable rows row) (gates row.no) row (bare row there) (named row there)
      (spaceless row there) (ingress_at d bridge before row))) at_links in
      let at_ready : Ends (codes "    ready\n" ++ (clearings ++ after_links)) calls (nothing ++ []) =
      ends_line [] (codes "    ready") (clearings ++ after_links) calls (nothing ++ []) refl refl refl refl at_clearings in
      let after_ready = codes "    ready\n" ++ (clearings ++ after_links) in
      let at_needs : Ends (needs ++ after_ready) calls (wanted_streams ++ (nothing ++ [])) =
      ends_then needs after_ready [] calls wanted_streams (nothing ++ [])
      (says_streams d domain bridge (stream_needs d gates rows bridge) (stream_wants d rows bridge) rows
      (λ before row there. says_needs d domain bridge (stream_variable rows row) (gates row.no) row (bare row there) (named row there)
      (spaceless row there) (ingress_at d bridge before row))) at_ready in
      let wants : List (List ℕ) = wanted_links ++ (wanted_streams ++ (nothing ++ [])) in
      let at_outs : Ends (outs ++ (needs ++ after_ready)) calls wants =
      ends_then outs (needs ++ after_ready) [] calls wanted_links (wanted_streams ++ (nothing ++ []))
      (says_nothing_below (if_left d bridge (out_need d bridge)) (link_wants d bridge) (length d.links)
      (λ link. says_some (leaves d link bridge) (out_need d bridge link) ((codes "OUT_" ++ link_variable d link) ∷ []) (says_out d domain bridge link)))
      at_needs in
      let after_name = outs ++ (needs ++ after_ready) in
      let whole : Ends (codes "    # " ++ (name_of_bridge d bridge ++ 10 ∷ after_name)) calls wants =
      ends_line (codes "    # " ∷ name_of_bridge d bridge ∷ []) [] after_name calls wants (refl, (bridge_within d domain bridge, refl)) refl refl refl
      at_outs in
      let due : calls ≡ calls_due d gates rows bridge = ap (λ (others : List (List ℕ)). due_links ++ others) (append-nil due_gates) in
      let all : wants ≡ wants_due d rows bridge =
      ap (λ (others : List (List ℕ)). wanted_links ++ (wanted_streams ++ (others ++ []))) (nothing_wanted d domain bridge (length rows) rows)
      ∙ ap (λ (others : List (List ℕ)). wanted_links ++ others) (append-nil wanted_streams) in
      record {
        lines = whole.lines;
        reads = reads_pieces (codes "bridge_" ∷ decimal bridge ∷ []) (codes "() {") (codes "    # " ++ (name_of_bridge d bridge ++ 10 ∷ after_name))
            (whole.lines ++ codes "}" ∷ []) (refl, (decimal_within bridge, refl)) whole.reads;
        inside = whole.inside;
        called = ◌∙◌ {a = filter is_call whole.lines} whole.called due;
        wanted = ◌∙◌ {a = flat_map wanted_by whole.lines} whole.wanted all;
      }

  -- the head of another bridge's function is another
  heads_apart : (a b : ℕ) → a < 2 ^ 64 → b < 2 ^ 64 → (a ≡ b → ⊥) → is_text (head_bridge a) (head_bridge b) ≡ false
  heads_apart a b small_a small_b apart = elim (cases_Bool (is_text (head_bridge a) (head_bridge b))) [
    | inl same ↦
        let texts : decimal a ≡ decimal b = append_cancel_left (codes "bridge_") (decimal a) (decimal b)
        (append_cancel_right (function_of_bridge a) (function_of_bridge b) (codes "() {") (is_text_same (head_bridge a) (head_bridge b) same)) in
        absurd (apart (sym (digits_value-decimal own a small_a) ∙ ap (digits_value 10) texts ∙ digits_value-decimal own b small_b))
    | inr other ↦ other
  ]

  -- lines that begin with a blank are not a head
  blanks_passed : (head : List ℕ) (lines more : List (List ℕ)) → list_all (begins is_blank) lines ≡ true →
      lines_after (98 ∷ head) (lines ++ more) ≡ lines_after (98 ∷ head) more
  blanks_passed head [] more inside = refl
  blanks_passed head (line ∷ lines) more inside =
      let parts = both_true (begins is_blank line) (list_all (begins is_blank) lines) inside in
      ap (λ (b : Bool). cond b (lines ++ more) (lines_after (98 ∷ head) (lines ++ more))) (other_text line parts.0) ∙ blanks_passed head lines more parts.1
    where
      other_text : (line : List ℕ) → begins is_blank line ≡ true → is_text line (98 ∷ head) ≡ false
      other_text [] blank = refl
      other_text (byte ∷ line) blank = ap (λ (n : ℕ). is_text (n ∷ line) (98 ∷ head)) (eqb-true byte 32 blank)

  -- nor are they the end of a function
  before_end : (lines more : List (List ℕ)) → list_all (begins is_blank) lines ≡ true → lines_before (codes "}") ((lines ++ codes "}" ∷ []) ++ more) ≡ lines
  before_end [] more inside = refl
  before_end (line ∷ lines) more inside =
      let parts = both_true (begins is_blank line) (list_all (begins is_blank) lines) inside in
      ap (λ (b : Bool). cond b [] (line ∷ lines_before (codes "}") ((lines ++ codes "}" ∷ []) ++ more))) (other_text line parts.0)
      ∙ ap (λ rest. line ∷ rest) (before_end lines more parts.1)
    where
      other_text : (line : List ℕ) → begins is_blank line ≡ true → is_text line (codes "}") ≡ false
      other_text [] blank = absurd cc
      other_text (byte ∷ line) blank = ap (λ (n : ℕ). is_text (n ∷ line) (codes "}")) (eqb-true byte 32 blank)

  -- the functions of other bridges are skipped
  function_passed : (bridge other : ℕ) (rest : List ℕ) → bridge < 2 ^ 64 → other < 2 ^ 64 → (other ≡ bridge → ⊥) →
      lines_after (head_bridge bridge) (lines_of (bridge_text d gates rows other ++ rest)) ≡ lines_after (head_bridge bridge) (lines_of rest)
  function_passed bridge other rest small_bridge small_other apart =
      let function = is_function other in
      let following : List (List ℕ) = (function.lines ++ codes "}" ∷ []) ++ lines_of rest in
      ap (lines_after (head_bridge bridge)) (function.reads rest)
      ∙ ap (λ (b : Bool). cond b following (lines_after (head_bridge bridge) following)) (heads_apart other bridge small_other small_bridge apart)
      ∙ ap (lines_after (head_bridge bridge)) (append_assoc function.lines (codes "}" ∷ []) (lines_of rest))
      ∙ blanks_passed (codes "ridge_" ++ (decimal bridge ++ codes "() {")) function.lines (codes "}" ∷ lines_of rest) function.inside

  functions_passed : (bridge count : ℕ) (rest : List ℕ) → count ≤ bridge → bridge < 2 ^ 64 →
      lines_after (head_bridge bridge) (lines_of (each_below (bridge_text d gates rows) count ++ rest)) ≡ lines_after (head_bridge bridge) (lines_of rest)
  functions_passed bridge zero rest few small = refl
  functions_passed bridge (suc count) rest few small =
      ap (λ text. lines_after (head_bridge bridge) (lines_of text)) (append_assoc (each_below (bridge_text d gates rows) count) (bridge_text d gates rows count) rest)
      ∙ functions_passed bridge count (bridge_text d gates rows count ++ rest) (omega (arith, few)) small
      ∙ function_passed bridge count rest small (omega (arith, few, small)) (λ same. absurd (omega (arith, few, same)))

  -- after its head the lines of a bridge's function are found
  function_found : (bridge count : ℕ) (rest : List ℕ) → bridge < count → bridge < 2 ^ 64 →
      lines_before (codes "}") (lines_after (head_bridge bridge) (lines_of (each_below (bridge_text d gates rows) count ++ rest))) ≡ (is_function bridge).lines
  function_found bridge zero rest inside small = absurd (omega (arith, inside))
  function_found bridge (suc count) rest inside small =
      ap (λ text. lines_before (codes "}") (lines_after (head_bridge bridge) (lines_of text)))
      (append_assoc (each_below (bridge_text d gates rows) count) (bridge_text d gates rows count) rest)
      ∙ elim (cases_lt bridge count) [
        | inl less ↦ function_found bridge count (bridge_text d gates rows count ++ rest) less small
        | inr more ↦ at_last (omega (arith, inside, more))
      ]
    where
      at_last : count ≡ bridge → lines_before (codes "}") (lines_after (head_bridge bridge)
          (lines_of (each_below (bridge_text d gates rows) count ++ (bridge_text d gates rows count ++ rest)))) ≡ (is_function bridge).lines
      at_last same =
          let function = is_function bridge in
          let following : List (List ℕ) = (function.lines ++ codes "}" ∷ []) ++ lines_of rest in
          ap (λ (n : ℕ). lines_before (codes "}") (lines_after (head_bridge bridge)
          (lines_of (each_below (bridge_text d gates rows) n ++ (bridge_text d gates rows n ++ rest))))) same
          ∙ ap (lines_before (codes "}")) (functions_passed bridge bridge (bridge_text d gates rows bridge ++ rest) (omega arith) small
          ∙ ap (lines_after (head_bridge bridge)) (function.reads rest)
          ∙ ap (λ (b : Bool). cond b following (lines_after (head_bridge bridge) following)) (is_text_itself (head_bridge bridge)))
          ∙ before_end function.lines (lines_of rest) function.inside

  -- its lines are those of the function
  function_lines : (software : Bool) (bridge : ℕ) → bridge < length d.bridges →
      lines_of_function (function_of_bridge bridge) (tc_text d software gates rows) ≡ (is_function bridge).lines
  function_lines software bridge inside =
      let few = few_bridges d domain.accepted in
      let small : bridge < 2 ^ 64 = omega (arith, inside, few) in
      ap (lines_before (codes "}")) (to_bridges d software gates rows (codes "ridge_" ++ (decimal bridge ++ codes "() {")) domain)
      ∙ function_found bridge (length d.bridges) (choice_text d software) inside small

  called : (software : Bool) (bridge : ℕ) → bridge < length d.bridges → calls_at bridge (tc_text d software gates rows) ≡ calls_due d gates rows bridge
  called software bridge inside = ap (filter is_call) (function_lines software bridge inside) ∙ (is_function bridge).called

  -- and so are the variables that it requires
  pub wanted_are_due : (software : Bool) (bridge : ℕ) → bridge < length d.bridges →
      wanted_at bridge (tc_text d software gates rows) ≡ wants_due d rows bridge
  wanted_are_due software bridge inside = ap (flat_map wanted_by) (function_lines software bridge inside) ∙ (is_function bridge).wanted

-- each bridge's calls are those that are due
pub calls_are_due : ScriptsCallWhatIsDue
calls_are_due d software gates rows domain names = record {
  list = link_found d software gates rows domain;
  gate = gate_found d software gates rows domain;
  by_list = by_list_found d software gates rows domain;
  calls = called d gates rows domain names software;
}
