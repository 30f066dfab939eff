-- Streams that are judged one after the other.
use Rattle.std.proofs.Common.{◌≡◌, ◌∙◌, ℕ, ◌+◌, ◌<◌, ◌++◌, ◌∷◌, [], List, Result, Ok, ap, drop, get_or, length, map, subst, sym, take}
use Rattle.std.proofs.lemmas.List.{drop_more, map-append, take_more}
use Rattle.std.specs.List.{list_any}
use Rattle.cqf_lists.proofs.Any.{list_any-map}
use Rattle.cqf_lists.specs.Results.{and_then}
use Rattle.cqf_model.specs.declared.topology.Row.{Row}
use Rattle.cqf_model.specs.Domain.{Domain, is_text}
use Rattle.cqf_topology.specs.DomainText.{is_among}
use Rattle.cqf_model.specs.History.{Asked}
use Rattle.cqf_program_plans.specs.Load.Output.{listed_from}
use Rattle.cqf_output.specs.declared.stops.Stop.{Stop}
use Rattle.cqf_output.specs.Stops.{IsRefused}
use Rattle.cqf_traffic.specs.declared.flows.Flow.{Flow}
use Rattle.cqf_traffic.specs.FlowsText.{flow_text}
use Rattle.cqf_traffic.specs.declared.senders.TalkerStream.{TalkerStream}
use Rattle.cqf_program_offers.specs.OffersOutput.{asked_in, sender_of, senders_of}

-- the requests of streams, and the streams as their talkers see them
abbrev asked_all : List Flow → List Asked
asked_all flows = map asked_in (map flow_text flows)

abbrev seen : Domain → List Flow → List TalkerStream
seen d flows = map (sender_of d) (map flow_text flows)

-- a refusal of a step is one of all steps
pub refused_first : {A B : Type 0} (found : Result A (List ℕ)) (next : A → Result B (List ℕ)) (stop : Stop) → IsRefused found stop →
    IsRefused (and_then found next) stop
refused_first found next stop h = record {
  statuses = h.statuses;
  line = λ one. ap (λ r. and_then r next) (h.line one);
  memory = h.memory;
}

-- a name is among those of some rows if and only if one of the rows has it
pub named_there : (names : List (List ℕ)) (rows : List Row) (name : List ℕ) → names ≡ map (λ (r : Row). r.name) rows →
    is_among name names ≡ list_any (λ (r : Row). is_text r.name name) rows
named_there names rows name are =
    ap (is_among name) are ∙ list_any-map (λ (other : List ℕ). is_text other name) (λ (r : Row). r.name) rows

-- the names of rows, after one more
pub one_named : (names names_after : List (List ℕ)) (rows rows_after : List Row) (row : Row) → names ≡ map (λ (r : Row). r.name) rows →
    names_after ≡ names ++ row.name ∷ [] → rows_after ≡ rows ++ row ∷ [] → names_after ≡ map (λ (r : Row). r.name) rows_after
one_named names names_after rows rows_after row are named put =
    named ∙ ap (λ (ns : List (List ℕ)). ns ++ row.name ∷ []) are ∙ sym (map-append (λ (r : Row). r.name) rows (row ∷ []))
    ∙ ap (map (λ (r : Row). r.name)) (sym put)

module _ (d : Domain) (flows : List Flow) (k : ℕ) (flow : Flow) (inside : k < length flows) (is : flow ≡ get_or flows k flow) where
  -- the rest begins with the stream there
  rest_is : drop k flows ≡ flow ∷ drop (k + 1) flows
  rest_is = drop_more flows k flow inside ∙ ap (λ x. x ∷ drop (k + 1) flows) (sym is)

  -- one more stream is listed
  pub one_judged : (rows shown after : List Row) (row : Row) → shown ≡ rows →
      listed_from d [] (asked_all flows) ≡ listed_from d rows (asked_all (drop k flows)) →
      ((more : List Asked) → listed_from d shown (asked_in (flow_text flow) ∷ more) ≡ listed_from d (shown ++ row ∷ []) more) →
      after ≡ rows ++ row ∷ [] → listed_from d [] (asked_all flows) ≡ listed_from d after (asked_all (drop (k + 1) flows))
  one_judged rows shown after row same so_far steps put =
      so_far ∙ (λ i. listed_from d (sym same i) (asked_all (rest_is i))) ∙ steps (asked_all (drop (k + 1) flows))
      ∙ ap (λ (xs : List Row). listed_from d xs (asked_all (drop (k + 1) flows))) (ap (λ (xs : List Row). xs ++ row ∷ []) same ∙ sym put)

  -- and seen
  pub one_seen : (senders after : List TalkerStream) → senders ≡ seen d (take k flows) → after ≡ senders ++ sender_of d (flow_text flow) ∷ [] →
      after ≡ seen d (take (k + 1) flows)
  one_seen senders after so_far put =
      put ∙ ap (λ (xs : List TalkerStream). xs ++ sender_of d (flow_text flow) ∷ []) so_far
      ∙ sym (map-append (sender_of d) (map flow_text (take k flows)) (flow_text flow ∷ []))
      ∙ ap (map (sender_of d)) (sym (map-append flow_text (take k flows) (flow ∷ [])))
      ∙ ap (seen d) (ap (λ x. take k flows ++ x ∷ []) is ∙ sym (take_more flows k flow inside))

  -- if the stream is refused, all are
  pub one_refused : (rows shown : List Row) (stop : Stop) → shown ≡ rows → listed_from d [] (asked_all flows) ≡ listed_from d rows (asked_all (drop k flows)) →
      ((more : List Asked) → IsRefused (listed_from d shown (asked_in (flow_text flow) ∷ more)) stop) → IsRefused (senders_of d (map flow_text flows)) stop
  one_refused rows shown stop same so_far refuses =
      refused_first (listed_from d [] (asked_all flows)) (λ listed. Ok (seen d flows)) stop
      (subst (λ (r : Result (List Row) (List ℕ)). IsRefused r stop)
      (sym (so_far ∙ (λ i. listed_from d (sym same i) (asked_all (rest_is i))))) (refuses (asked_all (drop (k + 1) flows))))
