-- What the figures say about held streams is true.
use Rattle.std.proofs.Common.{◌≡◌, ℕ, ◌-◌, true, false, List, [], ◌∷◌, find, fold, get_or, length, max, nat_lt, sym, ap, ◌∙◌}
use Rattle.std.specs.Prelude.{Contains, ◌&&◌, if◌then◌else◌, nat_le}
use Rattle.std.specs.List.{list_any}
use Rattle.std.proofs.lemmas.Bool.{and_from, both_ways}
use Rattle.std.proofs.lemmas.List.Elements.{Contains-get_or}
use Rattle.cqf_lists.specs.Lists.{each_below, or_else}
use Rattle.cqf_lists.proofs.Any.{list_any-filter, list_any-map, none_member}
use Rattle.cqf_units.specs.Timing.{cost_of}
use Rattle.cqf_model.specs.declared.history.Refused.TheVariants.{BudgetShort, NameHeld, TooManyStreams}
use Rattle.cqf_model.specs.declared.topology.Hop.{Hop}
use Rattle.cqf_model.specs.declared.topology.Pace.{Pace}
use Rattle.cqf_model.specs.declared.topology.Row.{Row}
use Rattle.cqf_model.specs.Domain.{Domain, budget, is_text}
use Rattle.cqf_model.specs.History.{Asked, Recorded, held_in, most_beside, pace_of, refused_at, refused_if, seals, streams_of, tree_of}
use Rattle.cqf_model.specs.Limits.{most_every, streams_within}
use Rattle.cqf_model.specs.Paces.{is_active}
use Rattle.cqf_model.specs.Table.{is_held, link_cost, links_in, uses}
use Rattle.cqf_model.proofs.Texts.{is_text_itself}
use Rattle.cqf_admission.specs.Costs.{most_cost, most_in_active_cycles}
use Rattle.cqf_admission.specs.Judging.{short_refusal}
use Rattle.cqf_admission.specs.Holdings.{IsFree, Standing, held_cost, held_count, held_most, held_most_at}
use Rattle.cqf_admission.specs.State.{stands_in}
use Rattle.cqf_admission.specs.Streams.{stand_of}
use Rattle.cqf_admission.specs.Weighing.{held_beside, is_taken, stand_refusal, stand_short}
use Rattle.cqf_admission.proofs.Streams.{held_costs, held_count_is_length}
use Rattle.cqf_admission.proofs.GrantLemmas.{state_refusal}

-- a name is free if no stream is held under it
pub free_where_none : (stands : List Standing) (name : List ℕ) → is_taken stands name ≡ false → IsFree stands name
free_where_none stands name none number held d same =
    let there : Contains stands (get_or stands number d) = Contains-get_or stands number d held.inside in
    let fails = none_member (λ (stand : Standing). stand.held && is_text stand.row.name name) stands (get_or stands number d) none there in
    absurd (both (get_or stands number d) fails (held.held d) same)
  where
    both : (s : Standing) → (s.held && is_text s.row.name name) ≡ false → s.held ≡ true → s.row.name ≡ name → ⊥
    both s fails is_held is =
        both_ways (s.held && is_text s.row.name name) fails
        (and_from s.held (is_text s.row.name name) is_held (ap (λ (n : List ℕ). is_text n name) is ∙ is_text_itself name))

module _ (d : Domain) (entries : List Recorded) where
  -- a name is taken if a held row has it
  pub taken : (name : List ℕ) → is_taken (stands_in d entries) name ≡ list_any (λ (row : Row). is_text row.name name) (held_in d entries (seals entries))
  taken name =
      list_any-map (λ (stand : Standing). stand.held && is_text stand.row.name name) (stand_of (seals entries)) (streams_of d entries)
      ∙ sym (list_any-filter (λ (row : Row). is_text row.name name) (λ (row : Row). is_held row (seals entries)) (streams_of d entries))

  -- the numbers of held streams agree, and so do their costs on each link in each cycle
  pub counted : held_count (stands_in d entries) ≡ length (held_in d entries (seals entries))
  counted = held_count_is_length (streams_of d entries) (seals entries)

  pub costs : (l cycle : ℕ) → held_cost (stands_in d entries) l cycle ≡ link_cost (held_in d entries (seals entries)) l cycle
  costs l cycle = held_costs (streams_of d entries) (seals entries) l cycle

  -- so the greatest costs agree too, in all cycles and in those of another stream
  pub costs_most : (l : ℕ) → held_most (stands_in d entries) l ≡ most_cost (held_in d entries (seals entries)) l
  costs_most l = λ i. fold max 0 (each_below (λ cycle. costs l cycle i ∷ []) most_every)

  pub costs_in_active_cycles : (pace : Pace) (hop : Hop) → held_most_at (stands_in d entries) hop.link pace hop.hop_number ≡ most_in_active_cycles (held_in d entries (seals entries)) pace hop
  costs_in_active_cycles pace hop = λ i. fold max 0 (each_below (λ cycle. if is_active pace hop.hop_number cycle then costs hop.link cycle i ∷ [] else []) most_every)

  beside : (tree : List Hop) (pace : Pace) (l : ℕ) → held_beside (stands_in d entries) tree pace l ≡ most_beside (held_in d entries (seals entries)) tree pace l
  beside tree pace l = λ i. fold max 0 (each_below (λ cycle. if uses tree pace l cycle then costs l cycle i ∷ [] else []) most_every)

-- a request of good form is refused for the same reason
pub state_reported : (d : Domain) (entries : List Recorded) (asked : Asked) (stands : List Standing) (name : List ℕ) (cost : ℕ) (pace : Pace) (tree : List Hop) →
    stands ≡ stands_in d entries → name ≡ asked.name → cost ≡ cost_of d.overhead asked.octets → pace ≡ pace_of asked → tree ≡ tree_of d asked.paths →
    stand_refusal d stands name cost pace tree ≡ state_refusal d (held_in d entries (seals entries)) asked
state_reported d entries asked stands name cost pace tree is is_name is_cost is_pace is_tree =
    let now = stands_in d entries in
    let own = pace_of asked in
    let hops = tree_of d asked.paths in
    let short : stand_short d now cost pace tree ≡ short_refusal d (held_in d entries (seals entries)) (cost_of d.overhead asked.octets) own hops =
    (λ i. stand_short d now (is_cost i) (is_pace i) (is_tree i))
    ∙ (λ i. refused_at (λ l. BudgetShort l (budget d l - beside d entries hops own l i))
    (find (λ l. nat_lt (budget d l - beside d entries hops own l i) (cost_of d.overhead asked.octets)) (links_in hops))) in
    ap (λ (ss : List Standing). stand_refusal d ss name cost pace tree) is
    ∙ ap (λ (n : List ℕ). stand_refusal d now n cost pace tree) is_name
    ∙ (λ i. or_else (refused_if (taken d entries asked.name i) NameHeld)
    (or_else (refused_if (nat_le (streams_within d.limits) (counted d entries i)) TooManyStreams) (short i)))
