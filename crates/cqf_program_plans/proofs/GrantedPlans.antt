-- Streams that are admitted in turn cost of each link what all the requested streams cost.
use Rattle.std.proofs.Common.{ℕ, ◌≡◌, ◌+◌, ◌∙◌, List, [], ◌∷◌, Ok, ap, fold, inl, inr, if◌then◌else◌, max, subst, sym, true}
use Rattle.cqf_model.specs.Domain.{Domain}
use Rattle.cqf_lists.specs.Lists.{each_below}
use Rattle.cqf_lists.proofs.Members.{contains_cases, contains_none}
use Rattle.cqf_model.specs.declared.topology.Row.{Row}
use Rattle.cqf_model.specs.History.{Admits, Asked, Recorded, held_in, is_pace, most_beside, refusal_of, reply_to, seals}
use Rattle.cqf_model.specs.Limits.{most_every}
use Rattle.cqf_model.specs.Table.{link_cost, uses}
use Rattle.cqf_laws_history.proofs.Granted.{granted as granted_parts}
use Rattle.cqf_laws_history.specs.StateLaws.{with_entry}
use Rattle.cqf_program_plans.specs.Compile.Output.{admitted_from, stream_line, with_asked}
use Rattle.cqf_program_plans.proofs.CompileLemmas.{refuse_ok, same_ok}
use Rattle.cqf_laws_timing.specs.Streams.{AreGranted, ArePaced, IsOfList, ListCostsItsTable, cost_of_all, most_beside_all, with_all}

-- each of them is granted, and the history is that of all
all_granted : (d : Domain) (entries all : List Recorded) (index : ℕ) (streams : List Asked) → admitted_from d entries index streams ≡ Ok all →
    AreGranted d entries streams × (all ≡ with_all d entries streams)
all_granted d entries all index [] h = (tt, sym (same_ok entries all h))
all_granted d entries all index (asked ∷ more) h =
    let parts = refuse_ok (refusal_of d (held_in d entries (seals entries)) asked) (stream_line index)
    (admitted_from d (with_asked d entries asked) (index + 1) more) all h in
    let rest = all_granted d (with_asked d entries asked) all (index + 1) more parts.1 in
    ((parts.0, rest.0), rest.1)

-- so the table of cycle 0 costs what the list does
pub table_costs_list : (d : Domain) (streams : List Asked) (plan : List Recorded) (link active_cycle : ℕ) → ListCostsItsTable → admitted_from d [] 1 streams ≡ Ok plan →
    cost_of_all d streams link active_cycle ≡ link_cost (held_in d plan 0) link active_cycle
table_costs_list d streams plan link active_cycle costs h =
    let granted = all_granted d [] plan 1 streams h in
    sym (costs d streams link active_cycle granted.0) ∙ sym (ap (λ entries. link_cost (held_in d entries 0) link active_cycle) granted.1)

-- and so does the most that it costs in a cycle of one of its streams
pub table_costs_most : (d : Domain) (streams : List Asked) (plan : List Recorded) (row : Row) (link : ℕ) → ListCostsItsTable →
    admitted_from d [] 1 streams ≡ Ok plan → (of : IsOfList d streams row) →
    most_beside_all d streams of.asked link ≡ most_beside (held_in d plan 0) row.tree.items row.pace link
table_costs_most d streams plan row link costs h of =
    λ i. fold max 0 (each_below (λ k. if uses (sym of.tree i) (sym of.pace i) link k then table_costs_list d streams plan link k costs h i ∷ [] else []) most_every)

-- streams that are all granted have good paces
granted_paced : (d : Domain) (entries : List Recorded) (streams : List Asked) → AreGranted d entries streams → ArePaced streams
granted_paced d entries [] granted asked among = absurd (contains_none asked among)
granted_paced d entries (first ∷ streams) granted asked among = elim (contains_cases first streams asked among) [
  | inl here ↦ subst (λ (a : Asked). is_pace a.every a.phase ≡ true) here (granted_parts d (held_in d entries (seals entries)) first granted.0).pace
  | inr later ↦ granted_paced d (with_entry entries 0 (Admits first) (reply_to d entries (Admits first))) streams granted.1 asked later
]

pub plan_paced : (d : Domain) (streams : List Asked) (plan : List Recorded) → admitted_from d [] 1 streams ≡ Ok plan → ArePaced streams
plan_paced d streams plan h = granted_paced d [] streams (all_granted d [] plan 1 streams h).0
