-- The judgement of a request by itself, regardless of what is held.
use Rattle.std.specs.Prelude.{ℕ, ◌≡◌, ◌-◌, ◌≤◌, List, ◌&&◌, not, nat_le, Option, Some, None, Result, Ok, Err, true}
use Rattle.cqf_lists.specs.Lists.{or_else}
use Rattle.cqf_units.specs.Name.{is_name}
use Rattle.cqf_units.specs.Timing.{cost_of}
use Rattle.cqf_model.specs.declared.history.Refused.{Refused}
use Rattle.cqf_model.specs.declared.history.Refused.TheVariants.{BadName, BadOctets, BadPace, BudgetShort}
use Rattle.cqf_model.specs.declared.topology.Hop.{Hop}
use Rattle.cqf_model.specs.declared.topology.Row.{Row}
use Rattle.cqf_model.specs.declared.topology.Pace.{Pace}
use Rattle.cqf_units.specs.declared.reservations.Cycle.{Cycle}
use Rattle.cqf_model.specs.Domain.{Domain}
use Rattle.cqf_model.specs.History.{Asked, is_pace, left_on, pace_of, refused_at, refused_if, short_link, tree_of}
use Rattle.cqf_admission.specs.Branches.{tree_refusal}
use Rattle.cqf_admission.specs.declared.judged.JudgedRequest.{JudgedRequest}
use Rattle.cqf_model.specs.Limits.{least_reserved, most_reserved}

-- why a request is refused for its form, regardless of what is held
abbrev pub form_refusal : Domain → Asked → Option Refused
form_refusal d asked =
    or_else (refused_if (not (is_name asked.name)) BadName)
    (or_else (refused_if (not (nat_le least_reserved asked.octets && nat_le asked.octets most_reserved)) BadOctets)
    (or_else (refused_if (not (is_pace asked.every asked.phase)) BadPace) (tree_refusal d asked.paths)))

-- the refusal that names the first link with less left than a cost
abbrev pub short_refusal : Domain → List Row → ℕ → Pace → List Hop → Option Refused
short_refusal d rows cost pace tree = refused_at (λ l. BudgetShort l (left_on d rows tree pace l)) (short_link d rows cost pace tree)

-- the pace of a stream that is offered in one of every `every` cycles, first in the cycle `phase`
pub record IsPaceOf (every phase : ℕ) (pace : Pace) : Type 0 where
  pub good : is_pace every phase ≡ true
  pub is : pace ≡ record { pause = every - 1; phase = phase }

-- a request of good form, and its judgement
pub record IsOfGoodForm (d : Domain) (asked : Asked) (judged : JudgedRequest) : Type 0 where
  pub none : form_refusal d asked ≡ None
  pub named : judged.name ≡ asked.name
  pub costs : judged.cost.0 ≡ cost_of d.overhead asked.octets
  pub linked : judged.tree.items ≡ tree_of d asked.paths
  pub paced : judged.pace ≡ pace_of asked
  pub most_octets : asked.octets ≤ most_reserved
  pub overhead : judged.overhead ≡ d.overhead

-- the judgement of the request of good form that has this row
pub record IsJudgedOf (row : Row) (judged : JudgedRequest) : Type 0 where
  pub named : judged.name ≡ row.name
  pub costs : judged.cost.0 ≡ cost_of row.overhead row.octets
  pub paced : judged.pace ≡ row.pace
  pub linked : judged.tree.items ≡ row.tree.items
  pub overhead : judged.overhead ≡ row.overhead

-- the row of a judged request of good form, with a number and the cycle from which it is live
abbrev pub row_by : JudgedRequest → ℕ → ℕ → Cycle → Row
row_by judged octets number effect = record {
  no = number;
  name = judged.name;
  octets = octets;
  overhead = judged.overhead;
  pace = judged.pace;
  tree = record { items = judged.tree.items };
  admitted = effect;
  withdrawn = None;
}

-- the judgement of a request by itself: what it is if its form is good, or the first reason against its form
abbrev pub Judges : Domain → Asked → Result JudgedRequest Refused → Type 0
Judges d asked (Ok judged) = IsOfGoodForm d asked judged
Judges d asked (Err refused) = form_refusal d asked ≡ Some refused
