-- The reservation and the costs of a stream that is offered in each cycle: the same in each.
use Rattle.std.proofs.Common.{◌≡◌, ℕ, ◌+◌, ◌-◌, ◌<◌, ◌%◌, zero, suc, Bool, true, false, List, sym, refl, ap, ap₂, ◌∙◌, Some, arith, max, fold}
use Rattle.std.specs.Prelude.{[], ◌∷◌, ◌==◌, ◌&&◌, ◌||◌, if◌then◌else◌, sum_by, Contains}
use Rattle.std.specs.List.{list_any}
use Rattle.std.proofs.Math.Nat.{mod-one}
use Rattle.std.proofs.lemmas.Bool.{eq-eqb}
use Rattle.std.proofs.lemmas.List.Sums.{fold_push, sum_by-cons}
use Rattle.cqf_units.specs.Timing.{cost_of}
use Rattle.cqf_lists.specs.Lists.{each_below}
use Rattle.cqf_lists.proofs.EachBelow.{same_below}
use Rattle.cqf_lists.proofs.Members.{contains_here, contains_later}
use Rattle.cqf_model.specs.declared.gates.StreamEntry.{StreamEntry}
use Rattle.cqf_model.specs.declared.topology.Hop.{Hop}
use Rattle.cqf_model.specs.declared.topology.Pace.{Pace}
use Rattle.cqf_model.specs.declared.topology.Row.{Row}
use Rattle.cqf_model.specs.Domain.{Domain, budget}
use Rattle.cqf_model.specs.History.{left_on}
use Rattle.cqf_model.specs.Paces.{each_cycle, is_active}
use Rattle.cqf_model.specs.StreamGate.{stream_list}
use Rattle.cqf_model.specs.Table.{cost_on, crosses, link_cost, links_in, reserved_in, uses}

-- each cycle is active
pub each_active_cycle : (hop_number cycle : ℕ) → is_active each_cycle hop_number cycle ≡ true
each_active_cycle hop_number cycle = eq-eqb ((0 + hop_number) % 1) (cycle % 1) (mod-one (0 + hop_number) ∙ sym (mod-one cycle))

-- its gate has two entries, at each hop number
pub gate_same : (cycle_time reserved hop_number : ℕ) →
    stream_list cycle_time reserved each_cycle hop_number
    ≡ record { ipv = 6; interval = cycle_time; octet_max = Some reserved } ∷ record { ipv = 7; interval = cycle_time; octet_max = Some reserved } ∷ []
gate_same cycle_time reserved hop_number = ap₂ (λ (a b : Bool). entry 6 a ∷ entry 7 b ∷ []) (each_active_cycle hop_number 0) (each_active_cycle hop_number 1)
  where
    entry : ℕ → Bool → StreamEntry
    entry ipv b = record { ipv = ipv; interval = cycle_time; octet_max = Some (if b then reserved else 0) }

-- it reserves its octets, at each hop number
pub reserved_same : (row : Row) (hop_number cycle : ℕ) → row.pace ≡ each_cycle → reserved_in row hop_number cycle ≡ row.octets
reserved_same row hop_number cycle paced =
    ap (λ (b : Bool). if b then row.octets else 0) (ap (λ (p : Pace). is_active p hop_number cycle) paced ∙ each_active_cycle hop_number cycle)

-- it goes in each cycle by exactly the links of its tree
pub uses_same : (tree : List Hop) (l cycle : ℕ) → uses tree each_cycle l cycle ≡ list_any (λ k. k == l) (links_in tree)
uses_same [] l cycle = refl
uses_same (hop ∷ tree) l cycle =
    ap (λ (b : Bool). ((hop.link == l) && b) || uses tree each_cycle l cycle) (each_active_cycle hop.hop_number cycle)
    ∙ and_true (hop.link == l) (uses tree each_cycle l cycle)
    ∙ ap (λ (b : Bool). (hop.link == l) || b) (uses_same tree l cycle)
  where
    and_true : (a b : Bool) → ((a && true) || b) ≡ (a || b)
    and_true true b = refl
    and_true false b = refl

-- its cost on a link in each cycle
abbrev pub plain_cost : Row → ℕ → ℕ
plain_cost row l = if crosses row l then cost_of row.overhead row.octets else 0

pub cost_same : (row : Row) (l cycle : ℕ) → row.pace ≡ each_cycle → cost_on row l cycle ≡ plain_cost row l
cost_same row l cycle paced =
    ap (λ (b : Bool). if b then cost_of row.overhead row.octets else 0)
    (ap (λ (p : Pace). uses row.tree.items p l cycle) paced ∙ uses_same row.tree.items l cycle)

-- the costs of such streams on a link
pub costs_same : (rows : List Row) (l cycle : ℕ) → ((row : Row) → Contains rows row → row.pace ≡ each_cycle) →
    link_cost rows l cycle ≡ sum_by (λ (row : Row). plain_cost row l) rows
costs_same [] l cycle paced = refl
costs_same (row ∷ rows) l cycle paced =
    let first = cost_same row l cycle (paced row (contains_here row rows)) in
    let rest = costs_same rows l cycle (λ r c. paced r (contains_later row rows r c)) in
    let a = sum_by-cons (λ (r : Row). cost_on r l cycle) row rows in
    let b = sum_by-cons (λ (r : Row). plain_cost r l) row rows in
    omega (arith, a, b, first, rest)

-- the greatest of numbers that are all the same
pub most_same : (x n : ℕ) → fold max 0 (each_below (λ k. x ∷ []) (suc n)) ≡ x
most_same x zero = omega arith
most_same x (suc n) = fold_push max 0 (each_below (λ k. x ∷ []) (suc n)) x ∙ ap (λ z. max z x) (most_same x n) ∙ itself
  where
    itself : max x x ≡ x
    itself = omega arith

-- what they leave of a link that another such stream goes by
pub left_same : (d : Domain) (rows : List Row) (tree : List Hop) (l : ℕ) → ((row : Row) → Contains rows row → row.pace ≡ each_cycle) →
    list_any (λ k. k == l) (links_in tree) ≡ true → left_on d rows tree each_cycle l ≡ budget d l - sum_by (λ (row : Row). plain_cost row l) rows
left_same d rows tree l paced crossed =
    let plain = sum_by (λ (row : Row). plain_cost row l) rows in
    let one : (k : ℕ) → k < 80 → (if uses tree each_cycle l k then link_cost rows l k ∷ [] else []) ≡ plain ∷ [] =
    λ k below.
    ap (λ (b : Bool). if b then link_cost rows l k ∷ [] else []) (uses_same tree l k ∙ crossed) ∙ ap (λ z. z ∷ []) (costs_same rows l k paced) in
    ap (λ z. budget d l - z)
    (ap (fold max 0) (same_below (λ k. if uses tree each_cycle l k then link_cost rows l k ∷ [] else []) (λ k. plain ∷ []) 80 one) ∙ most_same plain 79)
