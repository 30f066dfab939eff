-- The first link that leads into a set of nodes.
use Rattle.std.proofs.Common.{◌≡◌, ◌+◌, ◌<◌, ◌≤◌, ℕ, Bool, true, false, List, Option, Some, None, length, inl, inr, subst, arith}
use Rattle.std.proofs.lemmas.Bool.{cases_lt}
use Rattle.cqf_model.specs.declared.topology.Link.{Link}
use Rattle.cqf_model.specs.declared.topology.Node.{Node}
use Rattle.cqf_network.specs.Ends.{open_to}
use Rattle.cqf_network.specs.Steps.{IsFirstStep, LeadsInto, NoneLeadsInto}
use Rattle.cqf_network.proofs.MarkLemmas.{open_within}

-- no link below a number leads from the node into the set
pub record NoneBelow (next : Node → ℕ → Option Node) (ends : Node → Bool) (node : Node) (count : ℕ) : Type 0 where
  pub none : (l : ℕ) (end : Node) → l < count → ¬ LeadsInto next ends node l end

pub none_yet : (next : Node → ℕ → Option Node) (ends : Node → Bool) (node : Node) → NoneBelow next ends node 0
none_yet next ends node = record { none = λ l end inside leads. omega (arith, inside) }

-- one link more that leads nowhere, or elsewhere
pub none_there : (next : Node → ℕ → Option Node) (ends : Node → Bool) (node : Node) (count : ℕ) → NoneBelow next ends node count →
    next node count ≡ None → NoneBelow next ends node (count + 1)
none_there next ends node count below e = record {
  none = λ l end inside leads. elim (cases_lt l count) [
    | inl earlier ↦ below.none l end earlier leads
    | inr last ↦ (let same : l ≡ count = omega (arith, inside, last) in let there = subst (λ (k : ℕ). next node k ≡ Some end) same leads.leads in absurd cc)
  ];
}

pub none_elsewhere : (next : Node → ℕ → Option Node) (ends : Node → Bool) (node : Node) (count : ℕ) (there : Node) → NoneBelow next ends node count →
    next node count ≡ Some there → ends there ≡ false → NoneBelow next ends node (count + 1)
none_elsewhere next ends node count there below e outside = record {
  none = λ l end inside leads. elim (cases_lt l count) [
    | inl earlier ↦ below.none l end earlier leads
    | inr last ↦ (let same : l ≡ count = omega (arith, inside, last) in let to_end = subst (λ (k : ℕ). next node k ≡ Some end) same leads.leads in
        let one : end ≡ there = cc in let within = subst (λ (n : Node). ends n ≡ true) one leads.inside in absurd cc)
  ];
}

-- one that leads into the set is the first
pub first_there : (next : Node → ℕ → Option Node) (ends : Node → Bool) (node : Node) (count : ℕ) (end : Node) → NoneBelow next ends node count →
    next node count ≡ Some end → ends end ≡ true → IsFirstStep next ends node count end
first_there next ends node count end below e inside = record {
  leads = record { leads = e; inside = inside };
  least = λ other there leads. elim (cases_lt other count) [
    | inl earlier ↦ absurd (below.none other there earlier leads)
    | inr later ↦ later
  ];
}

-- if no link leads into the set, none does under any number
pub none_at_all : (links : List Link) (room : ℕ → Bool) (ends : Node → Bool) (node : Node) (count : ℕ) → NoneBelow (open_to links room) ends node count →
    length links ≤ count → NoneLeadsInto (open_to links room) ends node
none_at_all links room ends node count below all l end leads =
    below.none l end (omega (arith, all, open_within links room node end l leads.leads)) leads
