-- Bridges that are marked link by link.
use Rattle.std.proofs.Common.{◌≡◌, ◌+◌, ◌<◌, ℕ, Bool, false, List, Option, Some, None, length, refl, ap, subst, inl, inr, arith}
use Rattle.std.specs.Prelude.{option_and_then, replicate, if◌then◌else◌}
use Rattle.std.proofs.lemmas.Bool.{cases_Bool, cases_lt}
use Rattle.std.proofs.lemmas.List.{get_or-replicate, get_or_past, length-replicate}
use Rattle.std.proofs.lemmas.Option.{slice_get_past}
use Rattle.cqf_model.specs.declared.topology.Link.{Link}
use Rattle.cqf_model.specs.declared.topology.Node.{Node}
use Rattle.cqf_model.specs.declared.topology.Node.TheVariants.{Bridge, Station}
use Rattle.cqf_network.specs.Ends.{AreMarked, IsMarkedBy, is_marked, open_to}
use Rattle.cqf_network.specs.Steps.{AreBefore, LeadsInto}
use Rattle.cqf_network.specs.Paths.{led_by, led_to}

-- a number that leads to a node is a link's number
pub open_within : (links : List Link) (room : ℕ → Bool) (node end : Node) (l : ℕ) → open_to links room node l ≡ Some end → l < length links
open_within links room node end l e = elim (cases_lt l (length links)) [
  | inl inside ↦ inside
  | inr past ↦ elim (cases_Bool (room l)) [
    | inl roomy ↦ absurd (let none = slice_get_past links l past in let led : led_to links node l ≡ None = ap (option_and_then (led_by node)) none in
        let opened : open_to links room node l ≡ led_to links node l = ap (λ b. if b then led_to links node l else None) roomy in cc)
    | inr full ↦ absurd (let opened : open_to links room node l ≡ None = ap (λ b. if b then led_to links node l else None) full in cc)
  ]
]

-- without marks, no bridge is marked
pub no_marks : (count : ℕ) (node : Node) → is_marked (replicate count false) node ≡ false
no_marks count (Bridge bridge) = elim (cases_lt bridge count) [
  | inl inside ↦ get_or-replicate count bridge false false inside
  | inr past ↦ get_or_past (replicate count false) bridge false (omega (arith, past, length-replicate count false))
]
no_marks count (Station station) = refl

-- before the first link none is marked
pub none_marked : (next : Node → ℕ → Option Node) (ends : Node → Bool) (marks : List Bool) → ((node : Node) → is_marked marks node ≡ false) → AreMarked next ends 0 marks
none_marked next ends marks none = record {
  leads = λ node marked. absurd (let not_marked = none node in cc);
  all = λ node end l inside leads. absurd (omega (arith, inside));
}

-- one link more
pub one_marked : (next : Node → ℕ → Option Node) (ends : Node → Bool) (count : ℕ) (before after : List Bool) → AreMarked next ends count before →
    IsMarkedBy next ends count before after → AreMarked next ends (count + 1) after
one_marked next ends count before after are by = record {
  leads = λ node marked. elim (cases_Bool (is_marked before node)) [
    | inl was ↦ are.leads node was
    | inr not_yet ↦ let more = by.others node marked not_yet in record { step = count; end = more.0; leads = more.1 }
  ];
  all = λ node end l inside leads. elim (cases_lt l count) [
    | inl earlier ↦ by.kept node (are.all node end l earlier leads)
    | inr last ↦ (let same : l ≡ count = omega (arith, inside, last) in by.added node end (subst (λ (k : ℕ). LeadsInto next ends node k end) same leads))
  ];
}

-- by all links, the marked bridges are those from which a link leads into the set
pub all_marked : (links : List Link) (room : ℕ → Bool) (ends : Node → Bool) (marks : List Bool) → AreMarked (open_to links room) ends (length links) marks →
    AreBefore (open_to links room) ends (is_marked marks)
all_marked links room ends marks are = record {
  leads = are.leads;
  all = λ node leads. are.all node leads.end leads.step (open_within links room node leads.end leads.step leads.leads.leads) leads.leads;
}
