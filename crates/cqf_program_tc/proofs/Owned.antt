-- Links that have a guard band of their own.
use Rattle.std.proofs.Common.{◌≡◌, ◌∙◌, ◌+◌, ◌<◌, ◌++◌, ◌||◌, ℕ, Bool, true, false, List, [], Option, Some, None, ap, ap₂, arith, codes, get_or, if◌then◌else◌, inl, inr}
use Rattle.std.proofs.Common.{length, refl, slice_get, subst, sym, take}
use Rattle.std.specs.List.{list_any}
use Rattle.std.specs.Option.{option_map_or}
use Rattle.std.proofs.lemmas.List.Folds.{list_any_more}
use Rattle.std.proofs.lemmas.Option.{slice_get_cases, slice_get_past}
use Rattle.cqf_lists.proofs.Members.{contains_at, member_any}
use Rattle.cqf_model.specs.declared.topology.Link.{Link}
use Rattle.cqf_model.specs.Domain.{Domain, guard_by}
use Rattle.cqf_model.specs.GateList.{port_list}
use Rattle.cqf_model.specs.Network.{compiled_lists}
use Rattle.cqf_program_tc.specs.Bridge.{has_own_guard, list_of_own, own_list}
use Rattle.cqf_program_tc.specs.Words.{tx_words}

-- whether the link with this number has one
abbrev pub owns : List Link → ℕ → Bool
owns links l = option_map_or has_own_guard (slice_get links l) false

-- a link that has one is a link of the domain
pub owner_inside : (links : List Link) (l : ℕ) → owns links l ≡ true → l < length links
owner_inside links l own =
    elim (slice_get_cases links l).1 [
      | inl w ↦ w.1
      | inr w ↦ absurd (let none : false ≡ true = sym (ap (λ (o : Option Link). option_map_or has_own_guard o false) (slice_get_past links l w.0)) ∙ own in cc)
    ]

-- the words of its list are a parameter of its call
pub list_of_owner : (d : Domain) (l : ℕ) → owns d.links l ≡ true → own_list d l ≡ codes " \"" ++ (tx_words (compiled_lists d l) ++ codes "\"")
list_of_owner d l own = by (slice_get d.links l) own
  where
    by : (o : Option Link) → option_map_or has_own_guard o false ≡ true →
        option_map_or (list_of_own d) o [] ≡ codes " \"" ++ (tx_words (port_list d.cycle_time (option_map_or (guard_by d.guard) o d.guard)) ++ codes "\"")
    by None e = absurd (cc)
    by (Some link) e = ap (λ (b : Bool). if b then codes " \"" ++ (tx_words (port_list d.cycle_time (guard_by d.guard link)) ++ codes "\"") else []) e

-- and those of another link aren't
pub no_list_of_other : (d : Domain) (l : ℕ) → owns d.links l ≡ false → own_list d l ≡ []
no_list_of_other d l other = by (slice_get d.links l) other
  where
    by : (o : Option Link) → option_map_or has_own_guard o false ≡ false → option_map_or (list_of_own d) o [] ≡ []
    by None e = refl
    by (Some link) e = ap (λ (b : Bool). if b then codes " \"" ++ (tx_words (port_list d.cycle_time (guard_by d.guard link)) ++ codes "\"") else []) e

-- if the links so far have none, and the next one has none
pub none_so_far : (links : List Link) (k : ℕ) → k < length links → owns links k ≡ false → list_any has_own_guard (take k links) ≡ false →
    list_any has_own_guard (take (k + 1) links) ≡ false
none_so_far links k inside other so_far =
    elim (slice_get_cases links k).1 [
      | inl w ↦
          (let here : has_own_guard w.0 ≡ false = sym (ap (λ (o : Option Link). option_map_or has_own_guard o false) w.2) ∙ other in
          list_any_more has_own_guard links k w.0 inside ∙ ap₂ (λ (a b : Bool). a || b) so_far (ap has_own_guard w.3 ∙ here))
      | inr w ↦ absurd (omega (arith, inside, w.0))
    ]

-- and if one has one, some link has
pub some_has : (links : List Link) (k : ℕ) → owns links k ≡ true → list_any has_own_guard links ≡ true
some_has links k own =
    elim (slice_get_cases links k).1 [
      | inl w ↦
          member_any has_own_guard links w.0 (contains_at links k w.0 w.2)
          (sym (ap (λ (o : Option Link). option_map_or has_own_guard o false) w.2) ∙ own)
      | inr w ↦ absurd (omega (arith, owner_inside links k own, w.0))
    ]
