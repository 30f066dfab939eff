-- Lists that are read one after the other.
use Rattle.std.proofs.Common.{◌≡◌, ◌<◌, ◌+◌, ◌∙◌, ℕ, List, ◌++◌, Result, Ok, Err, add-one, append_assoc, ap, drop, drop-cons, get_or, length, refl, sym}
use Rattle.toml.specs.View.{items_view, view}
use Rattle.toml.specs.Data.{Items}
use Rattle.toml.specs.declared.value.Value.{Value}
use Rattle.cqf_lists.specs.Results.{and_then}
use Rattle.cqf_topology.specs.DomainText.{with_front}
use Rattle.cqf_addressing.specs.declared.faults.AddressingFault.{AddressingFault}
use Rattle.cqf_addressing.specs.declared.links.LinkInterfaces.{LinkInterfaces}
use Rattle.cqf_addressing.specs.Links.{element_from, interfaces_from}

-- what is read first, and what is read after it
abbrev pub joined : {A E : Type 0} → Result (List A) E → Result (List A) E → Result (List A) E
joined first rest = and_then first (λ these. and_then rest (λ more. Ok (these ++ more)))

-- the first was read
pub first_read : {A E : Type 0} (done new : List A) (first rest : Result (List A) E) → with_front done first ≡ Ok new →
    with_front done (joined first rest) ≡ with_front new rest
first_read done new (Ok these) (Ok more) is =
    let here : (done ++ these) ≡ new = cc in
    ap Ok (sym (append_assoc done these more) ∙ ap (λ front. front ++ more) here)
first_read done new (Ok these) (Err e) is = refl
first_read done new (Err e) rest is = absurd (cc)

-- and where it wasn't, its fault is that of both
pub first_fault : {A E : Type 0} (done : List A) (e : E) (first rest : Result (List A) E) → with_front done first ≡ Err e →
    with_front done (joined first rest) ≡ Err e
first_fault done e (Ok these) rest is = absurd (cc)
first_fault done e (Err f) rest is = is

module _ (stations : Items) (values : List Value) (k : ℕ) (v : Value) (inside : k < length values) (at : v ≡ get_or values k v)
    (done : List LinkInterfaces) where
  -- the links from an index on: of the element there, and of the rest
  from_index : interfaces_from stations (items_view (drop k values))
      ≡ joined (element_from stations (view v)) (interfaces_from stations (items_view (drop (k + 1) values)))
  from_index =
      ap (λ vs. interfaces_from stations (items_view vs)) (drop-cons values k v inside)
      ∙ (λ i. joined (element_from stations (view (sym at i))) (interfaces_from stations (items_view (drop (sym (add-one k) i) values))))

  -- those of one element more were read
  pub element_read : (new : List LinkInterfaces) → with_front done (element_from stations (view v)) ≡ Ok new →
      with_front new (interfaces_from stations (items_view (drop (k + 1) values))) ≡ with_front done (interfaces_from stations (items_view (drop k values)))
  element_read new is = sym (ap (with_front done) from_index ∙ first_read done new _ _ is)

  -- or weren't
  pub element_fault : (e : AddressingFault) → with_front done (element_from stations (view v)) ≡ Err e →
      with_front done (interfaces_from stations (items_view (drop k values))) ≡ Err e
  element_fault e is = ap (with_front done) from_index ∙ first_fault done e _ _ is
