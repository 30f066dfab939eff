-- The links of a bridge, and an element for each of them.
use Rattle.std.proofs.Common.{◌≡◌, ℕ, zero, suc, ◌<◌, Bool, true, false, List, [], ◌++◌, ◌==◌, if◌then◌else◌, length, sym, ap, ap₂, refl, ◌∙◌, inl, inr, arith}
use Rattle.std.proofs.Common.{Option, append-nil, eqb-true, eq-eqb, ne_eqb}
use Rattle.std.specs.Option.{option_map_or}
use Rattle.std.proofs.lemmas.Bool.{cases_lt, cond-false, cond-true}
use Rattle.std.proofs.lemmas.List.Folds.{flat_map-map}
use Rattle.std.proofs.lemmas.Option.{slice_get_cases}
use Rattle.cqf_lists.specs.Lists.{each_below}
use Rattle.cqf_lists.proofs.EachBelow.{none_below}
use Rattle.cqf_lists.proofs.Numbers.{made_of_kept}
use Rattle.cqf_model.specs.declared.frames.Sent.{Sent}
use Rattle.cqf_model.specs.declared.topology.Link.{Link}
use Rattle.cqf_model.specs.Book.{batch}
use Rattle.cqf_model.specs.Domain.{Domain, bridge_of, enters, leaves}
use Rattle.cqf_model.specs.Policing.{Carried}
use Rattle.cqf_model.proofs.LinkEnds.{enters_inside}
use Rattle.cqf_bridge.specs.Batch.{LinkBatch}
use Rattle.cqf_agenda.specs.Links.{links_into}
use Rattle.cqf_bridge.specs.Receiving.{carried_by}
use Rattle.cqf_bridge.specs.Follows.{batch_of, batches_into}

-- lists end to end are equal to one of them if all others are empty
pub one_below : {X : Type 0} (f : ℕ → List X) (n k : ℕ) → k < n → ((j : ℕ) → (j ≡ k → ⊥) → f j ≡ []) → each_below f n ≡ f k
one_below f zero k l others = absurd (omega (arith, l))
one_below {X} f (suc n) k l others =
    elim (cases_lt k n) [
      | inl below ↦
          ap₂ (λ (xs ys : List X). xs ++ ys) (one_below f n k below others) (others n (λ e. omega (arith, below, e))) ∙ append-nil (f k)
      | inr past ↦
          let last : n ≡ k = omega (arith, l, past) in
          ap (λ (xs : List X). xs ++ f n) (none_below f n (λ j before. others j (λ e. omega (arith, before, last, e)))) ∙ ap f last
    ]

-- a link leaves only one bridge
pub bridge_it_leaves : (d : Domain) (l bridge : ℕ) → l < length d.links → leaves d l bridge ≡ true → bridge_of d l ≡ bridge
bridge_it_leaves d l bridge h here =
    elim (slice_get_cases d.links l).1 [
      | inl w ↦
          ap (λ (o : Option Link). option_map_or (λ (link : Link). link.from) o 0) w.2
          ∙ eqb-true w.0.from bridge (sym (ap (λ (o : Option Link). option_map_or (λ (link : Link). link.from == bridge) o false) w.2) ∙ here)
      | inr w ↦ absurd (omega (arith, h, w.0))
    ]

-- the batches of the links that end in a bridge have what these links send
pub brings_its_batch : (d : Domain) (carried : Carried) (bridge cycle m : ℕ) → enters d m bridge ≡ true →
    carried_by (batches_into d carried bridge cycle) m ≡ batch d carried m cycle
brings_its_batch d carried bridge cycle m here =
    let of_link = λ (x : LinkBatch). if x.link == m then x.frames else [] in
    let frames_of : ℕ → List Sent = λ l. if l == m then batch d carried l cycle else [] in
    let each : ℕ → List Sent = λ l. if enters d l bridge then frames_of l else [] in
    flat_map-map of_link (batch_of d carried cycle) (links_into d bridge)
    ∙ made_of_kept (λ l. enters d l bridge) frames_of (length d.links)
    ∙ one_below each (length d.links) m (enters_inside d m bridge here)
    (λ l differ. nothing (enters d l bridge) (l == m) (batch d carried l cycle) (ne_eqb l m differ))
    ∙ cond-true (enters d m bridge) (frames_of m) [] here
    ∙ cond-true (m == m) (batch d carried m cycle) [] (eq-eqb m m refl)
  where
    -- another link has none of it
    nothing : (in_bridge of_link : Bool) (frames : List Sent) → of_link ≡ false →
        (if in_bridge then (if of_link then frames else []) else []) ≡ []
    nothing true of_link frames other = cond-false of_link frames [] other
    nothing false of_link frames other = refl
