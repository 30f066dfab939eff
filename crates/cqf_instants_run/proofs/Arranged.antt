-- The background frames of a run in order of instant.
use Rattle.std.proofs.Common.{◌≡◌, ℕ, ◌<◌, List, All, Contains, subst, sym, ap, ◌∙◌, arith, refl, filter, eqb-true, ltb-true}
use Rattle.std.specs.List.Sorted.{IsNonDecreasingBy, IsPermutation, IsStableByKey}
use Rattle.std.specs.Ordering.{nat_cmp}
use Rattle.std.proofs.lemmas.Bool.{lt-ltb}
use Rattle.cqf_lists.proofs.EachBelow.{same_below}
use Rattle.cqf_lists.proofs.Filters.{filter_weaker}
use Rattle.cqf_lists.proofs.Members.{all_from_members, contains_from_filter}
use Rattle.cqf_lists.proofs.Sorted.{sorted_by_key}
use Rattle.cqf_model.specs.declared.frames.Backed.{Backed}
use Rattle.cqf_model.specs.declared.frames.Background.{Background}
use Rattle.cqf_model.specs.Network.{numbered_background}
use Rattle.cqf_instants_run.specs.Frames.{by_instant, is_at, is_early}

-- the instant of a background frame
abbrev pub at_of : Backed → ℕ
at_of x = x.background.at.0

-- a background frame at a given instant
at_instant : ℕ → Backed
at_instant t = record { frame = 0; background = record { at = record { 0 = t }; link = 0; class = 0; octets = 0 } }

-- and that is its instant
at_instants : (t : ℕ) → at_of (at_instant t) ≡ t
unfolding at_instant
at_instants t = refl

-- the background frames before an end, sorted by instant, are the run's by instant
pub arranged : (background : List Background) (end : ℕ) (early sorted : List Backed) → early ≡ filter (is_early end) (numbered_background background) →
    IsPermutation early sorted → IsNonDecreasingBy at_of sorted → IsStableByKey at_of nat_cmp early sorted → sorted ≡ by_instant background end
arranged background end early sorted is moved ascends stable =
    let all = numbered_background background in
    sorted_by_key at_of at_instant at_instants end early sorted moved ascends stable (before early is)
    ∙ same_below (λ t. filter (is_at t) early) (λ t. filter (is_at t) all) end (λ t less.
    ap (filter (is_at t)) is
    ∙ sym (filter_weaker (is_at t) (is_early end) all (λ x c e. lt-ltb (at_of x) end (omega (arith, less, eqb-true (at_of x) t e)))))
  where
    -- each of them is before the end
    before : (xs : List Backed) → xs ≡ filter (is_early end) (numbered_background background) → All (λ x. at_of x < end) xs
    before xs e = all_from_members (λ x. at_of x < end) xs (λ x c.
        ltb-true (at_of x) end (contains_from_filter (is_early end) (numbered_background background) x (subst (λ z. Contains z x) e c)).1)
