-- First paths, listed station by station.
use Rattle.std.proofs.Common.{◌≡◌, ◌∙◌, ◌+◌, ◌<◌, ◌≤◌, ℕ, Bool, List, [], ◌∷◌, ◌++◌, Some, length, get_or, take, refl, sym, subst, inl, inr, arith, length-append, length-take}
use Rattle.std.specs.Prelude.{slice_get}
use Rattle.std.proofs.lemmas.Bool.{cases_lt}
use Rattle.std.proofs.lemmas.Option.{slice_get-get_or, slice_get_within}
use Rattle.cqf_lists.proofs.Indices.{slice_get-take, slice_get_after, slice_get_front}
use Rattle.cqf_model.specs.declared.topology.Link.{Link}
use Rattle.cqf_model.specs.declared.topology.Node.{Node}
use Rattle.cqf_model.specs.declared.topology.Node.TheVariants.{Station}
use Rattle.cqf_network.specs.Listeners.{AreFirstPaths, IsFirstWithout}
use Rattle.cqf_network.specs.Paths.{IsFirstPath, NoWay}

-- to no stations there are no paths
pub no_paths : (links : List Link) (room : ℕ → Bool) (from : Node) → AreFirstPaths links room from [] []
no_paths links room from = record { one_each = refl; each = λ k station path there is. absurd (omega (arith, slice_get_within [] k station there)) }

-- the first n elements of a list with at least n elements are n
pub length_front : (xs : List ℕ) (n : ℕ) → n ≤ length xs → length (take n xs) ≡ n
length_front xs n h = omega (arith, h, length-take n xs)

-- one path more
pub one_way_more : (links : List Link) (room : ℕ → Bool) (from : Node) (stations : List ℕ) (link_paths : List (List ℕ)) (index station : ℕ) (path : List ℕ) →
    slice_get stations index ≡ Some station → AreFirstPaths links room from (take index stations) link_paths → IsFirstPath links room from (Station station) path →
    AreFirstPaths links room from (take (index + 1) stations) (link_paths ++ path ∷ [])
one_way_more links room from stations link_paths index station path here are first = record {
  one_each = omega (arith, inside, so_many, length-append link_paths (path ∷ []), length_front stations (index + 1) (omega (arith, inside)));
  each = λ k there other stands is. elim (cases_lt k index) [
    | inl before ↦ are.each k there other (slice_get-take stations index k before ∙ sym (slice_get-take stations (index + 1) k (omega (arith, before))) ∙ stands)
        (sym (slice_get_front link_paths (path ∷ []) k (omega (arith, so_many, before))) ∙ is)
    | inr following ↦ last k there other following (slice_get_within (take (index + 1) stations) k there stands) stands is
  ];
}
  where
    inside : index < length stations
    inside = slice_get_within stations index station here

    so_many : length link_paths ≡ index
    so_many = are.one_each ∙ length_front stations index (omega (arith, inside))

    -- the last is the new one
    last : (k there : ℕ) (other : List ℕ) → index ≤ k → k < length (take (index + 1) stations) → slice_get (take (index + 1) stations) k ≡ Some there →
        slice_get (link_paths ++ path ∷ []) k ≡ Some other → IsFirstPath links room from (Station there) other
    last k there other following within stands is =
        let same : k ≡ index = omega (arith, following, within, length_front stations (index + 1) (omega (arith, inside))) in
        let stood : slice_get stations k ≡ Some there = sym (slice_get-take stations (index + 1) k (omega (arith, same))) ∙ stands in
        let at_index : slice_get stations index ≡ Some there = subst (λ (i : ℕ). slice_get stations i ≡ Some there) same stood in
        let one : station ≡ there = cc in
        let new : slice_get (link_paths ++ path ∷ []) k ≡ Some path = slice_get_after link_paths path [] k (omega (arith, same, so_many)) in
        let path_is : path ≡ other = cc in
        subst (λ (s : ℕ). IsFirstPath links room from (Station s) other) one
        (subst (λ (w : List ℕ). IsFirstPath links room from (Station station) w) path_is first)

-- the next station has no path, and those before it have one
pub first_without : (links : List Link) (room : ℕ → Bool) (from : Node) (stations : List ℕ) (link_paths : List (List ℕ)) (index station : ℕ) →
    slice_get stations index ≡ Some station → AreFirstPaths links room from (take index stations) link_paths → NoWay links room from (Station station) →
    IsFirstWithout links room from stations index
first_without links room from stations link_paths index station here are none = record {
  station = station;
  stands = here;
  none = none;
  before = λ k there earlier stands.
      let so_many : length link_paths ≡ index = are.one_each ∙ length_front stations index (omega (arith, slice_get_within stations index station here)) in (
        get_or link_paths k [],
        are.each k there (get_or link_paths k []) (slice_get-take stations index k earlier ∙ stands)
            (slice_get-get_or link_paths k [] (omega (arith, so_many, earlier))),
      );
}
