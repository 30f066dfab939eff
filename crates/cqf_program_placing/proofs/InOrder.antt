-- Settled streams in an order of their own.
use Rattle.std.proofs.Common.{◌≡◌, ◌∙◌, ◌<◌, ◌≤◌, ◌+◌, ◌++◌, ℕ, zero, suc, All, List, [], ◌∷◌, ap, arith, get_or, length, map, refl, subst, subst₂, sym}
use Rattle.std.proofs.lemmas.List.{take_all}
use Rattle.std.specs.Prelude.{Option, Some, None, option_map, slice_get}
use Rattle.std.proofs.lemmas.List.Elements.{All-head, All-tail}
use Rattle.std.proofs.lemmas.Option.{slice_get-get_or, slice_get-map}
use Rattle.cqf_laws_history.specs.StateLaws.{SealsAreCounted}
use Rattle.cqf_model.specs.Domain.{Domain}
use Rattle.cqf_admission.specs.Admission.{Administration}
use Rattle.cqf_program_placing.specs.declared.outcomes.PlacingOutcome.{PlacingOutcome}
use Rattle.cqf_program_placing.specs.declared.settled.Settled.{Settled}
use Rattle.cqf_program_placing.specs.Orders.{before_others, in_order}
use Rattle.cqf_program_placing.specs.Placing.{ArePlacedFrom, IsPlacing, outcome_value}
use Rattle.cqf_program_placing.specs.Settled.{SettledStream, settled_value}
use Rattle.cqf_program_placing.proofs.IndexLemmas.{ArePlacedSoFar, one_placed}

-- what is at an index below the length comes first
first_is : {A : Type 0} (all : List A) (index : ℕ) (order : List ℕ) (default : A) → index < length all →
    in_order all (index ∷ order) ≡ get_or all index default ∷ in_order all order
first_is all index order default inside = ap (λ found. before_others found (in_order all order)) (slice_get-get_or all index default inside)

-- something of a list that isn't empty
any_of : {A : Type 0} (all : List A) (index : ℕ) → index < length all → A
any_of [] index inside = absurd (omega (arith, inside))
any_of (x ∷ all) index inside = x

-- as many as there are indices
pub length_in_order : {A : Type 0} (all : List A) (order : List ℕ) → All (λ index. index < length all) order → length (in_order all order) ≡ length order
length_in_order all [] inside = refl
length_in_order all (index ∷ order) inside =
    let here = All-head (λ k. k < length all) index order inside in
    ap length (first_is all index order (any_of all index here) here)
    ∙ ap (λ n. suc n) (length_in_order all order (All-tail (λ k. k < length all) index order inside))

-- each is what is at its index
pub at_in_order : {A : Type 0} (all : List A) (order : List ℕ) (position index : ℕ) (default : A) → All (λ k. k < length all) order → position < length order →
    index ≡ get_or order position index → get_or (in_order all order) position default ≡ get_or all index default
at_in_order all [] position index default inside low is = absurd (omega (arith, low))
at_in_order all (first ∷ order) zero index default inside low is =
    let here = All-head (λ k. k < length all) first order inside in
    ap (λ xs. get_or xs 0 default) (first_is all first order default here) ∙ ap (λ k. get_or all k default) (sym is)
at_in_order all (first ∷ order) (suc position) index default inside low is =
    let here = All-head (λ k. k < length all) first order inside in
    ap (λ xs. get_or xs (suc position) default) (first_is all first order default here)
    ∙ at_in_order all order position index default (All-tail (λ k. k < length all) first order inside) (omega (arith, low)) is

-- what is made of each, in an order
made_before : {A B : Type 0} (f : A → B) (found : Option A) (others : List A) → map f (before_others found others) ≡ before_others (option_map f found) (map f others)
made_before f None others = refl
made_before f (Some one) others = refl

pub map_in_order : {A B : Type 0} (f : A → B) (all : List A) (order : List ℕ) → map f (in_order all order) ≡ in_order (map f all) order
map_in_order f all [] = refl
map_in_order f all (index ∷ order) =
    made_before f (slice_get all index) (in_order all order)
    ∙ ap (λ found. before_others found (map f (in_order all order))) (sym (slice_get-map f all index))
    ∙ ap (before_others (slice_get (map f all) index)) (map_in_order f all order)

-- an index of an order is one of the streams
pub index_inside : (count : ℕ) (order : List ℕ) (k index : ℕ) → All (λ i. i < count) order → k < length order → index ≡ get_or order k index → index < count
index_inside count order k index inside low is = subst (λ n. n < count) (sym is) (inside k index low)

-- ---- streams that are placed in an order

-- one more is placed
pub one_in_order : (d : Domain) (streams : List Settled) (order : List ℕ) (k index : ℕ) (stream : Settled) (old new : Administration)
    (outcomes after : List PlacingOutcome) (outcome : PlacingOutcome) → SealsAreCounted → All (λ i. i < length streams) order → k < length order →
    index ≡ get_or order k index → stream ≡ get_or streams index stream → ArePlacedSoFar d (in_order streams order) k old outcomes → new.domain ≡ d →
    IsPlacing d old.entries (settled_value stream) (outcome_value outcome) new.entries → after ≡ outcomes ++ outcome ∷ [] →
    ArePlacedSoFar d (in_order streams order) (k + 1) new after
one_in_order d streams order k index stream old new outcomes after outcome counted inside low is at so_far domain last more =
    let long : length (in_order streams order) ≡ length order = length_in_order streams order inside in
    let there : k < length (in_order streams order) = omega (arith, low, long) in
    one_placed d (in_order streams order) k stream old new outcomes after outcome counted there
    (at ∙ sym (at_in_order streams order k index stream inside low is)) so_far domain last more

-- in the end all are
pub all_in_order : (d : Domain) (streams : List Settled) (order : List ℕ) (k : ℕ) (a : Administration) (outcomes : List PlacingOutcome) →
    All (λ i. i < length streams) order → length order ≤ k → ArePlacedSoFar d (in_order streams order) k a outcomes →
    ArePlacedFrom a.domain [] (in_order (map settled_value streams) order) (map outcome_value outcomes) a.entries
all_in_order d streams order k a outcomes inside over so_far =
    let long : length (in_order streams order) ≡ length order = length_in_order streams order inside in
    let there : length (in_order streams order) ≤ k = omega (arith, over, long) in
    subst₂ (λ (x : Domain) (xs : List SettledStream). ArePlacedFrom x [] xs (map outcome_value outcomes) a.entries) (sym so_far.domain)
    (ap (map settled_value) (take_all k (in_order streams order) there) ∙ map_in_order settled_value streams order) so_far.placed
