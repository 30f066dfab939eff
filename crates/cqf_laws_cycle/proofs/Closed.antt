-- Arrivals whose gate has been closed since they arrived change nothing.
use Rattle.std.proofs.Common.{ℕ, ◌<◌, List, sym, subst, append_assoc, append-nil}
use Rattle.std.specs.Prelude.{[], ◌∷◌, ◌++◌, Contains}
use Rattle.cqf_lists.proofs.Members.{contains_here, contains_later}
use Rattle.cqf_model.specs.declared.ports.Arrival.{Arrival}
use Rattle.cqf_model.specs.Port.{AreLegal, PortRules, Transmission}
use Rattle.cqf_model.proofs.Arrivals.{IsClosedUntil}
use Rattle.cqf_laws_network.specs.PortLaws.{LateArrivalChangesNothing}

-- what is legal without them is legal with them
pub more_legal : LateArrivalChangesNothing → (rules : PortRules) (xs ys : List Arrival) (end : ℕ) (starts : List Transmission) → 0 < rules.octet_time →
    ((x : Arrival) → Contains ys x → IsClosedUntil rules end x) → AreLegal rules xs end starts → AreLegal rules (xs ++ ys) end starts
more_legal late rules xs [] end starts positive closed legal = subst (λ (zs : List Arrival). AreLegal rules zs end starts) (sym (append-nil xs)) legal
more_legal late rules xs (y ∷ ys) end starts positive closed legal =
    let one : AreLegal rules (xs ++ y ∷ []) end starts = late rules xs y end starts positive (closed y (contains_here y ys)) legal in
    let all = more_legal late rules (xs ++ y ∷ []) ys end starts positive (λ x h. closed x (contains_later y ys x h)) one in
    subst (λ (zs : List Arrival). AreLegal rules zs end starts) (append_assoc xs (y ∷ []) ys) all
