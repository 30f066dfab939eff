-- The verdicts of a bridge with lenient inner gates are those of the streams' own gates, as long as these lose no frame.
use Rattle.std.proofs.Common.{◌≡◌, ◌∷◌, [], ◌++◌, ℕ, Bool, true, false, List, Option, Some, None, not, if◌then◌else◌, refl, ap, ◌∙◌, Contains}
use Rattle.cqf_lists.proofs.Members.{contains_here, contains_later}
use Rattle.cqf_model.specs.declared.topology.Row.{Row}
use Rattle.cqf_model.specs.Domain.{Domain, cycle_of}
use Rattle.cqf_model.specs.Network.{IsLoss}
use Rattle.cqf_model.specs.Table.{goes_on, row_of, table_of}
use Rattle.cqf_model.specs.Policing.{AtEdge, ExceedsGate, Ingress, LacksRow, Policed, Queued, Received, Relayed, Verdict, inside_verdict, police, police_all}
use Rattle.cqf_model.specs.Policing.{verdict_by, within_gate}
use Rattle.cqf_laws_gates.specs.InnerGates.{AreLenient, InnerGates, own_gates, passes_by, police_all_by, police_by}

-- of a frame that came by a link, if one test passes all that the other passes
inside_same : (d : Domain) (bridge m : ℕ) (own other : Row → Bool) (found : Option Row) → ((row : Row) → own row ≡ true → other row ≡ true) →
    (IsLoss (inside_verdict d bridge m own found) → ⊥) → inside_verdict d bridge m other found ≡ inside_verdict d bridge m own found
inside_same d bridge m own other None more kept = refl
inside_same d bridge m own other (Some r) more kept = choice (goes_on d r (Some m) bridge) (own r) (other r) (more r) kept
  where
    -- whether or not the row leads on and the frame passes
    choice : (here fits passes : Bool) → (fits ≡ true → passes ≡ true) →
        (IsLoss (if not here then LacksRow else (if not fits then ExceedsGate else Queued r)) → ⊥) →
        (if not here then LacksRow else (if not passes then ExceedsGate else Queued r))
        ≡ (if not here then LacksRow else (if not fits then ExceedsGate else Queued r))
    choice false fits passes more kept = refl
    choice true false passes more kept = absurd (kept tt)
    choice true true true more kept = refl
    choice true true false more kept = let e : false ≡ true = more refl in cc

module _ (d : Domain) (gates : InnerGates) (tables : List (List Row)) (bridge : ℕ) where
  -- of one frame
  verdict_same : AreLenient d gates → (table : List Row) (cycle : ℕ) (earlier : List Policed) (x : Received) (ingress : Ingress) →
      (IsLoss (verdict_by d table bridge cycle (λ row. within_gate d earlier row x) ingress) → ⊥) →
      verdict_by d table bridge cycle (passes_by d gates bridge earlier x ingress) ingress ≡ verdict_by d table bridge cycle (λ row. within_gate d earlier row x) ingress
  verdict_same lenient table cycle earlier x (AtEdge name) kept = refl
  verdict_same lenient table cycle earlier x (Relayed m number) kept =
      inside_same d bridge m (λ row. within_gate d earlier row x) (λ row. gates bridge earlier row x) (row_of table number)
      (λ row. lenient bridge earlier row x) kept

  -- of frames one after the other
  pub police_all_same : AreLenient d gates → (earlier : List Policed) (xs : List Received) →
      ((p : Policed) → Contains (police_all d tables bridge earlier xs) p → IsLoss p.verdict → ⊥) →
      police_all_by d gates tables bridge earlier xs ≡ police_all d tables bridge earlier xs
  police_all_same lenient earlier [] kept = refl
  police_all_same lenient earlier (x ∷ xs) kept =
      let cycle = cycle_of d x.at in
      let p = police d tables bridge earlier x in
      let rest = police_all d tables bridge (earlier ++ p ∷ []) xs in
      let by : Verdict → Policed = λ verdict. record { received = x; verdict = verdict } in
      let all = λ (q : Policed). q ∷ police_all_by d gates tables bridge (earlier ++ q ∷ []) xs in
      let same : police_by d gates tables bridge earlier x ≡ p =
      ap by (verdict_same lenient (table_of tables cycle) cycle earlier x x.ingress (kept p (contains_here p rest))) in
      ap all same
      ∙ ap (λ (ps : List Policed). p ∷ ps) (police_all_same lenient (earlier ++ p ∷ []) xs (λ q h. kept q (contains_later p rest q h)))

-- the streams' own gates give the model's verdict
own_verdict : (d : Domain) (table : List Row) (bridge cycle : ℕ) (earlier : List Policed) (x : Received) (ingress : Ingress) →
    verdict_by d table bridge cycle (passes_by d (own_gates d) bridge earlier x ingress) ingress ≡ verdict_by d table bridge cycle (λ row. within_gate d earlier row x) ingress
own_verdict d table bridge cycle earlier x (AtEdge name) = refl
own_verdict d table bridge cycle earlier x (Relayed m number) = refl

-- on each frame
pub own_verdicts : (d : Domain) (tables : List (List Row)) (bridge : ℕ) (earlier : List Policed) (xs : List Received) →
    police_all_by d (own_gates d) tables bridge earlier xs ≡ police_all d tables bridge earlier xs
own_verdicts d tables bridge earlier [] = refl
own_verdicts d tables bridge earlier (x ∷ xs) =
    let cycle = cycle_of d x.at in
    let p = police d tables bridge earlier x in
    let by : Verdict → Policed = λ verdict. record { received = x; verdict = verdict } in
    let all = λ (q : Policed). q ∷ police_all_by d (own_gates d) tables bridge (earlier ++ q ∷ []) xs in
    let same : police_by d (own_gates d) tables bridge earlier x ≡ p = ap by (own_verdict d (table_of tables cycle) bridge cycle earlier x x.ingress) in
    ap all same ∙ ap (λ (ps : List Policed). p ∷ ps) (own_verdicts d tables bridge (earlier ++ p ∷ []) xs)
