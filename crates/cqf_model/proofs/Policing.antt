-- The verdicts at a bridge, one frame after the other.
use Rattle.std.proofs.Common.{◌≡◌, ◌∷◌, [], ◌++◌, ℕ, Bool, true, false, List, Option, Some, None, not, if◌then◌else◌, inl, inr, sym, refl, ap, ◌∙◌}
use Rattle.std.proofs.Common.{append_assoc, append-nil, subst, Contains}
use Rattle.cqf_model.specs.declared.frames.Reason.{Reason}
use Rattle.cqf_model.specs.declared.topology.Row.{Row}
use Rattle.cqf_model.specs.Domain.{Domain, cycle_of}
use Rattle.cqf_model.specs.Table.{goes_on, table_of}
use Rattle.cqf_model.specs.Policing.{DroppedFor, ExceedsGate, LacksRow, Policed, Queued, Received, inside_verdict, police, police_all, verdict_by, within_gate}
use Rattle.cqf_lists.proofs.Members.{contains_cases, contains_here, contains_later, contains_none}

-- a verdict is the one after the frames before it
pub record IsAfter (d : Domain) (tables : List (List Row)) (bridge : ℕ) (earlier : List Policed) (xs : List Received) (p : Policed) : Type 0 where
  pub before : List Received
  pub x : Received
  pub after : List Received
  pub parts : xs ≡ before ++ (x ∷ after)
  pub is : p ≡ police d tables bridge (earlier ++ police_all d tables bridge earlier before) x

module _ (d : Domain) (tables : List (List Row)) (bridge : ℕ) where
  -- the verdicts on further frames follow those on the first
  pub police_more : (earlier : List Policed) (xs ys : List Received) →
      police_all d tables bridge earlier (xs ++ ys) ≡ police_all d tables bridge earlier xs ++ police_all d tables bridge
      (earlier ++ police_all d tables bridge earlier xs) ys
  police_more earlier [] ys = ap (λ (ps : List Policed). police_all d tables bridge ps ys) (sym (append-nil earlier))
  police_more earlier (x ∷ xs) ys =
      let p = police d tables bridge earlier x in
      let more = earlier ++ p ∷ [] in
      let rest = police_all d tables bridge more xs in
      ap (λ (ps : List Policed). p ∷ ps)
      (police_more more xs ys ∙ ap (λ (ps : List Policed). rest ++ police_all d tables bridge ps ys) (append_assoc earlier (p ∷ []) rest))

  -- each verdict is on a frame that came
  pub police_member : (earlier : List Policed) (xs : List Received) (p : Policed) → Contains (police_all d tables bridge earlier xs) p → Contains xs p.received
  police_member earlier [] p h = absurd (contains_none p h)
  police_member earlier (x ∷ xs) p h =
      let q = police d tables bridge earlier x in
      elim (contains_cases q (police_all d tables bridge (earlier ++ q ∷ []) xs) p h) [
        | inl e ↦ subst (λ (y : Received). Contains (x ∷ xs) y) (ap (λ (y : Policed). y.received) e) (contains_here x xs)
        | inr k ↦ contains_later x xs p.received (police_member (earlier ++ q ∷ []) xs p k)
      ]

  -- and is the one after the frames before it
  pub after_those_before : (earlier : List Policed) (xs : List Received) (p : Policed) → Contains (police_all d tables bridge earlier xs) p →
      IsAfter d tables bridge earlier xs p
  after_those_before earlier [] p c = absurd (contains_none p c)
  after_those_before earlier (x ∷ xs) p c =
      let first = police d tables bridge earlier x in
      let more = earlier ++ first ∷ [] in
      elim (contains_cases first (police_all d tables bridge more xs) p c) [
        | inl e ↦ record { before = []; x = x; after = xs; parts = refl; is = sym e ∙ ap (λ z. police d tables bridge z x) (sym (append-nil earlier)) }
        | inr h ↦
            let r = after_those_before more xs p h in
            record {
              before = x ∷ r.before;
              x = r.x;
              after = r.after;
              parts = ap (λ z. x ∷ z) r.parts;
              is = r.is ∙ ap (λ z. police d tables bridge z r.x) (append_assoc earlier (first ∷ []) (police_all d tables bridge more r.before));
            }
      ]

  -- tables that agree in the cycles in which frames come give the same verdicts
  pub police_same : (others : List (List Row)) (earlier : List Policed) (xs : List Received) →
      ((x : Received) → Contains xs x → table_of tables (cycle_of d x.at) ≡ table_of others (cycle_of d x.at)) →
      police_all d tables bridge earlier xs ≡ police_all d others bridge earlier xs
  police_same others earlier [] h = refl
  police_same others earlier (x ∷ xs) h =
      let all = λ (p : Policed). p ∷ police_all d tables bridge (earlier ++ p ∷ []) xs in
      let cycle = cycle_of d x.at in
      let by : List Row → Policed = λ table. record { received = x; verdict = verdict_by d table bridge cycle (λ row. within_gate d earlier row x) x.ingress } in
      let same : police d tables bridge earlier x ≡ police d others bridge earlier x = ap by (h x (contains_here x xs)) in
      let q = police d others bridge earlier x in
      ap all same ∙ ap (λ (ps : List Policed). q ∷ ps) (police_same others (earlier ++ q ∷ []) xs (λ z k. h z (contains_later x xs z k)))

-- a verdict inside gives no reason for a drop
pub inside_drops_none : (d : Domain) (bridge m : ℕ) (fits : Row → Bool) (found : Option Row) (reason : Reason) →
    inside_verdict d bridge m fits found ≡ DroppedFor reason → ⊥
inside_drops_none d bridge m fits None reason e = cc
inside_drops_none d bridge m fits (Some r) reason e = choice (goes_on d r (Some m) bridge) (fits r) e
  where
    -- whether or not the row leads on and the frame fits, there is no reason for a drop
    choice : (here fits : Bool) → (if not here then LacksRow else (if not fits then ExceedsGate else Queued r)) ≡ DroppedFor reason → ⊥
    choice true true e = cc
    choice true false e = cc
    choice false fits e = cc
