-- Calls that request only streams of a list make a history that admits only these.
use Rattle.std.proofs.Common.{◌≡◌, ◌∙◌, ◌+◌, ◌<◌, ℕ, ◌∷◌, [], ◌++◌, List, inl, inr, refl, sym, subst, arith}
use Rattle.std.proofs.Common.{Contains, drop, get_or, length, take, ◌==◌, eq-eqb}
use Rattle.std.specs.Prelude.{replicate}
use Rattle.std.proofs.lemmas.Bool.{cases_lt}
use Rattle.std.proofs.lemmas.List.{get_or-replicate, length-replicate, take-append-drop}
use Rattle.std.proofs.lemmas.List.Elements.{All-contains, Contains-append_cases}
use Rattle.std.proofs.lemmas.Option.{slice_get-get_or}
use Rattle.cqf_lists.proofs.Members.{contains_filter, contains_here, contains_later, contains_map}
use Rattle.cqf_model.specs.Calls.{acts_of, calls_by}
use Rattle.cqf_model.specs.History.{Act, Admits, Asked, Recorded, Seals, reply_to}
use Rattle.cqf_laws_history.specs.StateLaws.{with_entry}
use Rattle.cqf_laws_timing.proofs.Listed.{admits_only_goes_on}
use Rattle.cqf_laws_timing.specs.Asking.{AsksOnly, CallsAdmitOnly, SeatsAdmitOnly}

-- calls one after the other
pub calls_admit_only : CallsAdmitOnly
calls_admit_only d streams entries [] only asks = only
calls_admit_only d streams entries (call ∷ calls) only asks =
    calls_admit_only d streams (with_entry entries call.0 call.1 (reply_to d entries call.1)) calls
    (admits_only_goes_on streams entries call.0 call.1 (reply_to d entries call.1) only (asks call (contains_here call calls)))
    (λ other c. asks other (contains_later call calls other c))

-- a Seal requests nothing
seals_ask : (streams : List Asked) (cycles : ℕ) (act : Act) → Contains (replicate cycles Seals) act → AsksOnly streams act
seals_ask streams cycles act c asked admits =
    let inside : c.0 < cycles = omega (arith, c.1, length-replicate {A = Act} cycles Seals) in
    let is : Seals ≡ act = sym (get_or-replicate {A = Act} cycles c.0 Seals act inside) ∙ c.2 in
    absurd (is_seal_no_other (is ∙ admits))
  where
    is_seal_no_other : Seals ≡ Admits asked → ⊥
    is_seal_no_other e = cc

-- the act of a seat's entry is among the acts of its calls
among_acts : (number : ℕ) (entries : List Recorded) (acts : List Act) (e : Recorded) → acts_of (calls_by number entries) ≡ acts → Contains entries e →
    e.seat ≡ number → Contains acts e.act
among_acts number entries acts e are c seat =
    subst (λ (xs : List Act). Contains xs e.act) are
    (contains_map (λ (x : Recorded). x.act) (calls_by number entries) e
    (contains_filter (λ (x : Recorded). x.seat == number) entries e c (eq-eqb e.seat number seat)))

-- and calls at seats
pub seats_admit_only : SeatsAdmitOnly
seats_admit_only d streams opening entries asked cycles of only asks e one receipt c admits accepted =
    elim (Contains-append_cases (take (length opening) entries) following e (subst (λ (xs : List Recorded). Contains xs e) (sym parted) c)) [
      | inl before ↦ only e one receipt (subst (λ (xs : List Recorded). Contains xs e) of.begins before) admits accepted
      | inr after ↦ elim (cases_lt e.seat (length asked)) [
        | inl admin ↦
            let acts = get_or asked e.seat [] in
            let there = slice_get-get_or asked e.seat [] admin in
            asks e.seat acts e.act there (among_acts e.seat following acts e (of.calls e.seat acts there) after refl) one admits
        | inr past ↦
            let known : e.seat < length asked + 1 = All-contains (λ (x : Recorded). x.seat < length asked + 1) following e of.known after in
            let sealer : e.seat ≡ length asked = omega (arith, past, known) in
            seals_ask streams cycles e.act (among_acts (length asked) following (replicate cycles Seals) e of.seals after sealer) one admits
      ]
    ]
  where
    -- what follows the opening part
    following : List Recorded
    following = drop (length opening) entries

    parted : take (length opening) entries ++ following ≡ entries
    parted = take-append-drop (length opening) entries
