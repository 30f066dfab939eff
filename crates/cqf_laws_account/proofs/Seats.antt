-- The history that seats confirm.
use Rattle.std.proofs.Common.{◌≡◌, ℕ, ◌+◌, ◌<◌, ◌==◌, List, Some, length, refl, sym, ap, ◌∙◌, arith, subst, inl, inr, eq-eqb, Contains}
use Rattle.std.specs.Prelude.{All, drop, true, slice_get}
use Rattle.std.proofs.lemmas.Bool.{cases_lt, false≢true}
use Rattle.std.proofs.lemmas.List.{length-take}
use Rattle.std.proofs.lemmas.Option.{slice_get_cases}
use Rattle.cqf_lists.proofs.EachBelow.{length-singles}
use Rattle.cqf_lists.proofs.Members.{contains_at, contains_filter, contains_map}
use Rattle.cqf_model.specs.Domain.{Domain}
use Rattle.cqf_model.specs.History.{Act, Recorded, is_seal, seals, table_at}
use Rattle.cqf_model.specs.Calls.{calls_by, IsHistoryOf, acts_of}
use Rattle.cqf_admission.specs.Tables.{CycleTable}
use Rattle.cqf_desk.specs.Closing.{IsBorneOut, IsOfSeats, tables_by}
use Rattle.cqf_desk.specs.Desk.{Sitting}
use Rattle.cqf_laws_account.specs.Sealing.{OneSeatClosesAllTables, SealsAlone, cycle_tables}
use Rattle.cqf_laws_account.specs.Seated.{AreSeated, AsksForNoSeal, ClosesItsCycles}

-- a property of all elements holds of each one
of_member : {X : Type 0} (P : X → Type 0) (xs : List X) (x : X) → All P xs → Contains xs x → P x
of_member P xs x all h = subst P h.2 (all h.0 x h.1)

module _ (d : Domain) (opening : List Recorded) (asked : List (List Act)) (cycles : ℕ) (seats : List Sitting) (entries : List Recorded)
    (is : IsOfSeats opening d (length asked + 1) seats entries) (seated : AreSeated asked cycles seats) where
  -- the entries after the opening part
  abbrev rest : List Recorded
  rest = drop (length opening) entries

  -- a seat's calls among them are its own
  own_calls : (s : Sitting) (number : ℕ) → Contains seats s → s.number ≡ number → calls_by number rest ≡ s.calls
  own_calls s number among its =
      let borne : IsBorneOut d entries (length opening) s = of_member (IsBorneOut d entries (length opening)) seats s is.own among in
      sym (borne.calls ∙ ap (λ (n : ℕ). calls_by n rest) its)

  -- an administrator's calls are the requested ones
  asked_of : (admin : ℕ) (acts : List Act) → slice_get asked admin ≡ Some acts → acts_of (calls_by admin rest) ≡ acts
  asked_of admin acts there =
      let w = seated.calls admin acts there in
      ap acts_of (own_calls w.0 admin w.1 w.2) ∙ w.3

  -- so it is a history of the requested calls
  pub history_of : IsHistoryOf d opening asked cycles entries
  history_of = record {
    legal = is.legal;
    begins = is.begins;
    calls = asked_of;
    seals = ap acts_of (own_calls seated.conductor (length asked) seated.among seated.next) ∙ seated.sealed;
    known = is.known;
  }

  -- a Seal after the opening part is the conductor's
  sealed_by : AsksForNoSeal asked → (e : Recorded) → Contains rest e → is_seal e.act ≡ true → e.seat ≡ length asked
  sealed_by no_seal e among seal =
      elim (cases_lt e.seat (length asked)) [
        | inl admin ↦
            elim (slice_get_cases asked e.seat).1 [
              | inl w ↦
                  let its : Contains (calls_by e.seat rest) e = contains_filter (λ (x : Recorded). x.seat == e.seat) rest e among (eq-eqb e.seat e.seat refl) in
                  let act : Contains w.0 e.act =
                  subst (λ (acts : List Act). Contains acts e.act) (asked_of e.seat w.0 w.2)
                  (contains_map (λ (x : Recorded). x.act) (calls_by e.seat rest) e its) in
                  absurd (false≢true (sym (no_seal w.0 e.act (contains_at asked e.seat w.0 w.2) act) ∙ seal))
              | inr past ↦ absurd (omega (arith, past.0, admin))
            ]
        | inr other ↦
            let few : e.seat < length asked + 1 = of_member (λ (x : Recorded). x.seat < length asked + 1) rest e is.known among in
            omega (arith, other, few)
      ]

  -- so the conductor alone seals
  seals_alone : AsksForNoSeal asked → seals opening ≡ 0 → SealsAlone entries (length opening) (length asked)
  seals_alone no_seal none = record {
    begins = omega (arith, ap length is.begins, length-take (length opening) entries);
    none_before = ap seals is.begins ∙ none;
    its_own = sealed_by no_seal;
  }

  -- and has the tables of the history's cycles
  pub closes_cycles : OneSeatClosesAllTables → AsksForNoSeal asked → seals opening ≡ 0 → ClosesItsCycles d entries cycles seated.conductor
  closes_cycles law no_seal none =
      let borne : IsBorneOut d entries (length opening) seated.conductor =
      of_member (IsBorneOut d entries (length opening)) seats seated.conductor is.own seated.among in
      let all : seated.conductor.tables ≡ cycle_tables d entries (seals entries) =
      borne.tables ∙ ap (tables_by d entries (length opening)) seated.next
      ∙ law d entries (length opening) (length asked) (seals_alone no_seal none) in
      let table : ℕ → CycleTable = λ cycle. record { cycle = cycle; rows = table_at d entries cycle } in
      let many : seals entries ≡ cycles = sym (ap length all ∙ length-singles table (seals entries)) ∙ seated.tables in
      record { sealed = many; tables = all ∙ ap (cycle_tables d entries) many }
