-- The tables of the line: its stream is live in every cycle.
use Rattle.std.proofs.Common.{◌≡◌, ◌∙◌, ◌+◌, ◌-◌, ◌<◌, ◌≤◌, ◌∷◌, [], ℕ, Bool, List, true, ◌&&◌, cond, filter, ap, arith, inl, inr, refl, subst}
use Rattle.std.proofs.Common.{suc, zero}
use Rattle.std.proofs.lemmas.Bool.{cases_lt, le-leb}
use Rattle.cqf_lists.proofs.EachBelow.{same_below}
use Rattle.cqf_model.specs.declared.frames.Offer.{Offer}
use Rattle.cqf_model.specs.declared.history.Reply.TheVariants.{Sealed}
use Rattle.cqf_model.specs.declared.topology.Row.{Row}
use Rattle.cqf_model.specs.History.{Admits, IsLegalHistory, Recorded, Seals, seals, table_at, tables_of}
use Rattle.cqf_model.specs.Table.{is_held}
use Rattle.cqf_laws_history.specs.TableLaws.{ClosedTablesStay}
use Rattle.cqf_laws_history.specs.StateLaws.{GrantedIsHeld, HistoryGoesOn, IsState, SealClosesTable, SealLetsGo, SealsAreCounted}
use Rattle.cqf_program_scenario.specs.Calls.{called_for, history_of, seals_by, with_call, with_calls}
use Rattle.cqf_program_runs.specs.Line.{line_asked, line_domain, line_row, line_scenario, line_tables}

-- the laws about histories on which this depends
pub record TableLaws : Type 0 where
  pub goes_on : HistoryGoesOn
  pub counted : SealsAreCounted
  pub granted : GrantedIsHeld
  pub lets_go : SealLetsGo
  pub closes : SealClosesTable
  pub stays : ClosedTablesStay

-- after these entries `cycles` cycles are closed, and the stream is held in each of them and in the next
record HasClosed (cycles : ℕ) (entries : List Recorded) : Type 0 where
  pub legal : IsLegalHistory line_domain entries
  pub state : IsState line_domain entries (line_row ∷ []) 1
  pub counted : seals entries ≡ cycles
  pub tables : (cycle : ℕ) → cycle < cycles → table_at line_domain entries cycle ≡ line_row ∷ []

-- no entries are a legal history
none_legal : IsLegalHistory line_domain []
none_legal = record { replies = λ index e is. cc; few_seals = omega arith; few_calls = omega arith }

-- the stream is granted
granted_first : TableLaws → (offers : List Offer) → HasClosed 0 (called_for (line_scenario offers))
granted_first laws offers = record {
  legal = laws.goes_on line_domain [] 0 (Admits line_asked) none_legal (omega arith) (omega arith);
  state = laws.granted line_domain [] [] 0 0 line_asked none_legal (record { held = refl; number = refl }) refl;
  counted = refl;
  tables = λ cycle none. absurd (omega (arith, none));
}

-- it is held in each cycle
held_on : (cycle : ℕ) → filter (λ (row : Row). is_held row cycle) (line_row ∷ []) ≡ line_row ∷ []
held_on cycle = ap (λ (b : Bool). cond (b && true) (line_row ∷ []) []) (le-leb 0 cycle (omega arith))

-- a Seal closes one cycle more
closes_one : TableLaws → (cycles : ℕ) (entries : List Recorded) → HasClosed cycles entries → cycles < 100000 →
    HasClosed (cycles + 1) (with_call line_domain entries (1, Seals))
closes_one laws cycles entries h few = record {
  legal = laws.goes_on line_domain entries 1 Seals h.legal (omega (arith, h.counted, few)) (omega (arith, h.legal.few_calls));
  state = subst (λ (rows : List Row). IsState line_domain (with_call line_domain entries (1, Seals)) rows 1) (held_on (seals entries + 1))
      (laws.lets_go line_domain entries (line_row ∷ []) 1 1 h.legal h.state);
  counted = laws.counted entries 1 Seals Sealed ∙ ap (λ (n : ℕ). n + 1) h.counted;
  tables = λ cycle within. elim (cases_lt cycle cycles) [
    | inl before ↦ laws.stays line_domain entries 1 Seals Sealed cycle (omega (arith, before, h.counted)) ∙ h.tables cycle before
    | inr following ↦
        let last : seals entries ≡ cycle = omega (arith, within, following, h.counted) in
        subst (λ (n : ℕ). table_at line_domain (with_call line_domain entries (1, Seals)) n ≡ line_row ∷ []) last
        (laws.closes line_domain entries (line_row ∷ []) 1 1 h.state)
  ];
}

-- and several Seals close as many cycles
closes_all : TableLaws → (more cycles : ℕ) (entries : List Recorded) → HasClosed cycles entries → cycles + more ≤ 100000 →
    HasClosed (cycles + more) (with_calls line_domain entries (seals_by 1 more))
closes_all laws zero cycles entries h few = let same : cycles ≡ cycles + 0 = omega arith in subst (λ (n : ℕ). HasClosed n entries) same h
closes_all laws (suc more) cycles entries h few =
    let same : cycles + 1 + more ≡ cycles + suc more = omega arith in
    subst (λ (n : ℕ). HasClosed n (with_calls line_domain entries (seals_by 1 (suc more)))) same
    (closes_all laws more (cycles + 1) (with_call line_domain entries (1, Seals)) (closes_one laws cycles entries h (omega (arith, few)))
    (omega (arith, few)))

-- so the tables of the line's history are these
pub line_tables-are : TableLaws → (cycles : ℕ) (offers : List Offer) → cycles ≤ 100000 →
    tables_of line_domain (history_of cycles (line_scenario offers)) cycles ≡ line_tables cycles
line_tables-are laws cycles offers few =
    let all : HasClosed (0 + (cycles - 0)) (history_of cycles (line_scenario offers)) =
    closes_all laws (cycles - 0) 0 (called_for (line_scenario offers)) (granted_first laws offers) (omega (arith, few)) in
    same_below (λ cycle. table_at line_domain (history_of cycles (line_scenario offers)) cycle ∷ []) (λ _. (line_row ∷ []) ∷ []) cycles
    (λ cycle within. ap (λ (rows : List Row). rows ∷ []) (all.tables cycle (omega (arith, within))))
