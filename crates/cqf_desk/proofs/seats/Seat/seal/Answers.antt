use Rattle.std.proofs.Common.{◌≡◌, ℕ, List, [], ◌∷◌, ◌++◌, map, ap, sym, ◌∙◌, rules}
use Rattle.std.proofs.lemmas.List.{map-append}
use Rattle.cqf_model.specs.declared.history.Reply.TheVariants.{Sealed}
use Rattle.cqf_admission.specs.declared.entries.Call.TheVariants.{Seal}
use Rattle.cqf_admission.specs.declared.entries.Entry.{Entry}
use Rattle.cqf_admission.specs.Admission.{recorded_of}
use Rattle.cqf_admission.specs.Tables.{CycleTable}
use Rattle.cqf_desk.specs.Desk.{Sitting, with_seal}
use Rattle.cqf_desk.proofs.seats.Seat.seal.Goals as goal

-- a seat whose lists have one more Seal and its table
sealed : (old : Sitting) (number : ℕ) (had calls : List Entry) (kept tables : List CycleTable) (own : CycleTable) →
    old ≡ record { number = number; calls = map recorded_of had; tables = kept } → calls ≡ had ++ record { seat = number; call = Seal; reply = Sealed } ∷ [] →
    tables ≡ kept ++ own ∷ [] → record { number = number; calls = map recorded_of calls; tables = tables } ≡ with_seal old own
sealed old number had calls kept tables own is longer more =
    let entered = ap (map recorded_of) longer ∙ map-append recorded_of had (record { seat = number; call = Seal; reply = Sealed } ∷ []) in
    (λ i. record { number = number; calls = entered i; tables = more i }) ∙ ap (λ s. with_seal s own) (sym is)

pub returns-in-Ok-seal-clause-sealed : goal.returns-in-Ok-seal-clause-sealed
returns-in-Ok-seal-clause-sealed c = (
  c.in-Ok-seal.table,
  c.kept-own.result,
  search rules,
  search rules,
  sealed c.args.self.now c.self.inside.number c.self.inside.calls.items c.enter.new.calls.items c.self.inside.tables.items c.push.new.self.items
      c.kept-own.result (search rules) (search rules) (search rules),
)
