-- What a run under the tables of one history of admissions promises.
use Rattle.std.specs.Prelude.{ℕ, ◌≡◌, ◌≤◌, List, length, map}
use Rattle.cqf_model.specs.declared.frames.Background.{Background}
use Rattle.cqf_model.specs.declared.frames.Offer.{Offer}
use Rattle.cqf_model.specs.Book.{Contents}
use Rattle.cqf_model.specs.Domain.{Domain}
use Rattle.cqf_model.specs.History.{IsLegalHistory, Recorded, seals, tables_of}
use Rattle.cqf_model.specs.Headline.{KeepsThePromise}
use Rattle.cqf_admission.specs.Tables.{CycleTable}
use Rattle.cqf_plain.specs.declared.faults.RunFault.{RunFault}
use Rattle.cqf_plain.specs.declared.faults.RunFault.TheVariants.{Memory}
use Rattle.cqf_plain.specs.Run.{AreTablesNumbered, run_of}

-- the tables are those of the first Seals of a legal history of admissions
pub record AreOfHistory (d : Domain) (tables : List CycleTable) (entries : List Recorded) : Type 0 where
  pub legal : IsLegalHistory d entries
  pub sealed : length tables ≤ seals entries
  pub rows : map (λ (t : CycleTable). t.rows) tables ≡ tables_of d entries (length tables)

-- under the tables of one legal history, the book of a run keeps all promises for it and its network
abbrev pub KeepsItOfHistory : Domain → List CycleTable → List Offer → List Background → Contents → Type 0
KeepsItOfHistory d tables offers background book = (entries : List Recorded) → AreOfHistory d tables entries →
    KeepsThePromise (run_of d tables offers background) book

-- under the tables of one legal history, a run returns no book only if an allocation fails
abbrev pub WantsMemoryAlone : Domain → ℕ → List CycleTable → RunFault → Type 0
WantsMemoryAlone d cycles tables fault = (entries : List Recorded) → AreOfHistory d tables entries → AreTablesNumbered cycles tables → fault ≡ Memory
