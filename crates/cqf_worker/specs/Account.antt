-- The account of a run on threads: the headline of `cqf_model/specs/Headline.antt`, for what the administrators' commands request.
use Rattle.std.specs.Prelude.{ℕ, ◌≡◌, List, length, map}
use Rattle.cqf_model.specs.declared.frames.Background.{Background}
use Rattle.cqf_model.specs.declared.frames.Offer.{Offer}
use Rattle.cqf_model.specs.Book.{Contents, contents_of}
use Rattle.cqf_model.specs.Domain.{Domain}
use Rattle.cqf_model.specs.Headline.{IsAccountOf}
use Rattle.cqf_model.specs.History.{Act, Recorded}
use Rattle.cqf_laws_cycle.specs.PageLaws.{IsSomeBook}
use Rattle.cqf_admission.specs.declared.entries.Command.{Command}
use Rattle.cqf_admission.specs.Admission.{recorded_of}
use Rattle.cqf_desk.specs.declared.history.History.{History}
use Rattle.cqf_trace.specs.Traces.{AreTracesOf}
use Rattle.cqf_worker.specs.declared.account.Account.{Account}
use Rattle.cqf_worker.specs.declared.account.TracedAccount.{TracedAccount}
use Rattle.cqf_worker_loops.specs.Commands.{acts_asked}

-- what each administrator's commands request
abbrev pub all_asked : List (List Command) → List (List Act)
all_asked admins = map acts_asked admins

-- the entries of a history
abbrev pub entries_of : History → List Recorded
entries_of history = map recorded_of history.entries.items

-- a history and a book satisfy everything that is promised of a run in which the administrators' commands make these requests, and the
-- history records the number of entries in its opening part
pub record IsOutcomeOf (d : Domain) (opening : List Recorded) (offers : List Offer) (background : List Background) (cycles : ℕ)
    (admins : List (List Command)) (history : History) (book : Contents) : Type 0 where
  pub opens : history.opening ≡ length opening
  pub is : IsAccountOf d opening offers background cycles (all_asked admins) (entries_of history) book

-- an account has such a history and such a book
abbrev pub IsAccount : Domain → List Recorded → List Offer → List Background → ℕ → List (List Command) → Account → Type 0
IsAccount d opening offers background cycles admins account =
    IsOutcomeOf d opening offers background cycles admins account.history (contents_of account.book)

-- an account by traces has such a history, and its traces are those of such a book, link by link
pub record IsTracedAccount (d : Domain) (opening : List Recorded) (offers : List Offer) (background : List Background) (cycles : ℕ)
    (admins : List (List Command)) (account : TracedAccount) : Type 0 where
  pub book : Contents
  pub run : IsOutcomeOf d opening offers background cycles admins account.history book
  pub some : IsSomeBook d cycles book
  pub its_traces : AreTracesOf d account.traces book
