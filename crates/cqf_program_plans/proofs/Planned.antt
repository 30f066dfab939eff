-- The state of a ledger that admitted a plan's streams in turn, and the rows of the streams.
use Rattle.std.proofs.Common.{◌≡◌, ◌∙◌, ◌<◌, ◌+◌, ◌++◌, ℕ, List, [], ◌∷◌, Result, Ok, ap, drop, get_or, length, map, subst, sym}
use Rattle.std.proofs.lemmas.List.{drop_more, get_or-map}
use Rattle.cqf_admission.specs.Admission.{HoldsOneMore}
use Rattle.cqf_admission.specs.Asking.{asked_paced}
use Rattle.cqf_laws_history.specs.StateLaws.{granted_row}
use Rattle.cqf_admission.specs.Forms.{IsRowOfGoodForm}
use Rattle.cqf_admission.specs.Ledger.{Kept}
use Rattle.cqf_model.specs.declared.history.Receipt.{Receipt}
use Rattle.cqf_model.specs.declared.topology.Row.{Row}
use Rattle.cqf_model.specs.Domain.{Domain}
use Rattle.cqf_model.specs.History.{Asked, Recorded, held_in, seals}
use Rattle.cqf_admission.specs.Orders.{request_at}
use Rattle.cqf_topology.specs.declared.paced.PacedRequest.{PacedRequest}
use Rattle.cqf_program_plans.specs.Compile.Output.{AreAllHeld, ArePlanned, admitted_from}

-- the request at an index, as it was requested
pub asked_at : (requests : List PacedRequest) (index : ℕ) (request : PacedRequest) → index < length requests → request ≡ get_or requests index request →
    asked_paced request ≡ request_at (map asked_paced requests) index
asked_at requests index request low is =
    sym (get_or-map asked_paced requests index request (record { name = []; octets = 0; every = 1; phase = 0; paths = [] }) low ∙ ap asked_paced (sym is))

-- one more stream is planned
planned_step : (d : Domain) (requests : List Asked) (old new : Kept) (rows after : List Row) (row : Row) (receipt : Receipt) (k : ℕ) → old.requests ≡ requests →
    ArePlanned d old.administration rows → new.administration.domain ≡ old.administration.domain →
    AreAllHeld new.administration.domain new.administration.entries → HoldsOneMore old.administration new.administration
    (request_at old.requests k) (Ok receipt) →
    IsRowOfGoodForm d (request_at requests k) row → after ≡ rows ++ record row { no = receipt.no; admitted = receipt.effect } ∷ [] →
    ArePlanned d new.administration after
planned_step d requests old new rows after row receipt k same planned domain held one good is =
    let there : new.administration.domain ≡ d = domain ∙ planned.domain in
    let all : AreAllHeld d new.administration.entries = subst (λ (x : Domain). AreAllHeld x new.administration.entries) there held in
    let numbered : record row { no = receipt.no; admitted = receipt.effect } ≡ granted_row d receipt.no receipt.effect.0 (request_at requests k) =
    ap (λ (r : Row). record r { no = receipt.no; admitted = receipt.effect }) good.is in
    let before : held_in old.administration.domain old.administration.entries (seals old.administration.entries) ≡ rows =
    (λ i. held_in (planned.domain i) old.administration.entries (planned.all.no_seal i)) ∙ sym planned.held in
    let row_there : granted_row old.administration.domain receipt.no receipt.effect.0 (request_at old.requests k)
    ≡ record row { no = receipt.no; admitted = receipt.effect } =
    (λ i. granted_row (planned.domain i) receipt.no receipt.effect.0 (request_at (same i) k)) ∙ sym numbered in
    let now : held_in d new.administration.entries 0 ≡ after =
    sym (λ i. held_in (there i) new.administration.entries (all.no_seal i)) ∙ one ∙ (λ i. before i ++ row_there i ∷ []) ∙ sym is in
    record { domain = there; all = all; held = sym now }

pub planned_more : (d : Domain) (requests : List Asked) (old learnt new : Kept) (rows after : List Row) (row : Row) (receipt : Receipt) (k : ℕ) → learnt ≡ old →
    old.requests ≡ requests → ArePlanned d old.administration rows → new.administration.domain ≡ learnt.administration.domain →
    AreAllHeld new.administration.domain new.administration.entries →
    HoldsOneMore learnt.administration new.administration (request_at learnt.requests k) (Ok receipt) → IsRowOfGoodForm d (request_at requests k) row →
    after ≡ rows ++ record row { no = receipt.no; admitted = receipt.effect } ∷ [] → ArePlanned d new.administration after
planned_more d requests old learnt new rows after row receipt k same of planned domain held one good is =
    planned_step d requests old new rows after row receipt k of planned (domain ∙ ap (λ (x : Kept). x.administration.domain) same) held
    (subst (λ (x : Kept). HoldsOneMore x.administration new.administration (request_at x.requests k) (Ok receipt)) same one) good is

-- it is admitted after those so far, and the rest after it
pub admitted_more : (d : Domain) (requests : List Asked) (old learnt : Kept) (after : List Recorded) (k : ℕ) (whole : Result (List Recorded) (List ℕ)) →
    learnt ≡ old → old.requests ≡ requests → old.administration.domain ≡ d → k < length requests →
    whole ≡ admitted_from d old.administration.entries (k + 1) (drop k requests) →
    ((more : List Asked) → admitted_from learnt.administration.domain learnt.administration.entries (k + 1) (request_at learnt.requests k ∷ more)
    ≡ admitted_from learnt.administration.domain after (k + 1 + 1) more) →
    whole ≡ admitted_from d after (k + 1 + 1) (drop (k + 1) requests)
admitted_more d requests old learnt after k whole same of domain inside so_far step =
    let rest : List Asked = drop (k + 1) requests in
    let stepped : admitted_from old.administration.domain old.administration.entries (k + 1) (request_at old.requests k ∷ rest)
    ≡ admitted_from old.administration.domain after (k + 1 + 1) rest =
    subst (λ (x : Kept). admitted_from x.administration.domain x.administration.entries (k + 1) (request_at x.requests k ∷ rest)
    ≡ admitted_from x.administration.domain after (k + 1 + 1) rest) same (step rest) in
    so_far
    ∙ ap (admitted_from d old.administration.entries (k + 1)) (drop_more requests k (record { name = []; octets = 0; every = 1; phase = 0; paths = [] }) inside)
    ∙ sym (λ i. admitted_from (domain i) old.administration.entries (k + 1) (request_at (of i) k ∷ rest))
    ∙ stepped
    ∙ (λ i. admitted_from (domain i) after (k + 1 + 1) rest)

-- what refuses it refuses the whole plan
pub refused_whole : (P : Result (List Recorded) (List ℕ) → Type 0) (d : Domain) (requests : List Asked) (old learnt : Kept) (k : ℕ)
    (whole : Result (List Recorded) (List ℕ)) → learnt ≡ old → old.requests ≡ requests → old.administration.domain ≡ d → k < length requests →
    whole ≡ admitted_from d old.administration.entries (k + 1) (drop k requests) →
    ((more : List Asked) → P (admitted_from learnt.administration.domain learnt.administration.entries (k + 1) (request_at learnt.requests k ∷ more))) → P whole
refused_whole P d requests old learnt k whole same of domain inside so_far refuses =
    let rest : List Asked = drop (k + 1) requests in
    let here : P (admitted_from old.administration.domain old.administration.entries (k + 1) (request_at old.requests k ∷ rest)) =
    subst (λ (x : Kept). P (admitted_from x.administration.domain x.administration.entries (k + 1) (request_at x.requests k ∷ rest))) same (refuses rest) in
    subst P
    (sym (so_far
    ∙ ap (admitted_from d old.administration.entries (k + 1)) (drop_more requests k (record { name = []; octets = 0; every = 1; phase = 0; paths = [] }) inside)
    ∙ sym (λ i. admitted_from (domain i) old.administration.entries (k + 1) (request_at (of i) k ∷ rest))))
    here
