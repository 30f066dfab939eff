-- A log with one more entry, and requests with one more known form.
use Rattle.std.proofs.Common.{◌≡◌, ℕ, ◌<◌, List, [], ◌∷◌, ◌++◌, get_or, set, map, length, sym, ap, ◌∙◌, subst, arith, inl, inr}
use Rattle.std.proofs.lemmas.List.{get_or-map, get_or-set_same, get_or-set_other, get_or_default, length-set, map-append}
use Rattle.std.proofs.lemmas.List.Elements.{All-push}
use Rattle.cqf_model.specs.Domain.{Domain}
use Rattle.cqf_model.specs.History.{Asked}
use Rattle.cqf_laws_history.specs.StateLaws.{with_entry}
use Rattle.cqf_topology.specs.declared.paced.PacedRequest.{PacedRequest}
use Rattle.cqf_admission.specs.Orders.{StandsIn, act_in, request_at}
use Rattle.cqf_admission.specs.Asking.{asked_paced}
use Rattle.cqf_admission.specs.declared.forms.RequestForm.{RequestForm}
use Rattle.cqf_admission.specs.declared.forms.RequestForm.TheVariants.{Unseen}
use Rattle.cqf_admission.specs.declared.logs.Logged.{Logged}
use Rattle.cqf_admission.specs.Forms.{IsFormOf}
use Rattle.cqf_admission.specs.Ledger.{recorded_in}
use Rattle.cqf_admission.specs.Running.{AreForms, AreThere}
use Rattle.cqf_admission.proofs.Figures.{same_or_not}

-- the entries with a new one that was logged
pub logged_after : (requests : List Asked) (script : List ℕ) (old reserved new : List Logged) (e : Logged) → reserved ≡ old → new ≡ reserved ++ e ∷ [] →
    map (recorded_in requests script) new ≡ with_entry (map (recorded_in requests script) old) e.seat (act_in requests script e.what) e.reply
logged_after requests script old reserved new e same is =
    ap (map (recorded_in requests script)) (is ∙ ap (λ (es : List Logged). es ++ e ∷ []) same) ∙ map-append (recorded_in requests script) old (e ∷ [])

-- what each refers to still exists
pub there_after : (requests : List Asked) (script : List ℕ) (old reserved new : List Logged) (e : Logged) → reserved ≡ old → new ≡ reserved ++ e ∷ [] →
    AreThere requests script old → StandsIn requests script e.what → AreThere requests script new
there_after requests script old reserved new e same is there one =
    subst (AreThere requests script) (sym (is ∙ ap (λ (es : List Logged). es ++ e ∷ []) same))
    (All-push (λ (logged : Logged). StandsIn requests script logged.what) old e there one)

-- the request at an index, as the definitions have it
pub asked_at : (requests : List PacedRequest) (index : ℕ) (request : PacedRequest) → index < length requests → request ≡ get_or requests index request →
    request_at (map asked_paced requests) index ≡ asked_paced request
asked_at requests index request low is =
    get_or-map asked_paced requests index request (record { name = []; octets = 0; every = 1; phase = 0; paths = [] }) low ∙ ap asked_paced (sym is)

-- ---- forms

-- the form at an index is that of the request there
pub form_at : (d : Domain) (requests : List PacedRequest) (forms : List RequestForm) (index : ℕ) (request : PacedRequest) (form : RequestForm) → AreForms d requests forms →
    index < length requests → request ≡ get_or requests index request → form ≡ get_or forms index form →
    IsFormOf d (asked_paced request) form
form_at d requests forms index request form known low is at =
    let inside : index < length forms = omega (arith, low, known.as_many) in
    subst (λ (x : PacedRequest). IsFormOf d (asked_paced x) form) (sym is)
    (subst (IsFormOf d (asked_paced (get_or requests index request))) (get_or_default forms index Unseen form inside ∙ sym at)
    (known.each index request low))

-- with another form of this request they are still forms of the requests
pub forms_set : (d : Domain) (requests : List PacedRequest) (forms : List RequestForm) (index : ℕ) (request : PacedRequest) (form : RequestForm) → AreForms d requests forms →
    index < length requests → request ≡ get_or requests index request → IsFormOf d (asked_paced request) form →
    AreForms d requests (set forms index form)
forms_set d requests forms index request form known low is of = record {
  as_many = length-set forms index form ∙ known.as_many;
  each = λ k other below. elim (same_or_not k index) [
    | inl here ↦ (
        let at : get_or (set forms index form) k Unseen ≡ form =
        ap (λ (n : ℕ). get_or (set forms index form) n Unseen) here ∙ get_or-set_same forms index form Unseen (omega (arith, low, known.as_many)) in
        let one : get_or requests k other ≡ request =
        ap (λ (n : ℕ). get_or requests n other) here ∙ get_or_default requests index other request low ∙ sym is in
        subst (IsFormOf d (asked_paced (get_or requests k other))) (sym at) (subst (λ (x : PacedRequest). IsFormOf d (asked_paced x) form) (sym one) of))
    | inr differ ↦ subst (IsFormOf d (asked_paced (get_or requests k other))) (sym (get_or-set_other forms index k form Unseen differ))
        (known.each k other below)
  ];
}

-- what was put at an index is there
pub put_there : {X : Type 0} (xs : List X) (index : ℕ) (x y : X) → index < length xs → y ≡ get_or (set xs index x) index y → y ≡ x
put_there xs index x y low is = is ∙ get_or-set_same xs index x y low

-- some request, if there is one
pub some_request : (requests : List PacedRequest) (index : ℕ) → index < length requests → PacedRequest
some_request [] index low = absurd (omega (arith, low))
some_request (request ∷ requests) index low = request
