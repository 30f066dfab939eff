-- The act of an order, found among the requests.
use Rattle.std.proofs.Common.{◌≡◌, ℕ, Bool, true, false, cond, List, [], ◌∷◌, map, Option, Some, None, Ok, Err, find}
use Rattle.std.proofs.Common.{length, refl, sym, ap, ◌∙◌, ◌≤◌, ◌<◌, arith}
use Rattle.std.proofs.lemmas.Bool.Decides.{nat_tests}
use Rattle.std.proofs.lemmas.Option.{slice_get-get_or, slice_get-map}
use Rattle.std.proofs.lemmas.List.{get_or-map}
use Rattle.std.proofs.lemmas.Grind.{common_steps}
use Rattle.std.specs.Prelude.{nat_le, option_map, slice_get, slice_index_or}
use Rattle.std.specs.declared.alloc.Global.{Global}
use Rattle.std.specs.declared.sync.Arc.{Arc}
use Rattle.cqf_topology.specs.declared.paced.PacedRequest.{PacedRequest}
use Rattle.cqf_admission.specs.Asking.{asked_paced, asked_shared}
use Rattle.cqf_admission.specs.declared.faults.ScriptFault.TheVariants.{UnknownStream, TooMany}
use Rattle.cqf_admission.specs.declared.lines.Wish.TheVariants.{Admit}
use Rattle.cqf_admission.specs.Lines.{Written}
use Rattle.cqf_model.specs.History.{Act, Admits, Asked}
use Rattle.cqf_admission.specs.Names.{has_name, index_named}
use Rattle.cqf_admission.specs.Orders.{request_at}
use Rattle.cqf_lists.proofs.Firsts.{found_nowhere, found_there}
use Rattle.cqf_model.specs.Limits.{most_calls}
use Rattle.cqf_admission.specs.Script.{act_for, call_of_order, request_named}

-- the first request with the name gives the first act with it
named_first : (requests : List PacedRequest) (name : List ℕ) → option_map asked_paced (find (has_name name) requests) ≡ request_named (map asked_paced requests) name
named_first [] name = refl
named_first (request ∷ requests) name =
    pick (has_name name request) request (find (has_name name) requests)
    ∙ ap (cond (has_name name request) (Some (asked_paced request))) (named_first requests name)
  where
    pick : (b : Bool) (request : PacedRequest) (later : Option PacedRequest) →
        option_map asked_paced (cond b (Some request) later) ≡ cond b (Some (asked_paced request)) (option_map asked_paced later)
    pick true request later = refl
    pick false request later = refl

-- the index of the first request with a name gives what its name calls for
pub admits : (requests : List PacedRequest) (name : List ℕ) (index : ℕ) → index_named requests name ≡ Some index →
    act_for (map asked_paced requests) Admit name ≡ Some (Admits (request_at (map asked_paced requests) index))
admits requests name index is =
    let there : slice_get requests index ≡ find (has_name name) requests = found_there (has_name name) requests index is in
    let asked : slice_get (map asked_paced requests) index ≡ request_named (map asked_paced requests) name =
    slice_get-map asked_paced requests index ∙ ap (option_map asked_paced) there ∙ named_first requests name in
    let inside : index < length (map asked_paced requests) = grind (arith, common_steps) in
    ap (option_map (λ (asked : Asked). Admits asked)) (sym asked ∙ slice_get-get_or (map asked_paced requests) index nobody inside)
  where
    nobody : Asked
    nobody = record { name = []; octets = 0; every = 1; phase = 0; paths = [] }

-- the request at an index, as calls share it
pub shared_read : (requests : List (Arc PacedRequest Global)) (index : ℕ) (request : Arc PacedRequest Global) → index < length requests →
    request ≡ slice_index_or requests index request → request_at (map asked_shared requests) index ≡ asked_shared request
shared_read requests index request inside is =
    get_or-map asked_shared requests index request (record { name = []; octets = 0; every = 1; phase = 0; paths = [] }) inside ∙ ap asked_shared (sym is)

-- no request has the name
pub unknown_stream : (requests : List PacedRequest) (number called : ℕ) (order : Written) → index_named requests order.name ≡ None → order.wish ≡ Admit →
    call_of_order (map asked_paced requests) number called order ≡ Err (UnknownStream number)
unknown_stream requests number called order none wish =
    let asked : request_named (map asked_paced requests) order.name ≡ None =
    sym (named_first requests order.name) ∙ ap (option_map asked_paced) (sym (found_nowhere (has_name order.name) requests none)) in
    rw (wish, asked) refl

-- there are as many calls as there may be
pub too_many : (requests : List Asked) (number called : ℕ) (order : Written) (act : Act) → act_for requests order.wish order.name ≡ Some act →
    most_calls ≤ called → call_of_order requests number called order ≡ Err (TooMany number)
too_many requests number called order act is many =
    let full : nat_le most_calls called ≡ true = grind (arith, nat_tests) in
    rw (is, full) refl

-- or there are fewer
pub called_for : (requests : List Asked) (number called : ℕ) (order : Written) (act : Act) → act_for requests order.wish order.name ≡ Some act →
    called < most_calls → call_of_order requests number called order ≡ Ok (order.seat, act)
called_for requests number called order act is few =
    let room : nat_le most_calls called ≡ false = grind (arith, nat_tests) in
    rw (is, room) refl
