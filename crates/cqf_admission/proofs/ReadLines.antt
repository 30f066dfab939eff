-- How far the lines of a script have been read.
use Rattle.std.proofs.Common.{ℕ, ◌≡◌, ◌+◌, ◌<◌, ◌≤◌, List, [], ◌∷◌, ◌++◌, length, Result, Ok, Err, refl, ap, subst, sym}
use Rattle.std.proofs.Common.{◌∙◌, append_assoc, arith, ◌-◌, All, drop, take, length-drop, length-take-le, inl, inr}
use Rattle.std.proofs.lemmas.List.{append-nil}
use Rattle.cqf_text.specs.Lines.{lines_of}
use Rattle.cqf_model.specs.History.{Asked}
use Rattle.cqf_topology.specs.Fields.{and_first}
use Rattle.cqf_topology.proofs.Arrays.{with_front}
use Rattle.std.specs.List.{after_first, before_first, position_or_len}
use Rattle.std.proofs.Math.Seq.{drop-drop}
use Rattle.std.proofs.lemmas.List.{drop_all}
use Rattle.std.proofs.lemmas.List.Sums.{prefix_len-le-length}
use Rattle.std.proofs.lemmas.List.Elements.{All-nil, All-push}
use Rattle.std.proofs.lemmas.Bool.{cases_lt}
use Rattle.cqf_text.specs.Lines.{is_line_feed}
use Rattle.cqf_admission.specs.declared.orders.Ordered.{Ordered}
use Rattle.cqf_admission.specs.Orders.{StandsIn}
use Rattle.cqf_admission.specs.Placed.{LineEnds}
use Rattle.cqf_admission.specs.declared.faults.ScriptFault.{ScriptFault}
use Rattle.cqf_admission.specs.Script.{Called, administrators, called_after, call_of_line, calls_from, script_of, sealed_after}

-- the calls so far, followed by those of the remaining lines, are those of the script; the lines so far are counted
pub record IsReadSoFar (requests : List Asked) (seat cycles : ℕ) (text : List ℕ) (calls : List Called) (number sealed called : ℕ) (left : List ℕ) : Type 0 where
  pub goes_on : with_front calls (calls_from requests seat cycles number sealed called (lines_of left)) ≡ calls_from requests seat cycles 1 0 0 (lines_of text)
  pub counted : sealed + called + 1 ≡ number
  pub inside : number + length left ≤ 1 + length text

-- at first no call comes before what is read
front_none : (rest : Result (List Called) ScriptFault) → with_front [] rest ≡ rest
front_none (Ok rest) = refl
front_none (Err fault) = refl

-- one more call comes before what is read
front_more : (calls : List Called) (call : Called) (rest : Result (List Called) ScriptFault) →
    with_front calls (and_first (Ok call) rest) ≡ with_front (calls ++ call ∷ []) rest
front_more calls call (Ok rest) = ap Ok (sym (append_assoc calls (call ∷ []) rest))
front_more calls call (Err fault) = refl

-- at first no line was read
pub read-none : (requests : List Asked) (seat cycles : ℕ) (text : List ℕ) → IsReadSoFar requests seat cycles text [] 1 0 0 text
read-none requests seat cycles text = record { goes_on = front_none _; counted = refl; inside = omega arith }

-- how many calls of either kind come before the next line
counts_one_more : (sealed called : ℕ) (line : List ℕ) → sealed_after sealed line + called_after called line ≡ sealed + called + 1
counts_one_more sealed called line = grind arith

-- one more line was read
pub read-one_more : (requests : List Asked) (seat cycles : ℕ) (text : List ℕ) (calls after : List Called)
    (number next sealed called sealed_then called_then : ℕ)
    (left line following : List ℕ) (call : Called) → IsReadSoFar requests seat cycles text calls number sealed called left
    → lines_of left ≡ line ∷ lines_of following → length following < length left → call_of_line requests seat cycles number sealed called line ≡ Ok call
    → after ≡ calls ++ call ∷ [] → next ≡ number + 1 → sealed_then ≡ sealed_after sealed line → called_then ≡ called_after called line
    → IsReadSoFar requests seat cycles text after next sealed_then called_then following
read-one_more requests seat cycles text calls after number next sealed called sealed_then called_then left line following call
    so_far first shorter good more is_next is_sealed is_called =
    let others : Result (List Called) ScriptFault =
    calls_from requests seat cycles (number + 1) (sealed_after sealed line) (called_after called line) (lines_of following) in
    let split : calls_from requests seat cycles number sealed called (lines_of left) ≡ and_first (Ok call) others =
    ap (calls_from requests seat cycles number sealed called) first ∙ ap (λ r. and_first r others) good in
    let moved : with_front (calls ++ call ∷ []) others ≡ calls_from requests seat cycles 1 0 0 (lines_of text) =
    sym (front_more calls call others) ∙ ap (with_front calls) (sym split) ∙ so_far.goes_on in
    record {
      goes_on = rw (more, is_next, is_sealed, is_called) moved;
      counted = omega (arith, so_far.counted, is_next, is_sealed, is_called, counts_one_more sealed called line);
      inside = omega (arith, so_far.inside, shorter, is_next);
    }

-- the line with a fault is the first one
pub read-fault : (requests : List Asked) (seat cycles : ℕ) (text : List ℕ) (calls : List Called)
    (number sealed called : ℕ) (left line following : List ℕ) (fault : ScriptFault)
    → IsReadSoFar requests seat cycles text calls number sealed called left → seat ≡ administrators (lines_of text)
    → lines_of left ≡ line ∷ lines_of following → call_of_line requests seat cycles number sealed called line ≡ Err fault
    → script_of requests cycles text ≡ Err fault
read-fault requests seat cycles text calls number sealed called left line following fault so_far is_seat first bad =
    let others : Result (List Called) ScriptFault =
    calls_from requests seat cycles (number + 1) (sealed_after sealed line) (called_after called line) (lines_of following) in
    let split : calls_from requests seat cycles number sealed called (lines_of left) ≡ Err fault =
    ap (calls_from requests seat cycles number sealed called) first ∙ ap (λ r. and_first r others) bad in
    ap (λ s. calls_from requests s cycles 1 0 0 (lines_of text)) (sym is_seat) ∙ sym so_far.goes_on ∙ ap (with_front calls) split

-- if no line is left, the calls are those of the script
pub read-all : (requests : List Asked) (seat cycles : ℕ) (text : List ℕ) (calls : List Called) (number sealed called : ℕ) (left : List ℕ)
    → IsReadSoFar requests seat cycles text calls number sealed called left → seat ≡ administrators (lines_of text) → lines_of left ≡ []
    → script_of requests cycles text ≡ Ok calls
read-all requests seat cycles text calls number sealed called left so_far is_seat none =
    let rest : calls_from requests seat cycles number sealed called (lines_of left) ≡ Ok [] = ap (calls_from requests seat cycles number sealed called) none in
    ap (λ s. calls_from requests s cycles 1 0 0 (lines_of text)) (sym is_seat) ∙ sym so_far.goes_on ∙ ap (with_front calls) rest ∙ ap Ok (append-nil calls)

-- the references of the orders so far are valid, and what is left is the end of the text
pub record AreOrdersSoFar (requests : List Asked) (text : List ℕ) (orders : List Ordered) (left : List ℕ) : Type 0 where
  pub rest : left ≡ drop (length text - length left) text
  pub stand : All (λ (order : Ordered). StandsIn requests text order.what) orders

-- what is left of a text from an index on is its end of that length
end_of_text : (text : List ℕ) (n : ℕ) → drop n text ≡ drop (length text - length (drop n text)) text
end_of_text text n = elim (cases_lt n (length text)) [
  | inl low ↦ ap (λ (k : ℕ). drop k text) (omega (arith, low, length-drop n text))
  | inr high ↦ drop_all n text (omega (arith, high)) ∙ sym (drop_all (length text - length (drop n text)) text (omega (arith, high, length-drop n text)))
]

-- at the start
pub orders-none : (requests : List Asked) (text : List ℕ) → AreOrdersSoFar requests text [] text
orders-none requests text = record { rest = end_of_text text 0; stand = All-nil (λ (order : Ordered). StandsIn requests text order.what) }

-- where the next line ends in the text
pub line_at : (text left line : List ℕ) → left ≡ drop (length text - length left) text → length left ≤ length text → line ≡ before_first is_line_feed left →
    LineEnds text (length text - length left + length line) line
line_at text left line rest inside is =
    let n = position_or_len is_line_feed left in
    let few : n ≤ length left = prefix_len-le-length _ left in
    let many : length line ≡ n = ap length is ∙ length-take-le n left few in
    let shorter : length line ≤ length left = omega (arith, few, many) in
    let begins : length text - length left + length line - length line ≡ length text - length left = omega arith in
    let front : take (length line) left ≡ line = ap (λ (k : ℕ). take k left) many ∙ sym is in
    record {
      inside = omega (arith, inside, shorter);
      long = omega arith;
      is = ap (λ (k : ℕ). take (length line) (drop k text)) begins ∙ ap (take (length line)) (sym rest) ∙ front;
    }

-- one more order has a valid reference
pub orders-one_more : (requests : List Asked) (text : List ℕ) (orders after : List Ordered) (left following : List ℕ) (order : Ordered) →
    AreOrdersSoFar requests text orders left → StandsIn requests text order.what → after ≡ orders ++ order ∷ [] → following ≡ after_first is_line_feed left →
    AreOrdersSoFar requests text after following
orders-one_more requests text orders after left following order so_far stands more is =
    let n = position_or_len is_line_feed left + 1 in
    let b = length text - length left in
    let cut : following ≡ drop (b + n) text = is ∙ ap (drop n) so_far.rest ∙ drop-drop n b text in
    record {
      rest = cut ∙ end_of_text text (b + n) ∙ ap (λ (xs : List ℕ). drop (length text - length xs) text) (sym cut);
      stand = subst (λ (os : List Ordered). All (λ (o : Ordered). StandsIn requests text o.what) os) (sym more)
          (All-push (λ (o : Ordered). StandsIn requests text o.what) orders order so_far.stand stands);
    }
