-- The script of a file of calls, made line by line.
use Rattle.std.proofs.Common.{◌≡◌, ℕ, ◌+◌, ◌≤◌, ◌<◌, List, [], ◌∷◌, ◌++◌, codes, length, replicate, sym, ap, ◌∙◌, append_assoc, append-nil, arith}
use Rattle.std.proofs.lemmas.Grind.{flat_map-append, replicate_next}
use Rattle.std.proofs.lemmas.List.{map-append}
use Rattle.cqf_text.specs.Lines.{lines_of}
use Rattle.cqf_output.specs.Stops.{line_of}
use Rattle.cqf_program_files.specs.declared.calls.CallsScript.{CallsScript}
use Rattle.cqf_program_files.specs.Calls.{HasPut, bare, last_written, lines_for, numbered, numbers_of_script, reached_after, script_lines, script_of_calls, text_of_script}

-- what a script has so far, before the lines that are left
pub record IsSoFar (text left : List ℕ) (cycles number reached : ℕ) (script : CallsScript) : Type 0 where
  pub text_so_far : script.text.items ++ text_of_script (script_lines cycles number reached (lines_of left)) ≡ text_of_script (script_of_calls cycles text)
  pub numbers_so_far :
      script.numbers.items ++ numbers_of_script (script_lines cycles number reached (lines_of left)) ≡ numbers_of_script (script_of_calls cycles text)
  pub some : 0 < number
  pub few : number + length left ≤ length text + 1
  pub counted : reached ≤ last_written

-- nothing was read yet
pub begins : (text : List ℕ) (cycles : ℕ) (script : CallsScript) → script.text.items ≡ [] → script.numbers.items ≡ [] → IsSoFar text text cycles 1 0 script
begins text cycles script no_text no_numbers = record {
  text_so_far = ap (λ t. t ++ text_of_script (script_of_calls cycles text)) no_text;
  numbers_so_far = ap (λ t. t ++ numbers_of_script (script_of_calls cycles text)) no_numbers;
  some = omega arith;
  few = omega arith;
  counted = omega arith;
}

-- what follows a list so far is what is made from the next lines, and then the rest
after_all : {A : Type 0} (old new more rest all whole : List A) → new ≡ old ++ more → more ++ rest ≡ all → old ++ all ≡ whole → new ++ rest ≡ whole
after_all old new more rest all whole put split so_far =
    ap (λ t. t ++ rest) put ∙ append_assoc old more rest ∙ ap (λ t. old ++ t) split ∙ so_far

-- with the lines for one more line of the file
pub next_line : (text left following line : List ℕ) (cycles number reached : ℕ) (old new : CallsScript) → lines_of left ≡ line ∷ lines_of following
    → IsSoFar text left cycles number reached old → HasPut old new (numbered number (lines_for cycles reached (bare line))) → length following < length left
    → reached_after reached (bare line) ≤ last_written → IsSoFar text following cycles (number + 1) (reached_after reached (bare line)) new
next_line text left following line cycles number reached old new lines so_far put shorter counted =
    let here = numbered number (lines_for cycles reached (bare line)) in
    let rest = script_lines cycles (number + 1) (reached_after reached (bare line)) (lines_of following) in
    let all : here ++ rest ≡ script_lines cycles number reached (lines_of left) = sym (ap (script_lines cycles number reached) lines) in
    let few : number + length left ≤ length text + 1 = so_far.few in
    let some : 0 < number = so_far.some in
    record {
      text_so_far = after_all old.text.items new.text.items (text_of_script here) (text_of_script rest)
          (text_of_script (script_lines cycles number reached (lines_of left))) _ put.text
          (sym (flat_map-append (λ line. line_of line.1) here rest) ∙ ap text_of_script all) so_far.text_so_far;
      numbers_so_far = after_all old.numbers.items new.numbers.items (numbers_of_script here) (numbers_of_script rest)
          (numbers_of_script (script_lines cycles number reached (lines_of left))) _ put.numbers
          (sym (map-append (λ line. line.0) here rest) ∙ ap numbers_of_script all) so_far.numbers_so_far;
      some = omega arith;
      few = omega arith;
      counted = counted;
    }

-- nothing was put
pub put_nothing : (script : CallsScript) → HasPut script script []
put_nothing script = record { text = sym (append-nil script.text.items); numbers = sym (append-nil script.numbers.items) }

-- lines were put, and then one more
pub put_more : (first old new : CallsScript) (lines : List (ℕ × List ℕ)) (line : ℕ × List ℕ) → HasPut first old lines → HasPut old new (line ∷ [])
    → HasPut first new (lines ++ line ∷ [])
put_more first old new lines line so_far put = record {
  text = put.text ∙ ap (λ t. t ++ text_of_script (line ∷ [])) so_far.text
      ∙ append_assoc first.text.items (text_of_script lines) (text_of_script (line ∷ []))
      ∙ ap (λ t. first.text.items ++ t) (sym (flat_map-append (λ line. line_of line.1) lines (line ∷ [])));
  numbers = put.numbers ∙ ap (λ t. t ++ numbers_of_script (line ∷ [])) so_far.numbers
      ∙ append_assoc first.numbers.items (numbers_of_script lines) (numbers_of_script (line ∷ []))
      ∙ ap (λ t. first.numbers.items ++ t) (sym (map-append (λ line. line.0) lines (line ∷ [])));
}

-- one more Seal
pub seals_more : (number count : ℕ) → numbered number (replicate count (codes "seal")) ++ (number, codes "seal") ∷ [] ≡ numbered number (replicate (count + 1) (codes "seal"))
seals_more number count =
    sym (map-append (λ line. (number, line)) (replicate count (codes "seal")) (codes "seal" ∷ [])) ∙ ap (numbered number) (sym (replicate_next count (codes "seal")))
