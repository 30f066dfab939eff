-- What was taken from a pipe is what was returned and what waits.
use Rattle.std.proofs.Common.{◌≡◌, ℕ, ◌+◌, ◌-◌, List, [], ◌∷◌, ◌++◌, length, sym, ap, ◌∙◌, append_assoc, append-nil, arith, take}
use Rattle.std.proofs.Math.Seq.{take-append_seam}
use Rattle.std.proofs.lemmas.List.{length-append}

module _ {T : Type 0} where
  -- what was returned, if this many items wait
  abbrev Out : List T → List T → List T
  Out taken waiting = take (length taken - length waiting) taken

  -- everything before what waits was returned
  out_before : (taken out waiting : List T) → taken ≡ out ++ waiting → Out taken waiting ≡ out
  out_before taken out waiting is =
      let count : length taken - length waiting ≡ length out = omega (arith, ap length is, length-append out waiting) in
      ap (λ n. take n taken) count ∙ ap (take (length out)) is ∙ take-append_seam out waiting

  -- one item is returned, and the items after it wait
  pub hands_out : (taken waiting now rest : List T) (x : T) (count : ℕ) → now ≡ Out taken waiting ++ x ∷ rest → count ≡ length (Out taken waiting)
      → (Out now rest ≡ Out taken waiting ++ x ∷ []) × (now ≡ Out now rest ++ rest) × (count + 1 ≡ length (Out now rest))
  hands_out taken waiting now rest x count is counted =
      let out = Out taken waiting in
      let split : now ≡ (out ++ x ∷ []) ++ rest = is ∙ sym (append_assoc out (x ∷ []) rest) in
      let handed : Out now rest ≡ out ++ x ∷ [] = out_before now (out ++ x ∷ []) rest split in (
        handed,
        split ∙ ap (λ l. l ++ rest) (sym handed),
        omega (arith, counted, ap length handed, length-append out (x ∷ [])),
      )

  -- nothing waited; an item arrives with the items that wait next
  pub comes : (taken waiting now rest : List T) (x : T) (count : ℕ) → now ≡ taken ++ x ∷ rest → taken ≡ Out taken waiting ++ waiting → waiting ≡ []
      → count ≡ length (Out taken waiting) → (Out now rest ≡ Out taken waiting ++ x ∷ []) × (now ≡ Out now rest ++ rest) × (count + 1 ≡ length (Out now rest))
  comes taken waiting now rest x count came split none counted =
      let all : taken ≡ Out taken waiting = split ∙ ap (λ l. Out taken waiting ++ l) none ∙ append-nil (Out taken waiting) in
      hands_out taken waiting now rest x count (came ∙ ap (λ l. l ++ x ∷ rest) all) counted
