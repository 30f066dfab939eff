-- The end of one of two plans that is refused.
use Rattle.std.proofs.Common.{◌≡◌, ◌≢◌, ◌∙◌, ℕ, List, Err, Result, ap, arith, inl, inr, subst, sym}
use Rattle.cqf_output.specs.Stops.{EndsWith, IsRefused, or_line}
use Rattle.cqf_output.specs.declared.stops.Stop.{Stop}
use Rattle.cqf_program_diff.specs.Output.{file_line}

-- with its line
pub file_refused : {A : Type 0} (found : Result A (List ℕ)) (which : List ℕ) (stop after : Stop) → IsRefused found stop → stop.status ≡ 1
    → EndsWith 1 (file_line which stop.text.items) after → IsRefused (or_line (file_line which) found) after
file_refused found which stop after refused one ends = record {
  statuses = ends.statuses;
  line = λ is_one. ap (or_line (file_line which)) (refused.line one) ∙ ap Err (sym (ends.line_is is_one));
  memory = ends.memory;
}

-- for want of memory
pub file_unread : {A : Type 0} (found : Result A (List ℕ)) (which : List ℕ) (stop : Stop) → IsRefused found stop → stop.status ≢ 1
    → IsRefused (or_line (file_line which) found) stop
file_unread found which stop refused other = record {
  statuses = elim refused.statuses [ inl one ↦ absurd (other one) | inr three ↦ inr three ];
  line = λ one. absurd (other one);
  memory = refused.memory;
}

-- in both cases
pub file_ends : {A : Type 0} (found : Result A (List ℕ)) (which : List ℕ) (stop after : Stop) → IsRefused found stop
    → (stop.status ≡ 1 → EndsWith 1 (file_line which stop.text.items) after) → (stop.status ≢ 1 → after ≡ stop) → IsRefused (or_line (file_line which) found) after
file_ends found which stop after refused with_line other = elim refused.statuses [
  | inl one ↦ file_refused found which stop after refused one (with_line one)
  | inr three ↦
      let not_one : stop.status ≢ 1 = λ one. absurd (omega (arith, one, three)) in
      subst (λ (end : Stop). IsRefused (or_line (file_line which) found) end) (sym (other not_one)) (file_unread found which stop refused not_one)
]
