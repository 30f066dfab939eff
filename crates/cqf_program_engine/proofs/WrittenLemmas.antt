-- What was written to a list of bytes.
use Rattle.std.proofs.Common.{◌≡◌, ℕ, Bool, Err, IfOk, List, Ok, Result, Some, [], subst, sym}
use Rattle.std.specs.Global.{Global}
use Rattle.std.specs.declared.io.traits.Write as write
use Rattle.std.specs.declared.vec.Vec.{Vec}
use Rattle.cqf_output.specs.Edge.{IsWritten, since, writing}
use Rattle.cqf_output.specs.declared.sinks.Sink as sink
use Rattle.cqf_output.specs.declared.checked.CheckedSink.{CheckedSink}

-- a list that was empty before has each text that was written to it
pub text-reported : {s : sink.Ghosts (Vec ℕ Global)} {w : write.Ghosts (Vec ℕ Global)} {E : Type 0} {list : List ℕ}
    {refused : Bool} (old new : CheckedSink (Vec ℕ Global) s w) (IsText : List ℕ → Type 0) (result : Result (Vec ℕ Global) E) → old.writer.items ≡ []
    → ((text : List ℕ) → IsText text → IsWritten (writing (λ (list : Vec ℕ Global). Some list.items) old new) text)
    → IfOk result (λ v. (t : List ℕ) → IsWritten (record { before = Some []; after = Some list; refused = refused }) t → v.items ≡ t)
    → list ≡ new.writer.items → refused ≡ new.refused → IfOk result (λ v. (text : List ℕ) → IsText text → v.items ≡ text)
text-reported old new IsText (Err fault) nothing reported handed same_list same_word = tt
text-reported {refused = refused} old new IsText (Ok v) nothing reported handed same_list same_word = λ text is.
    let from_nothing : IsWritten (since (λ (list : Vec ℕ Global). Some list.items) (Some []) new) text =
    subst (λ (before : List ℕ). IsWritten (since (λ (list : Vec ℕ Global). Some list.items) (Some before) new) text) nothing (reported text is) in
    handed text (subst (λ (x : List ℕ). IsWritten (record { before = Some []; after = Some x; refused = refused }) text) (sym same_list)
    (subst (λ (b : Bool). IsWritten (record { before = Some []; after = Some new.writer.items; refused = b }) text) (sym same_word) from_nothing))
