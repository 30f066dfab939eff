-- The lines of a check, as they are printed.
use Rattle.std.proofs.Common.{◌≡◌, ◌∙◌, ◌++◌, ◌∷◌, [], ℕ, List, append_assoc, ap, codes, sym}
use Rattle.cqf_output.specs.Stops.{fault_line, line_of}

-- the line feed comes after the last number
pub unfinished_written : (under_way later : List ℕ) →
    codes "cqf: check: unfinished, under way " ++ (under_way ++ (codes ", not run " ++ (later ++ 10 ∷ [])))
    ≡ fault_line (codes "check") (codes "unfinished, under way " ++ (under_way ++ (codes ", not run " ++ later)))
unfinished_written under_way later =
    ap (λ t. codes "cqf: check: unfinished, under way " ++ t) (sym (append_assoc under_way (codes ", not run " ++ later) (10 ∷ [])))

pub none_come_written : (enough : List ℕ) →
    codes "cqf: check: no frame; " ++ (enough ++ codes " cycles would do\n")
    ≡ fault_line (codes "check") (codes "no frame; " ++ (enough ++ codes " cycles would do"))
none_come_written enough = ap (λ t. codes "cqf: check: no frame; " ++ t) (sym (append_assoc enough (codes " cycles would do") (10 ∷ [])))

pub well_written : (frames delivered timed : List ℕ) →
    codes "ok: " ++ (frames ++ (codes " frames, " ++ (delivered ++ (codes " deliveries, " ++ (timed ++ codes " with a deadline\n")))))
    ≡ line_of (codes "ok: " ++ (frames ++ (codes " frames, " ++ (delivered ++ (codes " deliveries, " ++ (timed ++ codes " with a deadline"))))))
well_written frames delivered timed =
    let last = codes " with a deadline" in
    let some = codes " deliveries, " ++ (timed ++ last) in
    ap (λ t. codes "ok: " ++ t)
    (sym (append_assoc frames (codes " frames, " ++ (delivered ++ some)) (10 ∷ [])
    ∙ ap (λ t. frames ++ (codes " frames, " ++ t))
    (append_assoc delivered some (10 ∷ []) ∙ ap (λ t. delivered ++ (codes " deliveries, " ++ t)) (append_assoc timed last (10 ∷ [])))))

-- and after the text about a delivery
pub complaint_written : (frame stream bridge at complaint : List ℕ) →
    codes "cqf: check: frame "
    ++ (frame ++ (codes " of " ++ (stream ++ (codes ", offered to " ++ (bridge ++ (codes " at " ++ (at ++ (codes ": " ++ (complaint ++ 10 ∷ [])))))))))
    ≡ fault_line (codes "check")
    (codes "frame " ++ (frame ++ (codes " of " ++ (stream ++ (codes ", offered to " ++ (bridge ++ (codes " at " ++ (at ++ (codes ": " ++ complaint)))))))))
complaint_written frame stream bridge at complaint =
    let z : List ℕ = 10 ∷ [] in
    let after_at = codes ": " ++ complaint in
    let after_bridge = codes " at " ++ (at ++ after_at) in
    let after_stream = codes ", offered to " ++ (bridge ++ after_bridge) in
    let after_frame = codes " of " ++ (stream ++ after_stream) in
    ap (λ t. codes "cqf: check: frame " ++ t)
    (sym (append_assoc frame after_frame z
    ∙ ap (λ t. frame ++ (codes " of " ++ t)) (append_assoc stream after_stream z
    ∙ ap (λ t. stream ++ (codes ", offered to " ++ t)) (append_assoc bridge after_bridge z
    ∙ ap (λ t. bridge ++ (codes " at " ++ t)) (append_assoc at after_at z)))))

-- and after the reason why a call is refused
pub refused_written : (number call seat refused : List ℕ) →
    codes "cqf: check: call " ++ (number ++ (codes ", " ++ (call ++ (codes " by " ++ (seat ++ (codes ": refused " ++ (refused ++ 10 ∷ [])))))))
    ≡ fault_line (codes "check")
    (codes "call " ++ (number ++ (codes ", " ++ (call ++ (codes " by " ++ (seat ++ (codes ": " ++ (codes "refused " ++ refused))))))))
refused_written number call seat refused =
    let z : List ℕ = 10 ∷ [] in
    let after_seat = codes ": refused " ++ refused in
    let after_call = codes " by " ++ (seat ++ after_seat) in
    let after_number = codes ", " ++ (call ++ after_call) in
    ap (λ t. codes "cqf: check: call " ++ t)
    (sym (append_assoc number after_number z
    ∙ ap (λ t. number ++ (codes ", " ++ t)) (append_assoc call after_call z
    ∙ ap (λ t. call ++ (codes " by " ++ t)) (append_assoc seat after_seat z))))
