-- Lines that are written field by field.
use Rattle.std.proofs.Common.{◌++◌, ℕ, List, [], ◌∷◌, Option, append_assoc, sym}
use Rattle.std.specs.List.{join_with_byte}
use Rattle.std.specs.declared.io.traits.Write as write
use Rattle.cqf_output.specs.Writer.{Puts}
use Rattle.cqf_output.specs.declared.writer.Writer.{Writer}
use Rattle.cqf_output.specs.declared.sinks.Sink as sink
use Rattle.cqf_output.proofs.WriterLemmas.{Puts-as, Puts-then}
use Rattle.cqf_report.specs.Records.{Fields}
use Rattle.cqf_report.specs.Written.{line_of_fields}

-- a field, a comma, and the line of the following fields
pub Puts-field : {W : Type 0} {s : sink.Ghosts W} {w : write.Ghosts W} {contents : W → Option (List ℕ)}
    {old mid after new : Writer W s w} (field next : List ℕ) (fields : Fields)
    → Puts contents old mid field → Puts contents mid after (44 ∷ []) → Puts contents after new (line_of_fields (next ∷ fields))
    → Puts contents old new (line_of_fields (field ∷ next ∷ fields))
Puts-field field next fields one comma rest =
    Puts-as (field ++ (44 ∷ line_of_fields (next ∷ fields))) _ (sym (append_assoc field (44 ∷ join_with_byte 44 (next ∷ fields)) (10 ∷ [])))
    (Puts-then field (44 ∷ line_of_fields (next ∷ fields)) one (Puts-then (44 ∷ []) (line_of_fields (next ∷ fields)) comma rest))

-- the line of six fields
pub Puts-six : {W : Type 0} {s : sink.Ghosts W} {w : write.Ghosts W} {contents : W → Option (List ℕ)}
    {p0 p1 p2 p3 p4 p5 p6 p7 p8 p9 p10 p11 p12 : Writer W s w} (a b c d e f : List ℕ)
    → Puts contents p0 p1 a → Puts contents p1 p2 (44 ∷ []) → Puts contents p2 p3 b → Puts contents p3 p4 (44 ∷ [])
    → Puts contents p4 p5 c → Puts contents p5 p6 (44 ∷ []) → Puts contents p6 p7 d → Puts contents p7 p8 (44 ∷ [])
    → Puts contents p8 p9 e → Puts contents p9 p10 (44 ∷ []) → Puts contents p10 p11 f → Puts contents p11 p12 (10 ∷ [])
    → Puts contents p0 p12 (line_of_fields (a ∷ b ∷ c ∷ d ∷ e ∷ f ∷ []))
Puts-six a b c d e f one after_a two after_b three after_c four after_d five after_e six end =
    Puts-field a b (c ∷ d ∷ e ∷ f ∷ []) one after_a
    (Puts-field b c (d ∷ e ∷ f ∷ []) two after_b
    (Puts-field c d (e ∷ f ∷ []) three after_c
    (Puts-field d e (f ∷ []) four after_d
    (Puts-field e f [] five after_e
    (Puts-then f (10 ∷ []) six end)))))

-- the line of four fields
pub Puts-four : {W : Type 0} {s : sink.Ghosts W} {w : write.Ghosts W} {contents : W → Option (List ℕ)}
    {p0 p1 p2 p3 p4 p5 p6 p7 p8 : Writer W s w} (a b c d : List ℕ)
    → Puts contents p0 p1 a → Puts contents p1 p2 (44 ∷ []) → Puts contents p2 p3 b → Puts contents p3 p4 (44 ∷ [])
    → Puts contents p4 p5 c → Puts contents p5 p6 (44 ∷ []) → Puts contents p6 p7 d → Puts contents p7 p8 (10 ∷ [])
    → Puts contents p0 p8 (line_of_fields (a ∷ b ∷ c ∷ d ∷ []))
Puts-four a b c d one after_a two after_b three after_c four end =
    Puts-field a b (c ∷ d ∷ []) one after_a
    (Puts-field b c (d ∷ []) two after_b
    (Puts-field c d [] three after_c
    (Puts-then d (10 ∷ []) four end)))
