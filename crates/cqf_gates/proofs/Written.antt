-- The texts of entries, one entry after another.
use Rattle.std.proofs.Common.{ℕ, ◌≡◌, ◌+◌, ◌<◌, List, [], ◌∷◌, ◌++◌, length, take, get_or, refl, ap, sym, ◌∙◌, append_assoc, codes, decimal}
use Rattle.std.proofs.lemmas.List.{take_more}
use Rattle.cqf_model.specs.GateList.{Entry}
use Rattle.cqf_model.specs.declared.gates.StreamEntry.{StreamEntry}
use Rattle.cqf_gates.specs.GateListText.{line_of_gates, text_of_entries}
use Rattle.cqf_gates.specs.StreamText.{line_of_open, line_of_stream_entry, octet_max_text, text_of_stream_entries}

-- the text of one more entry
text_of_entries-push : (entries : List Entry) (entry : Entry) → text_of_entries (entries ++ entry ∷ []) ≡ text_of_entries entries
    ++ line_of_gates entry ++ 10 ∷ []
text_of_entries-push [] entry = refl
text_of_entries-push (first ∷ entries) entry =
    ap (λ rest. line_of_gates first ++ 10 ∷ rest) (text_of_entries-push entries entry) ∙ simp append_assoc

-- the text of the first entries of a list and the next one
pub text_of_entries-more : (entries : List Entry) (k : ℕ) (d : Entry) → k < length entries → text_of_entries (take (k + 1) entries)
    ≡ text_of_entries (take k entries) ++ line_of_gates (get_or entries k d) ++ 10 ∷ []
text_of_entries-more entries k d inside = ap text_of_entries (take_more entries k d inside) ∙ text_of_entries-push (take k entries) (get_or entries k d)

-- the text of one more entry of a stream gate
text_of_stream_entries-push : (entries : List StreamEntry) (entry : StreamEntry) → text_of_stream_entries (entries ++ entry ∷ [])
    ≡ text_of_stream_entries entries ++ (line_of_stream_entry entry ++ 10 ∷ [])
text_of_stream_entries-push [] entry = refl
text_of_stream_entries-push (first ∷ entries) entry =
    ap (λ rest. line_of_stream_entry first ++ 10 ∷ rest) (text_of_stream_entries-push entries entry)
    ∙ sym (append_assoc (line_of_stream_entry first) (10 ∷ text_of_stream_entries entries) (line_of_stream_entry entry ++ 10 ∷ []))

-- the text of the first entries of a stream gate's list and the next one
pub text_of_stream_entries-more : (entries : List StreamEntry) (k : ℕ) (d : StreamEntry) → k < length entries →
    text_of_stream_entries (take (k + 1) entries) ≡ text_of_stream_entries (take k entries) ++ (line_of_stream_entry (get_or entries k d) ++ 10 ∷ [])
text_of_stream_entries-more entries k d inside = ap text_of_stream_entries (take_more entries k d inside)
    ∙ text_of_stream_entries-push (take k entries) (get_or entries k d)

-- the line of an entry in which frames may pass, piece by piece
pub open_pieces : (entry : StreamEntry) →
    codes "open " ++ (decimal entry.ipv ++ (codes " " ++ (decimal entry.interval ++ (codes " " ++ octet_max_text entry.octet_max)))) ≡ line_of_open entry
open_pieces entry = simp append_assoc
