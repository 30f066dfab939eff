-- A table without a key.
use Rattle.std.proofs.Common.{◌≡◌, ◌∙◌, ℕ, cond, List, [], ◌∷◌, Option, Some, None, Ordering, Less, Equal, Greater, nat_cmp, is_eq, string_bytes, refl, ap, sym}
use Rattle.std.proofs.Common.{String, Global}
use Rattle.std.specs.BTreeMap.{is_at}
use Rattle.std.specs.Cmp.Lexicographic.{slice_cmp}
use Rattle.std.specs.Map.{lookup, remove_entry}
use Rattle.std.specs.Ordering.{match_ordering}
use Rattle.toml.specs.Data.{Members, member}
use Rattle.toml.specs.View.{members_view, view}
use Rattle.toml.proofs.Views.{Entry}
use Rattle.cqf_program_without.specs.Links.{take_key}

-- how a key compares with another
abbrev pub compare : List ℕ → String Global → Ordering
compare key k = slice_cmp nat_cmp key (string_bytes k)

-- a table that lacks the key stays as it is
lacking : (key : List ℕ) (es : List Entry) → lookup (is_at (compare key)) es ≡ None → take_key key (members_view es) ≡ members_view es
lacking key [] none = refl
lacking key (e ∷ es) none = by (lacking key es) (compare key e.0) none
  where
    by : (lookup (is_at (compare key)) es ≡ None → take_key key (members_view es) ≡ members_view es) → (o : Ordering) →
        cond (is_eq o) (Some e.1) (lookup (is_at (compare key)) es) ≡ None →
        match_ordering o (member (string_bytes e.0) (view e.1) (take_key key (members_view es))) (take_key key (members_view es))
        (member (string_bytes e.0) (view e.1) (take_key key (members_view es)))
        ≡ member (string_bytes e.0) (view e.1) (members_view es)
    by same Less none = ap (member (string_bytes e.0) (view e.1)) (same none)
    by same Equal some = absurd cc
    by same Greater none = ap (member (string_bytes e.0) (view e.1)) (same none)

-- what a removal from a table's map leaves, where the map then lacks the key
pub take_is_remove : (key : List ℕ) (es : List Entry) → lookup (is_at (compare key)) (remove_entry (is_at (compare key)) es) ≡ None →
    members_view (remove_entry (is_at (compare key)) es) ≡ take_key key (members_view es)
take_is_remove key [] none = refl
take_is_remove key (e ∷ es) none = by (take_is_remove key es) (compare key e.0) refl none
  where
    rest : List Entry
    rest = remove_entry (is_at (compare key)) es

    by : (lookup (is_at (compare key)) rest ≡ None → members_view rest ≡ take_key key (members_view es)) → (o : Ordering) → compare key e.0 ≡ o →
        lookup (is_at (compare key)) (cond (is_eq o) es (e ∷ rest)) ≡ None →
        members_view (cond (is_eq o) es (e ∷ rest))
        ≡ match_ordering o (member (string_bytes e.0) (view e.1) (take_key key (members_view es))) (take_key key (members_view es))
        (member (string_bytes e.0) (view e.1) (take_key key (members_view es)))
    by same Less is none =
        ap (member (string_bytes e.0) (view e.1)) (same (ap (λ o. cond (is_eq o) (Some e.1) (lookup (is_at (compare key)) rest)) (sym is) ∙ none))
    by same Equal is none = sym (lacking key es none)
    by same Greater is none =
        ap (member (string_bytes e.0) (view e.1)) (same (ap (λ o. cond (is_eq o) (Some e.1) (lookup (is_at (compare key)) rest)) (sym is) ∙ none))
