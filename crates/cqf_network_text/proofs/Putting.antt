-- Values put into a table, and appended to lists.
use Rattle.std.proofs.Common.{◌≡◌, ℕ, ◌+◌, ◌<◌, ◌≤◌, List, [], ◌∷◌, ◌++◌, String, Global, Ordering, Less, Equal, Greater, Some, map, string_bytes, get_or}
use Rattle.std.proofs.Common.{length, slice_get, take, refl, ap, sym, ◌∙◌}
use Rattle.std.proofs.lemmas.List.{map-append, take_all, take_more}
use Rattle.std.proofs.lemmas.Option.{get_or_from_slice_get, slice_get-get_or, slice_get_within}
use Rattle.std.specs.Ordering.{match_ordering}
use Rattle.std.specs.BTreeMap.{insert_entry}
use Rattle.std.specs.String.{string_cmp}
use Rattle.toml.specs.Data.{Data, push_item, item}
use Rattle.toml.specs.declared.value.Value.{Value}
use Rattle.toml.specs.View.{items_of, items_view, members_view, view}
use Rattle.toml.proofs.Views.{Entry, items_view-push}
use Rattle.cqf_network_text.specs.DomainMembers.{put}

members_view-match : (o : Ordering) (a b c : List Entry) →
    members_view (match_ordering o a b c) ≡ match_ordering o (members_view a) (members_view b) (members_view c)
members_view-match Less a b c = refl
members_view-match Equal a b c = refl
members_view-match Greater a b c = refl

-- what an insertion into a table's map yields
pub put_is_insert : (es : List Entry) (k : String Global) (v : Value) →
    members_view (insert_entry string_cmp es k v) ≡ put (string_bytes k) (view v) (members_view es)
put_is_insert [] k v = refl
put_is_insert (e ∷ es) k v = members_view-match (string_cmp k e.0) _ _ _ ∙ rw (put_is_insert es k v)

-- one item more
items_of-push : (ds : List Data) (d : Data) → items_of (ds ++ d ∷ []) ≡ push_item (items_of ds) d
items_of-push [] d = refl
items_of-push (x ∷ ds) d = ap (item x) (items_of-push ds d)

-- the data of the next element, appended to those of the elements before it
pub push_next : {X : Type 0} (f : X → Data) (xs : List X) (i : ℕ) (x : X) (vs vs' : List Value) (v : Value) → slice_get xs i ≡ Some x → view v ≡ f x
    → vs' ≡ vs ++ v ∷ [] → items_view vs ≡ items_of (map f (take i xs)) → items_view vs' ≡ items_of (map f (take (i + 1) xs))
push_next {X} f xs i x vs vs' v at is pushed before =
    ap items_view pushed ∙ items_view-push vs v ∙ (λ j. push_item (before j) (is j)) ∙ sym (items_of-push (map f (take i xs)) (f x))
    ∙ ap items_of (sym (ap (map f) one_more ∙ map-append f (take i xs) (x ∷ [])))
  where
    one_more : take (i + 1) xs ≡ take i xs ++ x ∷ []
    one_more = take_more xs i x (slice_get_within xs i x at) ∙ ap (λ y. take i xs ++ y ∷ []) (get_or_from_slice_get xs i x x at)

-- the data of all elements
pub push_last : {X : Type 0} (f : X → Data) (xs : List X) (i : ℕ) (vs : List Value) → length xs ≤ i → items_view vs ≡ items_of (map f (take i xs))
    → items_view vs ≡ items_of (map f xs)
push_last f xs i vs past before = before ∙ ap (λ ys. items_of (map f ys)) (take_all i xs past)

-- the same, for the current element of a loop
pub push_here : {X : Type 0} (f : X → Data) (xs : List X) (i : ℕ) (x : X) (vs vs' : List Value) (v : Value) → i < length xs → x ≡ get_or xs i x → view v ≡ f x
    → vs' ≡ vs ++ v ∷ [] → items_view vs ≡ items_of (map f (take i xs)) → items_view vs' ≡ items_of (map f (take (i + 1) xs))
push_here f xs i x vs vs' v inside at = push_next f xs i x vs vs' v (slice_get-get_or xs i x inside ∙ ap Some (sym at))
