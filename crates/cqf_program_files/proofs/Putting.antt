-- Values appended to others, and put into a table.
use Rattle.std.proofs.Common.{◌≡◌, ℕ, ◌+◌, ◌<◌, List, [], ◌∷◌, ◌++◌, String, Global, Ordering, Less, Equal, Greater, string_bytes, get_or, length, take, refl, ap, ◌∙◌}
use Rattle.std.proofs.lemmas.List.{take_more}
use Rattle.std.specs.Ordering.{match_ordering}
use Rattle.std.specs.BTreeMap.{insert_entry}
use Rattle.std.specs.String.{string_cmp}
use Rattle.toml.specs.Data.{Data, Items, no_items, item, push_item}
use Rattle.toml.specs.declared.value.Value.{Value}
use Rattle.toml.specs.View.{view, items_view, members_view}
use Rattle.toml.proofs.Views.{Entry, items_view-push}
use Rattle.cqf_program_files.specs.Files.{append_items, put}

-- nothing after some items
pub append_nothing : (items : Items) → append_items items no_items ≡ items
append_nothing no_items = refl
append_nothing (item d ds) = ap (item d) (append_nothing ds)

-- one more item after them
pub append_one : (items others : Items) (d : Data) → append_items items (push_item others d) ≡ push_item (append_items items others) d
append_one no_items others d = refl
append_one (item e es) others d = ap (item e) (append_one es others d)

-- a copy of the next value, appended to those so far
pub put_one : (before : Items) (items more : List Value) (copy value : Value) (i : ℕ) → i < length more → get_or more i value ≡ value → view copy ≡ view value
    → items_view items ≡ append_items before (items_view (take i more)) → items_view (items ++ copy ∷ []) ≡ append_items before (items_view (take (i + 1) more))
put_one before items more copy value i inside at same so_far =
    items_view-push items copy
    ∙ rw (take_more more i value inside, at, items_view-push (take i more) value, append_one before (items_view (take i more)) (view value), so_far, same) refl

members_view-match : (o : Ordering) (a b c : List Entry) → members_view (match_ordering o a b c) ≡ match_ordering o (members_view a) (members_view b) (members_view c)
members_view-match Less a b c = refl
members_view-match Equal a b c = refl
members_view-match Greater a b c = refl

-- what an insert into the map of a table leaves
pub put_is_insert : (es : List Entry) (k : String Global) (v : Value) → members_view (insert_entry string_cmp es k v) ≡ put (string_bytes k) (view v) (members_view es)
put_is_insert [] k v = refl
put_is_insert (e ∷ es) k v = members_view-match (string_cmp k e.0) _ _ _ ∙ rw (put_is_insert es k v)
