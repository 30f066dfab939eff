-- The values at the keys of a table after a value was put into it.
use Rattle.std.proofs.Common.{◌≡◌, ◌∙◌, ℕ, List, false, Option, Some, None, nat_cmp, is_eq, Ordering, Less, Equal, Greater, refl, ap, sym}
use Rattle.std.proofs.lemmas.Bool.{true≢false}
use Rattle.std.proofs.lemmas.Cmp.{nat_list_cmp_total, tied_itself}
use Rattle.std.specs.Ordering.{match_ordering, ordering_reverse}
use Rattle.std.specs.Cmp.Lexicographic.{slice_cmp}
use Rattle.toml.specs.Data.{Data, Members, get_member, member, no_members}
use Rattle.cqf_network_text.specs.DomainMembers.{put}

-- at the key itself
pub put_here : (key : List ℕ) (d : Data) (members : Members) → get_member key (put key d members) ≡ Some d
put_here key d no_members = ap (λ o. match_ordering o None (Some d) None) (tied_itself nat_list_cmp_total key)
put_here key d (member other that more) = by (put_here key d more) (slice_cmp nat_cmp key other) refl
  where
    by : get_member key (put key d more) ≡ Some d → (o : Ordering) → slice_cmp nat_cmp key other ≡ o →
        get_member key (match_ordering o (member key d (member other that more)) (member other d more) (member other that (put key d more))) ≡ Some d
    by rest Less is =
        ap (λ o. match_ordering o (get_member key (member other that more)) (Some d) (get_member key (member other that more)))
        (tied_itself nat_list_cmp_total key)
    by rest Equal is = ap (λ o. match_ordering o (get_member key more) (Some d) (get_member key more)) is
    by rest Greater is = ap (λ o. match_ordering o (get_member key (put key d more)) (Some that) (get_member key (put key d more))) is ∙ rest

-- another key is passed over
past : (o : Ordering) (d : Data) (found : Option Data) → is_eq o ≡ false → match_ordering o found (Some d) found ≡ found
past Less d found other = refl
past Equal d found other = absurd (true≢false other)
past Greater d found other = refl

-- a key compares alike with two keys that are equal
as_far : (key a b : List ℕ) → slice_cmp nat_cmp a b ≡ Equal → slice_cmp nat_cmp key a ≡ slice_cmp nat_cmp key b
as_far key a b same =
    nat_list_cmp_total.antisymm key a ∙ ap ordering_reverse (nat_list_cmp_total.congr a b key same) ∙ sym (nat_list_cmp_total.antisymm key b)

-- at any other key
pub put_apart : (key other : List ℕ) (d : Data) (members : Members) → is_eq (slice_cmp nat_cmp key other) ≡ false →
    get_member key (put other d members) ≡ get_member key members
put_apart key other d no_members apart = past (slice_cmp nat_cmp key other) d None apart
put_apart key other d (member third that more) apart = by (put_apart key other d more apart) (slice_cmp nat_cmp other third) refl
  where
    by : get_member key (put other d more) ≡ get_member key more → (o : Ordering) → slice_cmp nat_cmp other third ≡ o →
        get_member key (match_ordering o (member other d (member third that more)) (member third d more) (member third that (put other d more)))
        ≡ get_member key (member third that more)
    by rest Less is = past (slice_cmp nat_cmp key other) d (get_member key (member third that more)) apart
    by rest Equal is =
        let apart_third : is_eq (slice_cmp nat_cmp key third) ≡ false = sym (ap is_eq (as_far key other third is)) ∙ apart in
        past (slice_cmp nat_cmp key third) d (get_member key more) apart_third
        ∙ sym (past (slice_cmp nat_cmp key third) that (get_member key more) apart_third)
    by rest Greater is = ap (λ found. match_ordering (slice_cmp nat_cmp key third) found (Some that) found) rest
