-- The values at the keys of a table without a key, and of one in which two values have changed places.
use Rattle.std.proofs.Common.{◌≡◌, ◌∙◌, ℕ, List, Bool, true, false, Option, Some, None, Ordering, Less, Equal, Greater, nat_cmp, is_eq, refl, ap, sym}
use Rattle.std.specs.Ordering.{match_ordering, ordering_reverse}
use Rattle.std.specs.Cmp.Lexicographic.{slice_cmp}
use Rattle.std.proofs.lemmas.Bool.{true≢false}
use Rattle.std.proofs.lemmas.Cmp.{nat_list_cmp_total}
use Rattle.toml.specs.Data.{Data, Members, get_member, member, no_members}
use Rattle.cqf_network_text.proofs.Puts.{put_apart, put_here}
use Rattle.cqf_program_without.specs.Links.{exchange, set_at, take_key}

-- the table lacks the key
pub take_here : (key : List ℕ) (members : Members) → get_member key (take_key key members) ≡ None
take_here key no_members = refl
take_here key (member other that more) = by (take_here key more) (slice_cmp nat_cmp key other) refl
  where
    by : get_member key (take_key key more) ≡ None → (o : Ordering) → slice_cmp nat_cmp key other ≡ o →
        get_member key (match_ordering o (member other that (take_key key more)) (take_key key more) (member other that (take_key key more))) ≡ None
    by rest Less is = ap (λ o. match_ordering o (get_member key (take_key key more)) (Some that) (get_member key (take_key key more))) is ∙ rest
    by rest Equal is = rest
    by rest Greater is = ap (λ o. match_ordering o (get_member key (take_key key more)) (Some that) (get_member key (take_key key more))) is ∙ rest

-- another key is passed over
past : (o : Ordering) (d : Data) (found : Option Data) → is_eq o ≡ false → match_ordering o found (Some d) found ≡ found
past Less d found other = refl
past Equal d found other = absurd (true≢false other)
past Greater d found other = refl

-- a key compares alike with two keys that are equal
as_far : (key a b : List ℕ) → slice_cmp nat_cmp a b ≡ Equal → slice_cmp nat_cmp key a ≡ slice_cmp nat_cmp key b
as_far key a b same =
    nat_list_cmp_total.antisymm key a ∙ ap ordering_reverse (nat_list_cmp_total.congr a b key same) ∙ sym (nat_list_cmp_total.antisymm key b)

-- at any other key
pub take_apart : (key other : List ℕ) (members : Members) → is_eq (slice_cmp nat_cmp key other) ≡ false →
    get_member key (take_key other members) ≡ get_member key members
take_apart key other no_members apart = refl
take_apart key other (member third that more) apart = by (take_apart key other more apart) (slice_cmp nat_cmp other third) refl
  where
    by : get_member key (take_key other more) ≡ get_member key more → (o : Ordering) → slice_cmp nat_cmp other third ≡ o →
        get_member key (match_ordering o (member third that (take_key other more)) (take_key other more) (member third that (take_key other more)))
        ≡ get_member key (member third that more)
    by rest Less is = ap (λ found. match_ordering (slice_cmp nat_cmp key third) found (Some that) found) rest
    by rest Equal is =
        let apart_third : is_eq (slice_cmp nat_cmp key third) ≡ false = sym (ap is_eq (as_far key other third is)) ∙ apart in
        rest ∙ sym (past (slice_cmp nat_cmp key third) that (get_member key more) apart_third)
    by rest Greater is = ap (λ found. match_ordering (slice_cmp nat_cmp key third) found (Some that) found) rest

-- a value that is put, or taken
pub set_here : (key : List ℕ) (found : Option Data) (members : Members) → get_member key (set_at key found members) ≡ found
set_here key None members = take_here key members
set_here key (Some d) members = put_here key d members

pub set_apart : (key other : List ℕ) (found : Option Data) (members : Members) → is_eq (slice_cmp nat_cmp key other) ≡ false →
    get_member key (set_at other found members) ≡ get_member key members
set_apart key other None members apart = take_apart key other members apart
set_apart key other (Some d) members apart = put_apart key other d members apart

-- two values that have changed places, and the others
pub exchange_first : (key other : List ℕ) (members : Members) → is_eq (slice_cmp nat_cmp key other) ≡ false →
    get_member key (exchange key other members) ≡ get_member other members
exchange_first key other members apart =
    set_apart key other (get_member key members) (set_at key (get_member other members) members) apart ∙ set_here key (get_member other members) members

pub exchange_second : (key other : List ℕ) (members : Members) → get_member other (exchange key other members) ≡ get_member key members
exchange_second key other members = set_here other (get_member key members) (set_at key (get_member other members) members)

pub exchange_apart : (third key other : List ℕ) (members : Members) → is_eq (slice_cmp nat_cmp third key) ≡ false →
    is_eq (slice_cmp nat_cmp third other) ≡ false → get_member third (exchange key other members) ≡ get_member third members
exchange_apart third key other members from_key from_other =
    set_apart third other (get_member key members) (set_at key (get_member other members) members) from_other
    ∙ set_apart third key (get_member other members) members from_key
