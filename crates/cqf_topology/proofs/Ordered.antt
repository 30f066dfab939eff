-- What is read of a text's times is in its range, and a link's delays are in order.
use Rattle.std.proofs.Common.{◌≡◌, ◌≤◌, ℕ, List, Bool, true, false, cond, Option, Some, None, Result, Ok, Err, All, ok_or, refl, subst, arith}
use Rattle.std.specs.Option.{option_and_then, option_map, unwrap_or}
use Rattle.std.specs.Prelude.{IfSome}
use Rattle.toml.specs.Data.{Data, Items, Members, as_array, as_integer, as_table, item, no_items}
use Rattle.cqf_lists.specs.Results.{and_then}
use Rattle.cqf_model.specs.Limits.{longest_cycle, most_overhead}
use Rattle.cqf_topology.specs.declared.draft.DraftLink.{DraftLink}
use Rattle.cqf_topology.specs.declared.keys.Key.{Key}
use Rattle.cqf_topology.specs.declared.keys.Key.TheVariants.{GateOverhead, Sync, Links, From, To, Rate, Delay, Guard}
use Rattle.cqf_topology.specs.declared.times.LinkTimes.{LinkTimes}
use Rattle.cqf_topology.specs.declared.toml_faults.TomlFault.{TomlFault}
use Rattle.cqf_topology.specs.declared.toml_faults.TomlFault.TheVariants.{BadValue}
use Rattle.cqf_topology.specs.Fields.{are_tables, name_from, number_from, number_if, read_at, tables_from, tables_of_key, value_at, within_range}
use Rattle.cqf_topology.specs.DomainText.{link_read, overhead_from, sync_from}
use Rattle.cqf_topology.specs.LinkTimes.{AreReadTimes, delays_by, delays_from, delays_in_order, delays_of_two, rate_from, times_read}
use Rattle.cqf_topology.proofs.Refusals.{and_then-Ok, and_then-Some, each_from-All, number_if-range, ok_or-Ok, within_range-Some}

-- the range of a number that is 0 if its key is missing
zero_or-range : (key : Key) (most : ℕ) (table : Members) (number : ℕ) → and_then (number_if key 0 most table) (λ o. Ok (unwrap_or o 0)) ≡ Ok number →
    number ≤ most
zero_or-range key most table number h =
    let (found, read, rest) = and_then-Ok (number_if key 0 most table) _ number h in
    by found (number_if-range key 0 most table found read) rest
  where
    -- whether the key is there or not
    by : (o : Option ℕ) → IfSome o (λ n. (0 ≤ n) × (n ≤ most)) →
        ◌≡◌ {A = Result ℕ TomlFault} (Ok (unwrap_or o 0)) (Ok number) → number ≤ most
    by None range h = let same : 0 ≡ number = cc in subst (λ n. n ≤ most) same (omega arith)
    by (Some n) range h = let same : n ≡ number = cc in subst (λ n. n ≤ most) same range.1

-- how far clocks may be apart
pub sync-range : (table : Members) (sync : ℕ) → sync_from table ≡ Ok sync → sync ≤ longest_cycle
sync-range table sync h = zero_or-range Sync 10000000 table sync h

-- and how many octets of a frame gates may leave uncounted
pub overhead-range : (table : Members) (overhead : ℕ) → overhead_from table ≡ Ok overhead → overhead ≤ most_overhead
overhead-range table overhead h = zero_or-range GateOverhead 22 table overhead h

-- what a map of an option gives comes from a value of that option
map-Some : {A B : Type 0} (f : A → B) (o : Option A) (y : B) → option_map f o ≡ Some y → (x : A) × (o ≡ Some x) × (f x ≡ y)
map-Some f None y h = absurd (cc)
map-Some f (Some x) y h = (x, refl, cc)

-- what is known of two delays
abbrev InOrder : ℕ × ℕ → Type 0
InOrder delays = (delays.0 ≤ delays.1) × (delays.1 ≤ longest_cycle)

-- two delays are in order, and so is one that is both
pair-ordered : (a b : Data) (delays : ℕ × ℕ) → delays_in_order a b ≡ Some delays → InOrder delays
pair-ordered a b delays h =
    let (least, is_least, h1) = and_then-Some (λ least. option_map (λ most. (least, most)) (number_from least 10000000 b)) (number_from 0 10000000 a) delays h in
    let (most, is_most, is) = map-Some (λ most. (least, most)) (number_from least 10000000 b) delays h1 in
    let (z, integer, within) = and_then-Some (within_range least 10000000) (as_integer b) most is_most in
    subst InOrder is (within_range-Some least 10000000 z most within)

one-ordered : (d : Data) (delays : ℕ × ℕ) → option_map (λ n. (n, n)) (number_from 0 10000000 d) ≡ Some delays → InOrder delays
one-ordered d delays h =
    let (n, is_n, is) = map-Some (λ n. (n, n)) (number_from 0 10000000 d) delays h in
    let (z, integer, within) = and_then-Some (within_range 0 10000000) (as_integer d) n is_n in
    subst InOrder is (omega arith, (within_range-Some 0 10000000 z n within).1)

items-ordered : (items : Items) (delays : ℕ × ℕ) → delays_of_two items ≡ Some delays → InOrder delays
items-ordered no_items delays h = absurd (cc)
items-ordered (item a no_items) delays h = absurd (cc)
items-ordered (item a (item b no_items)) delays h = pair-ordered a b delays h
items-ordered (item a (item b (item c more))) delays h = absurd (cc)

delays-ordered : (d : Data) (delays : ℕ × ℕ) → delays_from d ≡ Some delays → InOrder delays
delays-ordered d delays h = by (as_array d) h
  where
    -- whether the value is an array or not
    by : (o : Option Items) → delays_by o d ≡ Some delays → InOrder delays
    by None h = one-ordered d delays h
    by (Some items) h = items-ordered items delays h

-- so are those of a link's table
pub times-read : (table : Members) (times : LinkTimes) → times_read table ≡ Ok times → AreReadTimes times
times-read table times h =
    let (rate, rate_is, h1) = and_then-Ok (read_at Rate rate_from table) _ times h in
    let (delays, delays_are, h2) = and_then-Ok (read_at Delay delays_from table) _ times h1 in
    let (guard, guard_is, h3) = and_then-Ok (number_if Guard 1 10000000 table) _ times h2 in
    let (d, at, from) = and_then-Some delays_from (value_at Delay table) delays
    (ok_or-Ok (option_and_then delays_from (value_at Delay table)) (BadValue Delay) delays delays_are) in
    let made : LinkTimes = record { rate = rate; delay = delays.1; least = delays.0; guard = guard } in
    let same : made ≡ times = cc in
    let ordered = delays-ordered d delays from in
    subst AreReadTimes same (record { ordered = ordered.0; delay_most = ordered.1 })

link-read : (table : Members) (link : DraftLink) → link_read table ≡ Ok link → AreReadTimes link.times
link-read table link h =
    let (from, from_is, h1) = and_then-Ok (read_at From name_from table) _ link h in
    let (to, to_is, h2) = and_then-Ok (read_at To name_from table) _ link h1 in
    let (times, times_are, h3) = and_then-Ok (times_read table) _ link h2 in
    let made : DraftLink = record { from = from; to = to; times = times } in
    let same : made ≡ link = cc in
    subst (λ (l : DraftLink). AreReadTimes l.times) same (times-read table times times_are)

-- and those of each link of a domain's table
pub links-read : (table : Members) (links : List DraftLink) → tables_of_key Links link_read table ≡ Ok links → All (λ (l : DraftLink). AreReadTimes l.times) links
links-read table links h = let (items, is, read) = and_then-Ok (read_at Links as_array table) _ links h in by items (are_tables items) read
  where
    -- a table that is read has them so
    element : (d : Data) (link : DraftLink) → and_then (ok_or (as_table d) (BadValue Links)) link_read ≡ Ok link → AreReadTimes link.times
    element d link h = let (table, is, read) = and_then-Ok (ok_or (as_table d) (BadValue Links)) link_read link h in link-read table link read

    -- whether all elements are tables or not
    by : (items : Items) (b : Bool) → cond b (tables_from Links link_read items) (Err (BadValue Links)) ≡ Ok links → All (λ (l : DraftLink). AreReadTimes l.times) links
    by items true read =
        each_from-All (λ (l : DraftLink). AreReadTimes l.times) (λ d. and_then (ok_or (as_table d) (BadValue Links)) link_read) element items links read
    by items false read = absurd (cc)
