-- The first entries of a history, up to an index: their Seals, their withdrawals, and the streams that they admit.
use Rattle.std.proofs.Common.{◌≡◌, ℕ, ◌+◌, ◌<◌, ◌≤◌, Bool, true, false, cond, List, Option, Some, None, length, get_or, sym, refl, ap, ◌∙◌, inl, inr, arith}
use Rattle.std.proofs.Common.{subst, append-nil, length-append}
use std.Path.{fun_ext}
use Rattle.std.specs.Prelude.{[], ◌∷◌, ◌++◌, if◌then◌else◌, map, slice_get, take, zero, suc}
use Rattle.std.specs.Option.{option_map_or}
use Rattle.std.proofs.lemmas.Bool.{cases_lt}
use Rattle.std.proofs.lemmas.List.{get_or_append_left, get_or_at, length-take-le, take_all, take-take}
use Rattle.std.proofs.lemmas.List.Sums.{sum_by_push}
use Rattle.std.proofs.lemmas.Option.{same_Some}
use Rattle.cqf_units.specs.declared.reservations.Cycle.{Cycle}
use Rattle.cqf_model.specs.declared.history.Reply.{Reply}
use Rattle.cqf_model.specs.declared.history.Reply.TheVariants.{Accepted, Sealed, Refused as RefusedFor}
use Rattle.cqf_model.specs.declared.topology.Row.{Row}
use Rattle.cqf_model.specs.Domain.{Domain}
use Rattle.cqf_model.specs.History.{Act, Admits, Recorded, Seals, Withdraws, is_seal, seal_indices, seals, stream_by, streams_of, withdrawal_by, withdrawals}
use Rattle.cqf_lists.specs.Lists.{each_below}
use Rattle.cqf_lists.proofs.EachBelow.{map_below, same_below}
use Rattle.cqf_lists.proofs.Indices.{slice_get-take}

-- the number of Seals before an index
abbrev pub sealed_before : List Recorded → ℕ → ℕ
sealed_before entries index = seals (take index entries)

-- the withdrawals of a number by the entry at an index
abbrev pub withdrawn_at : List Recorded → ℕ → ℕ → List Cycle
withdrawn_at entries number index =
    option_map_or (λ (e : Recorded). withdrawal_by (seals (take index entries)) number e.act e.reply) (slice_get entries index) []

-- the stream that the entry at an index admits, as if no stream were ever withdrawn
abbrev pub admitted_at : Domain → List Recorded → ℕ → List Row
admitted_at d entries index = option_map_or (λ (e : Recorded). stream_by d [] (seals (take index entries)) e.act e.reply) (slice_get entries index) []

-- the first withdrawal of a number before an index
abbrev pub withdrawn_before : List Recorded → ℕ → ℕ → Option Cycle
withdrawn_before entries index number = slice_get (each_below (withdrawn_at entries number) index) 0

-- the streams admitted before an index
abbrev pub admitted_before : Domain → List Recorded → ℕ → List Row
admitted_before d entries index = each_below (admitted_at d entries) index

-- a row with the withdrawal of its number
abbrev pub with_end : (ℕ → Option Cycle) → Row → Row
with_end ends row = record { no = row.no; name = row.name; octets = row.octets; overhead = row.overhead; pace = row.pace; tree = row.tree; admitted = row.admitted; withdrawn = ends row.no }

-- the streams of an entry are those without withdrawals, each with the end that the withdrawals give it
stream_with_end : (d : Domain) (entries : List Recorded) (effect : ℕ) (act : Act) (reply : Reply) →
    stream_by d entries effect act reply ≡ map (with_end (λ number. slice_get (withdrawals entries number) 0)) (stream_by d [] effect act reply)
stream_with_end d entries effect (Withdraws name) reply = refl
stream_with_end d entries effect Seals reply = refl
stream_with_end d entries effect (Admits asked) (RefusedFor refused) = refl
stream_with_end d entries effect (Admits asked) Sealed = refl
stream_with_end d entries effect (Admits asked) (Accepted receipt) = refl

-- mapping what a list has at an index
mapped_at : (o : Option Recorded) (f g : Recorded → List Row) (m : Row → Row) → ((e : Recorded) → f e ≡ map m (g e)) →
    option_map_or f o [] ≡ map m (option_map_or g o [])
mapped_at None f g m h = refl
mapped_at (Some e) f g m h = h e

module _ (entries : List Recorded) (n : ℕ) (within : n ≤ length entries) where
  -- an entry among the first n ones is the same in the whole history
  in_front : {A : Type 0} (f : ℕ → Recorded → List A) (k : ℕ) → k < n →
      option_map_or (f (seals (take k (take n entries)))) (slice_get (take n entries) k) [] ≡ option_map_or (f (seals (take k entries)))
      (slice_get entries k) []
  in_front {A} f k h =
      let shorter : take k (take n entries) ≡ take k entries = take-take k n entries (omega (arith, h)) in
      ap (λ (o : Option Recorded). option_map_or (f (seals (take k (take n entries)))) o []) (slice_get-take entries n k h)
      ∙ ap (λ (xs : List Recorded). option_map_or (f (seals xs)) (slice_get entries k) []) shorter

  -- the first n entries are n
  count_front : length (take n entries) ≡ n
  count_front = length-take-le n entries within

  -- the withdrawals of the first entries
  pub withdrawals_front : (number : ℕ) → withdrawals (take n entries) number ≡ each_below (withdrawn_at entries number) n
  withdrawals_front number =
      ap (each_below (withdrawn_at (take n entries) number)) count_front
      ∙ same_below (withdrawn_at (take n entries) number) (withdrawn_at entries number) n
      (λ k h. in_front (λ (effect : ℕ) (e : Recorded). withdrawal_by effect number e.act e.reply) k h)

  -- the streams of the first entries: those that they admit, each with its withdrawal among them
  pub streams_front : (d : Domain) → streams_of d (take n entries) ≡ map (with_end (withdrawn_before entries n)) (admitted_before d entries n)
  streams_front d =
      let front = take n entries in
      let ends : ℕ → Option Cycle = λ number. slice_get (withdrawals front number) 0 in
      let found : ℕ → List Row = λ k. option_map_or (λ (e : Recorded). stream_by d front (seals (take k front)) e.act e.reply) (slice_get front k) [] in
      ap (each_below found) count_front
      ∙ same_below found (λ k. map (with_end (withdrawn_before entries n)) (admitted_at d entries k)) n (λ k h.
      in_front (λ (effect : ℕ) (e : Recorded). stream_by d front effect e.act e.reply) k h
      ∙ mapped_at (slice_get entries k) (λ e. stream_by d front (seals (take k entries)) e.act e.reply)
      (λ e. stream_by d [] (seals (take k entries)) e.act e.reply) (with_end (withdrawn_before entries n)) (λ e.
      stream_with_end d front (seals (take k entries)) e.act e.reply
      ∙ ap (λ (w : ℕ → Option Cycle). map (with_end w) (stream_by d [] (seals (take k entries)) e.act e.reply))
      (fun_ext (λ number. ap (λ (cycles : List Cycle). slice_get cycles 0) (withdrawals_front number)))))
      ∙ sym (map_below (with_end (withdrawn_before entries n)) (admitted_at d entries) n)

-- each index within a list has an element
pub entry_at : {X : Type 0} (xs : List X) (n : ℕ) → n < length xs → (x : X) × (slice_get xs n ≡ Some x)
entry_at [] n h = absurd (omega (arith, h))
entry_at (x ∷ xs) zero h = (x, refl)
entry_at (x ∷ xs) (suc n) h = entry_at xs n (omega (arith, h))

-- a prefix with one more element
take_entry : {X : Type 0} (xs : List X) (n : ℕ) (x : X) → slice_get xs n ≡ Some x → take (suc n) xs ≡ take n xs ++ x ∷ []
take_entry [] n x e = absurd cc
take_entry {X} (y ∷ xs) zero x e = ap (λ (z : X). z ∷ []) (same_Some y x e)
take_entry {X} (y ∷ xs) (suc n) x e = ap (λ (zs : List X). y ∷ zs) (take_entry xs n x e)

-- one more entry adds one Seal if it is a Seal
pub sealed-suc : (entries : List Recorded) (n : ℕ) (e : Recorded) → slice_get entries n ≡ Some e →
    sealed_before entries (suc n) ≡ sealed_before entries n + cond (is_seal e.act) 1 0
sealed-suc entries n e is =
    ap seals (take_entry entries n e is) ∙ sum_by_push (λ (x : Recorded). cond (is_seal x.act) 1 0) (take n entries) e

-- at least as many Seals precede a later index
pub sealed_more : (entries : List Recorded) (n m : ℕ) → n ≤ m → m ≤ length entries → sealed_before entries n ≤ sealed_before entries m
sealed_more entries n zero le within = let z : n ≡ 0 = omega (arith, le) in
    subst (λ (k : ℕ). sealed_before entries k ≤ sealed_before entries 0) (sym z) (omega arith)
sealed_more entries n (suc m) le within =
    elim (cases_lt m n) [
      | inl l ↦ let same : suc m ≡ n = omega (arith, l, le) in subst (λ (k : ℕ). sealed_before entries n ≤ sealed_before entries k) (sym same) (omega arith)
      | inr g ↦ let e = entry_at entries m (omega (arith, within)) in
          omega (arith, sealed_more entries n m g (omega (arith, within)), sealed-suc entries m e.0 e.1)
    ]

-- the Seal at this index closes the cycle
pub record SealAt (entries : List Recorded) (cycle index : ℕ) : Type 0 where
  pub inside : index < length entries
  pub entry : Recorded
  pub is : slice_get entries index ≡ Some entry
  pub seal : is_seal entry.act ≡ true
  pub before : sealed_before entries index ≡ cycle

-- the index of a Seal, and nothing for another entry
abbrev seal_listed : List Recorded → ℕ → List ℕ
seal_listed entries index = option_map_or (λ (e : Recorded). if is_seal e.act then index ∷ [] else []) (slice_get entries index) []

-- the indices of the Seals before an index
record SealIndices (entries : List Recorded) (n : ℕ) : Type 0 where
  count : length (each_below (seal_listed entries) n) ≡ sealed_before entries n
  each : (cycle d : ℕ) → cycle < sealed_before entries n → SealAt entries cycle (get_or (each_below (seal_listed entries) n) cycle d)

-- the same with one more entry
seal_indices_more : (entries : List Recorded) (n : ℕ) (e : Recorded) (b : Bool) → n < length entries → slice_get entries n ≡ Some e → is_seal e.act ≡ b →
    SealIndices entries n → SealIndices entries (suc n)
seal_indices_more entries n e true within is b r =
    let front = each_below (seal_listed entries) n in
    let listed : front ++ seal_listed entries n ≡ front ++ n ∷ [] =
    ap (λ (o : Option Recorded). front ++ option_map_or (λ (x : Recorded). if is_seal x.act then n ∷ [] else []) o []) is
    ∙ ap (λ (c : Bool). front ++ (if c then n ∷ [] else [])) b in
    let more : sealed_before entries (suc n) ≡ sealed_before entries n + 1 = sealed-suc entries n e is
    ∙ ap (λ (c : Bool). sealed_before entries n + cond c 1 0) b in
    record {
      count = ap length listed ∙ length-append front (n ∷ []) ∙ ap (λ (k : ℕ). k + 1) r.count ∙ sym more;
      each = λ cycle d h.
          subst (λ (xs : List ℕ). SealAt entries cycle (get_or xs cycle d)) (sym listed)
          (elim (cases_lt cycle (sealed_before entries n)) as (λ v. SealAt entries cycle (get_or (front ++ n ∷ []) cycle d)) [
            | inl l ↦ subst (λ (index : ℕ). SealAt entries cycle index) (sym (get_or_append_left front (n ∷ []) d cycle (omega (arith, l, r.count))))
                (r.each cycle d l)
            | inr g ↦ let last : cycle ≡ sealed_before entries n = omega (arith, g, h, more) in
                subst (λ (index : ℕ). SealAt entries cycle index) (sym (get_or_at front n [] d cycle (r.count ∙ sym last)))
                (record { inside = within; entry = e; is = is; seal = b; before = sym last })
          ]);
    }
seal_indices_more entries n e false h is b r =
    let front = each_below (seal_listed entries) n in
    let listed : front ++ seal_listed entries n ≡ front =
    ap (λ (o : Option Recorded). front ++ option_map_or (λ (x : Recorded). if is_seal x.act then n ∷ [] else []) o []) is
    ∙ ap (λ (c : Bool). front ++ (if c then n ∷ [] else [])) b ∙ append-nil front in
    let same : sealed_before entries (suc n) ≡ sealed_before entries n = sealed-suc entries n e is ∙ ap (λ (c : Bool). sealed_before entries n + cond c 1 0) b
    ∙ omega arith in
    record {
      count = ap length listed ∙ r.count ∙ sym same;
      each = λ cycle d h. subst (λ (xs : List ℕ). SealAt entries cycle (get_or xs cycle d)) (sym listed) (r.each cycle d (omega (arith, h, same)));
    }

-- the indices of the Seals before any index
seal_indices_are : (entries : List Recorded) (n : ℕ) → n ≤ length entries → SealIndices entries n
seal_indices_are entries zero h = record { count = refl; each = λ cycle d l. absurd (omega (arith, l)) }
seal_indices_are entries (suc n) h =
    let e = entry_at entries n (omega (arith, h)) in
    seal_indices_more entries n e.0 (is_seal e.0.act) (omega (arith, h)) e.1 refl (seal_indices_are entries n (omega (arith, h)))

-- the Seal that closed a cycle is at its index in the list of the Seals' indices
pub seal_at : (entries : List Recorded) (cycle : ℕ) → cycle < seals entries → SealAt entries cycle (get_or (seal_indices entries) cycle (length entries))
seal_at entries cycle h =
    let all : take (length entries) entries ≡ entries = take_all (length entries) entries (omega arith) in
    (seal_indices_are entries (length entries) (omega arith)).each cycle (length entries) (omega (arith, h, ap seals all))
