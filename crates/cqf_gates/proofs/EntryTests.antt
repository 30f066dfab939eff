-- Properties of a list's entries, from tests.
use Rattle.std.proofs.Common.{◌≡◌, ◌<◌, ◌≤◌, ◌==◌, ◌⊎◌, Bool, List, length, get_or, All, true, false, refl, inl, inr, arith}
use Rattle.std.specs.List.{list_any}
use Rattle.std.proofs.lemmas.List.Folds.{list_any_at}
use Rattle.std.proofs.lemmas.Bool.Decides.{eqb_tells}
use Rattle.cqf_model.specs.GateList.{Entry}
use Rattle.cqf_model.specs.declared.gates.StreamEntry.{StreamEntry}
use Rattle.cqf_gates.specs.StreamGate.{IsStreamList, is_bad_ipv}

-- a test that isn't true is false
fails_where_not : (b : Bool) → (b ≡ true → ⊥) → b ≡ false
fails_where_not true never = absurd (never refl)
fails_where_not false never = refl

-- if no element passes a test, each fails it
list_any-false : {X : Type 0} (xs : List X) (p : X → Bool) → list_any p xs ≡ false → All (λ x. p x ≡ false) xs
list_any-false xs p none k d inside = fails_where_not (p (get_or xs k d)) (λ passes. let some : list_any p xs ≡ true =
    list_any_at p xs k d inside passes in absurd (cc))

-- if no interval is 0, each is positive
pub lasting-from_test : (entries : List Entry) → list_any (λ (entry : Entry). entry.1 == 0) entries ≡ false → All (λ (entry : Entry). 0 < entry.1) entries
lasting-from_test entries none k d inside =
    elim (eqb_tells (get_or entries k d).1 0) [
      | inl zero_there ↦
          let some : list_any (λ (entry : Entry). entry.1 == 0) entries ≡ true =
          list_any_at (λ (entry : Entry). entry.1 == 0) entries k d inside zero_there.0 in
          absurd (cc)
      | inr longer ↦ omega arith
    ]

-- if no interval of a stream gate is 0, each is positive
pub stream_lasting-from_test : (entries : List StreamEntry) → list_any (λ (entry : StreamEntry). entry.interval == 0) entries ≡ false →
    All (λ (entry : StreamEntry). 0 < entry.interval) entries
stream_lasting-from_test entries none k d inside =
    elim (eqb_tells (get_or entries k d).interval 0) [
      | inl zero_there ↦
          let some : list_any (λ (entry : StreamEntry). entry.interval == 0) entries ≡ true =
          list_any_at (λ (entry : StreamEntry). entry.interval == 0) entries k d inside zero_there.0 in
          absurd (cc)
      | inr longer ↦ omega arith
    ]

-- if an internal priority value isn't bad, it is 6 or 7
valued-from_good : (entry : StreamEntry) → is_bad_ipv entry ≡ false → (entry.ipv ≡ 6) ⊎ (entry.ipv ≡ 7)
valued-from_good entry good =
    elim (eqb_tells entry.ipv 6) [
      | inl six ↦ inl six.1
      | inr other ↦ elim (eqb_tells entry.ipv 7) [
        | inl seven ↦ inr seven.1
        | inr bad ↦ let e : is_bad_ipv entry ≡ true = rw (other.0, bad.0) in absurd (cc)
      ]
    ]

-- if no entry has a bad value, each value is 6 or 7
pub valued-from_test : (entries : List StreamEntry) → list_any is_bad_ipv entries ≡ false →
    All (λ (entry : StreamEntry). (entry.ipv ≡ 6) ⊎ (entry.ipv ≡ 7)) entries
valued-from_test entries none k d inside = valued-from_good (get_or entries k d) (list_any-false entries is_bad_ipv none k d inside)

-- entries that pass the tests form a list
pub IsStreamList-from_tests : (entries : List StreamEntry) → 0 < length entries → length entries ≤ 16 →
    list_any (λ (entry : StreamEntry). entry.interval == 0) entries ≡ false → list_any is_bad_ipv entries ≡ false → IsStreamList entries
IsStreamList-from_tests entries some few no_zero no_bad = record {
  some = some;
  few = few;
  lasting = stream_lasting-from_test entries no_zero;
  valued = valued-from_test entries no_bad;
}
