-- The calls that a follower makes.
use Rattle.std.proofs.Common.{◌≡◌, ℕ, ◌+◌, ◌<◌, ◌≤◌, List, [], ◌∷◌, ◌++◌, map, length, take, drop, get_or, refl, ap, sym, ◌∙◌, subst}
use Rattle.std.proofs.lemmas.List.{append-nil, append_assoc, drop-map, length-map, take_all}
use Rattle.cqf_model.specs.History.{Recorded}
use Rattle.cqf_admission.specs.declared.entries.Entry.{Entry}
use Rattle.cqf_admission.specs.Admission.{recorded_of}
use Rattle.cqf_desk.specs.Again.{FollowerGoesOn}
use Rattle.cqf_desk.specs.declared.following.Follower.{Follower}
use Rattle.cqf_desk.specs.Following.{HasMade, KeepsTables}
use Rattle.cqf_desk.proofs.Rests.{one_more}

-- a follower has made the first of these calls, and none of them is a Seal of the seat
pub record HasPassed (old new : Follower) (others : List Entry) (number k : ℕ) : Type 0 where
  pub keeps : KeepsTables old new number
  pub made : HasMade old new (map recorded_of (take k others))

-- one call is made if the admission continues with it
pub makes_one : (old new : Follower) (e : Recorded) → new.first ≡ old.first → FollowerGoesOn old.admission new.admission e → HasMade old new (e ∷ [])
makes_one old new e same goes = record { first = same; domain = goes.domain; entries = goes.entries }

-- calls, followed by others
makes_more : (old mid new : Follower) (calls more : List Recorded) → HasMade old mid calls → HasMade mid new more → HasMade old new (calls ++ more)
makes_more old mid new calls more made then = record {
  first = then.first ∙ made.first;
  domain = then.domain ∙ made.domain;
  entries = then.entries ∙ ap (λ es. es ++ more) made.entries ∙ append_assoc old.admission.entries calls more;
}

-- one more call
pub passes_one : (old mid new : Follower) (others : List Entry) (number k : ℕ) (e : Entry) → HasPassed old mid others number k → k < length others →
    e ≡ get_or others k e → KeepsTables mid new number → HasMade mid new (recorded_of e ∷ []) → HasPassed old new others number (k + 1)
passes_one old mid new others number k e passed inside is keeps made = record {
  keeps = λ tables has. keeps tables (passed.keeps tables has);
  made = subst (HasMade old new) (sym (one_more recorded_of others k e inside is))
      (makes_more old mid new (map recorded_of (take k others)) (recorded_of e ∷ []) passed.made made);
}

-- all of them
pub passes_through : (old new : Follower) (others : List Entry) (number k : ℕ) → HasPassed old new others number k → length others ≤ k →
    KeepsTables old new number × HasMade old new (map recorded_of others)
passes_through old new others number k passed through =
    (passed.keeps, subst (λ (xs : List Entry). HasMade old new (map recorded_of xs)) (take_all k others through) passed.made)

-- none yet
pub passes_none : (f : Follower) (others : List Entry) (number : ℕ) → HasPassed f f others number 0
passes_none f others number = record {
  keeps = λ tables has. has;
  made = record { first = refl; domain = refl; entries = sym (append-nil f.admission.entries) };
}

-- the calls after those that were made
pub rest_of : (f : Follower) (history done rest : List Entry) → map recorded_of done ≡ f.admission.entries → rest ≡ drop (length done) history →
    map recorded_of rest ≡ drop (length f.admission.entries) (map recorded_of history)
rest_of f history done rest is following =
    let many : length done ≡ length f.admission.entries = sym (length-map done recorded_of) ∙ ap length is in
    ap (map recorded_of) following ∙ sym (drop-map recorded_of (length done) history) ∙ ap (λ (n : ℕ). drop n (map recorded_of history)) many
