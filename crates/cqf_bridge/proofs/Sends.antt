-- Ports that send a cycle one after the other.
use Rattle.std.proofs.Common.{◌≡◌, ◌+◌, ◌<◌, ℕ, List, [], ◌∷◌, ◌++◌, ◌∙◌, inl, inr, sym, ap, refl, arith, length, map}
use Rattle.std.proofs.Common.{flat_map, drop, get_or, set, Contains, append_assoc, append-nil, length-append, subst}
use Rattle.std.specs.List.{zip}
use Rattle.std.proofs.Math.Seq.{get_or-append_seam, set-append_seam}
use Rattle.std.proofs.lemmas.List.{drop_more, length-map, map-append}
use Rattle.std.proofs.lemmas.List.Elements.{Contains-append_cases}
use Rattle.std.proofs.lemmas.List.Concat.{flat_map-append}
use Rattle.std.proofs.lemmas.Slice.Zip.{length-zip}
use Rattle.cqf_lists.proofs.Members.{contains_cases, contains_none}
use Rattle.cqf_model.specs.declared.frames.Backed.{Backed}
use Rattle.cqf_model.specs.declared.frames.Started.{Started}
use Rattle.cqf_model.specs.Domain.{Domain}
use Rattle.cqf_model.specs.Port.{Transmission}
use Rattle.cqf_bridge.specs.Batch.{LinkBatch}
use Rattle.cqf_bridge.specs.PortRecord.{AreDemanded, PortRecord}
use Rattle.cqf_bridge.specs.BridgeState.{background_from, batch_from, end_of_cycle, port_after, port_with}
use Rattle.cqf_bridge.specs.Sending.{FirstSend, PortSends}

-- a list zipped with no elements
pub zip_none : {A B : Type 0} (xs : List A) → zip {K = A} {X = B} xs [] ≡ []
zip_none [] = refl
zip_none (x ∷ xs) = refl

-- one more element beside a longer list
pub zip_longer : {A B : Type 0} (xs : List A) (ys : List B) (y : B) (d : A) → length ys < length xs →
    zip xs (ys ++ y ∷ []) ≡ zip xs ys ++ (get_or xs (length ys) d, y) ∷ []
zip_longer [] ys y d less = absurd (omega (arith, less))
zip_longer {A} {B} (x ∷ xs) [] y d less = ap (λ (zs : List (A × B)). (x, y) ∷ zs) (zip_none xs)
zip_longer {A} {B} (x ∷ xs) (z ∷ ys) y d less = ap (λ (zs : List (A × B)). (x, z) ∷ zs) (zip_longer xs ys y d (omega (arith, less)))

module _ (d : Domain) (cycle : ℕ) (backed : List Backed) (before : List PortRecord) (given : List LinkBatch) (background : List Started) where
  -- at first none has sent
  pub none_sends : FirstSend d cycle backed 0 before before given given background background
  none_sends =
      let none : zip {K = PortRecord} {X = List Transmission} before [] ≡ [] = zip_none before in
      record {
        made = [];
        one_each = refl;
        demanded = λ x held. absurd (contains_none x (subst (λ (xs : List (PortRecord × List Transmission)). Contains xs x) none held));
        ports = ap (λ (xs : List (PortRecord × List Transmission)). map (port_after d cycle backed) xs ++ before) (sym none);
        batches = sym (append-nil given) ∙ ap (λ (xs : List (PortRecord × List Transmission)). given ++ map (batch_from cycle backed) xs) (sym none);
        others = sym (append-nil background) ∙ ap (λ (xs : List (PortRecord × List Transmission)). background ++ flat_map (background_from cycle backed) xs)
            (sym none);
      }

  module _ (count : ℕ) (now : List PortRecord) (batches : List LinkBatch) (others : List Started)
      (h : FirstSend d cycle backed count before now given batches background others) (inside : count < length before) where
    first_len : length (map (port_after d cycle backed) (zip before h.made)) ≡ count
    first_len = length-map (zip before h.made) (port_after d cycle backed) ∙ omega (arith, length-zip before h.made, h.one_each, inside)

    -- the next port hasn't sent
    pub next_port : (r : PortRecord) → now ≡ map (port_after d cycle backed) (zip before h.made) ++ get_or before count r ∷ drop (count + 1) before
    next_port r = h.ports ∙ ap (λ (xs : List PortRecord). map (port_after d cycle backed) (zip before h.made) ++ xs) (drop_more before count r inside)

    pub is_next : (r : PortRecord) → get_or now count r ≡ get_or before count r
    is_next r =
        ap (λ (xs : List PortRecord). get_or xs count r) (next_port r)
        ∙ ap (λ (n : ℕ). get_or (map (port_after d cycle backed) (zip before h.made) ++ get_or before count r ∷ drop (count + 1) before) n r) (sym first_len)
        ∙ get_or-append_seam (map (port_after d cycle backed) (zip before h.made)) (get_or before count r) (drop (count + 1) before) r

    -- it sends
    pub one_sends : (r after : PortRecord) (more : List LinkBatch) (following : List Started) → r ≡ get_or now count r →
        PortSends d cycle backed r after batches more others following →
        FirstSend d cycle backed (count + 1) before (set now count after) given more background following
    one_sends r after more following is sends =
        let same : r ≡ get_or before count r = is ∙ is_next r in
        let one : PortRecord × List Transmission = (r, sends.made) in
        let longer : zip before (h.made ++ sends.made ∷ []) ≡ zip before h.made ++ one ∷ [] =
        zip_longer before h.made sends.made r (omega (arith, h.one_each, inside))
        ∙ ap (λ (x : PortRecord). zip before h.made ++ (x, sends.made) ∷ []) (ap (λ (n : ℕ). get_or before n r) h.one_each ∙ sym same) in
        record {
          made = h.made ++ sends.made ∷ [];
          one_each = length-append h.made (sends.made ∷ []) ∙ ap (λ (n : ℕ). n + 1) h.one_each;
          demanded = λ x held. elim (Contains-append_cases (zip before h.made) (one ∷ []) x
              (subst (λ (xs : List (PortRecord × List Transmission)). Contains xs x) longer held)) [
                | inl old ↦ h.demanded x old
                | inr new ↦ elim (contains_cases one [] x new) [
                  | inl e ↦ subst (λ (y : PortRecord × List Transmission). AreDemanded (port_with backed y.0) (end_of_cycle d cycle) y.1) e sends.demanded
                  | inr never ↦ absurd (contains_none x never)
                ]
              ];
          ports =
              ap (λ (xs : List PortRecord). set xs count after) (next_port r)
              ∙ ap (λ (n : ℕ). set (map (port_after d cycle backed) (zip before h.made) ++ get_or before count r ∷ drop (count + 1) before) n after)
              (sym first_len)
              ∙ set-append_seam (map (port_after d cycle backed) (zip before h.made)) (get_or before count r) (drop (count + 1) before) after
              ∙ ap (λ (x : PortRecord). map (port_after d cycle backed) (zip before h.made) ++ x ∷ drop (count + 1) before) sends.port
              ∙ sym (append_assoc (map (port_after d cycle backed) (zip before h.made)) (port_after d cycle backed one ∷ []) (drop (count + 1) before))
              ∙ ap (λ (xs : List PortRecord). xs ++ drop (count + 1) before)
              (sym (map-append (port_after d cycle backed) (zip before h.made) (one ∷ [])) ∙ ap (map (port_after d cycle backed)) (sym longer));
          batches =
              sends.batches ∙ ap (λ (xs : List LinkBatch). xs ++ batch_from cycle backed one ∷ []) h.batches
              ∙ append_assoc given (map (batch_from cycle backed) (zip before h.made)) (batch_from cycle backed one ∷ [])
              ∙ ap (λ (xs : List LinkBatch). given ++ xs)
              (sym (map-append (batch_from cycle backed) (zip before h.made) (one ∷ [])) ∙ ap (map (batch_from cycle backed)) (sym longer));
          others =
              sends.others ∙ ap (λ (xs : List Started). xs ++ background_from cycle backed one) h.others
              ∙ append_assoc background (flat_map (background_from cycle backed) (zip before h.made)) (background_from cycle backed one)
              ∙ ap (λ (xs : List Started). background ++ xs)
              (sym (flat_map-append (background_from cycle backed) (zip before h.made) (one ∷ [])
              ∙ ap (λ (xs : List Started). flat_map (background_from cycle backed) (zip before h.made) ++ xs) (append-nil (background_from cycle backed one)))
              ∙ ap (flat_map (background_from cycle backed)) (sym longer));
        }

  -- all have sent
  pub all_send : (count : ℕ) (now : List PortRecord) (batches : List LinkBatch) (others : List Started) →
      FirstSend d cycle backed count before now given batches background others → count ≡ length before →
      FirstSend d cycle backed (length before) before now given batches background others
  all_send count now batches others h is = subst (λ (n : ℕ). FirstSend d cycle backed n before now given batches background others) is h
