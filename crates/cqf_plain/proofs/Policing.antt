-- The frames of a cycle are policed at a bridge, one after the other, until one is lost.
use Rattle.std.proofs.Common.{◌≡◌, ℕ, ◌+◌, ◌≤◌, ◌<◌, ◌++◌, List, [], ◌∷◌, sym, refl, ap, ◌∙◌, inl}
use Rattle.std.proofs.Common.{inr, subst, length, get_or, take, drop, Contains}
use Rattle.std.specs.Prelude.{slice_get}
use Rattle.std.proofs.lemmas.List.{drop_more, take-append-drop, take_all, take_more}
use Rattle.std.proofs.lemmas.List.Elements.{Contains-append_cases, Contains-get_or}
use Rattle.std.proofs.Math.Seq.{take-append_seam}
use Rattle.cqf_lists.proofs.Members.{contains_none, contains_one}
use Rattle.cqf_lists.proofs.Indices.{slice_get_after}
use Rattle.cqf_model.specs.declared.topology.Row.{Row}
use Rattle.cqf_model.specs.Domain.{Domain}
use Rattle.cqf_model.specs.Network.{IsLoss}
use Rattle.cqf_model.specs.Table.{table_of}
use Rattle.cqf_model.specs.Policing.{Policed, Received, police, police_all}
use Rattle.cqf_model.proofs.Policing.{police_more}
use Rattle.cqf_bridge.specs.declared.cycle_gate.KeptGate.{KeptGate}
use Rattle.cqf_bridge.specs.Gates.{HaveCounted}
use Rattle.cqf_plain.specs.Losing.{IsFirstLost, NoneIsLost}

-- frames that were policed and aren't lost: the gates have counted them
pub record IsPolicing (d : Domain) (bridge cycle : ℕ) (rows : List Row) (frames : List Received) (count : ℕ) (gates : List KeptGate) : Type 0 where
  pub counted : (tables : List (List Row)) → table_of tables cycle ≡ rows →
      HaveCounted d cycle (police_all d tables bridge [] (take count frames)) gates
  pub none_lost : (tables : List (List Row)) → table_of tables cycle ≡ rows → NoneIsLost (police_all d tables bridge [] (take count frames))

module _ (d : Domain) (bridge cycle : ℕ) (rows : List Row) (frames : List Received) where
  -- at first none is policed
  pub policing_none : (gates : List KeptGate) → gates ≡ [] → IsPolicing d bridge cycle rows frames 0 gates
  policing_none gates none = record {
    counted = λ tables table. subst (HaveCounted d cycle []) (sym none) (λ number. refl);
    none_lost = λ tables table p held. absurd (contains_none p held);
  }

  module _ (count : ℕ) (gates : List KeptGate) (h : IsPolicing d bridge cycle rows frames count gates) where
    module _ (inside : count < length frames) (x : Received) (is : x ≡ get_or frames count x) where
      -- the next is one of them
      pub among : Contains frames x
      among = subst (Contains frames) (sym is) (Contains-get_or frames count x inside)

      front_more : take (count + 1) frames ≡ take count frames ++ x ∷ []
      front_more = take_more frames count x inside ∙ ap (λ (z : Received). take count frames ++ z ∷ []) (sym is)

      module _ (tables : List (List Row)) where
        -- the verdicts on those before
        abbrev done : List Policed
        done = police_all d tables bridge [] (take count frames)

        -- and on the next
        abbrev next : Policed
        next = police d tables bridge done x

        done_more : police_all d tables bridge [] (take (count + 1) frames) ≡ done ++ next ∷ []
        done_more = ap (police_all d tables bridge []) front_more ∙ police_more d tables bridge [] (take count frames) (x ∷ [])

        -- the verdicts on all
        abbrev rest : List Policed
        rest = police_all d tables bridge (done ++ next ∷ []) (drop (count + 1) frames)

        parts : police_all d tables bridge [] frames ≡ done ++ next ∷ rest
        parts =
            ap (police_all d tables bridge []) (sym (take-append-drop count frames) ∙ ap (λ (ys : List Received). take count frames ++ ys)
            (drop_more frames count x inside ∙ ap (λ (z : Received). z ∷ drop (count + 1) frames) (sym is)))
            ∙ police_more d tables bridge [] (take count frames) (x ∷ drop (count + 1) frames)

      module _ (gates_after : List KeptGate)
          (counts : (tables : List (List Row)) (policed : List Policed) → table_of tables cycle ≡ rows → HaveCounted d cycle policed gates →
          HaveCounted d cycle (policed ++ police d tables bridge policed x ∷ []) gates_after) where
        -- the next isn't lost
        pub policing_more : ((tables : List (List Row)) (policed : List Policed) → table_of tables cycle ≡ rows → HaveCounted d cycle policed gates →
            ¬ IsLoss (police d tables bridge policed x).verdict) →
            IsPolicing d bridge cycle rows frames (count + 1) gates_after
        policing_more not_lost = record {
          counted = λ tables table.
              subst (λ (ps : List Policed). HaveCounted d cycle ps gates_after) (sym (done_more tables))
              (counts tables (done tables) table (h.counted tables table));
          none_lost = λ tables table p held. elim (Contains-append_cases (done tables) (next tables ∷ []) p
              (subst (λ (ps : List Policed). Contains ps p) (done_more tables) held)) [
                | inl before ↦ h.none_lost tables table p before
                | inr last ↦
                    subst (λ (q : Policed). ¬ IsLoss q.verdict) (contains_one (next tables) p last)
                    (not_lost tables (done tables) table (h.counted tables table))
              ];
        }

      -- or it is the first that is lost
      pub policing_stops :
          ((tables : List (List Row)) (policed : List Policed) → table_of tables cycle ≡ rows → HaveCounted d cycle policed gates →
          IsLoss (police d tables bridge policed x).verdict) →
          (tables : List (List Row)) → table_of tables cycle ≡ rows → IsFirstLost (police_all d tables bridge [] frames) x.frame
      policing_stops lost tables table =
          record {
            x = next tables;
            first = record {
              index = length (done tables);
              there = ap (λ (ps : List Policed). slice_get ps (length (done tables))) (parts tables)
                  ∙ slice_get_after (done tables) (next tables) (rest tables) (length (done tables)) refl;
              lost = lost tables (done tables) table (h.counted tables table);
              before = λ p held. h.none_lost tables table p
                  (subst (λ (ps : List Policed). Contains ps p)
                  (ap (take (length (done tables))) (parts tables) ∙ take-append_seam (done tables) (next tables ∷ rest tables)) held);
            };
            is_frame = refl;
          }

    -- in the end none is lost
    pub policing_all : length frames ≤ count → (tables : List (List Row)) → table_of tables cycle ≡ rows → NoneIsLost (police_all d tables bridge [] frames)
    policing_all past tables table =
        subst (λ (ys : List Received). NoneIsLost (police_all d tables bridge [] ys)) (take_all count frames past) (h.none_lost tables table)

-- what is policed in a cycle is counted in it, if the cycle is given by an equal number
pub counted_so : (d : Domain) (bridge cycle own : ℕ) (rows : List Row) (x : Received) (gates gates_after : List KeptGate) → own ≡ cycle →
    ((tables : List (List Row)) (policed : List Policed) → table_of tables own ≡ rows → HaveCounted d own policed gates →
    HaveCounted d own (policed ++ police d tables bridge policed x ∷ []) gates_after) →
    (tables : List (List Row)) (policed : List Policed) → table_of tables cycle ≡ rows → HaveCounted d cycle policed gates →
    HaveCounted d cycle (policed ++ police d tables bridge policed x ∷ []) gates_after
counted_so d bridge cycle own rows x gates gates_after same counts tables policed table counted =
    subst (λ (n : ℕ). HaveCounted d n (policed ++ police d tables bridge policed x ∷ []) gates_after) same
    (counts tables policed (ap (table_of tables) same ∙ table)
    (subst (λ (n : ℕ). HaveCounted d n policed gates) (sym same) counted))
