-- What is reported for a plan's row holds for the frames of its stream.
use Rattle.std.proofs.Common.{◌≡◌, ◌≤◌, ◌∙◌, ℕ, List, [], ◌∷◌, fold, max, true, inl, inr, if◌then◌else◌, length, refl, sym, ap, subst, Contains}
use Rattle.std.specs.Prelude.{find}
use Rattle.std.proofs.lemmas.Option.{same_Some}
use Rattle.cqf_lists.proofs.Members.{contains_at, contains_cases, contains_none, find_member}
use Rattle.cqf_model.specs.declared.frames.Background.{Background}
use Rattle.cqf_model.specs.declared.frames.Offer.{Offer}
use Rattle.cqf_model.specs.declared.topology.Hop.{Hop}
use Rattle.cqf_model.specs.declared.topology.Row.{Row}
use Rattle.cqf_model.specs.Domain.{Domain, cycle_of, is_text}
use Rattle.cqf_model.specs.History.{Admits, Asked, IsLegalHistory, Recorded, held_in, is_pace, pace_of, reply_to, seals, tables_of, tree_of}
use Rattle.cqf_model.specs.HistoryBook.{run_of_history}
use Rattle.cqf_laws_history.specs.StateLaws.{with_entry}
use Rattle.cqf_model.specs.Shift.{InShift, offer_cycle}
use Rattle.cqf_lists.specs.Lists.{each_below}
use Rattle.cqf_model.specs.Limits.{most_every}
use Rattle.cqf_model.specs.Table.{IsHop, SameStream, table_of, uses}
use Rattle.cqf_model.specs.Policing.{whole_at}
use Rattle.cqf_model.proofs.Texts.{is_text_same}
use Rattle.cqf_laws_history.specs.HistoryLaws.{TablesAreOrderly}
use Rattle.cqf_laws_history.proofs.Granted.{granted as granted_parts}
use Rattle.cqf_laws_shift.proofs.Trees.{one_hop_number}
use Rattle.cqf_laws_timing.specs.Latency.{IsTimely, whole_of}
use Rattle.cqf_laws_timing.specs.LooseStreams.{LooseHistoryIsTimely}
use Rattle.cqf_laws_timing.specs.Streams.{AdmitsOnly, AreGranted, ArePaced, HistoryIsTimely, IsOfList, ListCostsItsTable, OneOfAName, RowsAreOfList, most_beside_all}
use Rattle.cqf_laws_timing.specs.Reported.{IsAsReportedAt, LooseReportedBoundsHold, NamesIdentifyStreams, ReportedBoundsHold, RowsArePlanned, planned_rows, reported_cost}
use Rattle.cqf_laws_timing.proofs.Kept.{timely_said}

-- rows of the same name are of the same stream
pub names_identify_streams : RowsArePlanned → RowsAreOfList → OneOfAName → NamesIdentifyStreams
names_identify_streams planned listed one d streams entries cycles cycle reported row granted only c k name =
    let p = planned d streams reported granted c in
    let l = listed d entries streams cycles cycle row only k in
    let names : p.asked.name ≡ l.asked.name = sym p.name ∙ name ∙ l.name in
    let first = one d streams p.asked granted (contains_at streams reported.no p.asked p.stands) in
    let second = one d streams l.asked granted l.listed in
    let same : p.asked ≡ l.asked =
    same_Some p.asked l.asked (sym first ∙ ap (λ (n : List ℕ). find (λ (other : Asked). is_text other.name n) streams) names ∙ second) in
    record {
      name = name;
      octets = p.octets ∙ ap (λ (a : Asked). a.octets) same ∙ sym l.octets;
      pace = p.pace ∙ ap pace_of same ∙ sym l.pace;
      tree = p.tree ∙ ap (λ (a : Asked). tree_of d a.paths) same ∙ sym l.tree;
    }

-- if all streams of a plan are admitted, they have valid paces
pub granted_paced : (d : Domain) (entries : List Recorded) (streams : List Asked) → AreGranted d entries streams → ArePaced streams
granted_paced d entries [] granted asked among = absurd (contains_none asked among)
granted_paced d entries (first ∷ streams) granted asked among = elim (contains_cases first streams asked among) [
  | inl here ↦ subst (λ (a : Asked). is_pace a.every a.phase ≡ true) here (granted_parts d (held_in d entries (seals entries)) first granted.0).pace
  | inr later ↦ granted_paced d (with_entry entries 0 (Admits first) (reply_to d entries (Admits first))) streams granted.1 asked later
]

-- what is reported at a hop of a plan's row, for a history that admits only the plan's streams
module _ (names : NamesIdentifyStreams) (orderly : TablesAreOrderly) (costs : ListCostsItsTable) (d : Domain) (streams : List Asked) (entries : List Recorded)
    (offers : List Offer) (background : List Background) (cycles : ℕ) (reported : Row) (hop : Hop) (granted : AreGranted d [] streams)
    (legal : IsLegalHistory d entries) (sealed : cycles ≤ seals entries) (only : AdmitsOnly streams entries) (c : Contains (planned_rows d streams) reported)
    (on : Contains reported.tree.items hop) where
  -- what is reported for the plan's row is the bound of its stream in the list
  bound : (row : Row) → SameStream reported row → (of : IsOfList d streams row) → (l : ℕ) → most_beside_all d streams of.asked l ≡ reported_cost d streams reported l
  bound row same of l =
      λ i. fold max 0 (each_below (λ k. if uses ((sym of.tree ∙ sym same.tree) i) ((sym of.pace ∙ sym same.pace) i) l k
      then sym (costs d streams l k granted) i ∷ [] else []) most_every)

  -- with the hop's numbers
  by_numbers : (P : ℕ → ℕ → ℕ → Type 0) (l k : ℕ) {cost : ℕ → ℕ} → l ≡ hop.link → k ≡ hop.hop_number → ((n : ℕ) → cost n ≡ reported_cost d streams reported n) →
      P l k (cost l) → P hop.link hop.hop_number (reported_cost d streams reported hop.link)
  by_numbers P l k {cost} link hop_number same said =
      subst (P hop.link hop.hop_number) (same hop.link)
      (subst (λ n. P hop.link n (cost hop.link)) hop_number (subst (λ n. P n k (cost n)) link said))

  -- a frame of the row's name that starts on the hop's link and is timely by the list is as reported
  pub as_reported : (frame link cycle : ℕ) → link ≡ hop.link →
      (shift : InShift (run_of_history d entries offers background cycles) (length (tables_of d entries cycles)) frame link cycle) →
      shift.x.offer.stream ≡ reported.name → (of : IsOfList d streams shift.row) → (whole : ℕ) →
      IsTimely d link shift.hop_number (most_beside_all d streams of.asked link) shift.x.offer.at.0 whole → IsAsReportedAt d streams reported hop shift.x.offer.at.0 whole
  as_reported frame link cycle is_link shift stream of whole time =
      let at = offer_cycle d shift.x in
      let table = table_of (tables_of d entries cycles) at in
      let member = find_member (λ (r : Row). is_text r.name shift.x.offer.stream) table shift.row shift.covered.named in
      let name : reported.name ≡ shift.row.name = sym stream ∙ sym (is_text_same shift.row.name shift.x.offer.stream member.1) in
      let same = names d streams entries cycles at reported shift.row granted only c member.0 name in
      let there : IsHop shift.row hop.hop_number link = record {
        hop = hop;
        of_tree = subst (λ z. Contains z hop) same.tree on;
        is_hop_number = refl;
        is_link = sym is_link;
      } in
      let hop_number : shift.hop_number ≡ hop.hop_number =
      one_hop_number d shift.row ((orderly d entries cycles legal sealed).trees at shift.row member.0) shift.hop_number hop.hop_number link shift.is_hop there in
      let from = shift.x.offer.at.0 in
      let timely = by_numbers (λ l k n. IsTimely d l k n from whole) link shift.hop_number is_link hop_number (bound shift.row same of) time in
      record { timely = timely; verdict = timely_said d hop.link hop.hop_number (reported_cost d streams reported hop.link) from whole timely }

-- each start is as reported
pub reported_holds : NamesIdentifyStreams → TablesAreOrderly → ListCostsItsTable → HistoryIsTimely → ReportedBoundsHold
reported_holds names orderly costs timely d streams entries offers background cycles book reported hop accepted granted legal only offered following is c on s among
    link shift stream =
    let paced = granted_paced d [] streams granted in
    let time = timely d entries offers background cycles book streams accepted legal offered following is only paced s among shift in
    as_reported names orderly costs d streams entries offers background cycles reported hop granted legal is.sealed only c on s.frame s.link s.cycle.0 link shift
    stream time.0 (whole_of d s) time.1

-- and so is each frame of a loose network
pub loose_reported_holds : NamesIdentifyStreams → TablesAreOrderly → ListCostsItsTable → LooseHistoryIsTimely → LooseReportedBoundsHold
loose_reported_holds names orderly costs timely d streams entries offers background cycles net heard reported hop granted only is c on sent h of shift stream =
    let paced = granted_paced d [] streams granted in
    let time = timely d entries offers background cycles streams net heard is only paced hop.link sent h of shift in
    as_reported names orderly costs d streams entries offers background cycles reported hop granted is.legal is.sealed only c on sent.frame hop.link
    (cycle_of d sent.start.0) refl shift stream time.0 (whole_at d hop.link h) time.1
