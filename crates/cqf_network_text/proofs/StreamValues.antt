-- The value at each key of a stream's table.
use Rattle.std.proofs.Common.{◌≡◌, ◌∙◌, ℕ, pos, List, [], ◌∷◌, true, false, Option, Some, None, option_map, nat_cmp, is_eq, Ordering, Less, Equal, Greater, refl, sym}
use Rattle.std.specs.Ordering.{match_ordering}
use Rattle.std.specs.Cmp.Lexicographic.{slice_cmp}
use Rattle.std.proofs.lemmas.Bool.{true≢false}
use Rattle.toml.specs.Data.{Data, Members, get_member, integer, no_members, string}
use Rattle.cqf_topology.specs.declared.keys.Key.{Key}
use Rattle.cqf_topology.specs.declared.keys.Key.TheVariants.{Deadline, Every, Name, Octets, Path, Paths, Phase}
use Rattle.cqf_topology.specs.Fields.{key_text, value_at}
use Rattle.cqf_topology.specs.PacedText.{PacedText}
use Rattle.cqf_traffic.specs.declared.keys.TrafficKey.{TrafficKey}
use Rattle.cqf_traffic.specs.declared.keys.TrafficKey.TheVariants.{Interval, Frames, Size, Jitter, Offset}
use Rattle.cqf_traffic.specs.Keys.{key_text as traffic_key_text}
use Rattle.cqf_traffic.specs.TrafficText.{TrafficText, value_at as traffic_at}
use Rattle.cqf_network_text.specs.DomainMembers.{some_then, texts_data}
use Rattle.cqf_network_text.specs.StreamMembers.{branches_data, branches_then, every_written, members_by, number_of_traffic, phase_written, traffic_then}

-- the value at `path`, and at `paths`
abbrev pub path_data : List (List (List ℕ)) → Option Data
path_data [] = None
path_data (path ∷ []) = Some (texts_data path)
path_data (path ∷ other ∷ paths) = None

abbrev pub paths_data : List (List (List ℕ)) → Option Data
paths_data [] = Some (branches_data [])
paths_data (path ∷ []) = None
paths_data (path ∷ other ∷ paths) = Some (branches_data (path ∷ other ∷ paths))

abbrev pub number_data : ℕ → Data
number_data n = integer (pos n)

-- a table has a stream's values at its keys
pub record HasStream (table : Members) (request : PacedText) (deadline : Option ℕ) (traffic : Option TrafficText) : Type 0 where
  pub name_at : value_at Name table ≡ Some (string request.name)
  pub octets_at : value_at Octets table ≡ Some (number_data request.octets)
  pub every_at : value_at Every table ≡ option_map number_data (every_written request)
  pub phase_at : value_at Phase table ≡ option_map number_data (phase_written request)
  pub path_at : value_at Path table ≡ path_data request.paths
  pub paths_at : value_at Paths table ≡ paths_data request.paths
  pub deadline_at : value_at Deadline table ≡ option_map number_data deadline
  pub traffic_is : (key : TrafficKey) → traffic_at key table ≡ option_map (λ t. number_data (number_of_traffic key t)) traffic

-- another key is skipped
past : (o : Ordering) (d : Data) (found : Option Data) → is_eq o ≡ false → match_ordering o found (Some d) found ≡ found
past Less d found other = refl
past Equal d found other = absurd (true≢false other)
past Greater d found other = refl

past_some : (key : List ℕ) (at : Key) (number : Option ℕ) (more : Members) → is_eq (slice_cmp nat_cmp key (key_text at)) ≡ false
    → get_member key (some_then at number more) ≡ get_member key more
past_some key at None more other = refl
past_some key at (Some n) more other = past (slice_cmp nat_cmp key (key_text at)) (number_data n) (get_member key more) other

past_branches : (key : List ℕ) (paths : List (List (List ℕ))) (more : Members) → is_eq (slice_cmp nat_cmp key (key_text Path)) ≡ false
    → is_eq (slice_cmp nat_cmp key (key_text Paths)) ≡ false → get_member key (branches_then paths more) ≡ get_member key more
past_branches key [] more not_path not_paths = past (slice_cmp nat_cmp key (key_text Paths)) (branches_data []) (get_member key more) not_paths
past_branches key (path ∷ []) more not_path not_paths = past (slice_cmp nat_cmp key (key_text Path)) (texts_data path) (get_member key more) not_path
past_branches key (path ∷ other ∷ paths) more not_path not_paths =
    past (slice_cmp nat_cmp key (key_text Paths)) (branches_data (path ∷ other ∷ paths)) (get_member key more) not_paths

-- a key after the first ones is found past them; a key that isn't among the last ones isn't found there
past_front : (key : List ℕ) (deadline every : Option ℕ) (more : Members) → is_eq (slice_cmp nat_cmp key (key_text Deadline)) ≡ false
    → is_eq (slice_cmp nat_cmp key (key_text Every)) ≡ false
    → get_member key (some_then Deadline deadline (some_then Every every more)) ≡ get_member key more
past_front key deadline every more not_deadline not_every =
    past_some key Deadline deadline (some_then Every every more) not_deadline ∙ past_some key Every every more not_every

past_end : (key : List ℕ) (paths : List (List (List ℕ))) (phase : Option ℕ) (more : Members) → is_eq (slice_cmp nat_cmp key (key_text Path)) ≡ false
    → is_eq (slice_cmp nat_cmp key (key_text Paths)) ≡ false → is_eq (slice_cmp nat_cmp key (key_text Phase)) ≡ false
    → get_member key (branches_then paths (some_then Phase phase more)) ≡ get_member key more
past_end key paths phase more not_path not_paths not_phase =
    past_branches key paths (some_then Phase phase more) not_path not_paths ∙ past_some key Phase phase more not_phase

-- the branches are found
path_found : (paths : List (List (List ℕ))) (more : Members) → value_at Path more ≡ None → value_at Path (branches_then paths more) ≡ path_data paths
path_found [] more none = none
path_found (path ∷ []) more none = refl
path_found (path ∷ other ∷ paths) more none = none

paths_found : (paths : List (List (List ℕ))) (more : Members) → value_at Paths more ≡ None → value_at Paths (branches_then paths more) ≡ paths_data paths
paths_found [] more none = refl
paths_found (path ∷ []) more none = none
paths_found (path ∷ other ∷ paths) more none = refl

-- a number is found, if there is one
here : (o : Ordering) (d : Data) (found : Option Data) → is_eq o ≡ true → match_ordering o found (Some d) found ≡ Some d
here Less d found same = absurd (true≢false (sym same))
here Equal d found same = refl
here Greater d found same = absurd (true≢false (sym same))

some_found : (at : Key) (number : Option ℕ) (more : Members) → is_eq (slice_cmp nat_cmp (key_text at) (key_text at)) ≡ true
    → value_at at more ≡ None → value_at at (some_then at number more) ≡ option_map number_data number
some_found at None more same none = none
some_found at (Some n) more same none = here (slice_cmp nat_cmp (key_text at) (key_text at)) (number_data n) (value_at at more) same

-- the numbers of traffic: none without traffic, each with traffic
none_there : (request : PacedText) (deadline : Option ℕ) (key : TrafficKey) → traffic_at key (members_by request deadline None) ≡ None
none_there request deadline Interval =
    past_front (traffic_key_text Interval) deadline (every_written request) _ refl refl
    ∙ past_end (traffic_key_text Interval) request.paths (phase_written request) no_members refl refl refl
none_there request deadline Frames =
    past_front (traffic_key_text Frames) deadline (every_written request) _ refl refl
    ∙ past_end (traffic_key_text Frames) request.paths (phase_written request) no_members refl refl refl
none_there request deadline Size =
    past_front (traffic_key_text Size) deadline (every_written request) _ refl refl
    ∙ past_end (traffic_key_text Size) request.paths (phase_written request) no_members refl refl refl
none_there request deadline Jitter =
    past_front (traffic_key_text Jitter) deadline (every_written request) _ refl refl
    ∙ past_end (traffic_key_text Jitter) request.paths (phase_written request) no_members refl refl refl
none_there request deadline Offset =
    past_front (traffic_key_text Offset) deadline (every_written request) _ refl refl
    ∙ past_end (traffic_key_text Offset) request.paths (phase_written request) no_members refl refl refl

all_there : (request : PacedText) (deadline : Option ℕ) (t : TrafficText) (key : TrafficKey) →
    traffic_at key (members_by request deadline (Some t)) ≡ Some (number_data (number_of_traffic key t))
all_there request deadline t Interval = past_front (traffic_key_text Interval) deadline (every_written request) _ refl refl
all_there request deadline t Frames = past_front (traffic_key_text Frames) deadline (every_written request) _ refl refl
all_there request deadline t Size =
    past_front (traffic_key_text Size) deadline (every_written request) _ refl refl
    ∙ past_end (traffic_key_text Size) request.paths (phase_written request) (traffic_then Size t no_members) refl refl refl
all_there request deadline t Jitter = past_front (traffic_key_text Jitter) deadline (every_written request) _ refl refl
all_there request deadline t Offset = past_front (traffic_key_text Offset) deadline (every_written request) _ refl refl

-- a stream's table has its values
pub has_stream : (request : PacedText) (deadline : Option ℕ) (traffic : Option TrafficText) →
    HasStream (members_by request deadline traffic) request deadline traffic
has_stream request deadline None =
    let every = every_written request in
    let phase = phase_written request in
    let last : Members = no_members in
    record {
      name_at = past_front (key_text Name) deadline every _ refl refl;
      octets_at = past_front (key_text Octets) deadline every _ refl refl;
      every_at = past_some (key_text Every) Deadline deadline _ refl ∙ some_found Every every _ refl (past_end (key_text Every) request.paths phase last refl refl refl);
      phase_at =
          past_front (key_text Phase) deadline every _ refl refl ∙ past_branches (key_text Phase) request.paths (some_then Phase phase last) refl refl
          ∙ some_found Phase phase last refl refl;
      path_at =
          past_front (key_text Path) deadline every _ refl refl
          ∙ path_found request.paths (some_then Phase phase last) (past_some (key_text Path) Phase phase last refl);
      paths_at =
          past_front (key_text Paths) deadline every _ refl refl
          ∙ paths_found request.paths (some_then Phase phase last) (past_some (key_text Paths) Phase phase last refl);
      deadline_at =
          some_found Deadline deadline _ refl
          (past_some (key_text Deadline) Every every _ refl ∙ past_end (key_text Deadline) request.paths phase last refl refl refl);
      traffic_is = none_there request deadline;
    }
has_stream request deadline (Some t) =
    let every = every_written request in
    let phase = phase_written request in
    let last : Members = traffic_then Size t no_members in
    record {
      name_at = past_front (key_text Name) deadline every _ refl refl;
      octets_at = past_front (key_text Octets) deadline every _ refl refl;
      every_at = past_some (key_text Every) Deadline deadline _ refl ∙ some_found Every every _ refl (past_end (key_text Every) request.paths phase last refl refl refl);
      phase_at =
          past_front (key_text Phase) deadline every _ refl refl ∙ past_branches (key_text Phase) request.paths (some_then Phase phase last) refl refl
          ∙ some_found Phase phase last refl refl;
      path_at =
          past_front (key_text Path) deadline every _ refl refl
          ∙ path_found request.paths (some_then Phase phase last) (past_some (key_text Path) Phase phase last refl);
      paths_at =
          past_front (key_text Paths) deadline every _ refl refl
          ∙ paths_found request.paths (some_then Phase phase last) (past_some (key_text Paths) Phase phase last refl);
      deadline_at =
          some_found Deadline deadline _ refl
          (past_some (key_text Deadline) Every every _ refl ∙ past_end (key_text Deadline) request.paths phase last refl refl refl);
      traffic_is = all_there request deadline t;
    }
