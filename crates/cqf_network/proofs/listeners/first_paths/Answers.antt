use Rattle.std.proofs.Common.{◌≡◌, ◌∙◌, ◌∷◌, ◌++◌, ◌+◌, [], List, ap, arith, get_or, length, map, ℕ, subst, sym, take}
use Rattle.std.proofs.lemmas.List.{length-map, map-append}
use Rattle.std.proofs.lemmas.Option.{slice_get-get_or}
use Rattle.arrayvec.specs.ArrayVec.{ArrayVec}
use Rattle.cqf_model.specs.declared.topology.Node.TheVariants.{Bridge}
use Rattle.cqf_network.specs.Listeners.{AreFirstPaths, IsFirstWithout}
use Rattle.cqf_network.specs.Paths.{has_room}
use Rattle.cqf_network.proofs.ListenerLemmas.{first_without, length_front, one_way_more}
use Rattle.cqf_network.proofs.listeners.first_paths.Goals as goal

pub returns-in-None-clause-fault : goal.returns-in-None-clause-fault
returns-in-None-clause-fault c =
    let links = c.args.room.links.now in
    let room = has_room c.args.room.left.now c.args.room.cost in
    let index = c.loop-station.station-index in
    let link_paths = map (λ (path : ArrayVec ℕ). path.items) c.loop-station.link_paths.items in
    let mapped : length link_paths ≡ length c.loop-station.link_paths.items = length-map c.loop-station.link_paths.items (λ (path : ArrayVec ℕ). path.items) in
    let so_many : c.len.result ≡ index =
    omega (
      arith,
      c.len.ensures,
      mapped,
      c.loop-station.invariant.one_each,
      length_front c.args.stations.now index (omega (arith, c.loop-station-test.true)),
    ) in
    subst (λ (k : ℕ). IsFirstWithout links room (Bridge c.args.from) c.args.stations.now k) (sym so_many)
    (first_without links room (Bridge c.args.from) c.args.stations.now link_paths index (get_or c.args.stations.now index 0)
    (slice_get-get_or c.args.stations.now index 0 c.loop-station-test.true) c.loop-station.invariant c.in-None.ensures)

pub loop-station-preserved : goal.loop-station-preserved
loop-station-preserved c =
    let links = c.args.room.links.now in
    let room = has_room c.args.room.left.now c.args.room.cost in
    let index = c.loop-station.station-index in
    let items = λ (path : ArrayVec ℕ). path.items in
    let whole : map items c.push.new.self.items ≡ map items c.loop-station.link_paths.items ++ c.in-Some.path.items ∷ [] =
    ap (map items) c.in_ok-push-in-Some.ensures.items ∙ map-append items c.loop-station.link_paths.items (c.in-Some.path ∷ []) in
    subst (λ (link_paths : List (List ℕ)). AreFirstPaths links room (Bridge c.args.from) (take (index + 1) c.args.stations.now) link_paths) (sym whole)
    (one_way_more links room (Bridge c.args.from) c.args.stations.now (map items c.loop-station.link_paths.items) index (get_or c.args.stations.now index 0)
    c.in-Some.path.items (slice_get-get_or c.args.stations.now index 0 c.loop-station-test.true) c.loop-station.invariant c.in-Some.ensures)
