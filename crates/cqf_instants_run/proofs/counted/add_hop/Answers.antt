use Rattle.std.proofs.Common.{◌≡◌, ◌+◌, ◌<◌, ◌∙◌, ap, arith, get_or, length, set}
use Rattle.std.specs.Vec.{with_item}
use Rattle.std.proofs.lemmas.List.{get_or_default}
use Rattle.cqf_laws_coverage.specs.declared.column.Column.{Column}
use Rattle.cqf_instants_run.proofs.Adding.{adds_hop, frame_fits, octets_fit, own_octets}
use Rattle.cqf_instants_run.proofs.counted.add_hop.Goals as goal

pub overflow_add-column : goal.overflow_add-column
overflow_add-column c =
    let columns = c.args.columns.now.items in
    let d = c.index_mut-column.result.now in
    let is_link : c.args.link < length columns = omega (arith, c.if-index-len.true, c.from-index.ensures, c.len.ensures) in
    let old : d ≡ get_or columns c.args.link d = c.index_mut-column.ensures.value ∙ ap (λ k. get_or columns k d) c.from-index.ensures in
    omega (
      arith,
      frame_fits c.args.cycles columns c.args.link c.args.cycle c.args.octets is_link c.if-cycle-cycles.true c.requires.room d,
      ap (λ (z : Column). z.frames) old,
    )

pub index_mut-requires : goal.index_mut-requires
index_mut-requires c =
    let columns = c.args.columns.now.items in
    let d = c.index_mut-column.result.now in
    let is_link : c.args.link < length columns = omega (arith, c.if-index-len.true, c.from-index.ensures, c.len.ensures) in
    let old : d ≡ get_or columns c.args.link d = c.index_mut-column.ensures.value ∙ ap (λ k. get_or columns k d) c.from-index.ensures in
    omega (
      arith,
      c.requires.width c.if-cycle-cycles.true c.args.link is_link,
      ap length (own_octets c.args.cycles columns c.args.link c.args.cycle c.args.octets is_link c.if-cycle-cycles.true d),
      ap (λ (z : Column). length z.octets.items) old,
    )

pub overflow_add-index_mut : goal.overflow_add-index_mut
overflow_add-index_mut c =
    let columns = c.args.columns.now.items in
    let d = c.index_mut-column.result.now in
    let is_link : c.args.link < length columns = omega (arith, c.if-index-len.true, c.from-index.ensures, c.len.ensures) in
    let old : d ≡ get_or columns c.args.link d = c.index_mut-column.ensures.value ∙ ap (λ k. get_or columns k d) c.from-index.ensures in
    let inside : c.args.cycle < length d.octets.items =
    omega (
      arith,
      c.requires.width c.if-cycle-cycles.true c.args.link is_link,
      ap length (own_octets c.args.cycles columns c.args.link c.args.cycle c.args.octets is_link c.if-cycle-cycles.true d),
      ap (λ (z : Column). length z.octets.items) old,
    ) in
    omega (
      arith,
      octets_fit c.args.cycles columns c.args.link c.args.cycle c.args.octets is_link c.if-cycle-cycles.true c.requires.room d,
      ap (λ (z : Column). get_or z.octets.items c.args.cycle 0) old,
      c.index_mut.ensures.value,
      get_or_default d.octets.items c.args.cycle c.index_mut.result.now 0 inside,
    )

pub returns-then-index-len : goal.returns-then-index-len
returns-then-index-len c =
    let columns = c.args.columns.now.items in
    let link = c.args.link in
    let cycle = c.args.cycle in
    let d = c.index_mut-column.result.now in
    let is_link : link < length columns = omega (arith, c.if-index-len.true, c.from-index.ensures, c.len.ensures) in
    let old : d ≡ get_or columns link d = c.index_mut-column.ensures.value ∙ ap (λ k. get_or columns k d) c.from-index.ensures in
    let inside : cycle < length d.octets.items =
    omega (
      arith,
      c.requires.width c.if-cycle-cycles.true link is_link,
      ap length (own_octets c.args.cycles columns link cycle c.args.octets is_link c.if-cycle-cycles.true d),
      ap (λ (z : Column). length z.octets.items) old,
    ) in
    let cell : c.index_mut.result.now ≡ get_or d.octets.items cycle 0 =
    c.index_mut.ensures.value ∙ get_or_default d.octets.items cycle c.index_mut.result.now 0 inside in
    let new : Column = record { frames = d.frames + 1; octets = with_item d.octets cycle (c.index_mut.result.now + c.args.octets) } in
    adds_hop c.args.cycles columns link cycle c.args.octets is_link c.if-cycle-cycles.true d new (set columns c.from-index.result new)
    (ap (λ k. set columns k new) c.from-index.ensures)
    (omega (arith, inside, ap (λ (z : Column). length z.octets.items) old))
    (ap (λ (z : Column). z.frames + 1) old)
    (ap (λ n. set d.octets.items cycle (n + c.args.octets)) cell
    ∙ ap (λ (z : Column). set z.octets.items cycle (get_or z.octets.items cycle 0 + c.args.octets)) old)
