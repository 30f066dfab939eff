use Rattle.std.proofs.Common.{◌≡◌, ◌∙◌, ◌+◌, List, length, refl, subst, sym, take}
use Rattle.std.proofs.lemmas.List.{take_all, take_more}
use Rattle.std.proofs.lemmas.Option.{slice_get_read}
use Rattle.cqf_model.specs.declared.topology.Hop.{Hop}
use Rattle.cqf_program_tc.specs.Rows.{indices_in}
use Rattle.cqf_program_tc.proofs.NotedRows.{AreUpTo, below_more, length-indices, up_to_more, up_to_none}
use Rattle.cqf_program_tc.proofs.rows.note_row.Goals as goal

pub loop-hop-init : goal.loop-hop-init
loop-hop-init c = up_to_none c.args.domain.now c.args.rows.now c.args.index (indices_in c.args.lists.now.items) c.requires.below

pub note_link-requires : goal.note_link-requires
note_link-requires c = sym (length-indices c.loop-hop.lists.items) ∙ c.loop-hop.invariant.one_each

pub loop-hop-preserved : goal.loop-hop-preserved
loop-hop-preserved c =
    let hops = c.as_slice-hops.result.now in
    let i = c.loop-hop.hop-index in
    up_to_more c.args.domain.now c.args.rows.now c.args.index (take i hops) (take (i + 1) hops) _ (indices_in c.loop-hop.lists.items)
    (indices_in c.note_link.new.lists.items) (take_more hops i _ c.loop-hop-test.true) c.in_ok-note_link.ensures c.loop-hop.invariant

pub returns : goal.returns
returns c =
    let rows = c.args.rows.now in
    let hops = c.as_slice-hops.result.now in
    let row = c.index-rows-index.result in
    let all : take c.loop-hop.hop-index hops ≡ row.tree.items = take_all c.loop-hop.hop-index hops c.loop-hop-test.false ∙ c.as_slice-hops.ensures.value in
    below_more c.args.domain.now rows c.args.index row (indices_in c.loop-hop.lists.items)
    (slice_get_read rows (length rows) c.args.index row refl c.requires.inside c.index-rows-index.is)
    (subst (λ (so_far : List Hop). AreUpTo c.args.domain.now rows c.args.index so_far (indices_in c.loop-hop.lists.items)) all c.loop-hop.invariant)
