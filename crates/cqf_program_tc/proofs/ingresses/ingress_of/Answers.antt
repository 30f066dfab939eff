use Rattle.std.proofs.Common.{◌∙◌, Bool, Some, ap, option_map, sym}
use Rattle.cqf_model.specs.declared.topology.Hop.{Hop}
use Rattle.cqf_program_tc.specs.Bridge.{is_new}
use Rattle.cqf_program_tc.proofs.Streams.{new_where_unseen, seen_more}
use Rattle.cqf_program_tc.proofs.ingresses.ingress_of.Goals as goal

pub returns : goal.returns
returns c =
    let d = c.args.domain.now in
    let bridge = c.args.bridge in
    let row = c.args.row.now in
    let hop = c.in_ok-hop.hop in
    let there = sym c.first_hop.ensures ∙ c.in_ok-hop.was in
    record {
      ingress = λ before now.
          ap (λ (new : Bool). Some (hop.from, new)) (c.is_unseen-is_new.ensures.value ∙ new_where_unseen d bridge before row c.args.seen.now
          now hop.from c.is_unseen-is_new.ensures.range)
          ∙ sym (ap (option_map (λ (h : Hop). (h.from, is_new d bridge before h.from))) there);
      noted = λ before now. seen_more d bridge before row c.args.seen.now now hop c.note.new.seen there c.note.ensures;
    }
