use Rattle.cqf_worker.proofs.closing.add_parts.Goals as goal

-- each part is appended to its list
pub returns : goal.returns
returns c = record {
  more_ins = c.in_ok-append.ensures;
  more_outs = c.in_ok-append-2.ensures;
  more_tables = c.in_ok-push.ensures.items;
  more_bridge_traces = c.in_ok-push-2.ensures.items;
}
