use Rattle.cqf_program_runs.proofs.deliveries.noted.Noted.over.Goals as goal

pub returns : goal.returns
returns c = λ whole. λ i. record {
  domain = c.args.planned.now.given.domain;
  cycles = c.args.cycles;
  offers = c.as_slice.ensures.value i;
  rows = c.as_slice-2.ensures.value i;
  edge_verdicts = c.as_slice-3.ensures.value i;
  due = record { requests = c.as_slice-4.ensures.value i; deadlines = c.as_slice-5.ensures.value i };
  dues = c.as_slice-6.ensures.value i;
  whole = whole;
}
