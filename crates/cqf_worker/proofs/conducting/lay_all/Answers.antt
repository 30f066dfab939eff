use Rattle.cqf_worker.proofs.conducting.lay_all.Goals as goal

-- the workers are those of the domain
pub returns-clause-ok : goal.returns-clause-ok
returns-clause-ok c = record {
  many = c.in_ok-laid.ensures.count;
  workers = c.in_ok-laid.ensures.workers;
  may_work = c.in_ok-laid.ensures.may_work;
  wired = c.in_ok-laid.ensures.wired;
  tables = c.in_ok-laid.ensures.tables;
  nothing_put = c.in_ok-laid.ensures.nothing_put;
}
