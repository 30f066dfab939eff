use Rattle.std.proofs.Common.{◌≡◌, take, List, subst}
use Rattle.std.proofs.lemmas.List.{take_all, take_more}
use Rattle.cqf_lists.specs.ByNumber.{lists_of}
use Rattle.cqf_lists.proofs.ByNumber.{listed_by_key}
use Rattle.cqf_model.specs.declared.frames.Started.{Started}
use Rattle.cqf_report.specs.ByLink.{AreListsByLink}
use Rattle.cqf_report.proofs.links.octets_by_link.Goals as goal

pub loop-start-preserved : goal.loop-start-preserved
loop-start-preserved c =
    listed_by_key (λ (s : Started). s.link) (λ (s : Started). s.octets) (take c.loop-start.start-index c.args.starts.now) _ _ 65536
    (lists_of c.loop-start.by_link.items) (lists_of c.list_octets.new.by_link.items)
    (take_more c.args.starts.now c.loop-start.start-index _ c.loop-start-test.true) c.in_ok-list_octets.ensures c.loop-start.invariant

pub returns : goal.returns
returns c =
    let all : take c.loop-start.start-index c.args.starts.now ≡ c.args.starts.now =
    take_all c.loop-start.start-index c.args.starts.now c.loop-start-test.false in
    subst (λ (starts : List Started). AreListsByLink starts 65536 (lists_of c.loop-start.by_link.items)) all c.loop-start.invariant
