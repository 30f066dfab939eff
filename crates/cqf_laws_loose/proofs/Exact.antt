-- The exact network is a loose one.
use Rattle.std.proofs.Common.{ℕ, ◌+◌, ◌<◌, ◌≤◌, arith, refl, sym, length, Contains, map-id}
use Rattle.std.proofs.lemmas.List.Elements.{All-contains}
use Rattle.cqf_units.proofs.Times.{time_grows}
use Rattle.cqf_model.specs.declared.frames.Sent.{Sent}
use Rattle.cqf_model.specs.Domain.{Domain, bridge_of, delay_of, octet_time_of}
use Rattle.cqf_model.specs.Loose.{ComesWithin, Slack, slack_of}
use Rattle.cqf_model.proofs.Links.{accepted_with, least_within}
use Rattle.cqf_model.specs.Run.{Run, end_of_run}
use Rattle.cqf_model.specs.Policing.{Carried, Policed}
use Rattle.cqf_laws_shift.specs.Alone.{IsRunAs}
use Rattle.cqf_laws_shift.proofs.Came.{policed}
use Rattle.cqf_laws_shift.proofs.CycleLaws.{CycleLaws}
use Rattle.cqf_laws_shift.proofs.Fed.{least}
use Rattle.cqf_laws_shift.proofs.Runs.{fed}
use Rattle.cqf_laws_shift.proofs.RunsBeside.{run_beside_is_run_alone}
use Rattle.cqf_laws_loose.specs.LooseLaws.{ExactHasItsSlack, ExactIsLoose}

-- no link sends a frame that is shorter than Ethernet's shortest
pub sent_least : (laws : CycleLaws) (run : Run) (carried : Carried) {heard : Carried} (alone : IsRunAs run carried heard) (link : ℕ) (sent : Sent) →
    link < length run.domain.links → Contains (carried link) sent → 64 ≤ sent.octets
sent_least laws run carried {heard} alone link sent is_link c =
    let s = (fed laws run carried alone link is_link sent c).0 in
    let enough = All-contains (λ (p : Policed). 64 ≤ p.received.octets) (policed run heard (end_of_run run) (bridge_of run.domain link)) s.p
    (least laws run heard alone.planned alone.meets (fed laws run carried alone) (bridge_of run.domain link)) s.inside in
    omega (arith, enough, s.octets)

-- what is sent arrives within the bounds
comes_within : (d : Domain) (slack : Slack) (l : ℕ) (sent : Sent) → 64 ≤ sent.octets → slack.least l ≤ delay_of d l → ComesWithin d slack l sent sent
comes_within d slack l sent long short =
    let more = time_grows 72 (sent.octets + 8) (octet_time_of d l) (omega (arith, long)) in
    record {
      frame = refl;
      stream = refl;
      octets = refl;
      least = omega (arith, short);
      shortest = omega (arith, short, more);
      most = omega arith;
    }

-- the law
pub exact_is_loose : CycleLaws → ExactIsLoose
exact_is_loose laws run slack net legal accepted short =
    let alone = run_beside_is_run_alone laws run net legal in
    record {
      accepted = accepted;
      orderly = legal.orderly;
      offered = legal.offered;
      background = legal.background;
      loose = record {
        goes = legal.legal;
        noted = λ l sent. sent;
        are = λ l. sym (map-id (net.carried l));
        each = λ l sent is_link c. comes_within run.domain slack l sent (sent_least laws run net.carried alone l sent is_link c) (short l);
      };
    }

-- the law
pub exact_has_its_slack : CycleLaws → ExactHasItsSlack
exact_has_its_slack laws run net legal =
    exact_is_loose laws run (slack_of run.domain) net legal (accepted_with run.domain legal.accepted) (λ l. least_within run.domain l legal.accepted)
