-- A network whose ports start frames later than exact ports do is a loose one.
use Rattle.std.proofs.Common.{◌≡◌, ◌∙◌, ℕ, ◌+◌, ◌≤◌, ap, arith, refl}
use Rattle.cqf_units.specs.Timing.{ending_of, time_of}
use Rattle.cqf_model.specs.declared.frames.Sent.{Sent}
use Rattle.cqf_model.specs.Domain.{Domain, delay_of, octet_time_of}
use Rattle.cqf_model.specs.Loose.{ComesWithin, Slack}
use Rattle.cqf_model.specs.Policing.{whole_at}
use Rattle.cqf_laws_loose.specs.LagLaws.{ComesAfter, LaggingIsLoose, StartsWithin}

-- what is heard of a start that lags is within the bounds of the start of the exact port
comes_within : (d : Domain) (slack : Slack) (lag l : ℕ) (sent begun heard : Sent) → StartsWithin lag sent begun → ComesAfter d slack lag l begun heard →
    ComesWithin d slack l sent heard
comes_within d slack lag l sent begun heard starts comes =
    let own = time_of (sent.octets + 8) (octet_time_of d l) in
    let same : time_of (begun.octets + 8) (octet_time_of d l) ≡ own = ap (λ (n : ℕ). time_of (n + 8) (octet_time_of d l)) starts.octets in
    record {
      frame = comes.frame ∙ starts.frame;
      stream = comes.stream ∙ starts.stream;
      octets = comes.octets ∙ starts.octets;
      least = sooner (time_of (begun.octets + 8) (octet_time_of d l)) own (slack.least l) slack.sync same comes.least;
      shortest = sooner (time_of 72 (octet_time_of d l)) (time_of 72 (octet_time_of d l)) (slack.least l) slack.sync refl comes.shortest;
      most = later (time_of (begun.octets + 8) (octet_time_of d l)) own (delay_of d l) slack.sync same comes.most;
    }
  where
    sooner : (takes own least sync : ℕ) → takes ≡ own → begun.start.0 + takes + least ≤ whole_at d l heard + sync →
        sent.start.0 + own + least ≤ whole_at d l heard + sync
    sooner takes own least sync same first = omega (arith, same, first, starts.no_sooner)

    later : (takes own delay sync : ℕ) → takes ≡ own → whole_at d l heard + lag ≤ begun.start.0 + takes + delay + sync →
        whole_at d l heard ≤ sent.start.0 + own + delay + sync
    later takes own delay sync same last = omega (arith, same, last, starts.no_later)

-- the law
pub lagging_is_loose : LaggingIsLoose
lagging_is_loose run slack lag net heard is = record {
  goes = is.goes;
  noted = λ l sent. is.noted l (is.begun l sent);
  are = is.are;
  each = λ l sent is_link c.
      comes_within run.domain slack (lag l) l sent (is.begun l sent) (is.noted l (is.begun l sent)) (is.starts l sent is_link c) (is.each l sent is_link c);
}
