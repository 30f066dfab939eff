-- What a stream that is to be planned hands to an access link.
use Rattle.std.proofs.Common.{◌≡◌, ℕ, ◌<◌, ◌≤◌, Option, Some, ap, length, subst, sym}
use Rattle.std.specs.Option.{ForSome}
use Rattle.std.proofs.lemmas.Option.{same_Some}
use Rattle.cqf_traffic.specs.TrafficText.{TrafficText}
use Rattle.cqf_network.specs.NetworkDomain.{NetworkDomain}
use Rattle.cqf_network.specs.StreamsText.{StreamText}
use Rattle.cqf_edge.specs.declared.entrances.Entrance.{Entrance}
use Rattle.cqf_edge.specs.declared.entrances.Entrance.TheVariants.{ByAccess}
use Rattle.cqf_edge.specs.declared.uses.Handed.{Handed}
use Rattle.cqf_edge.specs.Edge.{IsWritten}
use Rattle.cqf_edge.specs.EdgeFlows.{IsHandedIn, IsHandedOne}
use Rattle.cqf_edge.specs.EdgeStreams.{IsEntranceOne, IsWrittenStream}
use Rattle.cqf_edge.specs.Uses.{handed_over}

-- the link is one of the network's, and the sizes, the jitter and the offset are in their ranges
pub is_handed : (network : NetworkDomain) (stream : StreamText) (entrance : Option Entrance) (index octets : ℕ) (h : Handed) → IsEntranceOne network entrance →
    IsWrittenStream stream → entrance ≡ Some (ByAccess index) → h ≡ handed_over network.overhead index octets stream.shortest stream.traffic → h.shortest ≤ h.octets →
    h.octets ≤ 1522 → IsHandedOne network (Some h)
is_handed network stream entrance index octets h inside written at is sizes longest x e =
    subst (IsHandedIn network) (same_Some h x e) (record {
      there = subst (λ (n : ℕ). n < length network.talkers) (sym (ap (λ (y : Handed). y.index) is)) (inside (ByAccess index) at);
      sizes = sizes;
      longest = longest;
      written = subst (λ (o : Option TrafficText). ForSome o IsWritten) (sym (ap (λ (y : Handed). y.traffic) is)) written;
    })
