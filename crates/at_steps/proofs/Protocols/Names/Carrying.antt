-- What the datagram of a packet of the network is read as, and which identifier it carries.
use Rattle.std.proofs.Common.{◌≡◌, [], refl, subst, ap, lit<}
use Rattle.std.proofs.lemmas.List.{append-nil}
use Rattle.at_ddp.specs.Datagram.{BeginsWith as DatagramBegins, canonical, written}
use Rattle.at_ddp.specs.Protocols.{nbp_kind}
use Rattle.at_nbp.specs.Lawfully.{IsLawfullySent}
use Rattle.at_nbp.specs.Network.{Sent}
use Rattle.at_nbp.specs.Packets.{BeginsWith, spelling}
use Rattle.at_nbp.specs.declared.function.Function.TheVariants as function
use Rattle.at_name_socket.specs.Carrying.{owner_by}
use Rattle.at_node.specs.Numbers.{Carries}
use Rattle.at_node.specs.declared.numbers.Draw.TheVariants.{Lookup}
use Rattle.at_steps.proofs.Protocols.Names.Below.{ReadingLaws}

module _ (laws : ReadingLaws) (s : Sent) (ok : IsLawfullySent s) where
  -- the packet stands in the data alone
  pub packet_begins : BeginsWith (spelling s.packet) s.packet []
  packet_begins = subst (λ bytes. BeginsWith bytes s.packet []) (append-nil (spelling s.packet))
      (laws.begins s.packet [] ok.lawful)

  pub datagram_begins : DatagramBegins (canonical s.to s.from nbp_kind (spelling s.packet))
      (written s.to s.from nbp_kind (spelling s.packet)) []
  datagram_begins =
      subst (λ bytes. DatagramBegins bytes (written s.to s.from nbp_kind (spelling s.packet)) [])
      (append-nil (canonical s.to s.from nbp_kind (spelling s.packet)))
      (laws.reads s.to s.from nbp_kind (spelling s.packet) [] ok.to_fits ok.from_fits (lit< tt)
      (laws.bytes s.packet ok.lawful) ok.fits)

  pub reply_carries : s.packet.function ≡ function.Reply
      → Carries (canonical s.to s.from nbp_kind (spelling s.packet)) s.to.node (Lookup s.packet.id)
  reply_carries replies = record {
    datagram = written s.to s.from nbp_kind (spelling s.packet);
    rest = [];
    begins = datagram_begins;
    number = (
      refl,
      record {
        packet = s.packet;
        rest = [];
        begins = packet_begins;
        owner = ap (λ f. owner_by s.to f s.packet.tuples) replies;
        is = refl;
      },
    );
  }
