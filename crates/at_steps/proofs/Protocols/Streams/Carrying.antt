-- What the datagram of a segment of the network is read as, and which identifiers it carries.
use Rattle.std.proofs.Common.{◌≡◌, inl, inr, ℕ, [], refl, subst, lit<}
use Rattle.std.proofs.lemmas.List.{append-nil}
use Rattle.at_ddp.specs.Datagram.{BeginsWith, canonical, written}
use Rattle.at_ddp.specs.Protocols.{adsp_kind}
use Rattle.at_adsp_frame.specs.Segments.{Open, Part, spelled}
use Rattle.at_adsp.specs.Lawfully.{IsLawfullySent}
use Rattle.at_adsp.specs.Network.{Sent, dest_of}
use Rattle.at_node.specs.Numbers.{Carries}
use Rattle.at_node.specs.declared.numbers.Draw.TheVariants.{Conn}
use Rattle.at_stream_socket.specs.Carrying as sockets
use Rattle.at_stream_socket.specs.Carrying.{Names}
use Rattle.at_steps.proofs.Protocols.Streams.Below.{ReadingLaws}

same_dest : (p : Part) → sockets.dest_of p ≡ dest_of p
same_dest (Open kind dest) = refl
same_dest other = refl

module _ (laws : ReadingLaws) (s : Sent) (ok : IsLawfullySent s) where
  pub datagram_begins : BeginsWith (canonical s.to s.from adsp_kind (spelled s.packet))
      (written s.to s.from adsp_kind (spelled s.packet)) []
  datagram_begins =
      let fits = laws.fits s.packet ok.lawful in
      subst (λ bytes. BeginsWith bytes (written s.to s.from adsp_kind (spelled s.packet)) [])
      (append-nil (canonical s.to s.from adsp_kind (spelled s.packet)))
      (laws.reads s.to s.from adsp_kind (spelled s.packet) [] ok.to_fits ok.from_fits (lit< tt) fits.0 fits.1)

  names_one : (node id : ℕ) → Names s.from s.to s.packet node id
      → Carries (canonical s.to s.from adsp_kind (spelled s.packet)) node (Conn id)
  names_one node id names = record {
    datagram = written s.to s.from adsp_kind (spelled s.packet);
    rest = [];
    begins = datagram_begins;
    number = (refl, record { segment = s.packet; spelled = laws.spells s.packet ok.lawful; names = names });
  }

  pub source_carried : ((s.packet.source ≡ 0) → ⊥)
      → Carries (canonical s.to s.from adsp_kind (spelled s.packet)) s.from.node (Conn s.packet.source)
  source_carried some = names_one s.from.node s.packet.source (some, inl (refl, refl))

  pub dest_carried : ((dest_of s.packet.body ≡ 0) → ⊥)
      → Carries (canonical s.to s.from adsp_kind (spelled s.packet)) s.to.node (Conn (dest_of s.packet.body))
  dest_carried some = names_one s.to.node (dest_of s.packet.body) (some, inr (refl, same_dest s.packet.body))
