-- An event of another protocol leaves the socket for names as it was.
use Rattle.std.proofs.Common.{◌≡◌, false, refl, ℕ, arith}
use Rattle.std.specs.Prelude.{◌==◌}
use Rattle.std.proofs.lemmas.Bool.{true≢false}
use Rattle.at_ddp.specs.Protocols.{nbp_kind}
use Rattle.at_name_socket.specs.NameSockets.{SocketState}
use Rattle.at_event.specs.Kinds.{Speaker, Nbp}
use Rattle.at_node.specs.Nodes.{NodeState, speaker_of}
use Rattle.at_session.specs.Sessions.{SessionState}
use Rattle.at_steps.specs.NameHappenings.{is_nbp}
use Rattle.at_steps.proofs.Foreign.{AreForeign, IsProtocol, others_events}
use Rattle.at_steps.proofs.Protocols.{take_part, type_of}

abbrev part : NodeState → SocketState
part n = n.names

typed : (k : Speaker) → (type_of k == nbp_kind) ≡ is_nbp k
typed Nbp = refl
typed other = refl

spoken : (other : ℕ) → (other == nbp_kind) ≡ false → is_nbp (speaker_of other) ≡ false
spoken other apart = grind arith

stays : (k : Speaker) → is_nbp k ≡ false → (n now : NodeState) (s : SessionState)
    → part (record (take_part k n now) { session = s }) ≡ part n
stays Nbp h n now s = absurd (true≢false h)
stays other h n now s = refl

protocol : IsProtocol is_nbp nbp_kind part
protocol = record { not_nobodys = refl; typed = typed; spoken = spoken; stays = stays }

pub others_are_foreign : (A : Type 0) → AreForeign A is_nbp nbp_kind part
others_are_foreign A = others_events SocketState is_nbp nbp_kind part protocol A
