-- An event of another protocol leaves the part of ATP and ZIP as it was.
use Rattle.std.proofs.Common.{◌≡◌, false, refl, ℕ, arith}
use Rattle.std.specs.Prelude.{◌==◌}
use Rattle.std.proofs.lemmas.Bool.{true≢false}
use Rattle.at_ddp.specs.Protocols.{atp_kind}
use Rattle.at_zone_socket.specs.AtpParts.{AtpState}
use Rattle.at_event.specs.Kinds.{Speaker, Atp}
use Rattle.at_node.specs.Nodes.{NodeState, speaker_of}
use Rattle.at_session.specs.Sessions.{SessionState}
use Rattle.at_steps.specs.AtpHappenings.{is_atp}
use Rattle.at_steps.proofs.Foreign.{AreForeign, IsProtocol, others_events}
use Rattle.at_steps.proofs.Protocols.{take_part, type_of}

abbrev part : NodeState → AtpState
part n = n.atp

typed : (k : Speaker) → (type_of k == atp_kind) ≡ is_atp k
typed Atp = refl
typed other = refl

spoken : (other : ℕ) → (other == atp_kind) ≡ false → is_atp (speaker_of other) ≡ false
spoken other apart = grind arith

stays : (k : Speaker) → is_atp k ≡ false → (n now : NodeState) (s : SessionState)
    → part (record (take_part k n now) { session = s }) ≡ part n
stays Atp h n now s = absurd (true≢false h)
stays other h n now s = refl

protocol : IsProtocol is_atp atp_kind part
protocol = record { not_nobodys = refl; typed = typed; spoken = spoken; stays = stays }

pub others_are_foreign : (A : Type 0) → AreForeign A is_atp atp_kind part
others_are_foreign A = others_events AtpState is_atp atp_kind part protocol A
