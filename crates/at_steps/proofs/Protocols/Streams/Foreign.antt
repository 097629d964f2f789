-- An event of another protocol leaves the socket for streams as it was.
use Rattle.std.proofs.Common.{◌≡◌, false, refl, ℕ, arith}
use Rattle.std.specs.Prelude.{◌==◌}
use Rattle.std.proofs.lemmas.Bool.{true≢false}
use Rattle.at_ddp.specs.Protocols.{adsp_kind}
use Rattle.at_adsp_ends.specs.Tables.{EndTable}
use Rattle.at_event.specs.Kinds.{Speaker, Adsp}
use Rattle.at_node.specs.Nodes.{NodeState, speaker_of}
use Rattle.at_session.specs.Sessions.{SessionState}
use Rattle.at_steps.specs.StreamHappenings.{is_adsp}
use Rattle.at_steps.proofs.Foreign.{AreForeign, IsProtocol, others_events}
use Rattle.at_steps.proofs.Protocols.{take_part, type_of}

abbrev part : NodeState → EndTable
part n = n.streams

typed : (k : Speaker) → (type_of k == adsp_kind) ≡ is_adsp k
typed Adsp = refl
typed other = refl

spoken : (other : ℕ) → (other == adsp_kind) ≡ false → is_adsp (speaker_of other) ≡ false
spoken other apart = grind arith

stays : (k : Speaker) → is_adsp k ≡ false → (n now : NodeState) (s : SessionState)
    → part (record (take_part k n now) { session = s }) ≡ part n
stays Adsp h n now s = absurd (true≢false h)
stays other h n now s = refl

protocol : IsProtocol is_adsp adsp_kind part
protocol = record { not_nobodys = refl; typed = typed; spoken = spoken; stays = stays }

pub others_are_foreign : (A : Type 0) → AreForeign A is_adsp adsp_kind part
others_are_foreign A = others_events EndTable is_adsp adsp_kind part protocol A
