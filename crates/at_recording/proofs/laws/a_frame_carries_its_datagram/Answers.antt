use Rattle.std.proofs.Common.{[], ◌++◌, append-nil, length, refl, subst}
use Rattle.at_frames.specs.Carries.{Carries}
use Rattle.at_frames.specs.EtherTalk.{ethertalk_header, ethertalk_load}
use Rattle.at_recording.specs.Frames.{carried, receiver, sender}
use Rattle.at_recording.proofs.RecordLemmas.{carried_len, receiver_len}
use Rattle.at_recording.proofs.laws.a_frame_carries_its_datagram.Goals as goal

pub returns : goal.returns
returns c = λ to bytes.
    let part = carried bytes in
    let a = receiver to in
    let b = sender bytes in
    subst (λ l. Carries 1 (ethertalk_header a b (length part) ++ l) (ethertalk_load a b part)) (append-nil part)
    (c.what_is_written_is_carried.ensures a b part [] (receiver_len to) refl (carried_len bytes))
