use Rattle.at_steps.proofs.Protocols.Names.Below.{ReadingLaws}
use Rattle.at_steps.proofs.Protocols.Names.Carrying.{reply_carries}
use Rattle.at_steps.proofs.laws.names.a_reply_carries_its_identifier.Goals as goal

pub returns : goal.returns
returns c =
    let datagrams = c.what_is_written_is_read.ensures in
    let packets = c.what_is_written_is_read-2.ensures in
    let laws : ReadingLaws =
    record { reads = datagrams.read; alone = datagrams.alone; bytes = packets.bytes; begins = packets.read } in
    reply_carries laws
