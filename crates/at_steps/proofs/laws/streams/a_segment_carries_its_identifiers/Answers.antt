use Rattle.at_steps.proofs.Protocols.Streams.Below.{ReadingLaws}
use Rattle.at_steps.proofs.Protocols.Streams.Carrying.{dest_carried, source_carried}
use Rattle.at_steps.proofs.laws.streams.a_segment_carries_its_identifiers.Goals as goal

pub returns : goal.returns
returns c =
    let datagrams = c.what_is_written_is_read.ensures in
    let segments = c.what_is_written_is_read-2.ensures in
    let laws : ReadingLaws =
    record {
      reads = datagrams.read;
      alone = datagrams.alone;
      spells = segments.read;
      fits = c.what_is_written_fits.ensures;
    } in
    record { source = source_carried laws; dest = dest_carried laws }
