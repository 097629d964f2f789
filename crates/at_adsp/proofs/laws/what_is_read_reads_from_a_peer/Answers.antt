use Rattle.at_adsp.proofs.Sources.{reads_with}
use Rattle.at_adsp.proofs.laws.what_is_read_reads_from_a_peer.Goals as goal

pub returns : goal.returns
returns c setting history at id count d timely here reads in_order =
    reads_with setting history at id count d timely here reads in_order
