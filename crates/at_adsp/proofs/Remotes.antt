-- An end that opened names its peer, where all happens at our addresses.
use Rattle.std.proofs.Common.{◌≡◌, ℕ, true, List, Some, ◌∙◌, ap, map, refl, sym}
use Rattle.std.specs.List.{AllByRecursion}
use Rattle.at_ddp.specs.declared.address.Address.{Address}
use Rattle.at_adsp_end.specs.Ends.{EndState, has_opened}
use Rattle.at_adsp_ends.specs.Tables.{by_id}
use Rattle.at_adsp.specs.Connections.{streams}
use Rattle.at_adsp.specs.Meetings.{NamesPeer}
use Rattle.at_adsp.specs.Network.{AllTimely, Happening, Made, Setting, after}
use Rattle.at_adsp.specs.Pairs.{HappensHere, IsPaired}
use Rattle.at_adsp.specs.Streams.{has_number}
use Rattle.at_adsp.proofs.Histories.{are_paired}
use Rattle.at_adsp.proofs.Meets.{paired_newest, stream_of}
use Rattle.at_adsp.proofs.Members.{found_seen}
use Rattle.at_adsp.proofs.OurHistories.{asked_ours}

-- an end that is paired names the end that it is paired with
paired_names : (made : List Made) (at : Address) (e : EndState) (p : IsPaired made at e)
    → NamesPeer (map stream_of made) at e
paired_names made at e p = record {
  end = p.it.stream;
  newest = found_seen stream_of (has_number at e.id) made p.it (paired_newest made at e.id e p refl);
  peer = p.peer.stream;
  has = p.connected.peer;
  peer_newest = found_seen stream_of (has_number p.peer.stream.owner p.peer.stream.id) made p.peer
      p.paired.peer_newest;
  names = sym (ap (λ (x : EndState). x.remote) p.last) ∙ p.paired.names;
}

pub names_peer : (setting : Setting) (history : List Happening) → AllTimely setting history
    → AllByRecursion (HappensHere setting) history → (at : Address) (id : ℕ) (e : EndState)
    → by_id ((after setting history).tables at) id ≡ Some e → has_opened e.phase ≡ true
    → NamesPeer (streams (after setting history)) at e
names_peer setting history timely here at id e is opened =
    paired_names (after setting history).made at e
    ((are_paired setting history timely).paired at id e is opened (asked_ours setting history here at id e is opened))
