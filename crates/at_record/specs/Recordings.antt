-- What is recorded of a world: all that it sent.
use Rattle.std.specs.Prelude.{List, ℕ, map}
use Rattle.std.specs.List.{All}
use Rattle.at_pcap.specs.Readings.{records_bytes}
use Rattle.at_pcap.specs.declared.order.Order.TheVariants.{Little}
use Rattle.at_recording.specs.Frames.{IsSending, Sending}
use Rattle.at_recording.specs.Recordings.{records_of}
use Rattle.at_world.specs.Sents.{SentDatagram}

-- a datagram that a world sent
abbrev pub sending_of : SentDatagram → Sending
sending_of s = record { event = s.event; to = s.to; bytes = s.bytes }

-- all of them
abbrev pub sendings : List SentDatagram → List Sending
sendings sent = map sending_of sent

-- their records, as bytes
abbrev pub records_text : List SentDatagram → List ℕ
records_text sent = records_bytes Little (records_of (sendings sent))

-- their fields fit
abbrev pub AreSendings : List SentDatagram → Type 0
AreSendings sent = All (λ s. IsSending (sending_of s)) sent
