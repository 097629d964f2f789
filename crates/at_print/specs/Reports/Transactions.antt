-- What is printed of the reports and timers of transactions, and of the data of ATP's datagrams.
use Rattle.std.specs.Prelude.{ℕ, List, ◌++◌, None, codes}
use Rattle.std.specs.List.{flat_map}
use Rattle.std.specs.Fmt.{decimal}
use Rattle.at_atp_frame.specs.Fault.{IsFirstFault, number_of}
use Rattle.at_atp_frame.specs.Frames.{Content, Spells}
use Rattle.at_atp_frame.specs.Packets.{Packet}
use Rattle.at_atp_frame.specs.declared.fault.AtpFault.{AtpFault}
use Rattle.at_atp_responder.specs.declared.reception.Key.{Key}
use Rattle.at_event.specs.declared.transactions.TransactionReport.{TransactionReport}
use Rattle.at_event.specs.declared.transactions.TransactionReport.TheVariants as report
use Rattle.at_event.specs.declared.transactions.TransactionTimer.{TransactionTimer}
use Rattle.at_event.specs.declared.transactions.TransactionTimer.TheVariants.{Release, Retry}
use Rattle.at_print.specs.Lines.{hex_text, packet_line}
use Rattle.at_print.specs.Refusals.{refusal_line}
use Rattle.at_print.specs.Requesters.{asked_by, key_text, other_net}

abbrev pub packet_text : Packet → List ℕ
packet_text p = codes " " ++ (hex_text p.user ++ (codes ":" ++ hex_text p.data_))

-- who asked, under which number
abbrev pub asked_text : Key → List ℕ
asked_text key = asked_by None key

-- a report of transactions in words
abbrev pub transaction_text : {A : Type 0} → TransactionReport A → List ℕ
transaction_text (report.Begun tid) = codes "begun " ++ decimal tid
transaction_text (report.Answered count) = codes "answered " ++ decimal count
transaction_text report.Expired = codes "done"
transaction_text (report.Asked key user bytes) = asked_text key ++ (hex_text user ++ (codes " " ++ hex_text bytes))
transaction_text report.Kept = codes "kept"
transaction_text (report.Response tid packets) = (codes "response " ++ decimal tid) ++ flat_map packet_text packets
transaction_text (report.Failed tid) = codes "failed " ++ decimal tid
transaction_text report.Released = codes "released"

-- the same on this network, of which alone a requester is named by its node alone
abbrev pub transaction_text_at : {A : Type 0} → ℕ → TransactionReport A → List ℕ
transaction_text_at net (report.Asked key user bytes) =
    asked_by (other_net net (key.from).net) key ++ (hex_text user ++ (codes " " ++ hex_text bytes))
transaction_text_at net other = transaction_text other

-- a timer of transactions in words; a requester of this network is named by its node alone
abbrev pub transaction_timer_text : ℕ → TransactionTimer → List ℕ
transaction_timer_text net (Retry tid) = codes "retry " ++ decimal tid
transaction_timer_text net (Release own key) =
    codes "release " ++ (decimal own ++ (codes " " ++ key_text (other_net net (key.from).net) key))

-- the data is an ATP packet
abbrev pub IsPacket : List ℕ → Type 0
IsPacket bytes = (f : Content) × Spells bytes f

-- what is printed of the data of ATP's datagrams: the packet, or the first fault by its number
pub data PacketText (bytes : List ℕ) : List ℕ → Type 0 where
  Read : (packet : Content) → Spells bytes packet → PacketText bytes (packet_line packet)
  Refused : (fault : AtpFault) → IsFirstFault fault bytes → PacketText bytes (refusal_line (number_of fault))
