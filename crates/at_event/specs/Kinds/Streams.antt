-- Streams: calls in the range of their types, reports of events that take no memory, and how words must be.
use Rattle.std.specs.Prelude.{ℕ, ◌<◌, Bool, true, false, List, ◌++◌, codes}
use Rattle.std.specs.List.{AllByRecursion}
use Rattle.at_adsp_end.specs.Items.{IsItem}
use Rattle.at_event.specs.declared.streams.StreamCall.{StreamCall}
use Rattle.at_event.specs.declared.streams.StreamCall.TheVariants.{Open, Listen, Connect, Write, Read, Reset, Close}
use Rattle.at_event.specs.declared.streams.StreamReport.{StreamReport}
use Rattle.at_event.specs.declared.streams.StreamReport.TheVariants.{ListenSet}
use Rattle.at_event.specs.declared.streams.StreamRule.{StreamRule}
use Rattle.at_event.specs.declared.streams.StreamRule.TheVariants as rule

-- the parts of a call are in the range of their types
abbrev pub IsStreamCall : {A : Type 0} → StreamCall A → Type 0
IsStreamCall (Open index) = Unit {0}
IsStreamCall (Listen on) = Unit {0}
IsStreamCall (Connect node socket) = (node < 256) × (socket < 256)
IsStreamCall (Write id items) = (id < 65536) × AllByRecursion IsItem items
IsStreamCall (Read id count) = (id < 65536) × (count < 65536)
IsStreamCall (Reset id) = id < 65536
IsStreamCall (Close id) = id < 65536

-- can an event with this report run out of memory? What sets whether an end listens can't.
abbrev pub streams_take_memory : {A : Type 0} → StreamReport A → Bool
streams_take_memory ListenSet = false
streams_take_memory other = true

-- the sentence that tells a person how the words of a call or a timer must be
abbrev pub stream_sentence : StreamRule → List ℕ
stream_sentence rule.Open = codes "`open` takes the index of a name that was found, from 0, as in \"call 5 open 0\""
stream_sentence rule.Listen = codes "`listen` takes `on` or `off`, as in \"call 7 listen on\""
stream_sentence rule.Connect =
    codes "`connect` takes a node and a socket, 1 to 254 each, as in \"call 5 connect 7 130\""
stream_sentence rule.Write =
    codes "`write` takes an end's identifier, 0 to 65535, and items, each pairs of hexadecimal digits, `-` for "
    ++ codes "no bytes, or `end`, as in \"call 5 write 1 6162 end\""
stream_sentence rule.Read =
    codes "`read` takes an end's identifier and a number of items, 0 to 65535 each, as in \"call 7 read 1 10\""
stream_sentence rule.Reset = codes "`reset` takes an end's identifier, 0 to 65535, as in \"call 5 reset 1\""
stream_sentence rule.Close = codes "`close` takes an end's identifier, 0 to 65535, as in \"call 5 close 1\""
stream_sentence rule.Resend = codes "`resend` takes an end's identifier, 0 to 65535, as in \"timer 5 resend 1\""
stream_sentence rule.Probe = codes "`probe` takes an end's identifier, 0 to 65535, as in \"timer 5 probe 1\""
