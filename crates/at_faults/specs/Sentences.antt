-- The sentence that tells a person which rule a line breaks.
use Rattle.std.specs.Prelude.{ℕ, List, ◌++◌, codes}
use Rattle.at_event.specs.Kinds.{event_sentence}
use Rattle.at_faults.specs.declared.rule.Rule.{Rule}
use Rattle.at_faults.specs.declared.rule.Rule.TheVariants as rule

-- what stands after the number of the line
abbrev pub sentence : Rule → List ℕ
sentence rule.CarriageReturn = codes "the line ends with a carriage return; lines end with a line feed alone"
sentence rule.Tab = codes "the line has a tab; words are separated by spaces"
sentence rule.SpacesAlone = codes "the line has only spaces; an empty line has no bytes"
sentence rule.FirstWord =
    codes "a line begins with `net`, `node`, `zones`, `local`, `call`, `deliver`, `timer`, `forge` or `#`"
sentence rule.DriveFirstWord =
    codes "a line begins with `net`, `port`, `node`, `zones`, `local`, `call`, `timer`, `poll` or `#`"
sentence rule.Net = codes "`net` takes a network's number, 1 to 65535, as in \"net 10\""
sentence rule.Port = codes "`port` takes a number, 0 to 65535, as in \"port 47200\""
sentence rule.Node =
    codes "`node` takes a number, 1 to 254, then `router`, `zone` and `rooms` if needed, as in \"node 1 router "
    ++ codes "zone Lab\""
sentence rule.Zones = codes "`zones` takes names of 1 to 32 bytes, as in \"zones Lab Office\""
sentence rule.Local = codes "`local` takes names of 1 to 32 bytes, as in \"local Lab\""
sentence (rule.Event it) = event_sentence it
sentence rule.Data = codes "data is pairs of hexadecimal digits, or `-` for no bytes"
sentence rule.Deliver = codes "`deliver` takes a datagram's number and a node, as in \"deliver 0 1\""
sentence rule.Forge =
    codes "`forge` takes a node and the bytes that it receives, as in \"forge 1 000D0000000A000A0105068003\""
sentence rule.Poll = codes "`poll` takes a node, as in \"poll 5\""
sentence rule.NetFirst = codes "`net` must come first, as in \"net 10\""
sentence rule.NetOnce = codes "`net` may appear only once"
sentence rule.PortSecond = codes "`port` must come right after `net`, as in \"port 47200\""
sentence rule.PortOnce = codes "`port` may appear only once, right after `net`"
sentence rule.PortOfNode = codes "a node's port is `port` plus its number, and must be at most 65535"
sentence rule.PortOfRouter =
    codes "the nodes have zones, so a router must follow, and no port up to 65535 is left for it"
sentence rule.NodesFirst = codes "a `node` line must come before `zones`, `local` and the events"
sentence rule.NodeOnce = codes "a node with this number already exists"
sentence rule.SixteenNodes = codes "a cable has at most 16 nodes"
sentence rule.AllInZones = codes "either all nodes must have a zone, or none"
sentence rule.OneRouter = codes "a cable has at most one router"
sentence rule.RouterInZone = codes "a router must have a zone, as in \"node 1 router zone Lab\""
sentence rule.RouterMissing = codes "the nodes have zones, so one of the 16 must be the router"
sentence rule.ZonesOnce = codes "`zones` may appear only once, after the nodes and before the events"
sentence rule.ZonesOfRouter = codes "`zones` needs a router among the nodes, as in \"node 1 router zone Lab\""
sentence rule.ZonesFitTable = codes "`zones` has at most 1,024 names"
sentence rule.ZonesFirst = codes "`zones` must come before `local`"
sentence rule.LocalOnce = codes "`local` may appear only once, after the nodes and before the events"
sentence rule.LocalOfRouter = codes "`local` needs a router among the nodes, as in \"node 1 router zone Lab\""
sentence rule.LocalFitsTable = codes "`local` has at most 1,024 names"
sentence rule.NodeStands = codes "the setup has no node with this number"
sentence rule.PlayAlone =
    codes "`deliver` and `forge` are only for `play`; over sockets a node is polled, as in \"poll 5\""
sentence rule.NoPort = codes "the schedule ends without a `port` line"
sentence rule.NoNet = codes "the schedule ends without a `net` line"
sentence rule.NoRouter = codes "the schedule ends without a router, though its nodes have zones"
