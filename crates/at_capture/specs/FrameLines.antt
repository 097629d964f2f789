-- The lines of a frame, but for those of its datagram.
use Rattle.std.specs.Prelude.{ℕ, List, [], ◌++◌, Option, Some, None, codes}
use Rattle.std.specs.Fmt.{decimal}
use Rattle.at_capture.specs.Stations.{station_text}
use Rattle.at_capture.specs.Times.{time_text}
use Rattle.at_frames.specs.declared.carried.Carrier.{Carrier}
use Rattle.at_frames.specs.declared.carried.Carrier.TheVariants.{EtherTalk, EtherTalkPhase1, LocalTalk}
use Rattle.at_frames.specs.declared.carried.Carrier.TheVariants.{LocalTalkOverUdp}
use Rattle.at_frames.specs.declared.carried.Reason.{Reason}
use Rattle.at_frames.specs.declared.carried.Reason.TheVariants.{Aarp, Control, Cut, Foreign, OtherIp, OtherLink}
use Rattle.at_frames.specs.declared.carried.Stations.{Stations}
use Rattle.at_pcap.specs.declared.frame.Time.{Time}

abbrev pub carrier_word : Carrier → List ℕ
carrier_word EtherTalk = codes "ethertalk"
carrier_word EtherTalkPhase1 = codes "phase1"
carrier_word LocalTalk = codes "localtalk"
carrier_word LocalTalkOverUdp = codes "ltoudp"

-- why a frame carries no datagram
abbrev pub reason_word : Reason → List ℕ
reason_word Aarp = codes "aarp"
reason_word Control = codes "llap"
reason_word OtherIp = codes "ip"
reason_word OtherLink = codes "link"
reason_word Cut = codes "cut"
reason_word Foreign = codes "foreign"

-- the number of a frame and its time, with which its line begins
abbrev pub beginning : ℕ → Option Time → List ℕ
beginning number time = (codes "frame " ++ (decimal number ++ codes " ")) ++ (time_text time ++ codes " ")

-- where a frame comes from and where it goes to, with which its line ends
abbrev pub stations_text : Stations → List ℕ
stations_text s =
    codes " " ++ (station_text s.from ++ (codes " " ++ (station_text s.to ++ codes "\n")))

-- the line of a frame that carries a datagram
abbrev pub carried_line : ℕ → Option Time → Carrier → Stations → List ℕ
carried_line number time carrier stations =
    beginning number time ++ (carrier_word carrier ++ stations_text stations)

-- the line of a frame that carries none
abbrev pub other_line : ℕ → Option Time → Reason → List ℕ
other_line number time reason = beginning number time ++ (codes "other " ++ (reason_word reason ++ codes "\n"))

-- under a frame that answers another, the line that says which; under any other frame none
abbrev pub answer_line : Option ℕ → List ℕ
answer_line None = []
answer_line (Some number) = codes "answers frame " ++ (decimal number ++ codes "\n")
