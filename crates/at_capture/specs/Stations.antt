-- How the stations of a frame are printed.
use Rattle.std.specs.Prelude.{ℕ, List, [], ◌∷◌, ◌++◌, codes}
use Rattle.std.specs.Fmt.{decimal}
use Rattle.std.specs.List.{flat_map}
use Rattle.at_frames.specs.declared.carried.Station.{Station}
use Rattle.at_frames.specs.declared.carried.Station.TheVariants.{Ethernet as OfEthernet, Node, Unknown}
use Rattle.at_print.specs.Lines.{pairs}

-- a colon, and two digits
abbrev pub part_text : ℕ → List ℕ
part_text byte = codes ":" ++ pairs (byte ∷ [])

-- two digits for each byte, with colons between them
abbrev pub ethernet_text : List ℕ → List ℕ
ethernet_text [] = []
ethernet_text (byte ∷ bytes) = pairs (byte ∷ []) ++ flat_map part_text bytes

-- an address of Ethernet, a node of LLAP, or none
abbrev pub station_text : Station → List ℕ
station_text (OfEthernet address) = ethernet_text address
station_text (Node node) = decimal node
station_text Unknown = codes "-"
