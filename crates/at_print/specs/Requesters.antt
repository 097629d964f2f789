-- How a requester is named in a line.
use Rattle.std.specs.Prelude.{ℕ, ◌==◌, if◌then◌else◌, List, [], ◌++◌, Option, Some, None, codes}
use Rattle.std.specs.Fmt.{decimal}
use Rattle.at_atp_responder.specs.declared.reception.Key.{Key}

-- a network that is named, if it is another than this one
abbrev pub other_net : ℕ → ℕ → Option ℕ
other_net here net = if net == here then None else Some net

-- a network, and a dot before its node
abbrev pub net_text : Option ℕ → List ℕ
net_text None = []
net_text (Some net) = decimal net ++ codes "."

-- a requester's node behind this network, its socket and its transaction
abbrev pub key_text : Option ℕ → Key → List ℕ
key_text net key =
    net_text net ++ (decimal (key.from).node ++ (codes " " ++ (decimal (key.from).socket
    ++ (codes " " ++ decimal key.tid))))

-- who asked, under which number
abbrev pub asked_by : Option ℕ → Key → List ℕ
asked_by net key = codes "asked " ++ (key_text net key ++ codes " ")
