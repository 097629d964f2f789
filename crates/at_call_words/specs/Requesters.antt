-- How words name who asked.
use Rattle.std.specs.Prelude.{◌≡◌, ◌⊎◌, ◌==◌, ℕ, Bool, List, ◌∷◌, ◌++◌}
use Rattle.at_ddp.specs.declared.address.Address.{Address}
use Rattle.at_call_words.specs.declared.requester.Requesters.{Requesters}
use Rattle.at_call_words.specs.declared.requester.Requesters.TheVariants.{Here, Any}
use Rattle.at_words.specs.Numbers.{IsByte, IsNode, IsTwoBytes}

-- the words of a node and of a socket name an address
abbrev pub Naming : Type 1
Naming = List ℕ → List ℕ → Address → Type 0

-- by their numbers, and the network is not said
abbrev pub NameNode : Naming
NameNode n s from = IsNode n from.node × IsNode s from.socket

-- the same of a node of this network
abbrev pub NameHere : ℕ → Naming
NameHere net n s from = (from.net ≡ net) × NameNode n s from

abbrev pub is_dot : ℕ → Bool
is_dot c = c == 46

-- the number of a node of this network, or the numbers of a network and a node with a dot between them
abbrev pub IsAnyNode : ℕ → List ℕ → ℕ → ℕ → Type 0
IsAnyNode here word net node =
    ((net ≡ here) × IsByte word node)
    ⊎ ((front back : List ℕ) × (word ≡ front ++ (46 ∷ back)) × IsTwoBytes front net × IsByte back node)

-- any node and any socket that a datagram can come from
abbrev pub NameAny : ℕ → Naming
NameAny net n s from = IsAnyNode net n from.net from.node × IsByte s from.socket

-- as those are named that words can name
abbrev pub Names : Requesters → ℕ → Naming
Names Here net = NameHere net
Names Any net = NameAny net
