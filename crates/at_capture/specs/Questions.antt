-- What packets ask and answer (Inside AppleTalk, ATP, "Transactions", and NBP, "Name lookup").
use Rattle.std.specs.Prelude.{ℕ, ◌==◌, if◌then◌else◌, List, [], ◌∷◌}
use Rattle.at_atp_frame.specs.Frames as atp
use Rattle.at_capture.specs.declared.question.InternetSocket.{InternetSocket}
use Rattle.at_capture.specs.declared.question.Question.{Question}
use Rattle.at_capture.specs.declared.question.Question.TheVariants.{Lookup, Transaction}
use Rattle.at_capture.specs.declared.question.Role.{Role}
use Rattle.at_capture.specs.declared.question.Role.TheVariants.{Answers, Asks, Neither}
use Rattle.at_ddp.specs.declared.address.Address.{Address}
use Rattle.at_nbp.specs.Packets.{Content as Names}
use Rattle.at_nbp.specs.Tuples.{Entry}
use Rattle.at_nbp.specs.declared.function.Function.{Function}
use Rattle.at_nbp.specs.declared.function.Function.TheVariants.{Reply}

-- a socket, as a datagram or a tuple names it
abbrev pub socket_of : Address → InternetSocket
socket_of a = record { net = a.net; node = a.node; socket = a.socket }

-- ---- ATP

-- the transaction of this number, in which one socket asks another
abbrev pub transaction : ℕ → Address → Address → Question
transaction number from to = Transaction number (socket_of from) (socket_of to)

-- a request for the packets of this bitmap asks, if it is for any
abbrev pub asks_for : ℕ → ℕ → Address → Address → Role
asks_for mask number from to = if mask == 0 then Neither else Asks (transaction number from to)

-- a packet from one socket to another: a response answers what its receiver asked its sender
abbrev pub transaction_role : Address → Address → atp.Content → Role
transaction_role from to (atp.Request mask xo timer tid user bytes) = asks_for mask tid from to
transaction_role from to (atp.Response place eom sts tid user bytes) = Answers (transaction tid to from)
transaction_role from to (atp.Release tid) = Neither

-- ---- NBP

-- the lookup of this identifier, whose replies go to this socket
abbrev pub lookup : ℕ → Address → Question
lookup id asker = Lookup id (socket_of asker)

-- a packet to this socket: a reply answers its receiver, and any other asks for the socket in its one tuple
abbrev pub function_role : Address → ℕ → Function → List Entry → Role
function_role to id Reply tuples = Answers (lookup id to)
function_role to id _ (t ∷ ts) = Asks (lookup id t.address)
function_role to id _ [] = Neither

abbrev pub lookup_role : Address → Names → Role
lookup_role to p = function_role to p.id p.function p.tuples
