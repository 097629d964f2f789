-- Requests that are answered as they come (Inside AppleTalk, ATP, "At-least-once and exactly-once transactions").
use Rattle.std.specs.Prelude.{false, ◌||◌, if◌then◌else◌, List, [], ◌∷◌, ◌++◌, Option, Some, None}
use Rattle.at_ddp.specs.declared.address.Address.{Address}
use Rattle.at_atp_frame.specs.Frames.{Content, Request, Response, Release}
use Rattle.at_atp_responder.specs.Records.{Record, Received, Waiting, is_passed_over}
use Rattle.at_atp_responder.specs.declared.reception.NewRequest.{NewRequest}
use Rattle.at_atp_responder.specs.declared.reception.Reception.TheVariants.{New}

-- the records once the request waits for its answer too
abbrev pub with_request : List Record → NewRequest → List Record
with_request rs request = rs ++ record { key = request.key; state = Waiting false request.bitmap } ∷ []

-- what comes of a packet with the request: it is delivered, and waits
abbrev pub taken_new : List Record → NewRequest → Received
taken_new rs request = record { reception = New request.key; after = with_request rs request; sent = [] }

-- the request of a packet from this address, if it asks for a packet, at least once
abbrev pub at_least_once : Address → Content → Option NewRequest
at_least_once from (Request bitmap xo timer tid user bytes) =
    if is_passed_over bitmap || xo then None
    else Some (record { key = record { from = from; tid = tid }; bitmap = bitmap })
at_least_once from (Response place eom sts tid user bytes) = None
at_least_once from (Release tid) = None
