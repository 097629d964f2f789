-- Which open transaction a packet ends.
use Rattle.std.specs.Prelude.{◌≡◌, Some, true}
use Rattle.std.specs.List.{position_from}
use Rattle.at_ddp.specs.declared.address.Address.{Address}
use Rattle.at_atp_frame.specs.Frames.{Content, number_of}
use Rattle.at_atp_requester.specs.Requests.{Requests, finishes, is_of}
use Rattle.at_atp_requester.specs.declared.turning.Ending.{Ending}

-- A packet from this address ends an at-least-once transaction. It has the packet's number, and stands at this place
-- among the open ones, counted from 0.
pub record Ends (A : Type 0) (r : Requests) (from : Address) (packet : Content) (e : Ending) : Type 0 where
  pub finishes_it : finishes A r from packet ≡ true
  pub number : number_of packet ≡ e.tid
  pub place : position_from (is_of e.tid from) 0 r.standing ≡ Some e.index
