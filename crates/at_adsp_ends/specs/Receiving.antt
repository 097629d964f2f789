-- What a segment does at a node (Inside AppleTalk, ADSP).
use Rattle.std.specs.Prelude.{ℕ, ◌==◌, if◌then◌else◌, Bool, true, false, Option, Some, None}
use Rattle.at_ddp.specs.declared.address.Address.{Address}
use Rattle.at_adsp_frame.specs.Segments.{Content, Part, Open}
use Rattle.at_adsp_frame.specs.declared.segment.OpenKind.{OpenKind}
use Rattle.at_adsp_frame.specs.declared.segment.OpenKind.TheVariants.{Request, Acknowledgement}
use Rattle.at_adsp_frame.specs.declared.segment.OpenKind.TheVariants.{RequestAndAcknowledgement, Denial}
use Rattle.at_adsp_end.specs.Positions.{Numbers}
use Rattle.at_adsp_end.specs.Ends.{EndState, is_open}
use Rattle.at_adsp_end.specs.Hearing.{Outcome, told, heard}
use Rattle.at_adsp_end.specs.declared.remote.Remote.{Remote}
use Rattle.at_adsp_end.specs.declared.change.EndChange.{EndChange}
use Rattle.at_adsp_end.specs.declared.change.EndChange.TheVariants.{Made}
use Rattle.at_adsp_ends.specs.Tables.{EndTable, Done, by_id, by_remote, moved}
use Rattle.at_adsp_ends.specs.Openings.{ignored, sender_of, request_came, answer_came, ack_came, denial_came}

-- what comes of it at one end is what comes of it at the table
abbrev pub settled : EndTable → Outcome → Done EndChange
settled t o = moved t o.step o.after o.sent

-- a segment that opens nothing is for the open end that has its sender as remote
abbrev pub segment_came : Numbers → EndTable → Content → Option EndState → Done EndChange
segment_came N t s None = ignored t
segment_came N t s (Some e) = if is_open e.phase then settled t (heard N e (told N e s)) else ignored t

-- a request without an identifier is none
abbrev pub any_request_came : Numbers → EndTable → Remote → Bool → Done EndChange
any_request_came N t r true = ignored t
any_request_came N t r false = request_came N t r (by_remote t r)

-- a packet of this kind that names this destination
abbrev pub opening_came : Numbers → EndTable → Remote → Content → OpenKind → ℕ → Done EndChange
opening_came N t r s Request dest = any_request_came N t r (r.id == 0)
opening_came N t r s Acknowledgement dest = ack_came N t r s (by_id t dest)
opening_came N t r s RequestAndAcknowledgement dest = answer_came N t r s (by_remote t r) (by_id t dest)
opening_came N t r s Denial dest = denial_came t r.address (by_id t dest)

-- a segment of this end whose body is this
abbrev pub part_came : Numbers → EndTable → Remote → Content → Part → Done EndChange
part_came N t r s (Open kind dest) = opening_came N t r s kind dest
part_came N t r s other = segment_came N t s (by_remote t r)

-- a segment came from this address
abbrev pub received : Numbers → EndTable → Address → Content → Done EndChange
received N t from s = part_came N t (sender_of from s) s s.body

-- the identifier of the end that a segment made, if it made one
abbrev pub made_id : EndChange → Option ℕ
made_id (Made id) = Some id
made_id other = None
