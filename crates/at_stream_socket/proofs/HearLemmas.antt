-- What a segment does at the socket, and faults of datagrams without one.
use Rattle.std.proofs.Common.{◌≡◌, ℕ, true, false, List, Some, None, Result, Ok, Err, inl, inr, refl, sym, ap, subst}
use Rattle.std.proofs.Common.{arith}
use Rattle.std.specs.Prelude.{IsOk, ◌==◌}
use Rattle.std.proofs.lemmas.Bool.{false≢true}
use Rattle.std.proofs.lemmas.List.{append-nil}
use Rattle.at_ddp.specs.Datagram.{Content as Datagram}
use Rattle.at_ddp.specs.Outbox.{Posted, Outbox}
use Rattle.at_ddp.specs.Sending.{HasRoomToSend}
use Rattle.at_ddp.specs.declared.address.Address.{Address}
use Rattle.at_adsp_frame.specs.Fault.{IsFirstFault, number_of}
use Rattle.at_adsp_frame.specs.Segments.{Content, Spells}
use Rattle.at_adsp_frame.specs.declared.fault.AdspFault.{AdspFault}
use Rattle.at_adsp_frame.specs.declared.fault.AdspFault.TheVariants as faults
use Rattle.at_adsp_end.specs.Ends.{spelled_all}
use Rattle.at_adsp_end.specs.Positions.{wire}
use Rattle.at_adsp_end.specs.declared.change.EndChange.{EndChange}
use Rattle.at_adsp_end.specs.declared.change.EndChange.TheVariants as step
use Rattle.at_adsp_ends.specs.Moves.{IsTaken}
use Rattle.at_adsp_ends.specs.Openings.{ignored}
use Rattle.at_adsp_ends.specs.Receiving.{made_id, received}
use Rattle.at_adsp_ends.specs.Tables.{Done, EndTable}
use Rattle.at_event.specs.Outcomes.{Comes, idle, refused_as}
use Rattle.at_event.specs.declared.Report.{Report}
use Rattle.at_event.specs.declared.Report.TheVariants.{Ignored, NoMemory, Refused}
use Rattle.at_event.specs.declared.seat.Seat.{Seat}
use Rattle.at_stream_socket.specs.Hearing.{HearsStreams, segment_heard}
use Rattle.at_stream_socket.specs.Sockets.{told_by}
use Rattle.at_stream_socket.proofs.CallLemmas.{IsBox, nothing_posted, posts, told_some, told_takes}

-- each fault that stands has a number
adsp_number : (f : AdspFault) (input : List ℕ) → IsFirstFault f input → (n : ℕ) × (number_of f ≡ Some n)
adsp_number faults.ShortAdsp input h = (40, refl)
adsp_number faults.BadControl input h = (41, refl)
adsp_number faults.BadVersion input h = (42, refl)
adsp_number faults.Attention input h = (43, refl)
adsp_number faults.AdspTooLong input h = (44, refl)
adsp_number faults.NoMemory input h = let stands = h.stands in let opening = stands.1 in absurd opening.1

-- a segment that is ignored sends nothing, so it finds memory enough
pub ignored_ok : {E : Type 0} (old : EndTable) (from : Address) (segment : Content) (box : Outbox)
    (tried : Result EndChange E) →
    ((received wire old from segment).answer ≡ step.Ignored → received wire old from segment ≡ ignored old) →
    (made_id (received wire old from segment).answer ≡ None
    → HasRoomToSend box (spelled_all (received wire old from segment).sent) → IsOk tried)
    → (received wire old from segment).answer ≡ step.Ignored → IsOk tried
ignored_ok old from segment box tried law memory is =
    let same = law is in
    memory (ap (λ (d : Done EndChange). made_id d.answer) same)
    (subst (λ (d : Done EndChange). HasRoomToSend box (spelled_all d.sent)) (sym same)
    (record { places = omega arith; bytes = omega arith }))

-- the report of what came of a segment
abbrev pub reported : {A E : Type 0} → Result EndChange E → Report A
reported (Ok step) = told_by step
reported (Err e) = NoMemory

module _ (A : Type 0) (s : Seat) (old : EndTable) (d : Datagram) (before : List Posted) where
  -- at another socket
  pub other_ignored : (d.to.socket == 130) ≡ false → Comes (HearsStreams {A = A} s old d) old before Ignored old before
  other_ignored other = (idle old Ignored, rw other refl, (refl, refl, sym (append-nil before)))

  module _ (its : (d.to.socket == 130) ≡ true) where
    pub fault_comes : (fault : AdspFault) (r : Report A) → IsFirstFault fault d.data_ → r
        ≡ refused_as (number_of fault) → Comes (HearsStreams {A = A} s old d) old before r old before
    fault_comes fault r first is =
        let n = adsp_number fault d.data_ first in
        rw (is, n.1) (
          idle old (Refused n.0),
          rw its
              (inr (record { fault = fault; number = n.0; first = first; numbered = n.1; outcome = refl })),
          (refl, refl, sym (append-nil before)),
        )

    pub taken_comes : {E : Type 0} (new : EndTable) (segment : Content) (tried : Result EndChange E)
        (box boxed : Outbox) →
        Spells d.data_ segment → IsBox s box before
        → IsTaken (received wire old d.from segment) tried old new box boxed
        → ((received wire old d.from segment).answer ≡ step.Ignored → IsOk tried) →
        Comes (HearsStreams {A = A} s old d) old before (reported tried) new boxed.items
    taken_comes new segment (Ok done) box boxed spelled b h heeds =
        rw (told_some A done) (
          segment_heard s old d.from segment,
          rw its
              (inl (record { segment = segment; spelled = spelled; outcome = refl })),
          (
            ap told_by h.answer_is,
            h.state,
            posts s box boxed before
                (spelled_all (received wire old d.from segment).sent) b h.sent,
          ),
        )
    taken_comes new segment (Err e) box boxed spelled b h heeds = (
      h.state,
      nothing_posted s box boxed before b h.sent,
      (
        segment_heard s old d.from segment,
        rw its
            (inl (record { segment = segment; spelled = spelled; outcome = refl })),
        told_takes A (received wire old d.from segment).answer
            (λ is. absurd (false≢true (heeds is))),
      ),
    )
