-- What a datagram of the network that comes to a node is at its socket for streams.
use Rattle.std.proofs.Common.{◌≡◌, ◌⊎◌, inl, inr, ℕ, Bool, true, false, List, [], Some, refl, sym, ap, subst, ◌∙◌}
use Rattle.std.specs.Prelude.{MatchBool, ◌==◌, ◌||◌}
use Rattle.std.proofs.lemmas.Bool.{and_parts, eqb-true}
use Rattle.at_ddp.specs.Datagram.{canonical, written}
use Rattle.at_ddp.specs.declared.address.Address.{Address}
use Rattle.at_adsp_frame.specs.Segments.{spelled}
use Rattle.at_adsp_end.specs.Positions.{wire}
use Rattle.at_adsp_end.specs.declared.change.EndChange.{EndChange}
use Rattle.at_adsp_end.specs.declared.change.EndChange.TheVariants as step
use Rattle.at_adsp_ends.specs.Receiving.{received}
use Rattle.at_adsp_ends.specs.Tables.{Done, EndTable}
use Rattle.at_adsp.specs.Connections.{AfterSegment, AfterStep, streams}
use Rattle.at_adsp.specs.Lawfully.{IsLawfullySent}
use Rattle.at_ddp.specs.Posts.{packet_at}
use Rattle.at_ddp.proofs.PostLemmas.{sent_at}
use Rattle.at_ddp.specs.Protocols.{adsp_kind}
use Rattle.at_steps.proofs.Protocols.Streams.OnNetHistories.{IsOn, all_on}
use Rattle.at_adsp.specs.Network.{Happening, IsTimely, MakesInTime, Network, NoneNames, Sent, Setting, Takes, after}
use Rattle.at_adsp.specs.Network.{does, done, is_fresh, takes}
use Rattle.at_adsp.specs.Streams.{Nothing}
use Rattle.at_event.specs.Outcomes.{Outcome, Over, idle, over}
use Rattle.at_adsp.specs.Meetings.{OpensWith}
use Rattle.at_event.specs.Seats.{is_mine}
use Rattle.at_event.specs.declared.Report.{Report}
use Rattle.at_event.specs.declared.Report.TheVariants as report
use Rattle.at_event.specs.declared.streams.StreamReport.TheVariants as adsp_report
use Rattle.at_event.specs.declared.service.Reply.{Reply}
use Rattle.at_node.specs.Numbers.{drawn_by}
use Rattle.at_node.specs.Hearing.{Hears, HearsIt}
use Rattle.at_node.specs.Nodes.{NodeState, with_streams}
use Rattle.at_node.specs.declared.numbers.Draw.TheVariants.{Conn}
use Rattle.at_stream_socket.specs.Hearing.{HearsAdspFault, HearsSegment, HearsStreams, segment_heard}
use Rattle.at_stream_socket.specs.Sockets.{told_by}
use Rattle.at_steps.specs.Acts.{Gets}
use Rattle.at_steps.specs.StreamHappenings.{Stands}
use Rattle.at_steps.specs.StreamSteps.{HasAnswered, HasOpened, IsStep, is_plain, named_by}
use Rattle.at_steps.proofs.Protocols.Streams.Below.{HearingLaws}
use Rattle.at_steps.proofs.Protocols.Streams.Carrying.{datagram_begins}
use Rattle.at_steps.proofs.Protocols.Streams.Ends.{IsCame, received_came}
use Rattle.at_steps.proofs.Protocols.Streams.Moves.{Becomes, IsIts, NamesEnd, becomes_done, before, changed, happens}
use Rattle.at_steps.proofs.Protocols.Streams.Moves.{idles}
use Rattle.at_steps.proofs.Protocols.Streams.Moves.{its_own, own, plain_step}
use Rattle.at_steps.proofs.Protocols.Streams.Ours.{all_ours}
use Rattle.std.proofs.lemmas.Option.{same_Some}

module _ (A : Type 0) (laws : HearingLaws) (setting : Setting) (history : List Happening) (n : NodeState)
    (st : Stands setting history n.seat.net n.seat.number n) (which : ℕ) (s : Sent)
    (was_sent : packet_at (after setting history).sent which ≡ Some s)
    (fresh : is_fresh (after setting history).made s ≡ true) where
  abbrev old : Network
  old = before A setting history n st

  abbrev at : Address
  at = own A setting history n st

  abbrev StepTo : Report A → Network → Type 0
  StepTo r now = IsStep (changed A setting history n st (Gets which) r (streams now))

  -- it is a happening, if no end has the identifier that it draws as its remote
  abbrev Good : Outcome A NodeState → Type 0
  Good o = ((id : ℕ) → drawn_by o.report ≡ Some (Conn id) → NoneNames old at id)
      → IsIts A setting history n (Gets which) o

  -- nothing happens here
  idling : (r : Report A) → is_plain {A = A} (Gets which) r ≡ true → NamesEnd A setting history n st (named_by r)
      → Good (idle n r)
  idling r plain names free = idles A setting history n st laws.paired (Gets which) r plain names

  ok : IsLawfullySent s
  ok = sent_at IsLawfullySent old.sent which s (laws.lawful setting history st.lawful st.in_range) was_sent

  on : IsOn n.seat.net s
  on = sent_at (IsOn n.seat.net) old.sent which s (all_on n.seat.net setting history st.here) was_sent

  -- ---- at the node's own socket

  module _ (to_it : s.to ≡ at) where
    abbrev came : Done EndChange
    came = received wire n.streams s.from s.packet

    same_came : received setting.numbers (old.tables s.to) s.from s.packet ≡ came
    same_came = λ i. received (st.numbers i) ((ap old.tables to_it ∙ st.stands) i) s.from s.packet

    same_done : done setting old (Takes which) ≡ does setting old at came
    same_done = ap (takes setting old) was_sent ∙ (λ i. does setting old (to_it i) (same_came i))

    plain : (now : Network) (r : Report A) → is_plain (Gets which) r ≡ true
        → NamesEnd A setting history n st (named_by r) → streams now ≡ streams old → StepTo r now
    plain now r is names same = plain_step A setting history n st laws.paired (Gets which) r (streams now) is names same

    came_step : (now : Network) (x : EndChange)
        → ((id : ℕ) → x ≡ step.Opened id → OpensWith (streams old) (streams now) at id) → IsCame n.streams x
        → AfterStep old now at s.from x → StepTo (told_by x) now
    came_step now step.Ignored opens named same = plain now report.Ignored refl tt same
    came_step now (step.Made id) opens named is =
        HasAnswered (record {
          datagram = which;
          id = id;
          request = s;
          act = refl;
          report = refl;
          came = was_sent;
          streams = is;
        })
    came_step now (step.Opened id) opens named is =
        HasOpened (record { datagram = which; id = id; act = refl; report = refl; opens = opens id refl })
    came_step now step.Turned opens named same = plain now (report.Streams adsp_report.Turned) refl tt same
    came_step now (step.Denied id) opens named same = plain now (report.Streams (adsp_report.Denied id)) refl named same
    came_step now step.Again opens named same = plain now report.Again refl tt same
    came_step now step.Idle opens named same = absurd named
    came_step now (step.Heard id items) opens named same =
        plain now (report.Streams (adsp_report.Heard id items)) refl named same
    came_step now (step.Dropped id) opens named same =
        plain now (report.Streams (adsp_report.Dropped id)) refl named same
    came_step now (step.Closed id) opens named same = plain now (report.Streams (adsp_report.Closed id)) refl named same
    came_step now (step.Freed id) opens named same = absurd named

    after_step : AfterStep old (done setting old (Takes which)) at s.from came.answer
    after_step =
        let now = done setting old (Takes which) in
        let change = subst (AfterSegment setting old now) was_sent
        (laws.changes setting history (Takes which) st.timely) in
        subst (λ (p : Address × Done EndChange). AfterStep old now p.0 s.from p.1.answer)
        (λ i. (to_it i, same_came i)) change

    in_time : ((id : ℕ) → drawn_by {A = A} (told_by came.answer) ≡ Some (Conn id) → NoneNames old at id)
        → IsTimely setting old (Takes which)
    in_time free x is =
        subst (λ (y : Sent). (setting.ours y.to ≡ true) × (is_fresh old.made y ≡ true)
        × MakesInTime setting old y.to y.from y.packet) (same_Some s x (sym was_sent ∙ is)) (
          (λ i. st.ours i (to_it i)) ∙ its_own A setting history n st,
          fresh,
          λ id made. subst (λ (a : Address). NoneNames old a id) (sym to_it)
              (free id (ap (λ (y : EndChange). drawn_by {A = A} (told_by y))
              (sym (ap (λ (d : Done EndChange). d.answer) same_came) ∙ made))),
        )

    opening : IsTimely setting old (Takes which) → (id : ℕ) → came.answer ≡ step.Opened id
        → OpensWith (streams old) (streams (done setting old (Takes which))) at id
    opening timely id is =
        subst (λ (a : Address). OpensWith (streams old) (streams (done setting old (Takes which))) a id) to_it
        (laws.opens setting history which id s (timely, st.timely)
        (all_ours n.seat.net setting history st.ours st.here) was_sent
        (ap (λ (d : Done EndChange). d.answer) same_came ∙ is))

    taking : Good (over (with_streams n) (segment_heard n.seat n.streams s.from s.packet))
    taking free =
        happens A setting history n st (Gets which) (segment_heard n.seat n.streams s.from s.packet) (Takes which)
        (in_time free) tt tt (inl refl)
        (subst (λ x. Becomes old x at came.after (segment_heard {A = A} n.seat n.streams s.from s.packet).out)
        (sym same_done) (becomes_done setting old n.seat Nothing came))
        (came_step (done setting old (Takes which)) came.answer (opening (in_time free))
        (received_came n.streams s.from s.packet) after_step)

  -- ---- by its address and its data

  at_socket : (p : Outcome A EndTable) → (s.to.node == n.seat.number) ≡ true
      → HearsStreams n.seat n.streams (written s.to s.from adsp_kind (spelled s.packet)) p
      → Good (over (with_streams n) p)
  at_socket p here = go (s.to.socket == 130) refl
    where
      by : (q : Outcome A EndTable) → p ≡ q → Good (over (with_streams n) q) → Good (over (with_streams n) p)
      by q is h = subst (λ x. Good (over (with_streams n) x)) (sym is) h

      to_it : (s.to.socket == 130) ≡ true → s.to ≡ at
      to_it socket =
          let net = on.to in
          let node = eqb-true s.to.node n.seat.number here in
          let number = eqb-true s.to.socket 130 socket in
          λ i. record { net = net i; node = node i; socket = number i }

      go : (b : Bool) → (s.to.socket == 130) ≡ b
          → MatchBool b (HearsSegment n.seat n.streams (written s.to s.from adsp_kind (spelled s.packet)) p
          ⊎ HearsAdspFault n.streams (spelled s.packet) p) (p ≡ idle n.streams report.Ignored)
          → Good (over (with_streams n) p)
      go true e (inl h) =
          let same : h.segment ≡ s.packet = laws.segment (spelled s.packet) h.segment s.packet h.spelled
          (let reading = laws.reading in reading.spells s.packet ok.lawful) in
          by (segment_heard n.seat n.streams s.from s.packet)
          (h.outcome ∙ ap (segment_heard n.seat n.streams s.from) same) (taking (to_it e))
      go true e (inr h) = by (idle n.streams (report.Refused h.number)) h.outcome
          (idling (report.Refused h.number) refl tt)
      go false e h = by (idle n.streams report.Ignored) h (idling report.Ignored refl tt)

  pub datagram_happens : (said : Reply A) (o : Outcome A NodeState)
      → Hears said n (canonical s.to s.from adsp_kind (spelled s.packet)) o → Good o
  datagram_happens said o (inr h) = subst Good (sym h.outcome) (idling (report.Refused h.number) refl tt)
  datagram_happens said o (inl h) = go (is_mine n.seat s.to) refl as_written
    where
      as_written : HearsIt said n (written s.to s.from adsp_kind (spelled s.packet)) o
      as_written =
          let reading = laws.reading in
          let same = reading.alone (canonical s.to s.from adsp_kind (spelled s.packet)) h.datagram
          (written s.to s.from adsp_kind (spelled s.packet)) h.rest [] h.begins
          (datagram_begins laws.reading s ok) in
          subst (λ d. HearsIt said n d o) same.0 h.outcome

      go : (b : Bool) → is_mine n.seat s.to ≡ b
          → MatchBool b (Over (with_streams n)
          (HearsStreams n.seat n.streams (written s.to s.from adsp_kind (spelled s.packet))) o)
          (o ≡ idle n report.Ignored) → Good o
      go false e g = subst Good (sym g) (idling report.Ignored refl tt)
      go true e g =
          let both = and_parts ((s.to.net == n.seat.net) || (s.to.net == 0)) (s.to.node == n.seat.number) e in
          subst Good (sym g.2) (at_socket g.0 both.1 g.1)
