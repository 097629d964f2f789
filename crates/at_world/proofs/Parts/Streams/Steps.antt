-- What each kind of step of a node is to the machine of streams.
use Rattle.std.proofs.Common.{◌≡◌, ℕ, ◌+◌, ◌≤◌, Bool, true, false, cond, List, [], ◌∷◌, ◌++◌, length, Option, Some}
use Rattle.std.proofs.Common.{None, Result, Ok, Err, refl, sym, ap, subst, ◌∙◌, arith}
use Rattle.std.specs.Prelude.{find, take}
use Rattle.std.proofs.lemmas.Bool.{false≢true}
use Rattle.std.proofs.lemmas.List.{length-append, length-map}
use Rattle.at_ddp.specs.declared.address.Address.{Address}
use Rattle.at_adsp.specs.Cables.{few_segments}
use Rattle.at_adsp.specs.Connections.{begun, streams}
use Rattle.at_adsp.specs.Meetings.{OpensWith, ReadsWith}
use Rattle.at_ddp.specs.Posts.{stamped}
use Rattle.at_world.proofs.Entries.{as_many}
use Rattle.at_adsp.specs.Network.{Network, Reads, Setting, after, calls_with, done}
use Rattle.at_adsp.specs.Orders.{ReadsInOrder}
use Rattle.at_adsp.specs.Streams.{Deed, GaveUp, Read as HasRead, Stream, Wrote, has_number, with_deed}
use Rattle.at_adsp_frame.specs.Segments.{Content}
use Rattle.at_adsp_end.specs.Calls.{after_read, read_opens, reading}
use Rattle.at_adsp_end.specs.Ends.{EndState, acknowledging, addressed, has_opened}
use Rattle.at_adsp_end.specs.declared.fault.StreamFault.{StreamFault}
use Rattle.at_adsp_end.specs.declared.fault.StreamFault.TheVariants.{NotOpen}
use Rattle.at_adsp_end.specs.declared.item.Item.{Item}
use Rattle.at_adsp_end.specs.Positions.{Numbers}
use Rattle.at_adsp_ends.specs.Calls.{read_at}
use Rattle.at_adsp_ends.specs.Tables as ends
use Rattle.at_adsp_ends.specs.Tables.{Done, EndTable, by_id}
use Rattle.at_event.specs.Kinds.{reporter_of}
use Rattle.at_event.specs.Outcomes.{Outcome}
use Rattle.at_event.specs.declared.Call.TheVariants.{Streams}
use Rattle.at_event.specs.declared.streams.StreamCall.TheVariants.{Open, Connect, Write, Read, Reset}
use Rattle.at_event.specs.declared.Report.{Report}
use Rattle.at_event.specs.declared.Report.TheVariants as report
use Rattle.at_event.specs.declared.streams.StreamReport.{StreamReport}
use Rattle.at_event.specs.declared.streams.StreamReport.TheVariants as adsp_report
use Rattle.at_node.specs.Nodes.{NodeState}
use Rattle.at_steps.specs.StreamHappenings.{Happens, change, stream_coding}
use Rattle.at_steps.specs.StreamSteps as steps
use Rattle.at_steps.specs.StreamSteps.{IsStep, asked_by, is_plain, is_plain_report}
use Rattle.at_stream_socket.specs.Sockets.{streams_at}
use Rattle.at_session.specs.Sessions.{SessionState}
use Rattle.at_world.specs.Machine.SessionGuards.{Sessions}
use Rattle.at_world.specs.Cables.{Cable, at_net}
use Rattle.at_world.specs.Events.{act_of, node_of}
use Rattle.at_world.specs.Machine.StreamGuards.{Does, MakesEnd, StepBy, StreamMachine, next}
use Rattle.at_world.specs.Worlds.{WorldState, is_over}
use Rattle.at_setup.specs.declared.event.Event.{Event}
use Rattle.at_setup.specs.declared.event.Event.TheVariants as event
use Rattle.at_world.proofs.Acts.{called_at, delivered_at}
use Rattle.at_world.proofs.CableTie.{CableTie, spelled_wire}
use Rattle.at_world.proofs.Parts.Streams.Next.{moved}
use Rattle.at_world.proofs.Parts.Streams.Tie.{StreamLaws, StreamTie}
use Rattle.at_world.proofs.WorldLemmas.{few_datagrams}

-- the machine says this of an event
abbrev pub Allows : {A : Type 0} → Cable → Sessions → StreamMachine → Event A → Report A → StreamMachine → Type 0
Allows c ss m e r m' = StepBy c ss m e r m' (reporter_of r)

so_at : (A : Type 0) (c : Cable) (ss : Sessions) (m m' : StreamMachine) (e e' : Event A) (r r' : Report A) → e ≡ e' → r
    ≡ r' → Allows c ss m e' r' m' → Allows c ss m e r m'
so_at A c ss m m' e e' r r' same told allows =
    subst (λ x. Allows c ss m x r m') (sym same) (subst (λ x. Allows c ss m e' x m') (sym told) allows)

-- a report that says nothing new of streams leaves them as they were
plain_streams : (A : Type 0) (c : Cable) (ss : Sessions) (m : StreamMachine) (r : StreamReport A) (e : Event A)
    → is_plain_report r (act_of e) ≡ true → Allows c ss m e (report.Streams r) (next m)
plain_streams A c ss m adsp_report.ListenSet e h = (h, refl)
plain_streams A c ss m (adsp_report.Closed it) e h = (h, refl)
plain_streams A c ss m (adsp_report.Freed it) e h = (h, refl)
plain_streams A c ss m adsp_report.Idle e h = (h, refl)
plain_streams A c ss m adsp_report.Turned e h = (h, refl)
plain_streams A c ss m (adsp_report.Denied id) e h = (h, refl)
plain_streams A c ss m (adsp_report.Heard id items) e h = (h, refl)
plain_streams A c ss m (adsp_report.Dropped id) e h = (h, refl)
plain_streams A c ss m r e h = absurd (false≢true h)

plainly : (A : Type 0) (c : Cable) (ss : Sessions) (m : StreamMachine) (e : Event A) (r : Report A)
    → is_plain (act_of e) r ≡ true → Allows c ss m e r (next m)
plainly A c ss m e (report.Streams r) h = plain_streams A c ss m r e h
plainly A c ss m e (report.Refused number) h = refl
plainly A c ss m e report.NoMemory h = refl
plainly A c ss m e report.Again h = refl
plainly A c ss m e report.Ignored h = refl
plainly A c ss m e r h = absurd (false≢true h)

-- a call that asks for a connection makes an end that asks the address
asks_allowed : (A : Type 0) (c : Cable) (ss : Sessions) (m m' : StreamMachine) (e : Event A) (id : ℕ) (asked : Address)
    → asked_by (ss (node_of e)) c.net (act_of e) ≡ Some asked → MakesEnd c m (node_of e) id false asked m'
    → Allows c ss m e (report.Streams (adsp_report.Opening id)) m'
asks_allowed A c ss m m' (event.Call node (Streams (Connect to socket))) id asked is makes =
    let same : at_net c to socket
    ≡ asked = cc in subst (λ (a : Address). MakesEnd c m node id false a m') (sym same) makes
asks_allowed A c ss m m' (event.Call node (Streams (Open index))) id asked is makes =
    record { asked = asked; found = is; makes = makes }
asks_allowed A c ss m m' e id asked is makes = absurd (cc)

-- ---- how much a read sends

acks_once : (to : Address) (b : Bool) (x : Content) → length (addressed to (cond b (x ∷ []) [])) ≤ 1
acks_once to true x = omega arith
acks_once to false x = omega arith

ok_same : (x y : Done (List Item)) → ◌≡◌ {A = Result (Done (List Item)) StreamFault} (Ok x) (Ok y) → x ≡ y
ok_same x y h = cc

reads_little : (N : Numbers) (t : EndTable) (count : ℕ) (o : Option EndState) (d : Done (List Item))
    → read_at N t count o ≡ Ok d → length d.sent ≤ 1
reads_little N t count None d is = absurd (cc)
reads_little N t count (Some e) d is = go (has_opened e.phase) is
  where
    read : Done (List Item)
    read = ends.moved t (take count e.receiver.unread) (reading N e count).after (reading N e count).sent

    go : (b : Bool) → ◌≡◌ {A = Result (Done (List Item)) StreamFault} (cond b (Ok read) (Err NotOpen)) (Ok d)
        → length d.sent ≤ 1
    go true h = subst (λ (x : Done (List Item)). length x.sent ≤ 1) (ok_same read d h)
        (acks_once e.asked (read_opens e count) (acknowledging N (after_read e count)))
    go false h = absurd (cc)

-- a read sends one segment at most
reads_one : (setting : Setting) (n : Network) (at : Address) (id count : ℕ)
    → length (done setting n (Reads at id count)).sent ≤ length n.sent + 1
reads_one setting n at id count = go (read_at setting.numbers (n.tables at) count (by_id (n.tables at) id)) refl
  where
    go : (r : Result (Done (List Item)) StreamFault)
        → read_at setting.numbers (n.tables at) count (by_id (n.tables at) id) ≡ r
        → length (calls_with HasRead setting n at r).sent ≤ length n.sent + 1
    go (Err fault) e = omega arith
    go (Ok d) e =
        let little = reads_little setting.numbers (n.tables at) count (by_id (n.tables at) id) d e in
        let all : length (n.sent ++ stamped n.event at d.sent) ≡ length n.sent + length (stamped n.event at d.sent) =
        length-append n.sent (stamped n.event at d.sent) in
        let more : length (stamped n.event at d.sent) ≡ length d.sent = length-map d.sent _ in
        omega (arith, little, all, more)

-- what this event reads reads from a peer, once all that was read was written in order
abbrev pub ReadsAt : (A : Type 0) (w : WorldState) (c : Cable) (m : StreamMachine) (ct : CableTie w c)
    → StreamTie w c ct.wires m → Event A → NodeState → Outcome A NodeState → Type 0
ReadsAt A w c m ct t e n o =
    (id count : ℕ) (items : List Item) → e ≡ event.Call (node_of e) (Streams (Read id count)) → o.report
    ≡ report.Streams (adsp_report.Read items)
    → ReadsInOrder (after t.setting (Reads (streams_at c.net (node_of e)) id count ∷ t.history))
    → ReadsWith (streams (after t.setting t.history)) (streams_at c.net (node_of e)) id items

module _ (A : Type 0) (laws : StreamLaws A) (w : WorldState) (c : Cable) (ss : Sessions) (m : StreamMachine)
    (ct : CableTie w c) (e : Event A) (n : NodeState) (o : Outcome A NodeState) (t : StreamTie w c ct.wires m)
    (runs : is_over w ≡ false) (told : n.session ≡ ss (node_of e))
    (h : Happens t.setting t.history c.net (node_of e) n (act_of e) o) (its_reads : ReadsAt A w c m ct t e n o) where
  abbrev old : List Stream
  old = streams (after t.setting t.history)

  abbrev now : List Stream
  now = streams (done t.setting (after t.setting t.history) h.happening)

  abbrev at : Address
  at = streams_at c.net (node_of e)

  -- the machine's streams are those of the network
  same : m.streams ≡ old
  same = t.streams_are

  becomes : (ss : List Stream) → now ≡ ss → moved m now ≡ next (record m { streams = ss })
  becomes ss is i = moved m (is i)

  abbrev its_change : steps.Change A
  its_change = change h

  abbrev Row : Type 0
  Row = Allows c ss m e o.report (moved m now)

  plain_step : steps.IsPlain its_change → Row
  plain_step s = subst (Allows c ss m e o.report) (sym (becomes m.streams (s.streams ∙ sym same)))
      (plainly A c ss m e o.report s.plain)

  makes : (id : ℕ) (listener : Bool) (asked : Address) → now
      ≡ begun (after t.setting t.history).event at id listener asked ∷ old
      → MakesEnd c m (node_of e) id listener asked (moved m now)
  makes id listener asked is = becomes (begun m.events at id listener asked ∷ m.streams)
      (is ∙ (λ i. begun (sym t.count i) at id listener asked ∷ sym same i))

  asks_step : steps.AsksFor its_change → Row
  asks_step s =
      so_at A c ss m (moved m now) e e o.report (report.Streams (adsp_report.Opening s.id)) refl s.report
      (asks_allowed A c ss m (moved m now) e s.id s.asked
      (ap (λ (x : SessionState). asked_by x c.net (act_of e)) (sym told) ∙ s.act)
      (makes s.id false s.asked s.streams))

  answers_step : steps.Answers its_change → Row
  answers_step s =
      so_at A c ss m (moved m now) e (event.Deliver s.datagram (node_of e)) o.report
      (report.Streams (adsp_report.Made s.id))
      (delivered_at e s.datagram s.act) s.report
      ((s.request).from, makes s.id true (s.request).from s.streams)

  opens_step : steps.Opens its_change → Row
  opens_step s =
      so_at A c ss m (moved m now) e (event.Deliver s.datagram (node_of e)) o.report
      (report.Streams (adsp_report.Opened s.id))
      (delivered_at e s.datagram s.act) s.report
      (record { now = now; opens = subst (λ ss. OpensWith ss now at s.id) (sym same) s.opens; becomes = refl })

  does : (id : ℕ) (deed : Deed) → steps.HasEnd its_change id → now ≡ with_deed at id deed old
      → Does c m (node_of e) id deed (moved m now)
  does id deed has is = record {
    end = has.stream;
    stands = ap (find (has_number at id)) same ∙ has.made;
    becomes = becomes (with_deed at id deed m.streams) (is ∙ ap (with_deed at id deed) (sym same));
  }

  writes_step : steps.Writes its_change → Row
  writes_step s =
      so_at A c ss m (moved m now) e (event.Call (node_of e) (Streams (Write s.id s.items))) o.report
      (report.Streams (adsp_report.Wrote s.count))
      (called_at e (Streams (Write s.id s.items)) s.act) s.report
      (does s.id (Wrote (take s.count s.items)) s.stands s.streams)

  resets_step : steps.Resets its_change → Row
  resets_step s =
      so_at A c ss m (moved m now) e (event.Call (node_of e) (Streams (Reset s.id))) o.report
      (report.Streams adsp_report.Reset)
      (called_at e (Streams (Reset s.id)) s.act) s.report
      (does s.id GaveUp s.stands s.streams)

  -- what is read is in order: few segments were sent, and a read sends one at most
  in_order : (id count : ℕ) → ReadsInOrder (after t.setting (Reads at id count ∷ t.history))
  in_order id count =
      let one = reads_one t.setting (after t.setting t.history) at id count in
      let before = few_datagrams w runs in
      let wires : length w.sent ≡ length ct.wires = ap length ct.sent ∙ length-map ct.wires spelled_wire in
      let entries = as_many stream_coding ct.wires (after t.setting t.history).sent t.sent in
      let few : length (done t.setting (after t.setting t.history) (Reads at id count)).sent ≤ few_segments =
      omega (arith, one, before, wires, entries) in
      let its = t.lawful in
      laws.in_order t.setting (Reads at id count ∷ t.history) t.numbers its.rooms (tt, t.timely) few

  reads_step : steps.Reads its_change → Row
  reads_step s =
      let called_ = called_at e (Streams (Read s.id s.count)) s.act in
      let with_peer : ReadsWith old at s.id s.items =
      its_reads s.id s.count s.items called_ s.report (in_order s.id s.count) in
      so_at A c ss m (moved m now) e (event.Call (node_of e) (Streams (Read s.id s.count))) o.report
      (report.Streams (adsp_report.Read s.items)) called_ s.report
      (record {
        reads = subst (λ ss. ReadsWith ss at s.id s.items) (sym same) with_peer;
        becomes = becomes (with_deed at s.id (HasRead s.items) m.streams)
            (s.streams ∙ ap (with_deed at s.id (HasRead s.items)) (sym same));
      })

  pub step_allows : IsStep its_change → Row
  step_allows (steps.Plain s) = plain_step s
  step_allows (steps.HasAsked s) = asks_step s
  step_allows (steps.HasAnswered s) = answers_step s
  step_allows (steps.HasOpened s) = opens_step s
  step_allows (steps.HasWritten s) = writes_step s
  step_allows (steps.HasRead s) = reads_step s
  step_allows (steps.HasReset s) = resets_step s
