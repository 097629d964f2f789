-- The sockets of a node that answer: their calls and their timers are safe.
use Rattle.std.proofs.Common.{◌≡◌, ℕ, ◌≤◌, Bool, true, false, cond, List, [], ◌∷◌, length, Option, Some, None, refl}
use Rattle.std.proofs.Common.{subst, arith}
use Rattle.std.specs.Prelude.{find, nat_le, ◌&&◌}
use Rattle.std.proofs.lemmas.Bool.Decides.{nat_tests}
use Rattle.at_ddp.specs.declared.address.Address.{Address}
use Rattle.at_ddp.specs.Protocols.{atp_kind}
use Rattle.at_atp_frame.specs.Frames.{Content}
use Rattle.at_atp_frame.specs.Packets.{Packet}
use Rattle.at_atp_frame.specs.declared.fault.AtpFault.{AtpFault}
use Rattle.at_atp_frame.specs.declared.fault.AtpFault.TheVariants as atps
use Rattle.at_atp_responder.specs.Records.{AsksForEight, Record, State, Waiting, Answered, Released, answer_fault}
use Rattle.at_atp_responder.specs.Records.{asked_for, expiry_fault, expiry_fault_of, fit, is_key, record_fault}
use Rattle.at_atp_responder.specs.Records.{state_fault, received}
use Rattle.at_atp_responder.specs.declared.reception.Key.{Key}
use Rattle.at_atp_responder.specs.declared.reception.Reception.TheVariants as reception
use Rattle.at_zip.specs.Zones.{table_fault}
use Rattle.at_zip.specs.declared.fault.ZipFault.{ZipFault}
use Rattle.at_event.specs.Outcomes.{Outcome, over}
use Rattle.at_event.specs.declared.fault.NodeFault.TheVariants as nodes
use Rattle.at_zone_socket.specs.AtpParts.{AtpState, with_transactions, with_zones}
use Rattle.at_transaction_socket.specs.TransactionSockets.{serving}
use Rattle.at_node.specs.Nodes.{NodeState}
use Rattle.at_zone_socket.specs.AtpTimers.{expired, records_at, release_fired}
use Rattle.at_transaction_socket.specs.ServiceSocket.{answered_with}
use Rattle.at_zip.specs.Tables.{Tables}
use Rattle.at_zip.specs.declared.request.TableChoice.{TableChoice}
use Rattle.at_zone_socket.specs.ZoneSocket.{set_zones_called, table_set}
use Rattle.at_steps.specs.Safety.{IsSafe, IsTrueOf, TransactionTable}
use Rattle.at_event.specs.declared.Reason.TheVariants.{OfNodes, OfTransactions, OfZones}
use Rattle.at_steps.proofs.Safety.By.{packets_few, quiet, refused}

-- what the responder promises
pub record RecordLaws : Type 0 where
  pub answered : (o : Option Record) (key : Key) (packets : List Packet)
      → length (asked_for o key packets) ≤ length packets
  pub came : (rs : List Record) (from : Address) (f : Content) → AsksForEight f → length (received rs from f).sent ≤ 8
  pub replied : (rs : List Record) (from : Address) (f : Content) (key : Key) (packets : List Packet) → AsksForEight f
      → (received rs from f).reception ≡ reception.New key
      → length (asked_for (find (is_key key) (received rs from f).after) key packets) ≤ 8

-- an answer that is not refused has eight packets at most
answer_fits : (rs : List Record) (key : Key) (packets : List Packet) → answer_fault rs key packets ≡ None
    → length packets ≤ 8
answer_fits rs key [] is = omega arith
answer_fits rs key (p ∷ ps) is = go (nat_le (length (p ∷ ps)) 8) (fit (p ∷ ps)) refl is
  where
    go : (few fits : Bool) → nat_le (length (p ∷ ps)) 8 ≡ few
        → cond (few && fits) (record_fault (find (is_key key) rs)) (Some atps.AtpTooLong) ≡ None
        → length (p ∷ ps) ≤ 8
    go true fits le h = grind (arith, nat_tests, le)
    go false fits le h = absurd (cc)

module _ (A : Type 0) (n : NodeState) (Wants : TransactionTable → Type 0) where
  abbrev Safe : Outcome A AtpState → Type 0
  Safe o = IsSafe Wants n n.atp o

  abbrev True : AtpFault → Type 0
  True fault = IsTrueOf Wants n (OfTransactions fault)

  told : (a b : AtpFault) → Some a ≡ Some b → True a → True b
  told a b is h = let same : a ≡ b = cc in subst True same h

  -- ---- calls and timers

  table_safe : (tables : Tables) (kind : TableChoice) (names : List (List ℕ)) (fault : Option ZipFault)
      → Safe (over (with_zones n.atp) (table_set n.atp.zones tables kind names fault))
  table_safe tables kind names None = quiet A Wants n n.atp
      (over (with_zones n.atp) (table_set n.atp.zones tables kind names None)) refl (omega arith)
  table_safe tables kind names (Some fault) = refused A Wants n n.atp (OfZones fault) tt

  pub set_zones_safe : (kind : TableChoice) (names : List (List ℕ)) (tables : Option Tables)
      → Safe (over (with_zones n.atp) (set_zones_called n.atp.zones tables kind names))
  set_zones_safe kind names None = refused A Wants n n.atp (OfNodes nodes.NoRouter) tt
  set_zones_safe kind names (Some tables) = table_safe tables kind names (table_fault names)

  record_true : (o : Option Record) (fault : AtpFault) → record_fault o ≡ Some fault → True fault
  record_true None fault is = told atps.NoSuch fault is tt
  record_true (Some r) fault is = go r.state is
    where
      go : (s : State) → state_fault s ≡ Some fault → True fault
      go (Waiting xo bitmap) h = absurd (cc)
      go (Answered packets) h = told atps.Gone fault h tt
      go Released h = told atps.Gone fault h tt

  answer_true : (rs : List Record) (key : Key) (packets : List Packet) (fault : AtpFault)
      → answer_fault rs key packets ≡ Some fault → True fault
  answer_true rs key [] fault is = told atps.EmptyAnswer fault is tt
  answer_true rs key (p ∷ ps) fault is = go (nat_le (length (p ∷ ps)) 8 && fit (p ∷ ps)) is
    where
      go : (b : Bool) → cond b (record_fault (find (is_key key) rs)) (Some atps.AtpTooLong) ≡ Some fault → True fault
      go true h = record_true (find (is_key key) rs) fault h
      go false h = told atps.AtpTooLong fault h tt

  pub answer_safe : RecordLaws → (key : Key) (packets : List Packet) (fault : Option AtpFault)
      → answer_fault n.atp.transactions.service_responder key packets ≡ fault → Safe
      (over (with_transactions n.atp) (answered_with n.seat n.atp.transactions key packets fault))
  answer_safe laws key packets (Some fault) is =
      refused A Wants n n.atp (OfTransactions fault)
      (answer_true n.atp.transactions.service_responder key packets fault is)
  answer_safe laws key packets None is =
      let sent = asked_for (find (is_key key) n.atp.transactions.service_responder) key packets in
      let most = laws.answered (find (is_key key) n.atp.transactions.service_responder) key packets in
      let eight = answer_fits n.atp.transactions.service_responder key packets is in
      quiet A Wants n n.atp (over (with_transactions n.atp) (answered_with n.seat n.atp.transactions key packets None))
      refl
      (packets_few (serving n.seat.net n.seat.number) atp_kind sent 131070 (omega (arith, most, eight)))

  expiry_true : (o : Option Record) (fault : AtpFault) → expiry_fault o ≡ Some fault → True fault
  expiry_true None fault is = told atps.NoSuch fault is tt
  expiry_true (Some r) fault is = go r.state is
    where
      go : (s : State) → expiry_fault_of s ≡ Some fault → True fault
      go (Waiting xo bitmap) h = told atps.StillPending fault h tt
      go (Answered packets) h = absurd (cc)
      go Released h = absurd (cc)

  expires : (socket : ℕ) (key : Key) (fault : Option AtpFault)
      → expiry_fault (find (is_key key) (records_at n.atp socket)) ≡ fault → Safe (expired n.atp socket key fault)
  expires socket key None is = quiet A Wants n n.atp (expired n.atp socket key None) refl (omega arith)
  expires socket key (Some fault) is =
      refused A Wants n n.atp (OfTransactions fault)
      (expiry_true (find (is_key key) (records_at n.atp socket)) fault is)

  pub release_safe : (socket : ℕ) (key : Key) → Safe (release_fired n.atp socket key)
  release_safe socket key = expires socket key (expiry_fault (find (is_key key) (records_at n.atp socket))) refl
