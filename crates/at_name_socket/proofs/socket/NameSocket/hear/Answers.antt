use Rattle.std.proofs.Common.{[], refl, sym, subst}
use Rattle.std.proofs.lemmas.Bool.{false≢true}
use Rattle.at_nbp.specs.Packets.{packet_content}
use Rattle.at_name_socket.specs.NameSockets.{Takes}
use Rattle.at_name_socket.proofs.OwedLemmas.{SomeStep, keeps_some, owed, relays_some}
use Rattle.at_name_socket.proofs.socket.NameSocket.hear.Goals as goal
use Rattle.at_ddp.proofs.OutboxLemmas.{sends_nothing}

pub returns-in_ok-heard-in-Reply-clause-ok : goal.returns-in_ok-heard-in-Reply-clause-ok
returns-in_ok-heard-in-Reply-clause-ok g c = (
  [],
  record {
    packet = packet_content c.in_ok-packet.packet.now;
    rest = c.in_ok-packet.ensures.found.0;
    begins = c.in_ok-packet.ensures.found.1;
    takes = subst (λ f. Takes c.args.self.now (packet_content c.in_ok-packet.packet.now) f c.in_ok-heard-in-Reply.heard
        c.keep.new.self []) (sym c.in-Reply.is) c.in_ok-heard-in-Reply.ensures.ok;
  },
  sends_nothing c.args.out.now,
)

pub returns-in_err-heard-in-LookUp-clause-owed : goal.returns-in_err-heard-in-LookUp-clause-owed
returns-in_err-heard-in-LookUp-clause-owed g c =
    let p = packet_content c.in_ok-packet.packet.now in
    let some = c.in_err-heard-in-LookUp.ensures.owed in
    owed c.from_residual-in_err-heard-in-LookUp.result c.args.self.now (c.args.arrived.now).data_
    c.in_ok-packet.ensures.found.0 p c.in_ok-packet.ensures.found.1
    (subst (SomeStep c.args.self.now p) (sym c.in-LookUp.is) (some.0, c.args.self.now, some.1, (some.2, refl), some.3))

pub returns-in_err-heard-in-Reply-clause-owed : goal.returns-in_err-heard-in-Reply-clause-owed
returns-in_err-heard-in-Reply-clause-owed g c =
    let p = packet_content c.in_ok-packet.packet.now in
    owed c.from_residual-in_err-heard-in-Reply.result c.args.self.now (c.args.arrived.now).data_
    c.in_ok-packet.ensures.found.0 p c.in_ok-packet.ensures.found.1
    (subst (SomeStep c.args.self.now p) (sym c.in-Reply.is)
    (keeps_some c.args.self.now p (λ none. absurd (false≢true (c.in_err-heard-in-Reply.ensures.ignored none)))))

pub returns-in_err-heard-in_default-clause-owed : goal.returns-in_err-heard-in_default-clause-owed
returns-in_err-heard-in_default-clause-owed g c =
    let p = packet_content c.in_ok-packet.packet.now in
    owed c.from_residual-in_err-heard-in_default.result c.args.self.now (c.args.arrived.now).data_
    c.in_ok-packet.ensures.found.0 p c.in_ok-packet.ensures.found.1
    (relays_some c.args.self.now p p.function (λ is_lookup. c.in_default.not-LookUp is_lookup)
    (λ is_reply. c.in_default.not-Reply is_reply)
    (λ none. absurd (false≢true (c.in_err-heard-in_default.ensures.ignored none))))
