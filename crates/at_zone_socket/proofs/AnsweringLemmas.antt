-- What the socket that asks tells alone is told by no socket that answers.
use Rattle.std.proofs.Common.{◌≡◌, ℕ, Bool, true, false, cond, List, Option, Some, None, inl, inr, refl, sym, ap, ◌∙◌}
use Rattle.std.specs.Prelude.{◌==◌, option_map}
use Rattle.at_ddp.specs.Datagram.{Content as Datagram}
use Rattle.at_ddp.specs.declared.address.Address.{Address}
use Rattle.at_atp_frame.specs.Frames.{Content, Request, Response, Release, Spells}
use Rattle.at_atp_frame.specs.Packets.{Packet}
use Rattle.at_atp_responder.specs.Records.{Received, finds_no_place, received}
use Rattle.at_atp_responder.specs.declared.reception.Key.{Key}
use Rattle.at_atp_responder.specs.declared.reception.Reception.{Reception}
use Rattle.at_atp_responder.specs.declared.reception.Reception.TheVariants as reception
use Rattle.at_zip.specs.Tables.{Tables, table_of}
use Rattle.at_event.specs.Outcomes.{Outcome, idle}
use Rattle.at_event.specs.declared.Report.{Report}
use Rattle.at_event.specs.declared.Report.TheVariants as report
use Rattle.at_event.specs.declared.transactions.TransactionReport.TheVariants as atp_report
use Rattle.at_event.specs.declared.zones.ZoneReport.TheVariants as zip_report
use Rattle.at_event.specs.declared.seat.Seat.{Seat}
use Rattle.at_event.specs.declared.service.Reply.{Reply}
use Rattle.at_transaction_socket.specs.TransactionSockets.{TransactionState}
use Rattle.at_transaction_socket.specs.Responders.{released_report}
use Rattle.at_transaction_socket.specs.ServiceSocket.{at_service, service_heard}
use Rattle.at_zone_socket.specs.AtpHearing.{AtRequester, HearsAt, HearsAtp, Requester, Service, Zones}
use Rattle.at_zone_socket.specs.AtpParts.{AtpState}
use Rattle.at_zone_socket.specs.ZoneSocket.{AtZones, at_zones, page_packet}
use Rattle.at_zone_socket.specs.ZoneSockets.{ZoneState}

-- something that none of these reports tells
pub record TellsNothing (A X : Type 0) (q : Report A → Option X) : Type 0 where
  pub ignored : q report.Ignored ≡ None
  pub again : q report.Again ≡ None
  pub released : q (report.Transactions atp_report.Released) ≡ None
  pub asked : (key : Key) (user bytes : List ℕ) → q (report.Transactions (atp_report.Asked key user bytes)) ≡ None
  pub served : (count : ℕ) → q (report.Zones (zip_report.Served count)) ≡ None
  pub refused : (number : ℕ) → q (report.Refused number) ≡ None

-- a datagram for the socket that asks, whose packet does this there
pub record ByAsker (A : Type 0) (s : Seat) (a : AtpState) (d : Datagram) (o : Outcome A AtpState) : Type 0 where
  pub socket : (d.to.socket == 128) ≡ true
  pub packet : Content
  pub spelled : Spells d.data_ packet
  pub at : AtRequester s a d.from packet o

module _ (A X : Type 0) (q : Report A → Option X) (none : TellsNothing A X q) where
  abbrev Nothing : {S : Type 0} → Outcome A S → Type 0
  Nothing o = q o.report ≡ None

  as_told : {S : Type 0} (o x : Outcome A S) → o ≡ x → Nothing x → Nothing o
  as_told {S} o x is nothing = ap (λ (y : Outcome A S). q y.report) is ∙ nothing

  released_none : (r : Reception) → q (released_report r) ≡ None
  released_none reception.Ignored = none.ignored
  released_none (reception.Again count) = none.ignored
  released_none reception.Released = none.released
  released_none (reception.New key) = none.ignored

  service_none : (s : Seat) (a : TransactionState) (t : Received) (user bytes : List ℕ) (said : Reply A) (r : Reception)
      → Nothing (at_service s a t user bytes said r)
  service_none s a t user bytes said reception.Ignored = none.ignored
  service_none s a t user bytes said (reception.Again count) = none.again
  service_none s a t user bytes said reception.Released = none.released
  service_none s a t user bytes said (reception.New key) = none.asked key user bytes

  zones_none : (s : Seat) (a : ZoneState) (t : Received) (p : Packet) (r : Reception) → Nothing (at_zones s a t p r)
  zones_none s a t p reception.Ignored = none.ignored
  zones_none s a t p (reception.Again count) = none.again
  zones_none s a t p reception.Released = none.released
  zones_none s a t p (reception.New key) = none.served _

  either_none : {S : Type 0} (b : Bool) (x y : Outcome A S) → Nothing x → Nothing y → Nothing (cond b x y)
  either_none true x y h g = h
  either_none false x y h g = g

  at_service_none : (said : Reply A) (s : Seat) (a : TransactionState) (from : Address) (f : Content)
      → Nothing (service_heard said s a from f)
  at_service_none said s a from (Request mask xo timer tid user bytes) =
      let f = Request mask xo timer tid user bytes in
      either_none (finds_no_place a.service_responder from f) (idle a (report.Refused 14)) _
      (none.refused 14) (service_none s a (received a.service_responder from f) user bytes said
      (received a.service_responder from f).reception)
  at_service_none said s a from (Response place eom sts tid user bytes) = none.ignored
  at_service_none said s a from (Release tid) =
      released_none (received a.service_responder from (Release tid)).reception

  at_zones_none : (s : Seat) (a : ZoneState) (from : Address) (tables : Tables) (f : Content)
      (o : Outcome A ZoneState) → AtZones s a from tables f o → Nothing o
  at_zones_none s a from tables (Request mask xo timer tid user bytes) o (inl h) =
      let f = Request mask xo timer tid user bytes in
      as_told o _ h.outcome (either_none (finds_no_place a.zone_responder from f) (idle a (report.Refused 14)) _
      (none.refused 14) (zones_none s a (received a.zone_responder from f) (page_packet
      (table_of h.which tables) h.start)
      (received a.zone_responder from f).reception))
  at_zones_none s a from tables (Request mask xo timer tid user bytes) o (inr h) = as_told o _ h.1 none.ignored
  at_zones_none s a from tables (Response place eom sts tid user bytes) o h = as_told o _ h none.ignored
  at_zones_none s a from tables (Release tid) o h = as_told o _ h
      (released_none (received a.zone_responder from (Release tid)).reception)

  -- so it is told by a packet for the socket that asks
  module _ (said : Reply A) (s : Seat) (a : AtpState) (d : Datagram) (o : Outcome A AtpState) where
    zone_socket : (t : Option Tables) → HearsAt said s a d (option_map Zones t) o → Nothing o
    zone_socket None h = as_told o _ h none.ignored
    zone_socket (Some table) (inl h) =
        let p = h.outcome in
        ap (λ (y : Outcome A AtpState). q y.report) p.2
        ∙ at_zones_none s a.zones d.from table h.packet p.0 p.1
    zone_socket (Some table) (inr h) = as_told o _ h.outcome (none.refused h.number)

    serving : (b : Bool) → HearsAt said s a d (cond b (option_map Zones a.zones.tables) None) o → Nothing o
    serving true h = zone_socket a.zones.tables h
    serving false h = as_told o _ h none.ignored

    answering : (b : Bool) → HearsAt said s a d
        (cond b (Some Service) (cond (d.to.socket == 6) (option_map Zones a.zones.tables) None)) o → Nothing o
    answering true (inl h) = as_told o _ h.outcome (at_service_none said s a.transactions d.from h.packet)
    answering true (inr h) = as_told o _ h.outcome (none.refused h.number)
    answering false h = serving (d.to.socket == 6) h

    pub by_asker : HearsAtp said s a d o → (x : X) → q o.report ≡ Some x → ByAsker A s a d o
    by_asker h x tells = go (d.to.socket == 128) refl h
      where
        other : Nothing o → ByAsker A s a d o
        other nothing = let both : None ≡ Some x = sym nothing ∙ tells in absurd (cc)

        go : (b : Bool) → (d.to.socket == 128) ≡ b
            → HearsAt said s a d (cond b (Some Requester)
            (cond (d.to.socket == 129) (Some Service) (cond (d.to.socket == 6) (option_map Zones a.zones.tables)
            None))) o
            → ByAsker A s a d o
        go true e (inl g) = record { socket = e; packet = g.packet; spelled = g.spelled; at = g.outcome }
        go true e (inr g) = other (as_told o _ g.outcome (none.refused g.number))
        go false e g = other (answering (d.to.socket == 129) g)
