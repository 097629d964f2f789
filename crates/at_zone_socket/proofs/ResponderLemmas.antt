-- What comes of a packet for the router's zone socket.
use Rattle.std.proofs.Common.{◌≡◌, ℕ, Bool, true, false, List, ◌++◌, map, Option, Some, None, refl, sym, ap, ◌∙◌, inl}
use Rattle.std.proofs.Common.{inr}
use Rattle.std.specs.Prelude.{option_map}
use Rattle.std.proofs.lemmas.Bool.{false≢true, true≢false, false_from_ne_true}
use Rattle.std.proofs.lemmas.List.{append-nil}
use Rattle.at_ddp.specs.Datagram.{Content as Datagram}
use Rattle.at_ddp.specs.Outbox.{Posted}
use Rattle.at_ddp.specs.declared.address.Address.{Address}
use Rattle.at_ddp.specs.Protocols.{atp_kind}
use Rattle.at_atp_frame.specs.Frames as Frames
use Rattle.at_atp_frame.specs.Frames.{Content, spelled_all}
use Rattle.at_atp_responder.specs.Records.{Record, received, finds_no_place}
use Rattle.at_atp_responder.specs.declared.reception.Reception.{Reception}
use Rattle.at_atp_responder.specs.declared.reception.Reception.TheVariants as reception
use Rattle.at_zip.specs.Request.{RequestSpells}
use Rattle.at_zip.specs.Tables.{Tables, table_of}
use Rattle.at_zip.specs.declared.request.TableChoice.{TableChoice}
use Rattle.at_event.specs.declared.Report.{Report}
use Rattle.at_event.specs.declared.Report.TheVariants.{Ignored}
use Rattle.at_event.specs.declared.seat.Seat.{Seat}
use Rattle.at_event.specs.declared.service.Reply.{Reply}
use Rattle.at_event.specs.Outcomes.{wants_memory, Outcome, Over, idle, posted, sent_by, Comes}
use Rattle.at_event.specs.Kinds.{takes_memory}
use Rattle.at_event.proofs.OutcomeLemmas.{comes_with}
use Rattle.at_transaction_socket.specs.Responders.{is_release, released_report}
use Rattle.at_transaction_socket.proofs.ResponderLemmas.{release_some}
use Rattle.at_zone_socket.specs.AtpHearing.{HearsAt, HearsAtpFault, Zones}
use Rattle.at_zone_socket.specs.AtpParts.{AtpState, with_zones}
use Rattle.at_zone_socket.specs.ZoneSocket.{AtZones, page_packet, at_zones, zone_asked, zone_released}
use Rattle.at_zone_socket.specs.ZoneSockets.{ZoneState, zones_at}

-- ---- a packet

module _ (A : Type 0) (s : Seat) (a : ZoneState) (from : Address) (tables : Tables) where
  -- a response is nothing to the router
  pub no_request : (f : Content) → is_release f ≡ false
      → ((mask : ℕ) (xo : Bool) (timer tid : ℕ) (user bytes : List ℕ) → f ≡ Frames.Request mask xo timer tid user bytes
      → ⊥) →
      AtZones {A = A} s a from tables f (idle a Ignored)
  no_request (Frames.Request mask xo timer tid user bytes) other apart =
      absurd (apart mask xo timer tid user bytes refl)
  no_request (Frames.Response place eom sts tid user bytes) other apart = refl
  no_request (Frames.Release tid) other apart = absurd (true≢false other)

  -- a release came for the router
  pub zone_release : (f : Content) (before after : List Posted) (old new : List Record) (own : Address)
      (r : Report A) →
      is_release f ≡ true → old ≡ a.zone_responder → own ≡ zones_at s.net s.number → r
      ≡ released_report (received old from f).reception → new ≡ (received old from f).after →
      after ≡ before ++ map posted (sent_by own atp_kind (spelled_all (received old from f).sent))
      → Comes (AtZones s a from tables f) a before r (record a { zone_responder = new }) after
  zone_release (Frames.Request mask xo timer tid user bytes) before after old new own r this is at reports becomes
      sends = absurd (false≢true this)
  zone_release (Frames.Response place eom sts tid user bytes) before after old new own r this is at reports becomes
      sends = absurd (false≢true this)
  zone_release (Frames.Release tid) before after old new own r this is at reports becomes sends =
      let f = Frames.Release tid in
      comes_with (AtZones s a from tables f) a before (zone_released s a (received a.zone_responder from f)) r
      (record a { zone_responder = new }) after refl (
        reports ∙ ap (λ (rs : List Record). released_report (received rs from f).reception) is,
        (λ i. record a { zone_responder = (becomes ∙ ap (λ (rs : List Record). (received rs from f).after) is) i }),
        sends ∙ (λ i. before ++ map posted (sent_by (at i) atp_kind (spelled_all (received (is i) from f).sent))),
      )
      (ap wants_memory reports ∙ release_some A (received old from f).reception)

  module _ (mask : ℕ) (xo : Bool) (timer tid : ℕ) (user bytes : List ℕ) where
    pub bad_request : ((which : TableChoice) (start : ℕ) → ¬ RequestSpells user which start)
        → AtZones {A = A} s a from tables (Frames.Request mask xo timer tid user bytes) (idle a Ignored)
    bad_request none = inr (none, refl)

    pub good_request : (which : TableChoice) (start : ℕ) → RequestSpells user which start
        → AtZones {A = A} s a from tables (Frames.Request mask xo timer tid user bytes)
        (zone_asked s a from (Frames.Request mask xo timer tid user bytes) (table_of which tables) start)
    good_request which start asks = inl (record { which = which; start = start; asks = asks; outcome = refl })

-- a request that finds a place, and has an effect
pub zone_takes : (A : Type 0) (s : Seat) (a : ZoneState) (from : Address) (f : Content) (table : List (List ℕ))
    (start : ℕ) → (finds_no_place a.zone_responder from f ≡ true → ⊥)
    → ((received a.zone_responder from f).reception ≡ reception.Ignored → ⊥)
    → takes_memory (zone_asked {A = A} s a from f table start).report ≡ true
zone_takes A s a from f table start some heeds = rw (false_from_ne_true (finds_no_place a.zone_responder from f) some)
    (go (received a.zone_responder from f).reception heeds)
  where
    go : (r : Reception) → (r ≡ reception.Ignored → ⊥) → takes_memory
        (at_zones {A = A} s a (received a.zone_responder from f) (page_packet table start) r).report ≡ true
    go reception.Ignored heeds = absurd (heeds refl)
    go (reception.Again count) heeds = refl
    go reception.Released heeds = refl
    go (reception.New key) heeds = refl

-- ---- a datagram

module _ (A : Type 0) (said : Reply A) (s : Seat) (a : AtpState) (d : Datagram) where
  pub for_no_router : (before : List Posted) (tables : Option Tables) → tables ≡ None
      → Comes {A = A} (HearsAt said s a d (option_map Zones tables)) a before Ignored a before
  for_no_router before tables is = rw is (idle a Ignored, refl, (refl, refl, sym (append-nil before)))

  module _ (tables : Option Tables) (t : Tables) (is : tables ≡ Some t) (o : Outcome A AtpState) where
    pub router_fault : HearsAtpFault a d o → HearsAt said s a d (option_map Zones tables) o
    router_fault f = rw is (inr f)

    pub router_packet : (f : Content) → Frames.Spells d.data_ f
        → Over (with_zones a) (AtZones s a.zones d.from t f) o → HearsAt said s a d (option_map Zones tables) o
    router_packet f spelled at = rw is (inl (record { packet = f; spelled = spelled; outcome = at }))
