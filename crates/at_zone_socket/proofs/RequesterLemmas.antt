-- What comes of a packet for the socket that asks: of the page that a reading asked for, and of any other.
use Rattle.std.proofs.Common.{◌≡◌, ℕ, Bool, true, false, List, Some, refl, inl, inr, Bor}
use Rattle.std.proofs.Math.Bool.{and-false}
use Rattle.at_ddp.specs.Outbox.{Posted}
use Rattle.at_ddp.specs.declared.address.Address.{Address}
use Rattle.at_atp_frame.specs.Frames as Frames
use Rattle.at_atp_frame.specs.Frames.{Content, number_of}
use Rattle.at_atp_frame.specs.declared.frame.Frame.{Frame}
use Rattle.at_atp_frame.specs.declared.frame.Frame.TheVariants as frames
use Rattle.at_atp_requester.specs.Requests.{heard}
use Rattle.at_zip.specs.Fault as zip
use Rattle.at_zip.specs.Page as pages
use Rattle.at_zip.specs.declared.fault.ZipFault.{ZipFault}
use Rattle.at_event.specs.declared.Report.{Report}
use Rattle.at_event.specs.declared.Report.TheVariants as report
use Rattle.at_event.specs.declared.zones.ZoneReport.TheVariants as zip_report
use Rattle.at_event.specs.declared.seat.Seat.{Seat}
use Rattle.at_event.specs.Outcomes.{Outcome, Comes, IsStep, over}
use Rattle.at_event.proofs.OutcomeLemmas.{comes_wider, step_comes, step_over}
use Rattle.at_transaction_socket.specs.TransactionSockets.{TransactionState, packet_in}
use Rattle.at_transaction_socket.specs.RequesterSocket.{hears_other}
use Rattle.at_zone_socket.specs.AtpHearing.{AtRequester}
use Rattle.at_zone_socket.specs.AtpParts.{AtpState, with_transactions}
use Rattle.at_zone_socket.specs.ZoneReading.{ReadsPage, TakesPage, is_page, is_reading, names_read, reading_ends}

-- ---- a packet that no reading asked for

-- only a response is a page
pub no_response : (A : Type 0) (a : AtpState) (from : Address) (f : Frame)
    → ((place : ℕ) (eom sts : Bool) (tid : ℕ) (user : List ℕ) (bytes : Bor (List ℕ)) → f
    ≡ frames.Response place eom sts tid user bytes → ⊥) → is_page A a from (Frames.content f) ≡ false
no_response A a from (frames.Request mask xo timer tid user bytes) apart = and-false (is_reading a.zones.reading tid)
no_response A a from (frames.Response place eom sts tid user bytes) apart =
    absurd (apart place eom sts tid user bytes refl)
no_response A a from (frames.Release tid) apart = and-false (is_reading a.zones.reading tid)

pub comes_other : (A : Type 0) (s : Seat) (a : AtpState) (from : Address) (f : Content) → is_page A a from f ≡ false
    → (before after : List Posted) (r : Report A) (new : TransactionState)
    → IsStep (hears_other s a.transactions (number_of f) (heard a.transactions.requester from f)) a.transactions before
    r new after → Comes (AtRequester s a from f) a before r (with_transactions a new) after
comes_other A s a from f other before after r new step =
    let o : Outcome A TransactionState =
    hears_other s a.transactions (number_of f) (heard a.transactions.requester from f) in
    step_comes (AtRequester s a from f) a before (over (with_transactions a) o) r (with_transactions a new) after
    (rw other refl) (step_over (with_transactions a) a a.transactions refl before r new after o step)

-- ---- the page that a reading asked for

module _ {A : Type 0} (s : Seat) (a : AtpState) (from : Address) (f : Content)
    (mine : is_page A a from f ≡ true) (before after : List Posted) (r : Report A) (new : AtpState) where
  page_at : (o : Outcome A AtpState)
      → ReadsPage s a (heard {A = A} a.transactions.requester from f) from (names_read a.zones.reading) (packet_in f) o
      → AtRequester s a from f o
  page_at o p = rw mine p

  pub comes_page : (p : pages.Page) → pages.Spells (packet_in f).user (packet_in f).data_ p
      → Comes (TakesPage s a (heard {A = A} a.transactions.requester from f) from (names_read a.zones.reading) p) a
      before r new after →
      Comes (AtRequester s a from f) a before r new after
  comes_page p is =
      comes_wider (TakesPage s a (heard {A = A} a.transactions.requester from f) from (names_read a.zones.reading) p)
      (AtRequester s a from f) a before r new after
      (λ o takes. page_at o (inl (record { page = p; spelled = is; outcome = takes })))

  pub comes_fault : (fault : ZipFault) (number : ℕ) → zip.IsFirstFault fault (packet_in f).user (packet_in f).data_
      → zip.number_of fault ≡ Some number →
      IsStep (reading_ends s a (heard {A = A} a.transactions.requester from f) (report.Zones (zip_report.Fault
      number))) a before
      r
      new after
      → Comes (AtRequester s a from f) a before r new after
  comes_fault fault number first is =
      step_comes (AtRequester s a from f) a before
      (reading_ends s a (heard {A = A} a.transactions.requester from f) (report.Zones (zip_report.Fault number))) r new
      after
      (page_at (reading_ends s a (heard {A = A} a.transactions.requester from f) (report.Zones (zip_report.Fault
      number)))
      (inr (record { fault = fault; number = number; first = first; numbered = is; outcome = refl })))
