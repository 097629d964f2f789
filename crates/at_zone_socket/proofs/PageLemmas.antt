-- Zone requests that were written are served, and pages that were written are taken.
use Rattle.std.proofs.Common.{◌≡◌, inl, inr, ℕ, ◌^◌, ◌<◌, ◌≤◌, Bool, List, [], ◌++◌, subst, ◌∙◌}
use Rattle.std.proofs.lemmas.List.{append-nil}
use Rattle.at_ddp.specs.declared.address.Address.{Address}
use Rattle.at_atp_frame.specs.Frames.{Request}
use Rattle.at_atp_requester.specs.Requests.{Heard}
use Rattle.at_zip.specs.Page as page
use Rattle.at_zip.specs.Fault as zip
use Rattle.at_zip.specs.Request.{RequestSpells, request_user}
use Rattle.at_zip.specs.Tables.{Tables, table_of}
use Rattle.at_zip.specs.declared.request.TableChoice.{TableChoice}
use Rattle.at_zip.specs.declared.fault.ZipFault.{ZipFault}
use Rattle.at_event.specs.Outcomes.{Outcome}
use Rattle.at_event.specs.declared.seat.Seat.{Seat}
use Rattle.at_zone_socket.specs.AtpParts.{AtpState}
use Rattle.at_zone_socket.specs.ZoneSockets.{ZoneState}
use Rattle.at_zone_socket.specs.ZoneReading.{ReadsPage, TakesPage}
use Rattle.at_zone_socket.specs.ZoneSocket.{AtZones, zone_asked}

pub asked_is_served : (A : Type 0) (s : Seat) (a : ZoneState) (from : Address) (tables : Tables) (which : TableChoice)
    (mask : ℕ) (xo : Bool) (timer tid start : ℕ) (bytes : List ℕ) (o : Outcome A ZoneState) →
    ((v : TableChoice) (k : ℕ) → 1 ≤ k → k < 2 ^ 16 → RequestSpells (request_user v k) v k)
    → ((user : List ℕ) (v w : TableChoice) (m k : ℕ) → RequestSpells user v m → RequestSpells user w k
    → (v ≡ w) × (m ≡ k))
    → 1 ≤ start → start < 2 ^ 16 →
    AtZones s a from tables (Request mask xo timer tid (request_user which start) bytes) o → o
    ≡ zone_asked s a from (Request mask xo timer tid (request_user which start) bytes) (table_of which tables) start
asked_is_served A s a from tables which mask xo timer tid start bytes o reads alone some fits (inl h) =
    let one = alone (request_user which start) h.which which h.start start h.asks (reads which start some fits) in
    h.outcome
    ∙ (λ i. zone_asked {A = A} s a from (Request mask xo timer tid (request_user which start) bytes)
    (table_of (one.0 i) tables) (one.1 i))
asked_is_served A s a from tables which mask xo timer tid start bytes o reads alone some fits (inr h) =
    absurd (h.0 which start (reads which start some fits))

pub taken_as_written : (A : Type 0) (s : Seat) (a : AtpState) (h : Heard A) (from : Address) (names : List (List ℕ))
    (p : page.Page) (o : Outcome A AtpState) →
    ((q : page.Page) (rest : List ℕ) → page.IsLawful q → page.Spells (page.page_user q) (page.page_data q ++ rest) q) →
    ((user bytes : List ℕ) (q s : page.Page) → page.Spells user bytes q → page.Spells user bytes s → q ≡ s) →
    ((user bytes : List ℕ) (q : page.Page) → page.Spells user bytes q → (fault : ZipFault)
    → ¬ zip.IsFirstFault fault user bytes) →
    page.IsLawful p → ReadsPage s a h from names (record { user = page.page_user p; data_ = page.page_data p }) o
    → TakesPage s a h from names p o
taken_as_written A s a h from names p o reads alone faultless ok read = go read
  where
    spelled-p : page.Spells (page.page_user p) (page.page_data p) p
    spelled-p = subst (λ bytes. page.Spells (page.page_user p) bytes p) (append-nil (page.page_data p)) (reads p [] ok)

    go : ReadsPage s a h from names (record { user = page.page_user p; data_ = page.page_data p }) o
        → TakesPage s a h from names p o
    go (inl had) = subst (λ (q : page.Page). TakesPage s a h from names q o)
        (alone (page.page_user p) (page.page_data p) had.page p had.spelled spelled-p) had.outcome
    go (inr had) = absurd (faultless (page.page_user p) (page.page_data p) p spelled-p had.fault had.first)
