-- The page that comes to a reading, and what the reading is then.
use Rattle.std.proofs.Common.{◌≡◌, ℕ, ◌+◌, ◌-◌, ◌≤◌, Bool, true, List}
use Rattle.std.proofs.Common.{[], ◌++◌, length, map, Option, sym, ap, subst, ◌∙◌, append-nil}
use Rattle.std.proofs.Common.{arith}
use Rattle.std.specs.Prelude.{slice_get}
use Rattle.std.specs.List.{Contains}
use Rattle.std.proofs.lemmas.List.{length-append, length-drop}
use Rattle.at_ddp.specs.declared.address.Address.{Address}
use Rattle.at_atp_frame.specs.Packets.{Packet}
use Rattle.at_atp.specs.Transactions as atp
use Rattle.at_zip.specs.Fault.{IsFirstFault}
use Rattle.at_zip.specs.Page.{Page, IsPageFrom, Spells, page_of, page_user, page_data}
use Rattle.at_zip.specs.Reading.{BeginsTable, place_after}
use Rattle.at_zip.specs.Tables.{Tables, table_of}
use Rattle.at_zip.specs.Zones.{IsTable}
use Rattle.at_zip.specs.declared.fault.ZipFault.{ZipFault}
use Rattle.at_zone_socket.specs.ZoneSockets.{Reading as ZoneReading, zones_at}
use Rattle.at_transaction_socket.specs.TransactionSockets.{asking}
use Rattle.at_zone_socket.specs.ZoneSocket.{page_packet}
use Rattle.at_world.specs.Machine.AtpGuards.{Reading}
use Rattle.at_world.specs.Transactions.{Transaction}
use Rattle.at_world.proofs.Parts.Atp.Lists.{only_packet}
use Rattle.at_world.proofs.Parts.Atp.OnWire.{wired, asked_unwired}
use Rattle.at_world.proofs.Parts.Atp.Readings.{ReadingLaws, tables_at, HasStood, PageAt, Reads}
use Rattle.std.proofs.lemmas.Option.{same_Some}

module _ (laws : ReadingLaws) (net : ℕ) (router : Option ℕ) (past : List Tables) (asked : List Transaction)
    (readings : List Reading) (k : ℕ) (read : ZoneReading) (r : Reads net router past asked readings k read)
    (from : Address) (newest : atp.Asked (map wired asked) (asking net k) read.tid from) (place : ℕ) (ends : Bool)
    (packet : Packet) (part : atp.IsPart newest.transaction place ends packet) where
  one : newest.transaction ≡ wired (r.first).transaction
  one =
      let mine = asked_unwired asked (asking net k) read.tid from newest in
      mine.1
      ∙ ap wired (same_Some (mine.0).transaction (r.first).transaction (sym (mine.0).newest ∙ (r.first).newest))

  pub comes_from_router : from ≡ zones_at net r.server
  comes_from_router = sym newest.asked_it ∙ ap (λ (t : atp.Transaction). t.responder) one ∙ (r.first).asked_it

  abbrev its : PageAt past r.since read.which read.names part.answer
  its = r.pages part.answer (subst (λ (t : atp.Transaction). Contains t.answers part.answer) one part.given)

  abbrev table_then : List (List ℕ)
  table_then = table_of read.which (tables_at past its.moment)

  is_packet : page_packet table_then (place_after read.names) ≡ packet
  is_packet = only_packet (page_packet table_then (place_after read.names)) packet place
      (ap (λ l. slice_get l place) (sym its.is) ∙ part.there)

  abbrev then_page : Page
  then_page = page_of table_then (place_after read.names)

  spells_it : Spells packet.user packet.data_ then_page
  spells_it = subst (λ (p : Packet). Spells p.user p.data_ then_page) is_packet
      (subst (λ l. Spells (page_user then_page) l then_page) (append-nil (page_data then_page))
      (laws.written then_page [] (laws.lawful table_then (place_after read.names) its.is_table)))

  is_page : (page : Page) → Spells packet.user packet.data_ page → page ≡ then_page
  is_page page spells = laws.one_page packet.user packet.data_ page then_page spells spells_it

  -- it is the page of a table that stood
  page_of_stood : (page : Page) → Spells packet.user packet.data_ page → (table : List (List ℕ))
      → HasStood past r.since read.which table → page ≡ page_of table (place_after read.names)
  page_of_stood page spells table stood = is_page page spells
      ∙ ap (λ t. page_of t (place_after read.names)) (stood its.moment its.late its.within)

  pub goes_on : (page : Page) → Spells packet.user packet.data_ page → (table : List (List ℕ))
      → HasStood past r.since read.which table → BeginsTable table (read.names ++ page.names)
  goes_on page spells table stood = subst (λ (p : Page). BeginsTable table (read.names ++ p.names))
      (sym (page_of_stood page spells table stood)) (laws.begins table read.names (r.begins table stood))

  pub has_all : (page : Page) → Spells packet.user packet.data_ page → page.last ≡ true → (table : List (List ℕ))
      → HasStood past r.since read.which table → read.names ++ page.names ≡ table
  has_all page spells last table stood =
      let same = page_of_stood page spells table stood in
      ap (λ (p : Page). read.names ++ p.names) same
      ∙ laws.whole table read.names (r.begins table stood) (ap (λ (p : Page). p.last) (sym same) ∙ last)

  pub fits : (page : Page) → Spells packet.user packet.data_ page → length read.names + length page.names ≤ 1024
  fits page spells = subst (λ (p : Page). length read.names + length p.names ≤ 1024) (sym (is_page page spells))
      (few table_then its.is_table (laws.longest table_then (place_after read.names)))
    where
      few : (table : List (List ℕ)) → IsTable table → IsPageFrom table (place_after read.names) then_page
          → length read.names + length then_page.names ≤ 1024
      few table is p =
          let least = r.few in
          let most = is.count in
          let left : length table - (place_after read.names - 1)
          ≡ length (then_page.names ++ p.rest) = sym (length-drop (place_after read.names - 1) table)
          ∙ ap (length {A = List ℕ}) p.begins in
          omega (arith, least, most, left, length-append then_page.names p.rest)

  pub no_fault : (fault : ZipFault) → IsFirstFault fault packet.user packet.data_ → ⊥
  no_fault fault first = laws.faultless packet.user packet.data_ then_page spells_it fault first
