use Rattle.std.proofs.Common.{◌≡◌, ◌+◌, true, Some, Ok, length, sym, ap, subst, ◌∙◌}
use Rattle.std.specs.Prelude.{IfSome, nat_lt}
use Rattle.std.proofs.lemmas.Bool.{and_parts, true≢false}
use Rattle.at_atp_frame.specs.Frames.{Content, content, number_of}
use Rattle.at_atp_frame.specs.Packets.{Packet}
use Rattle.at_atp_requester.specs.Requests.{finishes}
use Rattle.at_zip.specs.Page as pages
use Rattle.at_event.specs.Outcomes.{Outcome}
use Rattle.at_event.specs.declared.Report.TheVariants as report
use Rattle.at_event.specs.declared.transactions.TransactionReport.TheVariants as atp_report
use Rattle.at_transaction_socket.specs.TransactionSockets.{packet_in}
use Rattle.at_zone_socket.specs.AtpHearing.{AtRequester}
use Rattle.at_zone_socket.specs.AtpParts.{AtpState}
use Rattle.at_zone_socket.specs.ZoneReading.{is_page, is_reading, names_read}
use Rattle.at_zone_socket.proofs.Opened.{opened}
use Rattle.at_zone_socket.proofs.ReadingLemmas.{asks_of_parts, asks_parts, begun_in, no_page_begins_none, page_draws}
use Rattle.at_zone_socket.proofs.TurningLemmas.{goes_on_by}
use Rattle.at_zone_socket.proofs.atp_part.AtpPart.draw_of_page.Goals as goal

pub returns-in-Ok-clause-found : goal.returns-in-Ok-clause-found
returns-in-Ok-clause-found g c =
    let A = g.row.A.Denot in
    let s = c.args.packet.now.seat in
    let from = c.args.packet.now.from in
    let f : Content = content c.args.packet.now.frame in
    let inside : AtpState = opened c.self.view_is in
    let same = ap (λ x. packet_in (content x)) c.in-Response.is in
    let mine : is_page A inside from f ≡ true = sym c.is_page.ensures.page ∙ c.if-not-is_page.false in
    let parts = and_parts (is_reading inside.zones.reading (number_of f))
    (finishes A inside.transactions.requester from f) mine in
    let turns = c.next_tid.ensures.turn from f parts.1
    (sym (ap (λ x. Some (number_of (content x))) c.in-Response.is)) in
    let asks = asks_parts inside.zones.reading c.asks_on.result c.in-Ok.page.last (number_of f)
    (length c.in-Ok.page.names) c.asks_on.ensures c.if-asks_on.true parts.0 in
    subst (λ (a : AtpState). IfSome c.next_tid.result (λ tid. (o : Outcome A AtpState) × AtRequester s a from f o
    × (o.report ≡ report.Transactions (atp_report.Begun tid)))) c.self.view_is
    (page_draws A s inside from f mine c.in-Ok.page
    (subst (λ (x : Packet). pages.Spells x.user x.data_ c.in-Ok.page) (sym same) c.in-Ok.ensures.found) asks.1
    asks.0 c.next_tid.result turns)

pub returns-in-Ok-clause-only : goal.returns-in-Ok-clause-only
returns-in-Ok-clause-only g c = λ o at tid is.
    let A = g.row.A.Denot in
    let s = c.args.packet.now.seat in
    let from = c.args.packet.now.from in
    let f : Content = content c.args.packet.now.frame in
    let inside : AtpState = opened c.self.view_is in
    let mine : is_page A inside from f ≡ true = sym c.is_page.ensures.page ∙ c.if-not-is_page.false in
    let parts = and_parts (is_reading inside.zones.reading (number_of f))
    (finishes A inside.transactions.requester from f) mine in
    let on = goes_on_by A s inside from f tid
    (o, subst (λ (a : AtpState). AtRequester s a from f o) (sym c.self.view_is) at, is) mine in
    c.next_tid.ensures.turn from f parts.1 (sym (ap (λ x. Some (number_of (content x))) c.in-Response.is)) ∙ on.next

pub returns-in_default-read_page-clause-only : goal.returns-in_default-read_page-clause-only
returns-in_default-read_page-clause-only g c = λ o at tid is.
    let A = g.row.A.Denot in
    let s = c.args.packet.now.seat in
    let from = c.args.packet.now.from in
    let f : Content = content c.args.packet.now.frame in
    let inside : AtpState = opened c.self.view_is in
    let mine : is_page A inside from f ≡ true = sym c.is_page.ensures.page ∙ c.if-not-is_page.false in
    let parts = and_parts (is_reading inside.zones.reading (number_of f))
    (finishes A inside.transactions.requester from f) mine in
    let on = goes_on_by A s inside from f tid
    (o, subst (λ (a : AtpState). AtRequester s a from f o) (sym c.self.view_is) at, is) mine in
    let same = ap (λ x. packet_in (content x)) c.in-Response.is in
    let both : Ok c.in-Ok.page ≡ Ok on.page = sym c.in-Ok.is
    ∙ c.read_page.ensures.only on.page (subst (λ (x : Packet). pages.Spells x.user x.data_ on.page) same on.spelled) in
    let its : c.in-Ok.page ≡ on.page = cc in
    let asks = asks_of_parts inside.zones.reading c.asks_on.result c.in-Ok.page.last (number_of f)
    (length c.in-Ok.page.names) c.asks_on.ensures parts.0
    (ap (λ (p : pages.Page). p.last) its ∙ on.goes_on)
    (ap (λ (p : pages.Page). nat_lt 1024 (length (names_read inside.zones.reading) + length p.names)) its ∙ on.few) in
    absurd (true≢false (sym asks ∙ c.if-asks_on.false))

pub returns-in_default-read_page-2-clause-only : goal.returns-in_default-read_page-2-clause-only
returns-in_default-read_page-2-clause-only g c = λ o at tid is.
    let f : Content = content c.args.packet.now.frame in
    let same = ap (λ x. packet_in (content x)) c.in-Response.is in
    let none = no_page_begins_none g.row.A.Denot c.args.packet.now.seat c.args.self.now c.args.packet.now.from f
    (λ p spelled. let both = sym c.in_default-read_page.is
    ∙ c.read_page.ensures.only p (subst (λ (x : Packet). pages.Spells x.user x.data_ p) same spelled) in absurd
    (cc)) o at in
    let both = sym none ∙ ap begun_in is in
    absurd (cc)
