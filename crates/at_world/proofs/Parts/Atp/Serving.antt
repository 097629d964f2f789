-- The page that a router serves answers the request that was delivered.
use Rattle.std.proofs.Common.{◌≡◌, ℕ, zero, suc, List, [], ◌∷◌, map, Option, Some, None, ap, sym, subst, ◌∙◌}
use Rattle.std.specs.Prelude.{slice_get}
use Rattle.at_atp.specs.Network.{Sent, after}
use Rattle.at_atp.specs.Transactions as atp
use Rattle.at_atp_frame.specs.Frames.{number_of}
use Rattle.at_atp_frame.specs.Packets.{Packet}
use Rattle.at_ddp.specs.Posts.{packet_at}
use Rattle.at_ddp.specs.declared.address.Address.{Address}
use Rattle.at_event.specs.declared.Report.{Report}
use Rattle.at_event.specs.declared.Report.TheVariants as report
use Rattle.at_event.specs.declared.zones.ZoneReport.TheVariants as zip_report
use Rattle.at_setup.specs.declared.event.Event.{Event}
use Rattle.at_setup.specs.declared.event.Event.TheVariants as event
use Rattle.at_steps.specs.AtpHappenings.{atp_coding}
use Rattle.at_steps.specs.AtpSteps.{page_answer}
use Rattle.at_zip.specs.Tables.{table_of}
use Rattle.at_world.specs.Agreements.{AnswersItsRequest, ServesItsPage}
use Rattle.at_world.specs.Machine.AtpGuards.{AtpMachine}
use Rattle.at_world.specs.Machine.{Machine}
use Rattle.at_world.specs.Stories.{posted_packet}
use Rattle.at_world.specs.Transactions.{answered}
use Rattle.at_world.specs.Worlds.{WorldState}
use Rattle.at_world.proofs.Parts.Atp.OnWire.{answered_wired, one_key, wired}
use Rattle.at_world.proofs.Parts.Atp.Tie.{Grown}
use Rattle.at_world.proofs.CableTie.{Wire, spelled_wire}
use Rattle.at_world.proofs.Entries.{Entries}
use Rattle.at_world.proofs.Parts.{Tied}

-- each packet of the network stands at its place
pub stands_at : (wires : List Wire) (sent : List (Option Sent)) (which : ℕ) (s : Sent) → Entries atp_coding wires sent
    → packet_at sent which ≡ Some s → slice_get (map spelled_wire wires) which ≡ Some (posted_packet s)
stands_at [] [] which s all is = absurd (cc)
stands_at [] (y ∷ sent) which s all is = absurd all
stands_at (x ∷ wires) [] which s all is = absurd all
stands_at (x ∷ wires) (Some y ∷ sent) zero s all is = let same : y ≡ s = cc in ap (λ z. Some (spelled_wire z)) all.0
    ∙ ap (λ (z : Sent). Some (posted_packet z)) same
stands_at (x ∷ wires) (None ∷ sent) zero s all is = absurd (cc)
stands_at (x ∷ wires) (y ∷ sent) (suc i) s all is = stands_at wires sent i s all.1 is

-- what was served to a transaction answers the request of that transaction
served_to : (net node : ℕ) (m m' : AtpMachine) (requester from : Address) (tid number : ℕ) (packets : List Packet)
    → ServesItsPage net node m m' requester tid
    → map wired m'.asked ≡ map wired (answered m.asked from number packets)
    → ServesItsPage net node m m' from number
served_to net node m m' requester from tid number packets page joins =
    let one = page.asked in
    let same = one_key m.asked requester tid one.transaction one.newest
    (page_answer (table_of page.which m.tables) page.start) from number packets
    (sym (ap (λ ts. map wired ts) page.becomes) ∙ joins) in
    subst (λ at. ServesItsPage net node m m' at number) (sym same.0)
    (subst (ServesItsPage net node m m' requester) (sym same.1) page)

pub answers_its_request : (A : Type 0) (w : WorldState) (m : Machine) (t : Tied A w m) (e : Event A) (r : Report A)
    (w' : WorldState) (m' : Machine) (now : Tied A w' m')
    → Grown A m.cable m.atp (t.atp).history (now.atp).history e r m'.atp → AnswersItsRequest m w e r m'
answers_its_request A w m t (event.Deliver which k) (report.Zones (zip_report.Served count)) w' m' now grown =
    let cable = t.cable in
    let atp_tie = t.atp in
    let later = now.atp in
    let matches = grown.2 in
    let it = matches.joins in
    let page = grown.4 in
    let number = number_of (it.0).packet in (
      it.0,
      ap (λ l. slice_get l which) cable.sent
          ∙ stands_at cable.wires (after A atp_tie.history).sent which it.0 atp_tie.sent it.1,
      served_to (m.cable).net k m.atp m'.atp page.0 (it.0).from page.1 number it.2.0 page.2
          (sym later.asked ∙ ap (λ l. (after A l).asked) grown.1 ∙ it.2.1
          ∙ ap (λ l. atp.answered l (it.0).from number it.2.0) atp_tie.asked
          ∙ answered_wired (m.atp).asked (it.0).from number it.2.0),
    )
answers_its_request A w m t e r w' m' now grown = tt
