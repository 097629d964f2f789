-- A step of another protocol leaves all transactions as they were.
use Rattle.std.proofs.Common.{◌≡◌, ℕ, true, false, List, [], ◌++◌, Option, Some, None, refl, sym, ap, subst, ◌∙◌}
use Rattle.std.specs.Prelude.{length, replicate}
use Rattle.std.proofs.lemmas.Bool.{true≢false}
use Rattle.std.proofs.lemmas.List.{append-nil}
use Rattle.at_ddp.specs.declared.address.Address.{Address}
use Rattle.at_ddp.specs.Posts.{put}
use Rattle.at_steps.proofs.Drawing.{draws_its_own}
use Rattle.at_steps.proofs.Entries.{entries_foreign}
use Rattle.at_atp.specs.Network.{Happening, Other, after}
use Rattle.at_zone_socket.specs.AtpParts.{AtpState}
use Rattle.at_transaction_socket.specs.TransactionSockets.{asking, serving}
use Rattle.at_zone_socket.specs.ZoneSockets.{zones_at}
use Rattle.at_node.specs.Numbers.{drawn_by}
use Rattle.at_node.specs.Nodes.{NodeState}
use Rattle.at_node.specs.declared.numbers.Draw.{Draw}
use Rattle.at_node.specs.declared.numbers.Draw.TheVariants.{Tid}
use Rattle.at_event.specs.Kinds.{reporter_of}
use Rattle.at_event.specs.Outcomes.{Outcome}
use Rattle.at_event.specs.declared.Report.{Report}
use Rattle.at_event.specs.declared.Report.TheVariants as report
use Rattle.at_event.specs.declared.transactions.TransactionReport.TheVariants as atp_report
use Rattle.at_event.specs.declared.zones.ZoneReport.TheVariants as zip_report
use Rattle.at_event.specs.declared.Timer.TheVariants as timer
use Rattle.at_event.specs.declared.transactions.TransactionTimer.TheVariants as atp_timer
use Rattle.at_steps.specs.Acts.{Act, Calls, Fires, Gets}
use Rattle.at_steps.specs.AtpHappenings.{Stands, IsOpen, IsForeign, Passes, numbers_drawn, is_atp, atp_coding}
use Rattle.at_steps.proofs.Protocols.Atp.Stories.{is_quiet, other_matches}
use Rattle.at_steps.proofs.Protocols.Atp.Standing.{requesters_stay, responders_stay}

foreign_is_quiet : (A : Type 0) (r : Report A) (act : Act A) → is_atp (reporter_of r) ≡ false → is_quiet r act ≡ true
foreign_is_quiet A (report.Transactions (atp_report.Begun tid)) act h = absurd (true≢false h)
foreign_is_quiet A (report.Transactions (atp_report.Answered count)) (Calls call) h = absurd (true≢false h)
foreign_is_quiet A (report.Zones (zip_report.Served count)) (Gets which) h = absurd (true≢false h)
foreign_is_quiet A (report.Transactions (atp_report.Asked k user bytes)) (Gets which) h = absurd (true≢false h)
foreign_is_quiet A (report.Transactions (atp_report.Response tid packets)) (Gets which) h = absurd (true≢false h)
foreign_is_quiet A (report.Transactions atp_report.Expired) (Fires (timer.Transactions (atp_timer.Release own key))) h =
    absurd (true≢false h)
foreign_is_quiet A r act h = refl

foreign_draws_nothing : (A : Type 0) (r : Report A) (event : ℕ) (who : Address) → is_atp (reporter_of r) ≡ false
    → numbers_drawn event who (drawn_by r) ≡ []
foreign_draws_nothing A r event who h = go (drawn_by r) refl
  where
    go : (o : Option Draw) → drawn_by r ≡ o → numbers_drawn event who o ≡ []
    go (Some (Tid tid)) is = absurd (true≢false (ap is_atp (sym (draws_its_own A r (Tid tid) is)) ∙ h))
    go other is = refl

module _ (A : Type 0) (history : List Happening) (n : NodeState) (act : Act A)
    (st : Stands A history n.seat.net n.seat.number n) where
  passing : (o : Outcome A NodeState) → IsForeign n act o → is_quiet o.report act ≡ true
      → numbers_drawn (after A history).event (asking n.seat.net n.seat.number) (drawn_by o.report) ≡ []
      → Passes A history n.seat.net n.seat.number n act o
  passing o foreign quiet none = (
    record {
      happening = Other (length o.out);
      timely = tt;
      in_range = tt;
      same_event = refl;
      requesters = λ who. requesters_stay A history n st who
          ∙ ap (λ (a : AtpState). put (after A history).requesters (asking n.seat.net n.seat.number)
          a.transactions.requester who)
          (sym foreign.same);
      responders = λ at. responders_stay A history n st at
          ∙ ap (λ (a : AtpState). put
          (put (after A history).responders (serving n.seat.net n.seat.number) a.transactions.service_responder)
          (zones_at n.seat.net n.seat.number) a.zones.zone_responder at) (sym foreign.same);
      more = replicate (length o.out) None;
      sent = refl;
      posts = entries_foreign atp_coding (after A history).event o.out foreign.sends;
      drawn = sym (append-nil (after A history).drawn) ∙ ap (λ l. (after A history).drawn ++ l) (sym none);
      on_net = st.on_net;
      is_open = subst IsOpen (sym foreign.same) st.is_open;
      same_tables = λ no. ap (λ (a : AtpState). a.zones.tables) foreign.same;
      has_tables = λ tables is. st.has_tables tables (sym (ap (λ (a : AtpState). a.zones.tables) foreign.same) ∙ is);
      matches = other_matches A n.seat.net n.seat.number n.atp.zones.tables (after A history)
          (length o.out) act o.report quiet;
    },
    refl,
  )

  pub foreign_passes : (o : Outcome A NodeState) → IsForeign n act o → Passes A history n.seat.net n.seat.number n act o
  foreign_passes o foreign = passing o foreign (foreign_is_quiet A o.report act foreign.reports)
      (foreign_draws_nothing A o.report (after A history).event (asking n.seat.net n.seat.number) foreign.reports)
