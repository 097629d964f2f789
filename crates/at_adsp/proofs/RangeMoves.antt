-- What changes one end of a table, or none, keeps a network in range.
use Rattle.std.proofs.Common.{◌≡◌, Bool, List, [], ◌∷◌}
use Rattle.std.proofs.Common.{Some, arith}
use Rattle.std.specs.Prelude.{find, Result, Ok, Err}
use Rattle.std.specs.List.{AllByRecursion}
use Rattle.at_ddp.specs.Datagram.{IsAddress}
use Rattle.at_ddp.specs.declared.address.Address.{Address}
use Rattle.at_ddp.proofs.Alls.{all_both, all_found, all_replaced, all_without}
use Rattle.at_adsp_frame.specs.Segments.{Content, IsLawful}
use Rattle.at_adsp_end.specs.Ends.{EndState}
use Rattle.at_adsp_end.specs.declared.fault.StreamFault.{StreamFault}
use Rattle.at_adsp_ends.specs.Openings.{ignored}
use Rattle.at_adsp_ends.specs.Tables.{Done, freed, has_id, made, moved}
use Rattle.at_adsp_ends.specs.Tables.{stayed}
use Rattle.at_adsp.specs.Lawfully.{IsLawfullySent}
use Rattle.at_ddp.specs.Posts.{stamped}
use Rattle.at_ddp.proofs.PostLemmas.{put_elsewhere, sent_both}
use Rattle.at_adsp.specs.Network.{Network, Setting}
use Rattle.at_adsp.specs.Network.{calls, calls_with, does}
use Rattle.at_adsp.specs.Streams.{Deed}
use Rattle.at_adsp.proofs.Ranges.{EndFits, Fits}
use Rattle.at_adsp.proofs.RangeHistories.{TableFits, NetworkFits, CanBeSent, addressed_fits, stamped_fits}

-- an end that sends one packet
pub alone : (e : EndState) (s : Content) → EndFits e → IsLawful s → Fits e (s ∷ [])
alone e s end is = record { end = end; sent = (is, tt) }

module _ (setting : Setting) (n : Network) (at : Address) (here : IsAddress at) (f : NetworkFits n) where
  pub does_fits : {X : Type 0} (d : Done X) → TableFits d.after → AllByRecursion CanBeSent d.sent
      → NetworkFits (does setting n at d)
  does_fits d table sent = record {
    tables = put_elsewhere (λ a t. TableFits t) n.tables at d.after (λ a other. f.tables a) table;
    sent = sent_both IsLawfullySent n.sent (stamped n.event at d.sent) f.sent
        (stamped_fits n.event at d.sent here sent);
  }

  -- what the user did is of no account
  pub deed_fits : {X : Type 0} (deed : X → Deed) (r : Result (Done X) StreamFault) → NetworkFits (calls setting n at r)
      → NetworkFits (calls_with deed setting n at r)
  deed_fits deed (Err fault) h = h
  deed_fits deed (Ok d) h = record { tables = h.tables; sent = h.sent }

  pub moved_fits : {X : Type 0} (answer : X) (e : EndState) (sent : List Content) → Fits e sent
      → NetworkFits (does setting n at (moved (n.tables at) answer e sent))
  moved_fits answer e sent fits =
      let t = f.tables at in
      let end = fits.end in
      does_fits (moved (n.tables at) answer e sent)
      (record {
        next = t.next;
        room = t.room;
        ends = all_replaced EndFits (has_id e.id) e (n.tables at).ends t.ends fits.end;
      })
      (addressed_fits e.asked sent end.asked fits.sent)

  pub stayed_fits : {X : Type 0} (answer : X) (e : EndState) (sent : List Content) → Fits e sent
      → NetworkFits (does setting n at (stayed (n.tables at) answer e sent))
  stayed_fits answer e sent fits = let end = fits.end in
      does_fits (stayed (n.tables at) answer e sent) (f.tables at) (addressed_fits e.asked sent end.asked fits.sent)

  pub freed_fits : {X : Type 0} (answer : X) (e : EndState)
      → NetworkFits (does setting n at (freed (n.tables at) answer e))
  freed_fits answer e =
      let t = f.tables at in
      does_fits (freed (n.tables at) answer e)
      (record { next = t.next; room = t.room; ends = all_without EndFits (has_id e.id) (n.tables at).ends t.ends })
      tt

  pub made_fits : {X : Type 0} (answer : X) (e : EndState) (sent : List Content) → Fits e sent
      → NetworkFits (does setting n at (made (n.tables at) answer e sent))
  made_fits answer e sent fits =
      let t = f.tables at in
      let end = fits.end in
      does_fits (made (n.tables at) answer e sent)
      (record {
        next = omega arith;
        room = t.room;
        ends = all_both EndFits (n.tables at).ends (e ∷ []) t.ends (fits.end, tt);
      })
      (addressed_fits e.asked sent end.asked fits.sent)

  pub ignored_fits : NetworkFits (does setting n at (ignored (n.tables at)))
  ignored_fits = does_fits (ignored (n.tables at)) (f.tables at) tt

  pub found_fits : (q : EndState → Bool) (e : EndState) → find q (n.tables at).ends ≡ Some e → EndFits e
  found_fits q e is = let t = f.tables at in (all_found EndFits q (n.tables at).ends e t.ends is).0
