-- Every history of ends on one AppleTalk network keeps them there.
use Rattle.std.proofs.Common.{◌≡◌, ℕ, zero, suc, Bool, true, false, cond, List, [], ◌∷◌, replicate, Option, Some, None}
use Rattle.std.proofs.Common.{Result, Ok, Err, refl}
use Rattle.std.specs.Prelude.{nat_lt, IfSome, ◌==◌, ◌&&◌}
use Rattle.std.specs.List.{AllByRecursion}
use Rattle.std.proofs.lemmas.Bool.{and_parts, eqb-true}
use Rattle.at_ddp.specs.Address.{same_address}
use Rattle.at_ddp.specs.declared.address.Address.{Address}
use Rattle.at_ddp.proofs.Alls.{all_both}
use Rattle.at_adsp_frame.specs.Segments.{Content}
use Rattle.at_adsp_end.specs.Ends.{EndState}
use Rattle.at_adsp_end.specs.declared.fault.StreamFault.{StreamFault}
use Rattle.at_adsp_ends.specs.Calls.{closed_at, connected, listened, read_at, reset_at, ticked_at, wrote}
use Rattle.at_adsp_ends.specs.Receiving.{received}
use Rattle.at_adsp_ends.specs.Tables.{Done, EndTable, by_id, next_id}
use Rattle.at_ddp.specs.Posts.{AllSent, packet_at, put, stamped}
use Rattle.at_ddp.proofs.PostLemmas.{sent_at}
use Rattle.at_adsp.specs.Network.{Closes, Connects, Happening, Listens, Network, Other, Reads, Resets, Sent, Setting}
use Rattle.at_adsp.specs.Network.{Strange, Takes, Ticks, Writes, after, calls_with, does_with, done, gave_up, takes}
use Rattle.at_adsp.specs.Network.{wrote_first}
use Rattle.at_adsp.specs.Streams.{Deed, Nothing, Read}
use Rattle.at_steps.specs.StreamHappenings.{IsHere, is_streams_socket}
use Rattle.at_steps.proofs.Protocols.Streams.OnNet.{Kept, KeptAny, connected_kept, closed_kept, wrote_kept, read_kept}
use Rattle.at_steps.proofs.Protocols.Streams.OnNet.{reset_kept}
use Rattle.at_steps.proofs.Protocols.Streams.OnNet.{ticked_kept, part_kept}

pub record IsOn (net : ℕ) (s : Sent) : Type 0 where
  pub from : s.from.net ≡ net
  pub to : s.to.net ≡ net

record NetworkOn (net : ℕ) (n : Network) : Type 0 where
  pub ends : (at : Address) → AllByRecursion (λ (e : EndState). e.asked.net ≡ net) (n.tables at).ends
  pub sent : AllSent (IsOn net) n.sent

stamped_on : (net event : ℕ) (from : Address) (sent : List (Address × Content)) → from.net ≡ net
    → AllByRecursion (λ (x : Address × Content). x.0.net ≡ net) sent → AllSent (IsOn net) (stamped event from sent)
stamped_on net event from [] is each = tt
stamped_on net event from (x ∷ xs) is each = (record { from = is; to = each.0 }, stamped_on net event from xs is each.1)

none_on : (net count : ℕ) → AllSent (IsOn net) (replicate count None)
none_on net zero = tt
none_on net (suc count) = (tt, none_on net count)

module _ (net : ℕ) (setting : Setting) (n : Network) (f : NetworkOn net n) where
  ends_put : (at : Address) (t : EndTable) → AllByRecursion (λ (e : EndState). e.asked.net ≡ net) t.ends
      → (a : Address) → AllByRecursion (λ (e : EndState). e.asked.net ≡ net) (put n.tables at t a).ends
  ends_put at t h a = go (same_address at a)
    where
      go : (b : Bool) → AllByRecursion (λ (e : EndState). e.asked.net ≡ net) (cond b t (n.tables a)).ends
      go true = h
      go false = f.ends a

  does_on : {X : Type 0} (deed : Deed) (at : Address) (d : Done X) → at.net ≡ net → Kept net d
      → NetworkOn net (does_with deed setting n at d)
  does_on deed at d here k = record {
    ends = ends_put at d.after k.ends;
    sent = all_both (λ (x : Option Sent). IfSome x (IsOn net)) n.sent (stamped n.event at d.sent) f.sent
        (stamped_on net n.event at d.sent here k.sent);
  }

  calls_on : {X : Type 0} (deed : X → Deed) (at : Address) (r : Result (Done X) StreamFault) → at.net ≡ net
      → KeptAny net r → NetworkOn net (calls_with deed setting n at r)
  calls_on deed at (Err fault) here k = f
  calls_on deed at (Ok d) here k = does_on (deed d.answer) at d here k

  takes_on : (o : Option Sent) → IfSome o (IsOn net) → NetworkOn net (takes setting n o)
  takes_on None is = f
  takes_on (Some s) is = does_on Nothing s.to (received setting.numbers (n.tables s.to) s.from s.packet) is.to
      (part_kept net (n.tables s.to) (f.ends s.to) setting.numbers s.from is.from s.packet s.packet.body)

  came_on : (which : ℕ) (o : Option Sent) → packet_at n.sent which ≡ o → IfSome o (IsOn net)
  came_on which None is = tt
  came_on which (Some s) is = sent_at (IsOn net) n.sent which s f.sent is

on_net : (net : ℕ) (at : Address) → is_streams_socket net at ≡ true → at.net ≡ net
on_net net at h = let both =
    and_parts (at.net == net) ((nat_lt 0 at.node && nat_lt at.node 255) && (at.socket == 130)) h in eqb-true at.net net
    both.0

done_on : (net : ℕ) (setting : Setting) (n : Network) (h : Happening) → NetworkOn net n → IsHere net h
    → NetworkOn net (done setting n h)
done_on net setting n (Connects at to) f is =
    calls_on net setting n f (λ answer. Nothing) at (connected (n.tables at) to (next_id (n.tables at)))
    (on_net net at is.0) (connected_kept net (n.tables at) (f.ends at) to (next_id (n.tables at)) is.1)
done_on net setting n (Listens at on) f is =
    record { ends = ends_put net setting n f at (listened (n.tables at) on) (f.ends at); sent = f.sent }
done_on net setting n (Closes at id) f is =
    calls_on net setting n f (λ answer. Nothing) at (closed_at setting.numbers (n.tables at) (by_id (n.tables at) id))
    (on_net net at is) (closed_kept net (n.tables at) (f.ends at) setting.numbers id (by_id (n.tables at) id) refl)
done_on net setting n (Writes at id items) f is =
    calls_on net setting n f (wrote_first items) at
    (wrote setting.numbers (n.tables at) items (by_id (n.tables at) id)) (on_net net at is)
    (wrote_kept net (n.tables at) (f.ends at) setting.numbers items id (by_id (n.tables at) id) refl)
done_on net setting n (Reads at id count) f is =
    calls_on net setting n f Read at (read_at setting.numbers (n.tables at) count (by_id (n.tables at) id))
    (on_net net at is) (read_kept net (n.tables at) (f.ends at) setting.numbers count id
    (by_id (n.tables at) id) refl)
done_on net setting n (Resets at id) f is =
    calls_on net setting n f gave_up at (reset_at setting.numbers (n.tables at) (by_id (n.tables at) id))
    (on_net net at is) (reset_kept net (n.tables at) (f.ends at) setting.numbers id (by_id (n.tables at) id) refl)
done_on net setting n (Ticks at id tick) f is =
    calls_on net setting n f (λ answer. Nothing) at
    (ticked_at setting.numbers (n.tables at) tick (by_id (n.tables at) id)) (on_net net at is)
    (ticked_kept net (n.tables at) (f.ends at) setting.numbers tick id (by_id (n.tables at) id) refl)
done_on net setting n (Takes which) f is =
    takes_on net setting n f (packet_at n.sent which) (came_on net setting n f which (packet_at n.sent which) refl)
done_on net setting n (Strange at from s) f is = absurd is
done_on net setting n (Other count) f is =
    record {
      ends = f.ends;
      sent = all_both (λ (x : Option Sent). IfSome x (IsOn net)) n.sent
          (replicate count None) f.sent (none_on net count);
    }

history_on : (net : ℕ) (setting : Setting) (history : List Happening) → AllByRecursion (IsHere net) history
    → NetworkOn net (after setting history)
history_on net setting [] each = record { ends = λ at. tt; sent = tt }
history_on net setting (h ∷ hs) each = let f =
    done_on net setting (after setting hs) h
    (history_on net setting hs each.1) each.0 in record { ends = f.ends; sent = f.sent }

-- each segment went from and to this network
pub all_on : (net : ℕ) (setting : Setting) (history : List Happening) → AllByRecursion (IsHere net) history
    → AllSent (IsOn net) (after setting history).sent
all_on net setting history each = (history_on net setting history each).sent
