-- A step of another protocol leaves all streams as they were.
use Rattle.std.proofs.Common.{◌≡◌, inr, ℕ, false, List, [], ◌++◌, Option, Some, None, refl, sym, ap, ◌∙◌}
use Rattle.std.specs.Prelude.{length, replicate}
use Rattle.std.proofs.lemmas.Bool.{true≢false}
use Rattle.at_ddp.specs.declared.address.Address.{Address}
use Rattle.at_adsp.specs.Connections.{streams}
use Rattle.at_ddp.proofs.PostLemmas.{put_itself}
use Rattle.at_steps.proofs.Drawing.{draws_its_own}
use Rattle.at_steps.proofs.Entries.{entries_foreign}
use Rattle.at_adsp.specs.Network.{Happening, Other, Setting, after}
use Rattle.at_event.specs.Kinds.{reporter_of}
use Rattle.at_event.specs.Outcomes.{Outcome}
use Rattle.at_event.specs.declared.Report.{Report}
use Rattle.at_node.specs.Numbers.{drawn_by}
use Rattle.at_node.specs.Nodes.{NodeState}
use Rattle.at_node.specs.declared.numbers.Draw.{Draw}
use Rattle.at_node.specs.declared.numbers.Draw.TheVariants.{Conn}
use Rattle.at_stream_socket.specs.Sockets.{streams_at}
use Rattle.at_steps.specs.Acts.{Act}
use Rattle.at_steps.specs.StreamHappenings.{Drawn, IsForeign, Passes, Stands, identifiers, numbers_drawn, stream_coding}
use Rattle.at_steps.specs.StreamHappenings.{is_adsp}

-- the report of another protocol draws no identifier
pub foreign_draws : (A : Type 0) (r : Report A) (event : ℕ) (who : Address) → is_adsp (reporter_of r) ≡ false
    → numbers_drawn event who (drawn_by r) ≡ []
foreign_draws A r event who h = go (drawn_by r) refl
  where
    go : (o : Option Draw) → drawn_by r ≡ o → numbers_drawn event who o ≡ []
    go (Some (Conn id)) is = absurd (true≢false (ap is_adsp (sym (draws_its_own A r (Conn id) is)) ∙ h))
    go other is = refl

pub foreign_passes : (A : Type 0) (setting : Setting) (history : List Happening) (n : NodeState) (act : Act A)
    → Stands setting history n.seat.net n.seat.number n → (o : Outcome A NodeState) → IsForeign n act o
    → Passes setting history n.seat.net n.seat.number n act o
foreign_passes A setting history n act st o foreign = (
  record {
    happening = Other (length o.out);
    timely = tt;
    in_range = tt;
    here = tt;
    is_of = inr (length o.out, refl);
    same_event = refl;
    tables = put_itself (after setting history).tables (streams_at n.seat.net n.seat.number) o.state.streams
        (st.stands ∙ sym foreign.same);
    more = replicate (length o.out) None;
    sent = refl;
    posts = entries_foreign stream_coding (after setting history).event o.out foreign.sends;
    drawn = ap (λ (l : List Drawn). l ++ identifiers (streams (after setting history)))
        (sym (foreign_draws A o.report (after setting history).event
        (streams_at n.seat.net n.seat.number) foreign.reports));
  },
  refl,
)
