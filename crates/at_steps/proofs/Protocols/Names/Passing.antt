-- A step of another protocol leaves names and lookups as they were.
use Rattle.std.proofs.Common.{◌≡◌, ℕ, false, List, Option, Some, None, refl, sym, ap, subst, ◌∙◌}
use Rattle.std.specs.Prelude.{length, replicate}
use Rattle.std.proofs.lemmas.Bool.{true≢false}
use Rattle.at_ddp.specs.declared.address.Address.{Address}
use Rattle.at_ddp.proofs.PostLemmas.{put_itself}
use Rattle.at_steps.proofs.Drawing.{draws_its_own}
use Rattle.at_steps.proofs.Entries.{entries_foreign}
use Rattle.at_nbp.specs.Network.{Begun, Happening, Other, Setting, after}
use Rattle.at_name_socket.specs.NameSockets.{SocketState, names_of}
use Rattle.at_name_socket.specs.Sockets.{IsSocket}
use Rattle.at_node.specs.Numbers.{drawn_by}
use Rattle.at_node.specs.Nodes.{NodeState}
use Rattle.at_node.specs.declared.numbers.Draw.{Draw}
use Rattle.at_node.specs.declared.numbers.Draw.TheVariants.{Lookup}
use Rattle.at_event.specs.Kinds.{reporter_of}
use Rattle.at_event.specs.Outcomes.{Outcome}
use Rattle.at_event.specs.declared.Report.{Report}
use Rattle.at_steps.specs.Acts.{Act}
use Rattle.at_steps.specs.NameHappenings.{BeginsBy, Happens, IsForeign, Stands, name_coding, is_nbp}

-- the report of another protocol draws no identifier
foreign_begins : (A : Type 0) (r : Report A) (event : ℕ) (who : Address) (before : List Begun)
    → is_nbp (reporter_of r) ≡ false → BeginsBy event who (drawn_by r) before before
foreign_begins A r event who before h = go (drawn_by r) refl
  where
    go : (o : Option Draw) → drawn_by r ≡ o → BeginsBy event who o before before
    go (Some (Lookup id)) is = absurd (true≢false (ap is_nbp (sym (draws_its_own A r (Lookup id) is)) ∙ h))
    go other is = refl

pub foreign_passes : (A : Type 0) (setting : Setting) (history : List Happening) (n : NodeState) (act : Act A)
    → Stands setting history n.seat.net n.seat.number n → (o : Outcome A NodeState) → IsForeign n act o
    → Happens setting history n.seat.net n.seat.number n act o
foreign_passes A setting history n act st o foreign =
    let here = st.stands in
    record {
      happening = Other (length o.out);
      timely = tt;
      answered = tt;
      in_range = tt;
      asked = tt;
      same_event = refl;
      tables = put_itself (after setting history).tables (names_of n.seat.net n.seat.number) o.state.names.table
          (here.table ∙ ap (λ (s : SocketState). s.table) (sym foreign.same));
      lookups = put_itself (after setting history).lookups (names_of n.seat.net n.seat.number) o.state.names.lookups
          (here.lookups ∙ ap (λ (s : SocketState). s.lookups) (sym foreign.same));
      more = replicate (length o.out) None;
      sent = refl;
      posts = entries_foreign name_coding (after setting history).event o.out foreign.sends;
      begun = foreign_begins A o.report (after setting history).event (names_of n.seat.net n.seat.number)
          (after setting history).begun foreign.reports;
      socket = subst IsSocket (sym foreign.same) st.socket;
      own = ap (λ (s : SocketState). s.table.own) foreign.same ∙ st.own;
    }
