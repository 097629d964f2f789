-- What the timer of a lookup is in the network.
use Rattle.std.proofs.Common.{◌≡◌, ℕ, List, [], ◌∷◌, Option, Some, None, true, refl}
use Rattle.at_nbp.specs.Fault.{number_of}
use Rattle.at_nbp.specs.Lookups.{Search, search_of, sent_question}
use Rattle.at_nbp.specs.Network.{Happening, Setting, after}
use Rattle.at_nbp.specs.declared.fault.NbpFault.TheVariants.{NoSuchLookup}
use Rattle.at_name_socket.specs.NameSockets.{names_of}
use Rattle.at_name_socket.specs.Sockets.{Stays}
use Rattle.at_event.specs.Kinds.{speaker_of_timer}
use Rattle.at_node.specs.NameCalls.{asked_again}
use Rattle.at_node.specs.Nodes.{NodeState, timed, with_names}
use Rattle.at_event.specs.Outcomes.{over}
use Rattle.at_event.specs.declared.Report.TheVariants as report
use Rattle.at_event.specs.declared.Timer.{Timer}
use Rattle.at_event.specs.declared.Timer.TheVariants as timer
use Rattle.at_event.specs.declared.names.NameTimer.TheVariants as nbp_timer
use Rattle.at_steps.specs.Acts.{Fires}
use Rattle.at_steps.specs.NameHappenings.{Stands, is_nbp}
use Rattle.at_steps.specs.NameSteps.{Plain}
use Rattle.at_steps.proofs.Protocols.Names.Below.{TimerLaws}
use Rattle.at_steps.proofs.Protocols.Names.Moves.{IsIts, moved, refused_moves, stands_lawfully}

module _ (A : Type 0) (laws : TimerLaws) (setting : Setting) (history : List Happening) (n : NodeState)
    (st : Stands setting history n.seat.net n.seat.number n) where
  asking : (id : ℕ) (o : Option Search) → search_of n.names.lookups id ≡ o
      → IsIts A setting history n (Fires (timer.Names (nbp_timer.Lookup id)))
      (over (with_names n) (asked_again n.seat n.names o))
  asking id None e = refused_moves A setting history n st
      (laws.stood setting history st.all_ask st.timely) laws.nothing (Fires (timer.Names (nbp_timer.Lookup id)))
      (number_of NoSuchLookup)
  asking id (Some search) e =
      let lawful = stands_lawfully A setting history n st (laws.stood setting history st.all_ask st.timely) in
      let h = laws.retries (after setting history) (names_of n.seat.net n.seat.number) n.names id search lawful e in (
        moved A setting history n st (Fires (timer.Names (nbp_timer.Lookup id))) report.Again n.names Stays
            (sent_question n.names.lookups search ∷ []) h (λ now is. is),
        Plain (record { plain = refl; table = refl; lookups = λ i. refl }),
      )

  pub timer_happens : (time : Timer) → is_nbp (speaker_of_timer time) ≡ true
      → IsIts A setting history n (Fires time) (timed n time)
  timer_happens (timer.Names (nbp_timer.Lookup id)) its = asking id (search_of n.names.lookups id) refl
  timer_happens other its = absurd (cc)
