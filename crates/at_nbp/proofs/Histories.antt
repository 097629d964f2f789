-- What every timely history leaves true of a network of names and lookups.
use Rattle.std.proofs.Common.{◌≡◌, ℕ, ◌<◌, List, [], ◌∷◌, ◌++◌, length, Option, Some, None, refl, sym, ◌∙◌, arith}
use Rattle.at_ddp.specs.Tables.{without_first}
use Rattle.at_nbp.specs.Lookups.{Search, next_id, search_of}
use Rattle.at_nbp.specs.NameTables.{is_called}
use Rattle.at_ddp.specs.Posts.{packet_at}
use Rattle.at_nbp.specs.Network.{Setting, AllAsk, Sent, Network, Happening, Begins, Retries, Finishes, Hears, Answers}
use Rattle.at_nbp.specs.Network.{Relays, Registers, Unregisters, Claims, Other}
use Rattle.at_nbp.specs.Network.{begins, retries, finishes, hears, answers_with, answers, relays, done, tick, after}
use Rattle.at_nbp.specs.Network.{IsTimely, IsAnswered, AllTimely, IsFound, FindsStood}
use Rattle.at_nbp.specs.Tuples.{Entry}
use Rattle.at_ddp.proofs.Alls.{all_implied}
use Rattle.at_nbp.proofs.HearingLemmas.{hears_sound, answers_sound, relays_sound}
use Rattle.at_nbp.proofs.LookupLaws.{none_lawful}
use Rattle.at_nbp.proofs.NetworkLemmas.{FoundIn, Sound, sound_later, named_sound, finishes_sound, begins_sound}
use Rattle.at_nbp.proofs.NetworkLemmas.{retries_sound, foreign_sound}

module _ (setting : Setting) (history : List Happening) where
  -- ---- what any happening leaves true

  done_sound : (n : Network) (h : Happening) → n.event < length history → (tick (done n h)).tables
      ≡ (after setting history).tables → Sound setting history n →
      IsTimely n h → IsAnswered n h → Sound setting history (done n h)
  done_sound n (Begins who pattern) since now sound timely full = begins_sound setting history n who pattern sound
  done_sound n (Retries who id) since now sound timely full =
      retries_sound setting history n who (search_of (n.lookups who) id) sound
  done_sound n (Finishes who id) since now sound timely full = finishes_sound setting history n who id sound
  done_sound n (Hears which) since now sound timely full = hears_sound setting history n which sound timely
  done_sound n (Answers which at replies) since now sound timely full =
      answers_sound setting history n which at replies since (sym now ∙ kept (packet_at n.sent which)) sound full
    where
      with : (id : ℕ) (tuples : List Entry) → (answers_with n at id replies tuples).tables ≡ n.tables
      with id [] = refl
      with id (t ∷ ts) = refl

      kept : (o : Option Sent) → (answers n at replies o).tables ≡ n.tables
      kept None = refl
      kept (Some s) = with s.packet.id s.packet.tuples
  done_sound n (Relays which at to zone) since now sound timely full =
      relays_sound setting history n at to zone (packet_at n.sent which) sound
  done_sound n (Registers at name) since now sound timely full =
      named_sound setting history n at ((n.tables at).names ++ name ∷ []) sound
  done_sound n (Unregisters at object kind) since now sound timely full =
      named_sound setting history n at (without_first (is_called object kind) (n.tables at).names) sound
  done_sound n (Claims at id name) since now sound timely full =
      named_sound setting history (finishes n at id) at ((n.tables at).names ++ name ∷ [])
      (finishes_sound setting history n at id sound)
  done_sound n (Other count) since now sound timely full = foreign_sound setting history n count sound

-- ---- histories

-- no happening counts events but the tick
same_event : (n : Network) (h : Happening) → (done n h).event ≡ n.event
same_event n (Begins who pattern) = go (next_id (n.lookups who))
  where
    go : (o : Option ℕ) → (begins n who pattern o).event ≡ n.event
    go None = refl
    go (Some id) = refl
same_event n (Retries who id) = go (search_of (n.lookups who) id)
  where
    go : (o : Option Search) → (retries n who o).event ≡ n.event
    go None = refl
    go (Some x) = refl
same_event n (Hears which) = go (packet_at n.sent which)
  where
    go : (o : Option Sent) → (hears n o).event ≡ n.event
    go None = refl
    go (Some s) = refl
same_event n (Answers which at replies) = go (packet_at n.sent which)
  where
    with : (id : ℕ) (tuples : List Entry) → (answers_with n at id replies tuples).event ≡ n.event
    with id [] = refl
    with id (t ∷ ts) = refl

    go : (o : Option Sent) → (answers n at replies o).event ≡ n.event
    go None = refl
    go (Some s) = with s.packet.id s.packet.tuples
same_event n (Relays which at to zone) = go (packet_at n.sent which)
  where
    go : (o : Option Sent) → (relays n at to zone o).event ≡ n.event
    go None = refl
    go (Some s) = refl
same_event n other = refl

-- a network has had as many events as its history has happenings
event_counts : (setting : Setting) (history : List Happening) → (after setting history).event ≡ length history
event_counts setting [] = refl
event_counts setting (h ∷ hs) = omega (arith, same_event (after setting hs) h, event_counts setting hs)

ticked : (setting : Setting) (history : List Happening) (n : Network) → Sound setting history n
    → Sound setting history (tick n)
ticked setting history n s = record { own = s.own; honest = s.honest; lawful = s.lawful; found = s.found }

history_sound : (setting : Setting) (history : List Happening) → AllAsk setting → AllTimely setting history
    → Sound setting history (after setting history)
history_sound setting [] asks timely = record {
  own = λ at. refl;
  honest = tt;
  lawful = λ who. none_lawful who (setting.to who) (setting.function who) (asks who);
  found = λ who. tt;
}
history_sound setting (h ∷ hs) asks timely =
    ticked setting (h ∷ hs) (done (after setting hs) h)
    (done_sound setting (h ∷ hs) (after setting hs) h (omega (arith, event_counts setting hs)) refl
    (sound_later setting hs h (after setting hs) (history_sound setting hs asks timely.2)) timely.0 timely.1)

pub finds_stood : (setting : Setting) (history : List Happening) → AllAsk setting → AllTimely setting history
    → FindsStood setting history
finds_stood setting history asks timely =
    let sound = history_sound setting history asks timely in
    record {
      lawful = sound.lawful;
      found = λ who.
          all_implied (FoundIn setting history (after setting history).begun who) (IsFound setting history who)
          ((after setting history).lookups who).searches
          (λ x f. record { begun = f.begun; newest = f.newest; pattern = f.pattern; stood = f.stood })
          (sound.found who);
    }
