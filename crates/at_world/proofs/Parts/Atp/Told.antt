-- A play and its history side by side.
use Rattle.std.proofs.Common.{◌≡◌, ℕ, zero, suc, ◌<◌, ◌≤◌, List, [], ◌∷◌, ◌++◌}
use Rattle.std.proofs.Common.{length, Option, Some, sym, ap, subst, ◌∙◌}
use Rattle.std.specs.List.{AllByRecursion}
use Rattle.at_ddp.specs.Datagram.{Content as Datagram, IsAddress, AreBytes, BeginsWith, canonical, written}
use Rattle.at_ddp.specs.declared.address.Address.{Address}
use Rattle.at_atp_frame.specs.Frames.{Content, IsLawful, Spells, spelled}
use Rattle.at_atp.specs.Askings.{ChangesAsked}
use Rattle.at_atp.specs.HandUps.{AllLived, AnswersOnce}
use Rattle.at_atp.specs.Lawfully.{IsInRange, IsLawfullySent}
use Rattle.at_ddp.specs.Posts.{AllSent, packet_at}
use Rattle.at_atp.specs.Network.{Network, Sent, Happening, AllTimely, GivesAnswers, after}
use Rattle.at_event.specs.declared.Report.{Report}
use Rattle.at_zip.specs.Tables.{Tables}
use Rattle.at_world.specs.ExactlyOnce.{Played, onto}
use Rattle.at_world.specs.Sents.{SentDatagram}
use Rattle.at_world.specs.Stories.{Within, Matches, Grows, Tells, tables_by}
use Rattle.at_setup.specs.declared.event.Event.{Event}

-- what the layers below promise
pub record OnceLaws (A : Type 0) : Type 0 where
  pub answers : (history : List Happening) → AllTimely A history → GivesAnswers A (after A history)
  pub once : (history : List Happening) → AllTimely A history → AllLived A history → AnswersOnce A history
  pub lawful_sent : (history : List Happening) → AllByRecursion IsInRange history
      → AllSent IsLawfullySent (after A history).sent
  pub reads : (to from : Address) (kind : ℕ) (bytes rest : List ℕ) → IsAddress to → IsAddress from → kind < 256
      → AreBytes bytes → length bytes ≤ 586
      → BeginsWith (canonical to from kind bytes ++ rest) (written to from kind bytes) rest
  pub alone : (input : List ℕ) (d e : Datagram) (x y : List ℕ) → BeginsWith input d x → BeginsWith input e y → (d ≡ e)
      × (x ≡ y)
  pub packet_reads : (f : Content) → IsLawful f → Spells (spelled f) f
  pub packet_alone : (input : List ℕ) (f g : Content) → Spells input f → Spells input g → f ≡ g
  pub changes : (n : Network) (h : Happening) → ChangesAsked A n h
  pub packet_fits : (f : Content) → IsLawful f → AreBytes (spelled f) × (length (spelled f) ≤ 586)

-- ---- the steps and the happenings, side by side

abbrev pub Told : (A : Type 0) → ℕ → List (Played A) → List Happening → Type 0
Told A net [] [] = Unit {0}
Told A net (x ∷ xs) (h ∷ hs) =
    Matches net x.tables (after A hs) h x.event x.report × Grows A (after A hs) h × Told A net xs hs
Told A net [] (h ∷ hs) = ⊥
Told A net (x ∷ xs) [] = ⊥

pub told_of : (A : Type 0) (net : ℕ) (tables : Tables) (past : List (Played A)) (before : List Happening)
    (es : List (Event A)) (rs : List (Report A)) (history : List Happening) → Told A net past before
    → Tells net tables before es rs history → Told A net (onto tables past es rs) history
told_of A net tables past before [] [] history told h = subst (Told A net past) (sym h) told
told_of A net tables past before (e ∷ es) (r ∷ rs) history told h =
    told_of A net (tables_by e r tables) (record { event = e; report = r; tables = tables } ∷ past) (h.0 ∷ before) es rs
    history (h.1, h.2, told) h.3
told_of A net tables past before [] (r ∷ rs) history told h = absurd h
told_of A net tables past before (e ∷ es) [] history told h = absurd h

pub get_more : (xs ys : List (Option Sent)) (i : ℕ) (x : Sent) → packet_at xs i ≡ Some x → packet_at (xs ++ ys) i
    ≡ Some x
get_more [] ys i x h = absurd (cc)
get_more (y ∷ xs) ys zero x h = h
get_more (y ∷ xs) ys (suc i) x h = get_more xs ys i x h

pub within_before : (A : Type 0) (sent : List SentDatagram) (h : Happening) (hs : List Happening)
    → Grows A (after A hs) h → Within sent (after A (h ∷ hs)) → Within sent (after A hs)
within_before A sent h hs g within i s is =
    within i s (ap (λ l. packet_at l i) g.1 ∙ get_more (after A hs).sent g.0 i s is)
