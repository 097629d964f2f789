-- The whole response of a transaction, from the packets that came for it. There is no bitmap, so no place is ever
-- struck out (Inside AppleTalk, ATP, "Transaction bitmap and sequence number").
use Rattle.std.specs.Prelude.{◌≡◌, ℕ, zero, suc, ◌+◌, ◌==◌, ◌&&◌, if◌then◌else◌, Bool, true, false, List, [], ◌∷◌, ◌++◌}
use Rattle.std.specs.Prelude.{find, map, length, option_map, Option, Some, None, ◌≢◌, ◌⊎◌, ◌≤◌, ◌<◌}
use Rattle.std.specs.List.{AllByRecursion}
use Rattle.at_ddp.specs.Address.{same_address}
use Rattle.at_ddp.specs.declared.address.Address.{Address}
use Rattle.at_atp_requester.specs.Answers.{AnswerPart}
use Rattle.at_atp_frame.specs.Frames.{Content, Response}
use Rattle.at_atp_frame.specs.Packets.{Packet}
use Rattle.at_atp_requester.specs.Requests.{Transaction, Requests, Retried, has_number, next_number, beginning, begun}
use Rattle.at_atp_requester.specs.Requests.{came, heard, is_finished, retried}

-- a packet that came for a place, with the status flag or without
pub record Came : Type 0 where
  pub place : ℕ
  pub part : AnswerPart
  pub sts : Bool

-- the first packet that came for a place
abbrev pub first_at : List Came → ℕ → Option AnswerPart
first_at all place = option_map (λ c. c.part) (find (λ c. c.place == place) all)

-- the first packets of so many places, from this one on
abbrev pub firsts_from : ℕ → ℕ → List Came → List (Option AnswerPart)
firsts_from place zero all = []
firsts_from place (suc n) all = first_at all place ∷ firsts_from (place + 1) n all

-- the first packet of each place that was asked for
abbrev pub firsts : ℕ → List Came → List (Option AnswerPart)
firsts wanted all = firsts_from 0 wanted all

-- a transaction after these packets came for it, one after another
abbrev pub after_all : (A : Type 0) → Transaction → List Came → Transaction
after_all A t [] = t
after_all A t (c ∷ all) = after_all A (came {A = A} t c.place c.part c.sts).after all

-- none of them completed the answer
abbrev pub NoneFinishes : (A : Type 0) → Transaction → List Came → Type 0
NoneFinishes A t [] = Unit {0}
NoneFinishes A t (c ∷ all) =
    (is_finished (came {A = A} t c.place c.part c.sts).step ≡ false)
    × NoneFinishes A (came {A = A} t c.place c.part c.sts).after all

-- ---- the response in the words of the standard

-- no packet came for a place
abbrev pub NoneFor : ℕ → List Came → Type 0
NoneFor place all = AllByRecursion (λ (c : Came). c.place ≢ place) all

-- the earliest packet that came for a place
pub record IsEarliest (all : List Came) (place : ℕ) (part : AnswerPart) : Type 0 where
  pub before : List Came
  pub packet : Came
  pub behind : List Came
  pub is : all ≡ before ++ packet ∷ behind
  pub none_before : NoneFor place before
  pub for_place : packet.place ≡ place
  pub brings : packet.part ≡ part

-- the earliest packets of places that follow each other, from this place on
abbrev pub AreEarliest : List Came → ℕ → List AnswerPart → Type 0
AreEarliest all place [] = Unit {0}
AreEarliest all place (part ∷ parts) = IsEarliest all place part × AreEarliest all (place + 1) parts

-- The response to a request for so many places, from this one on: the earliest packet of each place up to the last. The
-- last place is the least whose earliest packet ends the response, or the last that was asked for.
pub record IsResponseFrom (place wanted : ℕ) (all : List Came) (packets : List Packet) : Type 0 where
  pub before : List AnswerPart
  pub last : AnswerPart
  pub earliest : AreEarliest all place (before ++ last ∷ [])
  pub least : AllByRecursion (λ (part : AnswerPart). part.eom ≡ false) before
  pub ends : (last.eom ≡ true) ⊎ (length before + 1 ≡ wanted)
  pub asked_for : length before + 1 ≤ wanted
  pub are : packets ≡ map (λ (part : AnswerPart). part.packet) (before ++ last ∷ [])

abbrev pub IsResponse : ℕ → List Came → List Packet → Type 0
IsResponse wanted all packets = IsResponseFrom 0 wanted all packets

-- A place that was asked for is still wanted if no packet came for it, and no earlier place's earliest packet ends the
-- response.
pub record IsStillWanted (wanted : ℕ) (all : List Came) (place : ℕ) : Type 0 where
  pub asked_for : place < wanted
  pub none_came : NoneFor place all
  pub goes_on : (earlier : ℕ) (part : AnswerPart) → earlier < place → IsEarliest all earlier part → part.eom ≡ false

-- ---- one requester

-- what may happen to a requester: a transaction begins, a packet comes from an address, or a number is retried
pub data Move : Type 0 where
  Begins : (to : Address) (user bytes : List ℕ) (wanted : ℕ) (xo : Bool) (retries : ℕ) → Move
  Hears : (from : Address) (f : Content) → Move
  Retries : (tid : ℕ) → Move

abbrev pub begun_under : Requests → Move → Option ℕ → Requests
begun_under r (Begins to user bytes wanted xo retries) (Some tid) =
    begun r (beginning tid to user bytes wanted xo retries)
begun_under r m tid = r

abbrev pub after_retry : Requests → Option Retried → Requests
after_retry r None = r
after_retry r (Some e) = e.after

-- the requester after a move; a transaction begins under the next number
abbrev pub moved : (A : Type 0) → Requests → Move → Requests
moved A r (Begins to user bytes wanted xo retries) =
    begun_under r (Begins to user bytes wanted xo retries) (next_number r)
moved A r (Hears from f) = (heard {A = A} r from f).after
moved A r (Retries tid) = after_retry r (retried r tid)

abbrev pub moved_all : (A : Type 0) → Requests → List Move → Requests
moved_all A r [] = r
moved_all A r (m ∷ ms) = moved_all A (moved A r m) ms

-- the transaction of this number is open after each move
abbrev pub StaysOpen : (A : Type 0) → Requests → ℕ → List Move → Type 0
StaysOpen A r tid [] = Unit {0}
StaysOpen A r tid (m ∷ ms) = (has_number (moved A r m).standing tid ≡ true) × StaysOpen A (moved A r m) tid ms

-- the packet of an answer that a move brings, with this number and from this address
abbrev pub brought : Address → ℕ → Move → List Came
brought to tid (Hears from (Response place eom sts other user bytes)) =
    if (tid == other) && same_address to from
    then record {
      place = place;
      part = record { eom = eom; packet = record { user = user; data_ = bytes } };
      sts = sts;
    } ∷ [] else []
brought to tid m = []

-- the packets that the moves bring, in the order of their arrival
abbrev pub arrived : Address → ℕ → List Move → List Came
arrived to tid [] = []
arrived to tid (m ∷ ms) = brought to tid m ++ arrived to tid ms
