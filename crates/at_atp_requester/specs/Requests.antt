-- The requester, and what each call does to it (Inside AppleTalk, ATP, "Transactions").
use Rattle.std.specs.Prelude.{◌≡◌, ℕ, zero, suc, ◌+◌, ◌%◌, ◌≤◌, ◌<◌, ◌==◌, ◌&&◌, not, nat_lt, if◌then◌else◌, Bool}
use Rattle.std.specs.Prelude.{true, false, List, [], ◌∷◌, ◌++◌, length, find, option_map, replicate, Option, Some, None}
use Rattle.std.specs.List.{list_any}
use Rattle.at_ddp.specs.Address.{same_address}
use Rattle.at_ddp.specs.Outbox.{Outbox}
use Rattle.at_ddp.specs.Sending.{Sends}
use Rattle.at_ddp.specs.declared.address.Address.{Address}
use Rattle.at_atp_frame.specs.Packets.{Packet}
use Rattle.at_atp_requester.specs.Answers.{AnswerPart, is_wanted, bitmap_of, whole, with_part}
use Rattle.at_atp_frame.specs.Frames.{Content, Request, Response, Release, spelled_all}
use Rattle.at_ddp.specs.Tables.{replaced, without_first}
use Rattle.at_ddp.specs.Numbers.{first_free}
use Rattle.at_atp_requester.specs.declared.progress.Retry.{Retry}
use Rattle.at_atp_requester.specs.declared.progress.Retry.TheVariants as retry
use Rattle.at_atp_requester.specs.declared.progress.RequestProgress.{RequestProgress}
use Rattle.at_atp_requester.specs.declared.progress.RequestProgress.TheVariants as step

-- an open transaction: its number, whom it asks, what it asks, the retries left, and what came for each place
pub record Transaction : Type 0 where
  pub tid : ℕ
  pub to : Address
  pub user : List ℕ
  pub data_ : List ℕ
  pub xo : Bool
  pub retries : ℕ
  pub parts : List (Option AnswerPart)

-- the number to try next, and the open transactions in the order in which they began
pub record Requests : Type 0 where
  pub next : ℕ
  pub standing : List Transaction

abbrev pub no_requests : Requests
no_requests = record { next = 0; standing = [] }

-- the data of a transaction fits one packet, and it asks for at most eight
pub record IsTransaction (t : Transaction) : Type 0 where
  pub data_fits : length t.data_ ≤ 578
  pub few : length t.parts ≤ 8

abbrev pub is_numbered : ℕ → Transaction → Bool
is_numbered tid t = t.tid == tid

-- is a transaction open under this number?
abbrev pub has_number : List Transaction → ℕ → Bool
has_number standing tid = list_any (λ t. t.tid == tid) standing

abbrev pub NumbersDiffer : List Transaction → Type 0
NumbersDiffer [] = Unit {0}
NumbersDiffer (t ∷ ts) = (has_number ts t.tid ≡ false) × NumbersDiffer ts

-- at most 32 transactions are open, under numbers that differ from each other, and the number to try next has two bytes
pub record IsRequester (r : Requests) : Type 0 where
  pub few : length r.standing ≤ 32
  pub next_fits : r.next < 65536
  pub differ : NumbersDiffer r.standing

-- the first number from this one on that is not open, if it takes at most so many tries
abbrev pub draw_from : ℕ → ℕ → List Transaction → Option ℕ
draw_from tries first standing = first_free (λ tid. (tid + 1) % 65536) (has_number standing) tries first

-- the requester after the transaction of a number is closed
abbrev pub closing : Requests → Option ℕ → Requests
closing r None = r
closing r (Some tid) = record r { standing = without_first (is_numbered tid) r.standing }

-- the number that the next transaction gets; none if 32 are open
abbrev pub next_number : Requests → Option ℕ
next_number r = if nat_lt (length r.standing) 32 then draw_from (length r.standing + 1) r.next r.standing else None

-- the request of a transaction for the places still wanted
abbrev pub request_by : Transaction → Content
request_by t = Request (bitmap_of t.parts) t.xo 0 t.tid t.user t.data_

-- a transaction as it begins: nothing came for any of its places
abbrev pub beginning : ℕ → Address → List ℕ → List ℕ → ℕ → Bool → ℕ → Transaction
beginning tid to user bytes wanted xo retries =
    record { tid = tid; to = to; user = user; data_ = bytes; xo = xo; retries = retries; parts = replicate wanted None }

abbrev pub begun : Requests → Transaction → Requests
begun r t = record { next = (t.tid + 1) % 65536; standing = r.standing ++ t ∷ [] }

-- the transaction has this number, and asked this address
abbrev pub is_of : ℕ → Address → Transaction → Bool
is_of tid from t = (t.tid == tid) && same_address t.to from

-- what a packet does to the transaction that it came for: the step, the transaction after it, and what is sent
pub record Effect (A : Type 0) : Type 0 where
  pub step : RequestProgress A
  pub after : Transaction
  pub sent : List (Address × Content)

-- an exactly-once transaction tells the responder that the answer arrived complete
abbrev pub release_by : Transaction → List (Address × Content)
release_by t = if t.xo then (t.to, Release t.tid) ∷ [] else []

abbrev pub asked_again : {A : Type 0} → Transaction → Effect A
asked_again t = record { step = step.AskAgain; after = t; sent = (t.to, request_by t) ∷ [] }

-- a packet came that was wanted: it completes the answer, or others are still wanted
abbrev pub was_kept : {A : Type 0} → Transaction → Bool → Option (List Packet) → Effect A
was_kept t sts (Some packets) = record { step = step.Finished packets; after = t; sent = release_by t }
was_kept t true None = asked_again t
was_kept t false None = record { step = step.Kept; after = t; sent = [] }

abbrev pub came_for : {A : Type 0} → Transaction → ℕ → AnswerPart → Bool → Bool → Effect A
came_for t place part sts true =
    was_kept (record t { parts = with_part t.parts place part }) sts (whole (with_part t.parts place part))
came_for t place part true false = asked_again t
came_for t place part false false = record { step = step.Ignored; after = t; sent = [] }

-- a packet came for this place, with the status flag or without it
abbrev pub came : {A : Type 0} → Transaction → ℕ → AnswerPart → Bool → Effect A
came t place part sts = came_for t place part sts (is_wanted t.parts place)

abbrev pub is_finished : {A : Type 0} → RequestProgress A → Bool
is_finished (step.Finished packets) = true
is_finished other = false

abbrev pub is_ignored : {A : Type 0} → RequestProgress A → Bool
is_ignored step.Ignored = true
is_ignored other = false

-- what came of a packet: the step, the requester after it, and what is sent
pub record Heard (A : Type 0) : Type 0 where
  pub step : RequestProgress A
  pub after : Requests
  pub sent : List (Address × Content)

abbrev pub ignored : {A : Type 0} → Requests → Heard A
ignored r = record { step = step.Ignored; after = r; sent = [] }

-- a transaction that finished is closed, and any other stays as the packet left it
abbrev pub settled : {A : Type 0} → Requests → (Transaction → Bool) → Effect A → Heard A
settled r this e = record {
  step = e.step;
  after =
      record {
        next = r.next;
        standing = if is_finished e.step then without_first this r.standing
            else replaced this e.after r.standing;
      };
  sent = e.sent;
}

abbrev pub response_came : {A : Type 0} → Requests → (Transaction → Bool) → ℕ → AnswerPart → Bool → Option Transaction
    → Heard A
response_came r this place part sts None = ignored r
response_came r this place part sts (Some t) = settled r this (came t place part sts)

-- what comes of a packet from an address: only a response to an open transaction of that number that asked that address
-- changes anything
abbrev pub heard : {A : Type 0} → Requests → Address → Content → Heard A
heard r from (Response place eom sts tid user bytes) =
    response_came r (is_of tid from) place (record { eom = eom; packet = record { user = user; data_ = bytes } }) sts
    (find (is_of tid from) r.standing)
heard r from (Request mask xo timer tid user bytes) = ignored r
heard r from (Release tid) = ignored r

abbrev pub is_response : Content → Bool
is_response (Response place eom sts tid user bytes) = true
is_response (Request mask xo timer tid user bytes) = false
is_response (Release tid) = false

-- is there such a transaction, and is it at-least-once?
abbrev pub is_at_least_once : Option Transaction → Bool
is_at_least_once None = false
is_at_least_once (Some t) = not t.xo

-- would this packet end an at-least-once transaction?
abbrev pub finishes : (A : Type 0) → Requests → Address → Content → Bool
finishes A r from (Response place eom sts tid user bytes) =
    is_at_least_once (find (is_of tid from) r.standing)
    && is_finished (heard {A = A} r from (Response place eom sts tid user bytes)).step
finishes A r from (Request mask xo timer tid user bytes) = false
finishes A r from (Release tid) = false

-- what came of a retry: the requester after it, and what is sent
pub record Retried : Type 0 where
  pub step : Retry
  pub after : Requests
  pub sent : List (Address × Content)

-- if a retry is left, it is used up and the request sent again; otherwise the transaction is closed
abbrev pub retried_with : Requests → ℕ → Transaction → ℕ → Retried
retried_with r tid t zero =
    record {
      step = retry.Failed;
      after = record r { standing = without_first (is_numbered tid) r.standing };
      sent = [];
    }
retried_with r tid t (suc left) = record {
  step = retry.AskedAgain;
  after = record r { standing = replaced (is_numbered tid) (record t { retries = left }) r.standing };
  sent = (t.to, request_by t) ∷ [];
}

-- a retry of the open transaction of this number, if there is one
abbrev pub retried : Requests → ℕ → Option Retried
retried r tid = option_map (λ t. retried_with r tid t t.retries) (find (is_numbered tid) r.standing)

-- the step, the new requester and what was sent are those of a retry
pub record IsRetried (r : Requests) (tid : ℕ) (s : Retry) (new : Requests) (before after : Outbox) : Type 0 where
  pub effect : Retried
  pub is_retry : retried r tid ≡ Some effect
  pub is_step : s ≡ effect.step
  pub is_new : new ≡ effect.after
  pub sends : Sends before after (spelled_all effect.sent)

-- the step, the new requester and what was sent are these
pub record IsHeard {A : Type 0} (h : Heard A) (s : RequestProgress A) (new : Requests)
    (before after : Outbox) : Type 0 where
  pub is_step : s ≡ h.step
  pub is_new : new ≡ h.after
  pub sends : Sends before after (spelled_all h.sent)

-- the step and what was sent are those of a packet's effect, and so is the transaction, if it is still open
pub record IsEffect {A : Type 0} (e : Effect A) (s : RequestProgress A) (new : Transaction)
    (before after : Outbox) : Type 0 where
  pub is_step : s ≡ e.step
  pub is_new : is_finished e.step ≡ false → new ≡ e.after
  pub sends : Sends before after (spelled_all e.sent)
