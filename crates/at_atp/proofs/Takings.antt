-- What a packet that comes to a responder, and an answer that is given there, leave true of it.
use Rattle.std.proofs.Common.{◌≡◌, ℕ, Bool, true, false, cond, List, [], ◌∷◌, Option, Some, None, refl, subst}
use Rattle.std.specs.Prelude.{find}
use Rattle.std.specs.List.{AllByRecursion, Contains}
use Rattle.at_ddp.specs.declared.address.Address.{Address}
use Rattle.at_atp_frame.specs.Frames.{Content, Request, Response, Release}
use Rattle.at_atp_frame.specs.Packets.{Packet}
use Rattle.at_atp_responder.specs.Records.{State, Waiting, Answered, Released, Record, Received, is_key, responses}
use Rattle.at_atp_responder.specs.Records.{repeated, released, came_again, request_came, release_came, passed}
use Rattle.at_atp_responder.specs.Records.{is_passed_over, received}
use Rattle.at_ddp.specs.Tables.{replaced}
use Rattle.at_atp.specs.Transactions.{Transaction, transaction_of, Asked}
use Rattle.at_atp_responder.specs.declared.reception.Key.{Key}
use Rattle.at_ddp.proofs.Alls.{all_both, all_replaced, all_found}
use Rattle.at_atp.proofs.Carried.{Tells, Waits, Kept, responses_tell}
use Rattle.at_atp.proofs.Hearings.{TellsAll}
use Rattle.at_atp.proofs.KeyedRecords.{one_key}

pub record SoundTaken (ts : List Transaction) (at : Address) (t : Received) : Type 0 where
  pub records : AllByRecursion (Waits ts at) t.after
  pub sent : TellsAll ts at t.sent

-- the answer of a record was given, and is sent to its requester
pub answer_tells : (ts : List Transaction) (at : Address) (key : Key) (a : Asked ts key.from key.tid at) (mask : ℕ)
    (packets : List Packet) → Contains (a.transaction).answers packets → TellsAll ts at (responses key 0 mask packets)
answer_tells ts at key a mask packets given = responses_tell ts at key a packets [] packets 0 mask given refl refl

again_sound : (ts : List Transaction) (at : Address) (rs : List Record) (key : Key) (mask : ℕ) (r : Record)
    → AllByRecursion (Waits ts at) rs → Waits ts at r → r.key ≡ key
    → SoundTaken ts at (came_again rs key r (repeated key mask r.state))
again_sound ts at rs key mask r all w is = go r.state w.kept
  where
    a : Asked ts key.from key.tid at
    a = record {
      transaction = (w.asked).transaction;
      newest = subst (λ (k : Key). transaction_of ts k.from k.tid ≡ Some (w.asked).transaction) is (w.asked).newest;
      asked_it = (w.asked).asked_it;
    }

    same : (s : State) → Kept (w.asked).transaction s
        → AllByRecursion (Waits ts at) (replaced (is_key key) (record r { state = s }) rs)
    same s k = all_replaced (Waits ts at) (is_key key) (record r { state = s }) rs all
        (record { asked = w.asked; kept = k })

    go : (s : State) → Kept (w.asked).transaction s → SoundTaken ts at (came_again rs key r (repeated key mask s))
    go (Waiting xo old) k = record { records = same (Waiting xo mask) tt; sent = tt }
    go (Answered packets) k =
        record { records = same (Answered packets) k; sent = answer_tells ts at key a mask packets k }
    go Released k = record { records = same Released tt; sent = tt }

released_sound : (ts : List Transaction) (at : Address) (rs : List Record) (key : Key) (r : Record)
    → AllByRecursion (Waits ts at) rs → Waits ts at r → SoundTaken ts at (came_again rs key r (released r.state))
released_sound ts at rs key r all w = go r.state w.kept
  where
    same : (s : State) → Kept (w.asked).transaction s
        → AllByRecursion (Waits ts at) (replaced (is_key key) (record r { state = s }) rs)
    same s k = all_replaced (Waits ts at) (is_key key) (record r { state = s }) rs all
        (record { asked = w.asked; kept = k })

    go : (s : State) → Kept (w.asked).transaction s → SoundTaken ts at (came_again rs key r (released s))
    go (Waiting xo mask) k = record { records = same (Waiting xo mask) tt; sent = tt }
    go (Answered packets) k = record { records = same Released tt; sent = tt }
    go Released k = record { records = same Released tt; sent = tt }

came_sound : (ts : List Transaction) (at : Address) (rs : List Record) (key : Key) (xo : Bool) (mask : ℕ)
    (o : Option Record) → find (is_key key) rs ≡ o → AllByRecursion (Waits ts at) rs → Asked ts key.from key.tid at
    → SoundTaken ts at (request_came rs key xo mask o)
came_sound ts at rs key xo mask None is all a = record {
  records = all_both (Waits ts at) rs (record { key = key; state = Waiting xo mask } ∷ []) all
      (record { asked = a; kept = tt }, tt);
  sent = tt;
}
came_sound ts at rs key xo mask (Some r) is all a =
    let found = all_found (Waits ts at) (is_key key) rs r all is in
    again_sound ts at rs key mask r all found.0 (one_key r.key key found.1)

release_sound : (ts : List Transaction) (at : Address) (rs : List Record) (key : Key) (o : Option Record)
    → find (is_key key) rs ≡ o → AllByRecursion (Waits ts at) rs → SoundTaken ts at (release_came rs key o)
release_sound ts at rs key None is all = record { records = all; sent = tt }
release_sound ts at rs key (Some r) is all =
    released_sound ts at rs key r all (all_found (Waits ts at) (is_key key) rs r all is).0

pub taken_sound : (ts : List Transaction) (at from : Address) (rs : List Record) (f : Content)
    → AllByRecursion (Waits ts at) rs → Tells ts from at f → SoundTaken ts at (received rs from f)
taken_sound ts at from rs (Response place eom sts tid user bytes) all tells = record { records = all; sent = tt }
taken_sound ts at from rs (Release tid) all tells = release_sound ts at rs (record { from = from; tid = tid })
    (find (is_key (record { from = from; tid = tid })) rs) refl all
taken_sound ts at from rs (Request mask xo timer tid user bytes) all tells = go (is_passed_over mask)
  where
    key : Key
    key = record { from = from; tid = tid }

    go : (b : Bool) → SoundTaken ts at
        (cond b (passed rs) (request_came rs (record { from = from; tid = tid }) xo mask
        (find (is_key (record { from = from; tid = tid })) rs)))
    go true = record { records = all; sent = tt }
    go false = came_sound ts at rs (record { from = from; tid = tid }) xo mask
        (find (is_key (record { from = from; tid = tid })) rs) refl all tells.0
