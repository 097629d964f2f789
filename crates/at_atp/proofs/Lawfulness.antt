-- All that a network sends can be spelled, if what is asked and answered is in range.
use Rattle.std.proofs.Common.{◌≡◌, ℕ, zero, suc, ◌<◌, Bool, true, false, cond, List, [], ◌∷◌, Option, Some}
use Rattle.std.proofs.Common.{None, refl, subst, arith}
use Rattle.std.specs.Prelude.{find, option_map}
use Rattle.std.specs.List.{AllByRecursion}
use Rattle.std.proofs.lemmas.List.{length-set}
use Rattle.at_ddp.specs.Datagram.{IsAddress}
use Rattle.at_ddp.specs.declared.address.Address.{Address}
use Rattle.at_atp_requester.specs.Answers.{AnswerPart, is_wanted, whole, with_part}
use Rattle.at_atp_frame.specs.Frames.{Content, Request, Response, Release, IsLawful}
use Rattle.at_atp.specs.Network.{retries, after}
use Rattle.at_atp_frame.specs.Packets.{Packet}
use Rattle.at_atp_responder.specs.Records.{State, Waiting, Answered, Released, Record, Received, is_key, repeated}
use Rattle.at_atp_responder.specs.Records.{released, came_again, request_came, release_came, passed, is_passed_over}
use Rattle.at_atp_responder.specs.Records.{received}
use Rattle.at_atp_requester.specs.Requests.{Transaction, Requests, Retried, came}
use Rattle.at_atp_requester.specs.Requests.{came_for, was_kept, is_finished, is_of, response_came, Effect, Heard, heard}
use Rattle.at_atp_requester.specs.Requests.{is_numbered, retried_with, retried}
use Rattle.at_ddp.specs.Tables.{replaced, without_first}
use Rattle.at_atp_responder.specs.declared.reception.Key.{Key}
use Rattle.at_ddp.proofs.Alls.{all_both, all_replaced, all_without, all_found}
use Rattle.at_atp.proofs.Ranges.{FitsOpen, FitsRequests, FitsState, FitsRecord, FitSent, asks_fit}
use Rattle.at_atp.proofs.Ranges.{responses_fit}

-- ---- a packet comes to a requester

pub record FitsEffect (A : Type 0) (e : Effect A) : Type 0 where
  pub after : FitsOpen e.after
  pub sent : FitSent e.sent

came_fits : (A : Type 0) (t : Transaction) (place : ℕ) (part : AnswerPart) (sts : Bool) → FitsOpen t
    → FitsEffect A (came {A = A} t place part sts)
came_fits A t place part sts f = go (is_wanted t.parts place) sts
  where
    kept : FitsOpen (record t { parts = with_part t.parts place part })
    kept = record {
      tid = f.tid;
      to = f.to;
      asks = f.asks;
      few = let few = f.few in omega (arith, few, length-set t.parts place (Some part));
    }

    released : (b : Bool) → FitSent (cond b ((t.to, Release t.tid) ∷ []) [])
    released true = ((f.to, f.tid), tt)
    released false = tt

    keeps : (s : Bool) (o : Option (List Packet))
        → FitsEffect A (was_kept {A = A} (record t { parts = with_part t.parts place part }) s o)
    keeps s (Some packets) = record { after = kept; sent = released t.xo }
    keeps true None = record {
      after = kept;
      sent = (asks_fit (record t { parts = with_part t.parts place part }) kept, tt);
    }
    keeps false None = record { after = kept; sent = tt }

    go : (b s : Bool) → FitsEffect A (came_for {A = A} t place part s b)
    go true s = keeps s (whole (with_part t.parts place part))
    go false true = record { after = f; sent = (asks_fit t f, tt) }
    go false false = record { after = f; sent = tt }

pub record FitsHeard (A : Type 0) (h : Heard A) : Type 0 where
  pub after : FitsRequests h.after
  pub sent : FitSent h.sent

pub heard_fits : (A : Type 0) (r : Requests) (from : Address) (f : Content) → FitsRequests r
    → FitsHeard A (heard {A = A} r from f)
heard_fits A r from (Request mask xo timer tid user bytes) fits = record { after = fits; sent = tt }
heard_fits A r from (Release tid) fits = record { after = fits; sent = tt }
heard_fits A r from (Response place eom sts tid user bytes) fits = go (find (is_of tid from) r.standing) refl
  where
    standing : (e : Effect A) → FitsOpen e.after → (b : Bool)
        → AllByRecursion FitsOpen
        (cond b (without_first (is_of tid from) r.standing) (replaced (is_of tid from) e.after r.standing))
    standing e f true = all_without FitsOpen (is_of tid from) r.standing fits.standing
    standing e f false = all_replaced FitsOpen (is_of tid from) e.after r.standing fits.standing f

    go : (o : Option Transaction) → find (is_of tid from) r.standing ≡ o
        → FitsHeard A (response_came {A = A} r (is_of tid from) place
        (record { eom = eom; packet = record { user = user; data_ = bytes } }) sts o)
    go None e = record { after = fits; sent = tt }
    go (Some t) e =
        let found = all_found FitsOpen (is_of tid from) r.standing t fits.standing e in
        let c = came_fits A t place (record { eom = eom; packet = record { user = user; data_ = bytes } }) sts
        found.0 in
        record {
          after = record {
            next = fits.next;
            standing = standing (came {A = A} t place
                (record { eom = eom; packet = record { user = user; data_ = bytes } }) sts) c.after
                (is_finished (came {A = A} t place
                (record { eom = eom; packet = record { user = user; data_ = bytes } })
                sts).step);
          };
          sent = c.sent;
        }

pub record FitsRetried (r : Retried) : Type 0 where
  pub after : FitsRequests r.after
  pub sent : FitSent r.sent

retry_fits : (r : Requests) (tid : ℕ) (t : Transaction) (n : ℕ) → FitsRequests r → FitsOpen t
    → FitsRetried (retried_with r tid t n)
retry_fits r tid t zero fits f =
    record {
      after = record {
        next = fits.next;
        standing = all_without FitsOpen (is_numbered tid) r.standing fits.standing;
      };
      sent = tt;
    }
retry_fits r tid t (suc n) fits f = record {
  after = record {
    next = fits.next;
    standing = all_replaced FitsOpen (is_numbered tid) (record t { retries = n }) r.standing fits.standing
        (record { tid = f.tid; to = f.to; asks = f.asks; few = f.few });
  };
  sent = (asks_fit t f, tt);
}

pub retried_fits : (r : Requests) (tid : ℕ) (x : Retried) → FitsRequests r → retried r tid ≡ Some x → FitsRetried x
retried_fits r tid x fits is = go (find (is_numbered tid) r.standing) refl is
  where
    go : (o : Option Transaction) → find (is_numbered tid) r.standing ≡ o
        → option_map (λ (t : Transaction). retried_with r tid t t.retries) o ≡ Some x → FitsRetried x
    go None e g = absurd (cc)
    go (Some t) e g =
        let same : retried_with r tid t t.retries ≡ x = cc in
        subst FitsRetried same (retry_fits r tid t t.retries fits
        (all_found FitsOpen (is_numbered tid) r.standing t fits.standing e).0)

-- ---- a packet comes to a responder

pub record FitsTaken (t : Received) : Type 0 where
  pub after : AllByRecursion FitsRecord t.after
  pub sent : FitSent t.sent

again_fits : (rs : List Record) (key : Key) (mask : ℕ) (r : Record) → AllByRecursion FitsRecord rs → FitsRecord r
    → IsAddress key.from → key.tid < 65536 → FitsTaken (came_again rs key r (repeated key mask r.state))
again_fits rs key mask r all f from tid = go r.state f.state
  where
    same : (s : State) → FitsState s → AllByRecursion FitsRecord (replaced (is_key key) (record r { state = s }) rs)
    same s k = all_replaced FitsRecord (is_key key) (record r { state = s }) rs all
        (record { from = f.from; tid = f.tid; state = k })

    go : (s : State) → FitsState s → FitsTaken (came_again rs key r (repeated key mask s))
    go (Waiting xo old) k = record { after = same (Waiting xo mask) tt; sent = tt }
    go (Answered packets) k =
        record {
          after = same (Answered packets) k;
          sent = responses_fit key 0 mask packets from tid (let few = k.0 in omega (arith, few)) k.1;
        }
    go Released k = record { after = same Released tt; sent = tt }

released_fits : (rs : List Record) (key : Key) (r : Record) → AllByRecursion FitsRecord rs → FitsRecord r
    → FitsTaken (came_again rs key r (released r.state))
released_fits rs key r all f = go r.state f.state
  where
    same : (s : State) → FitsState s → AllByRecursion FitsRecord (replaced (is_key key) (record r { state = s }) rs)
    same s k = all_replaced FitsRecord (is_key key) (record r { state = s }) rs all
        (record { from = f.from; tid = f.tid; state = k })

    go : (s : State) → FitsState s → FitsTaken (came_again rs key r (released s))
    go (Waiting xo mask) k = record { after = same (Waiting xo mask) tt; sent = tt }
    go (Answered packets) k = record { after = same Released tt; sent = tt }
    go Released k = record { after = same Released tt; sent = tt }

release_fits : (rs : List Record) (key : Key) (o : Option Record) → find (is_key key) rs ≡ o
    → AllByRecursion FitsRecord rs → FitsTaken (release_came rs key o)
release_fits rs key None e all = record { after = all; sent = tt }
release_fits rs key (Some r) e all = released_fits rs key r all (all_found FitsRecord (is_key key) rs r all e).0

pub taken_fits : (rs : List Record) (from : Address) (f : Content) → AllByRecursion FitsRecord rs → IsAddress from
    → IsLawful f → FitsTaken (received rs from f)
taken_fits rs from (Response place eom sts tid user bytes) all fits lawful = record { after = all; sent = tt }
taken_fits rs from (Release tid) all fits lawful = release_fits rs (record { from = from; tid = tid })
    (find (is_key (record { from = from; tid = tid })) rs) refl all
taken_fits rs from (Request mask xo timer tid user bytes) all fits lawful = go (is_passed_over mask)
  where
    numbered : tid < 65536
    numbered = lawful.2.tid_fits

    came_in : (o : Option Record) → find (is_key (record { from = from; tid = tid })) rs ≡ o
        → FitsTaken (request_came rs (record { from = from; tid = tid }) xo mask o)
    came_in None e = record {
      after = all_both FitsRecord rs
          (record { key = record { from = from; tid = tid }; state = Waiting xo mask } ∷ []) all
          (record { from = fits; tid = numbered; state = tt }, tt);
      sent = tt;
    }
    came_in (Some r) e = again_fits rs (record { from = from; tid = tid }) mask r all
        (all_found FitsRecord (is_key (record { from = from; tid = tid })) rs r all e).0 fits numbered

    go : (b : Bool) → FitsTaken
        (cond b (passed rs) (request_came rs (record { from = from; tid = tid }) xo mask
        (find (is_key (record { from = from; tid = tid })) rs)))
    go true = record { after = all; sent = tt }
    go false = came_in (find (is_key (record { from = from; tid = tid })) rs) refl
