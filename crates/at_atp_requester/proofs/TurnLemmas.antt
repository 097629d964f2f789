-- What a packet does that ends an at-least-once transaction.
use Rattle.std.proofs.Common.{◌≡◌, ℕ, ◌<◌, Bool, true, false, List, [], length, Option, Some, None, Result, Ok, Err}
use Rattle.std.proofs.Common.{refl, sym, ap, subst, ◌∙◌}
use Rattle.std.specs.Prelude.{find, remove, IfOk, not, ◌&&◌}
use Rattle.std.specs.List.{position_from}
use Rattle.std.proofs.lemmas.Bool.{false≢true, and_parts, not-true}
use Rattle.at_ddp.specs.declared.address.Address.{Address}
use Rattle.at_atp_frame.specs.Packets.{Packet}
use Rattle.at_atp_requester.specs.Answers.{AnswerPart, is_wanted, whole, with_part}
use Rattle.at_atp_frame.specs.Frames.{Content, Release, Request, Response}
use Rattle.at_atp_requester.specs.Endings.{Ends}
use Rattle.at_atp_requester.specs.declared.turning.Ending.{Ending}
use Rattle.at_atp_requester.specs.Requests.{NumbersDiffer, Transaction, Requests, is_numbered, is_of, next_number}
use Rattle.at_atp_requester.specs.Requests.{beginning}
use Rattle.at_atp_requester.specs.Requests.{came, came_for, was_kept, is_finished, heard, finishes}
use Rattle.at_atp_requester.specs.declared.progress.RequestProgress.TheVariants.{Finished}
use Rattle.at_atp_requester.proofs.AnswerLemmas.{wanted-within}
use Rattle.at_ddp.specs.Tables.{without_first}
use Rattle.at_ddp.proofs.TableLemmas as places
use Rattle.at_ddp.proofs.TableLemmas.{Found}
use Rattle.at_atp_requester.proofs.ClosingLemmas.{same_gone}

-- the transaction is at-least-once, and the packet completes its answer
pub record Ended (t : Transaction) (place : ℕ) (part : AnswerPart) : Type 0 where
  pub not_xo : t.xo ≡ false
  pub wanted : is_wanted t.parts place ≡ true
  pub within : place < length t.parts
  pub packets : List Packet
  pub is_whole : whole (with_part t.parts place part) ≡ Some packets

ended : (A : Type 0) (t : Transaction) (place : ℕ) (part : AnswerPart) (sts : Bool) → t.xo ≡ false
    → is_finished (came {A = A} t place part sts).step ≡ true → Ended t place part
ended A t place part sts not_xo h = wants (is_wanted t.parts place) refl sts h
  where
    kept : (o : Option (List Packet)) → whole (with_part t.parts place part) ≡ o → is_wanted t.parts place ≡ true
        → (s : Bool) → is_finished (was_kept {A = A} (record t { parts = with_part t.parts place part }) s o).step
        ≡ true → Ended t place part
    kept (Some packets) is wanted s g =
        record {
          not_xo = not_xo;
          wanted = wanted;
          within = wanted-within t.parts place wanted;
          packets = packets;
          is_whole = is;
        }
    kept None is wanted true g = absurd (false≢true g)
    kept None is wanted false g = absurd (false≢true g)

    wants : (b : Bool) → is_wanted t.parts place ≡ b → (s : Bool)
        → is_finished (came_for {A = A} t place part s b).step ≡ true → Ended t place part
    wants true is s g = kept (whole (with_part t.parts place part)) refl is s g
    wants false is true g = absurd (false≢true g)
    wants false is false g = absurd (false≢true g)

-- whether a packet ends the transaction that it came for
pub finishes_at : (A : Type 0) (r : Requests) (from : Address) (place : ℕ) (eom sts : Bool) (tid : ℕ)
    (user bytes : List ℕ) (i : ℕ) (f : Found (is_of tid from) r.standing i) →
    (not f.entry.xo && is_finished
    (came {A = A} f.entry place (record { eom = eom; packet = record { user = user; data_ = bytes } }) sts).step)
    ≡ finishes A r from (Response place eom sts tid user bytes)
finishes_at A r from place eom sts tid user bytes i f = rw f.first refl

pub finishes_none : (A : Type 0) (r : Requests) (from : Address) (place : ℕ) (eom sts : Bool) (tid : ℕ)
    (user bytes : List ℕ) → find (is_of tid from) r.standing ≡ None →
    false ≡ finishes A r from (Response place eom sts tid user bytes)
finishes_none A r from place eom sts tid user bytes none = rw none refl

pub ended_at : (A : Type 0) (r : Requests) (from : Address) (place : ℕ) (eom sts : Bool) (tid : ℕ)
    (user bytes : List ℕ) (i : ℕ) (f : Found (is_of tid from) r.standing i) →
    finishes A r from (Response place eom sts tid user bytes) ≡ true
    → Ended f.entry place (record { eom = eom; packet = record { user = user; data_ = bytes } })
ended_at A r from place eom sts tid user bytes i f h =
    let part : AnswerPart = record { eom = eom; packet = record { user = user; data_ = bytes } } in
    let both = and_parts (not f.entry.xo) (is_finished (came {A = A} f.entry place part sts).step)
    (finishes_at A r from place eom sts tid user bytes i f ∙ h) in
    ended A f.entry place part sts (not-true f.entry.xo both.0) both.1

-- what comes of that packet
pub heard_end : (A : Type 0) (r : Requests) (from : Address) (place : ℕ) (eom sts : Bool) (tid : ℕ)
    (user bytes : List ℕ) (i : ℕ) (f : Found (is_of tid from) r.standing i) →
    (e : Ended f.entry place (record { eom = eom; packet = record { user = user; data_ = bytes } })) →
    heard {A = A} r from (Response place eom sts tid user bytes)
    ≡ record {
      step = Finished e.packets;
      after = record { next = r.next; standing = remove r.standing i };
      sent = [];
    }
heard_end A r from place eom sts tid user bytes i f e = rw (f.first, e.wanted, e.is_whole, e.not_xo, f.gone_is) refl

-- which transaction a packet ends, and what comes of it
pub record EndsAt (A : Type 0) (r : Requests) (from : Address) (f : Content) (tid i : ℕ) : Type 0 where
  pub found : Found (is_of tid from) r.standing i
  pub packets : List Packet
  pub came : heard {A = A} r from f
      ≡ record {
        step = Finished packets;
        after = record { next = r.next; standing = remove r.standing i };
        sent = [];
      }

pub ends_at : (A : Type 0) (r : Requests) (from : Address) (f : Content) (place : ℕ) (eom sts : Bool) (tid : ℕ)
    (user bytes : List ℕ) (i : ℕ) → f ≡ Response place eom sts tid user bytes → finishes A r from f ≡ true
    → position_from (is_of tid from) 0 r.standing ≡ Some i → EndsAt A r from f tid i
ends_at A r from f place eom sts tid user bytes i is ends at =
    let found = places.found (is_of tid from) r.standing i at in
    let e = ended_at A r from place eom sts tid user bytes i found (sym (ap (finishes A r from) is) ∙ ends) in
    record {
      found = found;
      packets = e.packets;
      came = ap (heard r from) is ∙ heard_end A r from place eom sts tid user bytes i found e;
    }

-- a transaction that begins under a number that was drawn
pub drawn_next : {E : Type 0} (r : Requests) (tid : ℕ) (o : Result Transaction E) (to : Address) (user : List ℕ)
    (retries : ℕ) → next_number r ≡ Some tid →
    IfOk o (λ t. t ≡ beginning tid to user [] 1 false retries) → IfOk o (λ t. next_number r ≡ Some t.tid)
drawn_next r tid (Ok t) to user retries drawn is = drawn ∙ ap (λ (x : Transaction). Some x.tid) (sym is)
drawn_next r tid (Err e) to user retries drawn is = is

-- without the transaction of the number is without the one that was found
pub gone_at : (r : Requests) (tid : ℕ) (from : Address) (i : ℕ) (f : Found (is_of tid from) r.standing i)
    → NumbersDiffer r.standing → without_first (is_numbered tid) r.standing ≡ remove r.standing i
gone_at r tid from i f differ = sym (same_gone r.standing tid from f.entry differ f.first) ∙ f.gone_is

-- the transaction that is said to end is there, and ends
pub it_ends : (A : Type 0) (r : Requests) (from : Address) (packet : Content) (e : Ending) → Ends A r from packet e
    → EndsAt A r from packet e.tid e.index
it_ends A r from (Response place eom sts tid user bytes) e it =
    ends_at A r from (Response place eom sts tid user bytes) place eom sts e.tid user bytes e.index
    (ap (λ n. Response place eom sts n user bytes) it.number) it.finishes_it it.place
it_ends A r from (Request mask xo timer tid user bytes) e it = absurd (false≢true it.finishes_it)
it_ends A r from (Release tid) e it = absurd (false≢true it.finishes_it)

-- the same of a requester that is given by its fields
pub it_ends_in : (A : Type 0) (r now : Requests) (from : Address) (packet : Content) (e : Ending) → r ≡ now
    → Ends A now from packet e → EndsAt A r from packet e.tid e.index
it_ends_in A r now from packet e is it =
    it_ends A r from packet e (subst (λ (x : Requests). Ends A x from packet e) (sym is) it)

pub left_by : (A : Type 0) (r now : Requests) (from : Address) (packet : Content) (tid i : ℕ) → r ≡ now
    → EndsAt A r from packet tid i
    → (heard {A = A} now from packet).after ≡ record { next = r.next; standing = remove r.standing i }
left_by A r now from packet tid i is e =
    ap (λ (x : Requests). (heard {A = A} x from packet).after) (sym is) ∙ ap (λ h. h.after) e.came
