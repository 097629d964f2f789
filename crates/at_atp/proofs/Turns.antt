-- What a packet that ends an at-least-once transaction, and the one that follows, leave true of a network.
use Rattle.std.proofs.Common.{◌≡◌, ℕ, ◌+◌, ◌<◌, Bool, true, false, cond, List, [], Option, Some, None, refl, sym, ap}
use Rattle.std.proofs.Common.{subst, ◌∙◌}
use Rattle.std.specs.Prelude.{find, IfSome, not, ◌&&◌}
use Rattle.std.specs.List.{AllByRecursion}
use Rattle.std.proofs.lemmas.Bool.{false≢true, and_parts, not-true}
use Rattle.at_ddp.specs.declared.address.Address.{Address}
use Rattle.at_ddp.proofs.Octets.{same_address_itself}
use Rattle.at_ddp.proofs.Alls.{all_both}
use Rattle.at_atp_frame.specs.Frames.{Content, Request, Response, Release}
use Rattle.at_atp_frame.specs.Packets.{Packet}
use Rattle.at_atp_requester.specs.Answers.{AnswerPart, is_wanted, whole, with_part}
use Rattle.at_atp_requester.specs.Requests.{Transaction, Requests, is_of, is_at_least_once, came, came_for, was_kept}
use Rattle.at_atp_requester.specs.Requests.{is_finished, response_came, next_number, heard, finishes}
use Rattle.at_ddp.specs.Posts.{packet_at}
use Rattle.at_ddp.proofs.PostLemmas.{put_all}
use Rattle.at_atp.specs.Network.{Network, Sent, Turns, with_requester, ending, number_after, hears, begins, turns}
use Rattle.at_atp.specs.Network.{ComesInTime, IsTimely}
use Rattle.at_atp.proofs.Beginnings.{DrawsFree, begins_sound, later}
use Rattle.at_atp.proofs.Carried.{Holds}
use Rattle.at_atp.proofs.Hearings.{heard_sound}
use Rattle.at_atp.proofs.NetworkLemmas.{Fresh, Sound, tells_at}

-- this packet was sent at a place, and ends an at-least-once transaction
pub record Ends (A : Type 0) (n : Network) (which : ℕ) (s : Sent) : Type 0 where
  pub was_sent : packet_at n.sent which ≡ Some s
  pub finishes : finishes A (n.requesters s.to) s.from s.packet ≡ true

pub ends : (A : Type 0) (n : Network) (which : ℕ) (s : Sent) → ending A n (packet_at n.sent which) ≡ Some s
    → Ends A n which s
ends A n which s is = go (packet_at n.sent which) refl is
  where
    ended : (x : Sent) → packet_at n.sent which ≡ Some x → (b : Bool) → finishes A (n.requesters x.to) x.from x.packet
        ≡ b → cond b (Some x) None ≡ Some s → Ends A n which s
    ended x e true f g = let same : x ≡ s = cc in subst (Ends A n which) same (record { was_sent = e; finishes = f })
    ended x e false f g = absurd (cc)

    go : (o : Option Sent) → packet_at n.sent which ≡ o → ending A n o ≡ Some s → Ends A n which s
    go None e g = absurd (cc)
    go (Some x) e g = ended x e (finishes A (n.requesters x.to) x.from x.packet) refl g

-- ---- it sends nothing

came_quietly : (A : Type 0) (t : Transaction) (place : ℕ) (part : AnswerPart) (sts : Bool) → t.xo ≡ false
    → is_finished (came {A = A} t place part sts).step ≡ true → (came {A = A} t place part sts).sent ≡ []
came_quietly A t place part sts not_xo h = go (is_wanted t.parts place) sts h
  where
    kept : (s : Bool) (o : Option (List Packet))
        → is_finished (was_kept {A = A} (record t { parts = with_part t.parts place part }) s o).step ≡ true
        → (was_kept {A = A} (record t { parts = with_part t.parts place part }) s o).sent ≡ []
    kept s (Some packets) g = rw not_xo refl
    kept true None g = absurd (false≢true g)
    kept false None g = refl

    go : (b s : Bool) → is_finished (came_for {A = A} t place part s b).step ≡ true
        → (came_for {A = A} t place part s b).sent ≡ []
    go true s g = kept s (whole (with_part t.parts place part)) g
    go false true g = absurd (false≢true g)
    go false false g = refl

pub ends_quietly : (A : Type 0) (r : Requests) (from : Address) (f : Content) → finishes A r from f ≡ true
    → (heard {A = A} r from f).sent ≡ []
ends_quietly A r from (Request mask xo timer tid user bytes) h = refl
ends_quietly A r from (Release tid) h = refl
ends_quietly A r from (Response place eom sts tid user bytes) h = go (find (is_of tid from) r.standing) h
  where
    go : (o : Option Transaction)
        → (is_at_least_once o && is_finished
        (response_came {A = A} r (is_of tid from) place
        (record { eom = eom; packet = record { user = user; data_ = bytes } }) sts o).step) ≡ true →
        (response_came {A = A} r (is_of tid from) place
        (record { eom = eom; packet = record { user = user; data_ = bytes } }) sts o).sent ≡ []
    go None g = refl
    go (Some t) g =
        let both = and_parts (not t.xo)
        (is_finished (came {A = A} t place (record { eom = eom; packet = record { user = user; data_ = bytes } })
        sts).step) g in
        came_quietly A t place (record { eom = eom; packet = record { user = user; data_ = bytes } }) sts
        (not-true t.xo both.0) both.1

-- ---- the network after it

-- the number is that of the requester as it is then
next_there : (A : Type 0) (n : Network) (s : Sent) → number_after A n s
    ≡ next_number ((hears A n (Some s)).requesters s.to)
next_there A n s = ap (λ b. next_number
    (cond b (heard {A = A} (n.requesters s.to) s.from s.packet).after (n.requesters s.to)))
    (sym (same_address_itself s.to))

-- a requester that sends nothing: no event is used up
quiet_sound : (events : ℕ) (n : Network) (who : Address) (r : Requests) (sent : List (Address × Content)) → sent ≡ []
    → Sound events n → AllByRecursion (Holds n.asked who) r.standing → Sound events (with_requester n who r sent)
quiet_sound events n who r sent none s standing = subst (λ xs. Sound events (with_requester n who r xs)) (sym none)
    (record {
      past = all_both (λ (x : Option Sent). IfSome x (λ y. y.event < events)) n.sent [] s.past tt;
      sent = all_both (λ (x : Option Sent). IfSome x (Fresh n.drawn n.asked)) n.sent [] s.sent tt;
      standing = put_all (λ a x. AllByRecursion (Holds n.asked a) x.standing) n.requesters who r s.standing standing;
      records = s.records;
    })

end_sound : (A : Type 0) (n : Network) (which : ℕ) (s : Sent) → Sound n.event n → ComesInTime n which
    → Ends A n which s → Sound n.event (hears A n (Some s))
end_sound A n which s sound timely e =
    let h = heard_sound A n.asked s.to s.from (n.requesters s.to) s.packet (sound.standing s.to)
    (tells_at n.event n which s sound e.was_sent (timely s e.was_sent)) in
    quiet_sound n.event n s.to (heard {A = A} (n.requesters s.to) s.from s.packet).after
    (heard {A = A} (n.requesters s.to) s.from s.packet).sent
    (ends_quietly A (n.requesters s.to) s.from s.packet e.finishes) sound h.standing

pub turns_sound : (A : Type 0) (draws : DrawsFree) (n : Network) (which : ℕ) (user : List ℕ) (times : ℕ)
    → Sound n.event n → IsTimely A n (Turns which user times) →
    Sound (n.event + 1) (turns A n user times (ending A n (packet_at n.sent which)))
turns_sound A draws n which user times sound timely = go (ending A n (packet_at n.sent which)) refl
  where
    go : (o : Option Sent) → ending A n (packet_at n.sent which) ≡ o → Sound (n.event + 1) (turns A n user times o)
    go None e = later n sound
    go (Some s) e = subst (λ o. Sound (n.event + 1) (begins (hears A n (Some s)) s.to s.from user [] 1 false times o))
        (sym (next_there A n s))
        (begins_sound draws (hears A n (Some s)) s.to s.from user [] 1 false times
        (end_sound A n which s sound timely.0 (ends A n which s e))
        (λ tid drawn. timely.1 s tid e (next_there A n s ∙ drawn)))
