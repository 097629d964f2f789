-- Parties of a network whose state is in range, and what they send.
use Rattle.std.proofs.Common.{◌≡◌, ℕ, suc, ◌+◌, ◌*◌, ◌%◌, ◌/◌, ◌^◌, ◌<◌, ◌≤◌, Bool, true, false, cond, List, []}
use Rattle.std.proofs.Common.{◌∷◌, ◌++◌, length, Option, Some, None, refl, arith, lit<, lit≤}
use Rattle.std.specs.Prelude.{IfSome, nat_lt, ◌==◌}
use Rattle.std.specs.List.{AllByRecursion}
use Rattle.std.proofs.Math.Pow.{pow_mono}
use Rattle.std.proofs.Math.Nat.{pow-suc}
use Rattle.at_ddp.specs.Datagram.{IsAddress}
use Rattle.at_ddp.specs.declared.address.Address.{Address}
use Rattle.at_atp_requester.specs.Answers.{AnswerPart, bitmap_of}
use Rattle.at_atp_frame.specs.Frames.{Content, Response, IsTimer, IsLawful}
use Rattle.at_atp_frame.specs.Frames as frames
use Rattle.at_atp.specs.Lawfully.{IsLawfullySent}
use Rattle.at_ddp.specs.Posts.{AllSent, stamped}
use Rattle.at_atp.specs.Network.{Network, Sent, with_requester, with_responder}
use Rattle.at_atp_frame.specs.Packets.{Packet, IsPacket}
use Rattle.at_atp_responder.specs.Records.{State, Waiting, Answered, Released, Record, responses}
use Rattle.at_atp_requester.specs.Requests.{Transaction, Requests, has_number, draw_from, next_number, request_by}
use Rattle.at_atp_responder.specs.declared.reception.Key.{Key}
use Rattle.at_ddp.proofs.Alls.{all_both}
use Rattle.at_ddp.proofs.PostLemmas.{put_all}
use Rattle.at_ddp.proofs.NumberLemmas.{is_free}

-- ---- masks and numbers

mask_fits : (parts : List (Option AnswerPart)) → bitmap_of parts < 2 ^ length parts
mask_fits [] = lit< tt
mask_fits (None ∷ parts) = let rest = mask_fits parts in let twice = pow-suc 2 (length parts) in
    omega (arith, rest, twice)
mask_fits (Some part ∷ parts) = go (mask_fits parts) part.eom
  where
    go : bitmap_of parts < 2 ^ length parts → (b : Bool) → cond b 0 (2 * bitmap_of parts) < 2 ^ suc (length parts)
    go rest true = let twice = pow-suc 2 (length parts) in omega (arith, rest, twice)
    go rest false = let twice = pow-suc 2 (length parts) in omega (arith, rest, twice)

few_bits : (parts : List (Option AnswerPart)) → length parts ≤ 8 → bitmap_of parts < 256
few_bits parts few =
    let m = mask_fits parts in
    let wide : 2 ^ length parts ≤ 2 ^ 8 = pow_mono few in
    omega (arith, m, wide)

pub number_fits : (r : Requests) (k : ℕ) → r.next < 65536 → next_number r ≡ Some k → k < 65536
number_fits r k fits h = go (nat_lt (length r.standing) 32) h
  where
    go : (b : Bool) → cond b (draw_from (length r.standing + 1) r.next r.standing) None ≡ Some k → k < 65536
    go true g =
        let d = is_free (λ n. (n + 1) % 65536) (has_number r.standing) (λ n. n < 65536) (λ n is. omega arith)
        (length r.standing + 1) r.next k fits g in
        d.0
    go false g = absurd (cc)

-- ---- parties whose state is in range

pub record FitsOpen (t : Transaction) : Type 0 where
  pub tid : t.tid < 65536
  pub to : IsAddress t.to
  pub asks : IsPacket (record { user = t.user; data_ = t.data_ })
  pub few : length t.parts ≤ 8

pub record FitsRequests (r : Requests) : Type 0 where
  pub next : r.next < 65536
  pub standing : AllByRecursion FitsOpen r.standing

abbrev pub FitsState : State → Type 0
FitsState (Waiting xo mask) = Unit {0}
FitsState (Answered packets) = (length packets ≤ 8) × AllByRecursion IsPacket packets
FitsState Released = Unit {0}

pub record FitsRecord (r : Record) : Type 0 where
  pub from : IsAddress r.key.from
  pub tid : r.key.tid < 65536
  pub state : FitsState r.state

abbrev pub FitSent : List (Address × Content) → Type 0
FitSent sent = AllByRecursion (λ s. IsAddress s.0 × IsLawful s.1) sent

pub record Fits (n : Network) : Type 0 where
  pub requesters : (who : Address) → FitsRequests (n.requesters who)
  pub responders : (at : Address) → AllByRecursion FitsRecord (n.responders at)
  pub sent : AllSent IsLawfullySent n.sent

-- ---- what is sent

parts_of : (tid : ℕ) (p : Packet) → tid < 65536 → IsPacket p → frames.AreParts tid p.user p.data_
parts_of tid p fits is =
    record { tid_fits = fits; four = is.four; user_bytes = is.user; data_bytes = is.bytes; data_fits = is.fits }

no_timer : (xo : Bool) → IsTimer xo 0
no_timer true = lit≤ tt
no_timer false = refl

pub asks_fit : (t : Transaction) → FitsOpen t → IsAddress t.to × IsLawful (request_by t)
asks_fit t f = (
  f.to,
  (
    few_bits t.parts f.few,
    no_timer t.xo,
    parts_of t.tid
        (record { user = t.user; data_ = t.data_ }) f.tid f.asks,
  ),
)

pub responses_fit : (key : Key) (place mask : ℕ) (packets : List Packet) → IsAddress key.from → key.tid < 65536
    → place + length packets ≤ 8 → AllByRecursion IsPacket packets → FitSent (responses key place mask packets)
responses_fit key place mask [] from tid few all = tt
responses_fit key place mask (p ∷ ps) from tid few all =
    all_both (λ s. IsAddress s.0 × IsLawful s.1)
    (cond (mask % 2 == 1) ((key.from, Response place (length ps == 0) false key.tid p.user p.data_) ∷ []) [])
    (responses key (place + 1) (mask / 2) ps)
    (go (mask % 2 == 1))
    (responses_fit key (place + 1) (mask / 2) ps from tid (omega (arith, few)) all.1)
  where
    go : (b : Bool) → FitSent
        (cond b ((key.from, Response place (length ps == 0) false key.tid p.user p.data_) ∷ []) [])
    go true = ((from, (omega (arith, few), parts_of key.tid p tid all.0)), tt)
    go false = tt

stamped_fits : (event : ℕ) (from : Address) (xs : List (Address × Content)) → IsAddress from → FitSent xs
    → AllSent IsLawfullySent (stamped event from xs)
stamped_fits event from [] f h = tt
stamped_fits event from (x ∷ xs) f h =
    (record { from_fits = f; to_fits = h.0.0; lawful = h.0.1 }, stamped_fits event from xs f h.1)

pub more_fits : (event : ℕ) (from : Address) (sent : List (Option Sent)) (xs : List (Address × Content))
    → AllSent IsLawfullySent sent → IsAddress from → FitSent xs → AllSent IsLawfullySent (sent ++ stamped event from xs)
more_fits event from sent xs all f h = all_both (λ (x : Option Sent). IfSome x IsLawfullySent) sent
    (stamped event from xs) all (stamped_fits event from xs f h)

pub requester_fits : (n : Network) (who : Address) (r : Requests) (sent : List (Address × Content)) → Fits n
    → IsAddress who → FitsRequests r → FitSent sent → Fits (with_requester n who r sent)
requester_fits n who r sent fits f all h =
    record {
      requesters = put_all (λ a x. FitsRequests x) n.requesters who r fits.requesters all;
      responders = fits.responders;
      sent = more_fits n.event who n.sent sent fits.sent f h;
    }

pub responder_fits : (n : Network) (at : Address) (rs : List Record) (sent : List (Address × Content)) → Fits n
    → IsAddress at → AllByRecursion FitsRecord rs → FitSent sent → Fits (with_responder n at rs sent)
responder_fits n at rs sent fits f all h =
    record {
      requesters = fits.requesters;
      responders = put_all (λ a x. AllByRecursion FitsRecord x) n.responders at rs fits.responders all;
      sent = more_fits n.event at n.sent sent fits.sent f h;
    }
