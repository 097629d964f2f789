-- What the packets, the open transactions and the records of a network say of the newest transactions.
use Rattle.std.proofs.Common.{◌≡◌, ℕ, zero, suc, ◌+◌, ◌≤◌, Bool, true, false, cond, List, [], ◌∷◌, ◌++◌, length}
use Rattle.std.proofs.Common.{replicate, Option, Some, None, ◌⊎◌, inl, inr, refl, sym, ap, subst, ◌∙◌, arith, lit≤}
use Rattle.std.specs.Prelude.{slice_get, option_map, ◌==◌, ◌/◌, ◌%◌}
use Rattle.std.specs.List.{AllByRecursion, Contains}
use Rattle.at_ddp.specs.declared.address.Address.{Address}
use Rattle.at_atp_requester.specs.Answers.{AnswerPart, whole, with_part}
use Rattle.at_atp_frame.specs.Frames.{Content, Request, Response, Release, owner, number_of}
use Rattle.at_atp_frame.specs.Packets.{Packet}
use Rattle.at_atp_responder.specs.Records.{State, Waiting, Answered, Released, Record, responses}
use Rattle.at_atp_requester.specs.Requests as requests
use Rattle.at_atp.specs.Transactions.{Transaction, Asked, IsPart, AreParts, EndsAnswer}
use Rattle.at_atp_responder.specs.declared.reception.Key.{Key}
use Rattle.at_ddp.proofs.Alls.{all_both}
use Rattle.at_ddp.proofs.PartLemmas.{there, length_at, moved_on, is_last}
use Rattle.at_atp.proofs.Newest.{Extends, Keeps, asked_kept, part_kept}

-- ---- packets

-- A request belongs to the newest transaction of its number. A response is a packet of an answer to it. A release goes
-- to the responder that it asked.
abbrev pub Tells : List Transaction → Address → Address → Content → Type 0
Tells ts from to (Request mask xo timer tid user bytes) = (a : Asked ts from tid to) × (a.transaction.user ≡ user)
    × (a.transaction.data_ ≡ bytes) × (a.transaction.xo ≡ xo)
Tells ts from to (Response place eom sts tid user bytes) = (a : Asked ts to tid from)
    × IsPart a.transaction place eom (record { user = user; data_ = bytes })
Tells ts from to (Release tid) = Asked ts from tid to

pub tells_kept : (old new : List Transaction) (from to : Address) (f : Content)
    → Keeps old new (owner from to f) (number_of f) → Tells old from to f → Tells new from to f
tells_kept old new from to (Request mask xo timer tid user bytes) keeps h =
    let more = asked_kept old new from tid to keeps h.0 in
    (more.0, more.1.user ∙ h.1, more.1.bytes ∙ h.2, more.1.xo ∙ h.3)
tells_kept old new from to (Response place eom sts tid user bytes) keeps h =
    let more = asked_kept old new to tid from keeps h.0 in
    (more.0, part_kept h.0.transaction more.0.transaction place eom (record { user = user; data_ = bytes }) more.1 h.1)
tells_kept old new from to (Release tid) keeps h = (asked_kept old new from tid to keeps h).0

-- ---- open transactions

-- each packet that came is a packet of an answer
abbrev pub PartsOf : Transaction → ℕ → List (Option AnswerPart) → Type 0
PartsOf t place [] = Unit {0}
PartsOf t place (None ∷ parts) = PartsOf t (place + 1) parts
PartsOf t place (Some part ∷ parts) = IsPart t place part.eom part.packet × PartsOf t (place + 1) parts

-- an open transaction is the newest of its number
pub record Holds (ts : List Transaction) (who : Address) (t : requests.Transaction) : Type 0 where
  pub asked : Asked ts who t.tid t.to
  pub user : (asked.transaction).user ≡ t.user
  pub bytes : (asked.transaction).data_ ≡ t.data_
  pub xo : (asked.transaction).xo ≡ t.xo
  pub wanted : (asked.transaction).wanted ≡ length t.parts
  pub parts : PartsOf asked.transaction 0 t.parts

parts_kept : (t u : Transaction) (place : ℕ) (parts : List (Option AnswerPart)) → Extends t u → PartsOf t place parts
    → PartsOf u place parts
parts_kept t u place [] extends h = tt
parts_kept t u place (None ∷ parts) extends h = parts_kept t u (place + 1) parts extends h
parts_kept t u place (Some part ∷ parts) extends h =
    (part_kept t u place part.eom part.packet extends h.0, parts_kept t u (place + 1) parts extends h.1)

pub holds_kept : (old new : List Transaction) (who : Address) (t : requests.Transaction) → Keeps old new who t.tid
    → Holds old who t → Holds new who t
holds_kept old new who t keeps h =
    let more = asked_kept old new who t.tid t.to keeps h.asked in
    record {
      asked = more.0;
      user = more.1.user ∙ h.user;
      bytes = more.1.bytes ∙ h.bytes;
      xo = more.1.xo ∙ h.xo;
      wanted = more.1.wanted ∙ h.wanted;
      parts = parts_kept h.asked.transaction more.0.transaction 0 t.parts more.1 h.parts;
    }

-- nothing came yet
pub no_parts : (t : Transaction) (place n : ℕ) → PartsOf t place (replicate n None)
no_parts t place zero = tt
no_parts t place (suc n) = no_parts t (place + 1) n

pub parts_with : (t : Transaction) (at place : ℕ) (parts : List (Option AnswerPart)) (part : AnswerPart)
    → PartsOf t at parts
    → IsPart t (at + place) part.eom part.packet → PartsOf t at (with_part parts place part)
parts_with t at place [] part h is = tt
parts_with t at zero (None ∷ parts) part h is = (subst (λ k. IsPart t k part.eom part.packet) (omega arith) is, h)
parts_with t at zero (Some x ∷ parts) part h is = (subst (λ k. IsPart t k part.eom part.packet) (omega arith) is, h.1)
parts_with t at (suc place) (None ∷ parts) part h is =
    parts_with t (at + 1) place parts part h (subst (λ k. IsPart t k part.eom part.packet) (omega arith) is)
parts_with t at (suc place) (Some x ∷ parts) part h is =
    (h.0, parts_with t (at + 1) place parts part h.1 (subst (λ k. IsPart t k part.eom part.packet) (omega arith) is))

-- ---- the whole response

no_packets : (packets : List Packet) → Some [] ≡ Some packets → packets ≡ []
no_packets packets h = cc

one_packet : (p : Packet) (packets : List Packet) → Some (p ∷ []) ≡ Some packets → p ∷ [] ≡ packets
one_packet p packets h = cc

pub record Wholly (t : Transaction) (at : ℕ) (parts : List (Option AnswerPart)) (packets : List Packet) : Type 0 where
  pub are : AreParts t at packets
  pub few : length packets ≤ length parts
  pub some : 1 ≤ length parts → 1 ≤ length packets
  pub ends : EndsAnswer t at packets ⊎ (length packets ≡ length parts)

ends_later : (t : Transaction) (at : ℕ) (p : Packet) (qs : List Packet) (n : ℕ) → EndsAnswer t (at + 1) qs
    ⊎ (length qs ≡ n) → EndsAnswer t at (p ∷ qs) ⊎ (length (p ∷ qs) ≡ suc n)
ends_later t at p [] n (inl e) = absurd e
ends_later t at p (q ∷ qs) n (inl e) = inl e
ends_later t at p qs n (inr e) = inr (omega (arith, e))

pub wholly : (t : Transaction) (at : ℕ) (parts : List (Option AnswerPart)) (packets : List Packet) → PartsOf t at parts
    → whole parts ≡ Some packets → Wholly t at parts packets
wholly t at [] packets h is = subst (Wholly t at []) (sym (no_packets packets is))
    (record { are = tt; few = lit≤ tt; some = λ k. k; ends = inr refl })
wholly t at (None ∷ parts) packets h is = absurd (cc)
wholly t at (Some part ∷ parts) packets h is = go (λ qs k. wholly t (at + 1) parts qs h.1 k) part.eom refl is
  where
    later : (o : Option (List Packet)) → whole parts ≡ o → option_map (λ (ps : List Packet). part.packet ∷ ps) o
        ≡ Some packets → ((qs : List Packet) → whole parts ≡ Some qs → Wholly t (at + 1) parts qs)
        → Wholly t at (Some part ∷ parts) packets
    later None e g ih = absurd (cc)
    later (Some qs) e g ih =
        let rest = ih qs e in
        let same : part.packet ∷ qs ≡ packets = cc in
        let few = rest.few in
        subst (Wholly t at (Some part ∷ parts)) same (record {
          are = ((part.eom, h.0), rest.are);
          few = omega arith;
          some = λ _. omega arith;
          ends = ends_later t at part.packet qs (length parts) rest.ends;
        })

    go : ((qs : List Packet) → whole parts ≡ Some qs → Wholly t (at + 1) parts qs) → (b : Bool) → part.eom ≡ b
        → cond b (Some (part.packet ∷ [])) (option_map (λ (ps : List Packet). part.packet ∷ ps) (whole parts))
        ≡ Some packets → Wholly t at (Some part ∷ parts) packets
    go ih true e g = subst (Wholly t at (Some part ∷ parts)) (one_packet part.packet packets g) (record {
      are = ((part.eom, h.0), tt);
      few = omega arith;
      some = λ _. omega arith;
      ends = inl (subst (λ b. IsPart t at b part.packet) e h.0);
    })
    go ih false e g = later (whole parts) refl g ih

-- ---- records

-- an answer that is kept was given
abbrev pub Kept : Transaction → State → Type 0
Kept t (Waiting xo mask) = Unit {0}
Kept t (Answered packets) = Contains t.answers packets
Kept t Released = Unit {0}

-- a record belongs to the newest transaction of its number
pub record Waits (ts : List Transaction) (at : Address) (r : Record) : Type 0 where
  pub asked : Asked ts r.key.from r.key.tid at
  pub kept : Kept asked.transaction r.state

state_kept : (t u : Transaction) (s : State) → Extends t u → Kept t s → Kept u s
state_kept t u (Waiting xo mask) extends h = tt
state_kept t u (Answered packets) extends h = extends.answers packets h
state_kept t u Released extends h = tt

pub waits_kept : (old new : List Transaction) (at : Address) (r : Record) → Keeps old new r.key.from r.key.tid
    → Waits old at r → Waits new at r
waits_kept old new at r keeps h =
    let more = asked_kept old new r.key.from r.key.tid at keeps h.asked in
    record { asked = more.0; kept = state_kept h.asked.transaction more.0.transaction r.state more.1 h.kept }

-- ---- what a responder sends

pub responses_tell : (ts : List Transaction) (at : Address) (key : Key) (a : Asked ts key.from key.tid at)
    (answer before rest : List Packet) (place mask : ℕ) →
    Contains a.transaction.answers answer → answer ≡ before ++ rest → place ≡ length before
    → AllByRecursion (λ s. Tells ts at s.0 s.1) (responses key place mask rest)
responses_tell ts at key a answer before [] place mask given is here = tt
responses_tell ts at key a answer before (p ∷ ps) place mask given is here =
    all_both (λ s. Tells ts at s.0 s.1)
    (cond (mask % 2 == 1) ((key.from, Response place (length ps == 0) false key.tid p.user p.data_) ∷ []) [])
    (responses key (place + 1) (mask / 2) ps)
    (go (mask % 2 == 1))
    (responses_tell ts at key a answer (before ++ p ∷ []) ps (place + 1) (mask / 2) given (is ∙ moved_on before p ps)
    (omega (arith, here, length_at before p [])))
  where
    part : IsPart a.transaction place (length ps == 0) p
    part = record {
      answer = answer;
      given = given;
      there = (λ i. slice_get (is i) (here i)) ∙ there before p ps;
      is_end = is_last (length ps) place (length answer) (omega (arith, ap length is, length_at before p ps, here));
    }

    go : (b : Bool) → AllByRecursion (λ (s : Address × Content). Tells ts at s.0 s.1)
        (cond b ((key.from, Response place (length ps == 0) false key.tid p.user p.data_) ∷ []) [])
    go true = ((a, part), tt)
    go false = tt
