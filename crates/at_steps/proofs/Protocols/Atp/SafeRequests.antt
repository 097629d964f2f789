-- The socket of a node that asks: its calls, its timer and its packets are safe.
use Rattle.std.proofs.Common.{◌≡◌, inl, inr, ℕ, zero, suc, ◌+◌, ◌<◌, ◌≤◌, Bool, true, false, cond, List, [], ◌∷◌, ◌++◌}
use Rattle.std.proofs.Common.{length, Option, Some, None, refl, subst, arith}
use Rattle.std.specs.Prelude.{IsSome, MatchBool, find, nat_lt, option_map}
use Rattle.std.proofs.lemmas.Bool.Decides.{nat_tests}
use Rattle.at_ddp.specs.declared.address.Address.{Address}
use Rattle.at_ddp.specs.Protocols.{atp_kind}
use Rattle.at_atp_frame.specs.Fault as atp
use Rattle.at_atp_frame.specs.Frames.{Content, Request, Response, Release, number_of}
use Rattle.at_atp_frame.specs.Packets.{Packet}
use Rattle.at_atp_frame.specs.declared.fault.AtpFault.TheVariants as atps
use Rattle.at_atp_requester.specs.Answers.{AnswerPart, is_wanted, whole, with_part}
use Rattle.at_atp_requester.specs.Requests.{Heard, Requests, Transaction, came_for, heard, is_numbered, is_of}
use Rattle.at_atp_requester.specs.Requests.{next_number, response_came, retried, retried_with, was_kept}
use Rattle.at_atp_requester.specs.declared.progress.Retry.TheVariants as retry
use Rattle.at_atp_requester.specs.declared.progress.RequestProgress.{RequestProgress}
use Rattle.at_atp_requester.specs.declared.progress.RequestProgress.TheVariants as step
use Rattle.at_zip.specs.Page.{Page}
use Rattle.at_zip.specs.Fault as zip
use Rattle.at_zip.specs.declared.fault.ZipFault.{ZipFault}
use Rattle.at_zip.specs.declared.fault.ZipFault.TheVariants.{TooManyZones}
use Rattle.at_event.specs.Outcomes.{Outcome, idle, refused_as, over}
use Rattle.at_event.specs.declared.Report.{Report}
use Rattle.at_event.specs.declared.Report.TheVariants as report
use Rattle.at_event.specs.declared.zones.ZoneReport.TheVariants as zip_report
use Rattle.at_event.specs.declared.fault.NodeFault.TheVariants as nodes
use Rattle.at_zone_socket.specs.AtpParts.{AtpState, with_reading, with_transactions}
use Rattle.at_zone_socket.specs.ZoneSockets.{Reading}
use Rattle.at_transaction_socket.specs.TransactionSockets.{after_heard, asking as asking_at, asks, packet_in}
use Rattle.at_node.specs.Nodes.{NodeState}
use Rattle.at_zone_socket.specs.AtpHearing.{AtRequester}
use Rattle.at_zone_socket.specs.AtpTimers.{after_retry, retry_fired}
use Rattle.at_transaction_socket.specs.RequesterSocket.{asked_as, hears_other, reported_other}
use Rattle.at_zone_socket.specs.ZoneReading.{AsksOn, ReadsPage, TakesPage, after_failing, is_page, is_reading}
use Rattle.at_zone_socket.specs.ZoneReading.{names_read, page_transaction, reading_begins, table_read, zones_called}
use Rattle.at_zone_socket.specs.ZoneReading.{reading_ends}
use Rattle.at_zip.specs.declared.request.TableChoice.{TableChoice}
use Rattle.at_steps.specs.Safety.{Asking, IsTableOfCall, IsSafe, TransactionTable, number_told}
use Rattle.at_event.specs.declared.Reason.TheVariants.{OfNodes, OfTransactions}
use Rattle.at_steps.proofs.Safety.By.{by, packets_few, page_faulted, quiet, refused}

-- below 32 open transactions a number is free
abbrev pub NumbersAreFree : Type 0
NumbersAreFree = (r : Requests) → length r.standing < 32 → IsSome (next_number r)

-- ---- a packet that comes is answered by one at most

kept_one : (A : Type 0) (t : Transaction) (sts : Bool) (packets : Option (List Packet))
    → length (was_kept {A = A} t sts packets).sent ≤ 1
kept_one A t sts (Some packets) = go t.xo
  where
    go : (xo : Bool) → length {A = Address × Content} (cond xo ((t.to, Release t.tid) ∷ []) []) ≤ 1
    go true = omega arith
    go false = omega arith
kept_one A t true None = omega arith
kept_one A t false None = omega arith

came_one : (A : Type 0) (t : Transaction) (place : ℕ) (part : AnswerPart) (sts wanted : Bool)
    → length (came_for {A = A} t place part sts wanted).sent ≤ 1
came_one A t place part sts true =
    kept_one A (record t { parts = with_part t.parts place part }) sts (whole (with_part t.parts place part))
came_one A t place part true false = omega arith
came_one A t place part false false = omega arith

response_one : (A : Type 0) (r : Requests) (this : Transaction → Bool) (place : ℕ) (part : AnswerPart) (sts : Bool)
    (o : Option Transaction) → length (response_came {A = A} r this place part sts o).sent ≤ 1
response_one A r this place part sts None = omega arith
response_one A r this place part sts (Some t) = came_one A t place part sts (is_wanted t.parts place)

heard_one : (A : Type 0) (r : Requests) (from : Address) (f : Content) → length (heard {A = A} r from f).sent ≤ 1
heard_one A r from (Request mask xo timer tid user bytes) = omega arith
heard_one A r from (Release tid) = omega arith
heard_one A r from (Response place eom sts tid user bytes) =
    response_one A r (is_of tid from) place (record { eom = eom; packet = record { user = user; data_ = bytes } }) sts
    (find (is_of tid from) r.standing)

module _ (A : Type 0) (n : NodeState) where
  -- ---- calls

  module _ (free : NumbersAreFree) where
    abbrev Calling : Outcome A AtpState → Type 0
    Calling o = IsSafe IsTableOfCall n n.atp o

    full : next_number n.atp.transactions.requester ≡ None → 32 ≤ length n.atp.transactions.requester.standing
    full none = go (nat_lt (length n.atp.transactions.requester.standing) 32) refl
      where
        go : (b : Bool) → nat_lt (length n.atp.transactions.requester.standing) 32 ≡ b → 32 ≤ length
            n.atp.transactions.requester.standing
        go true few =
            let some = free n.atp.transactions.requester (grind (arith, nat_tests, few)) in
            let never = subst (λ (o : Option ℕ). IsSome o) none some in
            absurd (cc)
        go false most = grind (arith, nat_tests, most)

    refused_full : next_number n.atp.transactions.requester ≡ None → Calling
        (idle n.atp (refused_as (atp.number_of atps.Full)))
    refused_full none = refused A IsTableOfCall n n.atp (OfTransactions atps.Full) (Asking, refl, full none)

    pub asking_safe : (to : Address) (user bytes : List ℕ) (wanted : ℕ) (xo : Bool) (retries : ℕ) (tid : Option ℕ)
        → next_number n.atp.transactions.requester ≡ tid → Calling
        (over (with_transactions n.atp) (asked_as n.seat n.atp.transactions to user bytes wanted xo retries tid))
    asking_safe to user bytes wanted xo retries None is = refused_full is
    asking_safe to user bytes wanted xo retries (Some tid) is =
        quiet A IsTableOfCall n n.atp (over (with_transactions n.atp)
        (asked_as n.seat n.atp.transactions to user bytes wanted xo retries (Some tid))) refl
        (omega arith)

    pub ask_safe : (to : Address) (user bytes : List ℕ) (wanted : ℕ) (xo : Bool) (retries : ℕ) (long : Bool)
        → Calling (over (with_transactions n.atp)
        (cond long (idle n.atp.transactions (refused_as (atp.number_of atps.AtpTooLong)))
        (asked_as n.seat n.atp.transactions to user bytes wanted xo retries
        (next_number n.atp.transactions.requester))))
    ask_safe to user bytes wanted xo retries true =
        refused A IsTableOfCall n n.atp (OfTransactions atps.AtpTooLong) tt
    ask_safe to user bytes wanted xo retries false =
        asking_safe to user bytes wanted xo retries (next_number n.atp.transactions.requester) refl

    begins_safe : (kind : TableChoice) (router : ℕ) (tid : Option ℕ) → next_number n.atp.transactions.requester ≡ tid
        → Calling (reading_begins n.seat n.atp kind router tid)
    begins_safe kind router None is = refused_full is
    begins_safe kind router (Some tid) is =
        quiet A IsTableOfCall n n.atp (reading_begins n.seat n.atp kind router (Some tid)) refl (omega arith)

    pub zones_safe : (kind : TableChoice) (router : Option ℕ) (reading : Option Reading)
        → Calling (zones_called n.seat n.atp kind router reading)
    zones_safe kind None reading = refused A IsTableOfCall n n.atp (OfNodes nodes.NoRouter) tt
    zones_safe kind (Some router) (Some r) = refused A IsTableOfCall n n.atp (OfNodes nodes.StillReading) tt
    zones_safe kind (Some router) None = begins_safe kind router (next_number n.atp.transactions.requester) refl

  -- ---- the timer

  module _ (Wants : TransactionTable → Type 0) where
    abbrev Safe : Outcome A AtpState → Type 0
    Safe o = IsSafe Wants n n.atp o

    retry_at : (tid : ℕ) (o : Option Transaction)
        → Safe (retry_fired n.seat n.atp tid (option_map
        (λ t. retried_with n.atp.transactions.requester tid t t.retries) o))
    retry_at tid None = refused A Wants n n.atp (OfTransactions atps.NoSuch) tt
    retry_at tid (Some t) = go t.retries
      where
        fails : (after : Requests) (b : Bool) → Safe (after_failing n.atp tid after b)
        fails after true = quiet A Wants n n.atp (after_failing n.atp tid after true) refl (omega arith)
        fails after false = quiet A Wants n n.atp (after_failing n.atp tid after false) refl (omega arith)

        go : (left : ℕ) → Safe (retry_fired n.seat n.atp tid
            (Some (retried_with n.atp.transactions.requester tid t left)))
        go zero = fails (retried_with n.atp.transactions.requester tid t zero).after
            (is_reading n.atp.zones.reading tid)
        go (suc left) =
            quiet A Wants n n.atp
            (after_retry n.seat n.atp tid (retried_with n.atp.transactions.requester tid t (suc left)) retry.AskedAgain)
            refl (omega arith)

    pub retry_safe : (tid : ℕ) → Safe (retry_fired n.seat n.atp tid (retried n.atp.transactions.requester tid))
    retry_safe tid = retry_at tid (find (is_numbered tid) n.atp.transactions.requester.standing)

    -- ---- packets

    heard_safe : (h : Heard A) (r : Report A) (reading : Option Reading) (o : Outcome A AtpState)
        → length h.sent ≤ 1 → number_told r ≡ None → o ≡ over (with_reading n.atp reading)
        (after_heard n.seat n.atp.transactions h r) → Safe o
    heard_safe h r reading o one none is =
        by A Wants n n.atp o (over (with_reading n.atp reading) (after_heard n.seat n.atp.transactions h r)) is
        (quiet A Wants n n.atp (over (with_reading n.atp reading) (after_heard n.seat n.atp.transactions h r)) none
        (packets_few (asking_at n.seat.net n.seat.number) atp_kind h.sent 131070 (omega (arith, one))))

    faults_safe : (h : Heard A) (fault : ZipFault) (number : ℕ) (o : Outcome A AtpState) → length h.sent ≤ 1
        → zip.number_of fault ≡ Some number
        → o ≡ reading_ends n.seat n.atp h (report.Zones (zip_report.Fault number))
        → Safe o
    faults_safe h fault number o one numbered is =
        by A Wants n n.atp o (reading_ends n.seat n.atp h (report.Zones (zip_report.Fault number))) is
        (page_faulted A Wants n n.atp fault number
        (reading_ends n.seat n.atp h (report.Zones (zip_report.Fault number))) numbered
        refl (packets_few (asking_at n.seat.net n.seat.number) atp_kind h.sent 131070 (omega (arith, one))))

    other_quiet : (tid : ℕ) (x : RequestProgress A) → number_told (reported_other tid x) ≡ None
    other_quiet tid step.Ignored = refl
    other_quiet tid step.Kept = refl
    other_quiet tid step.AskAgain = refl
    other_quiet tid (step.Finished packets) = refl

    takes_safe : (h : Heard A) (from : Address) (names : List (List ℕ)) (q : Page) (o : Outcome A AtpState)
        → length h.sent ≤ 1 → TakesPage n.seat n.atp h from names q o → Safe o
    takes_safe h from names q o one = go (nat_lt 1024 (length names + length q.names)) q.last
      where
        go : (long last : Bool)
            → MatchBool long (o ≡ reading_ends n.seat n.atp h (report.Zones (zip_report.Fault 34)))
            (MatchBool last (o ≡ reading_ends n.seat n.atp h
            (report.Zones (zip_report.List (table_read n.atp.zones.reading)
            (names ++ q.names))))
            (AsksOn n.seat n.atp h from (names ++ q.names) o)) → Safe o
        go true last is = faults_safe h TooManyZones 34 o one refl is
        go false true is =
            heard_safe h (report.Zones (zip_report.List (table_read n.atp.zones.reading) (names ++ q.names))) None o one
            refl
            is
        go false false on =
            let asked = over (with_reading n.atp (Some
            (record { which = table_read n.atp.zones.reading; tid = on.tid; names = names ++ q.names })))
            (asks n.seat (record n.atp.transactions { requester = h.after })
            (page_transaction from (table_read n.atp.zones.reading) (names ++ q.names) on.tid)) in
            by A Wants n n.atp o asked on.outcome (quiet A Wants n n.atp asked refl (omega arith))

    reads_safe : (h : Heard A) (from : Address) (names : List (List ℕ)) (p : Packet) (o : Outcome A AtpState)
        → length h.sent ≤ 1 → ReadsPage n.seat n.atp h from names p o → Safe o
    reads_safe h from names p o one (inl has) = takes_safe h from names has.page o one has.outcome
    reads_safe h from names p o one (inr has) = faults_safe h has.fault has.number o one has.numbered has.outcome

    pub heard_at_requester : (from : Address) (f : Content) (o : Outcome A AtpState)
        → AtRequester n.seat n.atp from f o → Safe o
    heard_at_requester from f o = go (is_page A n.atp from f)
      where
        h : Heard A
        h = heard n.atp.transactions.requester from f

        one : length (heard {A = A} n.atp.transactions.requester from f).sent ≤ 1
        one = heard_one A n.atp.transactions.requester from f

        go : (b : Bool)
            → MatchBool b (ReadsPage n.seat n.atp h from (names_read n.atp.zones.reading) (packet_in f) o)
            (o ≡ over (with_transactions n.atp) (hears_other n.seat n.atp.transactions (number_of f) h)) → Safe o
        go true reads = reads_safe h from (names_read n.atp.zones.reading) (packet_in f) o one reads
        go false is =
            heard_safe h (reported_other (number_of f) (heard {A = A} n.atp.transactions.requester from f).step)
            n.atp.zones.reading o one
            (other_quiet (number_of f) (heard {A = A} n.atp.transactions.requester from f).step) is
