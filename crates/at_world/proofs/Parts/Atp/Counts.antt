-- What the steps of a play say of one request, as the proofs count it: step by step, the newest first. In the end it is
-- said in the words of ExactlyOnce.
use Rattle.std.proofs.Common.{◌≡◌, ◌⊎◌, inl, inr, ℕ, zero, suc, ◌<◌, Bool, true, false, cond, not, List, [], ◌∷◌}
use Rattle.std.proofs.Common.{length, get_or, Some, refl, sym, ap, subst, ◌∙◌, arith}
use Rattle.std.specs.Prelude.{◌||◌, Any, find}
use Rattle.std.specs.List.{list_any}
use Rattle.std.proofs.lemmas.List.Sums.{take_while-cons}
use Rattle.at_ddp.specs.declared.address.Address.{Address}
use Rattle.at_atp_frame.specs.Packets.{Packet}
use Rattle.at_atp_responder.specs.declared.reception.Key.{Key}
use Rattle.at_event.specs.declared.Call.TheVariants.{Transactions}
use Rattle.at_event.specs.declared.transactions.TransactionCall.TheVariants.{Ask}
use Rattle.at_event.specs.declared.Timer.TheVariants as timer
use Rattle.at_event.specs.declared.transactions.TransactionTimer.TheVariants as atp_timer
use Rattle.at_event.specs.declared.Report.{Report}
use Rattle.at_event.specs.declared.Report.TheVariants as report
use Rattle.at_event.specs.declared.transactions.TransactionReport.TheVariants as atp_report
use Rattle.at_steps.specs.AtpReports as reports
use Rattle.at_world.specs.Events.{act_of, node_of}
use Rattle.at_world.specs.ExactlyOnce.{Played, AllLive, AsksOnce, AtMostOne, BeganOnce, GivesBy, HandsUp, IsGiven}
use Rattle.at_world.specs.ExactlyOnce.{begins_under, expires, since}
use Rattle.at_world.specs.Sents.{SentDatagram}
use Rattle.at_setup.specs.declared.event.Event.{Event}
use Rattle.at_setup.specs.declared.event.Event.TheVariants as event

-- ---- what one step says

-- a transaction began under the number of this key
abbrev pub began_under : {A : Type 0} → ℕ → Event A → Report A → Key → Bool
began_under net e r key = reports.began_under net (node_of e) (act_of e) r key

-- the release timer removed the record of this key at a responder
abbrev pub expired_at : {A : Type 0} → ℕ → Event A → Report A → Address → Key → Bool
expired_at net e r at key = reports.expired_at net (node_of e) (act_of e) r at key

-- is this an exactly-once request?
abbrev pub asks_once : {A : Type 0} → Event A → Bool
asks_once e = reports.asks_once (act_of e)

-- how many packets does it ask for?
abbrev pub asks_for : {A : Type 0} → Event A → ℕ
asks_for e = reports.asks_for (act_of e)

abbrev pub HandsUpAt : {A : Type 0} → List SentDatagram → Key → Played A → Type 0
HandsUpAt sent key x = HandsUp sent key x.event x.report

abbrev pub GivenAt : {A : Type 0} → List SentDatagram → Key → Played A → Type 0
GivenAt sent key x = IsGiven sent key x.event x.report

abbrev pub GivesAt : {A : Type 0} → List SentDatagram → Key → List Packet → Played A → Type 0
GivesAt sent key answer x = GivesBy sent x.tables key answer x.event x.report

begins_is : (A : Type 0) (net : ℕ) (key : Key) (e : Event A) (r : Report A) → begins_under net key e r
    ≡ began_under net e r key
begins_is A net key e (report.Transactions (atp_report.Begun tid)) = refl
begins_is A net key e r = refl

expires_is : (A : Type 0) (net : ℕ) (at : Address) (key : Key) (e : Event A) (r : Report A) → expired_at net e r at key
    ≡ expires net at key e r
expires_is A net at key (event.Timer node (timer.Transactions (atp_timer.Release own k)))
    (report.Transactions atp_report.Expired) = refl
expires_is A net at key e r = refl

asks_so : (A : Type 0) (wanted : ℕ) (e : Event A) → AsksOnce wanted e → (asks_once e ≡ true) × (asks_for e ≡ wanted)
asks_so A wanted (event.Call node (Transactions (Ask k socket user bytes count true retries))) h = (refl, h)
asks_so A wanted e h = absurd h

-- ---- how many steps are so

-- none of these is so
abbrev pub NoneOf : {X : Type 0} → (X → Type 0) → List X → Type 0
NoneOf P [] = Unit {0}
NoneOf P (x ∷ xs) = (P x → ⊥) × NoneOf P xs

-- one of these at most is so
abbrev pub OneOf : {X : Type 0} → (X → Type 0) → List X → Type 0
OneOf P [] = Unit {0}
OneOf P (x ∷ xs) = (P x → NoneOf P xs) × OneOf P xs

-- some of these is so
abbrev pub SomeOf : {X : Type 0} → (X → Type 0) → List X → Type 0
SomeOf P [] = ⊥
SomeOf P (x ∷ xs) = P x ⊎ SomeOf P xs

none_at : {X : Type 0} (P : X → Type 0) (xs : List X) → NoneOf P xs → (j : ℕ) (d : X) → j < length xs
    → P (get_or xs j d) → ⊥
none_at P [] none j d within is = absurd (omega arith)
none_at P (x ∷ xs) none zero d within is = none.0 is
none_at P (x ∷ xs) none (suc j) d within is = none_at P xs none.1 j d (omega arith) is

pairs_of : {X : Type 0} (P : X → Type 0) (xs : List X) → OneOf P xs → (i j : ℕ) (d : X) → i < j → j < length xs
    → P (get_or xs i d) → P (get_or xs j d) → ⊥
pairs_of P [] one i j d before within this that = absurd (omega arith)
pairs_of P (x ∷ xs) one i zero d before within this that = absurd (omega arith)
pairs_of P (x ∷ xs) one zero (suc j) d before within this that = none_at P xs (one.0 this) j d (omega arith) that
pairs_of P (x ∷ xs) one (suc i) (suc j) d before within this that =
    pairs_of P xs one.1 i j d (omega arith) (omega arith) this that

any_of : {X : Type 0} (P : X → Type 0) (xs : List X) → SomeOf P xs → Any P xs
any_of P [] some = absurd some
any_of P (x ∷ xs) (inl here) = (0, x, omega arith, refl, here)
any_of P (x ∷ xs) (inr later) = let a = any_of P xs later in (suc a.0, a.1, omega (arith, a.2), a.3, a.4)

any_same : {X : Type 0} (p q : X → Bool) → ((x : X) → p x ≡ q x) → (xs : List X) → list_any p xs ≡ list_any q xs
any_same p q same [] = refl
any_same p q same (x ∷ xs) = λ i. same x i || any_same p q same xs i

-- ---- the steps since the transaction of a key began

abbrev pub steps_since : {A : Type 0} → ℕ → List (Played A) → Key → List (Played A)
steps_since net [] key = []
steps_since net (x ∷ xs) key = cond (began_under net x.event x.report key) [] (x ∷ steps_since net xs key)

flipped : {X : Type 0} (b : Bool) (x y : X) → cond b x y ≡ cond (not b) y x
flipped true x y = refl
flipped false x y = refl

since_is : (A : Type 0) (net : ℕ) (key : Key) (past : List (Played A)) → steps_since net past key ≡ since net key past
since_is A net key [] = refl
since_is A net key (x ∷ xs) =
    (λ i. cond (sym (begins_is A net key x.event x.report) i) [] (x ∷ since_is A net key xs i))
    ∙ flipped {X = List (Played A)} (begins_under net key x.event x.report) [] (x ∷ since net key xs)
    ∙ sym (take_while-cons (λ (y : Played A). not (begins_under net key y.event y.report)) x xs)

pub at_most_one : (A : Type 0) (net : ℕ) (key : Key) (past : List (Played A)) (P : Event A → Report A → Type 0)
    → OneOf (λ (x : Played A). P x.event x.report) (steps_since net past key) → AtMostOne P (since net key past)
at_most_one A net key past P one = subst (AtMostOne P) (since_is A net key past)
    (pairs_of (λ (x : Played A). P x.event x.report) (steps_since net past key) one)

pub any_since : (A : Type 0) (net : ℕ) (key : Key) (past : List (Played A)) (P : Played A → Type 0)
    → SomeOf P (steps_since net past key) → Any P (since net key past)
any_since A net key past P some =
    subst (Any P) (since_is A net key past) (any_of P (steps_since net past key) some)

-- ---- how it began

-- did its transaction begin as one that must not run twice?
abbrev pub is_once : {A : Type 0} → ℕ → List (Played A) → Key → Bool
is_once net [] key = false
is_once net (x ∷ xs) key = cond (began_under net x.event x.report key) (asks_once x.event) (is_once net xs key)

-- how many packets did it ask for?
abbrev pub wanted_by : {A : Type 0} → ℕ → List (Played A) → Key → ℕ
wanted_by net [] key = 0
wanted_by net (x ∷ xs) key = cond (began_under net x.event x.report key) (asks_for x.event) (wanted_by net xs key)

pub began_as : (A : Type 0) (net : ℕ) (key : Key) (wanted : ℕ) (past : List (Played A))
    → BeganOnce net key wanted past → (is_once net past key ≡ true) × (wanted_by net past key ≡ wanted)
began_as A net key wanted [] began = let none = began.1 in absurd (cc)
began_as A net key wanted (x ∷ xs) began =
    go (λ is. began_as A net key wanted xs (began.0, is, began.2)) (began_under net x.event x.report key)
    (ap (λ b. cond b (Some x) (find (λ (y : Played A). begins_under net key y.event y.report) xs))
    (sym (begins_is A net key x.event x.report)) ∙ began.1)
  where
    go : (find (λ (y : Played A). begins_under net key y.event y.report) xs ≡ Some began.0
        → (is_once net xs key ≡ true) × (wanted_by net xs key ≡ wanted)) → (b : Bool)
        → cond b (Some x) (find (λ (y : Played A). begins_under net key y.event y.report) xs) ≡ Some began.0
        → (cond b (asks_once x.event) (is_once net xs key) ≡ true)
        × (cond b (asks_for x.event) (wanted_by net xs key) ≡ wanted)
    go later true is = let same : x ≡ began.0 = cc in
        asks_so A wanted x.event (subst (λ (y : Played A). AsksOnce wanted y.event) (sym same) began.2)
    go later false is = later is

-- ---- records that live

-- did its record at a responder expire since its transaction began?
abbrev pub has_expired : {A : Type 0} → ℕ → List (Played A) → Address → Key → Bool
has_expired net [] at key = false
has_expired net (x ∷ xs) at key = cond (began_under net x.event x.report key) false
    (expired_at net x.event x.report at key || has_expired net xs at key)

expired_since : (A : Type 0) (net : ℕ) (past : List (Played A)) (at : Address) (key : Key) → has_expired net past at key
    ≡ list_any (λ (y : Played A). expired_at net y.event y.report at key) (steps_since net past key)
expired_since A net [] at key = refl
expired_since A net (x ∷ xs) at key = go (began_under net x.event x.report key) (expired_since A net xs at key)
  where
    go : (b : Bool) → has_expired net xs at key
        ≡ list_any (λ (y : Played A). expired_at net y.event y.report at key) (steps_since net xs key)
        → cond b false (expired_at net x.event x.report at key || has_expired net xs at key)
        ≡ list_any (λ (y : Played A). expired_at net y.event y.report at key) (cond b [] (x ∷ steps_since net xs key))
    go true same = refl
    go false same = ap (λ b. expired_at net x.event x.report at key || b) same

pub expired_is : (A : Type 0) (net : ℕ) (past : List (Played A)) (at : Address) (key : Key)
    → has_expired net past at key
    ≡ list_any (λ (y : Played A). expires net at key y.event y.report) (since net key past)
expired_is A net past at key =
    expired_since A net past at key
    ∙ any_same (λ (y : Played A). expired_at net y.event y.report at key)
    (λ (y : Played A). expires net at key y.event y.report)
    (λ (y : Played A). expires_is A net at key y.event y.report) (steps_since net past key)
    ∙ ap (list_any (λ (y : Played A). expires net at key y.event y.report)) (since_is A net key past)

-- in all steps that are so, those before the newest are
pub live_before : (A : Type 0) (net : ℕ) (sent : List SentDatagram) (x : Played A) (xs : List (Played A))
    → AllLive net sent (x ∷ xs) → AllLive net sent xs
live_before A net sent x xs live = λ later before y is. live (x ∷ later) before y (ap (λ l. x ∷ l) is)
