-- Which call of transactions words say.
use Rattle.std.specs.Prelude.{◌≡◌, ◌<◌, ℕ, Bool, true, false, List, [], ◌∷◌, ◌++◌, codes}
use Rattle.std.specs.List.{AllZip}
use Rattle.at_atp_frame.specs.Packets.{Packet}
use Rattle.at_atp_responder.specs.declared.reception.Key.{Key}
use Rattle.at_event.specs.declared.transactions.TransactionCall.{TransactionCall}
use Rattle.at_event.specs.declared.transactions.TransactionCall.TheVariants.{Answer, Ask}
use Rattle.at_call_words.specs.Requesters.{Naming}
use Rattle.at_words.specs.Hexes.{IsHex, IsUser}
use Rattle.at_words.specs.Numbers.{IsByte, IsNode, IsNumber, IsTwoBytes}

-- `alo`, at least once, or `xo`, exactly once
abbrev pub IsMode : List ℕ → Bool → Type 0
IsMode word false = word ≡ codes "alo"
IsMode word true = word ≡ codes "xo"

-- 1 to 8 packets are wanted
abbrev pub IsWanted : List ℕ → ℕ → Type 0
IsWanted word n = IsNumber word n × (0 < n) × (n < 9)

-- user bytes and data with a colon between them
abbrev pub IsPacketWord : List ℕ → Packet → Type 0
IsPacketWord word p = (user bytes : List ℕ) × (word ≡ user ++ (58 ∷ bytes)) × IsUser user p.user × IsHex bytes p.data_

-- what an ask says: node, socket, user bytes, data, packets wanted, mode and retries
abbrev pub AskSays : List (List ℕ) → ℕ → ℕ → List ℕ → List ℕ → ℕ → Bool → ℕ → Type 0
AskSays ws node socket user bytes wanted exactly_once retries =
    (n s u d w m r : List ℕ) × (ws ≡ n ∷ s ∷ u ∷ d ∷ w ∷ m ∷ r ∷ [])
    × IsNode n node × IsNode s socket × IsUser u user × IsHex d bytes × IsWanted w wanted × IsMode m exactly_once
    × IsByte r retries

-- what an answer says: node, socket and transaction of who asked, and the packets
abbrev pub AnswerSays : Naming → List (List ℕ) → Key → List Packet → Type 0
AnswerSays Names ws key packets =
    (n s t : List ℕ) × (ps : List (List ℕ)) × (ws ≡ n ∷ s ∷ t ∷ ps)
    × Names n s key.from × IsTwoBytes t key.tid × AllZip IsPacketWord ps packets

-- the word of a call that names no requester, and what the words after it say
abbrev pub SaysTransactionCall : {A : Type 0} → List ℕ → List (List ℕ) → TransactionCall A → Type 0
SaysTransactionCall word ws (Ask node socket user bytes wanted exactly_once retries) =
    (word ≡ codes "ask") × AskSays ws node socket user bytes wanted exactly_once retries
SaysTransactionCall word ws (Answer key packets) = ⊥
