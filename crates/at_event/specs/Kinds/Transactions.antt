-- Transactions: calls in the range of their types, reports of events that take no memory, and how words must be.
use Rattle.std.specs.Prelude.{◌≡◌, ℕ, ◌<◌, ◌≤◌, Bool, true, false, List, ◌++◌, codes, length}
use Rattle.std.specs.List.{AllByRecursion}
use Rattle.at_ddp.specs.Datagram.{AreBytes}
use Rattle.at_atp_frame.specs.Packets.{AreWords}
use Rattle.at_atp_responder.specs.declared.reception.Key.{Key}
use Rattle.at_event.specs.declared.transactions.TransactionCall.{TransactionCall}
use Rattle.at_event.specs.declared.transactions.TransactionCall.TheVariants.{Ask, Answer}
use Rattle.at_event.specs.declared.transactions.TransactionReport.{TransactionReport}
use Rattle.at_event.specs.declared.transactions.TransactionReport.TheVariants.{Expired, Failed}
use Rattle.at_event.specs.declared.transactions.TransactionRule.{TransactionRule}
use Rattle.at_event.specs.declared.transactions.TransactionRule.TheVariants as rule

-- the address of who asked, and the number of the transaction
abbrev pub IsKey : Key → Type 0
IsKey key =
    (key.from.net < 65536) × (key.from.node < 256) × (key.from.socket < 256) × (key.tid < 65536)

-- the parts of a call are in the range of their types
abbrev pub IsTransactionCall : {A : Type 0} → TransactionCall A → Type 0
IsTransactionCall (Ask node socket user bytes wanted xo retries) =
    (node < 256) × (socket < 256) × (length user ≡ 4) × AreBytes user × AreBytes bytes × (1 ≤ wanted) × (wanted ≤ 8)
IsTransactionCall (Answer key packets) = IsKey key × AllByRecursion AreWords packets

-- Can an event with this report run out of memory? The end of a transaction without retries can't, nor that of a
-- record.
abbrev pub transactions_take_memory : {A : Type 0} → TransactionReport A → Bool
transactions_take_memory (Failed tid) = false
transactions_take_memory Expired = false
transactions_take_memory other = true

-- the sentence that tells a person how the words of a call or a timer must be
abbrev pub transaction_sentence : TransactionRule → List ℕ
transaction_sentence rule.Ask =
    codes "`ask` takes a node, a socket, user bytes, data, 1 to 8 packets, `alo` or `xo`, and retries, as in "
    ++ codes "\"call 5 ask 7 129 00000000 AA 1 alo 3\""
transaction_sentence rule.Answer =
    codes "`answer` takes a node, a socket, a transaction's number and packets, as in \"call 7 answer 5 128 0 "
    ++ codes "00000000:BB\""
transaction_sentence rule.Retry = codes "`retry` takes a transaction's number, 0 to 65535, as in \"timer 5 retry 0\""
transaction_sentence rule.Release =
    codes "`release` takes socket 6 or 129, and a request's node, socket and number, as in \"timer 7 release "
    ++ codes "129 5 128 0\""
