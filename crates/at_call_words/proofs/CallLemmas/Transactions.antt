-- A word says one kind of call of transactions.
use Rattle.std.proofs.Common.{◌≡◌, ℕ, Bool, List, [], ◌∷◌, sym, subst, ◌∙◌}
use Rattle.std.specs.Prelude.{codes}
use Rattle.std.specs.Str.{bytes_eq}
use Rattle.at_event.specs.declared.transactions.TransactionCall.{TransactionCall}
use Rattle.at_event.specs.declared.transactions.TransactionCall.TheVariants.{Answer, Ask}
use Rattle.at_call_words.specs.Calls.Transactions.{AskSays, IsMode, IsWanted, SaysTransactionCall}
use Rattle.at_call_words.proofs.CallLemmas.Either.{Either}
use Rattle.at_words.specs.Hexes.{IsHex, IsUser}
use Rattle.at_words.specs.Numbers.{IsByte, IsNode}

abbrev pub AskSaid : List (List ℕ) → Type 0
AskSaid ws =
    (node socket : ℕ) × (user bytes : List ℕ) × (wanted : ℕ) × (once : Bool) × (retries : ℕ)
    × AskSays ws node socket user bytes wanted once retries

-- what the words after this one say; or Other, if it is no word of transactions. `answer` names a requester, and is
-- none of these words.
abbrev pub TransactionsSaid : List ℕ → List (List ℕ) → Type 0 → Type 0
TransactionsSaid word ws Other = Either (bytes_eq word (codes "ask")) (AskSaid ws) Other

pub transaction_kinds : (Said : List ℕ → Type 0) (ws : List (List ℕ)) → (AskSaid ws → Said (codes "ask"))
    → {A : Type 0} (word : List ℕ) (c : TransactionCall A) → SaysTransactionCall word ws c → Said word
transaction_kinds Said ws ask word (Ask node socket user bytes wanted once retries) (is, said) =
    subst Said (sym is) (ask (node, socket, user, bytes, wanted, once, retries, said))
transaction_kinds Said ws ask word (Answer key packets) said = absurd said

-- the words of an ask, where they are known
pub ask_at : (ws : List (List ℕ)) (n s u d w m r : List ℕ) → ws ≡ n ∷ s ∷ u ∷ d ∷ w ∷ m ∷ r ∷ []
    → (node socket : ℕ) (user bytes : List ℕ) (wanted : ℕ) (once : Bool) (retries : ℕ)
    → AskSays ws node socket user bytes wanted once retries
    → IsNode n node × IsNode s socket × IsUser u user × IsHex d bytes × IsWanted w wanted × IsMode m once
    × IsByte r retries
ask_at ws n s u d w m r are node socket user bytes wanted once retries
    (n', s', u', d', w', m', r', is, one, two, three, four, five, six, seven) =
    let same : n' ∷ s' ∷ u' ∷ d' ∷ w' ∷ m' ∷ r' ∷ [] ≡ n ∷ s ∷ u ∷ d ∷ w ∷ m ∷ r ∷ [] = sym is ∙ are in
    let en : n' ≡ n = cc in
    let es : s' ≡ s = cc in
    let eu : u' ≡ u = cc in
    let ed : d' ≡ d = cc in
    let ew : w' ≡ w = cc in
    let em : m' ≡ m = cc in
    let er : r' ≡ r = cc in (
      subst (λ l. IsNode l node) en one,
      subst (λ l. IsNode l socket) es two,
      subst (λ l. IsUser l user) eu three,
      subst (λ l. IsHex l bytes) ed four,
      subst (λ l. IsWanted l wanted) ew five,
      subst (λ l. IsMode l once) em six,
      subst (λ l. IsByte l retries) er seven,
    )
