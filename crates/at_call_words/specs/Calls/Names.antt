-- Which call of names words say.
use Rattle.std.specs.Prelude.{◌≡◌, ℕ, List, [], ◌∷◌, Option, codes}
use Rattle.at_event.specs.declared.names.NameCall.{NameCall}
use Rattle.at_event.specs.declared.names.NameCall.TheVariants.{Claim, Find, Finish, Register, Unregister}
use Rattle.at_call_words.specs.Words.{One, Two}
use Rattle.at_words.specs.Numbers.{IsByte, IsNode}
use Rattle.at_words.specs.Texts.{AreZone, IsText}

-- what a lookup says: an object, a type, and a zone if there is one
abbrev pub FindSays : List (List ℕ) → List ℕ → List ℕ → Option (List ℕ) → Type 0
FindSays ws object kind place =
    (o k : List ℕ) × (zs : List (List ℕ)) × (ws ≡ o ∷ k ∷ zs) × IsText o object × IsText k kind × AreZone zs place

-- an object, a type and a socket
abbrev pub SocketSays : List (List ℕ) → List ℕ → List ℕ → ℕ → Type 0
SocketSays ws object kind socket =
    (o k s : List ℕ) × (ws ≡ o ∷ k ∷ s ∷ []) × IsText o object × IsText k kind × IsNode s socket

-- the word of a call, and what the words after it say
abbrev pub SaysNameCall : List ℕ → List (List ℕ) → NameCall → Type 0
SaysNameCall word ws (Find object kind place) = (word ≡ codes "find") × FindSays ws object kind place
SaysNameCall word ws (Claim object kind socket) =
    (word ≡ codes "claim") × SocketSays ws object kind socket
SaysNameCall word ws (Finish id) = (word ≡ codes "finish") × One IsByte ws id
SaysNameCall word ws (Register object kind socket) =
    (word ≡ codes "register") × SocketSays ws object kind socket
SaysNameCall word ws (Unregister object kind) =
    (word ≡ codes "unregister") × Two IsText IsText ws object kind
