-- Which call of streams words say.
use Rattle.std.specs.Prelude.{◌≡◌, ℕ, Bool, true, false, List, ◌∷◌, codes}
use Rattle.at_adsp_end.specs.declared.item.Item.{Item}
use Rattle.at_event.specs.declared.streams.StreamCall.{StreamCall}
use Rattle.at_event.specs.declared.streams.StreamCall.TheVariants.{Close, Connect, Listen, Open, Read, Reset, Write}
use Rattle.at_call_words.specs.Items.{AreItems}
use Rattle.at_call_words.specs.Words.{One, Two}
use Rattle.at_words.specs.Numbers.{IsCount, IsNode, IsTwoBytes}

-- `on` or `off`
abbrev pub IsSwitch : List ℕ → Bool → Type 0
IsSwitch word true = word ≡ codes "on"
IsSwitch word false = word ≡ codes "off"

-- the end of a stream, and items for it
abbrev pub WriteSays : List (List ℕ) → ℕ → List Item → Type 0
WriteSays ws id items =
    (i : List ℕ) × (is : List (List ℕ)) × (ws ≡ i ∷ is) × IsTwoBytes i id × AreItems is items

-- the word of a call, and what the words after it say
abbrev pub SaysStreamCall : {A : Type 0} → List ℕ → List (List ℕ) → StreamCall A → Type 0
SaysStreamCall word ws (Open index) = (word ≡ codes "open") × One IsCount ws index
SaysStreamCall word ws (Listen on) = (word ≡ codes "listen") × One IsSwitch ws on
SaysStreamCall word ws (Connect node socket) =
    (word ≡ codes "connect") × Two IsNode IsNode ws node socket
SaysStreamCall word ws (Write id items) = (word ≡ codes "write") × WriteSays ws id items
SaysStreamCall word ws (Read id count) = (word ≡ codes "read") × Two IsTwoBytes IsTwoBytes ws id count
SaysStreamCall word ws (Reset id) = (word ≡ codes "reset") × One IsTwoBytes ws id
SaysStreamCall word ws (Close id) = (word ≡ codes "close") × One IsTwoBytes ws id
