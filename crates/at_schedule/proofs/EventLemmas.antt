-- A word says one kind of event.
use Rattle.std.proofs.Common.{◌≡◌, ℕ, List, [], ◌∷◌, Option, None, Some, Result, Ok, Err, ap, codes, subst}
use Rattle.std.proofs.lemmas.Bool.{false≢true}
use Rattle.std.specs.Str.{bytes_eq}
use Rattle.at_call_words.specs.Readings.{IfUnlawful, IsFoundInMemory}
use Rattle.at_faults.specs.declared.fault.LineFault.{LineFault}
use Rattle.at_faults.specs.declared.fault.LineFault.TheVariants.{NoMemory, Unlawful}
use Rattle.at_setup.specs.declared.event.Event.{Event}
use Rattle.at_setup.specs.declared.event.Event.TheVariants as event
use Rattle.at_schedule.specs.Says.{DeliverSays, ForgeSays, SaysEvent, SaysFound}
use Rattle.at_words.specs.Hexes.{IsHex}

-- words that say no delivery say no event after this word
pub no_delivery : {A : Type 0} (ws : List (List ℕ)) → ((datagram node : ℕ) → ¬ DeliverSays ws datagram node)
    → (found : Option (Event A)) → ¬ SaysFound (codes "deliver") ws found
no_delivery ws never None said = said
no_delivery ws never (Some (event.Call node c)) (is, said) = cc is
no_delivery ws never (Some (event.Deliver datagram node)) (is, said) = never datagram node said
no_delivery ws never (Some (event.Timer node t)) (is, said) = cc is
no_delivery ws never (Some (event.Forge node bytes)) (is, said) = cc is

no_forgery_of : {A : Type 0} (ws : List (List ℕ)) → ((node : ℕ) (bytes : List ℕ) → ¬ ForgeSays ws node bytes)
    → (found : Option (Event A)) → ¬ SaysFound (codes "forge") ws found
no_forgery_of ws never None said = said
no_forgery_of ws never (Some (event.Call node c)) (is, said) = cc is
no_forgery_of ws never (Some (event.Deliver datagram node)) (is, said) = cc is
no_forgery_of ws never (Some (event.Timer node t)) (is, said) = false≢true (ap (λ w. bytes_eq w (codes "timer")) is)
no_forgery_of ws never (Some (event.Forge node bytes)) (is, said) = never node bytes said

-- the second word spells no bytes, and the words say no forged event
pub no_forgery : (A : Type 0) (fault : LineFault) (ws : List (List ℕ)) (n hex : List ℕ) → ws ≡ n ∷ hex ∷ []
    → IsFoundInMemory {T = List ℕ} (Err fault) (IsHex hex)
    → IsFoundInMemory {T = Option (Event A)} (Err fault) (SaysFound (codes "forge") ws)
no_forgery A (Unlawful rule) ws n hex are never =
    no_forgery_of ws (λ node bytes (m, word, is, named, spelled).
    let same : word ≡ hex = cc (is, are) in
    never bytes (subst (λ w. IsHex w bytes) same spelled))
no_forgery A NoMemory ws n hex are never = tt

-- nothing was found, and the words say no event
pub no_event : {A : Type 0} (r : Result (Option (Event A)) LineFault) (word : List ℕ) (ws : List (List ℕ))
    → IsFoundInMemory r (SaysFound word ws) → IfUnlawful r ((e : Event A) → ¬ SaysEvent word ws e)
no_event (Ok found) word ws said = tt
no_event (Err (Unlawful rule)) word ws never = λ e. never (Some e)
no_event (Err NoMemory) word ws said = tt
