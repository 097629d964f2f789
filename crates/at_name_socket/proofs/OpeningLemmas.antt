-- What a socket for names begins with.
use Rattle.std.proofs.Common.{◌≡◌, ℕ, true, false, List, [], ◌∷◌, Option, Some, None, IfSome, refl, sym, true≢false}
use Rattle.std.specs.Prelude.{is_some}
use Rattle.std.specs.Option.{unwrap_or}
use Rattle.at_nbp.specs.declared.function.Function.TheVariants.{BroadcastRequest, LookUp}
use Rattle.at_name_socket.specs.NameSockets.{asked_by, asked_node, own_zone}

pub node_asked : (router : Option ℕ) → unwrap_or router 255 ≡ asked_node router
node_asked None = refl
node_asked (Some router) = refl

pub asks_router : (router : Option ℕ) → is_some router ≡ true → BroadcastRequest ≡ asked_by router
asks_router None some = absurd (true≢false (sym some))
asks_router (Some router) some = refl

pub asks_all : (router : Option ℕ) → is_some router ≡ false → LookUp ≡ asked_by router
asks_all None none = refl
asks_all (Some router) none = absurd (true≢false none)

pub zone_is : (zone : Option (List ℕ)) (z : List ℕ) → IfSome zone (λ x. z ≡ x) → (zone ≡ None → z ≡ 0x2A ∷ [])
    → z ≡ own_zone zone
zone_is None z some none = none refl
zone_is (Some x) z some none = some
