-- What a socket pushes is what its node posts.
use Rattle.std.proofs.Common.{◌≡◌, ℕ, List, [], ◌∷◌, ◌++◌, map, Result, Ok, Err, refl, ap, ◌∙◌}
use Rattle.at_ddp.specs.Outbox.{Posted, Outbox}
use Rattle.std.specs.Prelude.{OnErr}
use Rattle.std.proofs.lemmas.List.{append-nil}
use Rattle.at_ddp.specs.Sending.{Sends, finished}
use Rattle.at_ddp.specs.declared.address.Address.{Address}
use Rattle.at_event.specs.Outcomes.{posted, sent_by}

pub posted-sent_by : (from : Address) (kind : ℕ) (pushes : List (Address × List ℕ)) → map (finished from kind) pushes
    ≡ map posted (sent_by from kind pushes)
posted-sent_by from kind [] = refl
posted-sent_by from kind (p ∷ ps) = ap (λ l. finished from kind p ∷ l) (posted-sent_by from kind ps)

-- what is sent from a socket that has named itself, behind these datagrams
pub posts : (before after : Outbox) (pushes : List (Address × List ℕ)) (start : List Posted) (own : Address) (kind : ℕ)
    → Sends before after pushes → before.items ≡ start → before.from ≡ own → before.kind ≡ kind
    → after.items ≡ start ++ map posted (sent_by own kind pushes)
posts before after pushes start own kind s same from is_kind =
    s.items ∙ (λ i. same i ++ map (finished (from i) (is_kind i)) pushes)
    ∙ ap (λ l. start ++ l) (posted-sent_by own kind pushes)

pub nothing_posted : {T E : Type 0} (r : Result T E) (before after : Outbox) (start : List Posted)
    → OnErr r (Sends before after []) → before.items ≡ start → OnErr r (after.items ≡ start)
nothing_posted (Ok x) before after start h same = h
nothing_posted (Err e) before after start h same = h.items ∙ append-nil before.items ∙ same
