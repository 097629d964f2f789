-- All that is sent in a network of ends of streams is in range, if what is called is.
use Rattle.std.proofs.Common.{◌≡◌, ℕ, ◌+◌, ◌^◌, ◌<◌, Bool, true, false, cond, List, [], ◌∷◌, length}
use Rattle.std.proofs.Common.{Some, None, arith}
use Rattle.std.specs.Prelude.{nat_lt}
use Rattle.std.specs.List.{AllByRecursion, list_any}
use Rattle.at_ddp.specs.Datagram.{IsAddress}
use Rattle.at_ddp.specs.declared.address.Address.{Address}
use Rattle.at_adsp_frame.specs.Segments.{Content, IsLawful}
use Rattle.at_adsp_end.specs.Ends.{addressed}
use Rattle.at_adsp_ends.specs.Tables.{EndTable, following, free_id, has_id}
use Rattle.at_adsp_ends.specs.Tables.{next_id}
use Rattle.at_adsp.specs.Lawfully.{IsLawfullySent}
use Rattle.at_ddp.specs.Posts.{AllSent, stamped}
use Rattle.at_ddp.proofs.NumberLemmas.{is_free}
use Rattle.at_adsp.specs.Network.{Network}
use Rattle.at_adsp.proofs.Ranges.{AllLawful, EndFits}

pub record TableFits (t : EndTable) : Type 0 where
  pub next : t.next < 2 ^ 16
  pub room : t.rooms.receive < 2 ^ 16
  pub ends : AllByRecursion EndFits t.ends

pub record NetworkFits (n : Network) : Type 0 where
  pub tables : (at : Address) → TableFits (n.tables at)
  pub sent : AllSent IsLawfullySent n.sent

-- ---- identifiers that are drawn

pub next_below : (t : EndTable) (id : ℕ) → TableFits t → next_id t ≡ Some id → id < 2 ^ 16
next_below t id f is = go (nat_lt (length t.ends) 16) is
  where
    go : (b : Bool) → cond b (free_id (length t.ends + 1) t.next t.ends) None ≡ Some id → id < 2 ^ 16
    go true e =
        let d = is_free following (λ n. list_any (has_id n) t.ends) (λ n. n < 2 ^ 16) (λ n is. omega arith)
        (length t.ends + 1) t.next id f.next e in
        d.0
    go false e = absurd (cc)

-- ---- what is done at a table

abbrev pub CanBeSent : Address × Content → Type 0
CanBeSent x = IsAddress x.0 × IsLawful x.1

pub addressed_fits : (to : Address) (sent : List Content) → IsAddress to → AllLawful sent
    → AllByRecursion CanBeSent (addressed to sent)
addressed_fits to [] is each = tt
addressed_fits to (x ∷ xs) is each = ((is, each.0), addressed_fits to xs is each.1)

pub stamped_fits : (event : ℕ) (from : Address) (sent : List (Address × Content)) → IsAddress from
    → AllByRecursion CanBeSent sent → AllSent IsLawfullySent (stamped event from sent)
stamped_fits event from [] is each = tt
stamped_fits event from (x ∷ xs) is each =
    (record { from_fits = is; to_fits = (each.0).0; lawful = (each.0).1 }, stamped_fits event from xs is each.1)
