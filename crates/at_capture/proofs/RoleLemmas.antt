-- The role of a frame, from that of its packet outwards.
use Rattle.std.proofs.Common.{◌≡◌, ◌⊎◌, inl, inr, ℕ, List, refl, sym, subst, ◌∙◌, arith}
use Rattle.at_capture.specs.Datagrams.{BeginsBy}
use Rattle.at_capture.specs.Frames.{Content}
use Rattle.at_capture.specs.Roles.{BeginsRole, HasRole, IsRole, LookupRole, PlaysRole, TransactionRole}
use Rattle.at_capture.specs.declared.question.Role.{Role}
use Rattle.at_capture.specs.declared.question.Role.TheVariants.{Neither}
use Rattle.at_ddp.specs.Datagram.{Content as Datagram}
use Rattle.at_ddp.specs.Protocols.{atp_kind, nbp_kind}
use Rattle.at_frames.specs.Carried.{Load}
use Rattle.at_frames.specs.Carries.{Carries}
use Rattle.at_frames.specs.declared.carried.Header.{Header}

-- no role is played
pub no_role : (R : Role → Type 0) → ((r : Role) → ¬ R r) → IsRole R Neither
no_role R none = record { played = inl refl; only = λ r h. absurd (none r h) }

-- one is, by the relation alone that is named
pub one_role : (R : Role → Type 0) (r : Role) → R r → ((other : Role) → R other → r ≡ other) → IsRole R r
one_role R r h only = record { played = inr h; only = only }

-- a role by one relation is that by another which holds of the same roles
pub as_role : (R S : Role → Type 0) (r : Role) → ((o : Role) → R o → S o) → ((o : Role) → S o → R o) → IsRole R r
    → IsRole S r
as_role R S r there back role = record { played = go role.played; only = λ o h. role.only o (back o h) }
  where
    go : (r ≡ Neither) ⊎ R r → (r ≡ Neither) ⊎ S r
    go (inl e) = inl e
    go (inr h) = inr (there r h)

-- ---- the datagram, by its protocol

pub in_transaction : (d : Datagram) (r : Role) → d.kind ≡ atp_kind → IsRole (TransactionRole d.from d.to d.data_) r
    → IsRole (HasRole d) r
in_transaction d r is role = as_role (TransactionRole d.from d.to d.data_) (HasRole d) r (λ o h. inl (is, h)) back role
  where
    back : (o : Role) → HasRole d o → TransactionRole d.from d.to d.data_ o
    back o (inl h) = h.1
    back o (inr h) = let other : atp_kind ≡ nbp_kind = sym is ∙ h.0 in absurd (omega arith)

pub in_lookup : (d : Datagram) (r : Role) → d.kind ≡ nbp_kind → IsRole (LookupRole d.to d.data_) r
    → IsRole (HasRole d) r
in_lookup d r is role = as_role (LookupRole d.to d.data_) (HasRole d) r (λ o h. inr (is, h)) back role
  where
    back : (o : Role) → HasRole d o → LookupRole d.to d.data_ o
    back o (inr h) = h.1
    back o (inl h) = let other : nbp_kind ≡ atp_kind = sym is ∙ h.0 in absurd (omega arith)

pub in_neither : (d : Datagram) → (d.kind ≡ atp_kind → ⊥) → (d.kind ≡ nbp_kind → ⊥) → IsRole (HasRole d) Neither
in_neither d no_atp no_nbp = no_role (HasRole d) none
  where
    none : (o : Role) → HasRole d o → ⊥
    none o (inl h) = no_atp h.0
    none o (inr h) = no_nbp h.0

-- ---- the bytes that begin with it, and the frame that carries them

pub in_bytes : (header : Header) (bytes : List ℕ) (d : Datagram) (rest : List ℕ) (r : Role)
    → BeginsBy header bytes d rest
    → ((other : Datagram) (after : List ℕ) → BeginsBy header bytes other after → (d ≡ other) × (rest ≡ after))
    → IsRole (HasRole d) r → IsRole (BeginsRole header bytes) r
in_bytes header bytes d rest r begins only role = as_role (HasRole d) (BeginsRole header bytes) r
    (λ o h. record { datagram = d; rest = rest; begins = begins; has = h })
    (λ o h. subst (λ e. HasRole e o) (sym (only h.datagram h.rest h.begins).0) h.has) role

pub in_frame : (f : Content) (load : Load) (r : Role) → Carries f.link_type f.bytes load
    → ((other : Load) → Carries f.link_type f.bytes other → load ≡ other)
    → IsRole (BeginsRole load.header load.bytes) r → IsRole (PlaysRole f) r
in_frame f load r carries only role = as_role (BeginsRole load.header load.bytes) (PlaysRole f) r
    (λ o h. record { load = load; carries = carries; begins = h })
    (λ o h. subst (λ (l : Load). BeginsRole l.header l.bytes o) (sym (only h.load h.carries)) h.begins) role
