-- Received bytes as the datagram at their front, whose data is decoded by its protocol.
use Rattle.std.specs.Prelude.{◌≡◌, ◌≢◌, ℕ, List, Result, IfOk, IfErr, IsOkAnd}
use Rattle.at_ddp.specs.Datagram.{BeginsWith, Content, content}
use Rattle.at_ddp.specs.Fault.{IsFirstFault}
use Rattle.at_ddp.specs.Protocols.{adsp_kind, atp_kind, nbp_kind}
use Rattle.at_ddp.specs.declared.fault.DdpFault.{DdpFault}
use Rattle.at_packet.specs.declared.Body.{Body}
use Rattle.at_packet.specs.declared.Body.TheVariants as body
pub mod Adsp
pub mod Atp
pub mod Nbp

-- the datagram
abbrev pub datagram_of : Body → Content
datagram_of (body.Atp packet) = packet
datagram_of (body.Nbp packet) = packet
datagram_of (body.Adsp packet) = packet
datagram_of (body.Other datagram) = content datagram

-- the data is decoded by the protocol that the header names
abbrev pub IsBody : Body → Type 0
IsBody (body.Atp packet) = packet.kind ≡ atp_kind
IsBody (body.Nbp packet) = packet.kind ≡ nbp_kind
IsBody (body.Adsp packet) = packet.kind ≡ adsp_kind
IsBody (body.Other datagram) =
    (datagram.kind ≢ atp_kind) × (datagram.kind ≢ nbp_kind) × (datagram.kind ≢ adsp_kind)

-- this is the datagram at the front of the bytes, decoded by its protocol, or their first fault
pub record IsDecoded (bytes : List ℕ) (decoded : Result Body DdpFault) : Type 0 where
  pub found : IfOk decoded (λ b. (rest : List ℕ) × BeginsWith bytes (datagram_of b) rest)
  pub protocol : IfOk decoded IsBody
  pub only : (d : Content) (rest : List ℕ) → BeginsWith bytes d rest → IsOkAnd decoded (λ b. datagram_of b ≡ d)
  pub fault : IfErr decoded (λ fault. IsFirstFault fault bytes)
