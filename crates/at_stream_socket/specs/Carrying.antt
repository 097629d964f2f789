-- Connection identifiers that are not to be reused while a segment has them (Inside AppleTalk, ADSP, "Connection
-- identifiers").
use Rattle.std.specs.Prelude.{◌≡◌, ◌≢◌, ℕ, List, ◌⊎◌}
use Rattle.at_ddp.specs.declared.address.Address.{Address}
use Rattle.at_adsp_frame.specs.Segments.{Content, Part, Open, Spells}

-- the identifier that a segment gives its destination, or 0
abbrev pub dest_of : Part → ℕ
dest_of (Open kind dest) = dest
dest_of other = 0

-- the segment has this identifier of the node that sent it, or of the one that it goes to; 0 is none
abbrev pub Names : Address → Address → Content → ℕ → ℕ → Type 0
Names from to s node id =
    (id ≢ 0) × (((from.node ≡ node) × (s.source ≡ id)) ⊎ ((to.node ≡ node) × (dest_of s.body ≡ id)))

-- the bytes are a segment with this identifier of the node
pub record Carries (from to : Address) (bytes : List ℕ) (node id : ℕ) : Type 0 where
  pub segment : Content
  pub spelled : Spells bytes segment
  pub names : Names from to segment node id
