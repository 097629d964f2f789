-- The packets of an answer that came, and those that are still wanted (Inside AppleTalk, ATP, "Transaction bitmap").
use Rattle.std.specs.Prelude.{ℕ, zero, suc, ◌+◌, ◌*◌, ◌/◌, ◌%◌, ◌==◌, if◌then◌else◌, Bool, false, is_none, List}
use Rattle.std.specs.Prelude.{[], ◌∷◌, ◌++◌, slice_set, option_map, Option, Some, None}
use Rattle.at_atp_frame.specs.Packets.{Packet}

-- a packet that came, and whether the answer ends with it
pub record AnswerPart : Type 0 where
  pub eom : Bool
  pub packet : Packet

-- What came for each place that was asked for. A place is still wanted if nothing came for it and no earlier place has
-- a packet that ends the answer.
abbrev pub is_wanted : List (Option AnswerPart) → ℕ → Bool
is_wanted [] place = false
is_wanted (part ∷ parts) zero = is_none part
is_wanted (None ∷ parts) (suc place) = is_wanted parts place
is_wanted (Some part ∷ parts) (suc place) = if part.eom then false else is_wanted parts place

-- the places still wanted, as a mask: place i counts 2 to the i
abbrev pub bitmap_of : List (Option AnswerPart) → ℕ
bitmap_of [] = 0
bitmap_of (None ∷ parts) = 1 + 2 * bitmap_of parts
bitmap_of (Some part ∷ parts) = if part.eom then 0 else 2 * bitmap_of parts

-- bit i of a number: it is halved i times, and then it is odd
abbrev pub bit_is_set : ℕ → ℕ → Bool
bit_is_set n zero = n % 2 == 1
bit_is_set n (suc i) = bit_is_set (n / 2) i

-- the packets up to the first that ends the answer, or all that were asked for; none if one of them is missing
abbrev pub whole : List (Option AnswerPart) → Option (List Packet)
whole [] = Some []
whole (None ∷ parts) = None
whole (Some part ∷ parts) =
    if part.eom then Some (part.packet ∷ []) else option_map (λ ps. part.packet ∷ ps) (whole parts)

-- a packet comes for a place
abbrev pub with_part : List (Option AnswerPart) → ℕ → AnswerPart → List (Option AnswerPart)
with_part parts place part = slice_set parts place (Some part)

-- the packets so far, and then those up to the first that ends the answer or up to the first gap
abbrev pub gathered : List Packet → List (Option AnswerPart) → List Packet
gathered done [] = done
gathered done (None ∷ parts) = done
gathered done (Some part ∷ parts) =
    if part.eom then done ++ part.packet ∷ [] else gathered (done ++ part.packet ∷ []) parts
