-- What a front and a reader hold, and files that have no header.
use Rattle.std.proofs.Common.{◌≡◌, inl, inr, ℕ, ◌<◌, List, [], ◌++◌, length, false, refl, ap, ◌∙◌}
use Rattle.std.proofs.Common.{arith, append-nil}
use Rattle.std.specs.Prelude.{Option, None, Some}
use Rattle.std.specs.Io.KnownBytes.{Consumes, IsAtEnd, prepend_known}
use Rattle.std.proofs.lemmas.Bool.{cases_lt}
use Rattle.at_pcap.specs.Blocks.{is_section}
use Rattle.at_pcap.specs.Faults.{AreAll, FailsFileHeader}
use Rattle.at_pcap.specs.Files.{BegunFile, BreaksFile, Neither, Nothing}
use Rattle.at_pcap.specs.Frames.{Frame}
use Rattle.at_pcap.specs.declared.fault.CaptureFault.{CaptureFault}
use Rattle.at_pcap.proofs.FileHeaderLemmas.{fails_all}
use Rattle.at_pcap.proofs.FrontLemmas.{section_before}

pub front_taken : (front : List ℕ) (left : Option (List ℕ)) → Consumes (prepend_known front left) left front
front_taken front None = tt
front_taken front (Some xs) = refl

-- bytes that follow a front, if it is not all that there is
behind : (left : Option (List ℕ)) → List ℕ
behind None = []
behind (Some xs) = xs

behind_all : (front : List ℕ) (left : Option (List ℕ)) → AreAll (prepend_known front left) (front ++ behind left)
unfolding behind
behind_all front None = tt
behind_all front (Some xs) = refl

behind_end : (left : Option (List ℕ)) → IsAtEnd left → behind left ≡ []
unfolding behind
behind_end None over = refl
behind_end (Some xs) over = over

not_section : (front : List ℕ) (left : Option (List ℕ)) → is_section front ≡ false
    → (length front < 24 → IsAtEnd left) → is_section (front ++ behind left) ≡ false
not_section front left other short = elim (cases_lt (length front) 24) [
  | inl few ↦ ap is_section (ap (λ l. front ++ l) (behind_end left (short few)) ∙ append-nil front) ∙ other
  | inr there ↦ section_before front (behind left) (omega arith) ∙ other
]

-- a front that is no header
pub no_header : (S : Type 0) (takes : S → Frame → S → Type 0) (left : Option (List ℕ)) (front : List ℕ)
    (fault : CaptureFault) (old : S) → is_section front ≡ false → (length front < 24 → IsAtEnd left)
    → FailsFileHeader fault front → BreaksFile takes (prepend_known front left) old old fault 0
no_header S takes left front fault old other short fails =
    let all = front ++ behind left in
    record {
      all = all;
      frames = [];
      rest = all;
      are = behind_all front left;
      is = Neither fault (fails_all front (behind left) fault (λ few. behind_end left (short few)) fails)
          (not_section front left other short);
      here = omega arith;
      taken = refl;
    }

-- nothing was read
pub none_begun : (S : Type 0) (takes : S → Frame → S → Type 0) (known : Option (List ℕ)) (old : S)
    → BegunFile takes known old old
none_begun S takes None old = record { first = []; frames = []; are = tt; begins = Nothing; taken = refl }
none_begun S takes (Some xs) old = record { first = []; frames = []; are = (xs, refl); begins = Nothing; taken = refl }
