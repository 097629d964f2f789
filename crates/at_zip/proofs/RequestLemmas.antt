-- Requests: what is read is spelled so.
use Rattle.std.proofs.Common.{◌≡◌, ℕ, ◌+◌, ◌*◌, ◌≤◌, List, [], ◌∷◌, length, get_or, refl, arith}
use Rattle.at_ddp.specs.Fault.{number_at}
use Rattle.at_ddp.proofs.Octets.{InBytes, high_byte, low_byte}
use Rattle.at_zip.specs.Request.{RequestSpells, code_of}
use Rattle.at_zip.specs.declared.request.TableChoice.{TableChoice}

pub is_request : (user : List ℕ) (which : TableChoice) (start : ℕ) → length user ≡ 4 → get_or user 0 0 ≡ code_of which
    → InBytes user
    → start ≡ number_at 2 user → 1 ≤ start → RequestSpells user which start
is_request (a ∷ b ∷ c ∷ d ∷ []) which start len code fits is some =
    let number : start ≡ 256 * c + d = omega arith in
    record {
      from_first = some;
      in_two_bytes = omega (arith, fits 2, fits 3);
      free = b;
      in_one_byte = fits 1;
      fields = rw (number, high_byte c d (fits 2) (fits 3), low_byte c d (fits 3), code) refl;
    }
is_request _ which start len code fits is some = absurd (omega arith)
