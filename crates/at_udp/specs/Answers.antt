-- What a socket's answer is to the cable.
use Rattle.std.specs.Prelude.{◌≡◌, ℕ, List, take, Option, Some, None, Result, Ok, Err, IsErr}
use Rattle.std.specs.IoError.{error_kind}
use Rattle.std.specs.declared.io.Error.{Error}
use Rattle.std.specs.declared.io.ErrorKind.{ErrorKind}
use Rattle.std.specs.declared.io.ErrorKind.TheVariants.{WouldBlock}
use Rattle.at_cable.specs.declared.fault.CableFault.{CableFault}

-- the answer of a receive with the bytes that it left at the buffer's start
abbrev pub got : {F : Type 0} → Result ℕ F → List ℕ → Result (List ℕ) F
got (Ok count) buffer = Ok (take count buffer)
got (Err fault) buffer = Err fault

-- a send is done if the socket took the payload
abbrev pub IsSent : Result ℕ Error → Result (Unit {0}) CableFault → Type 0
IsSent (Ok count) answer = answer ≡ Ok tt
IsSent (Err error) answer = IsErr answer

-- nothing waits for a socket that would block, and any other error is a fault
abbrev pub IsNothing : {T : Type 0} → ErrorKind → Result (Option T) CableFault → Type 0
IsNothing WouldBlock answer = answer ≡ Ok None
IsNothing kind answer = IsErr answer

-- a receive has what the socket got
abbrev pub IsHeard : {T : Type 0} → Result T Error → Result (Option T) CableFault → Type 0
IsHeard (Ok got) answer = answer ≡ Ok (Some got)
IsHeard (Err error) answer = IsNothing (error_kind error) answer
