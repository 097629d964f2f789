-- What is spelled is bytes.
use Rattle.std.proofs.Common.{ℕ, ◌+◌, ◌*◌, ◌/◌, ◌%◌, ◌<◌, ◌≤◌, List, [], ◌∷◌, length, arith}
use Rattle.std.specs.Prelude.{All}
use Rattle.std.specs.List.{flat_map}
use Rattle.std.proofs.lemmas.List.Elements.{All-append, All-cons, All-nil, All-tail}
use Rattle.at_ddp.specs.Datagram.{AreBytes}
use Rattle.at_nbp.specs.Packets.{Content, IsLawful, code, spelling}
use Rattle.at_nbp.specs.Tuples.{Entry, IsString, IsTuple, strings_of, string_spelling, tuple_spelling}
use Rattle.at_nbp.specs.declared.function.Function.{Function}
use Rattle.at_nbp.specs.declared.function.Function.TheVariants.{BroadcastRequest, LookUp, Reply, ForwardRequest}
use Rattle.at_nbp.proofs.PacketLemmas.{count_fits}

-- spellings that are bytes, one behind the other
flat_bytes : {X : Type 0} (spell : X → List ℕ) (Is : X → Type 0) → ((x : X) → Is x → AreBytes (spell x))
    → (xs : List X) → All Is xs → AreBytes (flat_map spell xs)
flat_bytes spell Is one [] each = All-nil (λ b. b < 256)
flat_bytes spell Is one (x ∷ xs) each = All-append (λ b. b < 256) (spell x) (flat_map spell xs)
    (one x (each 0 x (omega arith))) (flat_bytes spell Is one xs (All-tail Is x xs each))

string_bytes : (text : List ℕ) → IsString text → AreBytes (string_spelling text)
string_bytes text is = let fits = is.fits in All-cons (λ b. b < 256) (length text) text (omega arith) is.bytes

tuple_bytes : (t : Entry) → IsTuple t → AreBytes (tuple_spelling t)
tuple_bytes t is =
    let a = t.address in
    let texts = flat_map string_spelling (strings_of t) in
    let byte = All-cons (λ b. b < 256) in
    byte (a.net / 256 % 256) (a.net % 256 ∷ a.node ∷ a.socket ∷ t.enumerator ∷ texts) (omega arith)
    (byte (a.net % 256) (a.node ∷ a.socket ∷ t.enumerator ∷ texts) (omega arith)
    (byte a.node (a.socket ∷ t.enumerator ∷ texts) (is.address).node
    (byte a.socket (t.enumerator ∷ texts) (is.address).socket
    (byte t.enumerator texts is.enumerator (flat_bytes string_spelling IsString string_bytes (strings_of t) is.each)))))

code_fits : (f : Function) → code f ≤ 4
code_fits BroadcastRequest = omega arith
code_fits LookUp = omega arith
code_fits Reply = omega arith
code_fits ForwardRequest = omega arith

pub spelling_bytes : (p : Content) → IsLawful p → AreBytes (spelling p)
unfolding spelling
spelling_bytes p is =
    let tuples = flat_map tuple_spelling p.tuples in
    All-cons (λ b. b < 256) (16 * code p.function + length p.tuples) (p.id ∷ tuples)
    (omega (arith, code_fits p.function, count_fits p.function (length p.tuples) is.count))
    (All-cons (λ b. b < 256) p.id tuples is.id (flat_bytes tuple_spelling IsTuple tuple_bytes p.tuples is.each))
