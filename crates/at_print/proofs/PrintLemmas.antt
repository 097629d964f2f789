-- What several prints print, one after the other.
use Rattle.std.proofs.Common.{arith, Bool, append_assoc, ◌≡◌, ◌⊎◌, ◌+◌, ◌<◌, ◌/◌, ◌%◌, ◌++◌, ◌∷◌, [], List, ℕ, true}
use Rattle.std.proofs.Common.{length, take, get_or, inl, inr, refl, sym, ap, subst, ◌∙◌, append-nil}
use Rattle.std.proofs.Math.ListN.{set}
use Rattle.std.proofs.lemmas.Grind.{take-set_at}
use Rattle.std.proofs.lemmas.List.{length-set, take_more}
use Rattle.at_ddp.specs.Datagram.{Content}
use Rattle.std.specs.Fmt.{decimal, digit_glyph}
use Rattle.at_print.specs.Lines.{address_text, header_line, packet_line, pairs, parts, sum_text}
use Rattle.std.specs.List.{concat}
use Rattle.std.specs.Int.{from_bool}
use Rattle.at_atp_frame.specs.Frames.{Request, Response}
use Rattle.std.specs.Prelude.{codes}
use Rattle.std.specs.List.{flat_map}
use Rattle.std.proofs.lemmas.List.Concat.{flat_map-cons}
use Rattle.at_print.specs.Parts.{followed, part_text, parts_text}
use Rattle.at_print.specs.declared.part.Part.{Part}
use Rattle.std.proofs.KnownBytes.{Appends-nil, Appends-trans}
use Rattle.at_print.specs.declared.printer.Printer.{Printer}
use Rattle.at_print.specs.Papers.{Page, Writes}
use Rattle.at_print.specs.Printers.{HasFailed, IsSettled, Prints}
use Rattle.std.specs.Prelude.{Result, Ok, Err}
use Rattle.std.specs.Result.{is_err}
use Rattle.std.specs.declared.io.Error.{Error}

written : {W : Type 0} (page : W → Page) (a b c : Printer W) (xs ys : List ℕ) → Prints page b c ys
    → HasFailed b ⊎ Writes (page a.writer) (page b.writer) xs → HasFailed c
    ⊎ Writes (page b.writer) (page c.writer) ys
    → HasFailed c ⊎ Writes (page a.writer) (page c.writer) (xs ++ ys)
written page a b c xs ys second p (inl failed) = inl failed
written page a b c xs ys second (inl failed) (inr q) = inl (subst HasFailed (sym (second.stopped failed)) failed)
written page a b c xs ys second (inr p) (inr q) = inr
    (Appends-trans (page a.writer).contents (page b.writer).contents (page c.writer).contents xs ys p q)

pub Prints-nothing : {W : Type 0} (page : W → Page) (a : Printer W) → Prints page a a []
Prints-nothing page a = record {
  stopped = λ failed. refl;
  written = inr (Appends-nil (page a.writer).contents);
  tied = λ tied. tied;
}

pub Prints-trans : {W : Type 0} (page : W → Page) (a b c : Printer W) (xs ys : List ℕ)
    → Prints page a b xs → Prints page b c ys → Prints page a c (xs ++ ys)
Prints-trans page a b c xs ys first second = record {
  stopped = λ failed. let same = first.stopped failed in second.stopped (subst HasFailed (sym same) failed) ∙ same;
  written = written page a b c xs ys second first.written second.written;
  tied = λ tied. second.tied (first.tied tied);
}

-- as a flush left the paper, by whether it failed
pub settled_by : {W : Type 0} (T : W → Result (Unit {0}) Error → W → Type 0) (before after : W)
    (answer : Result (Unit {0}) Error) (failed : Bool) → failed ≡ is_err answer → T before answer after
    → IsSettled T (record { writer = after; has_failed = failed })
settled_by T before after (Ok u) failed is settles = inr (before, settles)
settled_by T before after (Err e) failed is settles = inl is

-- ---- a text that is printed piece by piece

-- some of the text was printed, and this is left
pub record TextLeft {W : Type 0} (page : W → Page) (before now : Printer W) (text left : List ℕ) : Type 0 where
  pub printed : List ℕ
  pub prints : Prints page before now printed
  pub whole : text ≡ printed ++ left

pub text_whole : {W : Type 0} (page : W → Page) (a : Printer W) (text : List ℕ) → TextLeft page a a text text
text_whole page a text = record { printed = []; prints = Prints-nothing page a; whole = refl }

pub text_more : {W : Type 0} (page : W → Page) (a b c : Printer W) (text left piece after : List ℕ)
    → TextLeft page a b text left → left ≡ piece ++ after → Prints page b c piece → TextLeft page a c text after
text_more page a b c text left piece after so_far is next = record {
  printed = so_far.printed ++ piece;
  prints = Prints-trans page a b c so_far.printed piece so_far.prints next;
  whole = so_far.whole ∙ ap (λ l. so_far.printed ++ l) is ∙ sym (append_assoc so_far.printed piece after);
}

pub text_ended : {W : Type 0} (page : W → Page) (a b : Printer W) (text left : List ℕ) → TextLeft page a b text left
    → left ≡ [] → Prints page a b text
text_ended page a b text left so_far none =
    subst (Prints page a b) (sym (so_far.whole ∙ ap (λ l. so_far.printed ++ l) none ∙ append-nil so_far.printed))
    so_far.prints

-- ---- digits

pub pairs-append : (xs ys : List ℕ) → pairs (xs ++ ys) ≡ pairs xs ++ pairs ys
pairs-append [] ys = refl
pairs-append (x ∷ xs) ys = ap (λ l. digit_glyph true (x / 16) ∷ digit_glyph true (x % 16) ∷ l) (pairs-append xs ys)

-- the digits of one byte more
pub pairs-next : (bytes : List ℕ) (i : ℕ) → i < length bytes
    → pairs (take (i + 1) bytes)
    ≡ pairs (take i bytes) ++
    (digit_glyph true (get_or bytes i 0 / 16) ∷ digit_glyph true (get_or bytes i 0 % 16) ∷ [])
pairs-next bytes i lt = ap pairs (take_more bytes i 0 lt) ∙ pairs-append (take i bytes) (get_or bytes i 0 ∷ [])

-- two more elements that are written after the first ones
pub two_more : (xs : List ℕ) (i n a b : ℕ) → n ≡ i + 1 + 1 → i + 1 < length xs → take n (set (set xs i a) (i + 1) b)
    ≡ take i xs ++ (a ∷ b ∷ [])
two_more xs i n a b is lt =
    let within : i + 1 < length (set xs i a) = omega (arith, length-set xs i a) in
    take-set_at (set xs i a) (i + 1) n b is within
    ∙ ap (λ l. l ++ b ∷ []) (take-set_at xs i (i + 1) a refl (omega arith))
    ∙ append_assoc (take i xs) (a ∷ []) (b ∷ [])

pub flat-asked : (a b c d e f : List ℕ) → (a ++ b) ++ (c ++ (d ++ (e ++ f))) ≡ a ++ ((b ++ (c ++ (d ++ e))) ++ f)
flat-asked a b c d e f = simp append_assoc

flat5 : (a b c d e r : List ℕ) → (a ++ (b ++ (c ++ (d ++ e)))) ++ r ≡ a ++ (b ++ (c ++ (d ++ (e ++ r))))
flat5 a b c d e r = simp append_assoc

flat8 : (a b c d e f g h r : List ℕ) → (a ++ (b ++ (c ++ (d ++ (e ++ (f ++ (g ++ h))))))) ++ r
    ≡ a ++ (b ++ (c ++ (d ++ (e ++ (f ++ (g ++ (h ++ r)))))))
flat8 a b c d e f g h r = simp append_assoc

module _ {W : Type 0} (page : W → Page) where
  -- five, six or eight parts by one call, and then more
  pub Prints-five : (x y z : Printer W) (a b c d e r : List ℕ) → Prints page x y (a ++ (b ++ (c ++ (d ++ e))))
      → Prints page y z r
      → Prints page x z (a ++ (b ++ (c ++ (d ++ (e ++ r)))))
  Prints-five x y z a b c d e r p q =
      subst (Prints page x z) (flat5 a b c d e r) (Prints-trans page x y z _ r p q)

  pub Prints-eight : (x y z : Printer W) (a b c d e f g h r : List ℕ)
      → Prints page x y (a ++ (b ++ (c ++ (d ++ (e ++ (f ++ (g ++ h))))))) → Prints page y z r
      → Prints page x z (a ++ (b ++ (c ++ (d ++ (e ++ (f ++ (g ++ (h ++ r))))))))
  Prints-eight x y z a b c d e f g h r p q = subst (Prints page x z) (flat8 a b c d e f g h r)
      (Prints-trans page x y z _ r p q)

  -- a header's line is printed in seven parts
  pub header_prints : (a b c d e f g h : Printer W) (p : Content) (rest : ℕ)
      → Prints page a b (codes "ddp length "
      ++ (decimal (13 + length p.data_) ++ (codes " hops " ++ (decimal p.hops ++ codes " sum "))))
      → Prints page b c (sum_text p.sum) → Prints page c d (codes " from ")
      → Prints page d e (address_text p.from)
      → Prints page e f (codes " to ") → Prints page f g (address_text p.to)
      → Prints page g h (codes " type " ++ (decimal p.kind ++ (codes " rest " ++ (decimal rest ++ codes "\n"))))
      → Prints page a h (header_line p rest)
  header_prints a b c d e f g h p rest p1 p2 p3 p4 p5 p6 p7 =
      let receiver = Prints-trans page e f h _ _ p5 (Prints-trans page f g h _ _ p6 p7) in
      let sender = Prints-trans page c d h _ _ p3 (Prints-trans page d e h _ _ p4 receiver) in
      Prints-five a b h (codes "ddp length ") _ (codes " hops ") _ (codes " sum ") _ p1
      (Prints-trans page b c h _ _ p2 sender)

  -- the header of a request is printed in three parts
  pub request_prints : (a b c d : Printer W) (mask : ℕ) (xo : Bool) (one timer tid : ℕ) → one ≡ from_bool xo
      → Prints page a b (codes "atp request mask ") → Prints page b c (pairs (mask ∷ []))
      → Prints page c d (codes " xo "
      ++ (decimal one ++ (codes " timer " ++ (decimal timer ++ (codes " id " ++ decimal tid)))))
      → Prints page a d (codes "atp request mask "
      ++ (pairs (mask ∷ []) ++ (codes " xo "
      ++ (decimal (from_bool xo) ++ (codes " timer " ++ (decimal timer ++ (codes " id " ++ decimal tid)))))))
  request_prints a b c d mask xo one timer tid is p1 p2 p3 =
      Prints-trans page a b d _ _ p1 (Prints-trans page b c d _ _ p2 (rw is at p3))

  -- the line of a packet is its header and its parts
  pub request_line : (a b c : Printer W) (mask : ℕ) (xo : Bool) (timer tid : ℕ) (user bytes : List ℕ)
      → Prints page a b (codes "atp request mask "
      ++ (pairs (mask ∷ []) ++ (codes " xo "
      ++ (decimal (from_bool xo) ++ (codes " timer " ++ (decimal timer ++ (codes " id " ++ decimal tid)))))))
      → Prints page b c (concat (parts user bytes))
      → Prints page a c (packet_line (Request mask xo timer tid user bytes))
  request_line a b c mask xo timer tid user bytes p1 p2 =
      Prints-eight a b c (codes "atp request mask ") (pairs (mask ∷ [])) (codes " xo ") (decimal (from_bool xo))
      (codes " timer ") (decimal timer) (codes " id ") (decimal tid) _ p1 p2

  pub response_line : (a b c : Printer W) (place : ℕ) (eom sts : Bool) (tid : ℕ) (user bytes : List ℕ)
      → Prints page a b (codes "atp response place "
      ++ (decimal place ++ (codes " eom "
      ++ (decimal (from_bool eom) ++ (codes " sts " ++ (decimal (from_bool sts) ++ (codes " id " ++ decimal tid)))))))
      → Prints page b c (concat (parts user bytes))
      → Prints page a c (packet_line (Response place eom sts tid user bytes))
  response_line a b c place eom sts tid user bytes p1 p2 =
      Prints-eight a b c (codes "atp response place ") _ (codes " eom ") _ (codes " sts ") _ (codes " id ") _ _ p1 p2

-- the text of parts is that of each of them
followed_by : (text : List ℕ) (ps : List Part) → followed text ps ≡ text ++ flat_map part_text ps
followed_by text [] = sym (append-nil text)
followed_by text (p ∷ ps) =
    ap (λ l. text ++ l) (followed_by (part_text p) ps ∙ sym (flat_map-cons part_text p ps))

pub parts_each : (ps : List Part) → parts_text ps ≡ flat_map part_text ps
parts_each [] = refl
parts_each (p ∷ ps) = followed_by (part_text p) ps ∙ sym (flat_map-cons part_text p ps)
