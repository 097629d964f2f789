-- A page that was read, whose names lie in its data (Inside AppleTalk, ZIP, "ZIP packet formats").
use Rattle.std.specs.Prelude.{◌≡◌, ℕ, zero, suc, List, [], ◌∷◌, ◌++◌, length, take, drop}
use Rattle.at_zip.specs.Names.{spelled}
use Rattle.at_zip.specs.Page.{Page, IsLawful}

-- so many names at the front of the bytes, cut by their length bytes
abbrev pub cut : ℕ → List ℕ → List (List ℕ)
cut zero bytes = []
cut (suc n) [] = []
cut (suc n) (len ∷ bytes) = take len bytes ∷ cut n (drop len bytes)

-- the data of a lawful page begins with the counted names
pub record IsFront (p : Page) (count : ℕ) (bytes : List ℕ) : Type 0 where
  pub lawful : IsLawful p
  pub counted : length p.names ≡ count
  pub rest : List ℕ
  pub follows : bytes ≡ spelled p.names ++ rest
