-- Each fault that stands has a number.
use Rattle.std.proofs.Common.{◌≡◌, ℕ, List, Some, refl}
use Rattle.at_atp_frame.specs.Fault as atp
use Rattle.at_atp_frame.specs.declared.fault.AtpFault.{AtpFault}
use Rattle.at_atp_frame.specs.declared.fault.AtpFault.TheVariants as atps
use Rattle.at_zip.specs.Fault as zip
use Rattle.at_zip.specs.declared.fault.ZipFault.{ZipFault}
use Rattle.at_zip.specs.declared.fault.ZipFault.TheVariants as zips

pub atp_number : (f : AtpFault) (input : List ℕ) → atp.IsFirstFault f input → (n : ℕ) × (atp.number_of f ≡ Some n)
atp_number atps.ShortAtp input h = (10, refl)
atp_number atps.BadFunction input h = (11, refl)
atp_number atps.BadSequence input h = (12, refl)
atp_number atps.AtpTooLong input h = (13, refl)
atp_number atps.Full input h = (14, refl)
atp_number atps.NoSuch input h = (15, refl)
atp_number atps.EmptyAnswer input h = (16, refl)
atp_number atps.StillPending input h = (17, refl)
atp_number atps.Gone input h = (18, refl)
atp_number atps.NoMemory input h = absurd h.stands

pub zip_number : (f : ZipFault) (user bytes : List ℕ) → zip.IsFirstFault f user bytes → (n : ℕ)
    × (zip.number_of f ≡ Some n)
zip_number zips.NotZip user bytes h = (30, refl)
zip_number zips.CountMismatch user bytes h = (31, refl)
zip_number zips.BadZone user bytes h = (32, refl)
zip_number zips.EmptyPage user bytes h = (33, refl)
zip_number zips.TooManyZones user bytes h = (34, refl)
zip_number zips.NoMemory user bytes h = absurd h
