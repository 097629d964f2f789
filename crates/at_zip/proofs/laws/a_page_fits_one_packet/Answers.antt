use Rattle.at_zip.specs.Page.{page_of}
use Rattle.at_zip.proofs.RunLemmas.{page_bytes, page_fits, user_bytes}
use Rattle.at_zip.proofs.laws.a_page_fits_one_packet.Goals as goal

pub returns : goal.returns
returns c = record { user = λ table start. user_bytes (page_of table start); bytes = page_bytes; fits = page_fits }
