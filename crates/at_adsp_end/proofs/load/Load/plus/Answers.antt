use Rattle.std.proofs.Common.{refl}
use Rattle.at_adsp_end.proofs.LoadLemmas.{load_plus}
use Rattle.at_adsp_end.proofs.load.Load.plus.Goals as goal

pub returns : goal.returns
returns c = λ to a b x y. load_plus c.args.self c.args.more _ to a b refl refl x y
