use Rattle.at_opened.specs.Rewinds.{Rewound}
use Rattle.at_udp_text.proofs.EndLemmas.{fault_read, head_read}
use Rattle.at_udp_text.proofs.program.head_of.Given.{Over}
use Rattle.at_udp_text.proofs.program.head_of.Goals.{In_ok-send_back}
use Rattle.at_udp_text.proofs.program.head_of.Goals as goal

-- the file as it was when its lines were read
abbrev sent_back : (g : Over) (c : In_ok-send_back g) → Rewound g.F.Opened.goes_back
sent_back g c = record {
  before = c.check_file.new.file;
  file = c.send_back.new.self;
  went = c.in_ok-send_back.ensures.went;
}

pub returns-clause-said : goal.returns-clause-said
returns-clause-said g c =
    head_read g.row.A.Denot g.F.Read.remaining g.F.Opened.goes_back
    (sent_back g (goal.at.returns-clause-said g c).In_ok-send_back) c.head_from.result c.head_from.ensures.said

pub returns-clause-fault : goal.returns-clause-fault
returns-clause-fault g c =
    fault_read g.row.A.Denot g.F.Read.remaining g.F.Opened.goes_back
    (sent_back g (goal.at.returns-clause-fault g c).In_ok-send_back) c.head_from.result c.head_from.ensures.fault
