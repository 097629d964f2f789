use Rattle.at_zip.proofs.PageLemmas.{read_alone, refused}
use Rattle.at_zip.proofs.page_view.read_page.Goals as goal

pub returns-clause-only : goal.returns-clause-only
returns-clause-only c = read_alone c.args.user c.args.bytes.now c.parse.result c.parse.ensures.found
    c.parse.ensures.fault

pub returns-clause-refused : goal.returns-clause-refused
returns-clause-refused c =
    refused c.args.user c.args.bytes.now c.parse.result c.parse.ensures.found c.parse.ensures.fault
