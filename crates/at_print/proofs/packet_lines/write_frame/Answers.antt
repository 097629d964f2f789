use Rattle.at_print.proofs.PrintLemmas.{request_line, response_line}
use Rattle.at_print.proofs.packet_lines.write_frame.Goals as goal

pub returns-in-Request : goal.returns-in-Request
returns-in-Request g c =
    rw c.in-Request.is
    (request_line g.W.Paper.page c.args.printer.now c.write_request.new.printer c.write_parts.new.printer
    c.in-Request.mask c.in-Request.xo c.in-Request.timer c.in-Request.tid c.in-Request.user c.in-Request.data_.now
    c.write_request.ensures c.write_parts.ensures)

pub returns-in-Response : goal.returns-in-Response
returns-in-Response g c =
    rw c.in-Response.is
    (response_line g.W.Paper.page c.args.printer.now c.write_response.new.printer
    c.write_parts-in-Response.new.printer
    c.in-Response.sequence_number c.in-Response.eom c.in-Response.sts c.in-Response.tid c.in-Response.user
    c.in-Response.data_.now c.write_response.ensures c.write_parts-in-Response.ensures)

pub returns-in-Release : goal.returns-in-Release
returns-in-Release g c = rw c.in-Release.is c.write_release.ensures
