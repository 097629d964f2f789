use Rattle.at_name_socket.proofs.OpeningLemmas.{zone_is}
use Rattle.at_name_socket.proofs.socket.NameSocket.new.Goals as goal

pub returns : goal.returns
returns g c = λ j. record {
  table =
      record {
        own = c.new.ensures.rest.0 j;
        zone = zone_is c.args.zone c.new.result.zone c.new.ensures.zone c.new.ensures.no_zone j;
        names = c.new.ensures.rest.1 j;
      };
  lookups = c.lookups_of.ensures j;
  claims = c.new-2.ensures.items j;
  neighbours = c.args.neighbours;
}
