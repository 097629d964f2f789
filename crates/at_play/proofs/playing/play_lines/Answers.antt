use Rattle.at_play.proofs.playing.play_lines.Goals as goal

pub returns : goal.returns
returns g c =
    let told = c.play_all.ensures.told in
    record {
      told = (told.0, c.plays_obey.ensures c.args.setup.now c.requires told.0, told.1, told.2, told.3);
      unwritten = c.play_all.ensures.unwritten;
    }
