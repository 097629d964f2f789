use Rattle.at_record.proofs.playing.record_events.Goals as goal

pub returns : goal.returns
returns g c =
    let told = c.record_each.ensures in
    (told.0, told.1, c.plays_obey.ensures c.args.setup.now c.requires.lawful (told.1).played, told.2, told.3)
