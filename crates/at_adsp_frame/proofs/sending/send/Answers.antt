use Rattle.at_adsp_frame.proofs.sending.send.Goals as goal

pub returns-clause-room : goal.returns-clause-room
returns-clause-room g c n h =
    c.push_parts.ensures.room n 585 h (rw (c.as_slice.ensures.value, c.data_in.ensures) c.head_of.ensures.fits)
