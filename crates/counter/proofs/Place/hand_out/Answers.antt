-- The place is that of the last reading handed out, and where none is, the old one.
use Rattle.counter.proofs.Place.hand_out.Goals as goal

pub readings_of-requires : goal.readings_of-requires
readings_of-requires c = c.requires
