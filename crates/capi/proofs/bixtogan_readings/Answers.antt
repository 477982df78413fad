-- The answer is the one of the call for several readings, and the place put is the one that it hands back.
use Rattle.capi.proofs.bixtogan_readings.Goals as goal

pub returns : goal.returns
returns c =
    let next = c.fill in
    let put = c.put_next.ensures in
    record { answer = next.result.answer; call = rw put.place_after next.ensures.stretch_of; number = put.value; value = put.pairs_after }
