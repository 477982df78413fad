-- The answer is the one of the reading call, and the place put is the one that it hands back.
use Rattle.capi.proofs.bixtogan_reading.Goals as goal

pub returns : goal.returns
returns c =
    let next = c.next in
    let put = c.put_next.ensures in
    record { answer = next.result.answer; call = rw put.place_after next.ensures.reading_of; number = put.value; value = put.pairs_after }
