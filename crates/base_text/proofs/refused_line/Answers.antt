-- What a line with the refusal's number is, by the definition.
use Rattle.base_text.proofs.Lines.{refused_is}
use Rattle.base_text.proofs.refused_line.Goals as goal

pub number_line-requires : goal.number_line-requires
number_line-requires c =
    let a = c.args in
    let n = c.from-number in
    rw (refused_is a.why n.result n.ensures) at c.requires

pub returns : goal.returns
returns c =
    let a = c.args in
    let n = c.from-number in
    rw (refused_is a.why n.result n.ensures) c.number_line.ensures
