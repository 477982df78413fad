-- What the line is in each case, by the definition.
use Rattle.base_text.proofs.Lines.{exactly_is, more_is}
use Rattle.base_text.proofs.count_line.Goals as goal

pub number_line-requires : goal.number_line-requires
number_line-requires c =
    let a = c.args in
    rw (exactly_is a.count _ c.in-Exactly.is) at c.requires

pub number_line-requires-in-More : goal.number_line-requires-in-More
number_line-requires-in-More c =
    let a = c.args in
    rw (more_is a.count c.in-More.is) at c.requires

pub returns-in-Exactly : goal.returns-in-Exactly
returns-in-Exactly c =
    let a = c.args in
    rw (exactly_is a.count _ c.in-Exactly.is) c.number_line.ensures

pub returns-in-More : goal.returns-in-More
returns-in-More c =
    let a = c.args in
    rw (more_is a.count c.in-More.is) c.number_line-in-More.ensures
