-- The word, the number and the line feed are stored one after the other.
use Rattle.base_finite.proofs.Stores.{written_more, written_byte}
use Rattle.base_text.proofs.number_line.Goals as goal

pub returns : goal.returns
returns c =
    written_byte _ _ _ _ _ _ (written_more _ _ _ _ _ _ _ _ c.put-after_word.ensures c.decimal-end.ensures)
