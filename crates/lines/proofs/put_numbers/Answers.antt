-- `lines::put_numbers` meets its contract: three numbers and the newline, one after the other. Assumes nothing.
use Rattle.lines.specs.Listing.{numbers_text}
use Rattle.card.specs.laws.Putting.{byte_put, then_put}
use Rattle.lines.proofs.put_numbers.Goals as goal

pub returns-clause-put : goal.returns-clause-put
unfolding numbers_text
returns-clause-put c =
    then_put (then_put (then_put c.put_number-second.ensures.put c.put_number-third.ensures.put) c.put_number-end.ensures.put) (byte_put _ _ 10)
