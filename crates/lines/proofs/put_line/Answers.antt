-- `lines::put_line` meets its contract: the letter, and then the three numbers. Assumes nothing.
use Rattle.card.specs.laws.Putting.{byte_put, then_put}
use Rattle.lines.specs.Tables.{line_at}
use Rattle.lines.proofs.put_line.Goals as goal

pub returns-clause-put : goal.returns-clause-put
unfolding line_at
returns-clause-put c = then_put (byte_put c.args.buffer.now c.args.at _) (rw c.count_at-count.ensures at c.put_numbers.ensures.put)
