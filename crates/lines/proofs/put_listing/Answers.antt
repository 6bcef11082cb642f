-- `lines::put_listing` meets its contract: the header is put, and then the lines, which of tables that hold together are the listing of what they read as (`listing_is`). Assumes nothing.
use Rattle.segments.specs.Tables.{tables}
use Rattle.card.specs.laws.Putting.{then_put}
use Rattle.lines.specs.laws.Tables.{listing_is}
use Rattle.lines.proofs.put_listing.Goals as goal

pub returns-clause-put : goal.returns-clause-put
returns-clause-put c =
    let a = c.args in
    rw (listing_is (tables a.genome.now a.transcript.now a.letters.now) a.count c.requires.holds a.forward) at
    (then_put c.put_header-header.ensures.put c.put_lines.ensures.put)
