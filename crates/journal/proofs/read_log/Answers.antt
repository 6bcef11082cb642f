-- `journal::read_log` meets its contract: bytes that begin as a log does are a header and whole entries. Assumes nothing.
use Rattle.std.proofs.Common.{length, sym, ◌∙◌, arith}
use Rattle.journal.specs.laws.LogTrips.{Headed, headed_means}
use Rattle.journal.proofs.read_log.Goals as goal
use Rattle.journal.proofs.read_log.Goals.{Else-not-is_headed}

-- the header that was found
headed : (c : Else-not-is_headed) → Headed c.args.log.now (length c.args.log.now)
headed c = headed_means c.args.log.now (length c.args.log.now) (sym c.is_headed.ensures ∙ c.if-not-is_headed.false)

pub overflow_sub-count : goal.overflow_sub-count
overflow_sub-count c = (headed (goal.at.overflow_sub-count c).Else-not-is_headed).long

pub are_canonical-requires : goal.are_canonical-requires
are_canonical-requires c = let h = headed (goal.at.are_canonical-requires c).Else-not-is_headed in omega (arith, h.size_is)
