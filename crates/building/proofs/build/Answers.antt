-- `building::build` meets its contract: an array that is lent as a slice has the array's length, so that `build_into` can be asked, and it answers as much. Assumes nothing.
use Rattle.building.proofs.build.Goals as goal

pub returns : goal.returns
returns c = c.build_into.ensures
