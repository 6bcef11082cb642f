-- The slot past a list's end, where nothing looks. Assumes nothing.
use lib.IntN.{pos}
use Rattle.layout.specs.Layout.{refusal}
use Rattle.worklist.specs.declared.Slot.{Slot}

abbrev pub none : Slot
none = record { position = pos 0; answer = refusal 0 }
