-- The bytes that std gives the number (`low_first`) are stored one behind the other. Assumes nothing.
use Rattle.std.specs.Prelude.{refl}
use Rattle.std.proofs.Common.{sym, ◌∙◌, arith}
use Rattle.std.proofs.lemmas.Slice.{put_mid-paste}
use Rattle.std.proofs.lemmas.List.Edits.{sets-eq}
use Rattle.fields.specs.Fields.{bytes32}
use Rattle.fields.proofs.Places.{low_first}
use Rattle.fields.proofs.put_u32.Goals as goal

pub returns : goal.returns
returns c =
    let a = c.args in
    put_mid-paste a.at _ a.buf.now _ (bytes32 a.n) 4 (c.copy_from_slice.ensures.after ∙ c.to_le_bytes.ensures ∙ low_first a.n) (omega arith) refl
    ∙ sym (sets-eq (bytes32 a.n) a.buf.now a.at c.requires)
