-- On strand -1 the common prefix of the turned alleles is the common suffix of the alleles, and the suffix that they have behind it is the common prefix of what is left of the alleles.
-- Assumes nothing.
use mathlib.Core.Path.{◌≡◌, sym, ◌∙◌}
use mathlib.Core.List.{List}
use Prim.Native.Nat.{ℕ}
use Rattle.sequences.specs.Alleles.{prefix_len, suffix_len, bytes_before, after}
use Rattle.sequences.specs.Slices.{Slice, slice_of, front_of}
use Rattle.strands.specs.Turned.{turned, prefix_after}
use Rattle.strands.specs.Trimmed.{removed_of}
use Rattle.strands.specs.laws.Strands.{suffix_turned, after_turned}
use Rattle.sequences.specs.laws.Parts.{front_bytes, after_rests}
use Rattle.strands.proofs.trim.Goals as goal

-- where the suffix goes first, the bytes that go at the front are counted in what is left before it
prefix_fronts : (r a x y : Slice) (q : ℕ) → q ≡ suffix_len r.bytes a.bytes → x ≡ front_of r q → y ≡ front_of a q → prefix_len x.bytes y.bytes ≡ prefix_after r.bytes a.bytes
prefix_fronts r a x y q e ex ey = rw (ex, ey, e, front_bytes r (suffix_len r.bytes a.bytes), front_bytes a (suffix_len r.bytes a.bytes))

-- what goes, by its two numbers
told : (r a : List ℕ) (p q : ℕ) → p ≡ bytes_before r a → q ≡ after r a → record { prefix = p; suffix = q } ≡ removed_of r a
told r a p q front back = rw (front, back)

pub returns-then-back : goal.returns-then-back
returns-then-back c =
    let a = c.args in
    let r : List ℕ = a.reference.now in
    let s : List ℕ = a.alternative.now in
    let first : c.trim_common_suffixes-last.result ≡ bytes_before (turned r) (turned s) = c.trim_common_suffixes-last.ensures ∙ suffix_turned r s in
    let then : c.trim_common_prefixes-first.result ≡ after (turned r) (turned s) =
    c.trim_common_prefixes-first.ensures
    ∙ prefix_fronts (slice_of a.reference) (slice_of a.alternative) _ _ _ c.trim_common_suffixes-last.ensures c.front.ensures c.front-then-back.ensures
    ∙ sym (after_turned r s)
    in
    rw c.if-back.true (told (turned r) (turned s) _ _ first then)

pub returns : goal.returns
returns c =
    let a = c.args in
    let first = c.trim_common_prefixes-prefix.ensures in
    let then : c.trim_common_suffixes-suffix.result ≡ after a.reference.now a.alternative.now =
    c.trim_common_suffixes-suffix.ensures ∙ after_rests (slice_of a.reference) (slice_of a.alternative) _ _ _ first c.rest.ensures c.rest-2.ensures
    in
    rw c.if-back.false (told a.reference.now a.alternative.now _ _ first then)
