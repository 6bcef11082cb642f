-- Document 01's listing of transcript A, byte for byte, and a refusal's line: they compute. Assumes nothing.
use Rattle.std.specs.Prelude.{ℕ, true, List, [], ◌∷◌, ◌++◌, ◌≡◌, refl}
use Prim.Native.String.{String}
use Rattle.cigar.specs.Elements.{letter_m, letter_n, kind_of, genome, transcript, total}
use Rattle.cigar.specs.Bytes.{ascii}
use Rattle.cigar.specs.Text.{element}
use Rattle.spelling.specs.Write.{digits_by, decimal}
use Rattle.lines.specs.Listing.{numbers_text, listing_header, lines_text, listing_text, refusal_text}

-- a text as a line
abbrev line : String → List ℕ
line text = ascii text ++ 10 ∷ []

a_listed : listing_text true (element 10 letter_m ∷ element 5 letter_n ∷ element 8 letter_m ∷ []) ≡ line "TXC + 3 23 18" ++ line "M 0 0 10" ++ line "N 10 10 5" ++ line "M 15 10 8"
unfolding listing_text listing_header lines_text numbers_text decimal digits_by total genome transcript kind_of
a_listed = refl

refused_7 : refusal_text 7 ≡ line "refused 7"
unfolding refusal_text decimal digits_by
refused_7 = refl
