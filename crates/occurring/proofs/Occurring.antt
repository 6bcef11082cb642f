-- Each refusal of the table's rows occurs: every row computes. Assumes nothing.
use mathlib.Core.Path.{refl}
use Rattle.cigar.specs.Elements.{is_letter}
use Rattle.cigar.specs.Text.{read_from}
use Rattle.cigar.specs.Read.{read_text}
use Rattle.spelling.specs.Write.{writing, given_from, elements_text, element_text}
use Rattle.words.specs.Words.{letter_of, all_known, read_words, fault_of, fault_from, write_words}
use Rattle.records.specs.Records.{record_text}
use Rattle.judging.specs.Judging.{judge_length, length_fault, range_fault}
use Rattle.judging.specs.laws.Worked.{computing}
use Rattle.card.specs.Card.{card_text, header_text, records_text, read_card, is_marked, is_card, are_plain, numbers_in}
use Rattle.card.specs.Writing.{card_writing}
use Rattle.occurring.specs.Occurring.{ReadCigarOccurs, WriteCigarOccurs, ReadBamOccurs, WriteBamOccurs, BuildOccurs, BuildLengthOccurs, WriteCardOccurs, BuildCardOccurs}

pub read_cigar_occurs : ReadCigarOccurs
unfolding read_text read_from is_letter
read_cigar_occurs = refl

pub write_cigar_occurs : WriteCigarOccurs
unfolding writing given_from is_letter elements_text element_text
write_cigar_occurs = refl

pub read_bam_occurs : ReadBamOccurs
unfolding read_words all_known letter_of is_letter
read_bam_occurs = refl

pub write_bam_occurs : WriteBamOccurs
unfolding write_words fault_from fault_of is_letter
write_bam_occurs = refl

pub build_occurs : BuildOccurs
unfolding computing
build_occurs = refl

pub build_length_occurs : BuildLengthOccurs
unfolding judge_length length_fault range_fault
build_length_occurs = refl

pub write_card_occurs : WriteCardOccurs
unfolding computing card_writing card_text header_text records_text record_text
write_card_occurs = refl

pub build_card_occurs : BuildCardOccurs
unfolding computing card_text header_text records_text record_text read_card is_marked is_card are_plain numbers_in
build_card_occurs = refl
