-- What is said to a question that an entry can hold may stand beside it: its tag, its refusals, its stars, its offsets and its exon numbers are those of the kind, and an entry has room for them. So an entry that was recorded is canonical and fits. Assumes nothing.
use Rattle.std.specs.Prelude.{ℕ, ◌<◌, Bool, ◌&&◌, List, [], ◌∷◌, ◌≡◌, eqb, leb, ltb, pos}
use native.Mathlib.Omega.{arith}
use Rattle.std.proofs.Math.Bool.{true, false}
use Rattle.std.proofs.lemmas.Bool.{false≢true}
use Rattle.std.proofs.Math.Path.{refl}
use Rattle.std.specs.Int.{w32}
use Rattle.std.proofs.Common.{SFits}
use borrow.Author.Tests.{eqb-true, eqb-false, eq-eqb, leb-true, ltb-true, lt-ltb}
use Rattle.refusals.specs.declared.Refusal.{Refusal}
use Rattle.refusals.specs.Numbers.{most_records, number}
use Rattle.refusals.specs.Outcome.{Ok, Err}
use Rattle.refusals.specs.Refusing.{one_of, Only}
use Rattle.whole.specs.Fits.{fit_of, fits}
use Rattle.whole.specs.laws.Whole.{by_test, both, both_of}
use Rattle.segments.specs.Exons.{IsExon}
use Rattle.holding.specs.Holding.{Lent, checked}
use Rattle.positions.specs.Positions.{Interval, GAsked, NAsked, CAsked}
use Rattle.positions.specs.Answers as paper
use Rattle.positions.specs.Answers.{Mark, certain, uncertain, unmarked, mark_of, exons_of, Marked, g_fits, n_fits, c_fits}
use Rattle.positions.specs.laws.Fits.{fits_signed}
use Rattle.mapper.specs.Asking.{ask_g_to_n, ask_n_to_g, ask_n_to_c, ask_c_to_n, ask_g_to_c, ask_c_to_g}
use Rattle.mapper.specs.laws.Refusing.{g_to_n_refusals, n_to_g_refusals, n_to_c_refusals, c_to_n_refusals, g_to_c_refusals, c_to_g_refusals, in_row, g_to_n_refuses, n_to_g_refuses, n_to_c_refuses, c_to_n_refuses, g_to_c_refuses, c_to_g_refuses}
use Rattle.mapper.specs.laws.Answered.{AnsweredAcross, AnsweredPlainly, g_to_n_answered, n_to_g_answered, n_to_c_answered, c_to_n_answered, g_to_c_answered, c_to_g_answered}
use Rattle.layout.specs.Layout.{star_of, nowhere, g_laid, n_laid, c_laid, mark_number, laid}
use Rattle.taking.specs.Questions.{map_g_to_n, map_n_to_g, map_n_to_c, map_c_to_n, map_g_to_c, map_c_to_g, to_g, to_c, is_plain, is_strict, g_of, n_of, c_of}
use Rattle.layout.specs.declared.lay.Position.{Position}
use Rattle.layout.specs.declared.lay.Answer.{Answer}
use Rattle.taking.specs.declared.question.Question.{Question}
use Rattle.entries.specs.Entries.{QuestionFits, PositionFits, AnswerFits, EntryFits}
use Rattle.canonical.specs.Canonical.{end_holdable, holdable, refusals_of, is_number_of, refused_tag, tag_of_kind, exon_of_kind, end_sayable, is_nowhere, sayable, canonical}
use Rattle.asking.specs.Asking.{named, asked, recorded}

-- ---- one table of refusals

-- those that a log takes beside a question are those that its mapping can give
pub table_is_mappers :
    refusals_of map_g_to_n ∷ refusals_of map_n_to_g ∷ refusals_of map_n_to_c ∷ refusals_of map_c_to_n ∷ refusals_of map_g_to_c ∷ refusals_of map_c_to_g ∷ []
    ≡ g_to_n_refusals ∷ n_to_g_refusals ∷ n_to_c_refusals ∷ c_to_n_refusals ∷ g_to_c_refusals ∷ c_to_g_refusals ∷ []
unfolding refusals_of
table_is_mappers = refl

-- ---- what may be said to a question of a kind, in numbers that an entry has room for

record Sayable (kind : ℕ) (a : Answer) : Type 0 where
  may : sayable kind a ≡ true
  fits : AnswerFits a

record EndSayable (kind : ℕ) (p : Position) : Type 0 where
  may : end_sayable kind p ≡ true
  fits : PositionFits p

-- an answer's tag and its ends are those of the kind
record OfKind {P : Type 0} (kind : ℕ) (place : ℕ → P → Position) (a : Marked P) : Type 0 where
  tag : tag_of_kind kind (mark_number a.mark) ≡ true
  from : EndSayable kind (place (exons_of a.mark).from a.interval.from)
  to : EndSayable kind (place (exons_of a.mark).to a.interval.to)

-- an exon number of the kind
record ExonOfKind (kind k : ℕ) : Type 0 where
  may : exon_of_kind kind k ≡ true
  fits : k < 65536

zero_fits : SFits w32 (pos 0)
unfolding fits fit_of
zero_fits = fits_signed (pos 0) refl

-- ---- the ends

module _ (kind : ℕ) where
  -- positions of the unit that the kind answers in
  abbrev Placed : {P : Type 0} → (ℕ → P → Position) → (P → Bool) → Type 0
  Placed {P} place fit = (k : ℕ) (p : P) → ExonOfKind kind k → fit p ≡ true → EndSayable kind (place k p)

  g_placed : Placed g_laid g_fits
  unfolding end_sayable
  g_placed k p e f = record {
    may = by_test (to_g kind) (λ t. rw (t, e.may)) (λ t. rw (t, e.may));
    fits = record { base_fits = fits_signed p.base f; offset_fits = zero_fits; star_fits = omega arith; exon_fits = e.fits };
  }

  n_placed : to_g kind ≡ false → Placed n_laid n_fits
  unfolding end_sayable
  n_placed not_g k p e f =
      let (base, offset) = both (fits p.base) (fits p.offset) f in
      record {
        may = rw (not_g, e.may);
        fits = record { base_fits = fits_signed p.base base; offset_fits = fits_signed p.offset offset; star_fits = omega arith; exon_fits = e.fits };
      }

  c_placed : to_g kind ≡ false → to_c kind ≡ true → Placed c_laid c_fits
  unfolding end_sayable
  c_placed not_g in_c k p e f =
      let (base, offset) = both (fits p.base.0) (fits p.offset) f in
      record {
        may = by_test p.base.1 (λ s. rw (s, not_g, in_c, e.may)) (λ s. rw (s, not_g, e.may));
        fits = record { base_fits = fits_signed p.base.0 base; offset_fits = fits_signed p.offset offset; star_fits = star_fits p.base.1; exon_fits = e.fits };
      }
    where
      star_fits : (star : Bool) → star_of star < 256
      star_fits true = omega arith
      star_fits false = omega arith

  module _ {P : Type 0} (place : ℕ → P → Position) (fit : P → Bool) (placed : Placed place fit) (a : Marked P) where
    across : is_plain kind ≡ false → AnsweredAcross fit a → OfKind kind place a
    unfolding tag_of_kind exon_of_kind
    across crosses h = record {
      tag = rw h.mark.is (tag_of h.mark.sure (exons_of a.mark));
      from = placed (exons_of a.mark).from a.interval.from (exon_of h.mark.from) h.fitted.from;
      to = placed (exons_of a.mark).to a.interval.to (exon_of h.mark.to) h.fitted.to;
    }
      where
        tag_of : (sure : Bool) (exons : Interval ℕ) → tag_of_kind kind (mark_number (mark_of sure exons)) ≡ true
        tag_of true exons = rw crosses
        tag_of false exons = rw crosses

        exon_of : {k : ℕ} → IsExon most_records k → ExonOfKind kind k
        exon_of {k} e = record { may = rw crosses (lt-ltb 0 k e.above); fits = omega (arith, e.below) }

    plainly : is_plain kind ≡ true → AnsweredPlainly fit a → OfKind kind place a
    unfolding tag_of_kind exon_of_kind
    plainly plain h = record {
      tag = rw (h.mark, plain);
      from = rw h.mark (placed 0 a.interval.from none h.fitted.from);
      to = rw h.mark (placed 0 a.interval.to none h.fitted.to);
    }
      where
        none : ExonOfKind kind 0
        none = record { may = rw plain; fits = omega arith }

-- ---- an answer or a refusal

-- an answer's tag is not a refusal's
tag_told : (m : Mark) → (eqb (mark_number m) refused_tag ≡ false) × (mark_number m < 256)
tag_told (certain exons) = (refl, omega arith)
tag_told (uncertain exons) = (refl, omega arith)
tag_told unmarked = (refl, omega arith)

-- the numbers of refusals are bytes
abbrev are_bytes : List Refusal → Bool
are_bytes [] = true
are_bytes (k ∷ ks) = ltb (number k) 256 && are_bytes ks

listed_byte : (k : Refusal) (ks : List Refusal) → are_bytes ks ≡ true → one_of k ks ≡ true → number k < 256
listed_byte k [] all h = absurd (false≢true h)
listed_byte k (x ∷ xs) all h =
    let (first, rest) = both (ltb (number x) 256) (are_bytes xs) all in
    by_test (eqb (number k) (number x))
    (λ e. rw (eqb-true (number k) (number x) e) (ltb-true (number x) 256 first))
    (λ e. listed_byte k xs rest (rw e at h))

-- a refusal that is one of ks has the number of one
listed_number : (k : Refusal) (ks : List Refusal) → is_number_of (number k) ks ≡ one_of k ks
listed_number k [] = refl
listed_number k (x ∷ xs) = rw (listed_number k xs) refl

said : {P : Type 0} (kind : ℕ) (place : ℕ → P → Position) (o : paper.Answer P) → are_bytes (refusals_of kind) ≡ true → Only (refusals_of kind) o
    → ((a : Marked P) → o ≡ Ok a → OfKind kind place a) → Sayable kind (laid place o)
unfolding sayable is_nowhere
said kind place (Ok a) bytes only told =
    let k = told a refl in
    let (tag, small) = tag_told a.mark in
    record {
      may = rw (tag, k.tag, k.from.may, k.to.may);
      fits = record { number_fits = omega arith; mark_fits = small; start_fits = k.from.fits; end_fits = k.to.fits };
    }
said kind place (Err k) bytes only told =
    let nowhere_fits : PositionFits nowhere = record { base_fits = zero_fits; offset_fits = zero_fits; star_fits = omega arith; exon_fits = omega arith } in
    record {
      may = rw (listed_number k (refusals_of kind), only.only);
      fits = record { number_fits = listed_byte k (refusals_of kind) bytes only.only; mark_fits = omega arith; start_fits = nowhere_fits; end_fits = nowhere_fits };
    }

-- ---- the six mappings

module _ (x : Lent) (strict : Bool) where
  g_to_n_said : (q : Interval GAsked) → Sayable map_g_to_n (laid n_laid (checked x (ask_g_to_n strict q)))
  unfolding refusals_of
  g_to_n_said q = said map_g_to_n n_laid _ refl (in_row strict g_to_n_refusals _ (g_to_n_refuses x strict q)) (λ a h. across map_g_to_n n_laid n_fits (n_placed map_g_to_n refl) a refl (g_to_n_answered x strict q a h))

  n_to_g_said : (q : Interval NAsked) → Sayable map_n_to_g (laid g_laid (checked x (ask_n_to_g strict q)))
  unfolding refusals_of
  n_to_g_said q = said map_n_to_g g_laid _ refl (in_row strict n_to_g_refusals _ (n_to_g_refuses x strict q)) (λ a h. across map_n_to_g g_laid g_fits (g_placed map_n_to_g) a refl (n_to_g_answered x strict q a h))

  n_to_c_said : (q : Interval NAsked) → Sayable map_n_to_c (laid c_laid (checked x (ask_n_to_c strict q)))
  unfolding refusals_of
  n_to_c_said q = said map_n_to_c c_laid _ refl (in_row strict n_to_c_refusals _ (n_to_c_refuses x strict q)) (λ a h. plainly map_n_to_c c_laid c_fits (c_placed map_n_to_c refl refl) a refl (n_to_c_answered x strict q a h))

  c_to_n_said : (q : Interval CAsked) → Sayable map_c_to_n (laid n_laid (checked x (ask_c_to_n strict q)))
  unfolding refusals_of
  c_to_n_said q = said map_c_to_n n_laid _ refl (in_row strict c_to_n_refusals _ (c_to_n_refuses x strict q)) (λ a h. plainly map_c_to_n n_laid n_fits (n_placed map_c_to_n refl) a refl (c_to_n_answered x strict q a h))

  g_to_c_said : (q : Interval GAsked) → Sayable map_g_to_c (laid c_laid (checked x (ask_g_to_c strict q)))
  unfolding refusals_of
  g_to_c_said q = said map_g_to_c c_laid _ refl (in_row strict g_to_c_refusals _ (g_to_c_refuses x strict q)) (λ a h. across map_g_to_c c_laid c_fits (c_placed map_g_to_c refl refl) a refl (g_to_c_answered x strict q a h))

  c_to_g_said : (q : Interval CAsked) → Sayable map_c_to_g (laid g_laid (checked x (ask_c_to_g strict q)))
  unfolding refusals_of
  c_to_g_said q = said map_c_to_g g_laid _ refl (in_row strict c_to_g_refusals _ (c_to_g_refuses x strict q)) (λ a h. across map_c_to_g g_laid g_fits (g_placed map_c_to_g) a refl (c_to_g_answered x strict q a h))

-- ---- the mapping that a question names

pub known_kind : (q : Question) → holdable q ≡ true → leb q.kind map_c_to_g ≡ true
unfolding holdable
known_kind q h =
    let start = end_holdable q.kind q.start_marks q.start q.start_offset in
    (both (leb q.kind map_c_to_g) (leb q.strict 1) (both (leb q.kind map_c_to_g && leb q.strict 1) start (both (leb q.kind map_c_to_g && leb q.strict 1 && start) _ h).0).0).0

-- what may be said to a question of one kind may be said to one of a kind that is the same
of_the_kind : (kind k : ℕ) (a : Answer) → eqb kind k ≡ true → Sayable k a → Sayable kind a
of_the_kind kind k a e h = rw (eqb-true kind k e) h

module _ (x : Lent) where
  pub asked_is : (q : Question) → holdable q ≡ true → asked x q ≡ named x q
  unfolding asked
  asked_is q h = rw h

  named_said : (q : Question) → holdable q ≡ true → Sayable q.kind (named x q)
  unfolding named
  named_said q h =
      let kind = q.kind in
      let strict = is_strict q in
      by_test (eqb kind map_g_to_n)
      (λ a. rw a (of_the_kind kind map_g_to_n _ a (g_to_n_said x strict (g_of q))))
      (λ a.
      by_test (eqb kind map_n_to_g)
      (λ b. rw (a, b) (of_the_kind kind map_n_to_g _ b (n_to_g_said x strict (n_of q))))
      (λ b.
      by_test (eqb kind map_n_to_c)
      (λ c. rw (a, b, c) (of_the_kind kind map_n_to_c _ c (n_to_c_said x strict (n_of q))))
      (λ c.
      by_test (eqb kind map_c_to_n)
      (λ d. rw (a, b, c, d) (of_the_kind kind map_c_to_n _ d (c_to_n_said x strict (c_of q))))
      (λ d.
      by_test (eqb kind map_g_to_c)
      (λ e. rw (a, b, c, d, e) (of_the_kind kind map_g_to_c _ e (g_to_c_said x strict (g_of q))))
      (λ e.
      let last : kind ≡ map_c_to_g = omega (arith, leb-true kind map_c_to_g (known_kind q h), eqb-false kind map_g_to_n a, eqb-false kind map_n_to_g b, eqb-false kind map_n_to_c c, eqb-false kind map_c_to_n d, eqb-false kind map_g_to_c e) in
      rw (a, b, c, d, e) (of_the_kind kind map_c_to_g _ (eq-eqb kind map_c_to_g last) (c_to_g_said x strict (c_of q))))))))

  pub named_sayable : (q : Question) → holdable q ≡ true → sayable q.kind (named x q) ≡ true
  named_sayable q h = (named_said q h).may

  pub recorded_canonical : (q : Question) → holdable q ≡ true → canonical (recorded x q) ≡ true
  unfolding canonical
  recorded_canonical q h = both_of h (rw (asked_is q h) (named_sayable q h))

  pub recorded_fits : (q : Question) → QuestionFits q → holdable q ≡ true → EntryFits (recorded x q)
  recorded_fits q f h = record { question_fits = f; answer_fits = rw (asked_is q h) (named_said q h).fits }
