-- What a loop over cards has listed: the cards up to a place, and what they left.
--     begun       before the first card
--     one_more    after a whole card
--     no_size     no whole card is left: there is no size
--     past_end    no whole card is left: the size leads past the end
--     some        what was listed are some cards, the first ones
-- Assumes nothing.
use Rattle.std.proofs.Common.{◌≡◌, ℕ, zero, suc, ◌+◌, ◌-◌, ◌≤◌, ◌<◌, true, false, List, [], ◌∷◌, ◌++◌, length, take, drop, refl, sym, ap, ◌∙◌, arith, length-drop, length-append, drop-drop, append_assoc, append-nil, le-ltb, lt-ltb}
use Rattle.std.proofs.Math.Seq.{take-append_seam}
use Rattle.fields.specs.Fields.{le32}
use Rattle.cigar.specs.Lent.{at_front}
use Rattle.segments.specs.Tables.{Tables}
use Rattle.building.specs.Afterwards.{tables_after, exons_after}
use Rattle.card.specs.Writing.{judge_card}
use Rattle.lines.specs.Listing.{judgment_text}
use Rattle.listings.specs.Cards.{is_cut, cards_from, cards_in, tables_all, exons_all, text_all, LeavesAfterSome}

pub record Listed (cards : List ℕ) (at : ℕ) (t : Tables) (exons text : List ℕ) (t₀ : Tables) (exons₀ text₀ : List ℕ) : Type 0 where
  pub within : at ≤ length cards
  pub rows : ℕ
  pub enough : length cards - at ≤ rows
  pub done : List (List ℕ)
  pub order : done ++ cards_from rows (drop at cards) ≡ cards_in cards
  pub tables_are : t ≡ tables_all done t₀
  pub exons_are : exons ≡ exons_all done exons₀
  pub text_is : text ≡ text_all done text₀

pub begun : (cards : List ℕ) (t : Tables) (exons text : List ℕ) → Listed cards 0 t exons text t exons text
unfolding tables_all exons_all text_all
begun cards t exons text = record { within = omega arith; rows = length cards; enough = omega arith; done = []; order = refl; tables_are = refl; exons_are = refl; text_is = refl }

-- one card behind others
tables_more : (done : List (List ℕ)) (card : List ℕ) (t : Tables) → tables_all (done ++ card ∷ []) t ≡ tables_after (judge_card card) (tables_all done t)
unfolding tables_all
tables_more [] card t = refl
tables_more (c ∷ done) card t = tables_more done card (tables_after (judge_card c) t)

exons_more : (done : List (List ℕ)) (card exons : List ℕ) → exons_all (done ++ card ∷ []) exons ≡ exons_after (judge_card card) (exons_all done exons)
unfolding exons_all
exons_more [] card exons = refl
exons_more (c ∷ done) card exons = exons_more done card (exons_after (judge_card c) exons)

text_more : (done : List (List ℕ)) (card text : List ℕ) → text_all (done ++ card ∷ []) text ≡ at_front (judgment_text (judge_card card)) (text_all done text)
unfolding text_all
text_more [] card text = refl
text_more (c ∷ done) card text = text_more done card (at_front (judgment_text (judge_card c)) text)

-- a size is read where it lies
size_there : (s : List ℕ) (at : ℕ) → le32 (drop at s) 0 ≡ le32 s at
unfolding le32
size_there s at = refl

-- a whole card
module _ (cards : List ℕ) (at size : ℕ) (is : size ≡ le32 cards at) (whole : 4 ≤ length cards - at) where
  uncut : size ≤ length cards - (at + 4) → is_cut (drop at cards) ≡ false
  unfolding is_cut
  uncut fits = rw (size_there cards at, ← is, length-drop at cards, le-ltb (length cards - at) 4 whole) (le-ltb (length cards - at - 4) size (omega arith))

  past : length cards - (at + 4) < size → is_cut (drop at cards) ≡ true
  unfolding is_cut
  past h = rw (size_there cards at, ← is, length-drop at cards, le-ltb (length cards - at) 4 whole) (lt-ltb (length cards - at - 4) size (omega arith))

  next : size ≤ length cards - (at + 4) → (k : ℕ) → cards_from (suc k) (drop at cards) ≡ take size (drop (at + 4) cards) ∷ cards_from k (drop (at + 4 + size) cards)
  unfolding cards_from
  next fits k =
      let places : at + (4 + size) ≡ at + 4 + size = omega arith in
      rw (uncut fits, size_there cards at, ← is, drop-drop 4 at cards, drop-drop (4 + size) at cards, places)

module _ {cards : List ℕ} {at : ℕ} {t : Tables} {exons text : List ℕ} {t₀ : Tables} {exons₀ text₀ : List ℕ} (l : Listed cards at t exons text t₀ exons₀ text₀) where
  -- the cards that were listed are all
  pub record Ended : Type 0 where
    pub tables_are : t ≡ tables_all (cards_in cards) t₀
    pub exons_are : exons ≡ exons_all (cards_in cards) exons₀
    pub text_is : text ≡ text_all (cards_in cards) text₀

  pub some : LeavesAfterSome (cards_in cards) t₀ exons₀ text₀ t exons text
  some =
      let all = l.order in
      let front : take (length l.done) (cards_in cards) ≡ l.done = ap (take (length l.done)) (sym all) ∙ take-append_seam l.done (cards_from l.rows (drop at cards)) in (
        length l.done,
        omega (arith, ap length all, length-append l.done (cards_from l.rows (drop at cards))),
        l.tables_are ∙ ap (λ cs. tables_all cs t₀) (sym front),
        l.exons_are ∙ ap (λ cs. exons_all cs exons₀) (sym front),
        l.text_is ∙ ap (λ cs. text_all cs text₀) (sym front),
      )

  pub one_more : (size : ℕ) → size ≡ le32 cards at → 4 ≤ length cards - at → size ≤ length cards - (at + 4)
      → (card : List ℕ) → card ≡ take size (drop (at + 4) cards)
      → {t' : Tables} {exons' text' : List ℕ} → t' ≡ tables_after (judge_card card) t → exons' ≡ exons_after (judge_card card) exons → text' ≡ at_front (judgment_text (judge_card card)) text
      → Listed cards (at + 4 + size) t' exons' text' t₀ exons₀ text₀
  one_more size is whole fits card card_is {t'} {exons'} {text'} t_is e_is x_is = go l.rows l.enough l.order
    where
      go : (k : ℕ) → length cards - at ≤ k → l.done ++ cards_from k (drop at cards) ≡ cards_in cards → Listed cards (at + 4 + size) t' exons' text' t₀ exons₀ text₀
      go zero enough order = absurd (omega arith)
      go (suc k) enough order = record {
        within = omega arith;
        rows = k;
        enough = omega arith;
        done = l.done ++ card ∷ [];
        order =
            append_assoc l.done (card ∷ []) (cards_from k (drop (at + 4 + size) cards))
            ∙ ap (λ c. l.done ++ (c ∷ cards_from k (drop (at + 4 + size) cards))) card_is
            ∙ ap (λ cs. l.done ++ cs) (sym (next cards at size is whole fits k))
            ∙ order;
        tables_are = t_is ∙ ap (tables_after (judge_card card)) l.tables_are ∙ sym (tables_more l.done card t₀);
        exons_are = e_is ∙ ap (exons_after (judge_card card)) l.exons_are ∙ sym (exons_more l.done card exons₀);
        text_is = x_is ∙ ap (at_front (judgment_text (judge_card card))) l.text_is ∙ sym (text_more l.done card text₀);
      }

  -- no card is left
  none : is_cut (drop at cards) ≡ true → (k : ℕ) → cards_from k (drop at cards) ≡ []
  unfolding cards_from
  none e zero = refl
  none e (suc k) = rw e

  ended : is_cut (drop at cards) ≡ true → Ended
  ended e =
      let all : l.done ≡ cards_in cards = sym (append-nil l.done) ∙ ap (λ cs. l.done ++ cs) (sym (none e l.rows)) ∙ l.order in
      record {
        tables_are = l.tables_are ∙ ap (λ cs. tables_all cs t₀) all;
        exons_are = l.exons_are ∙ ap (λ cs. exons_all cs exons₀) all;
        text_is = l.text_is ∙ ap (λ cs. text_all cs text₀) all;
      }

  -- there is no size, or it leads past the end
  pub no_size : length cards - at < 4 → Ended
  unfolding is_cut
  no_size h = ended (rw (length-drop at cards, lt-ltb (length cards - at) 4 h))

  pub past_end : (size : ℕ) → size ≡ le32 cards at → 4 ≤ length cards - at → length cards - (at + 4) < size → Ended
  past_end size is whole h = ended (past cards at size is whole h)
