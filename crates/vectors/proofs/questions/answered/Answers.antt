-- The tests on the way to each question are those of the definition.
use Rattle.std.proofs.Common.{ap, ◌∙◌, le-ltb, lt-ltb}
use Rattle.vectors.specs.Questions.{question_words}
use Rattle.comparing.specs.Words.{answer_words, said_words}
use Rattle.vectors.proofs.questions.answered.Goals as goal

pub returns-then-call-lt-N_TO_G : goal.returns-then-call-lt-N_TO_G
unfolding question_words
returns-then-call-lt-N_TO_G c =
    rw (← c.call-call.ensures, lt-ltb _ _ c.if-call-lt-N_TO_G.true) (c.of_answer.ensures ∙ ap answer_words c.from_g.ensures)

pub returns-then-call-lt-C_TO_N : goal.returns-then-call-lt-C_TO_N
unfolding question_words
returns-then-call-lt-C_TO_N c =
    rw (← c.call-call.ensures, le-ltb _ _ c.if-call-lt-N_TO_G.false, lt-ltb _ _ c.if-call-lt-C_TO_N.true) (c.of_answer-then-call-lt-C_TO_N.ensures ∙ ap answer_words c.from_n.ensures)

pub returns-then-call-lt-IN_BOUNDS : goal.returns-then-call-lt-IN_BOUNDS
unfolding question_words
returns-then-call-lt-IN_BOUNDS c =
    rw (← c.call-call.ensures, le-ltb _ _ c.if-call-lt-N_TO_G.false, le-ltb _ _ c.if-call-lt-C_TO_N.false, lt-ltb _ _ c.if-call-lt-IN_BOUNDS.true) (c.of_answer-then-call-lt-IN_BOUNDS.ensures ∙ ap answer_words c.from_c.ensures)

pub returns : goal.returns
unfolding question_words
returns c =
    rw (← c.call-call.ensures, le-ltb _ _ c.if-call-lt-N_TO_G.false, le-ltb _ _ c.if-call-lt-C_TO_N.false, le-ltb _ _ c.if-call-lt-IN_BOUNDS.false) (c.of_said.ensures ∙ ap said_words c.said.ensures)
