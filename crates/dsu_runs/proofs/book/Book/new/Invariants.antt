use Rattle.std.proofs.Common.{◌≡◌, ◌≤◌, length}
use Rattle.std.specs.Prelude.{replicate, vec_capacity}
use Rattle.source_model.specs.declared.answer.OfferAnswer.TheVariants.{NotOffered}
use Rattle.dsu_runs.proofs.book.Book.new.Given as goal

abbrev pub invariant-loop-offer : goal.invariant-loop-offer
invariant-loop-offer l = record {
  answers : l.answers.items ≡ replicate l._offer NotOffered;
  room : length l.lines.items ≤ vec_capacity l.answers;
}
