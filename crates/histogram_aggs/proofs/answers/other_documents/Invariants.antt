use Rattle.std.proofs.Common.{◌≡◌, pos, ◌+ℤ◌, sum_by, drop}
use Rattle.histogram_aggs.specs.declared.state.Bucket.{out-Bucket}
use Rattle.histogram_aggs.proofs.answers.other_documents.Given as goal

-- what was added, and what is left
abbrev pub invariant-loop-at : goal.invariant-loop-at
invariant-loop-at l = l.sum +ℤ pos (sum_by (λ e. (out-Bucket e.1).documents) (drop l.at l.cut)) ≡ pos (sum_by (λ e. (out-Bucket e.1).documents) l.cut)
