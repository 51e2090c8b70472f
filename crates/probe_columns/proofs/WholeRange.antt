-- The range of all rows of a column.
use Rattle.std.specs.Prelude.{◌≡◌, ◌-◌, ℕ, List, length, take, slice_range}
use Rattle.std.proofs.Common.{ap, ◌∙◌, arith, take_all}
use Rattle.column_block.specs.Ranges.{rows_between}
use Rattle.column_block.specs.Rules.{rows_of}
use Rattle.column_block.specs.declared.kinds.Values.{Values}
use Rattle.column_block.specs.declared.kinds.Values.TheVariants.{Whole, Parts as PartsOf, Wholes, Words}

all : {A : Type 0} (xs : List A) (n : ℕ) → length xs ≡ n → slice_range xs 0 n ≡ xs
all xs n e = let z : n - 0 ≡ length xs = omega arith in ap (λ k. take k xs) z ∙ take_all (length xs) xs (omega arith)

pub all-rows : (values : Values) (n : ℕ) → rows_of values ≡ n → rows_between 0 n values ≡ values
all-rows (Whole vs) n e = ap Whole (all vs n e)
all-rows (PartsOf ps) n e = ap PartsOf (all ps n e)
all-rows (Wholes lists) n e = ap Wholes (all lists n e)
all-rows (Words lists) n e = ap Words (all lists n e)
