-- The order of values tells them apart.
use Rattle.std.specs.Prelude.{◌≡◌, ℕ, ℤ, List, true, false}
use Rattle.std.specs.Cmp.{IsTotalOrder, nat_cmp_total, int_cmp_total, on_total, then_total}
use Rattle.std.specs.Cmp.Lexicographic.{slice_cmp, nat_list_cmp_total}
use Rattle.std.specs.Ordering.{is_eq, nat_cmp, int_cmp, ordering_then}
use Rattle.std.specs.declared.cmp.Ordering.{Ordering}
use Rattle.std.specs.declared.cmp.Ordering.TheVariants.{Less, Equal, Greater}
use Rattle.std.proofs.Common.{refl, ap, ◌∙◌, sym}
use Rattle.std.proofs.lemmas.Cmp.{int_ranked}
use Rattle.std.proofs.lemmas.Map.Text.{is_eq-slice_cmp}
use Rattle.std.proofs.lemmas.Slice.Eq.{bytes_eq-Decides}
use Rattle.row_cells.specs.declared.scalars.Scalar.{Scalar}
use Rattle.row_cells.specs.declared.scalars.Scalar.TheVariants.{Whole, Flag, Word}
use Rattle.row_cells.specs.SortedLaws.{Ascend}
use Rattle.search_filter.specs.Values.{number_of, word_of, rank_of, value_cmp}

pub value_cmp_total : IsTotalOrder value_cmp
value_cmp_total = then_total (on_total rank_of nat_cmp_total) (then_total (on_total number_of int_cmp_total) (on_total word_of nat_list_cmp_total))

-- values that ascend
abbrev pub AreInOrder : List Scalar → Type 0
AreInOrder = Ascend value_cmp value_cmp_total

pub whole_tied : (x y : ℤ) → int_cmp x y ≡ Equal → x ≡ y
whole_tied x y is = int_ranked x y Equal (sym is)

pub word_tied : (x y : List ℕ) → slice_cmp nat_cmp x y ≡ Equal → x ≡ y
word_tied x y is = (bytes_eq-Decides x y).0 (sym (is_eq-slice_cmp x y) ∙ ap is_eq is)

first_tied : (a b : Ordering) → ordering_then a b ≡ Equal → a ≡ Equal
first_tied Less b is = is
first_tied Equal b is = refl
first_tied Greater b is = is

pub value_tied : (x y : Scalar) → value_cmp x y ≡ Equal → x ≡ y
value_tied (Whole a) (Whole b) is = ap Whole (whole_tied a b (first_tied (int_cmp a b) Equal is))
value_tied (Flag true) (Flag true) is = refl
value_tied (Flag true) (Flag false) is = cc
value_tied (Flag false) (Flag true) is = cc
value_tied (Flag false) (Flag false) is = refl
value_tied (Word a) (Word b) is = ap Word (word_tied a b is)
value_tied (Whole a) (Flag b) is = cc
value_tied (Whole a) (Word b) is = cc
value_tied (Flag a) (Whole b) is = cc
value_tied (Flag a) (Word b) is = cc
value_tied (Word a) (Whole b) is = cc
value_tied (Word a) (Flag b) is = cc
