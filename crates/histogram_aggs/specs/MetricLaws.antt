-- What metrics in memory tell is what is answered of samples.
use Rattle.std.specs.Prelude.{◌≡◌, ℕ, ℤ, Bool, true, false, List, Option, Some, None, if◌then◌else◌}
use Rattle.std.proofs.Common.{refl, ap, ◌∙◌, sym}
use Rattle.fold_law.specs.declared.measures.Gauge.{Gauge as GaugeFold}
use Rattle.row_cells.specs.declared.schemas.FieldType.{FieldType}
use Rattle.row_cells.specs.declared.schemas.FieldType.TheVariants.{Date, Keyword, Long, Integer, Short, Byte, Boolean, Aggregate}
use Rattle.row_cells.specs.declared.schemas.Role.{Role}
use Rattle.row_cells.specs.declared.schemas.Role.TheVariants.{Time, Dimension, Gauge as GaugeRole, Counter, Label}
use Rattle.histogram_aggs.specs.declared.aggs.AggKind.{AggKind}
use Rattle.histogram_aggs.specs.declared.aggs.AggKind.TheVariants.{Min, Max, Sum, ValueCount, Increase, Terms, DateHistogram}
use Rattle.histogram_aggs.specs.Answers.{Placed, Results, answer_of, metric_tree, type_shown}
use Rattle.histogram_aggs.specs.Metrics.{gauge_all, gauge_metric, metric_by}
use Rattle.histogram_aggs.specs.Samples.{Sample}
use Rattle.histogram_aggs.specs.Tallies.{is_measure, is_date, is_dated, tally_over, told}

pub told_is : (kind : AggKind) (role : Role) (place : ℕ) (xs : List Sample) → is_measure kind ≡ true → told kind (tally_over kind role place xs) ≡ metric_by kind role place xs
told_is Min Time place xs is = refl
told_is Min Dimension place xs is = refl
told_is Min GaugeRole place xs is = refl
told_is Min Counter place xs is = refl
told_is Min Label place xs is = refl
told_is Max Time place xs is = refl
told_is Max Dimension place xs is = refl
told_is Max GaugeRole place xs is = refl
told_is Max Counter place xs is = refl
told_is Max Label place xs is = refl
told_is Sum Time place xs is = refl
told_is Sum Dimension place xs is = refl
told_is Sum GaugeRole place xs is = refl
told_is Sum Counter place xs is = refl
told_is Sum Label place xs is = refl
told_is ValueCount Time place xs is = refl
told_is ValueCount Dimension place xs is = refl
told_is ValueCount GaugeRole place xs is = refl
told_is ValueCount Counter place xs is = refl
told_is ValueCount Label place xs is = refl
told_is Increase role place xs is = cc
told_is (Terms size by_key) role place xs is = cc
told_is (DateHistogram interval least) role place xs is = cc

-- a value without the text of a date
plain_tree : (kind : AggKind) (type : FieldType) (v : Option ℤ) → is_date type ≡ false → metric_tree None v ≡ metric_tree (type_shown kind type) v
plain_tree kind type None is = none_shown (type_shown kind type)
  where
    none_shown : (shown : Option FieldType) → metric_tree None None ≡ metric_tree shown None
    none_shown None = refl
    none_shown (Some t) = refl
plain_tree Min Date (Some v) is = cc
plain_tree Min Keyword (Some v) is = refl
plain_tree Min Long (Some v) is = refl
plain_tree Min Integer (Some v) is = refl
plain_tree Min Short (Some v) is = refl
plain_tree Min Byte (Some v) is = refl
plain_tree Min Boolean (Some v) is = refl
plain_tree Min Aggregate (Some v) is = refl
plain_tree Max Date (Some v) is = cc
plain_tree Max Keyword (Some v) is = refl
plain_tree Max Long (Some v) is = refl
plain_tree Max Integer (Some v) is = refl
plain_tree Max Short (Some v) is = refl
plain_tree Max Byte (Some v) is = refl
plain_tree Max Boolean (Some v) is = refl
plain_tree Max Aggregate (Some v) is = refl
plain_tree Sum type (Some v) is = refl
plain_tree ValueCount type (Some v) is = refl
plain_tree Increase type (Some v) is = refl
plain_tree (Terms size by_key) type (Some v) is = refl
plain_tree (DateHistogram interval least) type (Some v) is = refl

date_tree : (kind : AggKind) (type : FieldType) (v : Option ℤ) → is_dated kind type ≡ true → metric_tree (Some Date) v ≡ metric_tree (type_shown kind type) v
date_tree Min Date v is = refl
date_tree Max Date v is = refl
date_tree Min Keyword v is = cc
date_tree Min Long v is = cc
date_tree Min Integer v is = cc
date_tree Min Short v is = cc
date_tree Min Byte v is = cc
date_tree Min Boolean v is = cc
date_tree Min Aggregate v is = cc
date_tree Max Keyword v is = cc
date_tree Max Long v is = cc
date_tree Max Integer v is = cc
date_tree Max Short v is = cc
date_tree Max Byte v is = cc
date_tree Max Boolean v is = cc
date_tree Max Aggregate v is = cc
date_tree Sum type v is = cc
date_tree ValueCount type v is = cc
date_tree Increase type v is = cc
date_tree (Terms size by_key) type v is = cc
date_tree (DateHistogram interval least) type v is = cc

undated_tree : (kind : AggKind) (type : FieldType) (v : Option ℤ) → is_dated kind type ≡ false → metric_tree None v ≡ metric_tree (type_shown kind type) v
undated_tree Min type v is = plain_tree Min type v is
undated_tree Max type v is = plain_tree Max type v is
undated_tree Sum type None is = refl
undated_tree Sum type (Some v) is = refl
undated_tree ValueCount type None is = refl
undated_tree ValueCount type (Some v) is = refl
undated_tree Increase type None is = refl
undated_tree Increase type (Some v) is = refl
undated_tree (Terms size by_key) type None is = refl
undated_tree (Terms size by_key) type (Some v) is = refl
undated_tree (DateHistogram interval least) type None is = refl
undated_tree (DateHistogram interval least) type (Some v) is = refl

-- with the text of a date or without
pub tree_by_date : (kind : AggKind) (type : FieldType) (v : Option ℤ) → metric_tree (type_shown kind type) v ≡ (if is_dated kind type then metric_tree (Some Date) v else metric_tree None v)
tree_by_date kind type v = by_test (is_dated kind type) refl
  where
    by_test : (b : Bool) → is_dated kind type ≡ b → metric_tree (type_shown kind type) v ≡ (if b then metric_tree (Some Date) v else metric_tree None v)
    by_test true is = sym (date_tree kind type v is)
    by_test false is = sym (undated_tree kind type v is)

-- of a gauge, whatever the samples are that have it
pub metric_of_gauge : (kind : AggKind) (gauge : GaugeFold) (below : List Sample → Results) (f : Placed) (xs : List Sample) → is_measure kind ≡ true → is_date f.field.kind ≡ false → f.field.role ≡ GaugeRole → gauge_all f.place xs ≡ gauge →
    metric_tree None (gauge_metric kind gauge.0) ≡ (answer_of below kind (Some f) xs).tree
metric_of_gauge kind gauge below f xs is plain role same =
    ap (λ g. metric_tree None (gauge_metric kind g.0)) (sym same) ∙ (plain_tree kind f.field.kind (gauge_metric kind (gauge_all f.place xs).0) plain
    ∙ (ap (metric_tree (type_shown kind f.field.kind)) (told_is kind GaugeRole f.place xs is ∙ ap (λ r. metric_by kind r f.place xs) (sym role)) ∙ by_kind kind is))
  where
    by_kind : (k : AggKind) → is_measure k ≡ true → metric_tree (type_shown k f.field.kind) (metric_by k f.field.role f.place xs) ≡ (answer_of below k (Some f) xs).tree
    by_kind Min measured = refl
    by_kind Max measured = refl
    by_kind Sum measured = refl
    by_kind ValueCount measured = refl
    by_kind Increase measured = cc
    by_kind (Terms size by_key) measured = cc
    by_kind (DateHistogram interval least) measured = cc
